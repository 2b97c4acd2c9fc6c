use Rattle.search_endings.specs.Equal.{equal_ones, same_ones}
use Rattle.search_endings.proofs.ending.equal_endings_are_the_same.Goals as goal

pub returns : goal.returns
returns c = λ x y. (equal_ones x y, same_ones x y)
