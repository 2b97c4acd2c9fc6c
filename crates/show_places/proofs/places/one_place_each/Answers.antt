use Rattle.std.proofs.Common.{length, ◌∷◌, [], false}
use Rattle.binary_instructions.specs.Reading.{expression_at, each_kept_at}
use Rattle.show_places.specs.Places.{places_in}
use Rattle.show_places.proofs.Alike.{alike}
use Rattle.show_places.proofs.places.one_place_each.Goals as goal

pub returns : goal.returns
unfolding expression_at places_in each_kept_at
returns c s bytes rest code h = alike (length bytes) (false ∷ []) s bytes code rest h
