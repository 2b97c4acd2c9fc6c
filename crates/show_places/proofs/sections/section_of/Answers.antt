use Rattle.std.proofs.Common.{◌≡◌, ℕ, List, sym, subst}
use Rattle.binary_wire.specs.Faults.{input}
use Rattle.show_places.specs.Sections.{HasNone}
use Rattle.show_places.proofs.Behind.{nothing}
use Rattle.show_places.proofs.sections.section_of.Goals as goal

pub returns-in_default : goal.returns-in_default
returns-in_default c =
    subst (λ (b : List ℕ). HasNone (λ x. x.0 ≡ c.args.id) (input c.args.bytes.now) b) (sym c.in_default.ensures.none) (nothing _ _)

pub returns : goal.returns
returns c = rw (c.in-Some.ensures.bounds, c.in-Some.ensures.rest) at c.find.ensures
