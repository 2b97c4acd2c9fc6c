use Rattle.std.proofs.Common.{refl}
use Rattle.std.proofs.lemmas.Option.{slice_get_read, slice_get_past}
use Rattle.validate_instructions.proofs.scope.item.Goals as goal

pub returns-in-Some : goal.returns-in-Some
returns-in-Some g c = let there = c.in-Some.ensures.lookup in slice_get_read c.args.items.now _ c.args.index c.in-Some.found.now refl there.3.0 there.1

pub returns-in-None : goal.returns-in-None
returns-in-None g c = (refl, slice_get_past c.args.items.now c.args.index c.in-None.ensures.lookup.3)
