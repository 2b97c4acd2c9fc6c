use Rattle.validate_bodies.proofs.Reading.{same_reached, never_both}
use Rattle.validate_bodies.proofs.laws.operands_have_one_type_each.Goals as goal

pub returns-clause-types : goal.returns-clause-types
returns-clause-types _ c code place ts us a b = same_reached c code place ts us a b

pub returns-clause-cut_off : goal.returns-clause-cut_off
returns-clause-cut_off _ c code place ts a b = never_both c code place ts a b
