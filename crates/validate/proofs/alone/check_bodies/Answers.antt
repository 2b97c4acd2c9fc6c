use Rattle.std.proofs.Common.{◌≡◌, ℕ, length, subst, arith}
use Rattle.validate.specs.Tables.{AreTables}
use Rattle.validate.proofs.TableLaws.{tables_more, refused_first, valid_bodies}
use Rattle.validate_instructions.proofs.Moves.{at_exit}
use Rattle.validate.proofs.alone.check_bodies.Goals as goal

pub loop-own-preserved : goal.loop-own-preserved
loop-own-preserved c =
    let kept = c.loop-own.invariant in
    (_, tables_more c.args.parts.now c.loop-own.own kept.0 _ kept.1 c.in_ok-table_of.ensures)

pub returns-in_err-table_of : goal.returns-in_err-table_of
returns-in_err-table_of c =
    at_exit _ _ _ _ c.from_residual.ensures.1
    (refused_first c.args.parts.now c.loop-own.own c.loop-own.invariant.0 _ c.loop-own.invariant.1 c.in_err-table_of.ensures)

pub returns : goal.returns
returns c =
    let all : c.loop-own.own ≡ length c.args.parts.now.bodies = omega arith in
    let kept = c.loop-own.invariant in
    valid_bodies c.args.parts.now kept.0 c.requires.typed (subst (λ (n : ℕ). AreTables c.args.parts.now n kept.0) all kept.1)
