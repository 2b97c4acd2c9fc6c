use Rattle.std.proofs.Common.{refl, sym, subst}
use Rattle.types.specs.declared.parts.Parts.{Parts}
use Rattle.interp.specs.Starts.{StandsAt, start_of}
use Rattle.interp.proofs.thread.Thread.of_function.Goals as goal

pub returns-clause-runs_by : goal.returns-clause-runs_by
returns-clause-runs_by c = record { parts = c.parts.ensures.parts; tables = c.in_ok-start.ensures.tables }

pub returns-clause-stands : goal.returns-clause-stands
returns-clause-stands c = λ t body f. (
  refl,
  (
    refl,
    subst (λ (y : Parts). StandsAt y c.in_ok-start.field-0 (start_of c.args.valid.now.parts t body c.args.args.now)) (sym c.parts.ensures.parts)
        (c.in_ok-start.ensures.stands t body f),
  ),
)

pub returns-clause-room : goal.returns-clause-room
returns-clause-room c = c.in_ok-start.ensures.room
