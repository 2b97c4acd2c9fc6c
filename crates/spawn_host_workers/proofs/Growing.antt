-- What a thread's run says of the lists that it saw.
use Rattle.std.proofs.Common.{ℕ, Bool, List, [], ◌∷◌, ◌++◌, Option, sym, ◌∙◌, ap, append_assoc}
use mathlib.Core.List.{IsPrefix}
use Rattle.types.specs.declared.event.Event.{Event}
use Rattle.types.specs.declared.event.Reply.{Reply}
use Rattle.types.specs.declared.event.Answer.{Answer}
use Rattle.types.specs.declared.event.Entry.{Entry}
use Rattle.shared_memory.specs.Memory.{Memory}
use Rattle.schedule.specs.System.{Step, Step.Own, Step.Lost, Step.Full, Step.Acts}
use Rattle.schedule_threads.specs.Seeing.{Sees, SeesAll, entered}
use Rattle.waiters_desk.proofs.Prefixes.{prefix_trans, prefix_same}

module _ (loses : Bool) (opening : Memory) (limit : Option ℕ) (n : ℕ) where
  step_grows : (x : Step Event Reply Answer) (before after : List Entry) → Sees loses opening limit n x before after → IsPrefix before after
  step_grows Own before after h = prefix_same before after (sym h)
  step_grows (Lost e) before after h = (h.others, sym h.list)
  step_grows (Full e) before after h = (h.others, sym h.list)
  step_grows (Acts act) before after h = (
    h.others ++ entered n act ∷ h.behind,
    sym (h.list
        ∙ (ap (λ w. w ++ entered n act ∷ h.behind) h.gains
        ∙ append_assoc before h.others (entered n act ∷ h.behind))),
  )

  -- the lists go on from step to step
  pub sees_grows : (r : List (Step Event Reply Answer)) (before last : List Entry) → SeesAll loses opening limit n before r last → IsPrefix before last
  sees_grows [] before last h = prefix_same before last h
  sees_grows (x ∷ r) before last h = prefix_trans before h.0 last (step_grows x before h.0 h.1) (sees_grows r h.0 last h.2)
