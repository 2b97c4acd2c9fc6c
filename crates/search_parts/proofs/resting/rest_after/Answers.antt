use Rattle.std.proofs.Common.{◌≡◌, ◌≢◌, inl, inr, Some, None, sym, ◌∙◌, ap, subst}
use Rattle.types.specs.declared.event.Answer.{Answer}
use Rattle.shared_memory.specs.WaitQueue.{answer_due}
use Rattle.schedule.specs.System.{Want.Awaits, put}
use Rattle.schedule.specs.Scheduled.{hears_any, or_started}
use Rattle.schedule_threads.specs.Shared.{queue_by}
use Rattle.search_threads.specs.Budgets.{started_without}
use Rattle.search_settled.specs.Settled.{MakesTurns}
use Rattle.interp_trait.specs.Turns.{spawned_in}
use Rattle.search_threads.specs.Unlimited.{Unlimited.Going}
use Rattle.search_parts.specs.Walkers.{RestsAt, patience}
use Rattle.search_runs.specs.Called.{Walker, system_of, reply_by, answer_by, begun_at}
use Rattle.search_parts.specs.Sharing.{begun_in}
use Rattle.search_parts.specs.declared.event.Begun.{Begun}
use Rattle.search_parts.proofs.Events.{awaits, is_started, no_other}
use Rattle.search_parts.proofs.AtRest.{joined, joined_turns, never_told, stays, rested_so}
use Rattle.search_parts.proofs.resting.rest_after.Goals.{in-Some+else-begun-m, in_default}
use Rattle.search_parts.proofs.resting.rest_after.Goals as goal

pub told-requires-clause-told : goal.told-requires-clause-told
told-requires-clause-told c =
    let r = c.requires.after in
    let b = r.0 in
    let z = r.1 in
    let e = r.2 in
    let after = r.3 in
    let n = c.args.event.now.n in
    let m = c.args.m in
    let v : Walker = put z.threads n ((system_of b).takes (z.threads n) (reply_by z.shared n e)) m in
    let own = rw c.in-Some-3.is at c.in_ok-own.ensures.rests in
    let at : RestsAt c.args.valid.now b v c.in-Some-3.own = own b z e after in (
      b,
      at.rested,
      after.of,
      rested_so c.args.valid.now b c.in-Some-3.own v at,
      λ a is.
          let due : answer_due (queue_by z.shared n e) m ≡ Some a = sym (after.makes.answers m) ∙ (sym c.due.ensures ∙ is) in
          let wants = awaits b z after.reached n e after.calls m a due in
          subst (λ (u : Walker). (system_of b).wants u ≡ Awaits) (stays b v at.rested at.settles wants) wants,
    )

pub returns-then-begun-m-clause-rests : goal.returns-then-begun-m-clause-rests
returns-then-begun-m-clause-rests c = λ b z e after.
    let n = c.args.event.now.n in
    let m = c.args.m in
    let w = c.args.valid.now in
    let g = c.in-Some.begun in
    let v : Walker = put z.threads n ((system_of b).takes (z.threads n) (reply_by z.shared n e)) m in
    let by : begun_in z.shared.queue e ≡ Some g = sym after.makes.begun ∙ c.in-Some.is in
    let begins : begun_at b z.shared e m ≡ Some (spawned_in b.worker g.id g.arg) =
    subst (λ k. begun_at b z.shared e k ≡ Some (spawned_in b.worker g.id g.arg)) c.if-begun-m.true (is_started b z.shared e g by) in
    let rested = rw c.in-Some-2.is at c.in_ok-first.ensures.rests in
    subst (λ o. RestsAt w b (or_started (started_without o) (hears_any (system_of b) v (answer_by z.shared n e m))) c.in-Some-2.first) (sym begins)
    (rested b after.of after.workers)

pub returns-clause-rests : goal.returns-clause-rests
returns-clause-rests c = λ b z e after.
    let n = c.args.event.now.n in
    let m = c.args.m in
    let w = c.args.valid.now in
    let v : Walker = put z.threads n ((system_of b).takes (z.threads n) (reply_by z.shared n e)) m in
    let own = rw c.in-Some-3.is at c.in_ok-own.ensures.rests in
    let at : RestsAt w b v c.in-Some-3.own = own b z e after in
    let due_same : c.due.result ≡ answer_due (queue_by z.shared n e) m = c.due.ensures ∙ after.makes.answers m in
    let wants : (a : Answer) → c.due.result ≡ Some a → (system_of b).wants v ≡ Awaits =
    λ a is. awaits b z after.reached n e after.calls m a (sym due_same ∙ is) in
    let told = rw c.in-Some-4.is at c.in_ok-after.ensures.rests in
    let here = told b at.rested after.of (rested_so w b c.in-Some-3.own v at)
    (λ a is. subst (λ (u : Walker). (system_of b).wants u ≡ Awaits) (stays b v at.rested at.settles (wants a is)) (wants a is)) in
    let others : (g : Begun) → begun_in z.shared.queue e ≡ Some g → g.id ≢ m =
    λ g is. elim c.match-made.branch [
      | in-Some+else-begun-m k ↦ (let x = k.in-Some.is in let y = after.makes.begun in let f = k.if-begun-m.false in
          let same : k.in-Some.begun ≡ g = cc (x, y, is) in
          λ here. f (ap (λ (h : Begun). h.id) same ∙ here))
      | in_default k ↦ (let x = k.in_default.is in let y = after.makes.begun in absurd (cc (x, y, is)))
    ] in
    let none : begun_at b z.shared e m ≡ None = no_other b z.shared e m others in
    subst (λ o. RestsAt w b (or_started (started_without o) (hears_any (system_of b) v (answer_by z.shared n e m))) c.in-Some-4.after) (sym none)
    (subst (λ o. RestsAt w b (hears_any (system_of b) v o) c.in-Some-4.after) due_same
    (joined w b v c.in-Some-3.own c.in-Some-4.after at c.due.result wants here))

pub returns-in_default-2-clause-gives_up : goal.returns-in_default-2-clause-gives_up
returns-in_default-2-clause-gives_up c _ = λ b z e after.
    let n = c.args.event.now.n in
    let m = c.args.m in
    let g = c.in-Some.begun in
    let v : Walker = put z.threads n ((system_of b).takes (z.threads n) (reply_by z.shared n e)) m in
    let by : begun_in z.shared.queue e ≡ Some g = sym after.makes.begun ∙ c.in-Some.is in
    let begins : begun_at b z.shared e m ≡ Some (spawned_in b.worker g.id g.arg) =
    subst (λ k. begun_at b z.shared e k ≡ Some (spawned_in b.worker g.id g.arg)) c.if-begun-m.true (is_started b z.shared e g by) in
    elim (c.in_ok-first.ensures.gives_up c.in_default-2.is b after.of after.workers) [
      | inl turns ↦ inl (subst (λ o. MakesTurns (system_of b) patience (or_started (started_without o) (hears_any (system_of b) v (answer_by z.shared n e m))))
          (sym begins) turns)
      | inr unknown ↦ inr (
        unknown,
        g.arg,
        ap (λ o. or_started (started_without o) (hears_any (system_of b) v (answer_by z.shared n e m))) begins
            ∙ ap (λ k. Going (spawned_in b.worker k g.arg)) c.if-begun-m.true,
      )
    ]

pub returns-in_default-3-clause-gives_up : goal.returns-in_default-3-clause-gives_up
returns-in_default-3-clause-gives_up c _ = λ b z e after.
    let n = c.args.event.now.n in
    let m = c.args.m in
    let v : Walker = put z.threads n ((system_of b).takes (z.threads n) (reply_by z.shared n e)) m in
    let turns : MakesTurns (system_of b) patience v = c.in_ok-own.ensures.gives_up c.in_default-3.is b z e after in
    let told = never_told b v (answer_by z.shared n e m) (λ a is. awaits b z after.reached n e after.calls m a is) turns in
    let others : (g : Begun) → begun_in z.shared.queue e ≡ Some g → g.id ≢ m =
    λ g is. elim c.match-made.branch [
      | in-Some+else-begun-m k ↦ (let x = k.in-Some.is in let y = after.makes.begun in let f = k.if-begun-m.false in
          let same : k.in-Some.begun ≡ g = cc (x, y, is) in
          λ here. f (ap (λ (h : Begun). h.id) same ∙ here))
      | in_default k ↦ (let x = k.in_default.is in let y = after.makes.begun in absurd (cc (x, y, is)))
    ] in
    let none : begun_at b z.shared e m ≡ None = no_other b z.shared e m others in
    inl (subst (λ o. MakesTurns (system_of b) patience (or_started (started_without o) (hears_any (system_of b) v (answer_by z.shared n e m)))) (sym none) told)

pub returns-in_default-4-clause-gives_up : goal.returns-in_default-4-clause-gives_up
returns-in_default-4-clause-gives_up c _ = λ b z e after.
    let n = c.args.event.now.n in
    let m = c.args.m in
    let w = c.args.valid.now in
    let v : Walker = put z.threads n ((system_of b).takes (z.threads n) (reply_by z.shared n e)) m in
    let own = rw c.in-Some-3.is at c.in_ok-own.ensures.rests in
    let at : RestsAt w b v c.in-Some-3.own = own b z e after in
    let due_same : c.due.result ≡ answer_due (queue_by z.shared n e) m = c.due.ensures ∙ after.makes.answers m in
    let wants : (a : Answer) → c.due.result ≡ Some a → (system_of b).wants v ≡ Awaits =
    λ a is. awaits b z after.reached n e after.calls m a (sym due_same ∙ is) in
    let turns = c.in_ok-after.ensures.gives_up c.in_default-4.is b at.rested after.of (rested_so w b c.in-Some-3.own v at)
    (λ a is. subst (λ (u : Walker). (system_of b).wants u ≡ Awaits) (stays b v at.rested at.settles (wants a is)) (wants a is)) in
    let told = subst (λ o. MakesTurns (system_of b) patience (hears_any (system_of b) v o)) due_same
    (joined_turns w b v c.in-Some-3.own at c.due.result wants turns) in
    let others : (g : Begun) → begun_in z.shared.queue e ≡ Some g → g.id ≢ m =
    λ g is. elim c.match-made.branch [
      | in-Some+else-begun-m k ↦ (let x = k.in-Some.is in let y = after.makes.begun in let f = k.if-begun-m.false in
          let same : k.in-Some.begun ≡ g = cc (x, y, is) in
          λ here. f (ap (λ (h : Begun). h.id) same ∙ here))
      | in_default k ↦ (let x = k.in_default.is in let y = after.makes.begun in absurd (cc (x, y, is)))
    ] in
    let none : begun_at b z.shared e m ≡ None = no_other b z.shared e m others in
    inl (subst (λ o. MakesTurns (system_of b) patience (or_started (started_without o) (hears_any (system_of b) v (answer_by z.shared n e m)))) (sym none) told)
