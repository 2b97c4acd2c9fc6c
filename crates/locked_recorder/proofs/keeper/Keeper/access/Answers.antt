use Rattle.std.proofs.Common.{◌≡◌, ◌<◌, ◌++◌, ◌∷◌, [], true, false, ℕ, length, List, sym, ap, ◌∙◌, subst, arith}
use Rattle.std.specs.Prelude.{Some, vec_capacity}
use Rattle.atomic_table.specs.Table.{Me}
use Rattle.types.specs.declared.event.Entry.{Entry}
use Rattle.shared_memory.specs.Events.{is_of_queue, is_exempt}
use Rattle.shared_memory.specs.Memory.{Memory}
use Rattle.shared_memory.specs.History.{entry}
use Rattle.shared_memory.specs.Legal.{MayEnter}
use Rattle.shared_memory.specs.Access.{Accesses, IsSeen}
use Rattle.shared_memory_on_table.specs.declared.view.Caller.{Caller}
use Rattle.shared_memory_on_table.specs.declared.view.View.{View}
use Rattle.shared_memory_on_table.specs.Callers.{GoesOn, seeing}
use Rattle.shared_memory_on_table.specs.Moves.{caller_in, keeper, alone}
use Rattle.locked_recorder.specs.Promises.{KeepsLog}
use Rattle.shared_memory_on_table.proofs.Moves.{is_one}
use Rattle.locked_recorder.proofs.Access.{Entered, enters_log, never_lost}
use Rattle.locked_recorder.proofs.keeper.Keeper.access.Given as given
use Rattle.locked_recorder.proofs.keeper.Keeper.access.Goals as goal
use Rattle.locked_recorder.proofs.keeper.Keeper.access.Goals.{After-record}
use Rattle.locked_recorder.proofs.keeper.Keeper.access.Goals.{else-not-is_always_taken-via-then-not-is_always_taken+else-len-self}
use Rattle.locked_recorder.proofs.keeper.Keeper.access.Goals.{else-not-is_always_taken-via-else-not-is_always_taken}

-- the entry goes behind the log
entered : (g : given.Over) (c : After-record g)
    → Entered g.B.Naming.opening c.self.inside.limit (vec_capacity c.self.inside.log) c.self.inside.memory
    (caller_in c.seat.inside.place.me.0) c.args.event c.step-reply.result c.self.inside.log.items
entered g c =
    let log : List Entry = c.self.inside.log.items in
    let who : Caller = caller_in c.seat.inside.place.me.0 in
    let inv = c.self.invariant in
    let at = ap (λ (m : Me ℕ View). m.0.log) inv.1 in
    let goes : GoesOn who log = subst (λ (l : List Entry). GoesOn who l) at c.record.ensures.goes_on in
    let below : is_exempt c.args.event ≡ false → length log < c.self.inside.limit =
    elim c.else-not-is_always_taken.branch [
      | else-not-is_always_taken-via-then-not-is_always_taken+else-len-self w ↦ λ h. omega arith
      | else-not-is_always_taken-via-else-not-is_always_taken w ↦ λ h. absurd (cc (w.if-not-is_always_taken.ensures))
    ] in
    let right : is_of_queue c.args.event ≡ true
    → who.has_queue_right ≡ true = λ h. subst (λ (x : Caller). x.has_queue_right ≡ true) (sym c.seat.view_is)
    (c.requires.right h) in
    let allowed : is_of_queue c.args.event ≡ true → MayEnter who.name c.args.event who.seen =
    λ h. subst (λ (x : Caller). MayEnter x.name c.args.event x.seen) (sym c.seat.view_is) (c.requires.allowed h) in
    let known = c.seat.invariant.2 in
    let small = c.seat.invariant.4 in
    enters_log g.B.Naming.opening c.self.inside.limit (vec_capacity c.self.inside.log) c.self.inside.memory who c.args.event
    c.step-reply.result log inv.3 goes (omega arith) c.requires.event right allowed below c.step-reply.ensures.reply

-- under the caller's name
made : (g : given.Over) (c : After-record g)
    → entry c.seat.inside.name c.args.event c.step-reply.result ≡ entry (caller_in c.seat.inside.place.me.0).name c.args.event c.step-reply.result
made g c = ap (λ (n : ℕ). entry n c.args.event c.step-reply.result) c.seat.invariant.2

-- and the caller has seen it
seen_by : (g : given.Over) (c : After-record g)
    → c.record.new.caller.me ≡ (
      alone (seeing (c.self.inside.log.items ++ entry (caller_in c.seat.inside.place.me.0).name c.args.event c.step-reply.result ∷ [])
          (caller_in c.seat.inside.place.me.0)),
      [],
    )
seen_by g c =
    let log : List Entry = c.self.inside.log.items in
    let who : Caller = caller_in c.seat.inside.place.me.0 in
    c.record.ensures.caller.1
    ∙ ap (λ (l : List Entry). (alone (seeing (l ++ entry c.seat.inside.name c.args.event c.step-reply.result ∷ []) who), []))
    (ap (λ (m : Me ℕ View). m.0.log) c.self.invariant.1)
    ∙ ap (λ (x : Entry). (alone (seeing (log ++ x ∷ []) who), [])) (made g c)

pub push_reserved-requires : goal.push_reserved-requires
push_reserved-requires g c =
    let inv = c.self.invariant in
    let r = (entered g (goal.at.push_reserved-requires g c).After-record).room in omega arith

pub invariant_of-self-2 : goal.invariant_of-self-2
invariant_of-self-2 g c =
    let made_so = (goal.at.invariant_of-self-2 g c).After-record in
    let log : List Entry = c.self.inside.log.items in
    let cap : ℕ = vec_capacity c.self.inside.log in
    let inv = c.self.invariant in
    let at = ap (λ (m : Me ℕ View). m.0.log) inv.1 in
    let e0 : Entry = entry c.seat.inside.name c.args.event c.step-reply.result in
    let e1 : Entry = entry (caller_in c.seat.inside.place.me.0).name c.args.event c.step-reply.result in
    let items = c.push_reserved.ensures.items in
    let grown : c.push_reserved.new.self.items ≡ log ++ e1 ∷ [] = items ∙ ap (λ (x : Entry). log ++ x ∷ []) (made g made_so) in
    let kept = subst (λ (l : List Entry). KeepsLog g.B.Naming.opening c.self.inside.limit cap c.step-reply.new.self l) (sym grown)
    (subst (λ (m : Memory). KeepsLog g.B.Naming.opening c.self.inside.limit cap m (log ++ e1 ∷ [])) (sym c.step-reply.ensures.state)
    (entered g made_so).keeps) in (
      c.record.ensures.keeper.0 ∙ inv.0,
      c.record.ensures.keeper.1 ∙ ap (λ (l : List Entry). (keeper (l ++ e0 ∷ []) [], [])) at ∙ ap (λ (l : List Entry). (keeper l [], [])) (sym items),
      inv.2,
      subst (λ (k : ℕ). KeepsLog g.B.Naming.opening c.self.inside.limit k c.step-reply.new.self
          c.push_reserved.new.self.items) (sym c.push_reserved.ensures.capacity) kept,
    )

pub invariant_of-seat-2 : goal.invariant_of-seat-2
invariant_of-seat-2 g c =
    let made_so = (goal.at.invariant_of-seat-2 g c).After-record in
    let who : Caller = caller_in c.seat.inside.place.me.0 in
    let caller = seen_by g made_so in
    let now : List Entry = c.self.inside.log.items ++ entry who.name c.args.event c.step-reply.result ∷ [] in (
      c.record.ensures.caller.0 ∙ c.seat.invariant.0,
      is_one c.record.new.caller.me (seeing now who) caller,
      c.seat.invariant.2 ∙ ap (λ (m : Me ℕ View). (caller_in m.0).name) (sym caller),
      subst (λ (m : Me ℕ View). IsSeen g.B.Naming.opening (caller_in m.0).seen) (sym caller) (entered g made_so).keeps.seen,
      c.seat.invariant.4,
    )

pub returns-clause-tried : goal.returns-clause-tried
returns-clause-tried g c =
    let made_so = (goal.at.returns-clause-tried g c).After-record in
    let who : Caller = caller_in c.seat.inside.place.me.0 in
    let now : List Entry = c.self.inside.log.items ++ entry who.name c.args.event c.step-reply.result ∷ [] in
    let caller = seen_by g made_so in
    let seen = ap (λ (m : Me ℕ View). (caller_in m.0).seen) caller in record {
      name_is = ap (λ (m : Me ℕ View). (caller_in m.0).name) caller ∙ ap (λ (x : Caller). x.name) c.seat.view_is;
      right_is = ap (λ (m : Me ℕ View). (caller_in m.0).has_queue_right) caller ∙ ap (λ (x : Caller). x.has_queue_right) c.seat.view_is;
      outcome = subst (λ (x : Caller). Accesses false g.B.Naming.opening (Some g.B.Naming.limit) x.name x.has_queue_right c.args.event x.seen
          (caller_in c.record.new.caller.me.0).seen c.step-reply.result) c.seat.view_is
          (subst (λ (l : List Entry). Accesses false g.B.Naming.opening (Some g.B.Naming.limit) who.name who.has_queue_right
          c.args.event who.seen l c.step-reply.result) (sym seen)
          (subst (λ (k : ℕ). Accesses false g.B.Naming.opening (Some k) who.name who.has_queue_right c.args.event who.seen now c.step-reply.result)
          c.self.invariant.2 (entered g made_so).outcome));
      lost_is = ap (λ (m : Me ℕ View). (caller_in m.0).lost) caller ∙ ap (λ (x : Caller). x.lost) c.seat.view_is
          ∙ never_lost c.self.inside.memory c.args.event c.step-reply.result c.args.seat.now.lost c.step-reply.ensures.reply;
    }
