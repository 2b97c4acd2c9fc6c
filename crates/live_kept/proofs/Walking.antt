-- Threads without budgets that are alike go alike.
use Rattle.std.proofs.Common.{◌≡◌, ℕ, zero, suc, refl, sym, ◌∙◌, ap, subst}
use Rattle.types.specs.declared.event.Event.{Event}
use Rattle.types.specs.declared.event.Reply.{Reply}
use Rattle.types.specs.declared.outcome.Outcome.{Outcome}
use Rattle.schedule.specs.Machine.{Wish, Wish.Goes, Wish.Asks, Wish.Waits, Wish.Ends}
use Rattle.schedule_threads.specs.Threads.{machine_of, wish_of, wishes}
use Rattle.interp_machine.specs.Config.{Next}
use Rattle.interp_machine.specs.Program.{Program}
use Rattle.interp_machine.specs.Step.{next}
use Rattle.interp_machine.specs.State.{State, At, Over}
use Rattle.search_threads.specs.Unlimited.{Unlimited.Missing, Unlimited.Going, Unlimited.Leaving, Unlimited.Away, want_by, reply_by}
use Rattle.search_settled.specs.Settled.{ComesTo, MakesTurns, Settles}
use Rattle.search_runs.specs.Accesses.{is_plain, is_plain_code}
use Rattle.search_runs.specs.Called.{Called, Walker, system_of}
use Rattle.live_locals.specs.Alike.{AreNextAlike, AreStatesAlike}
use Rattle.live_locals.proofs.Other.{next_cases}
use Rattle.live_locals.proofs.Going.{alike}
use Rattle.live_locals.proofs.States.{states}
use Rattle.live_kept.specs.Walkers.{AreWalkersAlike, AlikeWalkersGoAlike}

wish_alike : (n m : Next) → AreNextAlike n m → wish_of n ≡ wish_of m
wish_alike = next_cases (λ n m. wish_of n ≡ wish_of m) refl (λ c d a. refl) (λ t. refl) (λ r. refl) (λ e go on h. refl) (λ go on h. refl)

wishes_alike : (p : Program) (s t : State) → AreStatesAlike s t → wishes p s ≡ wishes p t
wishes_alike p (At c) (At d) a = wish_alike (next p c) (next p d) (alike p c d a)
wishes_alike p (At c) (Over outcome) a = absurd a
wishes_alike p (Over outcome) (At c) a = absurd a
wishes_alike p (Over outcome) (Over other) a = ap Ends a

plain_alike : (s t : State) → AreStatesAlike s t → is_plain (Going s) ≡ is_plain (Going t)
plain_alike (At c) (At d) a = ap is_plain_code a.frame.same.code
plain_alike (At c) (Over outcome) a = absurd a
plain_alike (Over outcome) (At c) a = absurd a
plain_alike (Over outcome) (Over other) a = refl

module _ (b : Called) where
  takes_by : (s t : State) → AreStatesAlike s t → (reply : Reply) (w : Wish Event Outcome) →
      AreWalkersAlike (reply_by (machine_of b.program) w s reply) (reply_by (machine_of b.program) w t reply)
  takes_by s t a reply Goes = a
  takes_by s t a reply Waits = a
  takes_by s t a reply (Asks e) = (states b.program s t a).replies reply
  takes_by s t a reply (Ends o) = refl

  wants_alike : (v u : Walker) → AreWalkersAlike v u → (system_of b).wants v ≡ (system_of b).wants u
  wants_alike Missing Missing a = refl
  wants_alike Missing (Going t) a = absurd a
  wants_alike Missing (Leaving q) a = absurd a
  wants_alike Missing (Away q) a = absurd a
  wants_alike (Going s) Missing a = absurd a
  wants_alike (Going s) (Going t) a = ap (want_by (machine_of b.program)) (wishes_alike b.program s t a)
  wants_alike (Going s) (Leaving q) a = absurd a
  wants_alike (Going s) (Away q) a = absurd a
  wants_alike (Leaving o) Missing a = absurd a
  wants_alike (Leaving o) (Going t) a = absurd a
  wants_alike (Leaving o) (Leaving q) a = refl
  wants_alike (Leaving o) (Away q) a = absurd a
  wants_alike (Away o) Missing a = absurd a
  wants_alike (Away o) (Going t) a = absurd a
  wants_alike (Away o) (Leaving q) a = absurd a
  wants_alike (Away o) (Away q) a = refl

  goes_alike : (v u : Walker) → AreWalkersAlike v u → AreWalkersAlike ((system_of b).own_turn v) ((system_of b).own_turn u)
  goes_alike Missing Missing a = tt
  goes_alike Missing (Going t) a = absurd a
  goes_alike Missing (Leaving q) a = absurd a
  goes_alike Missing (Away q) a = absurd a
  goes_alike (Going s) Missing a = absurd a
  goes_alike (Going s) (Going t) a = (states b.program s t a).goes
  goes_alike (Going s) (Leaving q) a = absurd a
  goes_alike (Going s) (Away q) a = absurd a
  goes_alike (Leaving o) Missing a = absurd a
  goes_alike (Leaving o) (Going t) a = absurd a
  goes_alike (Leaving o) (Leaving q) a = a
  goes_alike (Leaving o) (Away q) a = absurd a
  goes_alike (Away o) Missing a = absurd a
  goes_alike (Away o) (Going t) a = absurd a
  goes_alike (Away o) (Leaving q) a = absurd a
  goes_alike (Away o) (Away q) a = a

  comes_alike : (turns : ℕ) (v z u : Walker) → AreWalkersAlike v u → ComesTo (system_of b) turns v z →
      (y : Walker) × ComesTo (system_of b) turns u y × AreWalkersAlike z y
  comes_alike zero v z u a h = (u, refl, subst (λ (x : Walker). AreWalkersAlike x u) h a)
  comes_alike (suc turns) v z u a h =
      let r = comes_alike turns ((system_of b).own_turn v) z ((system_of b).own_turn u) (goes_alike v u a) h.1 in
      (r.0, (sym (wants_alike v u a) ∙ h.0, r.1), r.2)

  settles_alike : (v u : Walker) → AreWalkersAlike v u → (z : Walker) (s : Settles (system_of b) v z) →
      (y : Walker) × (t : Settles (system_of b) u y) × AreWalkersAlike z y × (t.turns ≡ s.turns)
  settles_alike v u a z s =
      let r = comes_alike s.turns v z u a s.comes in
      (r.0, record { turns = s.turns; comes = r.1; rests = λ h. s.rests (wants_alike z r.0 r.2 ∙ h) }, r.2, refl)

  turns_alike : (v u : Walker) → AreWalkersAlike v u → (count : ℕ) → MakesTurns (system_of b) count v → MakesTurns (system_of b) count u
  turns_alike v u a count m =
      let r = comes_alike count v m.last u a m.comes in
      record { last = r.0; comes = r.1 }

pub walkers : AlikeWalkersGoAlike
walkers b Missing Missing a = record {
  wants = refl;
  plain = refl;
  goes = tt;
  takes = λ reply. tt;
  hears = λ answer. tt;
  settles = settles_alike b Missing Missing a;
  turns = turns_alike b Missing Missing a;
}
walkers b Missing (Going t) a = absurd a
walkers b Missing (Leaving q) a = absurd a
walkers b Missing (Away q) a = absurd a
walkers b (Going s) Missing a = absurd a
walkers b (Going s) (Going t) a = record {
  wants = wants_alike b (Going s) (Going t) a;
  plain = plain_alike s t a;
  goes = goes_alike b (Going s) (Going t) a;
  takes = λ reply.
      subst (λ w. AreWalkersAlike ((system_of b).takes (Going s) reply) (reply_by (machine_of b.program) w t reply)) (wishes_alike b.program s t a)
      (takes_by b s t a reply (wishes b.program s));
  hears = λ answer. (states b.program s t a).hears answer;
  settles = settles_alike b (Going s) (Going t) a;
  turns = turns_alike b (Going s) (Going t) a;
}
walkers b (Going s) (Leaving q) a = absurd a
walkers b (Going s) (Away q) a = absurd a
walkers b (Leaving o) Missing a = absurd a
walkers b (Leaving o) (Going t) a = absurd a
walkers b (Leaving o) (Leaving q) a = record {
  wants = refl;
  plain = refl;
  goes = a;
  takes = λ reply. a;
  hears = λ answer. a;
  settles = settles_alike b (Leaving o) (Leaving q) a;
  turns = turns_alike b (Leaving o) (Leaving q) a;
}
walkers b (Leaving o) (Away q) a = absurd a
walkers b (Away o) Missing a = absurd a
walkers b (Away o) (Going t) a = absurd a
walkers b (Away o) (Leaving q) a = absurd a
walkers b (Away o) (Away q) a = record {
  wants = refl;
  plain = refl;
  goes = a;
  takes = λ reply. a;
  hears = λ answer. a;
  settles = settles_alike b (Away o) (Away q) a;
  turns = turns_alike b (Away o) (Away q) a;
}
