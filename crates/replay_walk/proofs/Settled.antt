-- Where a walk stands after a thread's turns of its own.
use Rattle.std.proofs.Common.{◌≡◌, ℕ, ◌<◌, List, length, Option, Some, sym, ◌∙◌, ap, subst, slice_get}
use Rattle.std.proofs.lemmas.Option.{slice_get_within}
use Rattle.types.specs.declared.outcome.Outcome.{Outcome}
use Rattle.shared_memory.specs.WaitQueue.{WaitQueue}
use Rattle.interp_machine.specs.Program.{Program}
use Rattle.interp_trait.specs.Turns.{Running, Meaning, IsHere, spawned_in}
use Rattle.interp_trait.specs.declared.turn.Turn.{Turn}
use Rattle.replay_rules.specs.Walk.{Settles}
use Rattle.replay_walk.specs.Standing.{Says, SettlesAs, SettlesAt, Standing, IsStanding, IsSettledOn, IsGoing, system_at}
use Rattle.replay_walk.proofs.Told.{slice_get-set_same, slice_get-set_other}
use Rattle.replay_walk.proofs.Ending.{rests}

module _ {S : Type 0} (meaning : S → Meaning) where
  module _ (s : Standing) (threads : List S) (queue : WaitQueue) (begun : ℕ) (ends : List (Option Outcome)) (st : IsStanding meaning s threads queue begun ends)
      (n : ℕ) (going : IsGoing meaning s threads queue ends n) where
    -- it is there, with its budget
    pub within : (lent : List S) → lent ≡ threads → n < length lent
    within lent same = subst (λ l. n < length l) (sym same) (slice_get_within threads n (going.runs).thread (going.runs).at)

    pub ready : (lent : List S) → lent ≡ threads → (x : S) → slice_get lent n ≡ Some x → (t : Running) × (meaning x).stands t × IsHere t
    ready lent same x at =
        let r = going.runs in
        let here : slice_get threads n ≡ Some x = sym (ap (λ l. slice_get l n) same) ∙ at in
        let is : r.thread ≡ x = cc (here, r.at) in
        (s.state.threads n, subst (λ y. (meaning y).stands (s.state.threads n)) is r.standing, r.here)

    -- it settled, and said what it wants
    pub record IsSettled (turn : Turn) (after : List S) : Type 0 where
      pub thread : Running
      pub on : IsSettledOn meaning s after queue begun ends n thread
      pub settles : Settles (system_at s) (s.state.threads n) thread
      pub says : Says s.program thread turn

    settled_here : (turn : Turn) (after : List S) → ((x : S) → slice_get threads n ≡ Some x → SettlesAt meaning x turn threads n after) → IsSettled turn after
    settled_here turn after settles =
        let r = going.runs in
        let now = settles r.thread r.at in
        let x = (now.replaced).now in
        let alike = st.alike n r.thread r.at in
        let last : SettlesAs s.program (s.state.threads n) turn (meaning x).stands =
        subst (λ (p : Program). SettlesAs p (s.state.threads n) turn (meaning x).stands) alike.0 (now.settled (s.state.threads n) r.standing r.here) in
        record {
          thread = last.settled;
          on = record {
            before = threads;
            standing = st;
            thread = x;
            at = ap (λ l. slice_get l n) (now.replaced).list ∙ slice_get-set_same threads n x (slice_get_within threads n r.thread r.at);
            stood = last.stands;
            here = last.here;
            alike = ((now.replaced).same_program ∙ alike.0, (now.replaced).same_fuel ∙ alike.1);
            others = λ m h. ap (λ l. slice_get l m) (now.replaced).list ∙ slice_get-set_other threads n m x h;
            alive = going.alive;
            going = going.going;
            free = going.free;
          };
          settles = record {
            turns = last.turns;
            comes = last.comes (spawned_in s.worker) s.budget;
            rests = rests s.program last.settled turn last.here last.says;
          };
          says = last.says;
        }

    pub settled : (lent : List S) → lent ≡ threads → (turn : Turn) (after : List S)
        → ((x : S) → slice_get lent n ≡ Some x → SettlesAt meaning x turn lent n after) → IsSettled turn after
    settled lent same turn after settles =
        settled_here turn after (subst (λ l. (x : S) → slice_get l n ≡ Some x → SettlesAt meaning x turn l n after) same settles)
