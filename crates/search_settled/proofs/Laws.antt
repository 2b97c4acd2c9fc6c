-- The settled states that come next are those that a search asks for.
use Rattle.std.proofs.Common.{◌≡◌, ◌≢◌, ◌≤◌, ◌⊎◌, inl, inr, refl, sym, ◌∙◌, ap, subst, arith, ℕ, zero, suc, List, Contains, Option, Some, None}
use Rattle.std.specs.Prelude.{Result, IfOk, IfSome}
use Rattle.std.proofs.lemmas.Result.{IfOk-weaker}
use Rattle.schedule.specs.System.{Want.Turns, Want.Calls, Kind.Turn, State, put}
use Rattle.schedule.specs.Scheduled.{after_turn, after_mark, after_event, with_thread}
use Rattle.schedule.proofs.Basics.{put-same, put-other}
use Rattle.search_graph.specs.Paths.{Reaches}
use Rattle.search_reach.specs.declared.explores.NextState.{NextState}
use Rattle.search_reach.specs.Search.{StepSystem, RestsIn, HasOf, StaysIn, LeadsOn, ComesBy, AreNext, IsFirst, IsMet, IsEnding, AllGetStuck, CanGetStuck}
use Rattle.search_reach.proofs.Paths.{stays, one_step, onward}
use Rattle.search_settled.specs.Settled.{ComesTo, ComesToRest, ComesToRestBy, CanGoOn, StepsBy, AreTame}
use Rattle.search_settled.specs.declared.flat.RestingState.{RestingState}
use Rattle.search_settled.specs.Threads.{ThreadSystem, IsFlat}
use Rattle.search_settled.specs.Flat.{AreBounded}
use Rattle.search_settled.specs.Next.{StandsForState, IsBeginning, IsAt, IsSomewhere, IsNextBy, IsStuckAfter, HasNext, HasEnded, NobodyTurns}
use Rattle.search_settled.specs.Turns.{turn_steps}
use Rattle.search_settled.proofs.Resting.{at_rest, resting_same, rest_by, turns_to, rest_to, rest_self, self_rests, one_count}
use Rattle.search_settled.proofs.Reaching.{to_rest, by_event}
use Rattle.search_settled.proofs.Stepping.{own, event}
use Rattle.search_settled.proofs.Orderly.{only_going, event_leaves, not_awaits, not_gone, turns_are_orderly}

-- what holds of what there may be
pub if-some : {S : Type 0} (P Q : S → Type 0) → ((x : S) → P x → Q x) → (o : Option S) → IfSome o P → IfSome o Q
if-some P Q f None h = tt
if-some P Q f (Some x) h = f x h

-- what holds where there is nothing
pub where-none : {B F : Type 0} (P Q : Type 0) → (P → Q) → (r : Result (Option B) F) → IfOk r (λ o. o ≡ None → P) → IfOk r (λ o. o ≡ None → Q)
where-none P Q f r h = IfOk-weaker r (λ o. o ≡ None → P) (λ o. o ≡ None → Q) (λ o k none. f (k none)) h

module _ {X T E V A G H M O : Type 0} (k : ThreadSystem X T E V A G H M) (ends : State X T → O → Type 0) (stuck : State X T → Type 0) where
  abbrev Turning : StepSystem (RestingState G H) (State X T) O
  Turning = turn_steps k ends stuck

  pub first-is : (c : RestingState G H) → IsBeginning k c → IsFirst Turning c
  first-is c b = record {
    all = λ w begins. (
      turns_to k.system k.first b.settled b.rest,
      subst (λ v. StandsForState k c v (turns_to k.system k.first b.settled b.rest)) (sym begins) (record {
        reached = stays (StepsBy k.system) k.first;
        settled = b.settled;
        rest = rest_to k.system k.first b.settled b.rest;
        settled_is = b.settled_is;
      }),
    );
    one = k.first;
    begun = refl;
  }

  pub stuck-first : stuck k.first → CanGetStuck Turning
  stuck-first is-stuck = record { from = k.first; begun = refl; gets = record { end = k.first; path = stays (StepsBy k.system) k.first; is = is-stuck } }

  module _ (tame : AreTame k.system k.first k.most) where
    to_settled : (c : RestingState G H) (w : State X T) (turns : ℕ → ℕ) (st : StandsForState k c w turns) → Reaches (StepsBy k.system) w st.settled
    to_settled c w turns st = to_rest k.system k.most w st.settled (tame.few w st.reached) (rest_by k.system turns w st.settled st.rest)

    at_settled : (c : RestingState G H) (w : State X T) (turns : ℕ → ℕ) (st : StandsForState k c w turns) → IsAt k c st.settled
    at_settled c w turns st = record {
      reached = onward (StepsBy k.system) k.first w st.settled st.reached (to_settled c w turns st);
      settled_is = st.settled_is;
    }

    -- where all rest
    at_rest_is : (c : RestingState G H) (w : State X T) → RestsIn Turning c w → IsAt k c w
    at_rest_is c w st = record { reached = st.reached; settled_is = subst (IsFlat k c) (sym (self_rests k.system w st.settled st.rest)) st.settled_is }

    pub somewhere : (c : RestingState G H) → IsMet Turning c → IsSomewhere k c
    somewhere c met = let st = met.comes.is.1 in (st.settled, at_settled c met.comes.end met.comes.is.0 st)

    -- what comes to rest where it is stuck after an event gets stuck
    pub gets-stuck : (c : RestingState G H) → IsStuckAfter k stuck c → AllGetStuck Turning c
    gets-stuck c after w stands =
        let st = stands.1 in
        let a = after st.settled (at_settled c w stands.0 st) in
        let made = after_event k.system st.settled a.0 a.1 in
        record {
          end = made;
          path = onward (StepsBy k.system) w st.settled made (to_settled c w stands.0 st) (by_event k.system st.settled a.0 a.1 a.2);
          is = a.3;
        }

    module _ (bounded : AreBounded k.system k.first k.count k.most) (c : RestingState G H) (xs : List (NextState (RestingState G H)))
        (next : HasNext k c xs) where
      -- a thread with a next state makes an event once it rests
      calls_at : (w : State X T) (turns : ℕ → ℕ) (st : StandsForState k c w turns) (u : ℕ) → HasOf xs u
          → (e : E) × (k.system.wants (st.settled.threads u) ≡ Calls e)
      calls_at w turns st u has =
          let of = next.sound st.settled (at_settled c w turns st) has.next has.among in
          (of.event, subst (λ (m : ℕ). k.system.wants (st.settled.threads m) ≡ Calls of.event) has.is of.wants)

      -- so it can go on before
      going : (w : State X T) (turns : ℕ → ℕ) (st : StandsForState k c w turns) (u : ℕ) → HasOf xs u → CanGoOn k.system w u
      going w turns st u has = by (turns u) (st.rest.comes u) (calls_at w turns st u has)
        where
          by : (count : ℕ) → ComesTo k.system count (w.threads u) (st.settled.threads u) → (e : E) × (k.system.wants (st.settled.threads u) ≡ Calls e)
              → CanGoOn k.system w u
          by zero is calls = inr (calls.0, ap k.system.wants is ∙ calls.1)
          by (suc count) is calls = inl is.0

      -- and has as many turns left after an event of another
      module _ (w : State X T) (turns : ℕ → ℕ) (st : StandsForState k c w turns) (n : ℕ) (e : E) (calls : k.system.wants (w.threads n) ≡ Calls e)
          (x : NextState (RestingState G H)) (among : Contains xs x) (by : x.thread ≡ n) (at : IsNextBy k st.settled n e x.state) where
        rest_on : ComesToRest k.system (after_event k.system w n e) at.settled
        rest_on = event k.system w st.settled n e (tame.answers w st.reached) (rest_by k.system turns w st.settled st.rest) calls at.settled at.rest

        no_more : (u : ℕ) → u ≢ n → HasOf xs u → turns_to k.system (after_event k.system w n e) at.settled rest_on u ≤ turns u
        no_more u apart has =
            let can = going w turns st u has in
            let same = event_leaves k.system w n u e (tame.answers w st.reached) (tame.starts w st.reached) calls apart
            (not_awaits k.system w u can) (not_gone k.system w u can) in
            let by_on = rest_to k.system (after_event k.system w n e) at.settled rest_on in
            let left = turns_to k.system (after_event k.system w n e) at.settled rest_on in
            let comes : ComesTo k.system (left u) (w.threads u) (at.settled.threads u) =
            subst (λ (t : T). ComesTo k.system (left u) t (at.settled.threads u)) same (by_on.comes u) in
            let one = one_count k.system (left u) (turns u) (w.threads u) (at.settled.threads u) (st.settled.threads u) comes (by_on.rests u)
            (st.rest.comes u) (st.rest.rests u) in
            omega (arith, one)

        leads : (y : State X T) → y ≡ after_event k.system w n e → LeadsOn Turning xs n y turns
        leads y is = record {
          next = x;
          among = among;
          by = by;
          after = turns_to k.system (after_event k.system w n e) at.settled rest_on;
          is = record {
            reached = onward (StepsBy k.system) k.first w y st.reached
                (subst (λ v. Reaches (StepsBy k.system) w v) (sym is) (by_event k.system w n e calls));
            settled = at.settled;
            rest = subst (λ v. ComesToRestBy k.system (turns_to k.system (after_event k.system w n e) at.settled rest_on) v at.settled) (sym is)
                (rest_to k.system (after_event k.system w n e) at.settled rest_on);
            settled_is = at.settled_is;
          };
          others = no_more;
        }

      -- a turn of its own
      stay : (w y : State X T) (turns : ℕ → ℕ) (n : ℕ) (st : StandsForState k c w turns) → k.system.wants (w.threads n) ≡ Turns
          → y ≡ after_mark k.system w n Turn → StaysIn Turning c n y turns
      stay w y turns n st wants step =
          let is : y ≡ with_thread k.system w n (k.system.own_turn (w.threads n)) = step ∙ ap (after_turn k.system w n) wants in
          let one = own k.system turns w st.settled n st.rest wants in
          let here = put-same turns n one.less in
          let fell = one.is in
          record {
            after = put turns n one.less;
            is = record {
              reached = onward (StepsBy k.system) k.first w y st.reached (one_step (StepsBy k.system) w y (n, step));
              settled = st.settled;
              rest = subst (λ v. ComesToRestBy k.system (put turns n one.less) v st.settled) (sym is) one.rest;
              settled_is = st.settled_is;
            };
            fewer = omega (arith, here, fell);
            others = λ u apart. (let other = put-other turns n one.less u apart in omega (arith, other));
          }

      step : (w y : State X T) (turns : ℕ → ℕ) (n : ℕ) → StandsForState k c w turns → CanGoOn k.system w n → y ≡ after_mark k.system w n Turn
          → StaysIn Turning c n y turns ⊎ LeadsOn Turning xs n y turns
      step w y turns n st (inl wants) made = inl (stay w y turns n st wants made)
      step w y turns n st (inr calls) made =
          let is : y ≡ after_event k.system w n calls.0 = made ∙ ap (after_turn k.system w n) calls.1 in
          let here : w.threads n ≡ st.settled.threads n =
          at_rest k.system (w.threads n) (st.settled.threads n) ((rest_by k.system turns w st.settled st.rest).each n)
          (λ t. (let c = calls.1 in cc (c, t))) in
          let x = next.all st.settled (at_settled c w turns st) n calls.0 (ap k.system.wants (sym here) ∙ calls.1) in
          inr (leads w turns st n calls.0 calls.1 x.0 x.1 x.2 x.3 y is)

      all : (w : State X T) → RestsIn Turning c w → (n : ℕ) → CanGoOn k.system w n → HasOf xs n
      all w st n (inl turns) = absurd (st.rest.rests n (ap k.system.wants (sym (st.rest.comes n)) ∙ turns))
      all w st n (inr calls) =
          let x = next.all w (at_rest_is c w st) n calls.0 calls.1 in
          record { next = x.0; among = x.1; is = x.2 }

      comes : (w : State X T) → RestsIn Turning c w → (x : NextState (RestingState G H)) → Contains xs x → ComesBy Turning x.thread w x.state
      comes w st x among =
          let at = at_rest_is c w st in
          let of = next.sound w at x among in
          let made = after_event k.system w x.thread of.event in
          let first = by_event k.system w x.thread of.event of.wants in
          let reached = onward (StepsBy k.system) k.first w made at.reached first in
          let last = to_rest k.system k.most made of.next.settled (tame.few made reached) of.next.rest in
          record {
            can = inr (of.event, of.wants);
            second = made;
            is = sym (ap (after_turn k.system w x.thread) of.wants);
            end = of.next.settled;
            path = only_going k.system made of.next.settled last;
            rest = record {
              reached = onward (StepsBy k.system) k.first made of.next.settled reached last;
              settled = of.next.settled;
              rest = rest_self k.system of.next.settled (λ m. (of.next.rest.each m).rests);
              settled_is = of.next.settled_is;
            };
          }

      pub next-are : AreNext Turning c xs
      next-are = record {
        orderly = turns_are_orderly k ends stuck tame bounded c;
        step = λ w z left n st can made. step w z left n st can made;
        goes_on = λ w stands x among. going w stands.0 stands.1 x.thread (record { next = x; among = among; is = refl });
        all = all;
        comes = comes;
        follow = λ x among. tt;
        ascend = next.ascend;
      }

    pub ending-is : NobodyTurns k.system ends → (c : RestingState G H) (r : Option O)
        → HasEnded k ends c r → IsEnding Turning c r
    ending-is over c r ended = record {
      all = λ w o stands end.
          let st = stands.1 in
          let same : w ≡ st.settled = resting_same k.system w st.settled (rest_by k.system stands.0 w st.settled st.rest) (over w o end) in
          ended.all st.settled o (at_settled c w stands.0 st) (subst (λ v. ends v o) same end);
      sound = λ w o stands h. record {
        end = stands.1.settled;
        path = to_settled c w stands.0 stands.1;
        stands = (
          λ (n : ℕ). 0,
          record {
            reached = onward (StepsBy k.system) k.first w stands.1.settled stands.1.reached (to_settled c w stands.0 stands.1);
            settled = stands.1.settled;
            rest = rest_self k.system stands.1.settled (λ m. stands.1.rest.rests m);
            settled_is = stands.1.settled_is;
          },
        );
        is = ended.sound stands.1.settled o (at_settled c w stands.0 stands.1) h;
      };
    }

-- The same of what a call answers.
module _ {X T E V A G H M O F : Type 0} (k : ThreadSystem X T E V A G H M) (ends : State X T → O → Type 0) (stuck : State X T → Type 0) where
  pub first-answer : (r : Result (Option (RestingState G H)) F) → IfOk r (λ o. IfSome o (IsBeginning k))
      → IfOk r (λ o. IfSome o (IsFirst (turn_steps k ends stuck)))
  first-answer r h = IfOk-weaker r (λ o. IfSome o (IsBeginning k)) (λ o. IfSome o (IsFirst (turn_steps k ends stuck)))
      (if-some (IsBeginning k) (IsFirst (turn_steps k ends stuck)) (first-is k ends stuck)) h
