-- A turn that is no event stays within what a settled state stands for.
use Rattle.std.proofs.Common.{◌≡◌, refl, sym, ◌∙◌, ap, subst, true≢false, ℕ, Bool, true, List}
use Rattle.std.specs.Prelude.{Result, IfOk, IfSome}
use Rattle.std.proofs.lemmas.Result.{IfOk-weaker}
use Rattle.schedule.specs.System.{Want, Want.Turns, Want.Calls, Want.Awaits, Want.Gone, Kind.Turn, State, put}
use Rattle.schedule.specs.Scheduled.{after_turn, after_mark, with_thread}
use Rattle.search_reach.specs.Search.{StandsFor}
use Rattle.search_reach.specs.Levels.{IsQuiet, HasEndsWithin}
use Rattle.search_reach.specs.declared.ending.Ended.{Ended}
use Rattle.search_reach.proofs.Paths.{one_step, onward}
use Rattle.search_settled.specs.Settled.{ComesToRestBy, StepsBy}
use Rattle.search_settled.specs.declared.flat.RestingState.{RestingState}
use Rattle.search_settled.specs.Threads.{ThreadSystem}
use Rattle.search_settled.specs.Next.{StandsForState}
use Rattle.search_settled.specs.Turns.{turn_steps}
use Rattle.search_settled.specs.Levels.{wants_none, makes_none, HasEndsBehind}
use Rattle.search_settled.proofs.Stepping.{own}
use Rattle.search_settled.proofs.Laws.{if-some}

module _ {X T E V A G H M O : Type 0} (k : ThreadSystem X T E V A G H M) (ends : State X T → O → Type 0) (stuck : State X T → Type 0) where
  own-stays : (c : RestingState G H) (w y : State X T) (turns : ℕ → ℕ) (n : ℕ) → StandsForState k c w turns → k.system.wants (w.threads n) ≡ Turns
      → y ≡ after_mark k.system w n Turn → StandsFor (turn_steps k ends stuck) c y
  own-stays c w y turns n st wants step =
      let is : y ≡ with_thread k.system w n (k.system.own_turn (w.threads n)) = step ∙ ap (after_turn k.system w n) wants in
      let one = own k.system turns w st.settled n st.rest wants in (
        put turns n one.less,
        record {
          reached = onward (StepsBy k.system) k.first w y st.reached (one_step (StepsBy k.system) w y (n, step));
          settled = st.settled;
          rest = subst (λ v. ComesToRestBy k.system (put turns n one.less) v st.settled) (sym is) one.rest;
          settled_is = st.settled_is;
        },
      )

  pub quiet-stays : IsQuiet (turn_steps k ends stuck) (makes_none k.system)
  quiet-stays c w z n stands quiet step = by (k.system.wants (w.threads n)) refl quiet
    where
      same : z ≡ w → StandsFor (turn_steps k ends stuck) c z
      same is = (stands.0, subst (λ v. StandsForState k c v stands.0) (sym is) stands.1)

      by : (want : Want E) → k.system.wants (w.threads n) ≡ want → wants_none want ≡ true → StandsFor (turn_steps k ends stuck) c z
      by Turns is none = own-stays c w z stands.0 n stands.1 is step
      by (Calls e) is none = absurd (true≢false (sym none))
      by Awaits is none = same (step ∙ ap (after_turn k.system w n) is)
      by Gone is none = same (step ∙ ap (after_turn k.system w n) is)

  pub ends-behind : (eq : O → O → Bool) (es : List O) (events : ℕ) → HasEndsWithin (turn_steps k ends stuck) eq es events
      → HasEndsBehind k.system k.first ends eq es events
  ends-behind eq es events has z o within end = has (makes_none k.system) quiet-stays k.first z within.0 o refl within.1 end

  pub ends-behind-all : {F : Type 0} (r : Result (Ended O) F) (eq : O → O → Bool)
      → IfOk r (λ (x : Ended O). IfSome x.levels (HasEndsWithin (turn_steps k ends stuck) eq x.endings.keys))
      → IfOk r (λ (x : Ended O). IfSome x.levels (HasEndsBehind k.system k.first ends eq x.endings.keys))
  ends-behind-all r eq h =
      IfOk-weaker r (λ (x : Ended O). IfSome x.levels (HasEndsWithin (turn_steps k ends stuck) eq x.endings.keys))
      (λ (x : Ended O). IfSome x.levels (HasEndsBehind k.system k.first ends eq x.endings.keys))
      (λ x some. if-some (HasEndsWithin (turn_steps k ends stuck) eq x.endings.keys) (HasEndsBehind k.system k.first ends eq x.endings.keys)
      (λ n within. ends-behind eq x.endings.keys n within) x.levels some) h
