-- Threads at rest that are equal stand for the same.
use Rattle.std.specs.Prelude.{◌≡◌, ◌&&◌, Bool, true, false, nat_eq, Option, Some, None}
use Rattle.std.proofs.Common.{refl, sym, ap, ◌∙◌, subst, rules}
use Rattle.std.proofs.lemmas.Bool.{eqb-true}
use Rattle.std.specs.Cmp.{first_so, second_so}
use Rattle.std.specs.Cmp.Lexicographic.{pointwise}
use Rattle.types.specs.contracts.value.ValuePartialEq.TheImpl as value_eq
use Rattle.types.specs.declared.event.Event.{Event}
use Rattle.types.specs.contracts.event.EventPartialEq.TheImpl as event_eq
use Rattle.validate_typing.specs.Tabled.{WithTables}
use Rattle.interp_state.specs.declared.state.State.{State}
use Rattle.interp_state.specs.contracts.state.CallerPartialEq.TheImpl as caller_eq
use Rattle.interp_state.specs.contracts.state.ProgressPartialEq.TheImpl as progress_eq
use Rattle.interp.specs.Kept.{IsOf}
use Rattle.interp.specs.declared.kept.Kept.{Kept}
use Rattle.interp.specs.contracts.kept.KeptPartialEq.TheImpl as kept_eq
use Rattle.search_runs.specs.Called.{Walker}
use Rattle.search_parts.specs.Walkers.{StandsForThread, Wants}
use Rattle.search_parts.specs.declared.walker.RestingThread.{RestingThread}
use Rattle.search_parts.specs.declared.walker.RestingThread.TheVariants.{Missing, Going, Ended, Leaving, Away}
use Rattle.search_parts.specs.contracts.walker.RestingThreadPartialEq.TheImpl as standing_eq
use Rattle.search_endings.specs.Outcomes.{untrue, same_list, same_value, same_outcome}
use Rattle.search_parts.specs.Values.{same_caller, same_progress}

-- the tests of what is kept, from each on
module _ (x y : Kept) where
  abbrev from_callers : Bool
  from_callers = pointwise caller_eq.eq-value.it x.callers.items y.callers.items && progress_eq.eq-value.it x.progress y.progress

  abbrev from_globals : Bool
  from_globals = pointwise value_eq.eq-value.it x.globals.items y.globals.items && from_callers

  abbrev from_values : Bool
  from_values = pointwise nat_eq x.values.items y.values.items && from_globals

  abbrev from_results : Bool
  from_results = nat_eq x.results y.results && from_values

  abbrev from_operands : Bool
  from_operands = nat_eq x.operands y.operands && from_results

  abbrev from_base : Bool
  from_base = nat_eq x.base y.base && from_operands

  abbrev from_pc : Bool
  from_pc = nat_eq x.pc y.pc && from_base

  pub same_kept : kept_eq.eq-value.it x y ≡ true → (s : State) → IsOf x s → IsOf y s
  same_kept e s is =
      let pc = second_so (nat_eq x.function y.function) from_pc e in
      let base = second_so (nat_eq x.pc y.pc) from_base pc in
      let operands = second_so (nat_eq x.base y.base) from_operands base in
      let results = second_so (nat_eq x.operands y.operands) from_results operands in
      let values = second_so (nat_eq x.results y.results) from_values results in
      let globals = second_so (pointwise nat_eq x.values.items y.values.items) from_globals values in
      let callers = second_so (pointwise value_eq.eq-value.it x.globals.items y.globals.items) from_callers globals in
      let callers_so = pointwise caller_eq.eq-value.it x.callers.items y.callers.items in
      let progress_so = progress_eq.eq-value.it x.progress y.progress in
      record {
        function = sym (eqb-true x.function y.function (first_so (nat_eq x.function y.function) from_pc e)) ∙ is.function;
        pc = sym (eqb-true x.pc y.pc (first_so (nat_eq x.pc y.pc) from_base pc)) ∙ is.pc;
        base = sym (eqb-true x.base y.base (first_so (nat_eq x.base y.base) from_operands base)) ∙ is.base;
        operands = sym (eqb-true x.operands y.operands (first_so (nat_eq x.operands y.operands) from_results operands)) ∙ is.operands;
        results = sym (eqb-true x.results y.results (first_so (nat_eq x.results y.results) from_values results)) ∙ is.results;
        values = sym (same_list nat_eq eqb-true x.values.items y.values.items
            (first_so (pointwise nat_eq x.values.items y.values.items) from_globals values)) ∙ is.values;
        globals = sym (same_list value_eq.eq-value.it same_value x.globals.items y.globals.items
            (first_so (pointwise value_eq.eq-value.it x.globals.items y.globals.items) from_callers globals)) ∙ is.globals;
        callers = sym (same_list caller_eq.eq-value.it same_caller x.callers.items y.callers.items (first_so callers_so progress_so callers)) ∙ is.callers;
        progress = sym (same_progress x.progress y.progress (second_so callers_so progress_so callers)) ∙ is.progress;
      }

same_event : (x y : Event) → event_eq.eq-value.it x y ≡ true → x ≡ y
same_event x y e = Prim.search rules

same_going : (a b : Kept) (o p : Option Event) → standing_eq.eq-value.it (Going a o) (Going b p) ≡ true
    → (kept_eq.eq-value.it a b ≡ true) × (o ≡ p)
same_going a b None None e = (first_so (kept_eq.eq-value.it a b) true e, refl)
same_going a b None (Some y) e = untrue (second_so (kept_eq.eq-value.it a b) false e)
same_going a b (Some x) None e = untrue (second_so (kept_eq.eq-value.it a b) false e)
same_going a b (Some x) (Some y) e =
    let events_so = event_eq.eq-value.it x y in
    (first_so (kept_eq.eq-value.it a b) events_so e, ap Some (same_event x y (second_so (kept_eq.eq-value.it a b) events_so e)))

pub same_standing : (w : WithTables) (x y : RestingThread) (v : Walker) → standing_eq.eq-value.it x y ≡ true → StandsForThread w x v → StandsForThread w y v
same_standing w Missing Missing v e st = st
same_standing w Missing (Going b p) v e st = untrue e
same_standing w Missing (Ended b) v e st = untrue e
same_standing w Missing (Leaving b) v e st = untrue e
same_standing w Missing (Away b) v e st = untrue e
same_standing w (Going a o) Missing v e st = untrue e
same_standing w (Going a o) (Going b p) v e st =
    let kept = st.2.1 in
    let same = same_going a b o p e in (
      st.0,
      st.1,
      (st.2.0, record { state = kept.state; stands = kept.stands; is_of = same_kept a b same.0 kept.state kept.is_of }, st.2.2),
      subst (λ q. Wants w v q) same.1 st.3,
    )
same_standing w (Going a o) (Ended b) v e st = untrue e
same_standing w (Going a o) (Leaving b) v e st = untrue e
same_standing w (Going a o) (Away b) v e st = untrue e
same_standing w (Ended a) Missing v e st = untrue e
same_standing w (Ended a) (Going b p) v e st = untrue e
same_standing w (Ended a) (Ended b) v e st = subst (λ o. StandsForThread w (Ended o) v) (same_outcome a b e) st
same_standing w (Ended a) (Leaving b) v e st = untrue e
same_standing w (Ended a) (Away b) v e st = untrue e
same_standing w (Leaving a) Missing v e st = untrue e
same_standing w (Leaving a) (Going b p) v e st = untrue e
same_standing w (Leaving a) (Ended b) v e st = untrue e
same_standing w (Leaving a) (Leaving b) v e st = subst (λ o. StandsForThread w (Leaving o) v) (same_outcome a b e) st
same_standing w (Leaving a) (Away b) v e st = untrue e
same_standing w (Away a) Missing v e st = untrue e
same_standing w (Away a) (Going b p) v e st = untrue e
same_standing w (Away a) (Ended b) v e st = untrue e
same_standing w (Away a) (Leaving b) v e st = untrue e
same_standing w (Away a) (Away b) v e st = subst (λ o. StandsForThread w (Away o) v) (same_outcome a b e) st
