-- What is the same is equal.
use Rattle.std.specs.Prelude.{ℕ, ◌≡◌, ◌+◌, ◌&&◌, true, List, [], ◌∷◌, map, length, reverse, nat_eq, Option, Some, None}
use Rattle.std.proofs.Common.{refl, sym, ◌∙◌, ap, subst}
use Rattle.std.proofs.lemmas.List.{reverse-reverse, length-replicate}
use Rattle.std.specs.Cmp.Lexicographic.{pointwise}
use Rattle.types.specs.declared.value.ValType.{ValType}
use Rattle.types.specs.declared.value.Value.{Value}
use Rattle.types.specs.contracts.value.ValuePartialEq.TheImpl as value_eq
use Rattle.types.specs.declared.event.Event.{Event}
use Rattle.types.specs.contracts.event.EventEq.TheImpl.Laws.{laws-law as event_laws}
use Rattle.types.specs.declared.outcome.Outcome.{Outcome}
use Rattle.types.specs.contracts.outcome.OutcomePartialEq.TheImpl as outcome_eq
use Rattle.types.specs.contracts.outcome.OutcomeEq.TheImpl.Laws.{laws-law as outcome_laws}
use Rattle.shared_memory.specs.contracts.sleeper.SleeperPartialEq.TheImpl as sleeper_eq
use Rattle.waiters.specs.declared.kept.KeptQueue.{KeptQueue}
use Rattle.waiters.specs.contracts.kept.KeptQueuePartialEq.TheImpl as queue_eq
use Rattle.waiters.specs.contracts.kept.KeptQueueEq.TheImpl.Laws.{laws-law as queue_laws}
use Rattle.waiters.specs.Kept.{queue_of}
use Rattle.validate_typing.specs.Tabled.{WithTables}
use Rattle.interp_machine.specs.Config.{Config, Frame}
use Rattle.interp_machine.specs.Program.{program_of}
use Rattle.interp_machine.specs.State.{At, Over}
use Rattle.interp_state.specs.declared.state.Caller.{Caller}
use Rattle.interp_state.specs.declared.state.Progress.{Progress}
use Rattle.interp_state.specs.declared.state.Progress.TheVariants.{Fresh, Halfway, Asked}
use Rattle.interp_state.specs.declared.state.State.{State}
use Rattle.interp_state.specs.contracts.state.CallerPartialEq.TheImpl as caller_eq
use Rattle.interp_state.specs.contracts.state.ProgressPartialEq.TheImpl as progress_eq
use Rattle.interp_state.specs.Words.{word_of}
use Rattle.interp_state.specs.Stands.{Stands, AreCallers, reached, values_on}
use Rattle.interp_state.proofs.Words.{map_reversed}
use Rattle.interp.specs.Kept.{IsKept}
use Rattle.interp.specs.declared.kept.Kept.{Kept}
use Rattle.interp.specs.contracts.kept.KeptPartialEq.TheImpl as kept_eq
use Rattle.interp.specs.contracts.kept.KeptEq.TheImpl.Laws.{laws-law as kept_laws}
use Rattle.search_memory.specs.declared.beside.Changes.{Changes}
use Rattle.search_memory.specs.contracts.beside.ChangedBytePartialEq.TheImpl as change_eq
use Rattle.search_memory.specs.contracts.beside.ChangesPartialEq.TheImpl as changes_eq
use Rattle.search_memory.specs.contracts.beside.ChangesEq.TheImpl.Laws.{laws-law as changes_laws}
use Rattle.search_memory.specs.Memories.{memory_of, HasDifferences}
use Rattle.search_memory.proofs.Forms.{one_form}
use Rattle.search_threads.specs.Unlimited.{Unlimited.Missing as NoThread, Unlimited.Going as Goes}
use Rattle.search_threads.specs.Unlimited.{Unlimited.Leaving as Leaves, Unlimited.Away as Left}
use Rattle.search_runs.specs.Called.{Called, Walker}
use Rattle.search_parts.specs.declared.walker.RestingThread.{RestingThread}
use Rattle.search_parts.specs.declared.walker.RestingThread.TheVariants.{Missing, Going, Ended, Leaving, Away}
use Rattle.search_parts.specs.contracts.walker.RestingThreadPartialEq.TheImpl as standing_eq
use Rattle.search_parts.specs.Walkers.{Wants}
use Rattle.search_parts.specs.Same.{AreAtOnePlace, AreWhereTheyAre, StandsForJust}

-- ---- memories and queues

pub the_same_memory : (opening : List ℕ) (x y : Changes) → HasDifferences opening x → HasDifferences opening y
    → memory_of opening x ≡ memory_of opening y → changes_eq.eq-value.it x y ≡ true
the_same_memory opening x y xs ys same =
    let a = one_form opening x y xs ys same in
    sym (λ i. nat_eq x.len (a.len i) && (nat_eq x.max (a.max i) && pointwise change_eq.eq-value.it x.changes.items (a.changes i)))
    ∙ changes_laws.refl x

pub the_same_queue : (x y : KeptQueue) → queue_of x ≡ queue_of y → queue_eq.eq-value.it x y ≡ true
the_same_queue x y same =
    let alive : x.alive.items ≡ y.alive.items = ap (λ q. q.alive) same in
    let sleepers : x.sleepers.items ≡ y.sleepers.items = ap (λ q. q.sleepers) same in
    let args : x.args.items ≡ y.args.items = ap (λ q. q.args) same in
    let threads : x.threads ≡ y.threads =
    sym (length-replicate x.threads None) ∙ ap (λ q. length q.due) same ∙ length-replicate y.threads None in
    sym (λ i. pointwise nat_eq x.alive.items (alive i)
    && (pointwise sleeper_eq.eq-value.it x.sleepers.items (sleepers i) && (pointwise nat_eq x.args.items (args i) && nat_eq x.threads (threads i))))
    ∙ queue_laws.refl x

-- ---- threads

-- the values of these frames, which are all that lies
abbrev lower_of : List Frame → List Value
lower_of [] = []
lower_of (f ∷ fs) = values_on f (lower_of fs)

lower-is : (w : WithTables) (results : List ValType) (cs : List Caller) (fs : List Frame) (values : List Value)
    → AreCallers w results cs fs values → values ≡ lower_of fs
lower-is w results [] [] values h = h
lower-is w results [] (f ∷ fs) values h = absurd h
lower-is w results (c ∷ cs) [] values h = absurd h
lower-is w results (c ∷ cs) (f ∷ fs) values h = h.4 ∙ ap (values_on f) (lower-is w h.0.context.results cs fs h.1 h.8)

abbrev first_of : ℕ → List ℕ → ℕ
first_of d [] = d
first_of d (x ∷ xs) = x

abbrev rest_of : List ℕ → List ℕ
rest_of [] = []
rest_of (x ∷ xs) = xs

-- callers at the same places that stand for the same frames are the same
one_list_of_callers : (w : WithTables) (r q : List ValType) (cs ds : List Caller) (fs : List Frame) (u v : List Value)
    → AreCallers w r cs fs u → AreCallers w q ds fs v → map (λ c. c.function) cs ≡ map (λ c. c.function) ds → map (λ c. c.pc) cs ≡ map (λ c. c.pc) ds → cs ≡ ds
one_list_of_callers w r q [] [] fs u v g h functions places = refl
one_list_of_callers w r q [] (d ∷ ds) [] u v g h functions places = absurd h
one_list_of_callers w r q [] (d ∷ ds) (f ∷ fs) u v g h functions places = absurd g
one_list_of_callers w r q (c ∷ cs) [] [] u v g h functions places = absurd g
one_list_of_callers w r q (c ∷ cs) [] (f ∷ fs) u v g h functions places = absurd h
one_list_of_callers w r q (c ∷ cs) (d ∷ ds) [] u v g h functions places = absurd g
one_list_of_callers w r q (c ∷ cs) (d ∷ ds) (f ∷ fs) u v g h functions places =
    let below : g.1 ≡ h.1 = lower-is w g.0.context.results cs fs g.1 g.8 ∙ sym (lower-is w h.0.context.results ds fs h.1 h.8) in
    let function : c.function ≡ d.function = ap (first_of 0) functions in
    let pc : c.pc ≡ d.pc = ap (first_of 0) places in
    let base : c.base ≡ d.base = g.5 ∙ ap length below ∙ sym h.5 in
    let operands : c.operands ≡ d.operands = g.6 ∙ ap (λ (l : List Value). length l + length f.locals) below ∙ sym h.6 in
    let results : c.results ≡ d.results = g.7 ∙ sym (g.3).arity ∙ (h.3).arity ∙ sym h.7 in
    let one : c ≡ d = λ i. record { function = function i; pc = pc i; base = base i; operands = operands i; results = results i } in
    let rest : cs ≡ ds = one_list_of_callers w g.0.context.results h.0.context.results cs ds fs g.1 h.1 g.8 h.8 (ap rest_of functions) (ap rest_of places) in
    λ i. one i ∷ rest i

one_progress : (x y : Progress) → reached x ≡ reached y → x ≡ y
one_progress Fresh Fresh e = refl
one_progress Fresh (Halfway b) e = cc
one_progress Fresh Asked e = cc
one_progress (Halfway a) Fresh e = cc
one_progress (Halfway a) (Halfway b) e = cc
one_progress (Halfway a) Asked e = cc
one_progress Asked Fresh e = cc
one_progress Asked (Halfway b) e = cc
one_progress Asked Asked e = refl

one_back : {A : Type 0} (xs ys : List A) → reverse xs ≡ reverse ys → xs ≡ ys
one_back xs ys e = sym (reverse-reverse xs) ∙ ap reverse e ∙ reverse-reverse ys

module _ (w : WithTables) (x y : Kept) (c : Config) (kx : IsKept w x c) (ky : IsKept w y c) (at : AreAtOnePlace x y) where
  abbrev s : State
  s = kx.state

  abbrev t : State
  t = ky.state

  abbrev a : Stands w s c
  a = kx.stands

  abbrev b : Stands w t c
  b = ky.stands

  below : a.lower ≡ b.lower
  below = lower-is w a.body.context.results (reverse s.callers.items) c.callers a.lower a.callers
      ∙ sym (lower-is w b.body.context.results (reverse t.callers.items) c.callers b.lower b.callers)

  base : x.base ≡ y.base
  base = kx.is_of.base ∙ a.base ∙ ap length below ∙ sym b.base ∙ sym ky.is_of.base

  operands : x.operands ≡ y.operands
  operands = kx.is_of.operands ∙ a.operands ∙ ap (λ (l : List Value). length l + length c.frame.locals) below ∙ sym b.operands ∙ sym ky.is_of.operands

  results : x.results ≡ y.results
  results = kx.is_of.results ∙ a.results ∙ sym a.frame.arity ∙ b.frame.arity ∙ sym b.results ∙ sym ky.is_of.results

  values : x.values.items ≡ y.values.items
  values = kx.is_of.values ∙ one_back s.values.items t.values.items
      (a.values.are ∙ ap (λ l. map word_of (values_on c.frame l)) below ∙ sym b.values.are) ∙ sym ky.is_of.values

  globals : x.globals.items ≡ y.globals.items
  globals = kx.is_of.globals ∙ a.globals ∙ sym b.globals ∙ sym ky.is_of.globals

  progress : x.progress ≡ y.progress
  progress = kx.is_of.progress ∙ one_progress s.progress t.progress (sym a.progress ∙ b.progress) ∙ sym ky.is_of.progress

  of_callers : (f : Caller → ℕ) → map f x.callers.items ≡ map f y.callers.items → map f (reverse s.callers.items) ≡ map f (reverse t.callers.items)
  of_callers f e = map_reversed f s.callers.items
      ∙ ap reverse (ap (map f) (sym kx.is_of.callers) ∙ e ∙ ap (map f) ky.is_of.callers)
      ∙ sym (map_reversed f t.callers.items)

  callers : x.callers.items ≡ y.callers.items
  callers = kx.is_of.callers ∙ one_back s.callers.items t.callers.items
      (one_list_of_callers w a.body.context.results b.body.context.results (reverse s.callers.items) (reverse t.callers.items) c.callers a.lower b.lower
      a.callers b.callers (of_callers (λ c. c.function) at.callers) (of_callers (λ c. c.pc) at.instructions)) ∙ sym ky.is_of.callers

  pub one_kept : kept_eq.eq-value.it x y ≡ true
  one_kept = sym (λ i. nat_eq x.function (at.function i) && (nat_eq x.pc (at.instruction i) && (nat_eq x.base (base i) && (nat_eq x.operands (operands i)
      && (nat_eq x.results (results i) && (pointwise nat_eq x.values.items (values i) && (pointwise value_eq.eq-value.it x.globals.items (globals i)
      && (pointwise caller_eq.eq-value.it x.callers.items (callers i) && progress_eq.eq-value.it x.progress (progress i)))))))))
      ∙ kept_laws.refl x

one_wanted : (w : WithTables) (c : Config) (v : Walker) (o p : Option Event) → Wants w v o → Wants w v p → o ≡ p
one_wanted w c v o p g h = g.wanted some refl ∙ sym (h.wanted some refl)
  where
    some : Called
    some = record { program = program_of w.parts; main = c; worker = λ args. c; opening = record { bytes = []; max = 0 } }

with_wanted : (x y : Kept) (o : Option Event) → kept_eq.eq-value.it x y ≡ true → standing_eq.eq-value.it (Going x o) (Going y o) ≡ true
with_wanted x y None kept = λ i. kept i && true
with_wanted x y (Some e) kept = λ i. kept i && event_laws.refl e i

one_going : (w : WithTables) (x y : Kept) (o p : Option Event) (v : Walker) → AreAtOnePlace x y → StandsForJust w (Going x o) v
    → StandsForJust w (Going y p) v → standing_eq.eq-value.it (Going x o) (Going y p) ≡ true
one_going w x y o p v at g h =
    let both : Goes (At g.0) ≡ Goes (At h.0) = sym g.1 ∙ h.1 in
    let one : g.0 ≡ h.0 = cc in
    subst (λ q. standing_eq.eq-value.it (Going x o) (Going y q) ≡ true) (one_wanted w g.0 v o p g.3 h.3)
    (with_wanted x y o (one_kept w x y g.0 g.2 (subst (IsKept w y) (sym one) h.2) at))

one_outcome : (a b : Outcome) → a ≡ b → outcome_eq.eq-value.it a b ≡ true
one_outcome a b e = subst (λ o. outcome_eq.eq-value.it a o ≡ true) e (outcome_laws.refl a)

apart : {A : Type 0} {V : Type 0} (u v w : V) → (u ≡ w → ⊥) → v ≡ u → v ≡ w → A
apart u v w ne p q = absurd (ne (sym p ∙ q))

pub the_same_standing : (w : WithTables) (x y : RestingThread) (v : Walker) → AreWhereTheyAre x y → StandsForJust w x v → StandsForJust w y v
    → standing_eq.eq-value.it x y ≡ true
the_same_standing w Missing Missing v at g h = refl
the_same_standing w Missing (Going b p) v at g h = apart NoThread v (Goes (At h.0)) (λ e. cc) g h.1
the_same_standing w Missing (Ended b) v at g h = apart NoThread v (Goes (Over b)) (λ e. cc) g h
the_same_standing w Missing (Leaving b) v at g h = apart NoThread v (Leaves b) (λ e. cc) g h
the_same_standing w Missing (Away b) v at g h = apart NoThread v (Left b) (λ e. cc) g h
the_same_standing w (Going a o) Missing v at g h = apart (Goes (At g.0)) v NoThread (λ e. cc) g.1 h
the_same_standing w (Going a o) (Going b p) v at g h = one_going w a b o p v at g h
the_same_standing w (Going a o) (Ended b) v at g h = apart (Goes (At g.0)) v (Goes (Over b)) (λ e. cc) g.1 h
the_same_standing w (Going a o) (Leaving b) v at g h = apart (Goes (At g.0)) v (Leaves b) (λ e. cc) g.1 h
the_same_standing w (Going a o) (Away b) v at g h = apart (Goes (At g.0)) v (Left b) (λ e. cc) g.1 h
the_same_standing w (Ended a) Missing v at g h = apart (Goes (Over a)) v NoThread (λ e. cc) g h
the_same_standing w (Ended a) (Going b p) v at g h = apart (Goes (Over a)) v (Goes (At h.0)) (λ e. cc) g h.1
the_same_standing w (Ended a) (Ended b) v at g h = one_outcome a b (let both : Goes (Over a) ≡ Goes (Over b) = sym g ∙ h in cc)
the_same_standing w (Ended a) (Leaving b) v at g h = apart (Goes (Over a)) v (Leaves b) (λ e. cc) g h
the_same_standing w (Ended a) (Away b) v at g h = apart (Goes (Over a)) v (Left b) (λ e. cc) g h
the_same_standing w (Leaving a) Missing v at g h = apart (Leaves a) v NoThread (λ e. cc) g h
the_same_standing w (Leaving a) (Going b p) v at g h = apart (Leaves a) v (Goes (At h.0)) (λ e. cc) g h.1
the_same_standing w (Leaving a) (Ended b) v at g h = apart (Leaves a) v (Goes (Over b)) (λ e. cc) g h
the_same_standing w (Leaving a) (Leaving b) v at g h = one_outcome a b (let both : Leaves a ≡ Leaves b = sym g ∙ h in cc)
the_same_standing w (Leaving a) (Away b) v at g h = apart (Leaves a) v (Left b) (λ e. cc) g h
the_same_standing w (Away a) Missing v at g h = apart (Left a) v NoThread (λ e. cc) g h
the_same_standing w (Away a) (Going b p) v at g h = apart (Left a) v (Goes (At h.0)) (λ e. cc) g h.1
the_same_standing w (Away a) (Ended b) v at g h = apart (Left a) v (Goes (Over b)) (λ e. cc) g h
the_same_standing w (Away a) (Leaving b) v at g h = apart (Left a) v (Leaves b) (λ e. cc) g h
the_same_standing w (Away a) (Away b) v at g h = one_outcome a b (let both : Left a ≡ Left b = sym g ∙ h in cc)
