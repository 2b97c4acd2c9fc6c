-- The threads of entries at some places.
use Rattle.std.proofs.Common.{◌≡◌, ◌∙◌, ◌⊎◌, ℕ, ◌+◌, ◌<◌, ◌≤◌, List, [], ◌∷◌, ◌++◌, length, take, replicate, get_or, slice_get, slice_set}
use Rattle.std.proofs.Common.{Option, Some, None, inl, inr, refl, sym, ap, subst, arith, option_map, option_and_then}
use Rattle.std.proofs.lemmas.Bool.{cases_eq}
use Rattle.std.proofs.lemmas.List.{take_more, take_all}
use Rattle.std.proofs.lemmas.List.Elements.{AllZip-get_or, Contains-get_or, Contains-push, Contains-push_cases, Contains-append_left, length_all_zip}
use Rattle.std.proofs.lemmas.Option.{slice_get-get_or}
use Rattle.std.specs.List.{AllZip, Contains}
use Rattle.std.specs.List.Sorted.{IsStrictlyIncreasing}
use Rattle.types.specs.declared.event.Entry.{Entry}
use Rattle.show_rows.proofs.Zipped.{zip_next}
use Rattle.show_events.specs.Links.{in_list}
use Rattle.show_events.specs.Events.{IsThreadAt, AreThreadsOf, AreAmong}
use Rattle.show_events.proofs.Places.{set_same, set_other, replicate_is}

same_Some : {X : Type 0} (x y : X) → Some x ≡ Some y → x ≡ y
same_Some x y e = cc

-- The thread of each place, and the place of each thread.
zip_each : (log : List Entry) (places threads : List ℕ) → AllZip (IsThreadAt log) places threads → (at thread : ℕ)
    → Contains places at → IsThreadAt log at thread → Contains threads thread
zip_each log places threads zip at thread (k, lt, is) of =
    let here : IsThreadAt log (get_or places k at) (get_or threads k thread) = AllZip-get_or (IsThreadAt log) places threads k at thread zip lt in
    let found : IsThreadAt log at (get_or threads k thread) = subst (λ (n : ℕ). IsThreadAt log n (get_or threads k thread)) is here in
    let same : get_or threads k thread ≡ thread = same_Some (get_or threads k thread) thread (sym found ∙ of) in
    (k, omega (arith, lt, length_all_zip (IsThreadAt log) places threads zip), same)

zip_no_other : (log : List Entry) (places threads : List ℕ) → AllZip (IsThreadAt log) places threads → (thread : ℕ)
    → Contains threads thread → (at : ℕ) × Contains places at × IsThreadAt log at thread
zip_no_other log places threads zip thread (k, lt, is) =
    let within : k < length places = omega (arith, lt, length_all_zip (IsThreadAt log) places threads zip) in
    let here : IsThreadAt log (get_or places k 0) (get_or threads k thread) = AllZip-get_or (IsThreadAt log) places threads k 0 thread zip within in
    (get_or places k 0, Contains-get_or places k 0 within, subst (IsThreadAt log (get_or places k 0)) is here)

-- One more place.
pub thread_next : (log : List Entry) (places threads new : List ℕ) (k z : ℕ) (d : Entry) → k < length places
    → get_or places k z < length log → AllZip (IsThreadAt log) (take k places) threads
    → new ≡ threads ++ (get_or log (get_or places k z) d).thread ∷ [] → AllZip (IsThreadAt log) (take (k + 1) places) new
thread_next log places threads new k z d lt within zip is =
    let at : ℕ = get_or places k z in
    let of : IsThreadAt log at (get_or log at d).thread =
    ap (option_map (λ (m : Entry). m.thread)) (slice_get-get_or log at d within) in
    subst (λ (ts : List ℕ). AllZip (IsThreadAt log) (take (k + 1) places) ts) (sym is)
    (zip_next (IsThreadAt log) places threads k z at (get_or log at d).thread lt refl zip of)

pub threads_are : (log : List Entry) (places threads sorted : List ℕ) → AllZip (IsThreadAt log) places threads
    → IsStrictlyIncreasing sorted → ((n : ℕ) → Contains threads n → Contains sorted n)
    → ((n : ℕ) → Contains sorted n → Contains threads n) → AreThreadsOf log places sorted
threads_are log places threads sorted zip ascend keeps no_other = record {
  ascend = ascend;
  each = λ at thread has of. keeps thread (zip_each log places threads zip at thread has of);
  no_other = λ thread has. zip_no_other log places threads zip thread (no_other thread has);
}

-- What a list has where none was set, and behind a set.
none_in : (n at : ℕ) → in_list (replicate n None) at ≡ None
none_in n at = go (slice_get (replicate n None) at) refl
  where
    go : (o : Option (Option ℕ)) → slice_get (replicate n None) at ≡ o → option_and_then (λ (x : Option ℕ). x) o ≡ None
    go None e = refl
    go (Some x) e = sym (replicate_is n None at x e)

no_item : (at : ℕ) → Contains {X = ℕ} [] at → ⊥
no_item at (k, lt, is) = absurd (omega (arith, lt))

pub among_first : (log : List Entry) (n : ℕ) → AreAmong log [] (replicate n None)
among_first log n = record {
  these = λ at thread has of. absurd (no_item at has);
  no_other = λ at never. none_in n at;
}

in_set_same : (among : List (Option ℕ)) (at : ℕ) (x : Option ℕ) → at < length among → in_list (slice_set among at x) at ≡ x
in_set_same among at x lt = ap (option_and_then (λ (y : Option ℕ). y)) (set_same among at x lt)

in_set_other : (among : List (Option ℕ)) (at k : ℕ) (x : Option ℕ) → (k ≡ at → ⊥) → in_list (slice_set among at x) k ≡ in_list among k
in_set_other among at k x apart = ap (option_and_then (λ (y : Option ℕ). y)) (set_other among at k x apart)

set_these : (log : List Entry) (places : List ℕ) (at thread : ℕ) (among : List (Option ℕ)) → at < length among
    → IsThreadAt log at thread → AreAmong log places among → (k t : ℕ) → Contains (places ++ at ∷ []) k → IsThreadAt log k t
    → in_list (slice_set among at (Some thread)) k ≡ Some t
set_these log places at thread among lt of are k t has of_k =
    elim (cases_eq k at) [
      | inl same ↦ (let here : Some thread ≡ Some t = sym of ∙ subst (λ (n : ℕ). IsThreadAt log n t) same of_k in
          subst (λ (n : ℕ). in_list (slice_set among at (Some thread)) n ≡ Some t) (sym same) (in_set_same among at (Some thread) lt ∙ here))
      | inr apart ↦ in_set_other among at k (Some thread) apart ∙ are.these k t (elsewhere (Contains-push_cases places at k has) apart) of_k
    ]
  where
    elsewhere : {P : Type 0} → P ⊎ (at ≡ k) → (k ≡ at → ⊥) → P
    elsewhere (inl p) apart = p
    elsewhere (inr e) apart = absurd (apart (sym e))

set_no_other : (log : List Entry) (places : List ℕ) (at thread : ℕ) (among : List (Option ℕ)) → AreAmong log places among → (k : ℕ)
    → (Contains (places ++ at ∷ []) k → ⊥) → in_list (slice_set among at (Some thread)) k ≡ None
set_no_other log places at thread among are k never =
    let apart : k ≡ at → ⊥ = λ e. never (subst (Contains (places ++ at ∷ [])) (sym e) (Contains-push places at)) in
    in_set_other among at k (Some thread) apart ∙ are.no_other k (λ has. never (Contains-append_left places (at ∷ []) k has))

pub among_next : (log : List Entry) (places : List ℕ) (k z at : ℕ) (made : Entry) (among new : List (Option ℕ)) → k < length places
    → at ≡ get_or places k z → at < length log → length among ≡ length log → made ≡ get_or log at made
    → new ≡ slice_set among at (Some made.thread) → AreAmong log (take k places) among → AreAmong log (take (k + 1) places) new
among_next log places k z at made among new lt is within long is_made sets are =
    let e : take (k + 1) places ≡ take k places ++ at ∷ [] = take_more places k z lt ∙ ap (λ (n : ℕ). take k places ++ n ∷ []) (sym is) in
    let here : slice_get log at ≡ Some made = slice_get-get_or log at made within ∙ ap (λ (m : Entry). Some m) (sym is_made) in
    let of : IsThreadAt log at made.thread = ap (option_map (λ (m : Entry). m.thread)) here in
    let set : AreAmong log (take k places ++ at ∷ []) (slice_set among at (Some made.thread)) = record {
      these = set_these log (take k places) at made.thread among (omega (arith, within, long)) of are;
      no_other = set_no_other log (take k places) at made.thread among are;
    } in
    subst (λ (ps : List ℕ). AreAmong log ps new) (sym e)
    (subst (λ (xs : List (Option ℕ)). AreAmong log (take k places ++ at ∷ []) xs) (sym sets) set)

pub among_all : (log : List Entry) (places : List ℕ) (k : ℕ) (among : List (Option ℕ)) → length places ≤ k
    → AreAmong log (take k places) among → AreAmong log places among
among_all log places k among le are = subst (λ (ps : List ℕ). AreAmong log ps among) (take_all k places le) are
