-- Threads that have left with their outcomes are how a state has ended, and nothing else is.
use Rattle.std.specs.Prelude.{ℕ, zero, suc, ◌≡◌, ◌<◌, List, [], ◌∷◌, length, take, Some, None, slice_index_or}
use Rattle.std.specs.List.{slice_get}
use Rattle.std.proofs.Common.{refl, sym, ap, ◌∙◌, arith}
use Rattle.std.proofs.lemmas.List.{length-map}
use Rattle.allowed_races.specs.declared.allowed.Allowed.{Allowed}
use Rattle.types.specs.declared.outcome.Outcome.{Outcome}
use Rattle.shared_memory.specs.Memory.{Memory, pages}
use Rattle.validate_typing.specs.Tabled.{WithTables}
use Rattle.schedule.specs.System as systems
use Rattle.schedule_threads.specs.Shared.{Shared}
use Rattle.search_memory.specs.Memories.{memory_of}
use Rattle.search_threads.specs.Unlimited.{Unlimited.Away as Left}
use Rattle.search_settled.specs.Next.{IsAt}
use Rattle.search_settled.specs.declared.flat.RestingState.{RestingState}
use Rattle.search_runs.specs.Called.{Called, Walker as Thread}
use Rattle.search_endings.specs.Endings.{Ending}
use Rattle.search_runs.specs.Ends.{HasEndedSo}
use Rattle.search_runs.proofs.Tame.{missing}
use Rattle.search_parts.specs.Walkers.{StandsForThread}
use Rattle.search_parts.specs.declared.walker.RestingThread.{RestingThread}
use Rattle.search_parts.specs.declared.walker.RestingThread.TheVariants.{Missing, Going, Ended, Leaving, Away}
use Rattle.search_parts.specs.declared.shared.Common.{Common}
use Rattle.search_parts.specs.declared.shared.HashedThread.{HashedThread}
use Rattle.search_parts.specs.Endings.{outcome_away, outcome_at, HaveLeft, IsOneHere}
use Rattle.search_parts.specs.Threads.{threads_of}

-- lists

same_at : {A : Type 0} (xs ys : List A) → length xs ≡ length ys
    → ((m : ℕ) (x y : A) → slice_get xs m ≡ Some x → slice_get ys m ≡ Some y → x ≡ y) → xs ≡ ys
same_at [] [] len each = refl
same_at [] (y ∷ ys) len each = absurd (omega (arith, len))
same_at (x ∷ xs) [] len each = absurd (omega (arith, len))
same_at (x ∷ xs) (y ∷ ys) len each =
    let head = each 0 x y refl refl in
    let tail = same_at xs ys (omega (arith, len)) (λ m a b p q. each (suc m) a b p q) in
    λ i. head i ∷ tail i

contained_at : {A : Type 0} (xs : List A) (x : A) (k : ℕ) → k < length xs → slice_index_or xs k x ≡ x → slice_get xs k ≡ Some x
contained_at [] x k low is = absurd (omega (arith, low))
contained_at (y ∷ xs) x zero low is = ap (λ z. Some z) is
contained_at (y ∷ xs) x (suc k) low is = contained_at xs x k (omega (arith, low)) is

pub some_same : {A : Type 0} (x y : A) → Some x ≡ Some y → x ≡ y
some_same x y h = cc h

-- a thread

away : (w : WithTables) (s : RestingThread) (v : Thread) → StandsForThread w s v → (o : Outcome) → outcome_away s ≡ Some o → v ≡ Left o
away w Missing v st o h = absurd (cc h)
away w (Going k p) v st o h = absurd (cc h)
away w (Ended x) v st o h = absurd (cc h)
away w (Leaving x) v st o h = absurd (cc h)
away w (Away x) v st o h = let same : x ≡ o = cc h in st ∙ ap (λ y. Left y) same

here : (w : WithTables) (s : RestingThread) (v : Thread) → StandsForThread w s v → outcome_away s ≡ None → (o : Outcome) → v ≡ Left o → ⊥
here w Missing v st h o left = absurd (cc (sym st ∙ left))
here w (Going k p) v st h o left = let is = st.1 in absurd (cc (sym is ∙ left))
here w (Ended x) v st h o left = absurd (cc (sym st ∙ left))
here w (Leaving x) v st h o left = absurd (cc (sym st ∙ left))
here w (Away x) v st h o left = absurd (cc h)

-- threads that have left

left_at : (threads : List HashedThread) (outcomes : List Outcome) → HaveLeft threads outcomes → (m : ℕ) (o : Outcome) → slice_get outcomes m ≡ Some o
    → (t : HashedThread) × (slice_get threads m ≡ Some t) × (outcome_at t ≡ Some o)
left_at [] [] have m o at = absurd (cc at)
left_at [] (x ∷ outcomes) have m o at = absurd (cc have)
left_at (t ∷ threads) [] have m o at = absurd (cc have)
left_at (t ∷ threads) (x ∷ outcomes) have zero o at = (t, refl, cc (have, at))
left_at (t ∷ threads) (x ∷ outcomes) have (suc m) o at = left_at threads outcomes (cc have) m o at

left_count : (threads : List HashedThread) (outcomes : List Outcome) → HaveLeft threads outcomes → length outcomes ≡ length threads
left_count threads outcomes have =
    sym (length-map outcomes (λ (o : Outcome). Some o)) ∙ (ap length (sym have) ∙ length-map threads outcome_at)

-- a state has one ending

left_alike : (v : Thread) (x y : Outcome) → v ≡ Left x → v ≡ Left y → x ≡ y
left_alike v x y p q = cc (sym p ∙ q)

pub one_ending : (dump : ℕ) (z : systems.State Shared Thread) (x y : Ending) → HasEndedSo dump z x → HasEndedSo dump z y → x ≡ y
one_ending dump z x y one other =
    let outcomes = same_at x.outcomes y.outcomes (one.count ∙ sym other.count)
    (λ m a b p q. left_alike (z.threads m) a b (one.left m a p) (other.left m b q)) in
    let pages_so = one.pages_are ∙ sym other.pages_are in
    let bytes_so = one.bytes_are ∙ sym other.bytes_are in
    λ i. record { outcomes = outcomes i; pages = pages_so i; bytes = bytes_so i }

module _ (w : WithTables) (b : Called) (allowed : Allowed) (opening : List ℕ) (flat : RestingState Common HashedThread)
    (z : systems.State Shared Thread) (at : IsAt (threads_of w b allowed opening) flat z) where
  abbrev threads : List HashedThread
  threads = flat.threads.items

  stood : (m : ℕ) (t : HashedThread) → slice_get flat.threads.items m ≡ Some t → StandsForThread w t.standing (z.threads m)
  stood m t is = (at.settled_is.each m t is).stands

  pub ended : (dump : ℕ) (e : Ending) (m : Memory) → HaveLeft threads e.outcomes → m ≡ memory_of opening flat.shared.memory → e.pages ≡ pages m
      → e.bytes ≡ take dump (Memory.bytes m) → HasEndedSo dump z e
  ended dump e m have is pages_so bytes_so =
      let memory : m ≡ z.shared.memory = is ∙ at.settled_is.shared.memory in
      record {
        count = left_count threads e.outcomes have ∙ at.settled_is.len;
        left = λ k o there. (let l = left_at threads e.outcomes have k o there in
            away w l.0.standing (z.threads k) (stood k l.0 l.1) o l.2);
        others = λ k past. missing b z at.reached k past;
        pages_are = pages_so ∙ ap pages memory;
        bytes_are = bytes_so ∙ ap (λ (n : Memory). take dump n.bytes) memory;
      }

  pub not_ended : (dump : ℕ) → IsOneHere threads → (e : Ending) → HasEndedSo dump z e → ⊥
  not_ended dump one e end =
      let t = one.0 in
      let place = one.1.0 in
      let low = one.1.1 in
      let len = at.settled_is.len in
      let count = end.count in
      let left = is_there e.outcomes place (omega (arith, low, len, count)) in
      here w t.standing (z.threads place) (stood place t (contained_at threads t place low one.1.2)) one.2 left.0 (end.left place left.0 left.1)
    where
      is_there : {A : Type 0} (xs : List A) (n : ℕ) → n < length xs → (x : A) × (slice_get xs n ≡ Some x)
      is_there [] n lt = absurd (omega (arith, lt))
      is_there (x ∷ xs) zero lt = (x, refl)
      is_there (x ∷ xs) (suc n) lt = is_there xs n (omega (arith, lt))
