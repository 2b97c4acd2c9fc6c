-- A thread that was changed at its place in the list.
use Rattle.std.proofs.Common.{◌≡◌, ◌∙◌, ◌++◌, ℕ, List, Some, refl, ap, subst, slice_get, slice_index_or, length, take}
use Rattle.std.proofs.lemmas.List.{take_at}
use Rattle.std.specs.Prelude.{slice_set}
use Rattle.std.proofs.lemmas.Option.{get_or_from_slice_get}
use Rattle.interp_trait.specs.Turns.{Meaning, StaysAs}
use Rattle.replay_walk.specs.Standing.{IsReplaced}

-- what holds of the thread that indexing gave holds of the one that stands there
pub at_place : {S : Type 0} (threads : List S) (n : ℕ) (found : S) (P : S → Type 0) → P (slice_index_or threads n found)
    → (x : S) → slice_get threads n ≡ Some x → P x
at_place threads n found P h x at = subst P (get_or_from_slice_get threads n x found at) h

-- it stays the thread that it was
abbrev pub stayed : {S : Type 0} (meaning : S → Meaning) (threads : List S) (n : ℕ) (x now : S) → StaysAs (meaning x) (meaning now)
    → IsReplaced meaning x threads n (slice_set threads n now)
stayed meaning threads n x now stays = record { now = now; list = refl; same_program = stays.program; same_fuel = stays.fuel }

-- as many as were lent are there again
pub count_back : {A : Type 0} (new lent was rest : List A) (n : ℕ) → length new ≡ length lent → lent ≡ was → length lent ≡ n
    → length (take n (new ++ rest)) ≡ length was
count_back {A} new lent was rest n as_many same is =
    ap (λ (l : List A). length l) (take_at new rest n (as_many ∙ is)) ∙ as_many ∙ ap (λ (l : List A). length l) same
