-- The seats of a run, after the last round of meetings.
use Rattle.std.proofs.Common.{◌≡◌, ℕ, ◌+◌, ◌<◌, Bool, List, [], ◌∷◌, ◌++◌, length, refl, sym, ◌∙◌, ap, subst, arith, length-append, get_or, below_more}
use Rattle.std.proofs.lemmas.Grind.{common_steps}
use Rattle.std.proofs.lemmas.List.{get_or_default}
use mathlib.Core.List.{IsPrefix}
use Rattle.types.specs.declared.event.Entry.{Entry}
use Rattle.types.specs.declared.limits.TheConstants.{MOST_THREADS, DESK_NAME, SEATS}
use Rattle.shared_memory.specs.Memory.{Memory}
use Rattle.shared_memory.specs.History.{entries_of}
use Rattle.shared_memory.specs.Legal.{IsQueueLegal}
use Rattle.shared_memory.specs.Access.{IsSeen}
use Rattle.shared_memory.proofs.Histories.{same_queue_legal}
use Rattle.spawn_host_workers.specs.Level.{Level}

pub get_or-left : {A : Type 0} (xs : List A) (y : A) (k : ℕ) (d : A) → k < length xs → get_or (xs ++ y ∷ []) k d ≡ get_or xs k d
get_or-left xs y k d lt = grind (arith, common_steps)

pub get_or-last : {A : Type 0} (xs : List A) (y : A) (d : A) → get_or (xs ++ y ∷ []) (length xs) d ≡ y
get_or-last xs y d = grind (arith, common_steps)

-- All 65 have seen one list, which goes on from what each of the first 64 had seen, by nothing of its own.
pub record IsHome {S : Type 0} (opening : Memory) (name : S → ℕ) (seen : S → List Entry) (d : S) (home all : List S) (history : List Entry) : Type 0 where
  pub len : length all ≡ SEATS
  pub names : (k : ℕ) (d : S) → k < SEATS → name (get_or all k d) ≡ k
  pub seen_by : (k : ℕ) (d : S) → k < SEATS → seen (get_or all k d) ≡ history
  pub legal : IsSeen opening history
  pub queue : IsQueueLegal history
  pub owned : (k : ℕ) → k < MOST_THREADS → entries_of k history ≡ entries_of k (seen (get_or home k d))
  pub holds : (k : ℕ) → k < MOST_THREADS → IsPrefix (seen (get_or home k d)) history
  pub desk : entries_of DESK_NAME history ≡ []

module _
    {S : Type 0} (opening : Memory) (name : S → ℕ) (right : S → Bool) (seen : S → List Entry) (e hub hub' : S)
    (home home' all : List S) (count : length home ≡ MOST_THREADS)
    (named : (k : ℕ) → k < MOST_THREADS → name (get_or home k e) ≡ k) (all_are : all ≡ home' ++ hub' ∷ [])
    (level : Level opening name right seen hub hub' home home')
    (legal : IsQueueLegal (seen hub)) (hub_name : name hub ≡ DESK_NAME) (hub_silent : entries_of DESK_NAME (seen hub) ≡ []) where
  count' : length home' ≡ MOST_THREADS
  count' = level.len ∙ count

  all_at : (k : ℕ) (d : S) → k < MOST_THREADS → get_or all k d ≡ get_or home' k d
  all_at k d lt = ap (λ l. get_or l k d) all_are ∙ get_or-left home' hub' k d (omega (arith, count', lt))

  all_last : (d : S) → get_or all DESK_NAME d ≡ hub'
  all_last d = ap (λ l. get_or l DESK_NAME d) all_are ∙ subst (λ (k : ℕ). get_or (home' ++ hub' ∷ []) k d ≡ hub') count' (get_or-last home' hub' d)

  pub come_home : IsHome opening name seen e home all (seen hub')
  come_home = record {
    len = ap length all_are ∙ length-append home' (hub' ∷ []) ∙ ap (λ (k : ℕ). k + 1) count';
    names = λ k d lt.
        below_more (λ (j : ℕ). name (get_or all j d) ≡ j) MOST_THREADS
        (λ j low. let inside : j < length home = omega (arith, count, low) in
        rw (all_at j d low) ((level.goes j d inside).name_is ∙ (ap name (get_or_default home j d e inside) ∙ named j low)))
        (rw (all_last d) (level.hub_goes.name_is ∙ hub_name)) k lt;
    seen_by = λ k d lt.
        below_more (λ (j : ℕ). seen (get_or all j d) ≡ seen hub') MOST_THREADS
        (λ j low. rw (all_at j d low) (level.one j d (omega (arith, count, low)))) (rw (all_last d) refl) k lt;
    legal = level.legal (omega (arith, count));
    queue = same_queue_legal (seen hub') (seen hub) level.hub_goes.queue legal;
    owned = λ k lt.
        let inside : k < length home = omega (arith, count, lt) in
        let goes = rw (named k lt) at (level.goes k e inside).owned in
        ap (entries_of k) (sym (level.one k e inside)) ∙ goes;
    holds = λ k lt. level.holds k e (omega (arith, count, lt));
    desk = (let same = rw hub_name at level.hub_goes.owned in same ∙ hub_silent);
  }
