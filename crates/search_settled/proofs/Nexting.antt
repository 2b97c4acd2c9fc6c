-- The rows of the next states, of one thread after the other.
use Rattle.std.proofs.Common.{◌≡◌, inl, inr, ℕ, zero, suc, ◌+◌, ◌^◌, ◌<◌, ◌≤◌, ◌&&◌, Bool, true, List, [], ◌∷◌, ◌++◌}
use Rattle.std.proofs.Common.{length, Some, None, refl, sym, ◌∙◌, ap, subst, arith, true≢false}
use Rattle.std.specs.Prelude.{slice_set, take}
use Rattle.std.specs.Cmp.{first_so, second_so}
use Rattle.std.specs.List.{slice_get, AllZip}
use Rattle.std.specs.Cmp.Lexicographic.{pointwise}
use Rattle.std.proofs.lemmas.List.{length-set, take_more, take_all}
use Rattle.std.proofs.lemmas.List.Elements.{Contains-push, Contains-push_cases, Contains-append_left}
use Rattle.std.proofs.lemmas.Option.{slice_get_within, get_or_from_slice_get}
use Rattle.std.proofs.lemmas.Slice.Zip.{all_zipped_more}
use Rattle.schedule.specs.System.{State}
use Rattle.search_table.specs.declared.parts.StateParts.{StateParts}
use Rattle.search_table.specs.Tables.{AreThreads, IsRow, HasEqual, Grows}
use Rattle.search_reach.specs.declared.explores.NextState.{NextState}
use Rattle.search_reach.proofs.Ascending.{ascend-alike}
use Rattle.search_settled.specs.declared.flat.RestingState.{RestingState}
use Rattle.search_settled.specs.declared.met.NextRow.{NextRow}
use Rattle.search_settled.specs.declared.met.QuietTurn.{QuietTurn}
use Rattle.search_settled.specs.declared.met.QuietTurn.TheVariants.{Still, Alone}
use Rattle.search_settled.specs.declared.turns.EventOutcome.{EventOutcome}
use Rattle.search_settled.specs.declared.turns.EventOutcome.TheVariants.{Told, Heard}
use Rattle.search_settled.specs.Settled.{AreTame}
use Rattle.search_settled.specs.Threads.{ThreadSystem, IsFlat}
use Rattle.search_settled.specs.Next.{IsAt, IsSomewhere, IsNextBy, IsNextOf, IsStuckAfter}
use Rattle.search_settled.specs.Flat.{AreBounded, IsThreadOf, IsEventAt, HasNextBelow}
use Rattle.search_settled.specs.Same.{same_length, flat_eq, flat_alike}
use Rattle.search_settled.specs.Known.{IsOf, IsNextRow, IsTurn, IsMade, OfNumbers, AreOfThread, IsThreadAt}
use Rattle.search_settled.specs.Known.{AreNextBelow, AreNextRows, IsRowAfter, IsRowOfEqual, IsLostBy}
use Rattle.search_settled.proofs.Rows.{grows-then, next-grow, row-grows, threads-grow, beside, zip-length}
use Rattle.search_settled.proofs.Knowing.{of-numbers}
use Rattle.search_settled.proofs.Following.{come-from, below-none, below-same, below-more, below-all}

-- the state with other parts
unfoldable pub with_parts : {G H : Type 0} (c : RestingState G H) → G → (xs : List H) → length xs < 2 ^ 63 → RestingState G H
with_parts c g xs few = record {
  shared = g;
  threads = record {
    ptr = c.threads.ptr;
    len = length xs;
    cap = length xs;
    alloc = c.threads.alloc;
    items = xs;
    ok = (refl, omega arith);
    small = few;
  };
}

-- a row in which one of the numbers behind the first is replaced
pub set-behind : (first : ℕ) (numbers row : List ℕ) (n at number : ℕ) → at ≡ n + 1 → row ≡ first ∷ numbers
    → slice_set row at number ≡ first ∷ slice_set numbers n number
set-behind first numbers row n at number is are =
    let next : at ≡ suc n = omega (arith, is) in
    ap (λ (i : ℕ). slice_set row i number) next ∙ ap (λ l. slice_set l (suc n) number) are

-- two lists beside each other, in each of which one is replaced
pub zip-set : {A B : Type 0} (P : A → B → Type 0) (xs : List A) (ys : List B) → AllZip P xs ys → (n : ℕ) (x : A) (y : B) → P x y
    → AllZip P (slice_set xs n x) (slice_set ys n y)
zip-set P [] [] are n x y is = tt
zip-set P [] (d ∷ ys) are n x y is = absurd are
zip-set P (c ∷ xs) [] are n x y is = absurd are
zip-set P (c ∷ xs) (d ∷ ys) are zero x y is = (is, are.1)
zip-set P (c ∷ xs) (d ∷ ys) are (suc n) x y is = (are.0, zip-set P xs ys are.1 n x y is)

module _ {X T E V A G H M : Type 0} (k : ThreadSystem X T E V A G H M) where
  few-threads : AreBounded k.system k.first k.count k.most → (c : RestingState G H) → IsSomewhere k c → length c.threads.items < 2 ^ 63
  few-threads bounded c at =
      let is = at.1.settled_is in
      let len = is.len in
      let few = bounded.few at.0 at.1.reached in
      let low = bounded.numbered in
      omega (arith, len, few, low)

  pub of-state : (t : StateParts G H) (shared : ℕ) (numbers : List ℕ) (thread n : ℕ) (c : RestingState G H) →
      (a : IsThreadAt k t (shared ∷ numbers) thread n c) → (z : State X T) → IsAt k c z
      → IsThreadOf k c.shared a.thread_is n z
  of-state t shared numbers thread n c a z at = (at.reached, (at.settled_is).shared, (at.settled_is).each n a.thread_is a.among)

  -- its number
  pub low-at : AreBounded k.system k.first k.count k.most → (t : StateParts G H) (shared : ℕ) (numbers : List ℕ) (thread n : ℕ) (c : RestingState G H) →
      IsThreadAt k t (shared ∷ numbers) thread n c → n < k.most
  low-at bounded t shared numbers thread n c a =
      let at = a.somewhere in
      let is = at.1.settled_is in
      let len = is.len in
      let few = bounded.few at.0 at.1.reached in
      let within = slice_get_within c.threads.items n a.thread_is a.among in
      omega (arith, len, few, within)

  -- so many numbers there are
  pub within-at : (t : StateParts G H) (shared : ℕ) (numbers : List ℕ) (thread n : ℕ) (c : RestingState G H) → IsThreadAt k t (shared ∷ numbers) thread n c
      → n < length numbers
  within-at t shared numbers thread n c a =
      let long = zip-length (λ m x. slice_get t.threads.keys m ≡ Some x) numbers c.threads.items (a.of).1 in
      let low = slice_get_within c.threads.items n a.thread_is a.among in
      omega (arith, long, low)

  pub of-thread : (t : StateParts G H) (shared : ℕ) (numbers : List ℕ) (thread n : ℕ) (c : RestingState G H) → IsThreadAt k t (shared ∷ numbers) thread n c →
      AreOfThread k t shared thread n
  of-thread t shared numbers thread n c a =
      let at = a.somewhere in
      record {
        shared_is = c.shared;
        thread_is = a.thread_is;
        shared_at = (a.of).0;
        thread_at = a.thread_at;
        state = at.0;
        of = of-state t shared numbers thread n c a at.0 at.1;
      }

  -- the same next state by another name
  next-alike : (f y : RestingState G H) → ((z : State X T) → IsFlat k f z → IsFlat k y z) → (z : State X T) (n : ℕ) (e : E) → IsNextBy k z n e f →
      IsNextBy k z n e y
  next-alike f y alike z n e is = record { settled = is.settled; rest = is.rest; settled_is = alike is.settled is.settled_is }

  below-alike : (c : RestingState G H) (i n : ℕ) (xs : List (NextState (RestingState G H))) (f y : RestingState G H) →
      ((z : State X T) → IsFlat k f z → IsFlat k y z)
      → HasNextBelow k c i (xs ++ record { thread = n; state = f } ∷ []) → HasNextBelow k c i (xs ++ record { thread = n; state = y } ∷ [])
  below-alike c i n xs f y alike so = record {
    all = λ z is m low e wants. (let r = so.all z is m low e wants in elim (Contains-push_cases xs old r.0 r.1) [
      | inl before ↦ (r.0, Contains-append_left xs (new ∷ []) r.0 before, r.2, r.3)
      | inr same ↦ (new, Contains-push xs new, ap (λ v. v.thread) same ∙ r.2, next-alike f y alike z m e (subst (λ v. IsNextBy k z m e v.state) (sym same) r.3))
    ]);
    sound = λ z is x among. elim (Contains-push_cases xs new x among) [
      | inl before ↦ so.sound z is x (Contains-append_left xs (old ∷ []) x before)
      | inr same ↦ (let r = so.sound z is old (Contains-push xs old) in
          subst (λ v. IsNextOf k z v) same (record { event = r.event; wants = r.wants; next = next-alike f y alike z n r.event r.next }))
    ];
    ascend = ascend-alike i xs old new refl so.ascend;
  }
    where
      old : NextState (RestingState G H)
      old = record { thread = n; state = f }

      new : NextState (RestingState G H)
      new = record { thread = n; state = y }

  -- as the table grows
  pub at-grows : (t u : StateParts G H) → Grows t u → (shared : ℕ) (numbers : List ℕ) (thread n : ℕ) (c : RestingState G H) →
      IsThreadAt k t (shared ∷ numbers) thread n c → IsThreadAt k u (shared ∷ numbers) thread n c
  at-grows t u grows shared numbers thread n c a = record {
    of = row-grows t u grows (shared ∷ numbers) c.shared c.threads.items a.of;
    somewhere = a.somewhere;
    thread_is = a.thread_is;
    thread_at = grows.threads thread a.thread_is a.thread_at;
    among = a.among;
  }

  pub below-grows : (t u : StateParts G H) → Grows t u → (c : RestingState G H) (n : ℕ) (rs : List NextRow) → AreNextBelow k t c n rs → AreNextBelow k u c n rs
  below-grows t u grows c n rs so = record { next = so.next; below = so.below; are = next-grow t u grows rs so.next so.are }

  -- the turn that it is told to be
  pub told-of : (t u : StateParts G H) → Grows t u → (shared : ℕ) (numbers : List ℕ) (thread n : ℕ) (c : RestingState G H) →
      IsThreadAt k t (shared ∷ numbers) thread n c → (m : EventOutcome G M) (turn : QuietTurn)
      → m ≡ Told turn → OfNumbers k t shared thread (λ g h. IsMade k u g h n m) → OfNumbers k u shared thread (λ g h. IsTurn k u g h n turn)
  unfolding at-grows
  told-of t u grows shared numbers thread n c a m turn is so =
      let b = at-grows t u grows shared numbers thread n c a in
      of-numbers k u shared thread (λ g h. IsTurn k u g h n turn) c.shared a.thread_is (b.of).0 b.thread_at
      (subst (λ (x : EventOutcome G M). IsMade k u c.shared a.thread_is n x) is (so c.shared a.thread_is (a.of).0 a.thread_at))

  pub heard-of : (t u : StateParts G H) (shared thread n : ℕ) (m : EventOutcome G M) (after : G) (made : M) → m ≡ Heard after made
      → OfNumbers k t shared thread (λ g h. IsMade k u g h n m) → OfNumbers k t shared thread (λ g h. IsEventAt k g h n (Some (after, made)))
  heard-of t u shared thread n m after made is so g h a b = subst (λ (x : EventOutcome G M). IsMade k u g h n x) is (so g h a b)

  -- what put_next adds
  module _ (tame : AreTame k.system k.first k.most) (bounded : AreBounded k.system k.first k.count k.most) (t u v : StateParts G H) (first : Grows t u)
      (second : Grows u v)
      (shared : ℕ) (numbers : List ℕ) (thread n : ℕ) (c : RestingState G H) (at : IsThreadAt k t (shared ∷ numbers) thread n c) (rs : List NextRow)
      (so : AreNextBelow k t c n rs) where
    both : Grows t v
    both = grows-then t u v first second

    pub more-still : OfNumbers k t shared thread (λ g h. IsTurn k u g h n Still) → AreNextBelow k u c (n + 1) rs
    more-still turn = record {
      next = so.next;
      below = below-same k c n so.next at.thread_is so.below at.among (turn c.shared at.thread_is (at.of).0 at.thread_at);
      are = next-grow t u first rs so.next so.are;
    }

    pub more-alone : (s r : ℕ) → OfNumbers k t shared thread (λ g h. IsTurn k u g h n (Alone s r)) → (next : NextRow) → next.thread ≡ n
        → next.row.items ≡ s ∷ slice_set numbers n r → AreNextBelow k v c (n + 1) (rs ++ next ∷ [])
    unfolding with_parts
    more-alone s r turn next by made =
        let a = turn c.shared at.thread_is (at.of).0 at.thread_at in
        let alone = a.4 in
        let few = few-threads bounded c at.somewhere in
        let long = length-set c.threads.items n a.1 in
        let y = with_parts c a.0 (slice_set c.threads.items n a.1) (omega (arith, few, long)) in
        record {
          next = so.next ++ record { thread = n; state = y } ∷ [];
          below = below-more k tame bounded c n so.next at.thread_is (a.0, alone.made) y (slice_set c.threads.items n a.1) so.below at.among alone.event
              (alone.come c refl at.among) refl refl;
          are = all_zipped_more (IsNextRow v) rs so.next next (record { thread = n; state = y })
              (next-grow t v both rs so.next so.are)
              (record {
                thread = sym by;
                of = subst (λ l. IsOf v l y) (sym made) (
                  second.shared s a.0 a.2,
                  zip-set (λ m x. slice_get v.threads.keys m ≡ Some x) numbers c.threads.items (threads-grow t v both numbers c.threads.items (at.of).1)
                      n r a.1 (second.threads r a.1 a.3),
                );
              });
        }

    module _ (eq_shared : G → G → Bool) (eq_thread : H → H → Bool)
        (same_shared : (x y : G) → eq_shared x y ≡ true → (w : X) → k.shares x w → k.shares y w)
        (same_thread : (x y : H) → eq_thread x y ≡ true → (w : T) → k.is_thread x w → k.is_thread y w) where
      pub more-heard : (after : G) (made : M) (r : NextRow) → r.thread ≡ n → IsEventAt k c.shared at.thread_is n (Some (after, made))
          → IsRowAfter k eq_shared eq_thread v after made n c.threads.items r.row.items → AreNextBelow k v c (n + 1) (rs ++ r ∷ [])
      unfolding with_parts
      more-heard after made r by event is =
          let f = is.state in
          let w = is.row in
          let ok = (f.threads).ok in
          let small = (f.threads).small in
          let long = same_length eq_thread (f.threads).items w.threads w.threads_equal in
          let y = with_parts c w.shared w.threads (omega (arith, ok.0, ok.1, small, long)) in
          let equal : flat_eq eq_shared eq_thread f y ≡ true =
          ap (λ b. b && pointwise eq_thread (f.threads).items w.threads) w.shared_equal ∙ w.threads_equal in
          record {
            next = so.next ++ record { thread = n; state = y } ∷ [];
            below = below-alike c (n + 1) n so.next f y (flat_alike eq_shared eq_thread k same_shared same_thread f y equal)
                (below-more k tame bounded c n so.next at.thread_is (after, made) f (f.threads).items so.below at.among event
                (come-from k c after made n (f.threads).items is.come) is.shared refl);
            are = all_zipped_more (IsNextRow v) rs so.next r (record { thread = n; state = y })
                (next-grow t v both rs so.next so.are) (record { thread = sym by; of = w.of });
          }

  pub stuck-lost : (stuck : State X T → Type 0) (t : StateParts G H) (shared : ℕ) (numbers : List ℕ) (thread n : ℕ) (c : RestingState G H) →
      IsThreadAt k t (shared ∷ numbers) thread n c
      → OfNumbers k t shared thread (IsLostBy k stuck n) → IsStuckAfter k stuck c
  stuck-lost stuck t shared numbers thread n c at lost z is =
      let l = lost c.shared at.thread_is (at.of).0 at.thread_at z (of-state t shared numbers thread n c at z is) in
      (n, l.0, l.1, l.2)

  -- from thread to thread
  pub below-first : (t : StateParts G H) (c : RestingState G H) → AreNextBelow k t c 0 []
  below-first t c = record { next = []; below = below-none k c; are = tt }

  pub thread-at : (t : StateParts G H) (shared : ℕ) (numbers : List ℕ) (c : RestingState G H) → IsOf t (shared ∷ numbers) c → IsSomewhere k c → (n thread : ℕ)
      → slice_get numbers n ≡ Some thread → IsThreadAt k t (shared ∷ numbers) thread n c
  thread-at t shared numbers c of at n thread is =
      let b = beside (λ m x. slice_get t.threads.keys m ≡ Some x) numbers c.threads.items of.1 n thread is in
      record { of = of; somewhere = at; thread_is = b.0; thread_at = b.2; among = b.1 }

  pub below-done : (t u : StateParts G H) (shared : ℕ) (numbers : List ℕ) (c : RestingState G H) → IsOf t (shared ∷ numbers) c → (n : ℕ) → length numbers ≤ n
      → (rs : List NextRow) → AreNextBelow k u c n rs → AreNextRows k u c rs
  below-done t u shared numbers c of n past rs so =
      let long = zip-length (λ m x. slice_get t.threads.keys m ≡ Some x) numbers c.threads.items of.1 in
      record { next = so.next; has = below-all k c n so.next so.below (omega (arith, long, past)); are = so.are }

-- the threads of numbers, of which so many were read
unfoldable pub Read : {G H : Type 0} → StateParts G H → List ℕ → ℕ → List H → Type 0
Read {G} {H} t numbers n read = (xs : List H) → AreThreads t numbers xs → read ≡ take n xs

pub read-first : {G H : Type 0} (t : StateParts G H) (numbers : List ℕ) → Read t numbers 0 []
unfolding Read
read-first t numbers xs are = refl

pub read-more : {G H : Type 0} (t : StateParts G H) (numbers : List ℕ) (n number : ℕ) (read : List H) (x : H) → slice_get numbers n ≡ Some number
    → slice_get t.threads.keys number ≡ Some x → Read t numbers n read → Read t numbers (n + 1) (read ++ x ∷ [])
unfolding Read
read-more t numbers n number read x at is so xs are =
    let b = beside (λ m y. slice_get t.threads.keys m ≡ Some y) numbers xs are n number at in
    let same : b.0 ≡ x = cc (b.2, is) in
    let within = slice_get_within xs n b.0 b.1 in
    let one = get_or_from_slice_get xs n b.0 x b.1 in
    ap (λ l. l ++ x ∷ []) (so xs are) ∙ (ap (λ y. take n xs ++ y ∷ []) (sym (one ∙ same)) ∙ sym (take_more xs n x within))

-- a number that stands for no thread is in no state
pub read-none : {G H : Type 0} (t : StateParts G H) (numbers : List ℕ) (n number : ℕ) (read : List H) → slice_get numbers n ≡ Some number
    → slice_get t.threads.keys number ≡ None → Read t numbers n read → Read t numbers (n + 1) read
unfolding Read
read-none t numbers n number read at none so xs are =
    let b = beside (λ m y. slice_get t.threads.keys m ≡ Some y) numbers xs are n number at in
    absurd (cc (b.2, none))

pub read-all : {G H : Type 0} (t : StateParts G H) (numbers : List ℕ) (n : ℕ) (read : List H) → length numbers ≤ n → Read t numbers n read
    → (xs : List H) → AreThreads t numbers xs → read ≡ xs
unfolding Read
read-all t numbers n read past so xs are =
    let long = zip-length (λ m y. slice_get t.threads.keys m ≡ Some y) numbers xs are in
    so xs are ∙ take_all n xs (omega (arith, long, past))

-- a row with the numbers of these threads
pub record RowSoFar {G H : Type 0} (eq : H → H → Bool) (t : StateParts G H) (first : ℕ) (all : List H) (row : List ℕ) : Type 0 where
  pub numbers : List ℕ
  pub equal : List H
  pub are : row ≡ first ∷ numbers
  pub same : pointwise eq all equal ≡ true
  pub threads : AreThreads t numbers equal

module _ {H : Type 0} (eq : H → H → Bool) where
  pointwise-more : (xs ys : List H) (x y : H) → pointwise eq xs ys ≡ true → eq x y ≡ true → pointwise eq (xs ++ x ∷ []) (ys ++ y ∷ []) ≡ true
  pointwise-more [] [] x y e is = ap (λ b. b && true) is
  pointwise-more [] (d ∷ ys) x y e is = absurd (true≢false (sym e))
  pointwise-more (c ∷ xs) [] x y e is = absurd (true≢false (sym e))
  pointwise-more (c ∷ xs) (d ∷ ys) x y e is =
      ap (λ b. b && pointwise eq (xs ++ x ∷ []) (ys ++ y ∷ [])) (first_so (eq c d) (pointwise eq xs ys) e)
      ∙ pointwise-more xs ys x y (second_so (eq c d) (pointwise eq xs ys) e) is

module _ {G H : Type 0} (eq : H → H → Bool) where
  pub row-first : (t : StateParts G H) (first : ℕ) (row : List ℕ) → row ≡ first ∷ [] → RowSoFar eq t first [] row
  row-first t first row is = record { numbers = []; equal = []; are = is; same = refl; threads = tt }

  pub row-more : (t u : StateParts G H) → Grows t u → (first : ℕ) (threads : List H) (row after : List ℕ) (thread : H) (number : ℕ) →
      RowSoFar eq t first threads row
      → HasEqual eq u.threads.keys number thread → after ≡ row ++ number ∷ [] → RowSoFar eq u first (threads ++ thread ∷ []) after
  row-more t u grows first threads row after thread number so has pushed = record {
    numbers = so.numbers ++ number ∷ [];
    equal = so.equal ++ has.key ∷ [];
    are = pushed ∙ ap (λ l. l ++ number ∷ []) so.are;
    same = pointwise-more eq threads so.equal thread has.key so.same has.is;
    threads = all_zipped_more (λ m y. slice_get u.threads.keys m ≡ Some y) so.numbers so.equal number has.key
        (threads-grow t u grows so.numbers so.equal so.threads) has.at;
  }

pub row-done : {G H : Type 0} (eq_shared : G → G → Bool) (eq_thread : H → H → Bool) (t u : StateParts G H) → Grows t u → (c : RestingState G H) (first : ℕ)
    → HasEqual eq_shared t.shared.keys first c.shared → (row : List ℕ) → RowSoFar eq_thread u first c.threads.items row →
    IsRowOfEqual eq_shared eq_thread u c row
row-done eq_shared eq_thread t u grows c first has row so = record {
  shared = has.key;
  threads = so.equal;
  of = subst (λ r. IsRow u r has.key so.equal) (sym so.are) (grows.shared first has.key has.at, so.threads);
  shared_equal = has.is;
  threads_equal = so.same;
}
