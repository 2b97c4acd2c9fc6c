-- The rows of next states by turns that are known.
use Rattle.std.proofs.Common.{◌≡◌, ℕ, ◌+◌, ◌^◌, ◌<◌, ◌≤◌, ◌&&◌, Bool, true, List, [], ◌∷◌, ◌++◌, length, Option, Some, None}
use Rattle.std.proofs.Common.{refl, sym, ◌∙◌, ap, subst, arith}
use Rattle.std.specs.Prelude.{slice_set}
use Rattle.std.specs.Cmp.{first_so, second_so, IsEquivalence}
use Rattle.std.specs.Cmp.Lexicographic.{pointwise, lists_equiv}
use Rattle.std.specs.List.{slice_get}
use Rattle.std.proofs.lemmas.Option.{same_Some}
use Rattle.schedule.specs.System.{State}
use Rattle.search_table.specs.declared.parts.StateParts.{StateParts}
use Rattle.search_table.specs.Tables.{IsRow, Grows, states_of}
use Rattle.search_reach.specs.declared.explores.NextState.{NextState}
use Rattle.search_settled.specs.declared.access.NextAccess.{NextAccess}
use Rattle.search_settled.specs.declared.flat.RestingState.{RestingState}
use Rattle.search_settled.specs.declared.met.NextRow.{NextRow}
use Rattle.search_settled.specs.declared.met.QuietTurn.TheVariants.{Alone}
use Rattle.search_settled.specs.Settled.{AreTame}
use Rattle.search_settled.specs.Accesses.{WritesOver}
use Rattle.search_settled.specs.Threads.{ThreadSystem}
use Rattle.search_settled.specs.Known.{IsOf, IsTurnBy}
use Rattle.search_settled.proofs.Rows.{beside, zip-length, row-grows, row-alike}
use Rattle.search_race_free.specs.declared.owning.Touch.{Touch}
use Rattle.search_race_free.specs.declared.owning.Owning.{Owning}
use Rattle.search_race_free.specs.declared.met.Held.{Held}
use Rattle.search_race_free.specs.declared.known.TurnOf.{TurnOf}
use Rattle.search_race_free.specs.declared.known.LeadsTo.{LeadsTo}
use Rattle.search_race_free.specs.contracts.owning.TouchPartialEq.TheImpl as touches
use Rattle.search_race_free.specs.contracts.owning.TouchEq.TheImpl.Laws.{laws-law as touch_laws}
use Rattle.search_race_free.specs.Wanted.{ArePlain}
use Rattle.search_race_free.specs.Touches.{access_at, IsOver, AreClear}
use Rattle.search_race_free.specs.Search.{IsAccessOf, AreWanted, IsKnown, ComesOnward}
use Rattle.search_race_free.specs.Met.{held, held_eq}
use Rattle.search_race_free.specs.Known.{Stills, IsTurnFrom, WritesOverNone, GoesOnAlone, HasTurn, IsTurnOf, IsKnownRow, RestsInRow, IsClear}
use Rattle.search_race_free.specs.Known.{AreRowsBelow, AddsRow, AreRowsOf, OfHeldRow, WantsInRow}
use Rattle.search_settled.specs.Flat.{AreBounded, IsThreadOf}
use Rattle.search_race_free.proofs.Wanting.{thread-at, WantedSoFar, wanted-none, wanted-more, wanted-all}
use Rattle.search_race_free.proofs.Beginning.{known-owned}
use Rattle.search_race_free.proofs.Continuing.{onward-kept}
use Rattle.search_race_free.proofs.Following.{below-none, below-same, below-more, below-all}
use Rattle.search_race_free.proofs.Held.{rows-none, rows-more, copy-self, row-at}
use Rattle.search_race_free.proofs.Keeping.{row-met, known-copy}
use Rattle.search_race_free.specs.declared.met.StateTable.{StateTable}
use Rattle.search_race_free.specs.Met.{HasOwning}
use Rattle.search_race_free.specs.Reduced.{reduced_steps}
use Rattle.search_race_free.specs.Search.{NoneBeyond}
use Rattle.search_race_free.specs.Known.{HasRowsAt}
use Rattle.search_reach.specs.Meeting.{HasMetAt}
use Rattle.search_race_free.proofs.Knowing.{but, but-is, but-row}
use Rattle.search_race_free.proofs.Pieces.{same-parts, copy-same}

-- what is held equals itself
pub held-self : {G : Type 0} (eq_shared : G → G → Bool) → IsEquivalence eq_shared → (x : Held G) → held_eq eq_shared x x ≡ true
held-self eq_shared laws x =
    let touched = lists_equiv touch_laws in
    ap (λ b. b && pointwise touches.eq-value.it x.owned.items x.owned.items) (laws.refl x.shared) ∙ touched.refl x.owned.items

-- the turn of a thread, by numbers
module _ {X T E V A G H M : Type 0} (k : ThreadSystem X T E V A G H M) where
  pub turn-known : (t : StateParts (Held G) H) (of : TurnOf) (to : LeadsTo) → HasTurn k t of
      → ((g : Held G) (h : H) → slice_get t.shared.keys of.held ≡ Some g → slice_get t.threads.keys of.thread ≡ Some h
      → IsTurnBy Stills (GoesOnAlone k) t g h of.n (Alone to.held to.thread))
      → IsTurnOf k t t of to
  turn-known t of to has so =
      let is = so has.held_is has.thread_is has.held_at has.thread_at in
      record {
        held_is = is.0;
        thread_is = is.1;
        held_at = is.2;
        thread_at = is.3;
        goes = λ g h a b. (
            let same : has.held_is ≡ g = cc (has.held_at, a) in
            let also : has.thread_is ≡ h = cc (has.thread_at, b) in
            subst (λ v. GoesOnAlone k g v of.n is.0 is.1) also (subst (λ v. GoesOnAlone k v has.thread_is of.n is.0 is.1) same is.4));
      }

  pub turn-new : (t u : StateParts (Held G) H) (of : TurnOf) (to : LeadsTo) (g after : Held G) (h rested : H) → slice_get t.shared.keys of.held ≡ Some g
      → slice_get t.threads.keys of.thread ≡ Some h → slice_get u.shared.keys to.held ≡ Some after → slice_get u.threads.keys to.thread ≡ Some rested
      → GoesOnAlone k g h of.n after rested → IsTurnOf k t u of to
  turn-new t u of to g after h rested held_at thread_at to_held to_thread so = record {
    held_is = after;
    thread_is = rested;
    held_at = to_held;
    thread_at = to_thread;
    goes = λ x y a b. (
        let same : g ≡ x = cc (held_at, a) in
        let also : h ≡ y = cc (thread_at, b) in
        subst (λ v. GoesOnAlone k x v of.n after rested) also (subst (λ v. GoesOnAlone k v h of.n after rested) same so));
  }

  -- what a turn that writes over nothing is
  pub over-none : (before : List (Option NextAccess)) (s : Owning (RestingState G H)) (n : ℕ) (access : NextAccess) → AreWanted k s.flat before
      → access_at before n ≡ Some access → ((x : Touch) → IsOver before n access x → ⊥) → WritesOverNone k s n
  over-none before s n access are is none z at a b t d wants_n wants_t w =
      none (record { thread = t; access = b }) (record {
        wants = are z at t ∙ wants_t;
        other = d;
        over = subst (λ v. WritesOver v b) (same_Some a access (sym wants_n ∙ (sym (are z at n) ∙ is))) w;
      })

  module _ (tame : AreTame k.system k.first k.most) (plain : ArePlain k.system k.accesses k.first) where
    -- the thread of a row whose turn it is
    pub turn-from : (t : StateParts (Held G) H) (number : ℕ) (numbers : List ℕ) (s : Owning (RestingState G H)) → IsOf t (number ∷ numbers) (held s)
        → IsKnown k s → (n thread : ℕ) → slice_get numbers n ≡ Some thread → WritesOverNone k s n
        → (h : H) × (slice_get t.threads.keys thread ≡ Some h) × IsTurnFrom k (held s).shared h n s
    turn-from t number numbers s of known n thread at over =
        let b = beside (λ m x. slice_get t.threads.keys m ≡ Some x) numbers s.flat.threads.items of.1 n thread at in
        (b.0, b.2, record { owned = known-owned k tame plain s known; held_is = refl; there = b.1; over = over })

    pub has-turn : (t : StateParts (Held G) H) (number : ℕ) (numbers : List ℕ) → IsKnownRow k t (number ∷ numbers) → (n thread : ℕ)
        → slice_get numbers n ≡ Some thread → OfHeldRow t (number ∷ numbers) (λ s. WritesOverNone k s n)
        → HasTurn k t (record { held = number; thread = thread; n = n })
    has-turn t number numbers row n thread at over =
        let s = row.state in
        let f = turn-from t number numbers s row.of (row.known s row.of) n thread at (over s row.of) in
        record { held_is = (held s).shared; thread_is = f.0; held_at = (row.of).0; thread_at = f.1; any = (s, f.2) }

    module _ (t u : StateParts (Held G) H) (grows : Grows t u) (number : ℕ) (numbers : List ℕ) (row : IsKnownRow k t (number ∷ numbers))
        (n thread : ℕ) (at : slice_get numbers n ≡ Some thread) (over : OfHeldRow t (number ∷ numbers) (λ s. WritesOverNone k s n))
        (to : LeadsTo) (leads : IsTurnOf k t u (record { held = number; thread = thread; n = n }) to)
        (next : List ℕ) (put : next ≡ to.held ∷ slice_set numbers n to.thread) where
      -- where it leads
      led : Owning (RestingState G H) → Owning (RestingState G H)
      led s = but s n leads.held_is leads.thread_is

      goes : (s : Owning (RestingState G H)) → IsOf t (number ∷ numbers) (held s) → ComesOnward k n s (led s)
      unfolding led
      goes s of =
          let f = turn-from t number numbers s of (row.known s of) n thread at (over s of) in
          leads.goes (held s).shared f.0 of.0 f.1 s (but s n leads.held_is leads.thread_is) f.2 (but-is s n leads.held_is leads.thread_is)

      led-row : (s : Owning (RestingState G H)) → IsOf t (number ∷ numbers) (held s) → IsOf u next (held (led s))
      unfolding led
      led-row s of =
          let y = but s n leads.held_is leads.thread_is in
          subst (λ r. IsOf u r (held y)) (sym put)
          (but-row u number numbers s y (row-grows t u grows (number ∷ numbers) (held s).shared (held s).threads.items of) n to.held to.thread
          leads.held_is leads.thread_is leads.held_at leads.thread_at (but-is s n leads.held_is leads.thread_is))

      pub rests-there : RestsInRow k u next
      rests-there =
          let s = row.state in
          let one = goes s row.of in
          let owned = one.owned in
          (led s, led-row s row.of, owned.somewhere)

      pub adds-row : (eq_shared : G → G → Bool) (eq_thread : H → H → Bool) → ((x : Held G) → held_eq eq_shared x x ≡ true)
          → ((x : H) → eq_thread x x ≡ true) → (all after : List NextRow) (new : NextRow) → new.thread ≡ n → new.row.items ≡ next → after ≡ all ++ new ∷ []
          → OfHeldRow u next (IsClear k) → OfHeldRow t (number ∷ numbers) (AddsRow k eq_shared eq_thread t u n all after)
      adds-row eq_shared eq_thread self_held self_thread all after new by is pushed clear s of so =
          let y = led s in
          let there = led-row s of in
          let c = clear y there in
          let x : NextState (Owning (RestingState G H)) = record { thread = n; state = y } in
          let same = row-alike (held_eq eq_shared) eq_thread self_held self_thread u next (held y) (held y) there there in
          record {
            next = so.next ++ x ∷ [];
            below = below-more k s n so.next x refl (onward-kept k tame plain s y n c.wanted (goes s of) c.are c.clear) so.below;
            rows = rows-more eq_shared eq_thread t u grows so.next all after x new so.rows by (record {
              shared = (held y).shared;
              threads = y.flat.threads.items;
              of = subst (λ r. IsOf u r (held y)) (sym is) there;
              shared_equal = first_so (held_eq eq_shared (held y).shared (held y).shared) (pointwise eq_thread y.flat.threads.items y.flat.threads.items) same;
              threads_equal = second_so (held_eq eq_shared (held y).shared (held y).shared) (pointwise eq_thread y.flat.threads.items y.flat.threads.items) same;
            }) pushed;
          }

  -- a row as the table grows
  module _ (t u : StateParts (Held G) H) (grows : Grows t u) (r : List ℕ) (s : Owning (RestingState G H)) (of : IsOf t r (held s)) where
    pub row-back : (x : Owning (RestingState G H)) → IsOf u r (held x) → IsOf t r (held x)
    row-back x is =
        let same = same-parts u r s x (row-grows t u grows r (held s).shared (held s).threads.items of) is in
        subst (λ g. IsRow t r g x.flat.threads.items) same.shared (subst (λ l. IsRow t r (held s).shared l) same.threads of)

    pub of-grows : (P : Owning (RestingState G H) → Type 0) → OfHeldRow t r P → OfHeldRow u r P
    of-grows P so x is = so x (row-back x is)

  pub known-row-grows : (t u : StateParts (Held G) H) → Grows t u → (r : List ℕ) → IsKnownRow k t r → IsKnownRow k u r
  known-row-grows t u grows r row = record {
    state = row.state;
    of = row-grows t u grows r (held row.state).shared (held row.state).threads.items row.of;
    known = of-grows t u grows r row.state row.of (IsKnown k) row.known;
  }

  pub row-few : AreBounded k.system k.first k.count k.most → (t : StateParts (Held G) H) (number : ℕ) (numbers : List ℕ) → IsKnownRow k t (number ∷ numbers)
      → (n : ℕ) → n < length numbers → n < 2 ^ 32
  row-few bounded t number numbers row n low =
      let s = row.state in
      let known = row.known s row.of in
      let at = known.somewhere in
      let is = at.1.settled_is in
      let len = is.len in
      let few = bounded.few at.0 at.1.reached in
      let numbered = bounded.numbered in
      let long = zip-length (λ m x. slice_get t.threads.keys m ≡ Some x) numbers s.flat.threads.items (row.of).1 in
      omega (arith, len, few, numbered, long, low)

  pub known-rests : (t : StateParts (Held G) H) (r : List ℕ) → IsKnownRow k t r → RestsInRow k t r
  known-rests t r row = (row.state, row.of, (row.known row.state row.of).somewhere)

  -- the rows so far
  module _ (eq_shared : G → G → Bool) (eq_thread : H → H → Bool) where
    pub rows-first : (t : StateParts (Held G) H) (r : List ℕ) (rs : List NextRow) → rs ≡ [] → OfHeldRow t r (λ s. AreRowsBelow k eq_shared eq_thread t s 0 rs)
    rows-first t r rs none s of = record { next = []; below = below-none k s; rows = rows-none eq_shared eq_thread t rs none }

    pub rows-same : (t : StateParts (Held G) H) (r : List ℕ) (before : List (Option NextAccess)) (n : ℕ) (rs : List NextRow)
        → OfHeldRow t r (λ s. AreWanted k s.flat before) → access_at before n ≡ None → OfHeldRow t r (AddsRow k eq_shared eq_thread t t n rs rs)
    rows-same t r before n rs are none s of so = record {
      next = so.next;
      below = below-same k s before n so.next (are s of) none so.below;
      rows = so.rows;
    }

    pub rows-next : (t u v : StateParts (Held G) H) → Grows t u → Grows u v → (r : List ℕ) (row : IsKnownRow k u r) (n : ℕ) (rs after : List NextRow)
        → OfHeldRow u r (λ s. AreRowsBelow k eq_shared eq_thread u s n rs) → OfHeldRow u r (AddsRow k eq_shared eq_thread u v n rs after)
        → OfHeldRow v r (λ s. AreRowsBelow k eq_shared eq_thread v s (n + 1) after)
    rows-next t u v first second r row n rs after so adds =
        of-grows u v second r row.state row.of (λ s. AreRowsBelow k eq_shared eq_thread v s (n + 1) after) (λ s of. adds s of (so s of))

    pub rows-all : (t u : StateParts (Held G) H) → Grows t u → (number : ℕ) (numbers : List ℕ) (n : ℕ) (rs : List NextRow) → length numbers ≤ n
        → OfHeldRow u (number ∷ numbers) (λ s. AreRowsBelow k eq_shared eq_thread u s n rs)
        → OfHeldRow t (number ∷ numbers) (AreRowsOf k eq_shared eq_thread u rs)
    rows-all t u grows number numbers n rs past so s of =
        let o = so s (row-grows t u grows (number ∷ numbers) (held s).shared (held s).threads.items of) in
        let long = zip-length (λ m x. slice_get t.threads.keys m ≡ Some x) numbers s.flat.threads.items of.1 in
        record { next = o.next; has = below-all k s n o.next o.below (omega (arith, long, past)); rows = o.rows }

  -- what the threads of a row do next
  pub wants-first : (t : StateParts (Held G) H) (r : List ℕ) (wanted : List (Option NextAccess)) → wanted ≡ []
      → OfHeldRow t r (λ s. WantedSoFar k s.flat 0 wanted)
  wants-first t r wanted none s of = subst (WantedSoFar k s.flat 0) (sym none) (wanted-none k s.flat)

  module _ (t : StateParts (Held G) H) (number : ℕ) (numbers : List ℕ) where
    thread-in : (n at : ℕ) → slice_get numbers n ≡ Some at → (h : H) → slice_get t.threads.keys at ≡ Some h → (s : Owning (RestingState G H))
        → IsOf t (number ∷ numbers) (held s) → slice_get s.flat.threads.items n ≡ Some h
    thread-in n at is h there s of =
        let b = beside (λ m x. slice_get t.threads.keys m ≡ Some x) numbers s.flat.threads.items of.1 n at is in
        let same : b.0 ≡ h = cc (b.2, there) in
        subst (λ v. slice_get s.flat.threads.items n ≡ Some v) same b.1

    shared-in : (g : Held G) → slice_get t.shared.keys number ≡ Some g → (s : Owning (RestingState G H)) → IsOf t (number ∷ numbers) (held s)
        → s.flat.shared ≡ g.shared
    shared-in g there s of = let same : (held s).shared ≡ g = cc (of.0, there) in ap (λ (v : Held G). v.shared) same

    pub wants-thread : RestsInRow k t (number ∷ numbers) → (g : Held G) → slice_get t.shared.keys number ≡ Some g → (n at : ℕ)
        → slice_get numbers n ≡ Some at → (h : H) → slice_get t.threads.keys at ≡ Some h → (z : State X T) × IsThreadOf k g.shared h n z
    wants-thread row g held_at n at is h there =
        let s = row.0 in
        let rests = row.2 in
        let of = thread-at k s.flat rests.0 rests.1 n h (thread-in n at is h there s row.1) in
        (rests.0, (of.0, subst (λ v. k.shares v (rests.0).shared) (shared-in g held_at s row.1) of.1, of.2))

    pub wants-more : (g : Held G) → slice_get t.shared.keys number ≡ Some g → (n at : ℕ) → slice_get numbers n ≡ Some at → (h : H)
        → slice_get t.threads.keys at ≡ Some h → (wanted after : List (Option NextAccess)) (o : Option NextAccess)
        → OfHeldRow t (number ∷ numbers) (λ s. WantedSoFar k s.flat n wanted) → IsAccessOf k g.shared h n o → after ≡ wanted ++ o ∷ []
        → OfHeldRow t (number ∷ numbers) (λ s. WantedSoFar k s.flat (n + 1) after)
    wants-more g held_at n at is h there wanted after o so access pushed s of =
        subst (WantedSoFar k s.flat (n + 1)) (sym pushed)
        (wanted-more k s.flat n wanted h o (so s of) (thread-in n at is h there s of)
        (subst (λ v. IsAccessOf k v h n o) (sym (shared-in g held_at s of)) access))

    pub wants-all : (n : ℕ) (wanted : List (Option NextAccess)) → length numbers ≤ n → OfHeldRow t (number ∷ numbers) (λ s. WantedSoFar k s.flat n wanted)
        → WantsInRow k t (number ∷ numbers) wanted
    wants-all n wanted past so s of =
        let long = zip-length (λ m x. slice_get t.threads.keys m ≡ Some x) numbers s.flat.threads.items of.1 in
        wanted-all k s.flat n wanted (so s of) (omega (arith, long, past))

  -- where nobody is in another's way
  pub row-clear : (t : StateParts (Held G) H) (number : ℕ) (numbers : List ℕ) (g : Held G) → slice_get t.shared.keys number ≡ Some g
      → (wanted : List (Option NextAccess)) → WantsInRow k t (number ∷ numbers) wanted → AreClear wanted g.owned.items
      → OfHeldRow t (number ∷ numbers) (IsClear k)
  row-clear t number numbers g there wanted are clear s of =
      let same : (held s).shared ≡ g = cc (of.0, there) in
      record { wanted = wanted; are = are s of; clear = subst (λ (v : Held G). AreClear wanted v.owned.items) (sym same) clear }

-- a row of a state that was met
module _ {X T E V A G H M O : Type 0} (k : ThreadSystem X T E V A G H M) (ends : State X T → O → Type 0) (stuck : State X T → Type 0)
    (tame : AreTame k.system k.first k.most) (plain : ArePlain k.system k.accesses k.first) (beyond : NoneBeyond k.system k.accesses k.first k.most) where
  pub known-row-met : (t : StateTable G H) (at : ℕ) → HasMetAt (reduced_steps k ends stuck) (HasOwning t) at → (row : List ℕ)
      → slice_get (states_of t.states) at ≡ Some row → IsKnownRow k t.parts row
  known-row-met t at met row is =
      let r = row-met k ends stuck t at met row is in
      let s = r.0 in
      record {
        state = s;
        of = r.1;
        known = λ x of. (
            let same = same-parts t.parts row x s of r.1 in
            known-copy k ends stuck tame plain beyond s x (copy-same k x s x same (copy-self k x)) r.2);
      }

  pub rows-of-place : (eq_shared : G → G → Bool) (eq_thread : H → H → Bool) (t : StateTable G H) (u : StateParts (Held G) H) (at : ℕ) (row : List ℕ)
      → slice_get (states_of t.states) at ≡ Some row → (rs : List NextRow) → OfHeldRow t.parts row (AreRowsOf k eq_shared eq_thread u rs)
      → HasRowsAt k eq_shared eq_thread t u at rs
  rows-of-place eq_shared eq_thread t u at row is rs so ks s are there =
      let r = row-at t ks are at s there in
      let same : r.0 ≡ row = cc (r.1, is) in
      so s (subst (λ v. IsOf t.parts v (held s)) same r.2)
