-- The next states, of one thread after the other.
use Rattle.std.proofs.Common.{◌≡◌, ◌⊎◌, inl, inr, ℕ, zero, suc, ◌+◌, ◌^◌, ◌<◌, ◌≤◌, List, [], ◌∷◌, ◌++◌, length, Option}
use Rattle.std.proofs.Common.{Some, None, refl, sym, ◌∙◌, ap, subst, arith, Contains}
use Rattle.std.specs.List.{slice_get}
use Rattle.std.proofs.lemmas.Bool.{cases_lt}
use Rattle.std.proofs.lemmas.List.Elements.{Contains-push, Contains-push_cases, Contains-append_left}
use Rattle.std.proofs.lemmas.Option.{slice_get_within}
use Rattle.schedule.specs.System.{Want.Calls, Want.Awaits, Want.Gone, State, put}
use Rattle.schedule.specs.Scheduled.{after_event, hears_any, or_started}
use Rattle.schedule.proofs.Basics.{put-other}
use Rattle.search_settled.specs.Settled.{Settles, IsReached, AreTame}
use Rattle.search_reach.specs.declared.explores.NextState.{NextState}
use Rattle.search_reach.proofs.Ascending.{ascend-none, ascend-same, ascend-more}
use Rattle.search_settled.specs.Next.{IsAt, IsNextBy, IsNextOf, IsSomewhere, IsStuckAfter, HasNext}
use Rattle.search_settled.specs.declared.flat.RestingState.{RestingState}
use Rattle.search_settled.specs.Known.{AllComeFrom}
use Rattle.search_settled.specs.Threads.{ThreadSystem}
use Rattle.search_settled.specs.Flat.{AreBounded, IsThreadOf, IsEventOf, IsEventAt, RestsAfter, IsMove, AllComeAfter}
use Rattle.search_settled.specs.Flat.{MovesSomewhere, IsStuckByMove, HasNextBelow}

slice_get-get_some : {B : Type 0} (xs : List B) (m : ℕ) → m < length xs → (x : B) × (slice_get xs m ≡ Some x)
slice_get-get_some [] m within = absurd (omega (arith, within))
slice_get-get_some (x ∷ xs) zero within = (x, refl)
slice_get-get_some (x ∷ xs) (suc m) within = slice_get-get_some xs m (omega (arith, within))

module _ {X T E V A G H M : Type 0} (k : ThreadSystem X T E V A G H M) where
  -- a thread of the state
  pub thread-of : (c : RestingState G H) → IsSomewhere k c → (n : ℕ) (t : H) → slice_get c.threads.items n ≡ Some t
      → (z : State X T) × IsThreadOf k c.shared t n z
  thread-of c at n t h = (at.0, (at.1.reached, (at.1.settled_is).shared, (at.1.settled_is).each n t h))

  -- what a call for an event answered
  pub told-some : (c : RestingState G H) (t : H) (n : ℕ) (o : Option (G × M)) (p : G × M) → o ≡ Some p
      → IsEventAt k c.shared t n o
      → IsEventAt k c.shared t n (Some p)
  told-some c t n o p is h z of = subst (IsEventOf k z n) is (h z of)

  pub told-none : (c : RestingState G H) (t : H) (n : ℕ) (o : Option (G × M)) → o ≡ None
      → IsEventAt k c.shared t n o
      → IsEventAt k c.shared t n None
  told-none c t n o is h z of = subst (IsEventOf k z n) is (h z of)

  -- what is asked of the threads' call after an event
  move : (c : RestingState G H) (z : State X T) → IsAt k c z → (n : ℕ) (e : E) (p : G × M) (threads : List H) → threads ≡ c.threads.items
      → k.system.wants (z.threads n) ≡ Calls e → k.shares p.0 (k.system.after z.shared n e) → k.makes p.1 z.shared n e
      → IsMove k p.0 p.1 n threads z e
  move c z at n e p threads same wants shared by = record {
    made_by = record { reached = at.reached; wants = wants; is = by };
    shared = shared;
    len = ap length same ∙ (at.settled_is).len;
    each = λ m u k. (at.settled_is).each m u (ap (λ l. slice_get l m) (sym same) ∙ k);
  }

  pub asked : (c : RestingState G H) → IsSomewhere k c → (n : ℕ) (t : H) → slice_get c.threads.items n ≡ Some t
      → (p : G × M) (threads : List H) → threads ≡ c.threads.items
      → IsEventAt k c.shared t n (Some p)
      → MovesSomewhere k p.0 p.1 n threads
  unfolding thread-of
  asked c at n t h p threads same answers =
      let of = thread-of c at n t h in
      let a = answers of.0 of.1 in
      (at.0, a.0, move c at.0 at.1 n a.0 p threads same a.1 a.2 a.3)

  -- beyond those that are counted a thread stays as it was
  module _ (tame : AreTame k.system k.first k.most) (bounded : AreBounded k.system k.first k.count k.most) (z : State X T) (n : ℕ) (e : E)
      (reached : IsReached k.system k.first z) (calls : k.system.wants (z.threads n) ≡ Calls e) (m : ℕ) (gone : k.system.wants (z.threads m) ≡ Gone) where
    apart : m ≡ n → ⊥
    apart same = let wants : k.system.wants (z.threads m) ≡ Calls e = ap (λ j. k.system.wants (z.threads j)) same ∙ calls in absurd (cc (gone, wants))

    no_answer : (o : Option A) → k.system.gives z.shared n e m ≡ o → k.system.gives z.shared n e m ≡ None
    no_answer None is = is
    no_answer (Some a) is = let awaits : k.system.wants (z.threads m) ≡ Awaits = tame.answers z reached n m e a calls is apart in absurd (cc (gone, awaits))

    pub stays : k.count (k.system.after z.shared n e) ≤ m → (after_event k.system z n e).threads m ≡ z.threads m
    stays past =
        ap (λ o. or_started o (hears_any k.system (put z.threads n (k.system.takes (z.threads n) (k.system.reply z.shared n e)) m)
        (k.system.gives z.shared n e m)))
        (bounded.none z reached n m e calls past)
        ∙ (ap (λ o. hears_any k.system (put z.threads n (k.system.takes (z.threads n) (k.system.reply z.shared n e)) m) o)
        (no_answer (k.system.gives z.shared n e m) refl)
        ∙ put-other z.threads n (k.system.takes (z.threads n) (k.system.reply z.shared n e)) m apart)

  module _ (tame : AreTame k.system k.first k.most) (bounded : AreBounded k.system k.first k.count k.most)
      (c : RestingState G H) (z : State X T) (at : IsAt k c z) (n : ℕ) (e : E)
      (x : G) (made : M) (is : k.system.wants (z.threads n) ≡ Calls e) (shared : k.shares x (k.system.after z.shared n e)) (by : k.makes made z.shared n e)
      (rested : List H) (all : AllComeFrom k c x made n rested) where
    moved : IsMove k x made n c.threads.items z e
    moved = move c z at n e (x, made) c.threads.items refl is shared by

    long : length rested ≡ k.count (k.system.after z.shared n e)
    long = all.len z e at moved

    rest_at : (m : ℕ) (t : H) → slice_get rested m ≡ Some t → RestsAfter k z n e m t
    rest_at = all.each z e at moved

    record Rest (m : ℕ) : Type 0 where
      pub thread : T
      pub settles : Settles k.system ((after_event k.system z n e).threads m) thread
      pub is_one : (t : H) → slice_get rested m ≡ Some t → k.is_thread t thread
      pub is_gone : k.count (k.system.after z.shared n e) ≤ m → k.system.wants thread ≡ Gone

    rest : (m : ℕ) → Rest m
    rest m = elim (cases_lt m (length rested)) [
      | inl within ↦ inside within
      | inr past ↦ outside past
    ]
      where
        some : (o : Option H) → slice_get rested m ≡ o → m < length rested → Rest m
        some None none within = let at_m = slice_get-get_some rested m within in absurd (cc (none, at_m.1))
        some (Some t) at_m within =
            let r = rest_at m t at_m in
            record {
              thread = r.settled;
              settles = r.rests;
              is_one = λ u h. (let same : t ≡ u = cc (at_m, h) in subst (λ v. k.is_thread v r.settled) same r.is);
              is_gone = λ past. absurd (omega (arith, past, within, long));
            }

        inside : m < length rested → Rest m
        inside within = some (slice_get rested m) refl within

        outside : length rested ≤ m → Rest m
        outside past =
            let beyond : k.count (k.system.after z.shared n e) ≤ m = omega (arith, past, long) in
            let more = bounded.more z at.reached n e in
            let gone = (at.settled_is).others m (omega (arith, more, beyond)) in
            let same = stays tame bounded z n e at.reached is m gone beyond in
            record {
              thread = z.threads m;
              settles = record { turns = 0; comes = same; rests = λ t. cc (gone, t) };
              is_one = λ u h. (let within = slice_get_within rested m u h in absurd (omega (arith, within, past)));
              is_gone = λ p. gone;
            }

    pub next-by : (y : RestingState G H) → y.shared ≡ x → y.threads.items ≡ rested → IsNextBy k z n e y
    next-by y same_shared same_threads = record {
      settled = record { shared = k.system.after z.shared n e; threads = λ m. (rest m).thread };
      rest = record { shared = refl; each = λ m. (rest m).settles };
      settled_is = record {
        shared = subst (λ v. k.shares v (k.system.after z.shared n e)) (sym same_shared) shared;
        len = ap length same_threads ∙ long;
        each = λ m t h. (rest m).is_one t (ap (λ l. slice_get l m) (sym same_threads) ∙ h);
        others = λ m past. (rest m).is_gone past;
      };
    }

  -- from what holds of all threads that are moved so
  pub come-from : (c : RestingState G H) (x : G) (made : M) (n : ℕ) (rested : List H) → AllComeAfter k x made n c.threads.items rested →
      AllComeFrom k c x made n rested
  come-from c x made n rested all = record { len = λ z e at move. all.len z e move; each = λ z e at move. all.each z e move }

  -- one thread after the other
  abbrev Below : RestingState G H → ℕ → List (NextState (RestingState G H)) → Type 0
  Below c i xs = HasNextBelow k c i xs

  pub below-none : (c : RestingState G H) → Below c 0 []
  below-none c = record {
    all = λ z at n low. absurd (omega (arith, low));
    sound = λ z at x among. absurd (omega (arith, among.1));
    ascend = ascend-none;
  }

  later : (z : State X T) (n : ℕ) (e : E) (xs : List (NextState (RestingState G H))) (y : NextState (RestingState G H))
      → (x : NextState (RestingState G H)) × Contains xs x × (x.thread ≡ n) × IsNextBy k z n e x.state
      → (x : NextState (RestingState G H)) × Contains (xs ++ y ∷ []) x × (x.thread ≡ n) × IsNextBy k z n e x.state
  later z n e xs y found = (found.0, Contains-append_left xs (y ∷ []) found.0 found.1, found.2, found.3)

  thread-at : (c : RestingState G H) (z : State X T) → IsAt k c z → (n : ℕ) (t : H) → slice_get c.threads.items n ≡ Some t
      → IsThreadOf k c.shared t n z
  thread-at c z at n t h = (at.reached, (at.settled_is).shared, (at.settled_is).each n t h)

  -- where it cannot tell what comes of the threads after the event of one
  pub stuck-by : (stuck : State X T → Type 0) (c : RestingState G H) (n : ℕ) (t : H) → slice_get c.threads.items n ≡ Some t → (p : G × M) (threads : List H)
      → threads ≡ c.threads.items → IsEventAt k c.shared t n (Some p)
      → IsStuckByMove k stuck p.0 p.1 n threads
      → IsStuckAfter k stuck c
  stuck-by stuck c n t h p threads same answers gives_up z at =
      let a = answers z (thread-at c z at n t h) in
      (n, a.0, a.1, gives_up z a.0 (move c z at n a.0 p threads same a.1 a.2 a.3))

  split : (n i : ℕ) → n < i + 1 → (n < i) ⊎ (n ≡ i)
  split n i low = elim (cases_lt n i) [ inl h ↦ inl h | inr h ↦ inr (omega (arith, h, low)) ]

  -- a thread that wants no event
  pub below-same : (c : RestingState G H) (i : ℕ) (xs : List (NextState (RestingState G H))) (t : H) → Below c i xs → slice_get c.threads.items i ≡ Some t →
      IsEventAt k c.shared t i None
      → Below c (i + 1) xs
  below-same c i xs t so at none = record {
    all = λ z is n low e wants. elim (split n i low) [
      | inl h ↦ so.all z is n h e wants
      | inr same ↦ absurd (none z (thread-at c z is i t at) e (subst (λ j. k.system.wants (z.threads j) ≡ Calls e) same wants))
    ];
    sound = so.sound;
    ascend = ascend-same i xs so.ascend;
  }

  -- a thread that wants one
  pub below-more : AreTame k.system k.first k.most → AreBounded k.system k.first k.count k.most
      → (c : RestingState G H) (i : ℕ) (xs : List (NextState (RestingState G H))) (t : H) (p : G × M) (y : RestingState G H) (rested : List H) → Below c i xs
      → slice_get c.threads.items i ≡ Some t → IsEventAt k c.shared t i (Some p)
      → AllComeFrom k c p.0 p.1 i rested
      → y.shared ≡ p.0 → y.threads.items ≡ rested → Below c (i + 1) (xs ++ record { thread = i; state = y } ∷ [])
  below-more tame bounded c i xs t p y rested so at some come same_shared same_threads = record {
    all = λ z is n low e wants. elim (split n i low) [
      | inl h ↦ later z n e xs new (so.all z is n h e wants)
      | inr same ↦ (new, Contains-push xs new, sym same, by z is n e same wants)
    ];
    sound = λ z is x among. elim (Contains-push_cases xs new x among) [
      | inl before ↦ so.sound z is x before
      | inr same ↦ (let a = some z (thread-at c z is i t at) in
          subst (λ v. IsNextOf k z v) same (record { event = a.0; wants = a.1; next = here z is }))
    ];
    ascend = ascend-more i xs new refl so.ascend;
  }
    where
      new : NextState (RestingState G H)
      new = record { thread = i; state = y }

      here : (z : State X T) (is : IsAt k c z) → IsNextBy k z i (some z (thread-at c z is i t at)).0 y
      here z is =
          let a = some z (thread-at c z is i t at) in
          next-by tame bounded c z is i a.0 p.0 p.1 a.1 a.2 a.3 rested come y same_shared same_threads

      by : (z : State X T) (is : IsAt k c z) (n : ℕ) (e : E) → n ≡ i → k.system.wants (z.threads n) ≡ Calls e → IsNextBy k z n e y
      by z is n e same wants =
          let a = some z (thread-at c z is i t at) in
          let wants_i : k.system.wants (z.threads i) ≡ Calls e = subst (λ j. k.system.wants (z.threads j) ≡ Calls e) same wants in
          let event : a.0 ≡ e = cc (a.1, wants_i) in
          subst (λ j. IsNextBy k z j e y) (sym same) (subst (λ v. IsNextBy k z i v y) event (here z is))

  pub below-all : (c : RestingState G H) (i : ℕ) (xs : List (NextState (RestingState G H))) → Below c i xs → length c.threads.items ≤ i → HasNext k c xs
  below-all c i xs so past = record {
    all = λ z is n e wants. so.all z is n (low z is n e wants) e wants;
    sound = so.sound;
    ascend = so.ascend.ascend;
  }
    where
      low : (z : State X T) (is : IsAt k c z) (n : ℕ) (e : E) → k.system.wants (z.threads n) ≡ Calls e → n < i
      low z is n e wants = elim (cases_lt n (k.count z.shared)) [
        | inl h ↦ (let len = (is.settled_is).len in omega (arith, h, len, past))
        | inr beyond ↦ (let gone = (is.settled_is).others n beyond in absurd (cc (gone, wants)))
      ]

  -- the number of a thread that is there fits
  pub number-fits : AreBounded k.system k.first k.count k.most → (c : RestingState G H) → IsSomewhere k c →
      (n : ℕ) (t : H) → slice_get c.threads.items n ≡ Some t
      → n < 2 ^ 32
  number-fits bounded c at n t h =
      let is = at.1.settled_is in
      let len = is.len in
      let few = bounded.few at.0 at.1.reached in
      let low = bounded.numbered in
      let within = slice_get_within c.threads.items n t h in
      omega (arith, len, few, low, within)
