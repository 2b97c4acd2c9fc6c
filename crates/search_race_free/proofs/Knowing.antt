-- The turn of a thread and plain ones after it, where nobody else moves: what is known of them.
use Rattle.std.proofs.Common.{◌≡◌, inl, inr, ℕ, zero, suc, ◌<◌, Bool, true, List, [], ◌∷◌, length, Contains, Some}
use Rattle.std.proofs.Common.{refl, sym, ◌∙◌, ap, subst, arith}
use Rattle.std.specs.Prelude.{slice_set}
use Rattle.std.specs.Cmp.{first_so, second_so, IsEquivalence}
use Rattle.std.specs.Cmp.Lexicographic.{pointwise}
use Rattle.std.specs.List.{slice_get}
use Rattle.std.proofs.lemmas.List.{length-set}
use Rattle.std.proofs.lemmas.Option.{slice_get_within}
use Rattle.schedule.specs.System.{State}
use Rattle.search_table.specs.declared.parts.StateParts.{StateParts}
use Rattle.search_table.specs.Tables.{AreThreads}
use Rattle.search_settled.specs.declared.access.NextAccess.{NextAccess}
use Rattle.search_settled.specs.declared.flat.RestingState.{RestingState}
use Rattle.search_settled.specs.Settled.{AreTame}
use Rattle.search_settled.specs.Threads.{ThreadSystem, IsFlat}
use Rattle.search_settled.specs.Flat.{AreBounded, IsThreadOf}
use Rattle.search_settled.specs.Known.{IsOf, GoesAlone}
use Rattle.search_settled.proofs.Knowing.{set-at, set-own, set-others}
use Rattle.search_settled.proofs.Nexting.{with_parts, zip-set}
use Rattle.search_race_free.specs.declared.owning.Owning.{Owning}
use Rattle.search_race_free.specs.declared.met.Held.{Held}
use Rattle.search_race_free.specs.declared.known.LoneThread.{LoneThread}
use Rattle.search_race_free.specs.contracts.owning.TouchPartialEq.TheImpl as touches
use Rattle.search_race_free.specs.Wanted.{ArePlain}
use Rattle.search_race_free.specs.Touches.{AreOfOthers, IsPut}
use Rattle.search_race_free.specs.Same.{same_touches, made-there}
use Rattle.search_race_free.specs.Reduced.{next_in, Rest}
use Rattle.search_race_free.specs.Search.{IsAccessOf, ComesOnward}
use Rattle.search_race_free.specs.Met.{held, held_eq}
use Rattle.search_race_free.specs.Known.{IsBut, IsTurnFrom, AnyTurn, GoesOnAlone, IsPlainTurn}
use Rattle.search_race_free.proofs.Wanting.{thread-at}
use Rattle.search_race_free.proofs.Eventing.{alone-is}
use Rattle.search_race_free.proofs.Going.{goes-on-alone}
use Rattle.search_race_free.proofs.Continuing.{onward-alone, onward-more}

set-twice : {A : Type 0} (xs : List A) (n : ℕ) (x y : A) → slice_set (slice_set xs n x) n y ≡ slice_set xs n y
set-twice [] n x y = refl
set-twice (z ∷ xs) zero x y = refl
set-twice (z ∷ xs) (suc n) x y = ap (λ l. z ∷ l) (set-twice xs n x y)

module _ {G H : Type 0} where
  -- the state where thread n rests there, and that is held
  unfoldable pub but : Owning (RestingState G H) → ℕ → Held G → H → Owning (RestingState G H)
  but s n g h =
      let ok = s.flat.threads.ok in
      let small = s.flat.threads.small in
      let long = length-set s.flat.threads.items n h in
      record { flat = with_parts s.flat g.shared (slice_set s.flat.threads.items n h) (omega (arith, ok.0, ok.1, small, long)); owned = g.owned }

  pub but-is : (s : Owning (RestingState G H)) (n : ℕ) (g : Held G) (h : H) → IsBut s (but s n g h) n g h
  unfolding but with_parts
  but-is s n g h = record { held_is = refl; threads = refl }

  -- of its row
  pub but-row : (t : StateParts (Held G) H) (number : ℕ) (numbers : List ℕ) (s x : Owning (RestingState G H)) → IsOf t (number ∷ numbers) (held s)
      → (n new thread : ℕ) (g : Held G) (h : H) → slice_get t.shared.keys new ≡ Some g → slice_get t.threads.keys thread ≡ Some h → IsBut s x n g h
      → IsOf t (new ∷ slice_set numbers n thread) (held x)
  but-row t number numbers s x of n new thread g h held_at thread_at is = (
    held_at ∙ ap (λ v. Some v) (sym is.held_is),
    subst (λ l. AreThreads t (slice_set numbers n thread) l) (sym is.threads)
        (zip-set (λ i y. slice_get t.threads.keys i ≡ Some y) numbers s.flat.threads.items of.1 n thread h thread_at),
  )

module _ {X T E V A G H M : Type 0} (k : ThreadSystem X T E V A G H M) where
  -- where thread n and what is shared stand for the same, and all others are the same
  but-flat : (x y : RestingState G H) (xs : List H) (n : ℕ) (old u v : H) → slice_get xs n ≡ Some old → x.threads.items ≡ slice_set xs n u
      → y.threads.items ≡ slice_set xs n v → ((w : X) → k.shares x.shared w → k.shares y.shared w) → ((w : T) → k.is_thread u w → k.is_thread v w)
      → (z : State X T) → IsFlat k x z → IsFlat k y z
  but-flat x y xs n old u v there is_x is_y shares stands z f = record {
    shared = shares z.shared f.shared;
    len = ap (λ l. length l) is_y ∙ (length-set xs n v ∙ (sym (length-set xs n u) ∙ (sym (ap (λ l. length l) is_x) ∙ f.len)));
    each = λ m t at. elim (set-at xs n v m t (ap (λ l. slice_get l m) (sym is_y) ∙ at)) [
      | inl own ↦ (
          let mine = f.each n u (ap (λ l. slice_get l n) is_x ∙ set-own xs n old u there) in
          subst (λ w. k.is_thread w (z.threads m)) own.1 (subst (λ (j : ℕ). k.is_thread v (z.threads j)) (sym own.0) (stands (z.threads n) mine)))
      | inr other ↦ f.each m t (ap (λ l. slice_get l m) is_x ∙ set-others xs n u m t other.0 other.1)
    ];
    others = f.others;
  }

  -- to what stands for the same
  onward-alike : (n : ℕ) (s x y : Owning (RestingState G H)) → ((z : State X T) → IsFlat k x.flat z → IsFlat k y.flat z)
      → ((z : State X T) → IsFlat k y.flat z → IsFlat k x.flat z) → x.owned.items ≡ y.owned.items → ComesOnward k n s x → ComesOnward k n s y
  onward-alike n s x y there back same one =
      let owned = one.owned in
      let at = owned.somewhere in
      let touches = one.touches in
      record {
        owned = record {
          somewhere = (at.0, record { reached = at.1.reached; rests = at.1.rests; settled_is = there at.0 at.1.settled_is });
          made = λ t c. made-there k x y there back same t (owned.made t (subst (λ l. Contains l t) (sym same) c));
          apart = λ t u in_t in_u. owned.apart t u (subst (λ l. Contains l t) (sym same) in_t) (subst (λ l. Contains l u) (sym same) in_u);
        };
        touches = record {
          kept = λ t d c. subst (λ l. Contains l t) same (touches.kept t d c);
          over = λ z rests a h t d g w. subst (λ l. Contains l t) same (touches.over z rests a h t d g w);
        };
        each = λ z rests.
            let r = one.each z rests in
            record {
              access = r.access;
              wants = r.wants;
              order = r.order;
              settled = r.settled;
              makes = subst (λ l. Rest k l r.order (next_in k z n) r.settled) same r.makes;
              rests = r.rests;
              settled_is = there r.settled r.settled_is;
              others = r.others;
            };
      }

  -- the thread whose turn it is
  pub from-thread : (g : Held G) (h : H) (n : ℕ) (s : Owning (RestingState G H)) → IsTurnFrom k g h n s → (z : State X T) × IsThreadOf k g.shared h n z
  from-thread g h n s from =
      let owned = from.owned in
      let at = owned.somewhere in
      let of = thread-at k s.flat at.0 at.1 n h from.there in
      (at.0, (of.0, subst (λ v. k.shares v (at.0).shared) (ap (λ (v : Held G). v.shared) from.held_is) of.1, of.2))

  pub few-from : AreBounded k.system k.first k.count k.most → (g : Held G) (h : H) (n : ℕ) (s : Owning (RestingState G H)) → IsTurnFrom k g h n s
      → n < k.most
  few-from bounded g h n s from =
      let owned = from.owned in
      let at = owned.somewhere in
      let is = at.1.settled_is in
      let len = is.len in
      let few = bounded.few at.0 at.1.reached in
      let low = slice_get_within s.flat.threads.items n h from.there in
      omega (arith, len, few, low)

  -- whose state comes to rest there
  pub stretch-thread : (g : Held G) (h : H) (n : ℕ) (to : LoneThread G H) → AnyTurn k g h n → GoesOnAlone k g h n to.held to.thread
      → (z : State X T) × IsThreadOf k to.held.shared to.thread n z
  stretch-thread g h n to any so =
      let s = any.0 in
      let from = any.1 in
      let y = but s n to.held to.thread in
      let is = but-is s n to.held to.thread in
      let one = so s y from is in
      let owned = one.owned in
      let at = owned.somewhere in
      let of = thread-at k y.flat at.0 at.1 n to.thread
      (ap (λ l. slice_get l n) is.threads ∙ set-own s.flat.threads.items n h to.thread from.there) in
      (at.0, (of.0, subst (λ v. k.shares v (at.0).shared) (ap (λ (v : Held G). v.shared) is.held_is) of.1, of.2))

  module _ (tame : AreTame k.system k.first k.most) (bounded : AreBounded k.system k.first k.count k.most)
      (plain : ArePlain k.system k.accesses k.first) where
    -- its own turn
    pub stretch-first : (g : Held G) (h : H) (n : ℕ) (a : NextAccess) (to : LoneThread G H) → IsAccessOf k g.shared h n (Some a)
        → GoesAlone k g.shared h n to.held.shared to.thread → AreOfOthers g.owned.items n to.held.owned.items → GoesOnAlone k g h n to.held to.thread
    stretch-first g h n a to wants alone others s x from is =
        let shared : s.flat.shared ≡ g.shared = ap (λ (v : Held G). v.shared) from.held_is in
        let owned : s.owned.items ≡ g.owned.items = ap (λ (v : Held G). v.owned.items) from.held_is in
        let then : x.flat.shared ≡ to.held.shared = ap (λ (v : Held G). v.shared) is.held_is in
        let left : x.owned.items ≡ to.held.owned.items = ap (λ (v : Held G). v.owned.items) is.held_is in
        onward-alone k tame plain s x n a from.owned
        (λ z at. sym (subst (λ v. IsAccessOf k v h n (Some a)) (sym shared) wants z (thread-at k s.flat z at n h from.there)))
        from.over
        (alone-is k tame bounded s.flat n h to.held.shared to.thread from.there (subst (λ v. GoesAlone k v h n to.held.shared to.thread) (sym shared) alone)
        x.flat then is.threads)
        (subst (λ l. AreOfOthers l n x.owned.items) (sym owned) (subst (λ l. AreOfOthers g.owned.items n l) (sym left) others))

    -- and a plain one more
    pub stretch-more : (g : Held G) (h : H) (n : ℕ) (one two : LoneThread G H) → GoesOnAlone k g h n one.held one.thread → IsPlainTurn k one n two
        → GoesOnAlone k g h n two.held two.thread
    stretch-more g h n one two so turn s x from is =
        let y = but s n one.held one.thread in
        let between = but-is s n one.held one.thread in
        let xs = s.flat.threads.items in
        let there : slice_get y.flat.threads.items n ≡ Some one.thread = ap (λ l. slice_get l n) between.threads ∙ set-own xs n h one.thread from.there in
        let shared : y.flat.shared ≡ one.held.shared = ap (λ (v : Held G). v.shared) between.held_is in
        let owned : y.owned.items ≡ one.held.owned.items = ap (λ (v : Held G). v.owned.items) between.held_is in
        let then : x.flat.shared ≡ two.held.shared = ap (λ (v : Held G). v.shared) is.held_is in
        let left : x.owned.items ≡ two.held.owned.items = ap (λ (v : Held G). v.owned.items) is.held_is in
        let threads : x.flat.threads.items ≡ slice_set y.flat.threads.items n two.thread =
        is.threads ∙ (sym (set-twice xs n one.thread two.thread) ∙ ap (λ l. slice_set l n two.thread) (sym between.threads)) in
        let first = so s y from between in
        onward-more k tame plain s y x n n (λ d. absurd (d refl)) first
        (goes-on-alone k tame plain y x n turn.access first.owned
        (λ z at. sym (subst (λ v. IsAccessOf k v one.thread n (Some turn.access)) (sym shared) turn.wants z (thread-at k y.flat z at n one.thread there)))
        turn.plain
        (λ t c. turn.free t (subst (λ l. Contains l t) owned c))
        (λ t c. turn.nobody t (subst (λ l. Contains l t) owned c))
        (alone-is k tame bounded y.flat n one.thread two.held.shared two.thread there
        (subst (λ v. GoesAlone k v one.thread n two.held.shared two.thread) (sym shared) turn.alone) x.flat then threads)
        (subst (λ l. IsPut l (record { thread = n; access = turn.access }) x.owned.items) (sym owned)
        (subst (λ l. IsPut one.held.owned.items (record { thread = n; access = turn.access }) l) (sym left) turn.put)))

    -- to equal parts
    pub stretch-alike : (eq_shared : G → G → Bool) (eq_thread : H → H → Bool) → IsEquivalence eq_shared → IsEquivalence eq_thread
        → ((x y : G) → eq_shared x y ≡ true → (w : X) → k.shares x w → k.shares y w)
        → ((x y : H) → eq_thread x y ≡ true → (w : T) → k.is_thread x w → k.is_thread y w)
        → (g : Held G) (h : H) (n : ℕ) (after kept : Held G) (rested stays : H) → held_eq eq_shared after kept ≡ true → eq_thread rested stays ≡ true
        → GoesOnAlone k g h n after rested → GoesOnAlone k g h n kept stays
    stretch-alike eq_shared eq_thread laws_shared laws_thread same_shared same_thread g h n after kept rested stays eq_held eq_rested so s x from is =
        let y = but s n after rested in
        let between = but-is s n after rested in
        let xs = s.flat.threads.items in
        let shared : y.flat.shared ≡ after.shared = ap (λ (v : Held G). v.shared) between.held_is in
        let owned : y.owned.items ≡ after.owned.items = ap (λ (v : Held G). v.owned.items) between.held_is in
        let then : x.flat.shared ≡ kept.shared = ap (λ (v : Held G). v.shared) is.held_is in
        let left : x.owned.items ≡ kept.owned.items = ap (λ (v : Held G). v.owned.items) is.held_is in
        let e : eq_shared after.shared kept.shared ≡ true =
        first_so (eq_shared after.shared kept.shared) (pointwise touches.eq-value.it after.owned.items kept.owned.items) eq_held in
        let same : after.owned.items ≡ kept.owned.items = same_touches after.owned.items kept.owned.items
        (second_so (eq_shared after.shared kept.shared) (pointwise touches.eq-value.it after.owned.items kept.owned.items) eq_held) in
        onward-alike n s y x
        (but-flat y.flat x.flat xs n h rested stays from.there between.threads is.threads
        (λ w st. subst (λ v. k.shares v w) (sym then) (same_shared after.shared kept.shared e w (subst (λ v. k.shares v w) shared st)))
        (same_thread rested stays eq_rested))
        (but-flat x.flat y.flat xs n h stays rested from.there is.threads between.threads
        (λ w st. subst (λ v. k.shares v w) (sym shared)
        (same_shared kept.shared after.shared (laws_shared.symm kept.shared after.shared ∙ e) w (subst (λ v. k.shares v w) then st)))
        (same_thread stays rested (laws_thread.symm stays rested ∙ eq_rested)))
        (owned ∙ (same ∙ sym left)) (so s y from between)
