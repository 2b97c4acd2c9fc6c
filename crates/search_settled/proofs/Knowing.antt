-- What is known of turns, as a table grows, and the turn of a thread of which nobody else hears.
use Rattle.std.specs.Prelude.{ℕ, zero, suc, ◌≡◌, ◌≢◌, ◌+◌, ◌≤◌, ◌⊎◌, Bool, true, List, [], ◌∷◌, Option, Some, None, replicate, slice_set, refl}
use Rattle.std.proofs.Common.{ap, subst, sym, ◌∙◌, inl, inr, arith}
use Rattle.std.specs.List.{slice_get}
use Rattle.std.proofs.lemmas.Bool.{cases_lt}
use Rattle.std.proofs.lemmas.List.{length-set}
use Rattle.std.proofs.lemmas.Option.{none-some, slice_get_within}
use Rattle.schedule.specs.System.{State}
use Rattle.search_table.specs.declared.parts.StateParts.{StateParts}
use Rattle.search_table.specs.Tables.{Grows}
use Rattle.search_settled.specs.declared.flat.RestingState.{RestingState}
use Rattle.search_settled.specs.declared.met.Known.{Known}
use Rattle.search_settled.specs.declared.met.MetParts.{MetParts}
use Rattle.search_settled.specs.declared.met.QuietTurn.{QuietTurn}
use Rattle.search_settled.specs.declared.met.QuietTurn.TheVariants.{Still, Alone}
use Rattle.search_settled.specs.Threads.{ThreadSystem}
use Rattle.search_settled.specs.Flat.{AreBounded, IsThreadOf, IsEventOf, IsEventAt, IsMove, RestsAfter, ComesAfter, IsBeforeSome, IsStuckBy}
use Rattle.search_settled.specs.Alone.{IsUnheard}
use Rattle.search_settled.specs.Known.{IsNotedIn, AreFrom, HasNoOther, IsTurnBy, IsRight, AreKnownBy, GoesAlone, StandsStill, IsTurn, AreOfThread}
use Rattle.search_settled.specs.Known.{OfNumbers, IsLostBy, AreKnown}

-- what stands in a list in which one was replaced
pub set-at : {A : Type 0} (xs : List A) (n : ℕ) (y : A) (m : ℕ) (x : A) → slice_get (slice_set xs n y) m ≡ Some x
    → ((m ≡ n) × (y ≡ x)) ⊎ ((m ≢ n) × (slice_get xs m ≡ Some x))
set-at [] n y m x at = absurd (none-some x at)
set-at (z ∷ xs) zero y zero x at = inl (refl, cc at)
set-at (z ∷ xs) zero y (suc m) x at = inr (λ e. cc e, at)
set-at (z ∷ xs) (suc n) y zero x at = inr (λ e. cc e, at)
set-at (z ∷ xs) (suc n) y (suc m) x at = elim (set-at xs n y m x at) [
  | inl h ↦ inl (ap suc h.0, h.1)
  | inr h ↦ inr (λ e. h.0 (cc e), h.1)
]

pub set-own : {A : Type 0} (xs : List A) (n : ℕ) (x y : A) → slice_get xs n ≡ Some x → slice_get (slice_set xs n y) n ≡ Some y
set-own [] n x y at = absurd (none-some x at)
set-own (z ∷ xs) zero x y at = refl
set-own (z ∷ xs) (suc n) x y at = set-own xs n x y at

pub set-others : {A : Type 0} (xs : List A) (n : ℕ) (y : A) (m : ℕ) (x : A) → m ≢ n → slice_get xs m ≡ Some x → slice_get (slice_set xs n y) m ≡ Some x
set-others [] n y m x d at = absurd (none-some x at)
set-others (z ∷ xs) zero y zero x d at = absurd (d refl)
set-others (z ∷ xs) zero y (suc m) x d at = at
set-others (z ∷ xs) (suc n) y zero x d at = at
set-others (z ∷ xs) (suc n) y (suc m) x d at = set-others xs n y m x (λ e. d (ap suc e)) at

-- whatever it is to stand still and to go on alone
module _ {G H : Type 0} (still : G → H → ℕ → Type 0) (alone : G → H → ℕ → G → H → Type 0) where
  turn-stays : (t u : StateParts G H) → Grows t u → (g : G) (h : H) (n : ℕ) (turn : QuietTurn) → IsTurnBy still alone t g h n turn
      → IsTurnBy still alone u g h n turn
  turn-stays t u grows g h n Still is = is
  turn-stays t u grows g h n (Alone s r) is = (is.0, is.1, grows.shared s is.0 is.2, grows.threads r is.1 is.3, is.4)

  right-stays : (t u : StateParts G H) → Grows t u → (known : Known) → IsRight still alone t known → IsRight still alone u known
  right-stays t u grows known is = record {
    shared_is = is.shared_is;
    thread_is = is.thread_is;
    shared_at = grows.shared known.shared is.shared_is is.shared_at;
    thread_at = grows.threads known.thread is.thread_is is.thread_at;
    so = turn-stays t u grows is.shared_is is.thread_is known.n known.turn is.so;
  }

  pub known-none : (t : StateParts G H) (ks : List (Option Known)) → ks ≡ [] → AreKnownBy still alone t ks
  known-none t ks none slot known at = absurd (none-some (Some known) (ap (λ l. slice_get l slot) (sym none) ∙ at))

  -- what is known stays so
  pub known-stays : (t u : StateParts G H) → Grows t u → (ks : List (Option Known)) → AreKnownBy still alone t ks → AreKnownBy still alone u ks
  known-stays t u grows ks so slot known at = right-stays t u grows known (so slot known at)

  pub known-put : (t : StateParts G H) (ks ls : List (Option Known)) (one : Known) → AreKnownBy still alone t ks → AreFrom ks one ls
      → IsRight still alone t one → AreKnownBy still alone t ls
  known-put t ks ls one so from right slot known at = elim (from slot known at) [
    | inl is ↦ subst (IsRight still alone t) (sym is) right
    | inr was ↦ so was.0 known was.1
  ]

  -- and where some are forgotten
  pub known-left : (t : StateParts G H) (ks ls : List (Option Known)) → AreKnownBy still alone t ks → HasNoOther ks ls → AreKnownBy still alone t ls
  known-left t ks ls so no-other slot known at = let was = no-other slot known at in so was.0 known was.1

  -- what was noted of a turn
  pub turn-recalled : (t : StateParts G H) (ks : List (Option Known)) → AreKnownBy still alone t ks → (shared thread n : ℕ) (turn : QuietTurn)
      → IsNotedIn ks shared thread n turn → (g : G) (h : H) → slice_get t.shared.keys shared ≡ Some g → slice_get t.threads.keys thread ≡ Some h
      → IsTurnBy still alone t g h n turn
  turn-recalled t ks so shared thread n turn noted g h shared_at thread_at =
      let right = so noted.0 (record { shared = shared; thread = thread; n = n; turn = turn }) noted.1 in
      let same : right.shared_is ≡ g = cc (right.shared_at, shared_at) in
      let is : right.thread_is ≡ h = cc (right.thread_at, thread_at) in
      subst (λ v. IsTurnBy still alone t g v n turn) is (subst (λ v. IsTurnBy still alone t v right.thread_is n turn) same right.so)

module _ {X T E V A G H M : Type 0} (k : ThreadSystem X T E V A G H M) where
  pub known-grows : (m : MetParts G H) (new : MetParts G H) → AreKnown k m → Grows m.parts new.parts → new.known.items ≡ m.known.items → AreKnown k new
  known-grows m new so grows same = subst (AreKnownBy (StandsStill k) (GoesAlone k) new.parts) (sym same)
      (known-stays (StandsStill k) (GoesAlone k) m.parts new.parts grows m.known.items so)

  pub known-noted : (m : MetParts G H) (new : MetParts G H) (one : Known) → AreKnown k m → new.parts ≡ m.parts → AreFrom m.known.items one new.known.items
      → IsRight (StandsStill k) (GoesAlone k) m.parts one → AreKnown k new
  known-noted m new one so same from right =
      let known = known-put (StandsStill k) (GoesAlone k) m.parts m.known.items new.known.items one so from right in
      subst (λ (t : StateParts G H). AreKnownBy (StandsStill k) (GoesAlone k) t new.known.items) (sym same) known

  -- and where some are forgotten
  pub known-fewer : (m : MetParts G H) (new : MetParts G H) → AreKnown k m → new.parts ≡ m.parts → HasNoOther m.known.items new.known.items → AreKnown k new
  known-fewer m new so same no-other =
      let known = known-left (StandsStill k) (GoesAlone k) m.parts m.known.items new.known.items so no-other in
      subst (λ (t : StateParts G H). AreKnownBy (StandsStill k) (GoesAlone k) t new.known.items) (sym same) known

  -- what was noted of a turn
  pub recalled : (m : MetParts G H) → AreKnown k m → (shared thread n : ℕ) (turn : QuietTurn) → IsNotedIn m.known.items shared thread n turn
      → OfNumbers k m.parts shared thread (λ g h. IsTurn k m.parts g h n turn)
  recalled m so shared thread n turn noted g h shared_at thread_at =
      turn-recalled (StandsStill k) (GoesAlone k) m.parts m.known.items so shared thread n turn noted g h shared_at thread_at

  pub unheard-none : (made : M) (n : ℕ) → IsUnheard k made n 0
  unheard-none made n m low = absurd (omega (arith, low))

  pub unheard-more : (made : M) (n m : ℕ) → IsUnheard k made n m → (m ≢ n → (t : H) → ComesAfter k made n t m t) → IsUnheard k made n (m + 1)
  unheard-more made n m so one j low apart t = elim (cases_lt j m) [
    | inl below ↦ so j below apart t
    | inr past ↦ (let same : m ≡ j = omega (arith, low, past) in
        subst (λ (i : ℕ). ComesAfter k made n t i t) same (one (λ is. apart (sym same ∙ is)) t))
  ]

  -- what has these numbers
  pub of-read : (t : StateParts G H) (shared thread n : ℕ) → AreOfThread k t shared thread n → (g : G) (h : H) → slice_get t.shared.keys shared ≡ Some g
      → slice_get t.threads.keys thread ≡ Some h → (z : State X T) × IsThreadOf k g h n z
  of-read t shared thread n of g h shared_at thread_at =
      let same : of.shared_is ≡ g = cc (of.shared_at, shared_at) in
      let is : of.thread_is ≡ h = cc (of.thread_at, thread_at) in
      let o = of.of in (
        of.state,
        (o.0, subst (λ v. k.shares v (of.state).shared) same o.1, subst (λ v. k.is_thread v ((of.state).threads n)) is o.2),
      )

  pub count-low : AreBounded k.system k.first k.count k.most → (g : G) (h : H) (n : ℕ) (z : State X T) → IsThreadOf k g h n z → (count : ℕ)
      → ((x : X) → k.shares g x → count ≡ k.count x) → count ≤ k.most
  count-low bounded g h n z of count is =
      let few = bounded.few z of.0 in
      let same = is z.shared of.1 in
      omega (arith, few, same)

  pub of-numbers : (t : StateParts G H) (shared thread : ℕ) (P : G → H → Type 0) (g : G) (h : H) → slice_get t.shared.keys shared ≡ Some g
      → slice_get t.threads.keys thread ≡ Some h → P g h → OfNumbers k t shared thread P
  of-numbers t shared thread P g h shared_at thread_at so x y at there =
      let same : g ≡ x = cc (shared_at, at) in
      let is : h ≡ y = cc (thread_at, there) in
      subst (λ v. P v y) same (subst (P g) is so)

  pub event-none : (g : G) (h : H) (n : ℕ) (o : Option (G × M)) → o ≡ None → IsEventAt k g h n o → IsEventAt k g h n None
  event-none g h n o is event z of = subst (IsEventOf k z n) is (event z of)

  pub event-some : (g : G) (h : H) (n : ℕ) (o : Option (G × M)) (p : G × M) → o ≡ Some p → IsEventAt k g h n o → IsEventAt k g h n (Some p)
  event-some g h n o p is event z of = subst (IsEventOf k z n) is (event z of)

  -- what is asked of the call for where the thread itself comes to rest
  pub own-before : (g : G) (h : H) (n : ℕ) (p : G × M) (z : State X T) → IsThreadOf k g h n z → IsEventAt k g h n (Some p) → IsBeforeSome k p.1 n h n
  own-before g h n p z of event =
      let a = event z of in
      (z, a.0, record { reached = of.0; wants = a.1; is = a.3 }, of.2)

  -- where nothing can be told of it
  pub own-lost : (stuck : State X T → Type 0) (g : G) (h : H) (n : ℕ) (p : G × M) → IsEventAt k g h n (Some p) → IsStuckBy k stuck p.1 n h n →
      IsLostBy k stuck n g h
  own-lost stuck g h n p event lost z of =
      let a = event z of in
      (a.0, a.1, lost z a.0 (record { reached = of.0; wants = a.1; is = a.3 }) of.2)

  module _ (eq_shared : G → G → Bool) (eq_thread : H → H → Bool) (symm : (x y : G) → eq_shared x y ≡ true → eq_shared y x ≡ true)
      (same_shared : (x y : G) → eq_shared x y ≡ true → (w : X) → k.shares x w → k.shares y w)
      (same_thread : (x y : H) → eq_thread x y ≡ true → (w : T) → k.is_thread x w → k.is_thread y w) where
    pub event-alike : (g : G) (h : H) (n : ℕ) (x y : G) (made : M) → eq_shared x y ≡ true → IsEventAt k g h n (Some (x, made)) →
        IsEventAt k g h n (Some (y, made))
    event-alike g h n x y made e is z of =
        let a = is z of in
        (a.0, a.1, same_shared x y e (k.system.after z.shared n a.0) a.2, a.3)

    -- by equal ones
    pub alone-alike : (g : G) (h : H) (n : ℕ) (new kept : G) (rested stays : H) → eq_shared new kept ≡ true → eq_thread rested stays ≡ true
        → GoesAlone k g h n new rested → GoesAlone k g h n kept stays
    alone-alike g h n new kept rested stays eq_new eq_rested so = record {
      made = so.made;
      event = event-alike g h n new kept so.made eq_new so.event;
      come = λ c shared at. (let come = so.come c shared at in record {
        len = λ z e is move. length-set c.threads.items n stays ∙ (sym (length-set c.threads.items n rested) ∙ come.len z e is (back c z e move));
        each = λ z e is move m t there. elim (set-at c.threads.items n stays m t there) [
          | inl own ↦ (
              let r = come.each z e is (back c z e move) n rested (set-own c.threads.items n h rested at) in
              subst (λ v. RestsAfter k z n e m v) own.1 (subst (λ (j : ℕ). RestsAfter k z n e j stays) (sym own.0)
              (record { settled = r.settled; rests = r.rests; is = same_thread rested stays eq_rested r.settled r.is })))
          | inr other ↦ come.each z e is (back c z e move) m t (set-others c.threads.items n rested m t other.0 other.1)
        ];
      });
    }
      where
        back : (c : RestingState G H) (z : State X T) (e : E) → IsMove k kept so.made n c.threads.items z e → IsMove k new so.made n c.threads.items z e
        back c z e move = record {
          made_by = move.made_by;
          shared = same_shared kept new (symm new kept eq_new) (k.system.after z.shared n e) move.shared;
          len = move.len;
          each = move.each;
        }

  -- nobody else hears of it
  pub alone : (g : G) (h : H) (n : ℕ) (new : G) (made : M) (rested : H) (count : ℕ) → ((x : X) → k.shares g x → count ≡ k.count x)
      → ((x : X) → k.shares new x → count ≡ k.count x)
      → IsEventAt k g h n (Some (new, made)) → IsUnheard k made n count → ComesAfter k made n h n rested → GoesAlone k g h n new rested
  alone g h n new made rested count before after event unheard comes = record {
    made = made;
    event = event;
    come = λ c shared at. record {
      len = λ z e is move. (
          let was : count ≡ k.count z.shared = before z.shared (subst (λ v. k.shares v z.shared) shared (is.settled_is).shared) in
          let will : count ≡ k.count (k.system.after z.shared n e) = after (k.system.after z.shared n e) move.shared in
          length-set c.threads.items n rested ∙ (move.len ∙ (sym was ∙ will)));
      each = λ z e is move m t there. elim (set-at c.threads.items n rested m t there) [
        | inl own ↦ (
            subst (λ v. RestsAfter k z n e m v) own.1 (subst (λ (j : ℕ). RestsAfter k z n e j rested) (sym own.0)
            (comes z e move.made_by (move.each n h at))))
        | inr other ↦ (
            let low = slice_get_within c.threads.items m t other.1 in
            let was : count ≡ k.count z.shared = before z.shared (subst (λ v. k.shares v z.shared) shared (is.settled_is).shared) in
            let len = move.len in
            unheard m (omega (arith, low, was, len)) other.0 t z e move.made_by (move.each m t other.1))
      ];
    };
  }

-- a place of what is known
pub noted-at : (known : List (Option Known)) (slot : ℕ) (o : Option Known) (one : Known) → slice_get known slot ≡ Some o → o ≡ Some one
    → (shared thread n : ℕ) → one.shared ≡ shared → one.thread ≡ thread → one.n ≡ n → IsNotedIn known shared thread n one.turn
noted-at known slot o one at is shared thread n a b c = (
  slot,
  at ∙ ap (λ v. Some v) (is ∙ ap (λ v. Some v) (λ i. record { shared = a i; thread = b i; n = c i; turn = one.turn })),
)

pub from-put : (items : List (Option Known)) (slot : ℕ) (new : Known) (before : List (Option Known))
    → ((s : ℕ) (k : Known) → slice_get items s ≡ Some (Some k) → (was : ℕ) × (slice_get before was ≡ Some (Some k))) →
    AreFrom before new (slice_set items slot (Some new))
from-put items slot new before old s k at = elim (set-at items slot (Some new) s (Some k) at) [
  | inl h ↦ (let same : new ≡ k = cc h.1 in inl (sym same))
  | inr h ↦ inr (old s k h.1)
]

pub none-there : (n : ℕ) (before : List (Option Known)) (s : ℕ) (k : Known) → slice_get (replicate n None) s ≡ Some (Some k)
    → (was : ℕ) × (slice_get before was ≡ Some (Some k))
none-there zero before s k at = absurd (none-some (Some k) at)
none-there (suc n) before zero k at = absurd (cc at)
none-there (suc n) before (suc s) k at = none-there n before s k at

-- turns that were there before, and one more of them
pub others-more : (before more after : List (Option Known)) (at : ℕ) (new : Known) → slice_get before at ≡ Some (Some new)
    → HasNoOther before more → AreFrom more new after → HasNoOther before after
others-more before more after at new there so from slot k is = elim (from slot k is) [
  | inl same ↦ (at, there ∙ ap (λ v. Some (Some v)) (sym same))
  | inr was ↦ so was.0 k was.1
]
