-- The turns that are known, and those that were found, stay right where the table grows.
use Rattle.std.proofs.Common.{◌≡◌, ◌↔◌, Bool, ℕ, zero, suc, ◌+◌, ◌<◌, ◌^◌, ◌⊎◌, List, [], ◌∷◌, ◌++◌, length, map, inl, inr}
use Rattle.std.proofs.Common.{Some, refl, sym, ◌∙◌, ap, subst, arith}
use Rattle.std.specs.Prelude.{IfOk, Result}
use Rattle.std.specs.Global.{Vec}
use Rattle.std.specs.List.{slice_get}
use Rattle.std.proofs.lemmas.List.{length-map}
use Rattle.std.proofs.lemmas.Option.{none-some}
use Rattle.schedule.specs.System.{State}
use Rattle.search_graph.specs.declared.graph.Move.{Move}
use Rattle.search_table.specs.declared.parts.StateParts.{StateParts}
use Rattle.search_table.specs.Tables.{AreThreads, Grows, AreStates, states_of}
use Rattle.search_table.proofs.Keeping.{keeps-longer, get-last}
use Rattle.search_reach.specs.Meeting.{HasMetAt, HasSound, HasFirst, OfStateAt, GoesOn}
use Rattle.search_reach.proofs.Meeting.{at-some}
use Rattle.search_reach.proofs.Searching.{here}
use Rattle.search_settled.specs.Threads.{ThreadSystem}
use Rattle.search_settled.specs.declared.flat.RestingState.{RestingState}
use Rattle.search_settled.specs.declared.met.NextRow.{NextRow}
use Rattle.search_settled.specs.Flat.{AreBounded}
use Rattle.search_settled.specs.Known.{IsOf, AreOf}
use Rattle.search_settled.proofs.Rows.{zip-length, states-grow as rows-grow}
use Rattle.search_race_free.specs.declared.owning.Owning.{Owning}
use Rattle.search_race_free.specs.declared.met.Held.{Held}
use Rattle.search_race_free.specs.declared.met.StateTable.{StateTable}
use Rattle.search_race_free.specs.declared.known.FoundTurn.{FoundTurn}
use Rattle.search_race_free.specs.declared.known.TurnOf.{TurnOf}
use Rattle.search_race_free.specs.declared.ahead.KnownTables.{KnownTables}
use Rattle.search_race_free.specs.Reduced.{reduced_steps}
use Rattle.search_race_free.specs.Same.{owning_eq}
use Rattle.search_race_free.specs.Met.{held, HasOwning, IsCopy}
use Rattle.search_race_free.specs.Known.{AreKnownTurns, HasTurn, IsFoundTurn, HasRowsAt}
use Rattle.search_race_free.specs.Ahead.{AreTurns, AreFound, AreFoundIn, IsFoundIn, HasKnown}
use Rattle.search_race_free.proofs.Knowing.{few-from}

-- where it stands of two lists
at-both : {A : Type 0} (xs ys : List A) (i : ℕ) (x : A) → slice_get (xs ++ ys) i ≡ Some x
    → (slice_get xs i ≡ Some x) ⊎ ((j : ℕ) × (j + length xs ≡ i) × (slice_get ys j ≡ Some x))
at-both [] ys i x at = inr (i, omega arith, at)
at-both (z ∷ xs) ys zero x at = inl at
at-both (z ∷ xs) ys (suc i) x at = elim (at-both xs ys i x at) [
  | inl was ↦ inl was
  | inr far ↦ (let is = far.1 in inr (far.0, omega (arith, is), far.2))
]

-- of a last one, and of the others
of-last : {A : Type 0} (P : A → Type 0) (all rest : List A) (last : A) → all ≡ rest ++ last ∷ []
    → ((i : ℕ) (x : A) → slice_get all i ≡ Some x → P x) → P last
of-last P all rest last is so =
    so (length rest) last (subst (λ l. slice_get l (length rest) ≡ Some last) (sym is) (get-last rest last))

of-others : {A : Type 0} (P : A → Type 0) (all rest : List A) (last : A) → all ≡ rest ++ last ∷ []
    → ((i : ℕ) (x : A) → slice_get all i ≡ Some x → P x) → (i : ℕ) (x : A) → slice_get rest i ≡ Some x → P x
of-others P all rest last is so i x at =
    so i x (subst (λ l. slice_get l i ≡ Some x) (sym is) (keeps-longer rest (last ∷ []) i x at))

of-both : {A : Type 0} (P : A → Type 0) (xs ys : List A) → ((i : ℕ) (x : A) → slice_get xs i ≡ Some x → P x)
    → ((i : ℕ) (x : A) → slice_get ys i ≡ Some x → P x) → (i : ℕ) (x : A) → slice_get (xs ++ ys) i ≡ Some x → P x
of-both P xs ys one other i x at = elim (at-both xs ys i x at) [
  | inl was ↦ one i x was
  | inr far ↦ other far.0 x far.2
]

of-one : {A : Type 0} (P : A → Type 0) (y : A) → P y → (i : ℕ) (x : A) → slice_get (y ∷ []) i ≡ Some x → P x
of-one P y so zero x at = (let same : y ≡ x = cc at in subst P same so)
of-one P y so (suc i) x at = absurd (none-some x at)

module _ {G H : Type 0} where
  same-threads : (t : StateParts (Held G) H) (ns : List ℕ) (xs ys : List H) → AreThreads t ns xs → AreThreads t ns ys → xs ≡ ys
  same-threads t [] [] [] a b = refl
  same-threads t [] (x ∷ xs) ys a b = absurd a
  same-threads t [] [] (y ∷ ys) a b = absurd b
  same-threads t (n ∷ ns) [] ys a b = absurd a
  same-threads t (n ∷ ns) (x ∷ xs) [] a b = absurd b
  same-threads t (n ∷ ns) (x ∷ xs) (y ∷ ys) a b =
      let one : x ≡ y = cc (a.0, b.0) in
      let rest = same-threads t ns xs ys a.1 b.1 in
      cc (one, rest)

  -- two states of a row have the same parts
  pub record HasSameParts (x y : Owning (RestingState G H)) : Type 0 where
    pub shared : (held x).shared ≡ (held y).shared
    pub threads : x.flat.threads.items ≡ y.flat.threads.items

  pub same-parts : (t : StateParts (Held G) H) (r : List ℕ) (x y : Owning (RestingState G H)) → IsOf t r (held x) → IsOf t r (held y) → HasSameParts x y
  same-parts t [] x y a b = absurd a
  same-parts t (n ∷ ns) x y a b = record { shared = cc (a.0, b.0); threads = same-threads t ns x.flat.threads.items y.flat.threads.items a.1 b.1 }

module _ {X T E V A G H M : Type 0} (k : ThreadSystem X T E V A G H M) where
  pub copy-same : (x y copy : Owning (RestingState G H)) → HasSameParts x y → IsCopy k x copy → IsCopy k y copy
  copy-same x y copy same is = record {
    shared = λ z. subst (λ g. k.shares g z ↔ k.shares copy.flat.shared z) (ap (λ h. h.shared) same.shared) (is.shared z);
    threads = is.threads ∙ same.threads;
    owned = is.owned ∙ ap (λ h. h.owned.items) same.shared;
  }

  -- turns that are wanted
  pub none-wanted : (t : StateParts (Held G) H) (turns : List TurnOf) → turns ≡ [] → AreTurns k t turns
  none-wanted t turns none =
      record { each = λ i turn at. absurd (none-some turn (subst (λ l. slice_get l i ≡ Some turn) none at)) }

  pub more-wanted : (t : StateParts (Held G) H) (old new : List TurnOf) (turn : TurnOf) → new ≡ old ++ turn ∷ []
      → AreTurns k t old → HasTurn k t turn → AreTurns k t new
  more-wanted t old new turn is were so = record {
    each = λ i x at. of-both (HasTurn k t) old (turn ∷ []) were.each (of-one (HasTurn k t) turn so) i x
        (subst (λ l. slice_get l i ≡ Some x) is at);
  }

  -- turns that were found
  pub none-found : (t : StateParts (Held G) H) (turns : List (FoundTurn G H)) → turns ≡ [] → AreFound k t turns
  none-found t turns none i turn at = absurd (none-some turn (subst (λ l. slice_get l i ≡ Some turn) none at))

  pub more-found : (t : StateParts (Held G) H) (old new : List (FoundTurn G H)) (turn : FoundTurn G H) → new ≡ old ++ turn ∷ []
      → AreFound k t old → IsFoundTurn k t turn → AreFound k t new
  more-found t old new turn is were so =
      subst (AreFound k t) (sym is) (of-both (IsFoundTurn k t) old (turn ∷ []) were (of-one (IsFoundTurn k t) turn so))

  pub both-found : (t : StateParts (Held G) H) (old more new : List (FoundTurn G H)) → new ≡ old ++ more → AreFound k t old
      → AreFound k t more → AreFound k t new
  both-found t old more new is were are = subst (AreFound k t) (sym is) (of-both (IsFoundTurn k t) old more were are)

  pub last-found : (t : StateParts (Held G) H) (all rest : List (FoundTurn G H)) (last : FoundTurn G H) → all ≡ rest ++ last ∷ []
      → AreFound k t all → IsFoundTurn k t last
  last-found t all rest last is so = of-last (IsFoundTurn k t) all rest last is so

  pub turn-grows : (t u : StateParts (Held G) H) → Grows t u → (turn : FoundTurn G H) → IsFoundTurn k t turn → IsFoundTurn k u turn
  turn-grows t u grows turn so =
      let from = so.from in
      record {
        from = record {
          held_is = from.held_is;
          thread_is = from.thread_is;
          held_at = grows.shared turn.of.held from.held_is from.held_at;
          thread_at = grows.threads turn.of.thread from.thread_is from.thread_at;
          any = from.any;
        };
        goes = so.goes;
      }

  pub found-few : AreBounded k.system k.first k.count k.most → (t : StateParts (Held G) H) (turn : FoundTurn G H) → IsFoundTurn k t turn
      → turn.of.n < 2 ^ 32
  found-few bounded t turn so =
      let from = so.from in
      let any = from.any in
      let low = few-from k bounded from.held_is from.thread_is turn.of.n any.0 any.1 in
      let numbered = bounded.numbered in
      omega (arith, low, numbered)

  pub others-found : (t u : StateParts (Held G) H) → Grows t u → (all rest : List (FoundTurn G H)) (last : FoundTurn G H)
      → all ≡ rest ++ last ∷ [] → AreFound k t all → AreFound k u rest
  others-found t u grows all rest last is so i turn at =
      turn-grows t u grows turn (of-others (IsFoundTurn k t) all rest last is so i turn at)

  pub last-piece : {F : Type 0} (t : StateParts (Held G) H) (all rest : List (Result (Vec (FoundTurn G H)) F))
      (last : Result (Vec (FoundTurn G H)) F) → all ≡ rest ++ last ∷ [] → AreFoundIn k t all → IfOk last (IsFoundIn k t)
  last-piece t all rest last is are = of-last (λ piece. IfOk piece (IsFoundIn k t)) all rest last is are

  pub other-pieces : {F : Type 0} (t : StateParts (Held G) H) (all rest : List (Result (Vec (FoundTurn G H)) F))
      (last : Result (Vec (FoundTurn G H)) F) → all ≡ rest ++ last ∷ [] → AreFoundIn k t all → AreFoundIn k t rest
  other-pieces t all rest last is are = of-others (λ piece. IfOk piece (IsFoundIn k t)) all rest last is are

  -- where the parts alone have grown
  pub owning-grown : (t new : StateTable G H) → Grows t.parts new.parts → new.states ≡ t.states
      → (ks : List (Owning (RestingState G H))) → HasOwning t ks → HasOwning new ks
  owning-grown t new grows same ks has = record {
    table = subst (λ v. AreStates v) (sym same) has.table;
    are = subst (λ v. AreOf new.parts v (map held ks)) (sym same) (rows-grow t.parts new.parts grows t.states (map held ks) has.are);
  }

  pub parts-grown : (t new : KnownTables G H) → Grows t.met.parts new.met.parts → new.met.states ≡ t.met.states
      → AreKnownTurns k new.met.parts new.known.items → (ks : List (Owning (RestingState G H))) → HasKnown k t ks → HasKnown k new ks
  parts-grown t new grows states known ks has =
      record { owning = owning-grown t.met new.met grows states ks has.owning; known = known }

  pub rows-grown : (eq_shared : G → G → Bool) (eq_thread : H → H → Bool) (t u : StateTable G H) (parts : StateParts (Held G) H)
      → Grows t.parts u.parts → u.states ≡ t.states → (at : ℕ) (rs : List NextRow)
      → HasRowsAt k eq_shared eq_thread u parts at rs → HasRowsAt k eq_shared eq_thread t parts at rs
  rows-grown eq_shared eq_thread t u parts grows same at rs so ks s are there =
      so ks s (subst (λ v. AreOf u.parts v (map held ks)) (sym same) (rows-grow t.parts u.parts grows t.states (map held ks) are)) there

module _ {X T E V A G H M O : Type 0} (k : ThreadSystem X T E V A G H M) (ends : State X T → O → Type 0) (stuck : State X T → Type 0) where
  pub met-place : (t : StateTable G H) → HasSound (reduced_steps k ends stuck) (HasOwning t) → (place : ℕ) → place < length (states_of t.states)
      → HasMetAt (reduced_steps k ends stuck) (HasOwning t) place
  met-place t r place low =
      let long : length (r.0) ≡ length (states_of t.states) =
      sym (length-map r.0 held) ∙ zip-length (IsOf t.parts) (states_of t.states) (map held r.0) (r.1).are in
      let s = at-some r.0 place (omega (arith, low, long)) in
      (r.0, s.0, r.1, s.1, r.2 s.0 (here r.0 place s.0 s.1))

  -- what a table has
  pub owning-at : (t : KnownTables G H) (at : ℕ) → HasMetAt (reduced_steps k ends stuck) (HasKnown k t) at
      → HasMetAt (reduced_steps k ends stuck) (HasOwning t.met) at
  owning-at t at met = (met.0, met.1, (met.2).owning, met.3, met.4)

  pub owning-sound : (t : KnownTables G H) → HasSound (reduced_steps k ends stuck) (HasKnown k t)
      → HasSound (reduced_steps k ends stuck) (HasOwning t.met)
  owning-sound t r = (r.0, (r.1).owning, r.2)

  pub first-known : (t : KnownTables G H) → AreKnownTurns k t.met.parts t.known.items → HasFirst (reduced_steps k ends stuck) (HasOwning t.met)
      → HasFirst (reduced_steps k ends stuck) (HasKnown k t)
  first-known t known f = record { state = f.state; is = f.is; held = record { owning = f.held; known = known } }

  pub goes-known : (eq_shared : G → G → Bool) (eq_thread : H → H → Bool) (t : KnownTables G H) (new : KnownTables G H) (at : ℕ) (before after : List Move)
      → AreKnownTurns k new.met.parts new.known.items
      → OfStateAt (reduced_steps k ends stuck) (HasOwning t.met) at
      (λ ks s. GoesOn (reduced_steps k ends stuck) (HasOwning new.met) (owning_eq eq_shared eq_thread) ks at s before after)
      → OfStateAt (reduced_steps k ends stuck) (HasKnown k t) at
      (λ ks s. GoesOn (reduced_steps k ends stuck) (HasKnown k new) (owning_eq eq_shared eq_thread) ks at s before after)
  goes-known eq_shared eq_thread t new at before after known on ks s has there met =
      let so = on ks s has.owning there met in
      record {
        next = so.next;
        are = so.are;
        states = so.states;
        held = record { owning = so.held; known = known };
        gains = so.gains;
        noted = so.noted;
      }

  pub met-grown : (t new : KnownTables G H) → Grows t.met.parts new.met.parts → new.met.states ≡ t.met.states
      → AreKnownTurns k new.met.parts new.known.items → (at : ℕ) → HasMetAt (reduced_steps k ends stuck) (HasKnown k t) at
      → HasMetAt (reduced_steps k ends stuck) (HasKnown k new) at
  met-grown t new grows states known at met = (met.0, met.1, parts-grown k t new grows states known met.0 met.2, met.3, met.4)

  pub of-grown : (t new : KnownTables G H) → Grows t.met.parts new.met.parts → new.met.states ≡ t.met.states
      → AreKnownTurns k new.met.parts new.known.items → (at : ℕ) (so : List (Owning (RestingState G H)) → Owning (RestingState G H) → Type 0)
      → OfStateAt (reduced_steps k ends stuck) (HasKnown k new) at so → OfStateAt (reduced_steps k ends stuck) (HasKnown k t) at so
  of-grown t new grows states known at so all ks s has there met = all ks s (parts-grown k t new grows states known ks has) there met
