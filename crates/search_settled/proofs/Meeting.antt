-- A table of settled states is what a search asks for.
use Rattle.std.proofs.Common.{◌≡◌, ℕ, ◌&&◌, Bool, true, List, [], ◌∷◌, length, Option, Some, None, refl, sym, ◌∙◌, ap, subst, arith}
use Rattle.std.specs.List.{slice_get, AllZip}
use Rattle.std.specs.Cmp.Lexicographic.{pointwise}
use Rattle.std.proofs.lemmas.Option.{none-some}
use Rattle.schedule.specs.System.{State}
use Rattle.search_graph.specs.declared.graph.Move.{Move}
use Rattle.search_table.specs.Tables.{AreThreads, Grows, AreStates, states_of, with_row}
use Rattle.search_reach.specs.Search.{IsEnding, AllGetStuck}
use Rattle.search_reach.specs.Meeting.{HasMetAt, OfStateAt, HasFirst, GoesOn}
use Rattle.search_settled.specs.declared.flat.RestingState.{RestingState}
use Rattle.search_settled.specs.declared.met.NextRow.{NextRow}
use Rattle.search_settled.specs.declared.met.Tables.{Tables}
use Rattle.search_settled.specs.Settled.{AreTame}
use Rattle.search_settled.specs.Threads.{ThreadSystem}
use Rattle.search_settled.specs.Parts.{HasParts}
use Rattle.search_settled.specs.Next.{IsBeginning, IsStuckAfter, HasEnded, NobodyTurns}
use Rattle.search_settled.specs.Flat.{AreBounded}
use Rattle.search_settled.specs.Turns.{turn_steps}
use Rattle.search_settled.specs.Same.{same_length, flat_eq, flat_alike}
use Rattle.search_settled.specs.Known.{IsOf, IsRowOfEqual, AreNextRows, IsSomeRow, OfRow, AreKnown, HasStates, PutsRows}
use Rattle.search_settled.proofs.Laws.{first-is, somewhere, next-are, gets-stuck, ending-is}
use Rattle.search_settled.proofs.Rows.{beside-back, zip-length, states-grow}
use Rattle.search_settled.proofs.Knowing.{known-grows}
use Rattle.search_settled.proofs.Nexting.{with_parts}

nothing-at : {A : Type 0} (xs : List A) (i : ℕ) (x : A) → xs ≡ [] → slice_get xs i ≡ Some x → ⊥
nothing-at xs i x none at = none-some x (subst (λ l. slice_get l i ≡ Some x) none at)

no-rows : {A B : Type 0} (P : A → B → Type 0) (xs : List A) → AllZip P xs [] → xs ≡ []
no-rows P [] h = refl
no-rows P (x ∷ xs) h = absurd h

module _ {X T E V A G H M O : Type 0} (k : ThreadSystem X T E V A G H M) (ends : State X T → O → Type 0) (stuck : State X T → Type 0) where
  pub nothing-yet : (t : Tables G H) → AreStates t.states → states_of t.states ≡ [] → (t.met).known.items ≡ [] → HasStates k t []
  nothing-yet t are empty none = record {
    known = λ slot known at. absurd (nothing-at (t.met).known.items slot (Some known) none at);
    table = are;
    are = subst (λ rs. AllZip (IsOf (t.met).parts) rs []) (sym empty) tt;
  }

  pub counted : (t : Tables G H) (cs : List (RestingState G H)) → HasStates k t cs → (count : ℕ) → count ≡ length (states_of t.states) → count ≡ length cs
  counted t cs has count is = is ∙ sym (zip-length (IsOf (t.met).parts) (states_of t.states) cs has.are)

  -- the first state, whose parts were put in, and its row
  pub first-put : (eq_shared : G → G → Bool) (eq_thread : H → H → Bool)
      → ((x y : G) → eq_shared x y ≡ true → (w : X) → k.shares x w → k.shares y w)
      → ((x y : H) → eq_thread x y ≡ true → (w : T) → k.is_thread x w → k.is_thread y w)
      → (old new : Tables G H) → HasStates k old [] → Grows (old.met).parts (new.met).parts → (new.met).known.items ≡ (old.met).known.items
      → AreStates new.states → (row : List ℕ) → states_of new.states ≡ with_row (states_of old.states) row
      → (flat : RestingState G H) → IsBeginning k flat → IsRowOfEqual eq_shared eq_thread (new.met).parts flat row
      → HasFirst (turn_steps k ends stuck) (HasStates k new)
  unfolding with_parts
  first-put eq_shared eq_thread same_shared same_thread old new has grows known table row put flat begins w =
      let ok = (flat.threads).ok in
      let small = (flat.threads).small in
      let long = same_length eq_thread (flat.threads).items w.threads w.threads_equal in
      let y = with_parts flat w.shared w.threads (omega (arith, ok.0, ok.1, small, long)) in
      let equal : flat_eq eq_shared eq_thread flat y ≡ true =
      ap (λ b. b && pointwise eq_thread (flat.threads).items w.threads) w.shared_equal ∙ w.threads_equal in
      let alike = flat_alike eq_shared eq_thread k same_shared same_thread flat y equal in
      let none : states_of old.states ≡ [] = no-rows (IsOf (old.met).parts) (states_of old.states) has.are in
      let one : states_of new.states ≡ row ∷ [] = put ∙ ap (λ rs. with_row rs row) none in
      record {
        state = y;
        is = first-is k ends stuck y (record { settled = begins.settled; rest = begins.rest; settled_is = alike begins.settled begins.settled_is });
        held = record {
          known = known-grows k old.met new.met has.known grows known;
          table = table;
          are = subst (λ rs. AllZip (IsOf (new.met).parts) rs (y ∷ [])) (sym one) (w.of, tt);
        };
      }

  -- the row of a state that was met
  pub row-met : (tame : AreTame k.system k.first k.most) (m : Tables G H) (at : ℕ) → HasMetAt (turn_steps k ends stuck) (HasStates k m) at → (row : List ℕ)
      → slice_get (states_of m.states) at ≡ Some row → IsSomeRow k (m.met).parts row
  row-met tame m at met row is =
      let r = beside-back (IsOf (m.met).parts) (states_of m.states) met.0 (met.2).are at met.1 met.3 in
      let same : r.0 ≡ row = cc (r.1, is) in
      (met.1, subst (λ v. IsOf (m.met).parts v met.1) same r.2, somewhere k ends stuck tame met.1 met.4)

  pub met-row : (m : Tables G H) (at : ℕ) → HasMetAt (turn_steps k ends stuck) (HasStates k m) at → slice_get (states_of m.states) at ≡ None → ⊥
  met-row m at met none =
      let r = beside-back (IsOf (m.met).parts) (states_of m.states) met.0 (met.2).are at met.1 met.3 in
      absurd (cc (r.1, none))

  -- which has a number
  pub met-empty : (tame : AreTame k.system k.first k.most) (m : Tables G H) (at : ℕ) → HasMetAt (turn_steps k ends stuck) (HasStates k m) at → (row : List ℕ)
      → slice_get (states_of m.states) at ≡ Some row → length row ≡ 0 → ⊥
  met-empty tame m at met [] is none = let some = row-met tame m at met [] is in some.1
  met-empty tame m at met (n ∷ ns) is none = absurd (cc none)

  module _ (tame : AreTame k.system k.first k.most) (m : Tables G H) (at : ℕ) (row : List ℕ) (is : slice_get (states_of m.states) at ≡ Some row) where
    -- what is so of the state of the row
    of-row : (so : RestingState G H → Type 0) → OfRow k (m.met).parts row so
        → OfStateAt (turn_steps k ends stuck) (HasStates k m) at (λ ks s. so s)
    of-row so all ks s held there met =
        let r = beside-back (IsOf (m.met).parts) (states_of m.states) ks held.are at s there in
        let same : r.0 ≡ row = cc (r.1, is) in
        all s (subst (λ v. IsOf (m.met).parts v s) same r.2) (somewhere k ends stuck tame s met)

    pub stuck-at : OfRow k (m.met).parts row (IsStuckAfter k stuck)
        → OfStateAt (turn_steps k ends stuck) (HasStates k m) at (λ ks s. AllGetStuck (turn_steps k ends stuck) s)
    stuck-at lost ks s held there met = gets-stuck k ends stuck tame s (of-row (IsStuckAfter k stuck) lost ks s held there met)

    -- how it has ended, of which these are the parts
    pub ended-at : NobodyTurns k.system ends → (number : ℕ) (numbers : List ℕ) → row ≡ number ∷ numbers → (shared : G) (each : List H)
        → slice_get (m.met).parts.shared.keys number ≡ Some shared
        → ((xs : List H) → AreThreads (m.met).parts numbers xs → each ≡ xs)
        → (o : Option O) → ((c : RestingState G H) → HasParts shared each c → HasEnded k ends c o)
        → OfStateAt (turn_steps k ends stuck) (HasStates k m) at (λ ks s. IsEnding (turn_steps k ends stuck) s o)
    ended-at over number numbers row_is shared each there all o ended =
        of-row (λ c. IsEnding (turn_steps k ends stuck) c o)
        (λ c of_row somewhere. (
        let of = subst (λ v. IsOf (m.met).parts v c) row_is of_row in
        let same : c.shared ≡ shared = cc (of.0, there) in
        ending-is k ends stuck tame over c o (ended c (same, sym (all c.threads.items of.1)))))

    pub none-put : (new : Tables G H) → Grows (m.met).parts (new.met).parts → AreKnown k new.met → new.states ≡ m.states
        → OfStateAt (turn_steps k ends stuck) (HasStates k m) at (λ ks s. HasStates k new ks)
    none-put new grows known same ks s held there met = record {
      known = known;
      table = subst AreStates (sym same) held.table;
      are = subst (λ v. AllZip (IsOf (new.met).parts) (states_of v) ks) (sym same) (states-grow (m.met).parts (new.met).parts grows m.states ks held.are);
    }

    pub next-put : (bounded : AreBounded k.system k.first k.count k.most) (eq_shared : G → G → Bool) (eq_thread : H → H → Bool) (new : Tables G H)
        → Grows (m.met).parts (new.met).parts → AreKnown k new.met → AreStates new.states → (rs : List NextRow)
        → OfRow k (m.met).parts row (λ c. AreNextRows k (new.met).parts c rs) → (before after : List Move)
        → PutsRows eq_shared eq_thread (new.met).parts m.states new.states at rs before after
        → OfStateAt (turn_steps k ends stuck) (HasStates k m) at
        (λ ks s. GoesOn (turn_steps k ends stuck) (HasStates k new) (flat_eq eq_shared eq_thread) ks at s before after)
    next-put bounded eq_shared eq_thread new grows known table rs next before after puts ks s held there met =
        let n = of-row (λ c. AreNextRows k (new.met).parts c rs) next ks s held there met in
        let p = puts ks n.next (states-grow (m.met).parts (new.met).parts grows m.states ks held.are) n.are in
        record {
          next = n.next;
          are = next-are k ends stuck tame bounded s n.next n.has;
          states = p.0;
          held = record { known = known; table = table; are = p.1 };
          gains = p.2;
          noted = p.3;
        }
