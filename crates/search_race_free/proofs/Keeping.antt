-- A table of states with what is owned is what a search asks for.
use Rattle.std.proofs.Common.{◌≡◌, ℕ, ◌<◌, ◌^◌, Bool, true, List, [], ◌∷◌, map, Option, Some, None, sym, ◌∙◌, ap, subst}
use Rattle.std.specs.List.{slice_get, AllZip}
use Rattle.std.proofs.lemmas.List.{length-map, nil_from_length}
use Rattle.std.proofs.lemmas.Option.{none-some}
use Rattle.schedule.specs.System.{State}
use Rattle.search_graph.specs.declared.graph.Move.{Move}
use Rattle.search_table.specs.Tables.{AreThreads, Grows, AreStates, states_of, with_row}
use Rattle.search_reach.specs.declared.explores.NextState.{NextState}
use Rattle.search_reach.specs.Search.{IsFirst, IsMet, IsEnding, AreNext, AllGetStuck}
use Rattle.search_reach.specs.Meeting.{HasMetAt, OfStateAt, HasFirst, GoesOn}
use Rattle.search_settled.specs.Settled.{AreTame}
use Rattle.search_settled.specs.Threads.{ThreadSystem}
use Rattle.search_settled.specs.declared.flat.RestingState.{RestingState}
use Rattle.search_settled.specs.declared.met.NextRow.{NextRow}
use Rattle.search_settled.specs.Parts.{HasParts}
use Rattle.search_settled.specs.Next.{HasEnded}
use Rattle.search_settled.specs.Known.{IsOf, AreOf, PutsRows}
use Rattle.search_settled.proofs.Rows.{states-grow, zip-length}
use Rattle.search_race_free.specs.declared.owning.Owning.{Owning}
use Rattle.search_race_free.specs.declared.met.Held.{Held}
use Rattle.search_race_free.specs.declared.met.StateTable.{StateTable}
use Rattle.search_race_free.specs.Same.{owning_eq}
use Rattle.search_race_free.specs.Wanted.{ArePlain}
use Rattle.search_race_free.specs.Reduced.{reduced_steps}
use Rattle.search_race_free.specs.Search.{NoneBeyond, NobodyGoesOn, IsKnown}
use Rattle.search_race_free.specs.Known.{HasRowsAt}
use Rattle.search_race_free.proofs.Reducing.{next-are}
use Rattle.search_race_free.specs.Met.{held, parted, held_eq, HasOwning, IsHeldRow, AreHeldRows, IsCopy, IsStateAt}
use Rattle.search_race_free.proofs.Held.{next_parted, held-all, row-state, row-at, gains-held, notes-held, IsLike}
use Rattle.search_race_free.proofs.Held.{StandsAlike, next-like, copy-self, copy-stands, stands-copy, followed-copy, followed-equal}
use Rattle.search_race_free.proofs.Beginning.{known-met, ending-is}

module _ {X T E V A G H M O : Type 0} (k : ThreadSystem X T E V A G H M) (ends : State X T → O → Type 0) (stuck : State X T → Type 0) where
  -- the state of which a copy was made
  pub met-copy : (s copy : Owning (RestingState G H)) → IsCopy k s copy → IsMet (reduced_steps k ends stuck) s → IsMet (reduced_steps k ends stuck) copy
  met-copy s copy is met = record {
    from = met.from;
    begun = met.begun;
    comes = (let c = met.comes in record { end = c.end; path = c.path; is = (c.is.0, copy-stands k s copy is c.end c.is.0 c.is.1) });
  }

  pub stuck-copy : (s copy : Owning (RestingState G H)) → IsCopy k s copy → AllGetStuck (reduced_steps k ends stuck) copy →
      AllGetStuck (reduced_steps k ends stuck) s
  stuck-copy s copy is all w stands = all w (stands.0, copy-stands k s copy is w stands.0 stands.1)

  pub copy-at : (t : StateTable G H) (at : ℕ) (o : Option (Owning (RestingState G H))) → IsStateAt k t at o → (copy : Owning (RestingState G H)) → o ≡ Some copy
      → (ks : List (Owning (RestingState G H))) (s : Owning (RestingState G H)) → HasOwning t ks → slice_get ks at ≡ Some s → IsCopy k s copy
  copy-at t at o so copy is ks s has there =
      let c = so ks s has.are there in
      let same : c.0 ≡ copy = cc (c.1, is) in
      subst (IsCopy k s) same c.2

  -- the row of a state that was met
  pub row-met : (t : StateTable G H) (at : ℕ) → HasMetAt (reduced_steps k ends stuck) (HasOwning t) at →
      (row : List ℕ) → slice_get (states_of t.states) at ≡ Some row
      → (s : Owning (RestingState G H)) × IsOf t.parts row (held s) × IsMet (reduced_steps k ends stuck) s
  row-met t at met row is =
      let r = row-at t met.0 (met.2).are at met.1 met.3 in
      let same : r.0 ≡ row = cc (r.1, is) in
      (met.1, subst (λ v. IsOf t.parts v (held met.1)) same r.2, met.4)

  pub met-row : (t : StateTable G H) (at : ℕ) → HasMetAt (reduced_steps k ends stuck) (HasOwning t) at → slice_get (states_of t.states) at ≡ None → ⊥
  met-row t at met none =
      let r = row-at t met.0 (met.2).are at met.1 met.3 in
      absurd (cc (r.1, none))

  -- no copy, where there is no state
  pub copy-none : (t : StateTable G H) (at : ℕ) (o : Option (Owning (RestingState G H))) → IsStateAt k t at o → o ≡ None
      → (ks : List (Owning (RestingState G H))) (s : Owning (RestingState G H)) → HasOwning t ks → slice_get ks at ≡ Some s → ⊥
  copy-none t at o so none ks s has there =
      let c = so ks s has.are there in
      none-some c.0 (sym none ∙ c.1)

  module _ (tame : AreTame k.system k.first k.most) (plain : ArePlain k.system k.accesses k.first)
      (beyond : NoneBeyond k.system k.accesses k.first k.most) where
    pub known-copy : (s copy : Owning (RestingState G H)) → IsCopy k s copy → IsMet (reduced_steps k ends stuck) s → IsKnown k copy
    known-copy s copy is met = known-met k tame plain ends stuck beyond copy (met-copy s copy is met)

    -- how a state has ended, of which these are the parts
    pub ended-at : NobodyGoesOn k.system k.accesses ends → (t : StateTable G H) (at number : ℕ) (numbers : List ℕ)
        → slice_get (states_of t.states) at ≡ Some (number ∷ numbers) → (h : Held G) → slice_get t.parts.shared.keys number ≡ Some h → (each : List H)
        → ((xs : List H) → AreThreads t.parts numbers xs → each ≡ xs)
        → (o : Option O) → ((c : RestingState G H) → HasParts h.shared each c → HasEnded k ends c o)
        → OfStateAt (reduced_steps k ends stuck) (HasOwning t) at (λ ks s. IsEnding (reduced_steps k ends stuck) s o)
    ended-at finished t at number numbers is h h_at each all o ended ks s has there met =
        let r = row-at t ks has.are at s there in
        let same : r.0 ≡ number ∷ numbers = cc (r.1, is) in
        let of = subst (λ v. IsOf t.parts v (held s)) same r.2 in
        let shared : (held s).shared ≡ h = cc (of.0, h_at) in
        ending-is k tame plain ends stuck beyond finished s o (ended s.flat (ap (λ x. x.shared) shared, sym (all s.flat.threads.items of.1)))

-- What is put.
module _ {X T E V A G H M O : Type 0} (k : ThreadSystem X T E V A G H M) (ends : State X T → O → Type 0) (stuck : State X T → Type 0)
    (eq_shared : G → G → Bool) (eq_thread : H → H → Bool)
    (alike : (x y : Owning (RestingState G H)) → owning_eq eq_shared eq_thread x y ≡ true → StandsAlike (reduced_steps k ends stuck) x y) where
  pub first-put : (t new : StateTable G H) → HasOwning t [] → AreStates new.states → (r : List ℕ)
      → states_of new.states ≡ with_row (states_of t.states) r → (s : Owning (RestingState G H)) → IsFirst (reduced_steps k ends stuck) s
      → IsHeldRow eq_shared eq_thread new.parts s r → HasFirst (reduced_steps k ends stuck) (HasOwning new)
  first-put t new has table r put s first row =
      let y = row-state eq_shared eq_thread new.parts s r row in
      let none : states_of t.states ≡ [] = nil_from_length (states_of t.states) (sym (zip-length (IsOf t.parts) (states_of t.states) [] has.are)) in
      let one : states_of new.states ≡ r ∷ [] = put ∙ ap (λ rs. with_row rs r) none in
      record {
        state = parted y.0;
        is = record {
          all = λ w begins. (let st = first.all w begins in (st.0, alike s (parted y.0) y.2 w st.0 st.1));
          one = first.one;
          begun = first.begun;
        };
        held = record { table = table; are = subst (λ rs. AllZip (IsOf new.parts) rs (y.0 ∷ [])) (sym one) (y.1, tt) };
      }

  like-all : (xs : List (NextState (Owning (RestingState G H)))) (ys : List (NextState (RestingState (Held G) H)))
      → AllZip (λ x y. (x.thread ≡ y.thread) × (owning_eq eq_shared eq_thread x.state (parted y.state) ≡ true)) xs ys
      → AllZip (IsLike (reduced_steps k ends stuck)) xs (map next_parted ys)
  like-all [] [] h = tt
  like-all [] (y ∷ ys) h = absurd h
  like-all (x ∷ xs) [] h = absurd h
  like-all (x ∷ xs) (y ∷ ys) h = (
    record {
      thread = (h.0).0;
      state = alike x.state (parted y.state) (h.0).1;
      follow = λ s n. followed-equal k eq_shared eq_thread s n x.state (parted y.state) (h.0).1;
    },
    like-all xs ys h.1,
  )

  pub next-put-copy : (t new : StateTable G H) (at : ℕ) (ks : List (Owning (RestingState G H))) (s copy : Owning (RestingState G H)) → IsCopy k s copy
      → HasOwning t ks → (xs : List (NextState (Owning (RestingState G H)))) → AreNext (reduced_steps k ends stuck) copy xs
      → Grows t.parts new.parts → AreStates new.states → (rs : List NextRow) → AreHeldRows eq_shared eq_thread new.parts xs rs
      → (before after : List Move) → PutsRows (held_eq eq_shared) eq_thread new.parts t.states new.states at rs before after
      → GoesOn (reduced_steps k ends stuck) (HasOwning new) (owning_eq eq_shared eq_thread) ks at s before after
  next-put-copy t new at ks s copy c has xs next grows table rs rows before after puts =
      let p = puts (map held ks) rows.next (states-grow t.parts new.parts grows t.states (map held ks) has.are) rows.are in
      record {
        next = map next_parted rows.next;
        are = next-like (reduced_steps k ends stuck) s copy (copy-stands k s copy c) (stands-copy k s copy c) (followed-copy k s copy c) xs
            (map next_parted rows.next)
            (like-all xs rows.next rows.equal) next;
        states = map parted p.0;
        held = record { table = table; are = subst (AreOf new.parts new.states) (sym (held-all p.0)) p.1 };
        gains = gains-held eq_shared eq_thread ks rows.next p.0 p.2;
        noted = λ few. notes-held eq_shared eq_thread p.0 at rows.next before after (p.3 (subst (λ n. n < 2 ^ 32) (length-map p.0 parted) few));
      }

  pub next-put : (t new : StateTable G H) (at : ℕ) (o : Option (Owning (RestingState G H))) → IsStateAt k t at o → (copy : Owning (RestingState G H)) →
      o ≡ Some copy
      → (xs : List (NextState (Owning (RestingState G H)))) → AreNext (reduced_steps k ends stuck) copy xs
      → Grows t.parts new.parts → AreStates new.states → (rs : List NextRow) → AreHeldRows eq_shared eq_thread new.parts xs rs
      → (before after : List Move) → PutsRows (held_eq eq_shared) eq_thread new.parts t.states new.states at rs before after
      → OfStateAt (reduced_steps k ends stuck) (HasOwning t) at
      (λ ks s. GoesOn (reduced_steps k ends stuck) (HasOwning new) (owning_eq eq_shared eq_thread) ks at s before after)
  next-put t new at o so copy is xs next grows table rs rows before after puts ks s has there met =
      next-put-copy t new at ks s copy (copy-at k ends stuck t at o so copy is ks s has there) has xs next grows table rs rows before after puts

  -- the rows of its next states
  pub next-known : (tame : AreTame k.system k.first k.most) (plain : ArePlain k.system k.accesses k.first)
      (beyond : NoneBeyond k.system k.accesses k.first k.most) (t new : StateTable G H) (at : ℕ) (rs : List NextRow)
      → HasRowsAt k eq_shared eq_thread t new.parts at rs → Grows t.parts new.parts → AreStates new.states
      → (before after : List Move) → PutsRows (held_eq eq_shared) eq_thread new.parts t.states new.states at rs before after
      → OfStateAt (reduced_steps k ends stuck) (HasOwning t) at
      (λ ks s. GoesOn (reduced_steps k ends stuck) (HasOwning new) (owning_eq eq_shared eq_thread) ks at s before after)
  next-known tame plain beyond t new at rs rows grows table before after puts ks s has there met =
      let r = rows ks s has.are there in
      next-put-copy t new at ks s s (copy-self k s) has r.next (next-are k ends stuck tame plain beyond s r.next r.has) grows table rs r.rows before after puts
