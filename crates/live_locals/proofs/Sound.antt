-- What a checker of tables has seen of the first instructions, and tables of the first bodies.
use Rattle.std.specs.Prelude.{◌≡◌, ℕ, zero, suc, ◌+◌, ◌<◌, ◌≤◌, ◌⊎◌, Bool, List, [], ◌∷◌, ◌++◌, length, Some, refl}
use Rattle.std.proofs.Common.{ap, subst, sym, ◌∙◌, inl, inr, arith}
use Rattle.std.proofs.lemmas.Bool.{cases_lt}
use Rattle.std.proofs.lemmas.Option.{slice_get_within}
use Rattle.std.specs.List.{slice_get}
use Rattle.types.specs.declared.instr.Instr.{Instr}
use Rattle.types.specs.declared.parts.Body.{Body}
use Rattle.validate_typing.specs.declared.target.Target.{Target}
use Rattle.live_locals.specs.Live.{IsLive, IsSound, Covers, GoesTo, row_at, read_by, written_by}

-- The marks are sound as far as the instructions before a place go.
pub record IsSoundBelow (n : ℕ) (code : List Instr) (rows : List (List Target)) (live : List (List Bool)) : Type 0 where
  pub reads : (place : ℕ) (i : Instr) (local : ℕ) → place < n → slice_get code place ≡ Some i → read_by i ≡ Some local →
      IsLive (row_at live place) local
  pub flows : (place : ℕ) (i : Instr) (next : ℕ) → place < n → slice_get code place ≡ Some i →
      GoesTo i (row_at rows place) place next → Covers (row_at live place) (row_at live next) (written_by i)

module _ (code : List Instr) (rows : List (List Target)) (live : List (List Bool)) where
  pub sound_none : IsSoundBelow 0 code rows live
  sound_none = record { reads = λ place i local less. absurd (omega arith); flows = λ place i next less. absurd (omega arith) }

  pub sound_more : (n : ℕ) (at : Instr) → slice_get code n ≡ Some at → IsSoundBelow n code rows live →
      ((local : ℕ) → read_by at ≡ Some local → IsLive (row_at live n) local) →
      ((next : ℕ) → GoesTo at (row_at rows n) n next → Covers (row_at live n) (row_at live next) (written_by at)) →
      IsSoundBelow (n + 1) code rows live
  sound_more n at here before reads flows = record {
    reads = λ place i local less there r. reads_at place i local there r (cases_lt place n) less;
    flows = λ place i next less there goes. flows_at place i next there goes (cases_lt place n) less;
  }
    where
      reads_at : (place : ℕ) (i : Instr) (local : ℕ) → slice_get code place ≡ Some i → read_by i ≡ Some local →
          (place < n) ⊎ (n ≤ place) → place < n + 1 → IsLive (row_at live place) local
      reads_at place i local there r (inl l) less = before.reads place i local l there r
      reads_at place i local there r (inr l) less =
          let p : place ≡ n = omega (arith, l, less) in
          let both : Some at ≡ Some i = sym here ∙ ap (slice_get code) (sym p) ∙ there in
          let q : at ≡ i = cc in
          subst (λ k. IsLive (row_at live k) local) (sym p) (reads local (ap read_by q ∙ r))

      flows_at : (place : ℕ) (i : Instr) (next : ℕ) → slice_get code place ≡ Some i → GoesTo i (row_at rows place) place next →
          (place < n) ⊎ (n ≤ place) → place < n + 1 → Covers (row_at live place) (row_at live next) (written_by i)
      flows_at place i next there goes (inl l) less = before.flows place i next l there goes
      flows_at place i next there goes (inr l) less =
          let p : place ≡ n = omega (arith, l, less) in
          let both : Some at ≡ Some i = sym here ∙ ap (slice_get code) (sym p) ∙ there in
          let q : at ≡ i = cc in
          subst (λ k. Covers (row_at live k) (row_at live next) (written_by i)) (sym p)
          (subst (λ j. Covers (row_at live n) (row_at live next) (written_by j)) q
          (flows next (subst (λ j. GoesTo j (row_at rows n) n next) (sym q) (subst (λ k. GoesTo i (row_at rows k) k next) p goes))))

  pub sound_all : (n : ℕ) → length code ≤ n → IsSoundBelow n code rows live → IsSound code rows live
  sound_all n all b = record {
    reads = λ place i local there. b.reads place i local (let h = slice_get_within code place i there in omega arith) there;
    flows = λ place i next there. b.flows place i next (let h = slice_get_within code place i there in omega arith) there;
  }

  -- What a sound table has at a place.
  pub reads_of : IsSound code rows live → (n : ℕ) (at : Instr) → slice_get code n ≡ Some at → (local : ℕ) → read_by at ≡ Some local →
      IsLive (row_at live n) local
  reads_of s n at here local = s.reads n at local here

  pub flows_of : IsSound code rows live → (n : ℕ) (at : Instr) → slice_get code n ≡ Some at → (next : ℕ) →
      GoesTo at (row_at rows n) n next → Covers (row_at live n) (row_at live next) (written_by at)
  flows_of s n at here next = s.flows n at next here

-- Without marks all is live.
pub all_live : (code : List Instr) (rows : List (List Target)) → IsSound code rows []
all_live code rows = record { reads = λ place i local here r. refl; flows = λ place i next here goes local live other. refl }

-- ---- Tables of the first bodies

abbrev pub AreSoundBelow : ℕ → List Body → List (List (List Target)) → List (List (List Bool)) → Type 0
AreSoundBelow n bodies branches tables = (own : ℕ) (body : Body) (rows : List (List Target)) → own < n → slice_get bodies own ≡ Some body →
    slice_get branches own ≡ Some rows → IsSound body.code rows (row_at tables own)

module _ {X : Type 0} where
  row_old : (xs : List (List X)) (x : List X) (n : ℕ) → n < length xs → row_at (xs ++ x ∷ []) n ≡ row_at xs n
  row_old [] x n h = absurd (omega arith)
  row_old (z ∷ xs) x zero h = refl
  row_old (z ∷ xs) x (suc n) h = row_old xs x n (omega arith)

  row_new : (xs : List (List X)) (x : List X) → row_at (xs ++ x ∷ []) (length xs) ≡ x
  row_new [] x = refl
  row_new (z ∷ xs) x = row_new xs x

pub tables_more : (n : ℕ) (bodies : List Body) (branches : List (List (List Target))) (tables more : List (List (List Bool))) (body : Body)
    (rows : List (List Target)) (live : List (List Bool)) → length tables ≡ n → slice_get bodies n ≡ Some body → slice_get branches n ≡ Some rows →
    IsSound body.code rows live → more ≡ tables ++ live ∷ [] → AreSoundBelow n bodies branches tables → AreSoundBelow (n + 1) bodies branches more
tables_more n bodies branches tables more body rows live long at row sound is before =
    λ own other others less there those. subst (λ ts. IsSound other.code others (row_at ts own)) (sym is) (by own other others less there those (cases_lt own n))
  where
    by : (own : ℕ) (other : Body) (others : List (List Target)) → own < n + 1 → slice_get bodies own ≡ Some other → slice_get branches own ≡ Some others →
        (own < n) ⊎ (n ≤ own) → IsSound other.code others (row_at (tables ++ live ∷ []) own)
    by own other others less there those (inl l) =
        subst (IsSound other.code others) (sym (row_old tables live own (let k = long in omega arith))) (before own other others l there those)
    by own other others less there those (inr l) =
        let p : own ≡ n = omega (arith, l, less) in
        let both : Some body ≡ Some other = sym at ∙ ap (slice_get bodies) (sym p) ∙ there in
        let each : Some rows ≡ Some others = sym row ∙ ap (slice_get branches) (sym p) ∙ those in
        let q : body ≡ other = cc in
        let r : rows ≡ others = cc in
        subst (λ k. IsSound other.code others (row_at (tables ++ live ∷ []) k)) (sym (p ∙ sym long))
        (subst (IsSound other.code others) (sym (row_new tables live))
        (subst (λ rs. IsSound other.code rs live) r (subst (λ (b : Body). IsSound b.code rows live) q sound)))

pub tables_all : (n : ℕ) (bodies : List Body) (branches : List (List (List Target))) (tables : List (List (List Bool))) → length bodies ≤ n →
    AreSoundBelow n bodies branches tables → (own : ℕ) (body : Body) (rows : List (List Target)) → slice_get bodies own ≡ Some body →
    slice_get branches own ≡ Some rows → IsSound body.code rows (row_at tables own)
tables_all n bodies branches tables all below own body rows there = below own body rows (let h = slice_get_within bodies own body there in omega arith) there
