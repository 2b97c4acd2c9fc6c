-- Rows one behind the other.
use Rattle.std.specs.Prelude.{ℕ, zero, suc, ◌≡◌, ◌+◌, ◌-◌, ◌≤◌, List, [], ◌∷◌, ◌++◌, length, take, drop, get_or, Some, None, unwrap_or, slice_range, refl}
use Rattle.std.proofs.Common.{ap, subst, sym, ◌∙◌, arith}
use Rattle.std.proofs.lemmas.Option.{none-some, slice_get_within, unwrap_or-slice_get}
use Rattle.std.proofs.lemmas.List.{length-append, length-drop, drop-append-le, take-append-le, drop_at, take_all, get_or_default}
use Rattle.std.specs.List.{slice_get}
use Rattle.search_table.specs.Tables.{cut, start_at, EndAt}

pub cut-length : (words : List ℕ) (from : ℕ) (ends : List ℕ) → length (cut words from ends) ≡ length ends
cut-length words from [] = refl
cut-length words from (end ∷ ends) = ap suc (cut-length words end ends)

-- where a row begins
pub start-first : (from : ℕ) (ends : List ℕ) (i : ℕ) → i ≡ 0 → from ≡ start_at from ends i
start-first from ends i none = sym (ap (start_at from ends) none)

pub start-later : (from : ℕ) (ends : List ℕ) (i before start : ℕ) → i ≡ suc before → start ≡ unwrap_or (slice_get ends before) from
    → start ≡ start_at from ends i
start-later from ends i before start later is = is ∙ (unwrap_or-slice_get ends before from ∙ sym (ap (start_at from ends) later))

start-step : (from e : ℕ) (ends : List ℕ) (i end : ℕ) → slice_get ends i ≡ Some end → start_at from (e ∷ ends) (suc i) ≡ start_at e ends i
start-step from e ends zero end at = refl
start-step from e ends (suc i) end at =
    let within = slice_get_within ends (suc i) end at in
    get_or_default ends i from e (omega (arith, within))

-- the row at a place
pub cut-at : (words : List ℕ) (from : ℕ) (ends : List ℕ) (i end : ℕ) → slice_get ends i ≡ Some end
    → slice_get (cut words from ends) i ≡ Some (slice_range words (start_at from ends i) end)
cut-at words from [] i end at = absurd (none-some end at)
cut-at words from (e ∷ ends) zero end at = let same : e ≡ end = cc at in ap (λ n. Some (slice_range words from n)) same
cut-at words from (e ∷ ends) (suc i) end at =
    cut-at words e ends i end at ∙ ap (λ n. Some (slice_range words n end)) (sym (start-step from e ends i end at))

pub cut-none : (words : List ℕ) (from : ℕ) (ends : List ℕ) (i : ℕ) → slice_get ends i ≡ None → slice_get (cut words from ends) i ≡ None
cut-none words from [] i none = refl
cut-none words from (e ∷ ends) zero none = absurd (none-some e (sym none))
cut-none words from (e ∷ ends) (suc i) none = cut-none words e ends i none

pub start-within : (len from : ℕ) (ends : List ℕ) (i end : ℕ) → EndAt len from ends → slice_get ends i ≡ Some end → (start_at from ends i ≤ end) × (end ≤ len)
start-within len from [] i end are at = absurd (none-some end at)
start-within len from (e ∷ ends) zero end are at =
    let same : e ≡ end = cc at in
    let low = are.0 in
    let high = are.1 in
    (omega (arith, low, same), omega (arith, high, same))
start-within len from (e ∷ ends) (suc i) end are at =
    let within = start-within len e ends i end are.2 at in
    (subst (λ (n : ℕ). n ≤ end) (sym (start-step from e ends i end at)) within.0, within.1)

range-longer : (words new : List ℕ) (from end : ℕ) → from ≤ end → end ≤ length words → slice_range (words ++ new) from end ≡ slice_range words from end
range-longer words new from end low high =
    let long = length-drop from words in
    ap (take (end - from)) (drop-append-le from words new (omega (arith, low, high)))
    ∙ take-append-le (end - from) (drop from words) new (omega (arith, low, high, long))

-- one row more
pub cut-more : (words new : List ℕ) (len from : ℕ) (ends : List ℕ) → EndAt (length words) from ends → len ≡ length words + length new
    → cut (words ++ new) from (ends ++ len ∷ []) ≡ cut words from ends ++ new ∷ []
cut-more words new len from [] are is =
    let same : slice_range (words ++ new) from len ≡ new =
    ap (take (len - from)) (drop_at words new from (sym are)) ∙ take_all (len - from) new (omega (arith, are, is)) in
    λ i. same i ∷ []
cut-more words new len from (end ∷ ends) are is =
    let first = range-longer words new from end are.0 are.1 in
    let others = cut-more words new len end ends are.2 is in
    λ i. first i ∷ others i

pub ends-more : (len more from : ℕ) (ends : List ℕ) → EndAt len from ends → len ≤ more → EndAt more from (ends ++ more ∷ [])
ends-more len more from [] are low = (omega (arith, are, low), omega arith, refl)
ends-more len more from (end ∷ ends) are low =
    let high = are.1 in
    (are.0, omega (arith, high, low), ends-more len more end ends are.2 low)

pub rows-more : (words words_then row ends ends_then : List ℕ) (len : ℕ) → EndAt (length words) 0 ends → words_then ≡ words ++ row → len ≡ length words_then
    → ends_then ≡ ends ++ len ∷ [] → (cut words_then 0 ends_then ≡ cut words 0 ends ++ row ∷ []) × EndAt (length words_then) 0 ends_then
rows-more words words_then row ends ends_then len are pushed long put =
    let both : length words_then ≡ length (words ++ row) = ap (λ l. length l) pushed in
    let sum = length-append words row in (
      ap (λ l. cut l 0 ends_then) pushed ∙ (ap (cut (words ++ row) 0) put ∙ cut-more words row len 0 ends are (omega (arith, long, both, sum))),
      subst (EndAt (length words_then) 0) (sym put)
          (subst (λ (n : ℕ). EndAt n 0 (ends ++ len ∷ [])) long (ends-more (length words) len 0 ends are (omega (arith, long, both, sum)))),
    )

pub no-rows : (words ends : List ℕ) → words ≡ [] → ends ≡ [] → (cut words 0 ends ≡ []) × EndAt (length words) 0 ends
no-rows words ends empty none = (
  ap (cut words 0) none,
  subst (EndAt (length words) 0) (sym none) (sym (ap (λ l. length l) empty)),
)
