-- Choices among moves, the first move to each state from a lower one, and paths of them.
use Rattle.std.specs.Prelude.{◌≡◌, ◌==◌, ◌+◌, ◌-◌, ◌<◌, ◌≤◌, ◌⊎◌, ℕ, zero, suc, true, List, [], ◌∷◌, ◌++◌, length, reverse, replicate, set, Some, None, refl}
use Rattle.std.specs.Prelude.{Contains}
use Rattle.std.specs.List.{slice_get}
use Rattle.std.proofs.Common.{ap, subst, sym, ◌∙◌, inl, inr, arith}
use Rattle.std.proofs.lemmas.Bool.{cases_eq, cases_lt, eqb-true}
use Rattle.std.proofs.lemmas.List.{reverse-append}
use Rattle.std.proofs.lemmas.List.Elements.{All-contains, All-contains_itself, All-filter, filter_passes}
use Rattle.std.proofs.lemmas.Option.{none-some, slice_get_within, same_Some}
use Rattle.search_graph.specs.declared.graph.Move.{Move}
use Rattle.search_reach.specs.Explored.{moves_from}
use Rattle.search_reach.specs.Moved.{StandTogether, LeadsIn, AreOrdered, GoesBy, IsChoiceOf, IsWayIn, AreWaysIn, IsMoveTo}
use Rattle.search_reach.proofs.Searching.{get_shorter, here}
use Rattle.search_reach.proofs.Moving.{behind, at-some}

-- a move from the state is a move, and from there
pub from-of : (at : ℕ) (moves : List Move) (m : Move) → Contains (moves_from at moves) m → m.from ≡ at
from-of at moves m c = eqb-true m.from at (All-contains (λ (n : Move). (n.from == at) ≡ true) (moves_from at moves) m
    (filter_passes (λ (n : Move). n.from == at) moves) c)

pub from-among : (at : ℕ) (moves : List Move) (m : Move) → Contains (moves_from at moves) m → Contains moves m
from-among at moves m c =
    All-contains (Contains moves) (moves_from at moves) m
    (All-filter (λ (n : Move). n.from == at) (Contains moves) moves (All-contains_itself moves)) c

-- what stands behind the first ones
pub slice_get-past : {A : Type 0} (xs ys : List A) (i n : ℕ) → i ≡ length xs + n → slice_get (xs ++ ys) i ≡ slice_get ys n
slice_get-past [] ys i n is = ap (slice_get ys) (omega (arith, is))
slice_get-past (x ∷ xs) ys zero n is = absurd (omega (arith, is))
slice_get-past (x ∷ xs) ys (suc i) n is = slice_get-past xs ys i n (omega (arith, is))

-- the moves of the last so many places before this one, and that of this one, are from one state
abbrev pub AreFrom : List Move → ℕ → ℕ → ℕ → Type 0
AreFrom moves place from choice = (i : ℕ) (n : Move) → place ≤ i + choice → i ≤ place → slice_get moves i ≡ Some n → n.from ≡ from

pub from-one : (moves : List Move) (place : ℕ) (m : Move) → slice_get moves place ≡ Some m → AreFrom moves place m.from 0
from-one moves place m at i n low high there =
    let same : i ≡ place = omega (arith, low, high) in
    let one : n ≡ m = same_Some n m (sym there ∙ (ap (slice_get moves) same ∙ at)) in
    ap (λ (v : Move). v.from) one

pub from-more : (moves : List Move) (place from choice : ℕ) (n : Move) → choice < place → slice_get moves (place - choice - 1) ≡ Some n → n.from ≡ from
    → AreFrom moves place from choice → AreFrom moves place from (choice + 1)
from-more moves place from choice n less at is old i x low high there = by (cases_lt (i + choice) place)
  where
    by : (i + choice < place) ⊎ (place ≤ i + choice) → x.from ≡ from
    by (inl short) =
        let same : i ≡ place - choice - 1 = omega (arith, low, short, less) in
        let one : x ≡ n = same_Some x n (sym there ∙ (ap (slice_get moves) same ∙ at)) in
        ap (λ (v : Move). v.from) one ∙ is
    by (inr past) = old i x past high there

-- so many and no more
pub choice-is : (moves : List Move) (place choice : ℕ) (m : Move) → slice_get moves place ≡ Some m → choice ≤ place → AreFrom moves place m.from choice
    → (choice < place → (n : Move) × (slice_get moves (place - choice - 1) ≡ Some n) × (n.from ≡ m.from → ⊥)) → IsChoiceOf moves place choice
choice-is moves place choice m at low are more other there t = subst (λ (v : Move). slice_get (moves_from v.from moves) choice ≡ Some v) same chosen
  where
    same : m ≡ other
    same = same_Some m other (sym at ∙ there)

    stand : StandTogether moves m.from
    stand = subst (λ (v : Move). StandTogether moves v.from) (sym same) t

    ours : List Move
    ours = moves_from m.from moves

    is-at : (i n : ℕ) → i ≡ length stand.front + n → slice_get moves i ≡ slice_get (ours ++ stand.back) n
    is-at i n e = ap (λ l. slice_get l i) stand.is ∙ slice_get-past stand.front (ours ++ stand.back) i n e

    inside : (n : ℕ) (x : Move) → n < length ours → slice_get (ours ++ stand.back) n ≡ Some x → slice_get ours n ≡ Some x
    inside n x low h = get_shorter ours (ours ++ stand.back) n x (record { more = stand.back; is = refl }) low h

    -- the first of these isn't in front
    past : length stand.front + choice ≤ place
    past = by (cases_lt place (length stand.front + choice))
      where
        by : (place < length stand.front + choice) ⊎ (length stand.front + choice ≤ place) → length stand.front + choice ≤ place
        by (inr so) = so
        by (inl short) =
            let within = slice_get_within moves place m at in
            let n = at-some moves (place - choice) (omega (arith, within)) in
            let from = are (place - choice) n.0 (omega (arith, low)) (omega (arith, low)) n.1 in
            let front = get_shorter stand.front moves (place - choice) n.0 (record { more = ours ++ stand.back; is = stand.is })
            (omega (arith, short, low)) n.1 in
            absurd (stand.before n.0 (here stand.front (place - choice) n.0 front) from)

    -- it isn't behind
    within : place < length stand.front + length ours
    within = by (cases_lt place (length stand.front + length ours))
      where
        by : (place < length stand.front + length ours) ⊎ (length stand.front + length ours ≤ place) → place < length stand.front + length ours
        by (inl so) = so
        by (inr over) =
            let at-back = sym (is-at place (place - length stand.front) (omega (arith, past))) ∙ at in
            absurd (stand.behind m (behind ours stand.back (place - length stand.front) m (omega (arith, over)) at-back) refl)

    exact : place ≡ length stand.front + choice
    exact = by (cases_lt (length stand.front + choice) place)
      where
        by : (length stand.front + choice < place) ⊎ (place ≤ length stand.front + choice) → place ≡ length stand.front + choice
        by (inr up) = omega (arith, up, past)
        by (inl less) =
            let n = more (omega (arith, less)) in
            let gap = place - choice - 1 - length stand.front in
            let there = sym (is-at (place - choice - 1) gap (omega (arith, less))) ∙ n.1 in
            let inner = inside gap n.0 (omega (arith, less, within)) there in
            absurd (n.2 (from-of m.from moves n.0 (here ours gap n.0 inner)))

    chosen : slice_get ours choice ≡ Some m
    chosen = inside choice m (omega (arith, exact, within)) (sym (is-at place choice exact) ∙ at)

-- ---- the first move to each state from a lower one

replicate-at : {A : Type 0} (n i : ℕ) (a x : A) → slice_get (replicate n a) i ≡ Some x → x ≡ a
replicate-at zero i a x h = absurd (none-some x h)
replicate-at (suc n) zero a x h = sym (same_Some a x h)
replicate-at (suc n) (suc i) a x h = replicate-at n i a x h

set-here : {A : Type 0} (xs : List A) (i : ℕ) (a x : A) → slice_get (set xs i a) i ≡ Some x → x ≡ a
set-here [] i a x h = absurd (none-some x h)
set-here (y ∷ xs) zero a x h = sym (same_Some a x h)
set-here (y ∷ xs) (suc i) a x h = set-here xs i a x h

set-other : {A : Type 0} (xs : List A) (i j : ℕ) (a : A) → (j ≡ i → ⊥) → slice_get (set xs i a) j ≡ slice_get xs j
set-other [] i j a other = refl
set-other (y ∷ xs) zero zero a other = absurd (other refl)
set-other (y ∷ xs) zero (suc j) a other = refl
set-other (y ∷ xs) (suc i) zero a other = refl
set-other (y ∷ xs) (suc i) (suc j) a other = set-other xs i j a (λ same. other (ap suc same))

pub ways-none : (moves : List Move) (states : ℕ) (ways : List ℕ) → ways ≡ replicate states (length moves) → AreWaysIn moves 0 ways
ways-none moves states ways are to way at =
    inr (replicate-at states to (length moves) way (sym (ap (λ l. slice_get l to) are) ∙ at), λ place low. absurd (omega (arith, low)))

-- behind the move of one more place
module _ (moves : List Move) (place : ℕ) (m : Move) (at : slice_get moves place ≡ Some m) where
  on : (to way : ℕ) → (m.next ≡ to → m.from < to → way ≡ length moves → ⊥) → IsWayIn moves place to way → IsWayIn moves (place + 1) to way
  on to way other (inl l) = inl l
  on to way other (inr h) = inr (h.0, λ p low l. by p low l (cases_lt p place))
    where
      by : (p : ℕ) → p < place + 1 → LeadsIn moves to p → (p < place) ⊎ (place ≤ p) → ⊥
      by p low l (inl less) = h.1 p less l
      by p low l (inr past) =
          let same : p ≡ place = omega (arith, low, past) in
          let one : l.move ≡ m = same_Some l.move m (sym l.at ∙ (ap (slice_get moves) same ∙ at)) in
          let next : m.next ≡ to = sym (ap (λ (v : Move). v.next) one) ∙ l.next in
          let lower = l.lower in
          other next (omega (arith, lower, ap (λ (v : Move). v.from) one)) h.0

  pub ways-kept : (ways : List ℕ) → AreWaysIn moves place ways
      → ((to : ℕ) → m.next ≡ to → m.from < to → slice_get ways to ≡ Some (length moves) → ⊥) → AreWaysIn moves (place + 1) ways
  ways-kept ways was other to way there = on to way (λ next lower none. other to next lower (there ∙ ap Some none)) (was to way there)

  pub ways-set : (ways : List ℕ) → m.from < m.next → AreWaysIn moves place ways → AreWaysIn moves (place + 1) (set ways m.next place)
  ways-set ways lower was to way there = by (cases_eq to m.next)
    where
      by : (to ≡ m.next) ⊎ (to ≡ m.next → ⊥) → IsWayIn moves (place + 1) to way
      by (inl same) =
          let is = set-here ways m.next place way (sym (ap (slice_get (set ways m.next place)) same) ∙ there) in
          inl (record { move = m; at = ap (slice_get moves) is ∙ at; next = sym same; lower = omega (arith, lower, same) })
      by (inr other) = on to way (λ next low none. other (sym next)) (was to way (sym (set-other ways m.next to place other) ∙ there))

-- ---- the move that leads to a state

module _ (moves : List Move) (ways : List ℕ) (are : AreWaysIn moves (length moves) ways) (to : ℕ) where
  pub no-way : slice_get ways to ≡ None → IsMoveTo moves (length ways) to None
  no-way none ordered low = let s = at-some ways to low in absurd (none-some s.0 (sym none ∙ s.1))

  pub none-leads : (way : ℕ) → slice_get ways to ≡ Some way → way ≡ length moves → IsMoveTo moves (length ways) to None
  none-leads way at none ordered low = by (are to way at) (cases_lt 0 to)
    where
      by : IsWayIn moves (length moves) to way → (0 < to) ⊎ (to ≤ 0) → to ≡ 0
      by w (inr low) = omega (arith, low)
      by (inl l) (inl some) = let within = slice_get_within moves way l.move l.at in absurd (omega (arith, within, none))
      by (inr h) (inl some) = let l = ordered.led to some low in absurd (h.1 l.0 (slice_get_within moves l.0 l.1.move l.1.at) l.1)

  pub one-leads : (way : ℕ) → slice_get ways to ≡ Some way → (way ≡ length moves → ⊥) → LeadsIn moves to way
  one-leads way at some = by (are to way at)
    where
      by : IsWayIn moves (length moves) to way → LeadsIn moves to way
      by (inl l) = l
      by (inr h) = absurd (some h.0)

-- ---- a path, from its end on

-- the choices so far lead from there to the end
abbrev pub IsPathFrom : List Move → ℕ → ℕ → List ℕ → ℕ → Type 0
IsPathFrom moves states at path to = AreOrdered moves states → to < states → (at < states) × GoesBy moves at (reverse path) to

pub path-none : (moves : List Move) (states to : ℕ) (path : List ℕ) → path ≡ [] → IsPathFrom moves states to path to
path-none moves states to path none ordered low = (low, subst (λ l. GoesBy moves to (reverse l) to) (sym none) refl)

pub path-more : (moves : List Move) (states at to : ℕ) (path more : List ℕ) (place choice : ℕ) (m : Move) → LeadsIn moves at place
    → slice_get moves place ≡ Some m → IsChoiceOf moves place choice → more ≡ path ++ choice ∷ [] → IsPathFrom moves states at path to
    → IsPathFrom moves states m.from more to
path-more moves states at to path more place choice m l there chosen is was ordered low =
    let one : l.move ≡ m = same_Some l.move m (sym l.at ∙ there) in
    let next : m.next ≡ at = sym (ap (λ (v : Move). v.next) one) ∙ l.next in
    let lower = l.lower in
    let old = was ordered low in
    let back : reverse more ≡ choice ∷ reverse path = ap reverse is ∙ reverse-append path (choice ∷ []) in (
      (let within = old.0 in omega (arith, within, lower, ap (λ (v : Move). v.from) one)),
      subst (λ l. GoesBy moves m.from l to) (sym back)
          (m, chosen m there (ordered.together m.from), subst (λ (n : ℕ). GoesBy moves n (reverse path) to) (sym next) old.1),
    )

pub path-all : (moves : List Move) (states at to : ℕ) (path back : List ℕ) → IsMoveTo moves states at None → back ≡ reverse path
    → IsPathFrom moves states at path to → AreOrdered moves states → to < states → GoesBy moves 0 back to
path-all moves states at to path back none is was ordered low =
    let old = was ordered low in
    subst (λ l. GoesBy moves 0 l to) (sym is) (subst (λ (n : ℕ). GoesBy moves n (reverse path) to) (none ordered old.0) old.1)
