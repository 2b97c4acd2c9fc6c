-- The clock of an entry from those of the entries just before it.
use Rattle.std.proofs.Common.{◌≡◌, ◌∙◌, ◌⊎◌, ◌<◌, ◌+◌, ◌++◌, ℕ, List, [], ◌∷◌, length, get_or, set, max, inl, inr, refl}
use Rattle.std.proofs.Common.{sym, ap, subst, arith, get_or-set_other, get_or-set_same}
use Rattle.std.specs.Global.{Vec}
use Rattle.std.specs.List.{All, Contains, fold}
use Rattle.std.proofs.lemmas.Bool.{cases_eq, cases_lt}
use Rattle.std.proofs.lemmas.List.{get_or-map, get_or_append_left, get_or_push, length-map, length-set, length_push, map-append}
use Rattle.types.specs.declared.event.Entry.{Entry}
use Rattle.race_history.specs.declared.access.Site.{Site}
use Rattle.race_history.specs.Places.{thread_at}
use Rattle.race_history.specs.Order.{IsBefore, IsEdge}
use Rattle.race_history.specs.Sources.{AreSources, rows}
use Rattle.race_history.specs.Clocks.{AreClocks, IsClock, IsJoined, IsUpTo, greatest}
use Rattle.race_history.proofs.Lists.{Contains-at, Contains-cons_cases, Contains-here, Contains-none, Contains-there, IsAt-get}
use Rattle.race_history.proofs.Places.{thread_is}
use Rattle.race_history.proofs.Before.{before_earlier, edge_earlier, last_edge, up_to_edge, up_to_more}

module _ (f : ℕ → ℕ) (n : ℕ) where
  -- a number is below the greatest one where it is below one
  abbrev Below : List ℕ → Type 0
  Below xs = (s : ℕ) × (Contains xs s × (n < f s))

  below_from : (xs : List ℕ) (most : ℕ) → n < fold (λ m s. max m (f s)) most xs → (n < most) ⊎ Below xs
  below_from [] most lt = inl lt
  below_from (s ∷ xs) most lt = elim (below_from xs (max most (f s)) lt) [
    | inl now ↦ elim (cases_lt n most) [
      | inl before ↦ inl before
      | inr ge ↦ let here : n < f s = omega arith in inr (s, (Contains-here s xs, here))
    ]
    | inr b ↦ inr (b.0, (Contains-there s xs b.0 b.1.0, b.1.1))
  ]

  below_start : (xs : List ℕ) (most : ℕ) → n < most → n < fold (λ m s. max m (f s)) most xs
  below_start [] most lt = lt
  below_start (s ∷ xs) most lt = below_start xs (max most (f s)) (omega arith)

  below_to : (xs : List ℕ) (most s : ℕ) → Contains xs s → n < f s → n < fold (λ m z. max m (f z)) most xs
  below_to [] most s c lt = absurd (Contains-none s c)
  below_to (z ∷ xs) most s c lt = elim (Contains-cons_cases z xs s c) [
    | inl e ↦
        let here : n < f z = subst (λ (k : ℕ). n < f k) (sym e) lt in
        below_start xs (max most (f z)) (omega arith)
    | inr r ↦ below_to xs (max most (f z)) s r lt
  ]

module _ (log : List Entry) (sites : List Site) (opening threads place : ℕ) (clocks : List (List ℕ)) (h : AreClocks log sites opening threads place clocks)
    (sources row : List ℕ) (from : AreSources log sites opening place sources) (joined : IsJoined clocks sources row) (wide : length row ≡ threads)
    (within : place < length log) (known : thread_at log place < threads) where
  -- an entry up to a source is below the joined row
  below_row : (i s : ℕ) → i < length log → Contains sources s → IsUpTo log sites opening i s → i < get_or row (thread_at log i) 0
  below_row i s lt c up =
      let before : s < place = edge_earlier log sites opening s place (from.from s c) in
      let below : i < get_or (get_or clocks s []) (thread_at log i) 0 = ((h.each s before).counts i lt).1 up in
      subst (λ (k : ℕ). i < k) (sym (joined (thread_at log i)))
      (below_to (λ (z : ℕ). get_or (get_or clocks z []) (thread_at log i) 0) i sources 0 s c below)

  row_below : (i : ℕ) → i < length log → i < get_or row (thread_at log i) 0 → IsBefore log sites opening i place
  row_below i lt below =
      let under : i < greatest clocks (thread_at log i) sources = subst (λ (k : ℕ). i < k) (joined (thread_at log i)) below in
      elim (below_from (λ (z : ℕ). get_or (get_or clocks z []) (thread_at log i) 0) i sources 0 under) [
        | inl none ↦ absurd (omega arith)
        | inr b ↦
            let s : ℕ = b.0 in
            let e : IsEdge log sites opening s place = from.from s b.1.0 in
            let before : s < place = edge_earlier log sites opening s place e in
            up_to_edge log sites opening i s place (((h.each s before).counts i lt).0 b.1.1) e
      ]

  at_own : get_or (set row (thread_at log place) (place + 1)) (thread_at log place) 0 ≡ place + 1
  at_own = let lt : thread_at log place < length row = omega arith in get_or-set_same row (thread_at log place) (place + 1) 0 lt

  -- below the clock
  counts_from : (i : ℕ) → i < length log → i < get_or (set row (thread_at log place) (place + 1)) (thread_at log i) 0 → IsUpTo log sites opening i place
  counts_from i lt below = elim (cases_eq (thread_at log i) (thread_at log place)) [
    | inl same ↦
        let at : get_or (set row (thread_at log place) (place + 1)) (thread_at log i) 0 ≡ place + 1 =
        ap (λ (k : ℕ). get_or (set row (thread_at log place) (place + 1)) k 0) same ∙ at_own in
        elim (cases_lt i place) [
          | inl earlier ↦ inr (IsBefore.along (inl (record { earlier = earlier; within = within; same = same })))
          | inr le ↦ inl (omega arith)
        ]
    | inr other ↦
        inr (row_below i lt (subst (λ (k : ℕ). i < k) (get_or-set_other row (thread_at log place) (thread_at log i) (place + 1) 0 other) below))
  ]

  before_counts : (i : ℕ) → i < length log → IsBefore log sites opening i place → i < get_or (set row (thread_at log place) (place + 1)) (thread_at log i) 0
  before_counts i lt b = elim (cases_eq (thread_at log i) (thread_at log place)) [
    | inl same ↦
        let earlier : i < place = before_earlier log sites opening i place b in
        let at : get_or (set row (thread_at log place) (place + 1)) (thread_at log i) 0 ≡ place + 1 =
        ap (λ (k : ℕ). get_or (set row (thread_at log place) (place + 1)) k 0) same ∙ at_own in
        omega arith
    | inr other ↦
        let e = last_edge log sites opening i place b in
        let k : ℕ = e.0 in
        let s = from.all k e.1.1 in
        subst (λ (m : ℕ). i < m) (sym (get_or-set_other row (thread_at log place) (thread_at log i) (place + 1) 0 other))
        (below_row i s.0 lt s.1.0 (up_to_more log sites opening i k s.0 e.1.0 s.1.1))
  ]

  counts_to : (i : ℕ) → i < length log → IsUpTo log sites opening i place → i < get_or (set row (thread_at log place) (place + 1)) (thread_at log i) 0
  counts_to i lt up = elim up [
    | inl same ↦
        let at : get_or (set row (thread_at log place) (place + 1)) (thread_at log i) 0 ≡ place + 1 =
        ap (λ (k : ℕ). get_or (set row (thread_at log place) (place + 1)) (thread_at log k) 0) same ∙ at_own in
        omega arith
    | inr b ↦ before_counts i lt b
  ]

  pub clock_here : IsClock log sites opening threads place (set row (thread_at log place) (place + 1))
  clock_here = record {
    wide = length-set row (thread_at log place) (place + 1) ∙ wide;
    counts = λ i lt. (counts_from i lt, counts_to i lt);
  }

pub clocks_more : (log : List Entry) (sites : List Site) (opening : ℕ) (threads end : ℕ) (clocks : List (List ℕ)) (row : List ℕ)
    → AreClocks log sites opening threads end clocks → IsClock log sites opening threads end row
    → AreClocks log sites opening threads (end + 1) (clocks ++ row ∷ [])
clocks_more log sites opening threads end clocks row h is =
    let count : length clocks ≡ end = h.count in
    record {
      count = length_push clocks row ∙ ap (λ (n : ℕ). n + 1) count;
      each = λ place lt. elim (cases_lt place end) [
        | inl before ↦
            let within : place < length clocks = omega arith in
            subst (λ (l : List ℕ). IsClock log sites opening threads place l) (sym (get_or_append_left clocks (row ∷ []) [] place within))
            (h.each place before)
        | inr le ↦
            let e : place ≡ end = omega arith in
            subst (λ (l : List ℕ). IsClock log sites opening threads place l) (sym (get_or_push clocks row [] place (count ∙ sym e)))
            (subst (λ (n : ℕ). IsClock log sites opening threads n row) (sym e) is)
      ];
    }

pub clocks_none : (log : List Entry) (sites : List Site) (opening : ℕ) (threads : ℕ) → AreClocks log sites opening threads 0 []
clocks_none log sites opening threads = record { count = refl; each = λ place lt. absurd (omega arith) }

-- what the lists hold, as lists
pub rows_at : (vs : List (Vec ℕ)) (k : ℕ) (d : Vec ℕ) → k < length vs → get_or (rows vs) k [] ≡ (get_or vs k d).items
rows_at vs k d lt = get_or-map (λ (v : Vec ℕ). v.items) vs k d [] lt

pub rows_push : (vs : List (Vec ℕ)) (v : Vec ℕ) → rows (vs ++ v ∷ []) ≡ rows vs ++ v.items ∷ []
rows_push vs v = map-append (λ (w : Vec ℕ). w.items) vs (v ∷ [])

pub rows_length : (vs : List (Vec ℕ)) → length (rows vs) ≡ length vs
rows_length vs = length-map vs (λ (w : Vec ℕ). w.items)

-- the entries just before one are below it
pub sources_below : (log : List Entry) (sites : List Site) (opening : ℕ) (place : ℕ) (here : List ℕ) → AreSources log sites opening place here
    → All (λ (s : ℕ). s < place) here
sources_below log sites opening place here h k d lt =
    edge_earlier log sites opening (get_or here k d) place
    (h.from (get_or here k d) (Contains-at here k (get_or here k d) (IsAt-get here k d lt)))

-- the clock of the next entry
pub clock_next : (log : List Entry) (sites : List Site) (opening : ℕ) (threads place : ℕ) (clocks : List (Vec ℕ)) (sources row : List ℕ) (d : Entry)
    → AreClocks log sites opening threads place (rows clocks) → AreSources log sites opening place sources → IsJoined (rows clocks) sources row
    → length row ≡ threads → place < length log → All (λ (e : Entry). e.thread < threads) log
    → (v : Vec ℕ) → v.items ≡ set row (get_or log place d).thread (place + 1)
    → AreClocks log sites opening threads (place + 1) (rows (clocks ++ v ∷ []))
clock_next log sites opening threads place clocks sources row d h from joined wide within few v is =
    let thread : thread_at log place ≡ (get_or log place d).thread = thread_is log sites opening place (get_or log place d) (IsAt-get log place d within) in
    let below : (get_or log place d).thread < threads = few place d within in
    let known : thread_at log place < threads = omega arith in
    let here : IsClock log sites opening threads place (set row (thread_at log place) (place + 1)) =
    clock_here log sites opening threads place (rows clocks) h sources row from joined wide within known in
    let same : set row (thread_at log place) (place + 1) ≡ v.items =
    ap (λ (n : ℕ). set row n (place + 1)) thread ∙ sym is in
    subst (λ (l : List (List ℕ)). AreClocks log sites opening threads (place + 1) l) (sym (rows_push clocks v))
    (clocks_more log sites opening threads place (rows clocks) v.items h (subst (λ (l : List ℕ). IsClock log sites opening threads place l) same here))
