-- Rows as a replay fills them, and at which places of the code they are.
use Rattle.std.proofs.Common.{◌≡◌, ◌≢◌, ℕ, zero, suc, ◌<◌, List, [], ◌∷◌, length, Option, Some, None, option_and_then}
use Rattle.std.proofs.Common.{slice_get, slice_set, refl, sym, ap, subst, ◌∙◌, arith, length-set}
use Rattle.types.specs.declared.event.Event.{Event}
use Rattle.types.specs.declared.event.Event.TheVariants as events
use Rattle.types.specs.declared.event.Question.TheVariants as questions
use Rattle.types.specs.declared.event.Entry.{Entry}
use Rattle.interp.specs.declared.place.CodePlace.{CodePlace}
use Rattle.interp.specs.declared.thread.Thread.{Thread}
use Rattle.search_scheduled.specs.Heard.{place_in}
use Rattle.show_rows.specs.declared.rows.Row.{Row}
use Rattle.show_rows.specs.declared.rows.Rows.{Rows}
use Rattle.show_rows.specs.Listing.{row_in}
use Rattle.show_rows.specs.Rows.{StandsThere, SetsRowOf, SeesThread, SeesLeft, SeesBehind, SeesLast, SeesRound, last_call}

-- the row of a thread
abbrev pub row_of : Thread → Option ℕ → Row
row_of x before = record { place = place_in x; caller = last_call x.state.callers.items; before = before }

pub stands_there : (x : Thread) (before : Option ℕ) → StandsThere x (row_of x before)
stands_there x before = record {
  place = λ c left stands.
      let s = stands.1.1 in
      let at = s.4 in
      record { tables = s.0; parts = s.1; body = at.body; own = at.own; frame = at.frame };
  callers = x.state.callers.items;
  called = λ c left stands.
      let s = stands.1.1 in
      let at = s.4 in
      record { tables = s.0; parts = s.1; body = at.body; lower = at.lower; are = at.callers };
  caller = refl;
}

abbrev pub Filled : Type 0
Filled = List (Option Row)

-- a row at a place
abbrev pub RowHas : Filled → ℕ → CodePlace → Type 0
RowHas rows at p = (row : Row) × (row_in rows at ≡ Some row) × (row.place ≡ p)

set_here : {X : Type 0} (xs : List X) (k : ℕ) (x : X) → k < length xs → slice_get (slice_set xs k x) k ≡ Some x
set_here [] k x lt = absurd (omega (arith, lt))
set_here (y ∷ xs) zero x lt = refl
set_here (y ∷ xs) (suc k) x lt = set_here xs k x (omega (arith, lt))

set_other : {X : Type 0} (xs : List X) (k j : ℕ) (x : X) → j ≢ k → slice_get (slice_set xs k x) j ≡ slice_get xs j
set_other [] k j x other = refl
set_other (y ∷ xs) zero zero x other = absurd (other refl)
set_other (y ∷ xs) zero (suc j) x other = refl
set_other (y ∷ xs) (suc k) zero x other = refl
set_other (y ∷ xs) (suc k) (suc j) x other = set_other xs k j x (λ same. other (ap (λ n. suc n) same))

pub has_set : (rows : Filled) (at : ℕ) (row : Row) → at < length rows → RowHas (slice_set rows at (Some row)) at row.place
has_set rows at row lt = (row, ap (λ (o : Option (Option Row)). option_and_then (λ x. x) o) (set_here rows at (Some row) lt), refl)

pub keeps_set : (rows : Filled) (at j : ℕ) (row : Row) (p : CodePlace) → j ≢ at → RowHas rows j p
    → RowHas (slice_set rows at (Some row)) j p
keeps_set rows at j row p other h =
    (h.0, ap (λ (o : Option (Option Row)). option_and_then (λ x. x) o) (set_other rows at j (Some row) other) ∙ h.1, h.2)

-- what is set where a thread is seen
abbrev pub set_of : Option Thread → ℕ → Filled → Filled
set_of None at rows = rows
set_of (Some x) at rows = slice_set rows at (Some (row_of x None))

set_of_sees : (o : Option Thread) (at : ℕ) (rows : Filled) → SetsRowOf o at rows (set_of o at rows)
set_of_sees None at rows = refl
set_of_sees (Some x) at rows = (row_of x None, stands_there x None, refl, refl)

set_of_length : (o : Option Thread) (at : ℕ) (rows : Filled) → length (set_of o at rows) ≡ length rows
set_of_length None at rows = refl
set_of_length (Some x) at rows = length-set rows at (Some (row_of x None))

set_of_keeps : (o : Option Thread) (at j : ℕ) (rows : Filled) (p : CodePlace) → j ≢ at → RowHas rows j p → RowHas (set_of o at rows) j p
set_of_keeps None at j rows p other h = h
set_of_keeps (Some x) at j rows p other h = keeps_set rows at j (row_of x None) p other h

pub set_of_has : (o : Option Thread) (x : Thread) (at : ℕ) (rows : Filled) → o ≡ Some x → at < length rows
    → RowHas (set_of o at rows) at (place_in x)
set_of_has None x at rows is lt = absurd (cc is)
set_of_has (Some y) x at rows is lt =
    let h = has_set rows at (row_of y None) lt in
    let same : y ≡ x = cc is in
    (h.0, h.1, h.2 ∙ ap (λ (z : Thread). place_in z) same)

abbrev pub see_in : List Thread → Option Entry → ℕ → Filled → Filled
see_in threads None at rows = rows
see_in threads (Some e) at rows = set_of (slice_get threads e.thread) at rows

pub see_sees : (threads : List Thread) (o : Option Entry) (at : ℕ) (rows : Filled) → SeesThread threads o at rows (see_in threads o at rows)
see_sees threads None at rows = refl
see_sees threads (Some e) at rows = set_of_sees (slice_get threads e.thread) at rows

pub see_length : (threads : List Thread) (o : Option Entry) (at : ℕ) (rows : Filled) → length (see_in threads o at rows) ≡ length rows
see_length threads None at rows = refl
see_length threads (Some e) at rows = set_of_length (slice_get threads e.thread) at rows

pub see_keeps : (threads : List Thread) (o : Option Entry) (at j : ℕ) (rows : Filled) (p : CodePlace) → j ≢ at → RowHas rows j p
    → RowHas (see_in threads o at rows) j p
see_keeps threads None at j rows p other h = h
see_keeps threads (Some e) at j rows p other h = set_of_keeps (slice_get threads e.thread) at j rows p other h

pub see_has : (threads : List Thread) (o : Option Entry) (e : Entry) (x : Thread) (at : ℕ) (rows : Filled) → o ≡ Some e
    → slice_get threads e.thread ≡ Some x → at < length rows → RowHas (see_in threads o at rows) at (place_in x)
see_has threads None e x at rows is there lt = absurd (cc is)
see_has threads (Some f) e x at rows is there lt =
    let same : f ≡ e = cc is in
    set_of_has (slice_get threads f.thread) x at rows (ap (λ (y : Entry). slice_get threads y.thread) same ∙ there) lt

abbrev pub left_in : List Thread → Option Entry → Event → ℕ → Filled → Filled
left_in threads o (events.Ask questions.Leave) at rows = see_in threads o at rows
left_in threads o event at rows = rows

left_sees : (threads : List Thread) (o : Option Entry) (event : Event) (at : ℕ) (rows : Filled)
    → SeesLeft threads o event at rows (left_in threads o event at rows)
left_sees threads o (events.Ask questions.Leave) at rows = see_sees threads o at rows
left_sees threads o (events.Ask (questions.Wait a b c d)) at rows = refl
left_sees threads o (events.Ask (questions.Notify a b)) at rows = refl
left_sees threads o (events.Ask (questions.Spawn a)) at rows = refl
left_sees threads o (events.Told answer) at rows = refl
left_sees threads o events.Size at rows = refl
left_sees threads o (events.Grow pages) at rows = refl
left_sees threads o (events.Load a b c) at rows = refl
left_sees threads o (events.Store a b c d) at rows = refl
left_sees threads o (events.Rmw a b c d) at rows = refl
left_sees threads o (events.Cmpxchg a b c d) at rows = refl

-- what is so of the rows where a leave is seen, and where none is, is so either way
left_by : (P : Filled → Type 0) (threads : List Thread) (o : Option Entry) (event : Event) (at : ℕ) (rows : Filled)
    → P (see_in threads o at rows) → P rows → P (left_in threads o event at rows)
left_by P threads o (events.Ask questions.Leave) at rows left other = left
left_by P threads o (events.Ask (questions.Wait a b c d)) at rows left other = other
left_by P threads o (events.Ask (questions.Notify a b)) at rows left other = other
left_by P threads o (events.Ask (questions.Spawn a)) at rows left other = other
left_by P threads o (events.Told answer) at rows left other = other
left_by P threads o events.Size at rows left other = other
left_by P threads o (events.Grow pages) at rows left other = other
left_by P threads o (events.Load a b c) at rows left other = other
left_by P threads o (events.Store a b c d) at rows left other = other
left_by P threads o (events.Rmw a b c d) at rows left other = other
left_by P threads o (events.Cmpxchg a b c d) at rows left other = other

abbrev pub behind_in : List Thread → Option Entry → ℕ → Filled → Filled
behind_in threads None at rows = rows
behind_in threads (Some e) at rows = left_in threads (Some e) e.event at rows

behind_sees : (threads : List Thread) (o : Option Entry) (at : ℕ) (rows : Filled)
    → SeesBehind threads o at rows (behind_in threads o at rows)
behind_sees threads None at rows = refl
behind_sees threads (Some e) at rows = left_sees threads (Some e) e.event at rows

behind_length : (threads : List Thread) (o : Option Entry) (at : ℕ) (rows : Filled) → length (behind_in threads o at rows) ≡ length rows
behind_length threads None at rows = refl
behind_length threads (Some e) at rows =
    left_by (λ (l : Filled). length l ≡ length rows) threads (Some e) e.event at rows (see_length threads (Some e) at rows) refl

pub behind_keeps : (threads : List Thread) (o : Option Entry) (at j : ℕ) (rows : Filled) (p : CodePlace) → j ≢ at → RowHas rows j p
    → RowHas (behind_in threads o at rows) j p
behind_keeps threads None at j rows p other h = h
behind_keeps threads (Some e) at j rows p other h =
    left_by (λ (l : Filled). RowHas l j p) threads (Some e) e.event at rows (see_keeps threads (Some e) at j rows p other h) h

pub behind_is : (threads : List Thread) (o : Option Entry) (e : Entry) (at : ℕ) (rows : Filled) (p : CodePlace) → o ≡ Some e
    → RowHas (left_in threads (Some e) e.event at rows) at p → RowHas (behind_in threads o at rows) at p
behind_is threads o e at rows p is h = subst (λ (x : Option Entry). RowHas (behind_in threads x at rows) at p) (sym is) h

abbrev pub last_in : List Thread → List Entry → ℕ → Filled → Filled
last_in threads log zero rows = rows
last_in threads log (suc last) rows = behind_in threads (slice_get log last) last rows

last_sees : (threads : List Thread) (log : List Entry) (k : ℕ) (rows : Filled) → SeesLast threads log k rows (last_in threads log k rows)
last_sees threads log zero rows = refl
last_sees threads log (suc last) rows = behind_sees threads (slice_get log last) last rows

last_length : (threads : List Thread) (log : List Entry) (k : ℕ) (rows : Filled) → length (last_in threads log k rows) ≡ length rows
last_length threads log zero rows = refl
last_length threads log (suc last) rows = behind_length threads (slice_get log last) last rows

pub last_keeps : (threads : List Thread) (log : List Entry) (k j : ℕ) (rows : Filled) (p : CodePlace) → suc j ≢ k → RowHas rows j p
    → RowHas (last_in threads log k rows) j p
last_keeps threads log zero j rows p other h = h
last_keeps threads log (suc last) j rows p other h =
    behind_keeps threads (slice_get log last) last j rows p (λ same. other (ap (λ n. suc n) same)) h

-- the rows behind so many entries
abbrev pub round_in : List Thread → List Entry → ℕ → Filled → Filled
round_in threads log k rows = last_in threads log k (see_in threads (slice_get log k) k rows)

pub round_length : (threads : List Thread) (log : List Entry) (k : ℕ) (rows : Filled) → length (round_in threads log k rows) ≡ length rows
round_length threads log k rows =
    last_length threads log k (see_in threads (slice_get log k) k rows) ∙ see_length threads (slice_get log k) k rows

-- rows with others in place of them, as many
abbrev pub with_rows : (v : Rows) (rows : Filled) (came : ℕ) → length rows ≡ length v.rows.items → Rows
with_rows v rows came same = record {
  log = v.log;
  rows = record {
    ptr = v.rows.ptr;
    len = v.rows.len;
    cap = v.rows.cap;
    alloc = v.rows.alloc;
    items = rows;
    ok = (v.rows.ok.0 ∙ sym same, v.rows.ok.1);
    small = v.rows.small;
  };
  came = came;
}

abbrev pub round_of : List Thread → ℕ → Rows → Rows
round_of threads k v =
    with_rows v (round_in threads v.log.now k v.rows.items) k (round_length threads v.log.now k v.rows.items)

pub round_sees : (threads : List Thread) (k : ℕ) (v : Rows) → SeesRound v k threads (round_of threads k v)
round_sees threads k v = record {
  log = refl;
  came = refl;
  between = see_in threads (slice_get v.log.now k) k v.rows.items;
  next = see_sees threads (slice_get v.log.now k) k v.rows.items;
  last = last_sees threads v.log.now k (see_in threads (slice_get v.log.now k) k v.rows.items);
}
