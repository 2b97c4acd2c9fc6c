-- The rows of a table have each of its runs once.
use Rattle.std.proofs.Common.{ℕ, ◌≡◌, ◌≤◌, ◌+◌, List, [], Bool, true, false, length, sym, ap, ◌∙◌, arith, sum_by, get_or}
use Rattle.std.proofs.lemmas.Bool.{cond_both}
use Rattle.std.proofs.lemmas.List.Sums.{sum_by_push, sum_by-set, sum_by-le-sum_by}
use Rattle.search_endings.specs.Endings.{Ending}
use Rattle.search_finds.specs.declared.met.Met.{Met}
use Rattle.search_finds.specs.declared.met.EndingTable.{EndingTable}
use Rattle.search_finds.specs.Tables.{IsNoted}
use Rattle.search_finds.specs.Noted.{AreNoted, IsTableOf}
use Rattle.search_finds.specs.Noted.IsTableOf.{none, more}
use Rattle.spawn_host.specs.Requests.{Requested}
use Rattle.selection.specs.declared.sought.Sought.{Sought}
use Rattle.report_telling.specs.Drawn.{cut_in, is_cut, runs_if_cut}

abbrev times : Met → ℕ
times m = m.times

one_more : (run : ℕ) (e : Ending) (is_new : Bool) (old new : EndingTable) → IsNoted run e is_new old new
    → sum_by times new.met.items ≡ sum_by times old.met.items + 1
one_more run e true old new noted =
    ap (sum_by times) noted.met.list ∙ sum_by_push times old.met.items (record { ending = e; times = 1; first = run })
one_more run e false old new noted =
    let m = noted.met in
    let was : get_or old.met.items m.place m.was ≡ m.was = m.was_there in
    let same : times (get_or old.met.items m.place m.was) ≡ m.was.times = ap times was in
    let changed = sum_by-set times old.met.items m.place (record m.was { times = m.was.times + 1 }) m.was m.within in
    let list = ap (sum_by times) m.list in
    omega arith

runs_of : (first : ℕ) (es : List Ending) (t : EndingTable) → IsTableOf first es t → sum_by times t.met.items ≡ t.runs
runs_of first [] _ (none t runs met) = ap (sum_by times) met ∙ sym runs
runs_of first _ _ (more before e is_new old t table noted) =
    let rest = runs_of first before old table in
    let one = one_more (first + length before) e is_new old t noted in
    let runs = noted.runs in
    omega arith

-- So at most as many runs of a table were cut as were made.
at_most : (m : Met) → runs_if_cut m ≤ times m
at_most m = cond_both (is_cut m.ending) m.times 0 (λ x. x ≤ m.times) (λ _. omega arith) (λ _. omega arith)

pub cut_within : (q : Requested) (s : Sought) (t : EndingTable) → AreNoted q s t → cut_in t ≤ t.runs
cut_within q s t a =
    let all = runs_of s.from a.endings t a.noted in
    let less = sum_by-le-sum_by runs_if_cut times t.met.items at_most in
    omega arith
