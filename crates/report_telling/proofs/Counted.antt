-- How many runs of a table were cut.
use Rattle.std.proofs.Common.{ℕ, ◌≡◌, ◌≤◌, ◌<◌, ◌+◌, ◌∙◌, List, true, length, subst, sym, ap, arith, sum_by, get_or, take}
use Rattle.std.proofs.lemmas.Bool.{cond-true}
use Rattle.std.proofs.lemmas.List.Sums.{sum_by_more_le}
use Rattle.search_finds.specs.declared.met.Met.{Met}
use Rattle.report_telling.specs.Drawn.{is_cut, runs_if_cut}

-- The runs of the rows before one that was cut, and its own, are no more than those of all.
pub one_more_cut : (items rows : List Met) (i : ℕ) (m : Met) → items ≡ rows → i < length rows → m ≡ get_or rows i m → is_cut m.ending ≡ true
    → sum_by runs_if_cut (take i items) + m.times ≤ sum_by runs_if_cut items
one_more_cut items rows i m same lt is cut =
    let within : i < length items = subst (λ (l : List Met). i < length l) (sym same) lt in
    let there : get_or items i m ≡ m = ap (λ (l : List Met). get_or l i m) same ∙ sym is in
    let times_of : runs_if_cut (get_or items i m) ≡ m.times = ap runs_if_cut there ∙ cond-true (is_cut m.ending) m.times 0 cut in
    let less = sum_by_more_le runs_if_cut items i m within in
    omega arith
