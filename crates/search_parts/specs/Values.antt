-- Equal values of a thread and of the wait queue are the same.
use Rattle.std.specs.Prelude.{◌≡◌, ◌&&◌, true, refl, nat_eq}
use Rattle.std.proofs.Common.{ap, int_eq}
use Rattle.std.proofs.lemmas.Bool.{eqb-true}
use Rattle.std.proofs.lemmas.Bool.Decides.{Decides-int_eq}
use Rattle.std.specs.Cmp.{first_so, second_so}
use Rattle.interp_state.specs.declared.state.Caller.{Caller}
use Rattle.interp_state.specs.contracts.state.CallerPartialEq.TheImpl as caller_eq
use Rattle.interp_state.specs.declared.state.Progress.{Progress}
use Rattle.interp_state.specs.declared.state.Progress.TheVariants as reached
use Rattle.interp_state.specs.contracts.state.ProgressPartialEq.TheImpl as progress_eq
use Rattle.shared_memory.specs.declared.sleeper.Sleeper.{Sleeper}
use Rattle.shared_memory.specs.contracts.sleeper.SleeperPartialEq.TheImpl as sleeper_eq
use Rattle.search_endings.specs.Outcomes.{untrue}

pub same_caller : (x y : Caller) → caller_eq.eq-value.it x y ≡ true → x ≡ y
same_caller x y e =
    let e1 = second_so (nat_eq x.function y.function)
    (nat_eq x.pc y.pc && (nat_eq x.base y.base && (nat_eq x.operands y.operands && nat_eq x.results y.results)))
    e in
    let e2 = second_so (nat_eq x.pc y.pc)
    (nat_eq x.base y.base && (nat_eq x.operands y.operands && nat_eq x.results y.results)) e1 in
    let e3 = second_so (nat_eq x.base y.base) (nat_eq x.operands y.operands && nat_eq x.results y.results) e2 in
    let function = eqb-true x.function y.function (first_so (nat_eq x.function y.function)
    (nat_eq x.pc y.pc && (nat_eq x.base y.base && (nat_eq x.operands y.operands && nat_eq x.results y.results))) e) in
    let pc = eqb-true x.pc y.pc
    (first_so (nat_eq x.pc y.pc)
    (nat_eq x.base y.base && (nat_eq x.operands y.operands && nat_eq x.results y.results)) e1) in
    let base = eqb-true x.base y.base
    (first_so (nat_eq x.base y.base) (nat_eq x.operands y.operands && nat_eq x.results y.results) e2) in
    let operands = eqb-true x.operands y.operands (first_so (nat_eq x.operands y.operands) (nat_eq x.results y.results)
    e3) in
    let results = eqb-true x.results y.results (second_so (nat_eq x.operands y.operands) (nat_eq x.results y.results)
    e3) in
    λ i. record { function = function i; pc = pc i; base = base i; operands = operands i; results = results i }

pub same_progress : (x y : Progress) → progress_eq.eq-value.it x y ≡ true → x ≡ y
same_progress reached.Fresh reached.Fresh e = refl
same_progress reached.Fresh (reached.Halfway b) e = untrue e
same_progress reached.Fresh reached.Asked e = untrue e
same_progress (reached.Halfway a) reached.Fresh e = untrue e
same_progress (reached.Halfway a) (reached.Halfway b) e = ap reached.Halfway (eqb-true a b e)
same_progress (reached.Halfway a) reached.Asked e = untrue e
same_progress reached.Asked reached.Fresh e = untrue e
same_progress reached.Asked (reached.Halfway b) e = untrue e
same_progress reached.Asked reached.Asked e = refl

pub same_sleeper : (x y : Sleeper) → sleeper_eq.eq-value.it x y ≡ true → x ≡ y
same_sleeper x y e =
    let e1 = second_so (nat_eq x.thread y.thread) (nat_eq x.addr y.addr && int_eq x.timeout y.timeout) e in
    let thread = eqb-true x.thread y.thread
    (first_so (nat_eq x.thread y.thread) (nat_eq x.addr y.addr && int_eq x.timeout y.timeout) e) in
    let addr = eqb-true x.addr y.addr (first_so (nat_eq x.addr y.addr) (int_eq x.timeout y.timeout) e1) in
    let timeout : x.timeout ≡ y.timeout =
    (Decides-int_eq x.timeout y.timeout).0 (second_so (nat_eq x.addr y.addr) (int_eq x.timeout y.timeout) e1) in
    λ i. record { thread = thread i; addr = addr i; timeout = timeout i }
