use Rattle.std.proofs.Common.{ℕ, ◌≡◌, ◌<◌, Bool, List, true, false, IsTrue, refl, subst, true≢false, sym, ◌∙◌, arith}
use Rattle.search_scheduled.specs.declared.running.MadeRun.{MadeRun}
use Rattle.search_finds.specs.Drawing.{AreOfRunsBack}
use Rattle.search_finds.specs.declared.search.JudgedEnding.{JudgedEnding}
use Rattle.search_finds.proofs.InRow.{met_of}
use Rattle.search_finds.proofs.Noting.{noted_none, noted_more, noted_weaker}
use Rattle.search_finds.proofs.finder.Finder.first.Goals as goal
use Rattle.search_finds.proofs.finder.Finder.first.Goals.{else-is_sought-via-then-is_sought+else-sought, else-is_sought-via-else-is_sought}

pub loop-run-init : goal.loop-run-init
loop-run-init g c =
    let says = g.J.Judges.judges c.args.self.now.judge.now c.args.self.now.maker.request.now in
    let q = c.args.self.now.maker.request.now in
    let s = c.args.self.now.maker.sought.now in
    let new = c.new-table.ensures in
    let runs = new.0 in (
      omega arith,
      subst (AreOfRunsBack says q s c.args.self.now.maker.entries s.from) (sym {A = List JudgedEnding} c.new-ahead.ensures.items) tt,
      noted_none (λ run made. IsTrue s.stops → says made false) q s c.new-table.result runs new.1,
    )

-- what isn't looked for, where the search stops, is passed over
passed : (Says : MadeRun → Bool → Type 0) (made : MadeRun) (stops is : Bool) → (is ≡ true → stops ≡ false) → IsTrue stops → Says made is → Says made false
passed Says made stops true none given says = absurd (true≢false (sym given ∙ none refl))
passed Says made stops false none given says = says

pub returns-then-sought-clause-noted : goal.returns-then-sought-clause-noted
returns-then-sought-clause-noted g c =
    let says = g.J.Judges.judges c.args.self.now.judge.now c.args.self.now.maker.request.now in
    let q = c.args.self.now.maker.request.now in
    let s = c.args.self.now.maker.sought.now in
    let run = c.loop-run.run in
    let before = λ (n : ℕ) (made : MadeRun). n < c.in_ok-found.found.run → says made false in
    let number = c.in_ok-found.ensures.number in
    noted_more before q s run _ _ _ _
    (noted_weaker (λ n made. IsTrue s.stops → says made false) before (λ n made passed _. passed c.if-sought.true) q s c.loop-run.table c.loop-run.invariant.2)
    c.loop-run.invariant.0
    (met_of says before q s c.args.self.now.maker.entries run _ c.requires.points (rw c.in-Some.is at c.in_ok-next.ensures.met)
    (λ made _ less. absurd (omega (arith, less, number)))) c.in_ok-note.ensures.noted

pub returns-in-End-clause-noted : goal.returns-in-End-clause-noted
returns-in-End-clause-noted g c =
    let says = g.J.Judges.judges c.args.self.now.judge.now c.args.self.now.maker.request.now in
    let q = c.args.self.now.maker.request.now in
    let s = c.args.self.now.maker.sought.now in
    let run = c.loop-run.run in
    noted_more (λ n made. IsTrue s.stops → says made false) q s run _ _ _ _ c.loop-run.invariant.2 c.loop-run.invariant.0
    (met_of says (λ n made. IsTrue s.stops → says made false) q s c.args.self.now.maker.entries run _ c.requires.points
    (rw c.in-Some.is at c.in_ok-next.ensures.met)
    (λ made is stops. passed says made s.stops _ (λ yes. elim c.else-is_sought.branch [
      | else-is_sought-via-then-is_sought+else-sought w ↦ w.if-sought.false
      | else-is_sought-via-else-is_sought w ↦ absurd (true≢false (sym yes ∙ w.if-is_sought.false))
    ]) stops is)) c.in_ok-note.ensures.noted

pub loop-run-preserved : goal.loop-run-preserved
loop-run-preserved g c =
    let says = g.J.Judges.judges c.args.self.now.judge.now c.args.self.now.maker.request.now in
    let q = c.args.self.now.maker.request.now in
    let s = c.args.self.now.maker.sought.now in
    let run = c.loop-run.run in
    let noted = c.in_ok-note.ensures.noted in (
      let runs = noted.runs in omega arith,
      c.in_ok-next.ensures.ahead,
      noted_more (λ n made. IsTrue s.stops → says made false) q s run _ _ _ _ c.loop-run.invariant.2 c.loop-run.invariant.0
          (met_of says (λ n made. IsTrue s.stops → says made false) q s c.args.self.now.maker.entries run _ c.requires.points
          (rw c.in-Some.is at c.in_ok-next.ensures.met)
          (λ made is stops. passed says made s.stops _ (λ yes. elim c.else-is_sought.branch [
            | else-is_sought-via-then-is_sought+else-sought w ↦ w.if-sought.false
            | else-is_sought-via-else-is_sought w ↦ absurd (true≢false (sym yes ∙ w.if-is_sought.false))
          ]) stops is)) noted,
    )
