use Rattle.std.proofs.Common.{◌≡◌, ℕ, List, ◌++◌, sym, ap, ◌∙◌, take, drop, subst, take-append-drop, arith, length-drop}
use Rattle.std.proofs.lemmas.List.{take_all}
use Rattle.std.specs.Borrow.{Bor}
use Rattle.report_jobs.proofs.Said.{Telling, told_more, told_no_more}
use Rattle.report_jobs.proofs.telling.say.Goals.{in-Ok, in-Err+else-ne}
use Rattle.report_jobs.proofs.telling.say.Goals as goal

pub loop-preserved : goal.loop-preserved
loop-preserved g c =
    let C = g.E.Write.contents in
    let rest = c.loop.rest.now in
    elim c.match-write.branch [
      | in-Ok w ↦
          let n : ℕ = w.in-Ok.count in
          let left : c.match-write.rest.now ≡ drop n rest = ap (λ (r : Bor (List ℕ)). r.now) w.rest-is
          ∙ take_all _ (drop n rest) (omega (arith, length-drop n rest)) in
          told_more (C c.args.err.now) (C c.loop.err) (C c.write.new.self) c.args.text.now rest (take n rest) c.match-write.rest.now
          c.loop.invariant (sym (take-append-drop n rest) ∙ ap (λ (l : List ℕ). take n rest ++ l) (sym left)) w.in-Ok.ensures.bytes
      | in-Err+else-ne w ↦
          let same : c.match-write.rest.now ≡ rest = ap (λ (r : Bor (List ℕ)). r.now) w.rest-is in
          subst (Telling (C c.args.err.now) (C c.write.new.self) c.args.text.now) (sym same)
          (told_no_more (C c.args.err.now) (C c.loop.err) (C c.write.new.self) c.args.text.now rest c.loop.invariant w.in-Err.ensures.bytes)
    ]
