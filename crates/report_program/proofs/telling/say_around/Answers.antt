use Rattle.std.proofs.Common.{◌++◌, ℕ, List, Option, subst}
use Rattle.std.proofs.lemmas.List.{append-nil}
use Rattle.show_text.specs.Plain.{plain_text}
use Rattle.report_jobs.specs.Trapped.{Tells}
use Rattle.report_jobs.proofs.Said.{tells_front}
use Rattle.report_program.proofs.telling.say_around.Goals as goal

pub returns-in-Err : goal.returns-in-Err
returns-in-Err g c =
    let a = c.args in
    let old : Option (List ℕ) = g.E.Write.contents a.err.now in
    let new : Option (List ℕ) = g.E.Write.contents c.say_named.new.err in
    tells_front old new _ a.more.now
    (subst (λ (x : List ℕ). Tells old new (x ++ plain_text a.path.now ++ a.behind.now)) (append-nil a.front.now) c.say_named.ensures)
