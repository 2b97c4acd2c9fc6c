use Rattle.std.proofs.lemmas.Result.{on_ok_weaker}
use Rattle.report_looks.proofs.printing.print_scene.Goals as goal

pub returns-in-Lines-clause-says : goal.returns-in-Lines-clause-says
returns-in-Lines-clause-says g c =
    rw c.in-Lines.is (on_ok_weaker c.write_moment.result (λ says. (_, says)) c.write_moment.ensures.says)

pub returns-clause-says : goal.returns-clause-says
returns-clause-says g c =
    rw c.in-Json.is (on_ok_weaker c.write_scene.result (λ says. (_, says)) c.write_scene.ensures.says)
