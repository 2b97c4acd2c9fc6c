use Rattle.std.proofs.Common.{codes, ap, ◌∙◌, refl}
use Rattle.std.proofs.lemmas.Result.{on_ok_weaker}
use Rattle.show_json.specs.Json.{number}
use Rattle.report_json.specs.Ends.{outcomes_json}
use Rattle.report_json.specs.Drawn.{has_some}
use Rattle.show_json.proofs.Sent.{same_field}
use Rattle.report_json.proofs.Bytes.{same_bytes}
use Rattle.report_json.proofs.drawn.put_ending.Goals as goal

pub returns : goal.returns
returns g c =
    on_ok_weaker c.put_bytes.result (λ last. (
      _,
      same_field (codes "threads") _ _ _ _ (ap outcomes_json c.outcomes.ensures) c.in_ok-put.ensures,
      (
        _,
        same_field (codes "pages") _ _ _ _ (ap number c.pages.ensures) c.in_ok-put-2.ensures,
        (_, same_bytes _ _ _ _ _ _ (c.has_some.ensures ∙ ap has_some c.bytes-bytes.ensures) c.bytes-bytes.ensures last, refl),
      ),
    )) c.put_bytes.ensures
