use Rattle.std.proofs.lemmas.Result.{on_ok_weaker}
use Rattle.replay_forms.proofs.Written.{appends_then}
use Rattle.show_json.proofs.rows.write_row.Goals as goal

pub returns : goal.returns
returns g c =
    on_ok_weaker c.write_text.result (λ wrote. appends_then _ _ _ _ _ c.in_ok-write_separator.ensures wrote) c.write_text.ensures.text
