use Rattle.show_json.proofs.Sent.{text_written}
use Rattle.show_json.proofs.object.write_text.Goals as goal

pub returns-in-Ok-write_all-clause-text : goal.returns-in-Ok-write_all-clause-text
returns-in-Ok-write_all-clause-text g c =
    let sent = c.in-Ok.ensures.events in
    text_written (g.T.ToJson.json c.args.value.now) sent.0 c.in-Ok.text.items c.deref.result.now _ _ sent.1 sent.2 c.deref.ensures.value
    c.in-Ok-write_all.ensures.bytes
