use Rattle.std.proofs.Common.{Option, codes, ap, sym, subst}
use Rattle.std.proofs.lemmas.Result.{on_ok_weaker}
use Rattle.report_json.specs.declared.raced.RunRaces.{RunRaces}
use Rattle.show_json.specs.Json.{text}
use Rattle.report_json.specs.Raced.{words_field}
use Rattle.show_json.specs.Sent.{SendsField}
use Rattle.show_json.proofs.Sent.{same_field}
use Rattle.report_json.proofs.raced.put_words.Goals as goal

pub returns-in-Some : goal.returns-in-Some
returns-in-Some g c =
    let written = g.S.Serializer.written in
    on_ok_weaker c.put.result (λ sent.
    subst (λ (o : Option RunRaces). SendsField (words_field o) (written c.args.out.now) (written c.put.new.out)) (sym c.in-Some.is)
    (same_field (codes "races") _ _ _ _ (ap text c.words_of.ensures) sent)) c.put.ensures
