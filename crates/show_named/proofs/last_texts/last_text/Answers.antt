use Rattle.std.proofs.lemmas.Result.{IfOk-weaker}
use Rattle.show_named.specs.declared.lasts.Act.TheVariants as acts
use Rattle.show_named.proofs.Places.{says_found}
use Rattle.show_named.proofs.last_texts.last_text.Goals as goal

pub returns : goal.returns
returns c = IfOk-weaker c.told_text.result _ _ (λ text says. says_found c.args.shown c.args.map.now c.args.story.now
    c.as_slice.result.now c.args.sought.before (acts.Write c.args.sought.addrs) c.args.none.now _ _ c.as_slice.ensures
    c.place_in-place.ensures says) c.told_text.ensures
