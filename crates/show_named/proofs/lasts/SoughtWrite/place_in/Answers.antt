use Rattle.show_named.proofs.Places.{last_if_any}
use Rattle.show_named.specs.declared.lasts.Act.TheVariants as acts
use Rattle.show_named.proofs.lasts.SoughtWrite.place_in.Goals as goal

pub returns : goal.returns
returns c = last_if_any (acts.Write c.args.self.addrs) c.args.log.now c.args.self.before c.last_of.result c.last_of.ensures.found
    c.last_of.ensures.none
