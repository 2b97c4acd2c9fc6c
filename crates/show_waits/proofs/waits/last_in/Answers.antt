use Rattle.std.proofs.Common.{length}
use Rattle.show_named.proofs.Places.{last_if_any}
use Rattle.show_waits.proofs.waits.last_in.Goals as goal

pub returns : goal.returns
returns c = last_if_any c.args.act c.args.log.now (length c.args.log.now) c.last_of.result c.last_of.ensures.found
    c.last_of.ensures.none
