use Rattle.spawn_host.proofs.Calling.{called}
use Rattle.spawn_host.proofs.threads.calling.Goals as goal

pub returns : goal.returns
returns c =
    called _ c.args.valid.now.parts c.index_of.result c.args.own c.args.args.now c.args.fuel c.index_of.ensures c.new.result c.new.ensures.begins
