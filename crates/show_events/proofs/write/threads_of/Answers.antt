use Rattle.show_events.proofs.Among.{threads_are}
use Rattle.show_events.proofs.write.threads_of.Goals as goal

pub returns : goal.returns
returns c =
    let order = c.put_in_order.ensures in
    threads_are c.args.log.now c.args.chosen.now _ _ c.in_ok-threads.ensures order.ascend order.keeps order.no_other
