use Rattle.std.proofs.Common.{arith}
use Rattle.shared_memory_sequential.proofs.Lanes.{made}
use Rattle.shared_memory_sequential.proofs.word.with_lane.Goals as goal

pub overflow_sub-result : goal.overflow_sub-result
overflow_sub-result c = (made c.args.word c.args.addr c.args.width c.args.value c.lane.result (omega arith)
    c.requires.one_word c.requires.fits c.lane.ensures).below

pub overflow_add-result : goal.overflow_add-result
overflow_add-result c =
    let fits = (made c.args.word c.args.addr c.args.width c.args.value c.lane.result (omega arith) c.requires.one_word c.requires.fits c.lane.ensures).fits in
    omega arith

pub returns : goal.returns
returns c = (made c.args.word c.args.addr c.args.width c.args.value c.lane.result (omega arith) c.requires.one_word c.requires.fits c.lane.ensures).is
