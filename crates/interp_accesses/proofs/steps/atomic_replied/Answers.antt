use Rattle.std.proofs.Common.{refl, arith}
use Rattle.types.specs.declared.operators.AtomicOp.TheVariants as atomic
use Rattle.interp_accesses.proofs.Turns.{ready, settled, finished}
use Rattle.interp_accesses.proofs.steps.atomic_replied.Goals as goal

pub await_answer-requires : goal.await_answer-requires
await_answer-requires c = let r = ready c.args.state.now c.args.op atomic.Notify c.args.arg c.in-Notify.is c.requires
    in record { operands = r.operands; inside = r.inside }

pub returns-in-Notify : goal.returns-in-Notify
returns-in-Notify c = settled c.args.state.now _ c.args.op atomic.Notify c.args.arg c.args.number c.in-Notify.is c.requires c.await_answer.ensures

pub await_answer-requires-in-Wait : goal.await_answer-requires-in-Wait
await_answer-requires-in-Wait c = let r =
    ready c.args.state.now c.args.op (atomic.Wait c.in-Wait.field-0) c.args.arg c.in-Wait.is c.requires in
    record { operands = r.operands; inside = r.inside }

pub returns-in-Wait : goal.returns-in-Wait
returns-in-Wait c = settled c.args.state.now _ c.args.op (atomic.Wait c.in-Wait.field-0) c.args.arg c.args.number
    c.in-Wait.is c.requires c.await_answer-in-Wait.ensures

pub give-requires : goal.give-requires
give-requires c = let r = ready c.args.state.now c.args.op (atomic.Load c.in-Load.width) c.args.arg c.in-Load.is
    c.requires in record { some = omega arith; operands = r.operands; room = r.room; inside = r.inside }

pub returns-in-Load : goal.returns-in-Load
returns-in-Load c = finished c.args.state.now _ c.args.op (atomic.Load c.in-Load.width) c.args.arg c.args.number c.in-Load.is c.requires refl c.give.ensures

pub finish-requires : goal.finish-requires
finish-requires c = let r = ready c.args.state.now c.args.op (atomic.Store c.in-Store.field-0) c.args.arg c.in-Store.is
    c.requires in record { operands = r.operands; inside = r.inside }

pub returns-in-Store : goal.returns-in-Store
returns-in-Store c = finished c.args.state.now _ c.args.op (atomic.Store c.in-Store.field-0) c.args.arg c.args.number
    c.in-Store.is c.requires refl c.finish.ensures

pub give-requires-in-Rmw : goal.give-requires-in-Rmw
give-requires-in-Rmw c = let r = ready c.args.state.now c.args.op (atomic.Rmw c.in-Rmw.field-0 c.in-Rmw.width)
    c.args.arg c.in-Rmw.is c.requires in record {
      some = omega arith;
      operands = r.operands;
      room = r.room;
      inside = r.inside;
    }

pub returns-in-Rmw : goal.returns-in-Rmw
returns-in-Rmw c = finished c.args.state.now _ c.args.op (atomic.Rmw c.in-Rmw.field-0 c.in-Rmw.width) c.args.arg
    c.args.number c.in-Rmw.is c.requires refl c.give-in-Rmw.ensures

pub give-requires-in-Cmpxchg : goal.give-requires-in-Cmpxchg
give-requires-in-Cmpxchg c = let r = ready c.args.state.now c.args.op (atomic.Cmpxchg c.in-Cmpxchg.width) c.args.arg
    c.in-Cmpxchg.is c.requires in record {
      some = omega arith;
      operands = r.operands;
      room = r.room;
      inside = r.inside;
    }

pub returns-in-Cmpxchg : goal.returns-in-Cmpxchg
returns-in-Cmpxchg c = finished c.args.state.now _ c.args.op (atomic.Cmpxchg c.in-Cmpxchg.width) c.args.arg
    c.args.number c.in-Cmpxchg.is c.requires refl c.give-in-Cmpxchg.ensures
