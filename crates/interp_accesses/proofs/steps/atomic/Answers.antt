use Rattle.std.proofs.Common.{◌≡◌, Result, Ok, Err, refl}
use Rattle.types.specs.declared.event.Event.{Event}
use Rattle.types.specs.declared.outcome.Trap.{Trap}
use Rattle.types.specs.declared.operators.AtomicOp.{AtomicOp}
use Rattle.types.specs.declared.operators.MemArg.{MemArg}
use Rattle.types.specs.declared.instr.Instr.TheVariants as instrs
use Rattle.types.specs.declared.instr.PlainInstr.TheVariants as plain
use Rattle.std.specs.Prelude.{reverse}
use Rattle.interp_machine.specs.Program.{Program}
use Rattle.interp_state.specs.declared.state.State.{State}
use Rattle.interp_state.specs.Steps.{ComesNext, IsStep}
use Rattle.interp_accesses.specs.Requests.{Wants}
use Rattle.interp_accesses.specs.Wanted.{wants_or_traps}
use Rattle.interp_accesses.proofs.Turns.{request_ready, event_wanted, event_refused}
use Rattle.interp_accesses.proofs.steps.atomic.Goals as goal

steps_to : (s : State) (op : AtomicOp) (arg : MemArg) (r : Result Event Trap) → ComesNext s (instrs.Plain (plain.Atomic op arg))
    → ((p : Program) → p.shared ≡ s.program.shared → Wants p op arg (reverse s.values.items) r) → IsStep s (wants_or_traps r) s
steps_to s op arg (Ok event) h wants = λ w k v st. event_wanted w s k op arg event st h wants
steps_to s op arg (Err trap) h wants = λ w k v st. event_refused w s k op arg trap st h wants

pub request-requires : goal.request-requires
request-requires c = rw c.as_slice.ensures.value (request_ready c.args.state.now c.args.op c.args.arg c.requires)

pub returns : goal.returns
returns c = steps_to c.args.state.now c.args.op c.args.arg c.request.result c.requires
    (λ p h d rest. rw⁻¹ (c.as_slice.ensures.value) (c.request.ensures p h d rest))
