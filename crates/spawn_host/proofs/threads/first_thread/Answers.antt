use Rattle.interp.specs.Threads.{meaning_in}
use Rattle.spawn_host.proofs.Requested.{within, taken, begun}
use Rattle.spawn_host.proofs.threads.first_thread.Goals as goal

pub calling-requires-clause-within : goal.calling-requires-clause-within
calling-requires-clause-within c =
    within c.args.request.now c.«module».result.now.parts c.call-call.result c.number.result c.«module».ensures c.call-call.ensures.call c.number.ensures

pub calling-requires-clause-call : goal.calling-requires-clause-call
calling-requires-clause-call c =
    taken c.args.request.now c.«module».result.now.parts c.call-call.result c.number.result c.«module».ensures c.call-call.ensures.call c.number.ensures

pub returns : goal.returns
returns c =
    begun c.args.request.now c.«module».result.now.parts c.call-call.result c.number.result c.«module».ensures c.call-call.ensures.call
    c.number.ensures meaning_in c.calling.result c.calling.ensures
