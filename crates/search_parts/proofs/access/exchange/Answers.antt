use Rattle.std.proofs.Common.{◌+◌, ◌==◌, true, false, ◌∙◌, ap}
use Rattle.shared_memory.specs.Memory.{loaded}
use Rattle.search_memory.specs.Memories.{memory_of}
use Rattle.search_memory.proofs.Putting.{length_memory}
use Rattle.search_runs.specs.Accesses.{in_bounds}
use Rattle.search_parts.proofs.Accessing.{found-there}
use Rattle.search_parts.proofs.access.exchange.Goals as goal

pub returns : goal.returns
returns c =
    let m = memory_of c.args.opening.now c.args.memory.now in
    c.atomic.ensures m (length_memory c.args.opening.now c.args.memory.now)
    ∙ (ap (λ b. in_bounds m false true b true c.args.addr c.args.width (c.args.addr + c.args.width)) c.holds-writes.ensures
    ∙ found-there m (loaded m c.args.addr c.args.width == c.args.expected) c.args.addr c.args.width)
