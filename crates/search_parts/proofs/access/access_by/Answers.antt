use Rattle.std.proofs.Common.{length, sym, ◌∙◌, ap}
use Rattle.search_memory.specs.Memories.{memory_of}
use Rattle.search_memory.proofs.Putting.{length_memory}
use Rattle.search_runs.specs.Accesses.{access_by}
use Rattle.search_parts.proofs.access.access_by.Goals as goal

pub returns-in-Load : goal.returns-in-Load
returns-in-Load c =
    let m = memory_of c.args.opening.now c.args.memory.now in
    c.load_or_store.ensures m (length_memory c.args.opening.now c.args.memory.now)
    ∙ sym (ap (access_by (length c.args.opening.now) m c.args.plain) c.in-Load.is)

pub returns-in-Store : goal.returns-in-Store
returns-in-Store c =
    let m = memory_of c.args.opening.now c.args.memory.now in
    c.load_or_store-in-Store.ensures m (length_memory c.args.opening.now c.args.memory.now)
    ∙ sym (ap (access_by (length c.args.opening.now) m c.args.plain) c.in-Store.is)

pub returns-in-Rmw : goal.returns-in-Rmw
returns-in-Rmw c =
    let m = memory_of c.args.opening.now c.args.memory.now in
    c.atomic.ensures m (length_memory c.args.opening.now c.args.memory.now)
    ∙ sym (ap (access_by (length c.args.opening.now) m c.args.plain) c.in-Rmw.is)

pub returns-in-Ask : goal.returns-in-Ask
returns-in-Ask c =
    let m = memory_of c.args.opening.now c.args.memory.now in
    c.asked.ensures m c.args.plain (length_memory c.args.opening.now c.args.memory.now)
    ∙ sym (ap (access_by (length c.args.opening.now) m c.args.plain) c.in-Ask.is)
