use Rattle.std.proofs.Common.{arith}
use Rattle.search_reach.proofs.Meeting.{at-some}
use Rattle.search_reach.proofs.Searching.{here}
use Rattle.search_race_free.proofs.Held.{owning-count}
use Rattle.search_race_free.proofs.Keeping.{copy-at, known-copy}
use Rattle.search_race_free.proofs.states.race_among.Goals as goal

pub state_at-requires : goal.state_at-requires
state_at-requires g c = let r = c.requires in r.1.table

pub next_states-requires : goal.next_states-requires
next_states-requires g c =
    let m = c.args.system.now in
    let k = g.M.Moves.threads m in
    let table = c.args.table.now in
    let place = c.loop-place.place in
    let copy = c.in-Some.state in
    let r = c.requires in
    let len = owning-count table r.0 r.1 c.len-place-end.result c.len-place-end.ensures in
    let s = at-some r.0 place (omega (arith, len)) in
    known-copy k (g.M.Moves.ends m) (g.M.Moves.stuck m) (g.met.M.Moves.tame m) (g.met.M.Accesses.plain m) (g.met.M.Accesses.beyond m) s.0 copy
    (copy-at k (g.M.Moves.ends m) (g.M.Moves.stuck m) table place c.in_ok-state.field-0 c.in_ok-state.ensures copy c.in-Some.is r.0 s.0 r.1 s.1)
    (r.2 s.0 (here r.0 place s.0 s.1))
