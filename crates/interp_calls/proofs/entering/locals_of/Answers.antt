use Rattle.std.proofs.Common.{rules, ◌<◌, length}
use Rattle.interp_calls.proofs.entering.locals_of.Goals as goal

pub bounds-as_slice-own : goal.bounds-as_slice-own
bounds-as_slice-own c = rw c.as_slice.ensures c.requires

pub offset_bounds-as_slice-own : goal.offset_bounds-as_slice-own
offset_bounds-as_slice-own c = let h : c.args.own < length c.as_slice.result.now = rw c.as_slice.ensures c.requires in search rules
