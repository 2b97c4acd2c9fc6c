use Rattle.std.proofs.Common.{◌<◌, List, [], false, length, get_or, subst, arith}
use Rattle.race_history.specs.declared.access.Location.TheVariants.{Bytes}
use Rattle.race_history.specs.declared.access.ThreadAccess.{ThreadAccess}
use Rattle.race_history.specs.declared.lasts.Last.{Last}
use Rattle.race_history.specs.Found.{HaveMore, IsClash}
use Rattle.race_history.specs.Lasts.{table}
use Rattle.race_history.proofs.Clashing.{clashes_more}
use Rattle.race_history.proofs.found.find_clashes.Goals as goal

abbrev nothing : ThreadAccess
nothing = record {
  thread = 0;
  location = Bytes;
  addr = 0;
  width = 0;
  reads = false;
  writes = false;
  atomic = false;
  code = 0;
}

pub loop-access-preserved : goal.loop-access-preserved
loop-access-preserved c =
    let accesses = c.args.accesses.now in
    let clock = c.args.clock.now in
    let lists = table c.args.lasts.now in
    let i = c.loop-access.access-index in
    let mid = c.loop-access.places.items in
    let new = c.add_clashes.new.places.items in
    let within : i < length accesses = omega arith in
    clashes_more accesses clock lists i nothing within [] mid new c.loop-access.invariant
    (subst (λ (l : List Last). HaveMore mid new (IsClash (get_or accesses i nothing) clock l)) c.near.ensures c.in_ok-add_clashes.ensures)
