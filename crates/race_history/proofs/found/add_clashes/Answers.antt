use Rattle.std.proofs.Common.{◌∙◌, ◌<◌, ◌+◌, ℕ, false, length, take, sym, subst, arith}
use Rattle.std.specs.Global.{Vec}
use Rattle.race_history.specs.declared.access.Location.TheVariants.{Bytes}
use Rattle.race_history.specs.declared.access.ThreadAccess.{ThreadAccess}
use Rattle.race_history.specs.declared.lasts.Last.{Last}
use Rattle.race_history.specs.Found.{HaveMore, IsClash}
use Rattle.race_history.proofs.Clashing.{clash_more, clash_skip}
use Rattle.race_history.proofs.found.add_clashes.Goals as goal
use Rattle.race_history.proofs.found.add_clashes.Goals.{then-clashes+in_ok-insert, else-clashes}

abbrev nothing : ThreadAccess
nothing = record {
  thread = 0;
  location = Bytes;
  addr = 0;
  width = 0;
  reads = false;
  writes = false;
  atomic = false;
  code = 0;
}

abbrev last : Last
last = record { place = 0; access = nothing }

pub loop-last-preserved : goal.loop-last-preserved
loop-last-preserved c =
    let list = c.args.list.now in
    let a = c.args.access.now in
    let clock = c.args.clock.now in
    let i = c.loop-last.last-index in
    let old = c.args.places.now.items in
    let mid = c.loop-last.places.items in
    let within : i < length list = omega arith in
    elim c.if-clashes.branch [
      | then-clashes+in_ok-insert w ↦
          subst (λ (v : Vec ℕ). HaveMore old v.items (IsClash a clock (take (i + 1) list))) (sym w.places-is)
          (clash_more a clock list i last within old mid w.insert.new.places.items (sym c.clashes.ensures ∙ w.if-clashes.true) c.loop-last.invariant
          w.in_ok-insert.ensures)
      | else-clashes w ↦
          subst (λ (v : Vec ℕ). HaveMore old v.items (IsClash a clock (take (i + 1) list))) (sym w.places-is)
          (clash_skip a clock list i last within old mid (sym c.clashes.ensures ∙ w.if-clashes.false) c.loop-last.invariant)
    ]
