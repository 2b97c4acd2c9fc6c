use Rattle.std.proofs.Common.{◌≡◌, [], map, replicate}
use Rattle.std.specs.Global.{Vec}
use Rattle.race_history.specs.declared.lasts.Last.{Last}
use Rattle.race_history.proofs.lasts.Lasts.new.Given as goal

abbrev pub invariant-loop : goal.invariant-loop
invariant-loop l = map (λ (v : Vec Last). v.items) l.all.items ≡ replicate l.counter []
