use Rattle.std.proofs.Common.{rules, ◌≡◌, ◌≢◌, length}
use Rattle.types.specs.declared.limits.TheConstants.{MOST_VALUES}
use Rattle.interp_accesses.proofs.Paging.{size_wants, size_full}
use Rattle.interp_accesses.proofs.pages.memory_size.Goals as goal

pub returns-then-len-eq-MOST_VALUES-clause-step : goal.returns-then-len-eq-MOST_VALUES-clause-step
returns-then-len-eq-MOST_VALUES-clause-step c = let e : length c.args.state.now.values.items ≡ MOST_VALUES = search rules in
    λ w k v st. size_full w c.args.state.now _ k st c.requires e

pub returns-clause-step : goal.returns-clause-step
returns-clause-step c = let e : length c.args.state.now.values.items ≢ MOST_VALUES = search rules in λ w k v st. size_wants w c.args.state.now k st c.requires e
