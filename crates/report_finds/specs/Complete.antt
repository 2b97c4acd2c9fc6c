-- What is found of all runs of a call.
use Rattle.std.specs.Prelude.{ℕ, ◌≡◌}
use Rattle.std.specs.Option.{IfSome}
use Rattle.spawn_host.specs.Requests.{Requested}
use Rattle.search_reach.specs.declared.ending.Ended.{Ended}
use Rattle.search_reach.specs.declared.search.Verdict.TheVariants as verdicts
use Rattle.search_endings.specs.Endings.{Ending}
use Rattle.search_modules.specs.Endings.{HasEveryEnding, HasEveryEndingWithin, AllCanEndSo}
use Rattle.search_modules.specs.Liveness.{CountsStates, SaysWhereAll}

-- They are all endings of a call, where that is said; and each is one.
abbrev pub FindsEvery : Requested → ℕ → Ended Ending → Type 0
FindsEvery q dump all = all.verdict ≡ verdicts.All → HasEveryEnding q.parts q.name q.args dump all.endings.keys

abbrev pub FindsNoOther : Requested → ℕ → Ended Ending → Type 0
FindsNoOther q dump all = AllCanEndSo q.parts q.name q.args dump all.endings.keys

-- What is found of all runs of a call: where it says so the endings are all; each is one; as many states were met as it
-- says; and what it says of whether all comes to an end. Of runs with up to so many entries as it says each has its
-- ending there.
pub record IsCompleteOf (q : Requested) (dump : ℕ) (all : Ended Ending) : Type 0 where
  pub every : FindsEvery q dump all
  pub can : FindsNoOther q dump all
  pub count : CountsStates q all.states
  pub live : SaysWhereAll q dump all.states all.verdict all.liveness
  pub within : IfSome all.levels (HasEveryEndingWithin q.parts q.name q.args dump all.endings.keys)
