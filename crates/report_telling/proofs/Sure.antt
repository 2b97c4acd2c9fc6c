-- Where it is said that every state can end, and that every fair run does.
use Rattle.std.proofs.Common.{◌≡◌, ◌↔◌, Bool, true, Some, subst}
use Rattle.search_reach.specs.declared.liveness.Liveness.{Liveness}
use Rattle.search_reach.specs.declared.search.Verdict.TheVariants as verdicts
use Rattle.search_endings.specs.Endings.{Ending}
use Rattle.search_reach.specs.declared.ending.Ended.{Ended}
use Rattle.report_telling.specs.Complete.{EndsForSure, IsSure}

-- It is sure where what is known says so.
pub sure_where_known : (all : Ended Ending) (l : Liveness) (b : Bool) → all.verdict ≡ verdicts.All → all.liveness ≡ Some l
    → (b ≡ true) ↔ EndsForSure l → (b ≡ true) ↔ IsSure all
sure_where_known all l b is_all is known = (
  λ yes. record { are_all = is_all; live = (l, is, known.0 yes) },
  λ is_sure. let there = is_sure.live.1 in let same : is_sure.live.0 ≡ l = cc in known.1 (subst EndsForSure same is_sure.live.2),
)
