-- What a first look at all runs says of races.
use Rattle.std.proofs.Common.{◌≡◌, ◌∙◌, Bool, true, false, List, refl, sym, subst, true≢false}
use Rattle.allowed_races.specs.declared.allowed.Allowed.{Allowed}
use Rattle.spawn_host.specs.Requests.{Requested}
use Rattle.search_endings.specs.Endings.{Ending}
use Rattle.search_finds.specs.Finds.{IsLookedFor}
use Rattle.search_modules.specs.Endings.{HasSought}
use Rattle.search_modules.specs.Races.{NeverRaces, NeverWaitsTimed, WaitsTimedSo}
use Rattle.search_race_free.specs.declared.race.ThreadRace.{ThreadRace}
use Rattle.search_reach.specs.declared.ending.Ended.{Ended}
use Rattle.search_reach.specs.declared.search.Verdict.{Verdict}
use Rattle.search_reach.specs.declared.search.Verdict.TheVariants as verdicts
use Rattle.selection.specs.declared.sought.Sought.{Sought}
use Rattle.report_command.specs.declared.search.Search.{Search}
use Rattle.report_telling.specs.declared.racing.Racing.TheVariants.{Never, OnlyBehindTimeouts, Found, Unknown}
use Rattle.report_finds.specs.Early.{SaysSought, ends_early}
use Rattle.report_finds.specs.Racing.{AreNone, IsAsked, IsFreelyComplete, IsKnownOf, IsWhole, racing_by}

-- where every order isn't wanted, races are asked for
pub asked_found : (s : Search) (r : ThreadRace) → s.every_order ≡ false → IsAsked s (Found r)
asked_found s r every = ((λ yes. absurd (true≢false (sym yes ∙ every))), (λ is. absurd cc))

pub asked_unknown : (s : Search) → s.every_order ≡ false → IsAsked s Unknown
asked_unknown s every = ((λ yes. absurd (true≢false (sym yes ∙ every))), (λ is. absurd cc))

asked_never : (s : Search) → s.every_order ≡ false → IsAsked s Never
asked_never s every = ((λ yes. absurd (true≢false (sym yes ∙ every))), (λ is. absurd cc))

asked_behind : (s : Search) → s.every_order ≡ false → IsAsked s OnlyBehindTimeouts
asked_behind s every = ((λ yes. absurd (true≢false (sym yes ∙ every))), (λ is. absurd cc))

asked_by : (s : Search) (v : Verdict) (timed : Bool) → s.every_order ≡ false → IsAsked s (racing_by v timed)
asked_by s verdicts.All false every = asked_never s every
asked_by s verdicts.All true every = asked_behind s every
asked_by s verdicts.TooMany timed every = asked_unknown s every
asked_by s verdicts.CannotTell timed every = asked_unknown s every
asked_by s verdicts.Told timed every = asked_unknown s every
asked_by s verdicts.Sought timed every = asked_unknown s every

-- what is known by a verdict
pub known_by : (q : Requested) (may : Allowed) (v : Verdict) (timed : Bool) → (v ≡ verdicts.All → NeverRaces q.parts q.name q.args may)
    → (v ≡ verdicts.All → timed ≡ false → NeverWaitsTimed q.parts q.name q.args may)
    → (timed ≡ true → WaitsTimedSo q.parts q.name q.args may) → IsKnownOf q may (racing_by v timed)
known_by q may verdicts.All false none untimed some = (none refl, untimed refl refl)
known_by q may verdicts.All true none untimed some = (none refl, some refl)
known_by q may verdicts.TooMany timed none untimed some = tt
known_by q may verdicts.CannotTell timed none untimed some = tt
known_by q may verdicts.Told timed none untimed some = tt
known_by q may verdicts.Sought timed none untimed some = tt

none_by : (v : Verdict) (timed : Bool) → v ≡ verdicts.All → AreNone (racing_by v timed)
none_by verdicts.All false is = tt
none_by verdicts.All true is = tt
none_by verdicts.TooMany timed is = absurd cc
none_by verdicts.CannotTell timed is = absurd cc
none_by verdicts.Told timed is = absurd cc
none_by verdicts.Sought timed is = absurd cc

pub whole_by : (q : Requested) (s : Search) (may : Allowed) (all : Ended Ending) (timed : Bool) → IsFreelyComplete q may s.sought.dump all
    → IsKnownOf q may (racing_by all.verdict timed) → s.every_order ≡ false → SaysSought s all.verdict all.endings.keys
    → IsWhole q s may (record { all = all; racing = racing_by all.verdict timed; is_free = true })
whole_by q s may all timed complete known every sought = record {
  complete = complete;
  known = known;
  asked = asked_by s all.verdict timed every;
  never = λ _ is_all. none_by all.verdict timed is_all;
  sought = sought;
}

-- no race is found by a verdict
pub unfound_by : (v : Verdict) (timed : Bool) (r : ThreadRace) → racing_by v timed ≡ Found r → ⊥
unfound_by verdicts.All false r is = absurd cc
unfound_by verdicts.All true r is = absurd cc
unfound_by verdicts.TooMany timed r is = absurd cc
unfound_by verdicts.CannotTell timed r is = absurd cc
unfound_by verdicts.Told timed r is = absurd cc
unfound_by verdicts.Sought timed r is = absurd cc

-- at which endings a search ends
pub sought_as : (s : Search) (sought : Sought) (wanted : Bool) (verdict : Verdict) (endings : List Ending) → sought ≡ s.sought → wanted ≡ ends_early s
    → HasSought (λ (e : Ending). (wanted ≡ true) × IsLookedFor sought e) verdict endings → SaysSought s verdict endings
sought_as s sought wanted verdict endings sought_is wanted_is has =
    subst (λ (w : Bool). HasSought (λ (e : Ending). (w ≡ true) × IsLookedFor s.sought e) verdict endings) wanted_is
    (subst (λ (x : Sought). HasSought (λ (e : Ending). (wanted ≡ true) × IsLookedFor x e) verdict endings) sought_is has)
