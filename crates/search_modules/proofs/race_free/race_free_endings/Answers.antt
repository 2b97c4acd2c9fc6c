use Rattle.std.specs.Prelude.{◌⊎◌}
use Rattle.std.proofs.lemmas.Result.{IfOk-weaker}
use Rattle.std.proofs.Common.{subst}
use Rattle.allowed_races.specs.declared.allowed.Allowed.{Allowed}
use Rattle.search_settled.proofs.Laws.{if-some}
use Rattle.search_race_free.specs.declared.race.ThreadRace.{ThreadRace}
use Rattle.search_race_free.specs.Reduced.{StandsBefore, KeepsTouches, SomeRace}
use Rattle.search_modules.specs.Endings.{CanBeLost}
use Rattle.search_modules.specs.Liveness.{is_same_owned, CountsOwned, SaysWhereAllFree}
use Rattle.search_modules.specs.Moved.{called, threads_by, IsStuck}
use Rattle.search_modules.specs.Races.{CanRaceSo, NeverRaces, NeverWaitsTimed, WaitsTimedSo}
use Rattle.search_modules.specs.Ways.{HasWaysFreely}
use Rattle.search_modules.proofs.Finding.{every_by, sound_by, sought_by}
use Rattle.search_modules.proofs.Freely.{same_ends, lost_freely, race_by}
use Rattle.search_modules.proofs.Living.{counted_by, says_by}
use Rattle.search_modules.proofs.race_free.race_free_endings.Goals as goal

pub returns-clause-found : goal.returns-clause-found
returns-clause-found g c =
    let s = c.in_ok-searched.searched in
    let is = c.in_ok-searched.ensures in
    let r = c.args.request.now in
    IfOk-weaker c.search_race_free.result _ _ (λ free found.
    record {
      all = λ verdict. every_by r.parts r.name r.args s is.call c.args.dump is.dump free.ended.endings.keys is.names (found.all verdict);
      sound = sound_by r.parts r.name r.args s is.call c.args.dump is.dump free.ended.endings.keys (same_ends s free.ended.endings.keys found.sound);
      bound = found.bound;
      gives_up = λ verdict. subst (λ (a : Allowed). CanBeLost r.parts r.name r.args ⊎ ((race : ThreadRace) × CanRaceSo r.parts r.name r.args a race)) is.allowed
          (lost_freely r.parts s r.name r.args is.call is.worker (found.gives_up verdict));
      told = found.told;
    }) c.search_race_free.ensures.found

pub returns-clause-paths : goal.returns-clause-paths
returns-clause-paths g c = c.search_race_free.ensures.paths

pub returns-clause-ways : goal.returns-clause-ways
returns-clause-ways g c =
    let s = c.in_ok-searched.searched in
    IfOk-weaker c.search_race_free.result _ _ (λ free ways.
    subst (λ (a : Allowed). HasWaysFreely c.args.request.now a c.args.dump free.ended) c.in_ok-searched.ensures.allowed
    (record { searched = s; call = c.in_ok-searched.ensures.call; dump_is = c.in_ok-searched.ensures.dump; ways = ways })) c.search_race_free.ensures.ways

pub returns-clause-count : goal.returns-clause-count
returns-clause-count g c =
    let a = c.in_ok-searched.searched.allowed in
    IfOk-weaker c.search_race_free.result _ _
    (λ free count. subst (λ (b : Allowed). CountsOwned c.args.request.now b free.ended.states) c.in_ok-searched.ensures.allowed
    (counted_by is_same_owned (λ s. StandsBefore (threads_by a s)) (λ s. KeepsTouches (threads_by a s)) (λ s w. IsStuck s w ⊎ SomeRace (threads_by a s))
    c.in_ok-searched.searched c.args.request.now free.ended.states c.in_ok-searched.ensures.call count))
    c.search_race_free.ensures.count

pub returns-clause-live : goal.returns-clause-live
returns-clause-live g c =
    let a = c.in_ok-searched.searched.allowed in
    IfOk-weaker c.search_race_free.result _ _
    (λ free live. subst (λ (b : Allowed). SaysWhereAllFree c.args.request.now b c.args.dump free.ended.states free.ended.verdict free.ended.liveness)
    c.in_ok-searched.ensures.allowed
    (says_by is_same_owned (λ s. StandsBefore (threads_by a s)) (λ s. KeepsTouches (threads_by a s)) (λ s w. IsStuck s w ⊎ SomeRace (threads_by a s))
    c.in_ok-searched.searched c.args.request.now c.in_ok-searched.ensures.call c.args.dump
    c.in_ok-searched.ensures.dump free.ended.states free.ended.verdict free.ended.liveness live))
    c.search_race_free.ensures.live

pub returns-clause-none : goal.returns-clause-none
returns-clause-none g c =
    let r = c.args.request.now in
    IfOk-weaker c.search_race_free.result _ _ (λ free none all. subst (λ (a : Allowed). NeverRaces r.parts r.name r.args a) c.in_ok-searched.ensures.allowed
    (called c.in_ok-searched.searched, c.in_ok-searched.ensures.call, none all))
    c.search_race_free.ensures.none

pub returns-clause-untimed : goal.returns-clause-untimed
returns-clause-untimed g c =
    let r = c.args.request.now in
    IfOk-weaker c.search_race_free.result _ _
    (λ free untimed all none. subst (λ (a : Allowed). NeverWaitsTimed r.parts r.name r.args a) c.in_ok-searched.ensures.allowed
    (called c.in_ok-searched.searched, c.in_ok-searched.ensures.call, untimed all none))
    c.search_race_free.ensures.untimed

pub returns-clause-timed : goal.returns-clause-timed
returns-clause-timed g c =
    let r = c.args.request.now in
    IfOk-weaker c.search_race_free.result _ _
    (λ free timed is. subst (λ (a : Allowed). WaitsTimedSo r.parts r.name r.args a) c.in_ok-searched.ensures.allowed
    (called c.in_ok-searched.searched, c.in_ok-searched.ensures.call, timed is))
    c.search_race_free.ensures.timed

pub returns-clause-race : goal.returns-clause-race
returns-clause-race g c =
    let r = c.args.request.now in
    IfOk-weaker c.search_race_free.result _ _
    (λ free race. if-some _ _ (λ x h. subst (λ (a : Allowed). CanRaceSo r.parts r.name r.args a x) c.in_ok-searched.ensures.allowed
    (race_by r.parts c.in_ok-searched.searched r.name r.args c.in_ok-searched.ensures.call x h)) free.race race)
    c.search_race_free.ensures.race

pub returns-clause-seeks : goal.returns-clause-seeks
returns-clause-seeks g c =
    IfOk-weaker c.search_race_free.result _ _
    (λ free seeks. sought_by (g.Q.Seeks.sought c.args.plan.now.sought) free.ended.verdict free.ended.endings.keys seeks)
    c.search_race_free.ensures.seeks
