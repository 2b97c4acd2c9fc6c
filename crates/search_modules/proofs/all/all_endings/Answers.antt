use Rattle.std.proofs.lemmas.Result.{IfOk-weaker}
use Rattle.search_settled.proofs.Laws.{if-some}
use Rattle.search_settled.specs.Next.{StandsForState}
use Rattle.search_modules.specs.Liveness.{is_same_state}
use Rattle.search_modules.specs.Moved.{threads, IsStuck}
use Rattle.search_modules.proofs.Finding.{every_by, every_within_by, sound_by, sought_by, lost_by}
use Rattle.search_modules.proofs.Living.{counted_by, says_by}
use Rattle.search_modules.proofs.all.all_endings.Goals as goal

pub returns-clause-found : goal.returns-clause-found
returns-clause-found g c =
    let s = c.in_ok-searched.searched in
    let is = c.in_ok-searched.ensures in
    let r = c.args.request.now in
    IfOk-weaker c.search_all.result _ _ (λ ended found.
    record {
      all = λ verdict. every_by r.parts r.name r.args s is.call c.args.dump is.dump ended.endings.keys is.names (found.all verdict);
      sound = sound_by r.parts r.name r.args s is.call c.args.dump is.dump ended.endings.keys found.sound;
      bound = found.bound;
      gives_up = λ verdict. lost_by r.parts s r.name r.args is.call is.worker (found.gives_up verdict);
      told = found.told;
    }) c.search_all.ensures.found

pub returns-clause-paths : goal.returns-clause-paths
returns-clause-paths g c = c.search_all.ensures.paths

pub returns-clause-ways : goal.returns-clause-ways
returns-clause-ways g c =
    let s = c.in_ok-searched.searched in
    IfOk-weaker c.search_all.result _ _ (λ ended ways.
    record { searched = s; call = c.in_ok-searched.ensures.call; dump_is = c.in_ok-searched.ensures.dump; ways = ways }) c.search_all.ensures.ways

pub returns-clause-count : goal.returns-clause-count
returns-clause-count g c =
    IfOk-weaker c.search_all.result _ _ (λ ended count. counted_by is_same_state (λ s. StandsForState (threads s)) (λ s c n x. Unit {0}) IsStuck
    c.in_ok-searched.searched c.args.request.now ended.states c.in_ok-searched.ensures.call count)
    c.search_all.ensures.count

pub returns-clause-live : goal.returns-clause-live
returns-clause-live g c =
    IfOk-weaker c.search_all.result _ _ (λ ended live. says_by is_same_state (λ s. StandsForState (threads s)) (λ s c n x. Unit {0}) IsStuck
    c.in_ok-searched.searched c.args.request.now c.in_ok-searched.ensures.call c.args.dump
    c.in_ok-searched.ensures.dump ended.states ended.verdict ended.liveness live)
    c.search_all.ensures.live

pub returns-clause-seeks : goal.returns-clause-seeks
returns-clause-seeks g c =
    IfOk-weaker c.search_all.result _ _ (λ ended seeks. sought_by (g.Q.Seeks.sought c.args.plan.now.sought) ended.verdict ended.endings.keys seeks)
    c.search_all.ensures.seeks

pub returns-clause-levels : goal.returns-clause-levels
returns-clause-levels g c =
    let s = c.in_ok-searched.searched in
    let is = c.in_ok-searched.ensures in
    let r = c.args.request.now in
    IfOk-weaker c.search_all.result _ _ (λ ended levels. if-some _ _
    (λ n has. every_within_by r.parts r.name r.args s is.call c.args.dump is.dump ended.endings.keys is.names n has) ended.levels levels)
    c.search_all.ensures.levels
