-- Threads that are the same but for dead locals come to rest alike, and what stands for the one stands for the other.
use Rattle.std.specs.Prelude.{◌≡◌, Option}
use Rattle.std.proofs.Common.{refl, sym, ◌∙◌, ap, subst}
use Rattle.types.specs.declared.event.Event.{Event}
use Rattle.types.specs.declared.outcome.Outcome.{Outcome}
use Rattle.validate_typing.specs.Tabled.{WithTables}
use Rattle.interp_machine.specs.Config.{Config}
use Rattle.interp_machine.specs.State.{At, Over}
use Rattle.interp.specs.declared.kept.Kept.{Kept}
use Rattle.schedule_machine.specs.Threads.{called}
use Rattle.search_threads.specs.Unlimited.{Unlimited.Missing as NoThread, Unlimited.Going as Goes}
use Rattle.search_threads.specs.Unlimited.{Unlimited.Leaving as Leaves, Unlimited.Away as Left}
use Rattle.search_runs.specs.Called.{Called, Walker}
use Rattle.live_locals.specs.Alike.{AreAlike}
use Rattle.live_locals.proofs.Both.{in_turn}
use Rattle.live_kept.specs.Clearing.{IsKeptUpToDead}
use Rattle.live_kept.specs.Walkers.{AreWalkersAlike}
use Rattle.live_kept.proofs.Walking.{walkers}
use Rattle.search_parts.specs.Walkers.{RestsAt, StandsForThread, Wants, patience}
use Rattle.search_parts.specs.Rests.{RunsOn}
use Rattle.search_parts.specs.declared.walker.RestingThread.{RestingThread}
use Rattle.search_parts.specs.declared.walker.RestingThread.TheVariants.{Missing, Going, Ended, Leaving, Away}

none_alike : (u : Walker) → AreWalkersAlike NoThread u → u ≡ NoThread
none_alike NoThread a = refl
none_alike (Goes x) a = absurd a
none_alike (Leaves o) a = absurd a
none_alike (Left o) a = absurd a

at_alike : (c : Config) (u : Walker) → AreWalkersAlike (Goes (At c)) u → (e : Config) × (u ≡ Goes (At e)) × AreAlike c e
at_alike c NoThread a = absurd a
at_alike c (Goes (At e)) a = (e, refl, a)
at_alike c (Goes (Over o)) a = absurd a
at_alike c (Leaves o) a = absurd a
at_alike c (Left o) a = absurd a

over_alike : (o : Outcome) (u : Walker) → AreWalkersAlike (Goes (Over o)) u → u ≡ Goes (Over o)
over_alike o NoThread a = absurd a
over_alike o (Goes (At e)) a = absurd a
over_alike o (Goes (Over q)) a = ap (λ x. Goes (Over x)) (sym a)
over_alike o (Leaves q) a = absurd a
over_alike o (Left q) a = absurd a

leaves_alike : (o : Outcome) (u : Walker) → AreWalkersAlike (Leaves o) u → u ≡ Leaves o
leaves_alike o NoThread a = absurd a
leaves_alike o (Goes x) a = absurd a
leaves_alike o (Leaves q) a = ap Leaves (sym a)
leaves_alike o (Left q) a = absurd a

left_alike : (o : Outcome) (u : Walker) → AreWalkersAlike (Left o) u → u ≡ Left o
left_alike o NoThread a = absurd a
left_alike o (Goes x) a = absurd a
left_alike o (Leaves q) a = absurd a
left_alike o (Left q) a = ap Left (sym a)

going_alike : (w : WithTables) (k : Kept) (o : Option Event) (c : Config) (u : Walker) → AreWalkersAlike (Goes (At c)) u → IsKeptUpToDead w k c
    → Wants w (Goes (At c)) o → StandsForThread w (Going k o) u
going_alike w k o c u a kept wants =
    let at = at_alike c u a in (
      at.0,
      at.1,
      (kept.0, kept.1, in_turn kept.0 c at.0 kept.2 at.2),
      record { wanted = λ b of. wants.wanted b of ∙ ap called (walkers b (Goes (At c)) u a).wants; event = wants.event },
    )

pub stands_alike : (w : WithTables) (s : RestingThread) (v u : Walker) → AreWalkersAlike v u → StandsForThread w s v → StandsForThread w s u
stands_alike w Missing v u a st = none_alike u (subst (λ x. AreWalkersAlike x u) st a)
stands_alike w (Going k o) v u a st =
    going_alike w k o st.0 u (subst (λ x. AreWalkersAlike x u) st.1 a) st.2 (subst (λ x. Wants w x o) st.1 st.3)
stands_alike w (Ended o) v u a st = over_alike o u (subst (λ x. AreWalkersAlike x u) st a)
stands_alike w (Leaving o) v u a st = leaves_alike o u (subst (λ x. AreWalkersAlike x u) st a)
stands_alike w (Away o) v u a st = left_alike o u (subst (λ x. AreWalkersAlike x u) st a)

pub rests_alike : (w : WithTables) (b : Called) (v u : Walker) (s : RestingThread) → AreWalkersAlike v u → RestsAt w b v s → RestsAt w b u s
rests_alike w b v u s a at =
    let r = (walkers b v u a).settles at.rested at.settles in
    record { rested = r.0; settles = r.1; stands = stands_alike w s at.rested r.0 r.2 at.stands }

pub runs_alike : (b : Called) (v u : Walker) → AreWalkersAlike v u → RunsOn b v → RunsOn b u
runs_alike b v u a = (walkers b v u a).turns patience

-- the thread that is kept is alike to the one that it stands for
pub kept_alike : (w : WithTables) (k : Kept) (o : Option Event) (v : Walker) (st : StandsForThread w (Going k o) v)
    → AreWalkersAlike (Goes (At st.2.0)) v
kept_alike w k o v st = subst (λ u. AreWalkersAlike (Goes (At st.2.0)) u) (sym st.1) st.2.2
