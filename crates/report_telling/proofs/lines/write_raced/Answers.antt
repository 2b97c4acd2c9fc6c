use Rattle.std.proofs.Common.{[], ◌++◌, refl, sym, subst}
use Rattle.std.proofs.KnownBytes.{Appends-nil}
use Rattle.replay_forms.proofs.Written.{appends_then}
use Rattle.report_jobs.specs.Prints.{change, changed}
use Rattle.report_telling.specs.Racing.{CanTell, IsRacedIn, SaysRaced, Tells, unkept_text}
use Rattle.report_telling.specs.declared.racing.Raced.{Raced}
use Rattle.report_telling.proofs.lines.write_raced.Goals as goal

pub write-requires : goal.write-requires
write-requires g c = subst CanTell c.in-Run.is c.requires

pub returns-in_ok-write_unkept-in-Ok-clause-tells : goal.returns-in_ok-write_unkept-in-Ok-clause-tells
returns-in_ok-write_unkept-in-Ok-clause-tells g c m raced =
    let contents = g.W.Write.contents in
    let before = contents c.args.out.now in
    let paired = contents c.write.new.out in
    let after = contents c.write_unkept.new.out in
    let is_kept = c.in-Run.is_kept in
    let pair = c.in-Ok.ensures m (subst (IsRacedIn m) c.in-Run.is raced) in
    subst (λ (x : Raced). Tells (change before after) (SaysRaced m x)) (sym c.in-Run.is) (
      pair.0 ++ unkept_text is_kept,
      appends_then before paired after pair.0 (unkept_text is_kept) pair.1 c.in_ok-write_unkept-in-Ok.ensures,
      (pair.0, pair.2, refl),
    )

pub returns-in-Untold-clause-tells : goal.returns-in-Untold-clause-tells
returns-in-Untold-clause-tells g c m raced =
    let out = changed g.W.Write.contents c.args.out.now c.args.out.now in
    subst (λ (x : Raced). Tells out (SaysRaced m x)) (sym c.in-Untold.is) ([], Appends-nil (g.W.Write.contents c.args.out.now), refl)
