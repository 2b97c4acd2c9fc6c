use Rattle.std.proofs.Common.{ℕ, List, Some, ap, refl, subst, sym}
use Rattle.std.specs.Global.{Vec}
use Rattle.std.specs.Prelude.{string_bytes}
use Rattle.show_moments.specs.Lines.{WritesMoment}
use Rattle.report_looks.proofs.RunMoments.{moment_in}
use Rattle.report_looks.proofs.moments.moment_text.Goals as goal

pub returns-in-Ok : goal.returns-in-Ok
returns-in-Ok c =
    let moment = c.in_ok-moment.moment in
    let races = c.args.races.now in
    record {
      at_is = refl;
      bytes = _;
      moment = moment;
      of_run = moment_in _ _ _ _ _ _ _ refl c.requires.of_record
          (c.in_ok-moment.ensures c.in_ok-write_moment.ensures.whole);
      text = subst (λ (old : List ℕ). WritesMoment c.args.seen moment races (Some old) (Some (string_bytes c.in-Ok.text)))
          c.new-written.ensures.items
          (subst (λ (new : List ℕ). WritesMoment c.args.seen moment races (Some c.new-written.result.items) (Some new))
          (ap (λ (v : Vec ℕ). v.items) (sym c.in-Ok.ensures.ok)) c.in_ok-write_moment.ensures.says);
    }
