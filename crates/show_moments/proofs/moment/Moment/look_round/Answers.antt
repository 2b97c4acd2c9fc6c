use Rattle.std.proofs.Common.{◌∙◌, ℕ, List, ap, refl, subst}
use Rattle.std.specs.List.{AllZip}
use Rattle.interp.specs.declared.thread.Thread.{Thread}
use Rattle.show_moments.specs.Moments.{StandsIn, bytes_of}
use Rattle.show_moments.proofs.moment.Moment.look_round.Goals as goal

pub returns-clause-round : goal.returns-clause-round
returns-clause-round c = record {
  queue = c.in_ok-keep.field-0;
  kept = refl;
  same = c.in_ok-keep.ensures;
  bytes = c.in_ok-self-2.ensures ∙ ap (λ (b : List ℕ). bytes_of b c.args.self.now.wanted) c.bytes.ensures.value;
  memory = c.in_ok-self-3.ensures.items ∙ c.bytes-2.ensures.value;
  here = subst (λ (ts : List Thread). AllZip StandsIn ts c.in_ok-self.field-0.items) c.deref.ensures.value c.in_ok-self.ensures;
}
