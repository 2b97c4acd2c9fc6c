use Rattle.std.proofs.Common.{◌∷◌, refl, sym, ap, ◌∙◌, drop}
use Rattle.interp_accesses.proofs.operands.replace_top.Goals as goal

pub returns : goal.returns
returns c = record {
  still = refl;
  globals = refl;
  pc = refl;
  progress = refl;
  values = c.push.ensures.word ∙ ap (λ left. c.args.word ∷ drop 1 left) (sym c.pop.ensures.word);
}
