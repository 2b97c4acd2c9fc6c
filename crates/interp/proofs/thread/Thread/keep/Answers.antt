use Rattle.std.proofs.Common.{length, sym, ◌∙◌, ap, refl}
use Rattle.interp.proofs.Resumed.{kept_of}
use Rattle.interp.proofs.thread.Thread.keep.Goals as goal

pub returns-clause-kept : goal.returns-clause-kept
returns-clause-kept c = λ w x left r s. kept_of c.args.self.now _ w x left (record {
  function = refl;
  pc = refl;
  base = refl;
  operands = refl;
  results = refl;
  values = c.in_ok-copied.ensures.items ∙ c.as_slice.ensures.value;
  globals = c.in_ok-copied-2.ensures.items ∙ c.as_slice-2.ensures.value;
  callers = c.in_ok-copied-3.ensures.items ∙ c.as_slice-3.ensures.value;
  progress = refl;
}) r s

pub returns-clause-room : goal.returns-clause-room
returns-clause-room c = record {
  values = c.in_ok-copied.ensures.room ∙ ap length (sym c.in_ok-copied.ensures.items);
  globals = c.in_ok-copied-2.ensures.room ∙ ap length (sym c.in_ok-copied-2.ensures.items);
  callers = c.in_ok-copied-3.ensures.room ∙ ap length (sym c.in_ok-copied-3.ensures.items);
}
