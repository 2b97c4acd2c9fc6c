use Rattle.std.proofs.Common.{length, sym, ◌∙◌, ap}
use Rattle.interp.proofs.kept.Kept.copy.Goals as goal

pub returns-clause-same : goal.returns-clause-same
returns-clause-same c = λ s is. record {
  function = is.function;
  pc = is.pc;
  base = is.base;
  operands = is.operands;
  results = is.results;
  values = c.in_ok-copied.ensures.items ∙ (c.as_slice.ensures.value ∙ is.values);
  globals = c.in_ok-copied-2.ensures.items ∙ (c.as_slice-2.ensures.value ∙ is.globals);
  callers = c.in_ok-copied-3.ensures.items ∙ (c.as_slice-3.ensures.value ∙ is.callers);
  progress = is.progress;
}

pub returns-clause-room : goal.returns-clause-room
returns-clause-room c = record {
  values = c.in_ok-copied.ensures.room ∙ ap length (sym c.in_ok-copied.ensures.items);
  globals = c.in_ok-copied-2.ensures.room ∙ ap length (sym c.in_ok-copied-2.ensures.items);
  callers = c.in_ok-copied-3.ensures.room ∙ ap length (sym c.in_ok-copied-3.ensures.items);
}
