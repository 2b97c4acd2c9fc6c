use Rattle.std.proofs.Common.{[], true, refl, arith}
use Rattle.shared_memory_on_table.specs.Rule.{opened}
use Rattle.shared_memory_on_table.proofs.Seating.{seated-open}
use Rattle.locked_recorder.proofs.prepared.Prepared.new.Goals as goal

pub returns-then-limit-eq0-clause-opened : goal.returns-then-limit-eq0-clause-opened
returns-then-limit-eq0-clause-opened c = tt

pub returns-then-limit-eq0-clause-within : goal.returns-then-limit-eq0-clause-within
returns-then-limit-eq0-clause-within c = tt

pub returns-in_default-clause-opened : goal.returns-in_default-clause-opened
returns-in_default-clause-opened c = tt

pub returns-in_default-clause-within : goal.returns-in_default-clause-within
returns-in_default-clause-within c = tt

pub returns-in_default-of_words-clause-opened : goal.returns-in_default-of_words-clause-opened
returns-in_default-of_words-clause-opened c = tt

pub returns-in_default-of_words-clause-within : goal.returns-in_default-of_words-clause-within
returns-in_default-of_words-clause-within c = tt

pub of_words-requires : goal.of_words-requires
of_words-requires c =
    record { log = []; words = refl; seated = seated-open 1 (opened true) (omega arith) refl refl }
