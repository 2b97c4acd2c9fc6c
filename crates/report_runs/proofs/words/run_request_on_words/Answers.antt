use Rattle.std.proofs.Common.{arith}
use Rattle.report_runs.proofs.words.run_request_on_words.Goals as goal

pub overflow_mul-most : goal.overflow_mul-most
overflow_mul-most g c = let few = c.pages_max-most.type_inv in omega arith
