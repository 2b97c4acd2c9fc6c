use Rattle.shared_memory_laws.proofs.Alternating.{exchanges_alternate}
use Rattle.shared_memory_laws.proofs.every_answer_taken_answers_one_question.Goals as goal

pub returns : goal.returns
returns c = exchanges_alternate
