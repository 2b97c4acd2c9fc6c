use Rattle.shared_memory_laws.proofs.OpenQuestions.{open_until_answered}
use Rattle.shared_memory_laws.proofs.a_question_is_open_until_its_answer_is_taken.Goals as goal

pub returns : goal.returns
returns c = open_until_answered
