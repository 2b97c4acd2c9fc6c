use Rattle.std.proofs.Common.{◌≡◌, subst, length, replicate, [], List, ℕ, map}
use Rattle.std.proofs.lemmas.List.{length-replicate}
use Rattle.show_said.specs.Lines.{line_text}
use Rattle.show_said.specs.Said.{said, texts_of, letters_of_thread}
use Rattle.show_said.proofs.Each.{behind, goes, no_line}
use Rattle.show_said.proofs.said.each_says_its_letters.Goals as goal

pub returns : goal.returns
returns c = λ ports first log thread.
    subst (λ (line : List ℕ). texts_of thread (said ports first log) ≡ map line_text (behind line (letters_of_thread ports thread log)))
    (no_line (length ports) thread) (goes ports first thread 0 (replicate (length ports) []) log (length-replicate (length ports) []))
