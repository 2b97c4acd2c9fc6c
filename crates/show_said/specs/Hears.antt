-- What comes of a line and of what was said, by letters of a thread with an entry.
use Rattle.std.specs.Prelude.{◌≡◌, ℕ, List, ◌++◌}
use Rattle.show_said.specs.Lines.{lines_in, left_of}
use Rattle.show_said.specs.Said.{items}
use Rattle.show_said.specs.declared.letters.Voice.{Voice}
use Rattle.show_said.specs.declared.said.Said.{Said}

pub record Hears (voice : Voice) (letters line : List ℕ) (said : List Said) (new_line : List ℕ) (new_said : List Said)
    : Type 0 where
  pub line_is : new_line ≡ left_of line letters
  pub said_is : new_said ≡ said ++ items voice.thread voice.line (lines_in line letters)
