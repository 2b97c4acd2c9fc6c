-- What the word of an access settles in the code: a reply, or a change of the word with the reply that it then has.
use Rattle.std.specs.Prelude.{ℕ, ◌≡◌, Some, None}
use Rattle.types.specs.declared.event.Event.{Event}
use Rattle.types.specs.declared.event.Reply.{Reply}
use Rattle.shared_memory_sequential.specs.Words.{IsWithLane}
use Rattle.word_row.specs.Answers.{word_answer, Makes, made_reply}
use Rattle.word_row.specs.declared.changes.Change.{Change}
use Rattle.word_row.specs.declared.changes.Next.{Next}
use Rattle.word_row.specs.declared.changes.Next.TheVariants.{Answer, Exchange}

-- A change makes one word of another, and has the reply that the event then gets.
pub record IsChange (max : ℕ) (event : Event) (word : ℕ) (change : Change) : Type 0 where
  pub makes : Makes max event word change.new
  pub reply : change.reply ≡ made_reply event word

abbrev pub IsNext : ℕ → Event → ℕ → Next → Type 0
IsNext max event word (Answer reply) = word_answer event word ≡ Some reply
IsNext max event word (Exchange change) = (word_answer event word ≡ None) × IsChange max event word change

-- The change of a lane of a word, with this reply.
abbrev pub ReplacesLane : ℕ → ℕ → ℕ → ℕ → Reply → Next → Type 0
ReplacesLane word addr width value reply next =
    (new : ℕ) × (next ≡ Exchange (record { new = new; reply = reply })) × IsWithLane word addr width value new
