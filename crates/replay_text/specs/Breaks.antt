-- Where bytes that are no record's text break off, and which fault that is.
use Rattle.std.specs.Prelude.{◌≡◌, ◌⊎◌, ℕ, ◌+◌, ◌<◌, ◌==◌, Bool, nat_le, cond, if◌then◌else◌}
use Rattle.std.specs.Prelude.{List, [], ◌∷◌, ◌++◌, length}
use Rattle.std.specs.List.{list_any}
use Rattle.replay_text.specs.Versions.{header_count}
use Rattle.replay_text.specs.Text.{record_text, IsRecord}
use Rattle.replay_text.specs.declared.version.Version.{Version}
use Rattle.replay_text.specs.declared.parts.RecordParts.{RecordParts}
use Rattle.replay_text.specs.declared.fault.RecordFault.{RecordFault}
use Rattle.replay_text.specs.declared.fault.RecordFault.TheVariants.{Header, Unreadable, EndMissing}

-- Some record's text begins with the bytes, and this is what follows there.
pub record Begins (bytes : List ℕ) : Type 0 where
  pub parts : RecordParts
  pub is_record : IsRecord parts
  pub more : List ℕ
  pub text : record_text parts ≡ bytes ++ more

abbrev pub is_feed : ℕ → Bool
is_feed b = b == 10

-- How many lines end in the bytes.
abbrev pub line_feeds : List ℕ → ℕ
line_feeds [] = 0
line_feeds (b ∷ bytes) = cond (is_feed b) 1 0 + line_feeds bytes

-- The number of the line behind the bytes, from 1 on.
abbrev pub line_behind : List ℕ → ℕ
line_behind bytes = line_feeds bytes + 1

-- The fault of the line behind the bytes in front: one of the header, or one behind it, or no line is left there.
abbrev pub fault_behind : Version → List ℕ → List ℕ → RecordFault
fault_behind version front rest =
    if nat_le (line_behind front) (header_count version) then Header (line_behind front)
    else if list_any is_feed rest then Unreadable (line_behind front)
    else EndMissing

-- The text of some record begins with the bytes in front and goes on, and none begins so and goes on with the line
-- behind them.
pub record BreaksOff (bytes : List ℕ) (fault : RecordFault) : Type 0 where
  pub front : List ℕ
  pub rest : List ℕ
  pub cut : bytes ≡ front ++ rest
  pub before : Begins front
  pub goes_on : 0 < length before.more
  pub wrong : (line more : List ℕ) → rest ≡ line ++ 10 ∷ more → ¬ Begins (front ++ (line ++ 10 ∷ []))
  pub is : fault ≡ fault_behind before.parts.version front rest

-- Bytes stand behind the text of a record.
pub record RunsOver (bytes : List ℕ) (fault : RecordFault) : Type 0 where
  pub parts : RecordParts
  pub is_record : IsRecord parts
  pub more : List ℕ
  pub cut : bytes ≡ record_text parts ++ more
  pub some : 0 < length more
  pub is : fault ≡ Unreadable (line_behind (record_text parts))

-- The fault is that of bytes which are no record's text.
abbrev pub IsFaultOf : List ℕ → RecordFault → Type 0
IsFaultOf bytes fault = BreaksOff bytes fault ⊎ RunsOver bytes fault
