-- Of which runs of a module a record is, and which of its lines is the first that doesn't fit.
use Rattle.std.specs.Prelude.{ℕ, ◌≡◌, ◌+◌, ◌⊎◌, length}
use Rattle.types.specs.declared.parts.Parts.{Parts}
use Rattle.validate_module.specs.Pages.{HasPagesWithin}
use Rattle.shared_memory.specs.Memory.{Memory}
use Rattle.schedule_runs.specs.Runs.{Start}
use Rattle.spawn_host.specs.Entries.{IsUnknown, Refuses}
use Rattle.spawn_host.specs.Runs.{Beginning, start_by, opening_within}
use Rattle.replay_text.specs.declared.version.Version.{Version}
use Rattle.replay_text.specs.declared.version.Version.TheVariants as versions
use Rattle.replay_text.specs.Versions.{header_count}
use Rattle.replay_text.specs.declared.parts.RecordParts.{RecordParts}
use Rattle.replay_rules.specs.Recorded.{IsRecordedRun, IsFirstMisfit, IsFirstWrongEnd}
use Rattle.spawn_host.specs.declared.end.EndState.{EndState}
use Rattle.replay.specs.declared.fault.ReplayFault.{ReplayFault}
use Rattle.replay.specs.declared.fault.ReplayFault.TheVariants.{Line, EndLine, NoMemory}

-- The record is of a module of this length. Version 1 doesn't say how long its module is.
abbrev pub IsLengthOf : Version → Parts → ℕ → Type 0
IsLengthOf versions.One m module_len = Unit {0}
IsLengthOf versions.Two m module_len = m.length ≡ module_len

abbrev pub HasLength : Parts → RecordParts → Type 0
HasLength m r = IsLengthOf r.version m r.module_len

-- Its memory has no more pages, at first and at most, than the record says that there might be.
abbrev pub HasPages : Parts → RecordParts → Type 0
HasPages m r = HasPagesWithin r.max_pages m

abbrev pub FitsModule : Parts → RecordParts → Type 0
FitsModule m r = HasLength m r × HasPages m r

-- The line that says how many pages there might be: in version 1 the version itself.
abbrev pub pages_line : Version → ℕ
pages_line versions.One = 1
pages_line versions.Two = 4

-- The line of the name, behind those of the version. The line of the arguments stands behind it.
abbrev pub invoke_line : Version → ℕ
invoke_line versions.One = 2
invoke_line versions.Two = 5

-- What a run by a record begins with: its name is called, with its arguments and its budget, and its memory may have as
-- many pages as the record says where the module doesn't say it.
abbrev pub BeginsBy : Parts → RecordParts → Type 0
BeginsBy m r = Beginning m r.invoke r.args

abbrev pub start_of_record : (m : Parts) (r : RecordParts) → BeginsBy m r → Start
start_of_record m r b = record (start_by m r.invoke r.args r.fuel b) { opening = opening_within r.max_pages m }

-- The record is of a run of the module that ends so.
pub record IsRunOf (m : Parts) (r : RecordParts) (end : EndState) : Type 0 where
  pub length_fits : HasLength m r
  pub pages_fit : HasPages m r
  pub beginning : BeginsBy m r
  pub last : Memory
  pub recorded : IsRecordedRun (start_of_record m r beginning) r last
  pub threads : end.threads.items ≡ r.ends
  pub pages : end.pages ≡ r.pages
  pub bytes : end.bytes.items ≡ last.bytes

-- The entry at k is the first that doesn't fit; or all do, and of the end lines and the pages line that at k is the
-- first that doesn't.
abbrev pub IsMisfitAt : Parts → RecordParts → ℕ → Type 0
IsMisfitAt m r k = (b : BeginsBy m r) × IsFirstMisfit (start_of_record m r b) r k

abbrev pub IsWrongEndAt : Parts → RecordParts → ℕ → Type 0
IsWrongEndAt m r k = (b : BeginsBy m r) × IsFirstWrongEnd (start_of_record m r b) r k

-- The first line of a record's text that doesn't fit: in version 2 line 2 has the module's length; behind it comes the
-- line of the pages, then those of the name and of the arguments. Behind the header stand the entries of the log, then
-- the end lines, and behind these the pages line. No memory says nothing.
abbrev pub IsScaleFault : Parts → RecordParts → ℕ → Type 0
IsScaleFault m r line =
    ((line ≡ 2) × (HasLength m r → ⊥)) ⊎ ((line ≡ pages_line r.version) × HasLength m r × (HasPages m r → ⊥))

abbrev pub OfScale : Parts → RecordParts → ReplayFault → Type 0
OfScale m r (Line line) = IsScaleFault m r line
OfScale m r (EndLine line) = ⊥
OfScale m r NoMemory = ⊥

abbrev pub IsHeaderFault : Parts → RecordParts → ℕ → Type 0
IsHeaderFault m r line =
    IsScaleFault m r line
    ⊎ ((line ≡ invoke_line r.version) × HasLength m r × HasPages m r × IsUnknown m r.invoke)
    ⊎ ((line ≡ invoke_line r.version + 1) × HasLength m r × HasPages m r × Refuses m r.invoke r.args)

abbrev pub IsReplayFault : Parts → RecordParts → ReplayFault → Type 0
IsReplayFault m r (Line line) =
    IsHeaderFault m r line
    ⊎ ((k : ℕ) × (line ≡ header_count r.version + 1 + k) × HasLength m r × HasPages m r × IsMisfitAt m r k)
IsReplayFault m r (EndLine line) =
    (k : ℕ) × (line ≡ header_count r.version + 1 + length r.log + k) × HasLength m r × HasPages m r × IsWrongEndAt m r k
IsReplayFault m r NoMemory = Unit {0}

-- Unless memory ran out, the record is of no run of the module, however that ends.
abbrev pub IsOfNoRun : Parts → RecordParts → Type 0
IsOfNoRun m r = (end : EndState) → IsRunOf m r end → ⊥

abbrev pub ShowsNoRun : Parts → RecordParts → ReplayFault → Type 0
ShowsNoRun m r (Line line) = IsOfNoRun m r
ShowsNoRun m r (EndLine line) = IsOfNoRun m r
ShowsNoRun m r NoMemory = Unit {0}
