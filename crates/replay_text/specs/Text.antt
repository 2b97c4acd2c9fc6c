-- The text of a record, and which records there are.
use Rattle.std.specs.Prelude.{◌≡◌, ◌⊎◌, ℕ, ◌+◌, ◌*◌, ◌≤◌, true, List, [], ◌∷◌, ◌++◌, codes, length, map}
use Rattle.std.specs.Prelude.{Result, Ok, Err}
use Rattle.std.specs.List.{All}
use Rattle.std.specs.Str.{is_utf8}
use Rattle.std.specs.Fmt.{decimal}
use Rattle.types.specs.declared.outcome.ThreadReport.{ThreadReport}
use Rattle.types.specs.Values.{value_text}
use Rattle.types.specs.declared.limits.TheConstants.{MOST_LIMIT, MOST_FUEL}
use Rattle.replay_forms.specs.Texts.{hex_text, lines_text}
use Rattle.replay_text.specs.Words.{entry_words, end_words}
use Rattle.replay_text.specs.Conditions.{IsValue, IsEntry, IsReport}
use Rattle.replay_text.specs.Versions.{IsScale}
use Rattle.replay_text.specs.declared.version.Version.{Version}
use Rattle.replay_text.specs.declared.version.Version.TheVariants as versions
use Rattle.replay_text.specs.declared.parts.RecordParts.{RecordParts}
use Rattle.replay_text.specs.declared.fault.RecordFault.{RecordFault}
use Rattle.replay_text.specs.declared.fault.RecordFault.TheVariants.{NoMemory}

-- A name: its bytes by two digits each, or a dash for the empty one.
abbrev pub name_word : List ℕ → List ℕ
name_word [] = codes "-"
name_word (b ∷ bytes) = hex_text (b ∷ bytes)

-- The ends of the threads from this number on.
abbrev pub end_lines : ℕ → List ThreadReport → List (List (List ℕ))
end_lines thread [] = []
end_lines thread (report ∷ reports) = end_words thread report ∷ end_lines (thread + 1) reports

-- The lines that a version begins with, each as its words.
abbrev pub scale_lines : Version → ℕ → ℕ → ℕ → List (List (List ℕ))
scale_lines versions.One module_len threads max_pages = (codes "wathread-record" ∷ codes "1" ∷ []) ∷ []
scale_lines versions.Two module_len threads max_pages =
    (codes "wathread-record" ∷ codes "2" ∷ [])
    ∷ (codes "module" ∷ decimal module_len ∷ [])
    ∷ (codes "threads" ∷ decimal threads ∷ [])
    ∷ (codes "max-pages" ∷ decimal max_pages ∷ [])
    ∷ []

-- The lines of a record's version.
abbrev pub version_lines : RecordParts → List (List (List ℕ))
version_lines r = scale_lines r.version r.module_len r.threads r.max_pages

-- The lines of the call, and of what it may use.
abbrev pub call_lines : RecordParts → List (List (List ℕ))
call_lines r =
    (codes "invoke" ∷ name_word r.invoke ∷ [])
    ∷ (codes "args" ∷ map value_text r.args)
    ∷ (codes "fuel" ∷ decimal r.fuel ∷ [])
    ∷ (codes "limit" ∷ decimal r.limit ∷ [])
    ∷ []

-- The lines of a record before its entries.
abbrev pub header_lines : RecordParts → List (List (List ℕ))
header_lines r = version_lines r ++ call_lines r

-- The lines of a record.
abbrev pub record_lines : RecordParts → List (List (List ℕ))
record_lines r =
    header_lines r
    ++ (map entry_words r.log
    ++ (end_lines 0 r.ends
    ++ (codes "pages" ∷ decimal r.pages ∷ [])
    ∷ (codes "finish" ∷ [])
    ∷ []))

-- Every line ends with one line feed, and one space stands between two words.
abbrev pub record_text : RecordParts → List ℕ
record_text r = lines_text (record_lines r)

-- The length of a record's module, and how many threads and pages there may be.
abbrev pub HasScale : RecordParts → Type 0
HasScale r = IsScale r.version r.module_len r.threads r.max_pages

-- The numbers and the lengths of a record.
pub record HasNumbers (r : RecordParts) : Type 0 where
  pub scale : HasScale r
  pub fuel : r.fuel ≤ MOST_FUEL
  pub limit_low : 1 ≤ r.limit
  pub limit : r.limit ≤ MOST_LIMIT
  pub log : length r.log ≤ r.limit + 3 * r.threads
  pub ends_low : 1 ≤ length r.ends
  pub ends : length r.ends ≤ r.threads
  pub pages : r.pages ≤ r.max_pages

-- The ranges of a record.
pub record IsRecord (r : RecordParts) : Type 0 where
  pub invoke : is_utf8 r.invoke ≡ true
  pub bytes : All (λ b. b ≤ 255) r.invoke
  pub numbers : HasNumbers r
  pub args : All IsValue r.args
  pub log : All (IsEntry r.threads) r.log
  pub ends : All IsReport r.ends

-- Where the bytes are the text of a record, it is the one that is read, or memory ran out.
abbrev pub FindsRecord : List ℕ → Result RecordParts RecordFault → Type 0
FindsRecord bytes result =
    (r : RecordParts) → IsRecord r → bytes ≡ record_text r → (result ≡ Ok r) ⊎ (result ≡ Err NoMemory)
