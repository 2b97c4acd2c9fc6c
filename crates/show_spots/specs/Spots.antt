-- A place in a module's code as text: as it is printed, and as a call that led to another one.
use Rattle.std.specs.Prelude.{ℕ, ◌==◌, ◌||◌, Bool, false, if◌then◌else◌, List, [], ◌++◌, codes, Option, Some, None}
use Rattle.std.specs.Borrow.{Bor}
use Rattle.std.specs.List.{slice_get}
use Rattle.std.specs.Fmt.{decimal, radix_digits}
use Rattle.std.specs.Str.{bytes_eq}
use Rattle.show_places.specs.declared.names.FunctionName.{FunctionName}
use Rattle.show_places.specs.declared.names.FunctionName.TheVariants as called
use Rattle.show_text.specs.Plain.{plain_text}
use Rattle.show_spots.specs.declared.spot.Spot.{Spot}

abbrev pub name_text : FunctionName → List ℕ
name_text (called.Named name) = plain_text name.now
name_text (called.Exported name) = plain_text name.now
name_text (called.Numbered index) = codes "func " ++ decimal index

abbrev pub offset_text : Option ℕ → List ℕ
offset_text None = codes ""
offset_text (Some offset) = codes "+0x" ++ radix_digits 16 false offset

abbrev pub line_text : List ℕ → ℕ → List ℕ
line_text file line = codes " " ++ plain_text file ++ codes ":" ++ decimal line

abbrev pub source_text : {S : Type 0} → (S → List ℕ) → Option (S × ℕ) → List ℕ
source_text text None = codes ""
source_text text (Some source) = line_text (text source.0) source.1

abbrev pub behind_text : Option (Bor (List ℕ)) → List ℕ
behind_text None = codes ""
behind_text (Some text) = codes " | " ++ plain_text text.now

abbrev pub spot_text : Spot → List ℕ
spot_text s = name_text s.name ++ offset_text s.offset ++ source_text (λ file. file.now) s.source ++ behind_text s.text

abbrev pub is_underscore : Option ℕ → Bool
is_underscore None = false
is_underscore (Some byte) = byte == 95

-- A name that C reserves for its implementation (ISO C, section 7.1.3), or that of the function in which each started thread
-- begins (wasi-threads).
abbrev pub is_foreign : List ℕ → Bool
is_foreign name = is_underscore (slice_get name 0) || bytes_eq name (codes "wasi_thread_start")

abbrev pub is_reserved : FunctionName → Bool
is_reserved (called.Named name) = is_foreign name.now
is_reserved (called.Exported name) = is_foreign name.now
is_reserved (called.Numbered index) = false

-- The place of a call, behind the place that it led to. What calls a program or a thread's first function isn't told.
abbrev pub call_text : Spot → List ℕ
call_text s = if is_reserved s.name then []
    else codes " < " ++ name_text s.name ++ source_text (λ file. file.now) s.source ++ behind_text s.text
