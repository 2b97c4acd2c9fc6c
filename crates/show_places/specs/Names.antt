-- Names of functions, as they are shown, and which of them counts.
use Rattle.std.specs.Prelude.{◌≡◌, ◌⊎◌, ◌&&◌, ℕ, List, [], length, Ok, Option, Some, None, Bool, false, nat_eq, nat_le, find, codes}
use Rattle.std.specs.Prelude.{option_map}
use Rattle.types.specs.declared.parts.Export.{Export}
use Rattle.types.specs.declared.parts.ExportDesc.{ExportDesc}
use Rattle.types.specs.declared.parts.ExportDesc.TheVariants as exported
use Rattle.binary_wire.specs.Faults.{input}
use Rattle.binary_wire.specs.Reading.{Reading, ◌>>=◌, u32_at, name_at, vector_at}
use Rattle.show_places.specs.Sections.{Part, HasFirst, HasCustom}
use Rattle.show_places.specs.Short.{short_name}
use Rattle.show_places.specs.declared.names.Named.{Named}
use Rattle.show_places.specs.declared.names.FunctionName.{FunctionName}
use Rattle.show_places.specs.declared.names.FunctionName.TheVariants as called
use Rattle.show_places.specs.declared.short.TheConstants.{MOST_NAME}

unfoldable pub named_at : Reading Named
named_at s bytes = do
  n ← u32_at s bytes
  name ← name_at s n.1
  Ok (record { function = n.0; name = short_name name.0 }, name.1)

-- The first subsection 1 of the first custom section `name` is a vector of them.
pub record AreNames (bytes : List ℕ) (names : List Named) : Type 0 where
  pub text : List ℕ
  pub functions : Part
  pub rest : List ℕ
  pub custom : HasCustom bytes (codes "name") text
  pub subsection : HasFirst (λ x. x.0 ≡ 1) (input text) text functions
  pub vector : vector_at 0xffff_ffff named_at (input functions.2) functions.2 ≡ Ok (names, rest)

-- Where there is no such subsection, or it is no such vector.
abbrev pub HasNoNames : List ℕ → Type 0
HasNoNames bytes = (names : List Named) → AreNames bytes names → ⊥

abbrev pub IsNames : List ℕ → List Named → Type 0
IsNames bytes names = AreNames bytes names ⊎ ((names ≡ []) × HasNoNames bytes)

abbrev pub is_of : ℕ → Named → Bool
is_of index named = nat_eq named.function index

abbrev pub is_function : ℕ → ExportDesc → Bool
is_function index (exported.Func n) = nat_eq n index
is_function index _ = false

-- It exports the function under a name that is shown whole.
abbrev pub exports_it : ℕ → Export → Bool
exports_it index e = is_function index e.desc && nat_le (length e.name) MOST_NAME

-- The name of the first such export of the function with this index.
abbrev pub exported_as : List Export → ℕ → Option (List ℕ)
exported_as exports index = option_map (λ e. e.name) (find (exports_it index) exports)

-- By the first name, else by the first export, else by the index.
abbrev pub IsCalledBy : Option Named → Option Export → ℕ → FunctionName → Type 0
IsCalledBy (Some n) e index (called.Named text) = text.now ≡ n.name
IsCalledBy None (Some e) index (called.Exported text) = text.now ≡ e.name
IsCalledBy None None index (called.Numbered i) = i ≡ index
IsCalledBy _ _ index _ = ⊥

abbrev pub IsCalled : List Named → List Export → ℕ → FunctionName → Type 0
IsCalled names exports index name = IsCalledBy (find (is_of index) names) (find (exports_it index) exports) index name
