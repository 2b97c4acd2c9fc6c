-- Whether types are the same (Core specification 1.0, sections 2.3.1 and 2.3.3).
use Rattle.std.specs.Prelude.{List, [], ◌∷◌, Bool, true, false, ◌&&◌}
use Rattle.types.specs.declared.value.ValType.{ValType}
use Rattle.types.specs.declared.value.ValType.TheVariants.{I32, I64}
use Rattle.types.specs.declared.parts.FuncType.{FuncType}

abbrev pub is_type : ValType → ValType → Bool
is_type I32 I32 = true
is_type I32 I64 = false
is_type I64 I32 = false
is_type I64 I64 = true

abbrev pub are_types : List ValType → List ValType → Bool
are_types [] [] = true
are_types [] (u ∷ us) = false
are_types (t ∷ ts) [] = false
are_types (t ∷ ts) (u ∷ us) = is_type t u && are_types ts us

-- A function type takes these types and gives these.
abbrev pub has_type : FuncType → List ValType → List ValType → Bool
has_type t params results = are_types t.params params && are_types t.results results
