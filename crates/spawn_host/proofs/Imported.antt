-- How many functions a module has.
use Rattle.std.proofs.Common.{◌≤◌, List, [], ◌∷◌, length, arith, length-append}
use Rattle.std.specs.List.{flat_map}
use Rattle.types.specs.declared.parts.Import.{Import}
use Rattle.types.specs.declared.parts.ImportDesc.{ImportDesc}
use Rattle.types.specs.declared.parts.ImportDesc.TheVariants as imports
use Rattle.types.specs.declared.parts.Parts.{Parts}
use Rattle.validate_typing.specs.Context.{function_of, imported_functions}

one_each : (d : ImportDesc) → length (function_of d) ≤ 1
one_each (imports.Func index) = omega arith
one_each (imports.Table l) = omega arith
one_each (imports.Memory l) = omega arith
one_each (imports.Global g) = omega arith

few_functions : (is : List Import) → length (flat_map (λ (i : Import). function_of i.desc) is) ≤ length is
few_functions [] = omega arith
few_functions (i ∷ is) =
    let one = one_each i.desc in
    let more = few_functions is in
    let both = length-append (function_of i.desc) (flat_map (λ (j : Import). function_of j.desc) is) in
    omega arith

pub few_imported : (m : Parts) → length (imported_functions m) ≤ length m.imports
few_imported m = few_functions m.imports
