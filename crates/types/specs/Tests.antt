-- The tests by which parts are found to make a module. That each holds exactly where its fact does is proved.
use Rattle.std.specs.Prelude.{ℕ, ◌+◌, if◌then◌else◌, List, [], ◌∷◌, length, count_by, Bool, true, false, ◌&&◌, nat_le}
use Rattle.std.specs.Prelude.{nat_lt, nat_eq, Option, Some, None}
use Rattle.std.specs.List.{list_all, zip}
use Rattle.types.specs.declared.instr.Instr.{Instr}
use Rattle.types.specs.declared.instr.Instr.TheVariants as instrs
use Rattle.types.specs.declared.parts.Limits.{Limits}
use Rattle.types.specs.declared.parts.FuncType.{FuncType}
use Rattle.types.specs.declared.parts.ImportDesc.{ImportDesc}
use Rattle.types.specs.declared.parts.ImportDesc.TheVariants as imports
use Rattle.types.specs.declared.parts.Body.{Body}
use Rattle.types.specs.declared.parts.Parts.{Parts}
use Rattle.types.specs.Within.{param_count, is_func}
use Rattle.types.specs.declared.limits.TheConstants.{MOST_PAGES, MOST_ITEMS, MOST_FUNCTIONS, MOST_ELEMENTS, MOST_PARAMS}
use Rattle.types.specs.declared.limits.TheConstants.{MOST_LOCALS, MOST_NESTED}
use Rattle.types.specs.declared.limits.TheConstants.{MOST_MODULE_BYTES}

-- The open blocks at a place of an expression are listed with the innermost first; the outermost is the whole
-- expression. Of each it is kept whether an else may come: in an if that has had none.

-- A further block inside the innermost one.
abbrev pub opened : Bool → List Bool → Option (List Bool)
opened o [] = None
opened o (out ∷ opens) = if nat_lt (length opens) MOST_NESTED then Some (o ∷ (out ∷ opens)) else None

-- An else in the innermost one.
abbrev pub divided : List Bool → Option (List Bool)
divided [] = None
divided (false ∷ opens) = None
divided (true ∷ opens) = Some (false ∷ opens)

-- An end of the innermost one.
abbrev pub ended : List Bool → Option (List Bool)
ended [] = None
ended (o ∷ opens) = Some opens

-- Any other instruction.
abbrev pub kept : List Bool → Option (List Bool)
kept [] = None
kept (o ∷ opens) = Some (o ∷ opens)

-- The open blocks behind an instruction, where it may stand there.
abbrev pub opens_behind : List Bool → Instr → Option (List Bool)
opens_behind opens (instrs.Block t) = opened false opens
opens_behind opens (instrs.Loop t) = opened false opens
opens_behind opens (instrs.If t) = opened true opens
opens_behind opens instrs.Else = divided opens
opens_behind opens instrs.End = ended opens
opens_behind opens (instrs.Plain op) = kept opens

-- Whether code ends all the open blocks with its last instruction.
abbrev pub closes : Option (List Bool) → List Instr → Bool
closes None code = false
closes (Some opens) [] = nat_eq (length opens) 0
closes (Some opens) (i ∷ code) = closes (opens_behind opens i) code

abbrev pub is_expression : List Instr → Bool
is_expression code = closes (Some (false ∷ [])) code

abbrev pub is_type_within : FuncType → Bool
is_type_within t = nat_le (length t.params) MOST_PARAMS && nat_le (length t.results) MOST_PARAMS

abbrev pub is_table_within : Limits → Bool
is_table_within l = nat_le l.min MOST_ELEMENTS

abbrev pub is_max_within : Option ℕ → Bool
is_max_within None = true
is_max_within (Some m) = nat_le m MOST_PAGES

abbrev pub is_memory_within : Limits → Bool
is_memory_within l = nat_le l.min MOST_PAGES && is_max_within l.max

abbrev pub is_desc_within : ImportDesc → Bool
is_desc_within (imports.Func f) = true
is_desc_within (imports.Table l) = is_table_within l
is_desc_within (imports.Memory l) = is_memory_within l
is_desc_within (imports.Global g) = true

abbrev pub is_body_within : List FuncType → ℕ → Body → Bool
is_body_within types index body = nat_le (param_count types index + length body.locals) MOST_LOCALS

abbrev pub has_few_items : Parts → Bool
has_few_items m =
    nat_le (length m.types) MOST_ITEMS && nat_le (length m.imports) MOST_ITEMS && nat_le
    (count_by (λ i. is_func i.desc) m.imports + length m.functions) MOST_FUNCTIONS
    && nat_le (length m.tables) MOST_ITEMS && nat_le (length m.memories) MOST_ITEMS && nat_le (length m.globals)
    MOST_ITEMS && nat_le (length m.exports) MOST_ITEMS
    && nat_le (length m.elements) MOST_ITEMS && nat_le (length m.data) MOST_ITEMS
    && nat_le m.length MOST_MODULE_BYTES

abbrev pub has_items_within : Parts → Bool
has_items_within m =
    list_all is_type_within m.types && list_all (λ i. is_desc_within i.desc) m.imports && list_all is_table_within
    m.tables
    && list_all is_memory_within m.memories && list_all (λ e. nat_le (length e.functions) MOST_FUNCTIONS) m.elements

abbrev pub has_bodies_within : Parts → Bool
has_bodies_within m =
    nat_eq (length m.functions) (length m.bodies) && list_all (λ f. is_body_within m.types f.0 f.1)
    (zip m.functions m.bodies)

abbrev pub has_nested_code : Parts → Bool
has_nested_code m =
    list_all (λ g. is_expression g.init) m.globals && list_all (λ e. is_expression e.offset) m.elements
    && list_all (λ d. is_expression d.offset) m.data && list_all (λ b. is_expression b.code) m.bodies

abbrev pub is_module : Parts → Bool
is_module m = has_few_items m && has_items_within m && has_bodies_within m && has_nested_code m
