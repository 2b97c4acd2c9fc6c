-- Small functions, and a program of each, to read the definitions by.
use Rattle.std.specs.Prelude.{ℕ, ◌≡◌, [], ◌∷◌, Some, None, false, true}
use Rattle.types.specs.declared.value.ValType.TheVariants.{I32, I64}
use Rattle.types.specs.declared.operators.AccessWidth.TheVariants as access
use Rattle.types.specs.declared.operators.MemArg.{MemArg}
use Rattle.types.specs.declared.instr.PlainInstr.{PlainInstr}
use Rattle.types.specs.declared.instr.PlainInstr.TheVariants as plain
use Rattle.types.specs.declared.parts.FuncType.{FuncType}
use Rattle.types.specs.declared.value.Value.TheVariants as values
use Rattle.types.specs.declared.outcome.Outcome.{Outcome}
use Rattle.types.specs.declared.outcome.Outcome.TheVariants.{Done}
use Rattle.types.specs.declared.event.Event.TheVariants.{Store}
use Rattle.types.specs.declared.event.Reply.TheVariants as replies
use Rattle.types.specs.Nesting.{Code, Empty, Then, BlockThen, IfThen, IfElseThen}
use Rattle.interp_machine.specs.Program.{Program, Function}
use Rattle.interp_machine.specs.State.{State, At, Over, start_in, gone_times, wanted, replied}

abbrev pub const : ℕ → PlainInstr
const n = plain.I32Const n

-- A program of one function without parameters, with one result of type i32, and its start.
abbrev pub one_type : FuncType
one_type = record { params = []; results = I32 ∷ [] }

abbrev pub one_function : Code → Function
one_function code = record { locals = []; code = code }

abbrev pub program_with : Code → Program
program_with code = record {
  types = one_type ∷ [];
  functions = 0 ∷ [];
  imported = 0;
  bodies = one_function code ∷ [];
  table = [];
  shared = true;
}

abbrev pub start_with : Code → State
start_with code = At (start_in one_type (one_function code) [] [])

-- if (n) { nop } else { nop }; 7
abbrev pub two_arms : ℕ → Code
two_arms n = Then (const n) (IfElseThen None (Then plain.Nop Empty) (Then plain.Nop Empty) (Then (const 7) Empty))

-- if (n) { nop }; 7
abbrev pub one_arm : ℕ → Code
one_arm n = Then (const n) (IfThen None (Then plain.Nop Empty) (Then (const 7) Empty))

-- block { br 0 }; 7
abbrev pub branch_out : Code
branch_out = BlockThen None (Then (plain.Br 0) Empty) (Then (const 7) Empty)

-- A function that calls itself.
abbrev pub calls_itself : Code
calls_itself = Then (plain.Call 0) Empty

-- i64.store 4 0x1122334455667788; 0
abbrev pub no_offset : MemArg
no_offset = record { align = 3; offset = 0 }

abbrev pub two_word_store : Code
two_word_store =
    Then (const 4) (Then (plain.I64Const 0x1122334455667788)
    (Then (plain.Store (access.Whole I64) no_offset) (Then (const 0) Empty)))

-- A program of three functions, of which the second gives 42 and the third has another type, and a table of three
-- places: the second function, the third one, and an empty one. The first function calls the place of a number.
abbrev pub no_type : FuncType
no_type = record { params = []; results = [] }

abbrev pub calls_place_of : ℕ → Code
calls_place_of i = Then (const i) (Then (plain.CallIndirect 0) Empty)

abbrev pub with_table : ℕ → Program
with_table i = record {
  types = one_type ∷ (no_type ∷ []);
  functions = 0 ∷ (0 ∷ (1 ∷ []));
  imported = 0;
  bodies = one_function (calls_place_of i) ∷ (one_function (Then (const 42) Empty) ∷ (one_function Empty ∷ []));
  table = Some 1 ∷ (Some 2 ∷ (None ∷ []));
  shared = false;
}

-- What a small function comes to by so many units.
abbrev pub CostsWith : ℕ → Program → Code → Outcome → Type 0
CostsWith units p code outcome = gone_times units p (start_with code) ≡ Over outcome

abbrev pub Costs : ℕ → Code → Outcome → Type 0
Costs units code outcome = CostsWith units (program_with code) code outcome

abbrev pub gives : ℕ → Outcome
gives n = Done (Some (values.I32 n))

-- The store over two words: where it wants its first part, where its second, and behind both.
abbrev pub at_low : State
at_low = gone_times 2 (program_with two_word_store) (start_with two_word_store)

abbrev pub at_high : State
at_high = replied (program_with two_word_store) at_low replies.Done

abbrev pub behind_both : State
behind_both = replied (program_with two_word_store) at_high replies.Done

abbrev pub WantsStore : State → ℕ → ℕ → ℕ → ℕ → Type 0
WantsStore state addr bytes end number = wanted (program_with two_word_store) state ≡ Some (Store addr bytes end number)
