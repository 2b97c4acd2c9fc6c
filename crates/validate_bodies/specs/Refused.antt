-- Why a body is refused.
use Rattle.std.specs.Prelude.{◌≡◌, ℕ, ◌+◌, ◌^◌, ◌≤◌, List, take, Some, Result, MatchResult}
use Rattle.std.specs.Bool.{⊤}
use Rattle.std.specs.List.{slice_get}
use Rattle.types.specs.declared.instr.Instr.{Instr}
use Rattle.validate_typing.specs.declared.fault.Fault.{Fault}
use Rattle.validate_typing.specs.declared.fault.ValidFault.{ValidFault}
use Rattle.validate_typing.specs.declared.fault.ValidFault.TheVariants as validity
use Rattle.validate_typing.specs.Context.{Context}
use Rattle.validate_typing.specs.declared.target.Target.{Target}
use Rattle.validate_typing.specs.Placed.{IsTabled}
use Rattle.validate_instructions.specs.declared.problem.Problem.{Problem}
use Rattle.validate_instructions.specs.declared.problem.Problem.TheVariants.{OutOfMemory}
use Rattle.validate_instructions.specs.Kinds.{kind_at}
use Rattle.validate_bodies.specs.Reached.{Done, flat_done, labels_in, BeginsSome, BeginsNone}

-- Memory ran out: a number counts things that don't fit into it, or into the 32 bits of a target.
abbrev pub TooLarge : ℕ → Problem → Type 0
TooLarge n e = (e ≡ OutOfMemory) × (2 ^ 32 ≤ n)

-- Code breaks a rule at a place, and before it none: some typed code begins with what comes before the place, and none
-- with the instruction there behind that. The fault is that of the instruction inside the labels of the open blocks.
pub record BreaksAt (c : Context) (code : List Instr) (kind : Fault) (place : ℕ) : Type 0 where
  pub instr : Instr
  pub done : Done
  pub here : slice_get code place ≡ Some instr
  pub before : take place code ≡ flat_done done
  pub kind_is : kind ≡ kind_at c (labels_in c done) instr
  pub first : BeginsSome c code place
  pub never : BeginsNone c code (place + 1)

-- The table of branches of code.
abbrev pub HasTable : Context → List Instr → List (List Target) → Type 0
HasTable c code rows = IsTabled (record { context = c; code = code; rows = rows })

-- The code of a function is refused: memory ran out, or it breaks a rule.
abbrev pub RefusedBody : Context → List Instr → ℕ → ValidFault → Type 0
RefusedBody c code function validity.OutOfMemory = ⊤
RefusedBody c code function (validity.Outside kind) = ⊥
RefusedBody c code function (validity.InBody kind f place) = (f ≡ function) × BreaksAt c code kind place

-- What the validator of a function's code answers: its table, or why it is refused.
abbrev pub MakesTable : Context → List Instr → ℕ → Result (List (List Target)) ValidFault → Type 0
MakesTable c code function r = MatchResult r (λ table. HasTable c code table) (RefusedBody c code function)

-- The same where this table was filled.
abbrev pub FillsTable : Context → List Instr → ℕ → List (List Target) → Result (Unit {0}) ValidFault → Type 0
FillsTable c code function table r = MatchResult r (λ _. HasTable c code table) (RefusedBody c code function)
