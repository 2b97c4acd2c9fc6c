-- What is known of an open block and its operands, and what an instruction does to it or why it is refused.
use Rattle.std.specs.Prelude.{◌≡◌, ℕ, List, [], ◌∷◌, ◌++◌, map, reverse, Option, Some, None, Bool, true, false, Result}
use Rattle.std.specs.Prelude.{MatchResult}
use Rattle.std.specs.Bool.{⊤}
use Rattle.std.specs.List.{slice_get, All}
use Rattle.types.specs.declared.value.ValType.{ValType}
use Rattle.types.specs.declared.instr.PlainInstr.{PlainInstr}
use Rattle.validate_typing.specs.declared.target.Target.{Target}
use Rattle.validate_typing.specs.Context.{Context}
use Rattle.validate_typing.specs.Typing.{results_of, Moves, Fits}
use Rattle.validate_typing.specs.Placed.{FlatLabel, label, types_of, labels_of, goes_on, IsRow}
use Rattle.validate_instructions.specs.declared.block.Flow.{Flow}
use Rattle.validate_instructions.specs.declared.block.Flow.TheVariants.{Live, Idle, Free}
use Rattle.validate_instructions.specs.declared.block.BlockLabel.{BlockLabel}
use Rattle.validate_instructions.specs.declared.block.OpenBlock.{OpenBlock}
use Rattle.validate_instructions.specs.declared.problem.Problem.{Problem}
use Rattle.validate_instructions.specs.declared.problem.Problem.TheVariants as problems
use Rattle.validate_typing.specs.declared.fault.Fault.TheVariants as faults
use Rattle.validate_instructions.specs.declared.scope.Scope.{Scope}
use Rattle.validate_instructions.specs.Scope.{context_of}
use Rattle.validate_instructions.specs.Kinds.{kind_of, are_labels}

abbrev pub is_live : Flow → Bool
is_live Live = true
is_live Idle = false
is_live Free = false

-- A type fits what is known of an operand.
abbrev pub Matches : Option ValType → ValType → Type 0
Matches None t = ⊤
Matches (Some k) t = k ≡ t

-- The operands of a block, the topmost first, may have these types. Below those of a free block any others may stand.
abbrev pub MayHave : Flow → List (Option ValType) → List ValType → Type 0
MayHave Free [] ts = ⊤
MayHave Live [] ts = ts ≡ []
MayHave Idle [] ts = ts ≡ []
MayHave flow (k ∷ ks) [] = ⊥
MayHave flow (k ∷ ks) (t ∷ ts) = Matches k t × MayHave flow ks ts

abbrev pub Known : OpenBlock → List ValType → Type 0
Known block ts = MayHave block.flow (reverse block.operands.items) ts

-- The label of a block as the table has it.
abbrev pub as_label : BlockLabel → FlatLabel
as_label l = label l.to l.height (results_of l.carries)

abbrev pub label_of : OpenBlock → FlatLabel
label_of block = as_label block.shape.label

-- The labels at a place: of the innermost block and of those around it, which are kept with the innermost last.
abbrev pub labels_at : OpenBlock → List OpenBlock → List FlatLabel
labels_at block outer = map label_of (block ∷ reverse outer)

-- This block is the innermost of some, and these are the blocks around it.
abbrev pub IsInnermost : OpenBlock → List OpenBlock → List OpenBlock → Type 0
IsInnermost block around blocks = reverse blocks ≡ block ∷ reverse around

-- Operands of these types were taken from the block: `known` leads from what is left back to what was there, `kept`
-- onward.
pub record Takes (ts : List ValType) (old new : OpenBlock) : Type 0 where
  pub shape : new.shape ≡ old.shape
  pub flow : new.flow ≡ old.flow
  pub known : (us : List ValType) → Known new us → Known old (ts ++ us)
  pub kept : (us : List ValType) → Known old (ts ++ us) → Known new us

-- Operands of these types were put into the block.
pub record Puts (ts : List ValType) (old new : OpenBlock) : Type 0 where
  pub shape : new.shape ≡ old.shape
  pub flow : new.flow ≡ old.flow
  pub known : (us : List ValType) → Known new us → (below : List ValType) × (us ≡ ts ++ below) × Known old below
  pub kept : (us : List ValType) → Known old us → Known new (ts ++ us)

-- An operand of which this is known was taken from the block.
pub record TakesAny (kind : Option ValType) (old new : OpenBlock) : Type 0 where
  pub shape : new.shape ≡ old.shape
  pub flow : new.flow ≡ old.flow
  pub known : (t : ValType) (us : List ValType) → Matches kind t → Known new us → Known old (t ∷ us)
  pub kept : (t : ValType) (us : List ValType) → Known old (t ∷ us) → Matches kind t × Known new us

-- An operand of which this is known was put into the block.
pub record PutsAny (kind : Option ValType) (old new : OpenBlock) : Type 0 where
  pub shape : new.shape ≡ old.shape
  pub flow : new.flow ≡ old.flow
  pub known : (us : List ValType) → Known new us → (t : ValType) × (below : List ValType) × (us ≡ t ∷ below)
      × Matches kind t × Known old below
  pub kept : (t : ValType) (us : List ValType) → Matches kind t → Known old us → Known new (t ∷ us)

-- Operands of some types were taken, and of others put.
pub record Moved (takes gives : List ValType) (old new : OpenBlock) : Type 0 where
  pub shape : new.shape ≡ old.shape
  pub flow : new.flow ≡ old.flow
  pub known : (us : List ValType) → Known new us → (ts : List ValType) × Known old ts × Moves takes gives ts us
  pub kept : (ts us : List ValType) → Known old ts → Moves takes gives ts us → Known new us

-- Operands of these types can't be taken, whatever is known of the block's.
abbrev pub Lacks : List ValType → OpenBlock → Problem → Type 0
Lacks ts old e = (e ≡ problems.Wrong faults.TypeMismatch) × ((us : List ValType) → Known old (ts ++ us) → ⊥)

-- No operand can be taken.
abbrev pub LacksAny : OpenBlock → Problem → Type 0
LacksAny old e = (e ≡ problems.Wrong faults.TypeMismatch) × ((t : ValType) (us : List ValType) → Known old (t ∷ us) → ⊥)

-- The same where others are put afterwards, for which memory may run out.
abbrev pub CantMove : List ValType → OpenBlock → Problem → Type 0
CantMove ts old problems.OutOfMemory = ⊤
CantMove ts old (problems.Wrong kind) = (kind ≡ faults.TypeMismatch) × ((us : List ValType) → Known old (ts ++ us) → ⊥)

-- What taking operands of these types answers.
abbrev pub Taking : List ValType → OpenBlock → OpenBlock → Result (Unit {0}) Problem → Type 0
Taking ts old new r = MatchResult r (λ _. Takes ts old new) (Lacks ts old)

-- What putting them answers: memory may run out.
abbrev pub Putting : List ValType → OpenBlock → OpenBlock → Result (Unit {0}) Problem → Type 0
Putting ts old new r = MatchResult r (λ _. Puts ts old new) (λ e. e ≡ problems.OutOfMemory)

-- The same of an operand of which this is known.
abbrev pub PuttingAny : Option ValType → OpenBlock → OpenBlock → Result (Unit {0}) Problem → Type 0
PuttingAny kind old new r = MatchResult r (λ _. PutsAny kind old new) (λ e. e ≡ problems.OutOfMemory)

-- What taking operands and then putting others answers.
abbrev pub Moving : List ValType → List ValType → OpenBlock → OpenBlock → Result (Unit {0}) Problem → Type 0
Moving takes gives old new r = MatchResult r (λ _. Moved takes gives old new) (CantMove takes old)

-- An instruction fits between what is known before it and after it, and these are its targets. From what is known
-- before it leads `kept` onward.
pub record Checked (c : Context) (labels : List FlatLabel) (op : PlainInstr) (old new : OpenBlock)
    (targets : List Target) : Type 0 where
  pub shape : new.shape ≡ old.shape
  pub live : is_live new.flow ≡ goes_on op (is_live old.flow)
  pub fits : (us : List ValType) → Known new us → (ts : List ValType) × Known old ts × Fits c (types_of labels) op ts us
  pub row : IsRow labels (labels_of op) targets
  pub kept : (ts us : List ValType) → Known old ts → Fits c (types_of labels) op ts us → Known new us

-- An instruction without targets fits, whatever the labels are.
abbrev pub CheckedInside : Context → PlainInstr → OpenBlock → OpenBlock → Type 0
CheckedInside c op old new = (labels : List FlatLabel) → Checked c labels op old new []

-- An instruction that names nothing fits anywhere.
abbrev pub CheckedAnywhere : PlainInstr → OpenBlock → OpenBlock → Type 0
CheckedAnywhere op old new = (c : Context) → CheckedInside c op old new

-- Why an instruction is refused: memory ran out, or it fits nothing of which all this is known before it.
abbrev pub Refused : Context → List FlatLabel → PlainInstr → OpenBlock → Problem → Type 0
Refused c labels op old problems.OutOfMemory = ⊤
Refused c labels op old (problems.Wrong kind) =
    (kind ≡ kind_of c (types_of labels) op) × ((ts us : List ValType) → Known old ts → Fits c (types_of labels) op ts us
    → ⊥)

abbrev pub RefusedInside : Context → PlainInstr → OpenBlock → Problem → Type 0
RefusedInside c op old e = (labels : List FlatLabel) → Refused c labels op old e

abbrev pub RefusedAnywhere : PlainInstr → OpenBlock → Problem → Type 0
RefusedAnywhere op old e = (c : Context) → RefusedInside c op old e

-- The same of one that asks for no memory.
abbrev pub CantStandInside : Context → PlainInstr → OpenBlock → Problem → Type 0
CantStandInside c op old e = (e ≡ problems.Wrong faults.TypeMismatch) × RefusedInside c op old e

abbrev pub CantStand : PlainInstr → OpenBlock → Problem → Type 0
CantStand op old e = (e ≡ problems.Wrong faults.TypeMismatch) × RefusedAnywhere op old e

-- What a label carries.
abbrev pub Carry : List FlatLabel → List ValType → ℕ → Type 0
Carry labels carried k = slice_get (types_of labels) k ≡ Some carried

-- All of these labels are there, and carry what this one does.
abbrev pub CarryAlike : List FlatLabel → List ℕ → BlockLabel → Type 0
CarryAlike labels ks l = All (Carry labels (results_of l.carries)) ks

-- Of these labels one isn't there, or carries something else.
abbrev pub Differs : List FlatLabel → List ℕ → List ValType → Problem → Type 0
Differs labels ks carried problems.OutOfMemory = ⊤
Differs labels ks carried (problems.Wrong kind) =
    (are_labels (types_of labels) ks ≡ true → kind ≡ faults.TypeMismatch)
    × (All (Carry labels carried) ks → ⊥)

-- The same, something else than this one.
abbrev pub DifferFrom : List FlatLabel → List ℕ → BlockLabel → Problem → Type 0
DifferFrom labels ks l = Differs labels ks (results_of l.carries)

-- That there are such labels, or the fault.
abbrev pub NeedsLabels : List FlatLabel → List ℕ → Result (Unit {0}) Problem → Type 0
NeedsLabels labels ks r = MatchResult r (λ _. are_labels (types_of labels) ks ≡ true)
    (λ e. (e ≡ problems.Wrong faults.UnknownLabel) × (are_labels (types_of labels) ks ≡ false))

-- What a check answers.
abbrev pub Checks : Context → List FlatLabel → PlainInstr → OpenBlock → OpenBlock → List Target
    → Result (Unit {0}) Problem → Type 0
Checks c labels op old new targets r =
    MatchResult r (λ _. Checked c labels op old new targets) (Refused c labels op old)

abbrev pub ChecksInside : Context → PlainInstr → OpenBlock → OpenBlock → Result (Unit {0}) Problem → Type 0
ChecksInside c op old new r = MatchResult r (λ _. CheckedInside c op old new) (RefusedInside c op old)

abbrev pub ChecksAnywhere : PlainInstr → OpenBlock → OpenBlock → Result (Unit {0}) Problem → Type 0
ChecksAnywhere op old new r = MatchResult r (λ _. CheckedAnywhere op old new) (RefusedAnywhere op old)

-- The same with the labels at the place, in the code of a body.
abbrev pub ChecksAt : Scope → List OpenBlock → PlainInstr → OpenBlock → OpenBlock → List Target →
    Result (Unit {0}) Problem → Type 0
ChecksAt scope outer op old new targets r = Checks (context_of scope) (labels_at old outer) op old new targets r

-- The same of one that asks for no memory.
abbrev pub ChecksOutrightInside : Context → PlainInstr → OpenBlock → OpenBlock → Result (Unit {0}) Problem → Type 0
ChecksOutrightInside c op old new r = MatchResult r (λ _. CheckedInside c op old new) (CantStandInside c op old)

abbrev pub ChecksOutright : PlainInstr → OpenBlock → OpenBlock → Result (Unit {0}) Problem → Type 0
ChecksOutright op old new r = MatchResult r (λ _. CheckedAnywhere op old new) (CantStand op old)

-- Of one that is never refused.
abbrev pub ChecksAlways : PlainInstr → OpenBlock → OpenBlock → Result (Unit {0}) Problem → Type 0
ChecksAlways op old new r = MatchResult r (λ _. CheckedAnywhere op old new) (λ _. ⊥)
