-- What the definitions say of the modules of one atomic add: which module their bytes spell, and how its runs end.
use Rattle.std.specs.Prelude.{ℕ, ◌≡◌, ◌<◌, ◌≤◌, ◌↔◌, Bool, List, [], ◌∷◌, map, codes, Option}
use Rattle.types.specs.declared.event.Entry.{Entry}
use Rattle.types.specs.declared.outcome.ThreadReport.{ThreadReport}
use Rattle.types.specs.declared.parts.Parts.{Parts}
use Rattle.shared_memory.specs.Access.{HasReached}
use Rattle.validate_typing.specs.Validity.{IsValid}
use Rattle.binary.specs.Grammar.{IsModuleText}
use Rattle.spawn_host.specs.declared.end.EndState.{EndState}
use Rattle.spawn_host.specs.RunEnds.{EndsRun}
use Rattle.report_first.specs.First.{IsFirstModule, first_parts, first_outcome, page_after}

-- The bytes spell one module, which is valid.
abbrev pub FirstModulesAreRead : Type 0
FirstModulesAreRead =
    (bytes : List ℕ) (address addend : ℕ) (m : Parts) → IsFirstModule bytes address addend
    → IsModuleText bytes m ↔ (m ≡ first_parts address addend)

abbrev pub FirstModulesAreValid : Type 0
FirstModulesAreValid = (address addend : ℕ) → IsValid (first_parts address addend)

-- One thread ran, to this outcome, and left this page.
pub record IsFirstEnd (address addend : ℕ) (end : EndState) : Type 0 where
  pub threads : map (λ (r : ThreadReport). r.outcome) end.threads.items ≡ first_outcome address ∷ []
  pub pages : end.pages ≡ 1
  pub bytes : end.bytes.items ≡ page_after address addend

-- Every run of it that has four units or more, and a log that takes an entry if it has one, ends so: over a memory in
-- which tries can be lost, and over one in which they can't.
abbrev pub FirstModulesEndSo : Type 0
FirstModulesEndSo =
    (address addend fuel : ℕ) (loses : Bool) (limit : Option ℕ) (history : List Entry) (end : EndState)
    → address < 64 → addend < 64 → 4 ≤ fuel → (HasReached limit [] → ⊥)
    → EndsRun (first_parts address addend) (codes "f") [] fuel loses limit history end → IsFirstEnd address addend end
