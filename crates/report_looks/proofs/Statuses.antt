-- What the status of races says.
use Rattle.std.proofs.Common.{◌≡◌, ℕ, List, Bool, true, false, arith}
use Rattle.types.specs.declared.parts.Parts.{Parts}
use Rattle.report_command.specs.declared.allowance.Allowance.{Allowance}
use Rattle.report_looks.specs.Raced.{status_by, IsRaceFree, IsRacy, SaysOf}

pub is_free : (allow : Allowance) (m : Parts) (saved : List ℕ) (racy : Bool) → status_by racy ≡ 0 → SaysOf allow m saved racy
    → IsRaceFree allow m saved
is_free allow m saved true e says = let no : ⊥ = omega (arith, e) in absurd no
is_free allow m saved false e says = says

pub is_racy : (allow : Allowance) (m : Parts) (saved : List ℕ) (racy : Bool) → status_by racy ≡ 1 → SaysOf allow m saved racy
    → IsRacy allow m saved
is_racy allow m saved true e says = says
is_racy allow m saved false e says = let no : ⊥ = omega (arith, e) in absurd no

pub apart : {A : Type 0} (racy : Bool) → status_by racy ≡ 2 → A
apart true e = let no : ⊥ = omega (arith, e) in absurd no
apart false e = let no : ⊥ = omega (arith, e) in absurd no
