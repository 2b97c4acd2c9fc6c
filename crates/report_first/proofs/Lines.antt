-- From the end of a run of a module of one atomic add to what is printed of it.
use Rattle.std.proofs.Common.{◌≡◌, ℕ, ◌<◌, ◌++◌, Bool, true, false, cond, List, [], ◌∷◌, map, Option, Some, Result, Ok}
use Rattle.std.proofs.Common.{Err, ◌↔◌, refl, ◌∙◌, ap, subst, arith, append-nil}
use Rattle.std.specs.Prelude.{codes, IsErrOf}
use Rattle.std.specs.Io.KnownBytes.{Appends}
use Rattle.types.specs.declared.value.Value.TheVariants as values
use Rattle.types.specs.declared.outcome.Trap.TheVariants as traps
use Rattle.types.specs.declared.outcome.Outcome.{Outcome}
use Rattle.types.specs.declared.outcome.Outcome.TheVariants as outcomes
use Rattle.types.specs.declared.outcome.ThreadReport.{ThreadReport}
use Rattle.types.specs.declared.event.Entry.{Entry}
use Rattle.types.specs.declared.parts.Parts.{Parts}
use Rattle.spawn_host.specs.declared.end.EndState.{EndState}
use Rattle.report_lines.specs.Lines.{thread_line, pages_line, bytes_line, end_lines}
use Rattle.spawn_host.specs.RunEnds.{EndsRun}
use Rattle.report_first.specs.First.{IsFirstModule, IsNoFirstModule, is_aligned, first_outcome, first_parts, page_after}
use Rattle.report_first.specs.Laws.{IsFirstEnd}
use Rattle.search_endings.specs.Ends.{status_of}
use Rattle.report_first.specs.Printed.{first_lines, first_status, IsFirstRun}
use Rattle.report_first.specs.declared.bytes_to_lines.TheConstants.{FUEL, LIMIT}
use Rattle.report_first.specs.declared.bytes_to_lines.FirstFault.{FirstFault}
use Rattle.report_first.specs.declared.bytes_to_lines.FirstFault.TheVariants as faults
use Rattle.report_first.proofs.Ends.{first_modules_end_so}

-- the run by the program's own numbers
pub end_by : (a v : ℕ) (m : Parts) (H : List Entry) (end : EndState) → m ≡ first_parts a v → a < 64 → v < 64
    → EndsRun m (codes "f") [] FUEL false (Some LIMIT) H end → IsFirstEnd a v end
end_by a v m H end same below small ends =
    first_modules_end_so a v FUEL false (Some LIMIT) H end below small (omega arith) (λ full. omega (arith, full))
    (subst (λ parts. EndsRun parts (codes "f") [] FUEL false (Some LIMIT) H end) same ends)

one_thread : (threads : List ThreadReport) (o : Outcome) → map (λ (r : ThreadReport). r.outcome) threads ≡ o ∷ []
    → (r : ThreadReport) × (threads ≡ r ∷ []) × (r.outcome ≡ o)
one_thread [] o is = absurd (cc is)
one_thread (r ∷ []) o is = (r, refl, cc is)
one_thread (r ∷ s ∷ more) o is = absurd (cc is)

abbrev report_of : Outcome → ThreadReport
report_of o = record { outcome = o; spent = 0 }

status_by : (b : Bool) → status_of (report_of (cond b (outcomes.Done (Some (values.I32 0))) (outcomes.Trap traps.UnalignedAtomic)) ∷ []) ≡ cond b 0 1
status_by true = refl
status_by false = refl

module _ (a v dump : ℕ) (end : EndState) (ends : IsFirstEnd a v end) where
  status_is : status_of end.threads.items ≡ first_status a
  status_is =
      let one = one_thread end.threads.items (first_outcome a) ends.threads in
      ap status_of one.1 ∙ (ap (λ o. status_of (report_of o ∷ [])) one.2 ∙ status_by (is_aligned a))

  lines_are : end_lines end.threads.items end.pages dump end.bytes.items ≡ first_lines a v dump
  lines_are =
      let one = one_thread end.threads.items (first_outcome a) ends.threads in
      ap (λ threads. end_lines threads end.pages dump end.bytes.items) one.1
      ∙ (ap (λ o. end_lines (report_of o ∷ []) end.pages dump end.bytes.items) one.2
      ∙ (ap (λ p. end_lines (report_of (first_outcome a) ∷ []) p dump end.bytes.items) ends.pages
      ∙ (ap (λ bytes. end_lines (report_of (first_outcome a) ∷ []) 1 dump bytes) ends.bytes
      ∙ ap (λ line. (line ++ pages_line 1) ++ bytes_line dump (page_after a v)) (append-nil (thread_line 0 (first_outcome a))))))

  pub runs_by : (bytes : List ℕ) (old new : Option (List ℕ)) (status : ℕ) (threads : List ThreadReport) (written : List ℕ)
      → IsFirstModule bytes a v → threads ≡ end.threads.items → written ≡ end.bytes.items
      → Appends old new (end_lines threads end.pages dump written) → status ≡ status_of threads
      → IsFirstRun bytes dump status old new
  runs_by bytes old new status threads written is same all wrote ended = record {
    address = a;
    addend = v;
    module_is = is;
    status_is = ended ∙ ap status_of same ∙ status_is;
    lines = subst (Appends old new) (ap (λ ts. end_lines ts end.pages dump written) same
        ∙ ap (λ bytes. end_lines end.threads.items end.pages dump bytes) all ∙ lines_are) wrote;
  }

pub here : (r : Result ℕ FirstFault) (bytes : List ℕ) (a v : ℕ) → IsFirstModule bytes a v → (IsErrOf r faults.NotHere → ⊥)
    → IsErrOf r faults.NotHere ↔ IsNoFirstModule bytes
here r bytes a v is other = ((λ h. absurd (other h)), (λ none. absurd (none a v is)))
