use Rattle.std.proofs.Common.{◌≡◌, ◌∙◌, ℕ, List, length, subst}
use Rattle.search_memory.specs.Memories.{padded, AreDifferences}
use Rattle.search_memory.proofs.Putting.{opened_at}
use Rattle.search_memory.proofs.Forms.{beside_alike}
use Rattle.search_memory.proofs.beside.changes_in.Goals as goal

pub returns-clause-differences : goal.returns-clause-differences
returns-clause-differences c =
    let opening = c.args.opening.now in
    let len = length c.bytes-bytes.result.now in
    let first : c.as_slice.result.now ≡ padded opening len = c.as_slice.ensures.value ∙ c.in_ok-first.ensures in
    beside_alike opening (padded opening len) 0 len c.in_ok-differences.field-0.items (λ k low. opened_at opening len k low)
    (subst (λ (bs : List ℕ). AreDifferences bs 0 len c.in_ok-differences.field-0.items) first c.in_ok-differences.ensures.differences)
