use Rattle.std.proofs.Common.{◌≡◌, ℕ, ◌==◌, true, inr, sym, ◌∙◌, arith}
use Rattle.spawn_host_workers.proofs.Pairing.{none_of}
use Rattle.spawn_host_workers.proofs.host.run_crew.Goals as goal

is_zero : (n : ℕ) → true ≡ (n == 0) → n ≡ 0
is_zero n e = grind (arith, e)

pub returns-then-is_empty-clause-ends : goal.returns-then-is_empty-clause-ends
returns-then-is_empty-clause-ends g c =
    inr (none_of c.args.crew.threads.items (sym c.args.crew.threads.ok.0 ∙ is_zero _ c.if-is_empty.ensures), c.lead_alone.ensures)
