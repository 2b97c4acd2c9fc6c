use Rattle.std.proofs.Common.{Some, length, sym, ◌∙◌, ap}
use Rattle.shared_memory.specs.Memory.{Memory}
use Rattle.search_runs.specs.Accesses.{access_by, judged}
use Rattle.search_runs.specs.Called.{system_of}
use Rattle.search_parts.proofs.Accessing.{by-event, by-none}
use Rattle.search_parts.proofs.access.next_access.Goals as goal

pub returns-in_err-event : goal.returns-in_err-event
returns-in_err-event c = λ b z t.
    c.from_residual.ensures ∙ sym (by-none b c.args.allowed.now (length c.args.opening.now) z.shared (z.threads c.args.n) ((system_of b).wants (z.threads c.args.n))
    (sym c.in_err-event.was ∙ c.wanted.ensures.wanted c.args.valid.now b (z.threads c.args.n) t.of t.rested.stands) t.rested.rests)

pub returns : goal.returns
returns c = λ b z t.
    let e = c.in_ok-event.event in
    ap Some (c.judged.ensures ∙ ap (judged c.args.allowed.now) c.access_by-access.ensures)
    ∙ (ap (λ (m : Memory). Some (judged c.args.allowed.now (access_by (length c.args.opening.now) m c.is_plain-plain.result e))) t.shares.memory
    ∙ (ap (λ p. Some (judged c.args.allowed.now (access_by (length c.args.opening.now) z.shared.memory p e))) (c.is_plain-plain.ensures (z.threads c.args.n) t.rested.stands)
    ∙ sym (by-event b c.args.allowed.now (length c.args.opening.now) z.shared (z.threads c.args.n) ((system_of b).wants (z.threads c.args.n)) e
    (sym c.in_ok-event.was ∙ c.wanted.ensures.wanted c.args.valid.now b (z.threads c.args.n) t.of t.rested.stands))))
