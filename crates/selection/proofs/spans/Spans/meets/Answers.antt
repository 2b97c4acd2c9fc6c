use Rattle.std.proofs.Common.{List, length, nat_lt, sym, subst, ◌∙◌, rules}
use Rattle.std.proofs.lemmas.List.Sorted.{IsPartitionPoint-from_clause}
use Rattle.selection.specs.declared.choice.NumberSpan.{NumberSpan}
use Rattle.selection.specs.Spans.{AreInOrder}
use Rattle.selection.proofs.Search.{parted, not_within, met_at_point, none_at_end}
use Rattle.selection.proofs.spans.Spans.meets.Goals as goal

pub returns-then-at-spans : goal.returns-then-at-spans
returns-then-at-spans c =
    let order : AreInOrder c.as_slice-spans.result.now = subst (λ (v : List NumberSpan). AreInOrder v) (sym c.as_slice-spans.ensures.value)
    c.args.self.now.in_order in
    let point = IsPartitionPoint-from_clause (λ (s : NumberSpan). nat_lt s.last c.args.span.first) _ _ c.partition_point-at.ensures.partitioned
    (parted _ c.args.span.first order) (λ a r q k. search rules) in
    rw (← c.as_slice-spans.ensures.value)
    (met_at_point c.as_slice-spans.result.now c.args.span c.partition_point-at.result point _ order c.if-at-spans.true)

pub returns-else-at-spans : goal.returns-else-at-spans
returns-else-at-spans c =
    let order : AreInOrder c.as_slice-spans.result.now = subst (λ (v : List NumberSpan). AreInOrder v) (sym c.as_slice-spans.ensures.value)
    c.args.self.now.in_order in
    let point = IsPartitionPoint-from_clause (λ (s : NumberSpan). nat_lt s.last c.args.span.first) _ _ c.partition_point-at.ensures.partitioned
    (parted _ c.args.span.first order) (λ a r q k. search rules) in
    rw (← c.as_slice-spans.ensures.value)
    (not_within c.partition_point-at.result (length c.as_slice-spans.result.now) c.if-at-spans.false
    ∙ sym (none_at_end c.as_slice-spans.result.now c.args.span c.partition_point-at.result point c.if-at-spans.false))
