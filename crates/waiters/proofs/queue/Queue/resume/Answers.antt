use Rattle.std.proofs.Common.{◌++◌, ◌∙◌, length, Option, None, arith, ap}
use Rattle.std.proofs.lemmas.List.{length-replicate}
use Rattle.types.specs.declared.event.Answer.{Answer}
use Rattle.shared_memory.proofs.Few.{few_alive, few_asleep}
use Rattle.waiters.specs.Kept.{queue_of}
use Rattle.waiters.proofs.Resumed.{sound}
use Rattle.waiters.proofs.queue.Queue.resume.Goals as goal

pub unwrap-requires : goal.unwrap-requires
unwrap-requires c =
    let few = few_alive (queue_of c.args.kept.now) c.requires in
    let low = c.requires.few in
    let most = c.requires.due_length in
    let here = ap length c.as_slice.ensures.value in
    let new = ap length c.new-alive.ensures in
    c.try_extend_from_slice.ensures.variant.1 (omega (arith, few, low, most, here, new))

pub unwrap-requires-2 : goal.unwrap-requires-2
unwrap-requires-2 c =
    let few = few_asleep (queue_of c.args.kept.now) c.requires in
    let here = ap length c.as_slice-2.ensures.value in
    let new = ap length c.new-sleepers.ensures in
    c.try_extend_from_slice-2.ensures.variant.1 (omega (arith, few, here, new))

pub no_answers-requires : goal.no_answers-requires
no_answers-requires c = let most = c.requires.due_length in omega (arith, length-replicate {A = Option Answer} c.args.kept.now.threads None, most)

pub invariant_of-result : goal.invariant_of-result
invariant_of-result c =
    let alive = rw c.unwrap.ensures at c.try_extend_from_slice.ensures.ok in
    let sleepers = rw c.unwrap-2.ensures at c.try_extend_from_slice-2.ensures.ok in
    let args = rw c.unwrap-3.ensures at c.try_extend_from_slice-3.ensures.ok in
    sound c.args.kept.now _ _ _ _
    (alive ∙ (ap (λ xs. xs ++ c.as_slice.result.now) c.new-alive.ensures ∙ c.as_slice.ensures.value))
    (sleepers ∙ (ap (λ xs. xs ++ c.as_slice-2.result.now) c.new-sleepers.ensures ∙ c.as_slice-2.ensures.value))
    c.no_answers.ensures
    (args ∙ (ap (λ xs. xs ++ c.as_slice-3.result.now) c.new-args.ensures ∙ c.as_slice-3.ensures.value)) c.requires
