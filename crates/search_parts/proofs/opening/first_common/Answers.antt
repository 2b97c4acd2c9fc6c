use Rattle.std.proofs.Common.{sym, ◌∙◌, ap, subst}
use Rattle.types.specs.declared.limits.TheConstants.{MOST_THREADS}
use Rattle.shared_memory_sequential.specs.Opening.{IsSized}
use Rattle.waiters.specs.Kept.{queue_of, without_answers}
use Rattle.search_memory.specs.Memories.{memory_of}
use Rattle.search_parts.proofs.Opened.{unchanged, none_due}
use Rattle.search_parts.proofs.opening.first_common.Goals as goal

pub returns : goal.returns
returns c =
    let opening = c.args.opening.now in
    let memory = ap (memory_of opening) c.new-3.ensures.memory ∙ unchanged opening c.args.max c.new.result.items c.new.ensures.items in
    record {
      memory = memory;
      queue = ap queue_of c.new-3.ensures.queue ∙ (c.in_ok-queue.ensures ∙ (ap without_answers c.new-2.ensures ∙ none_due MOST_THREADS));
      sized = subst IsSized (sym memory) c.requires;
    }
