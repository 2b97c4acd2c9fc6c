use Rattle.std.proofs.Common.{[], List, ap, sym, ◌∙◌}
use Rattle.types.specs.declared.event.Entry.{Entry}
use Rattle.shared_memory_on_table.specs.Moves.{keeper}
use Rattle.shared_memory_on_table.specs.Names.{MemoryName}
use Rattle.locked_recorder.proofs.Access.{opened_keeps}
use Rattle.locked_recorder.proofs.recorder.LockedRecorder.open.Goals as goal

pub invariant_of-keeper : goal.invariant_of-keeper
invariant_of-keeper g c =
    let inv = c.prepared.invariant in
    let all = c.in-Ok.ensures.all in (
      all.0,
      all.1 ∙ ap (λ (l : List Entry). (keeper l [], [])) (sym inv.4),
      ap (λ (x : MemoryName). x.limit) c.prepared.view_is ∙ c.requires.limit,
      opened_keeps _ _ _ _ _ inv.4 (ap (λ (x : MemoryName). x.opening) c.prepared.view_is ∙ c.requires.opening) inv.5 inv.3,
    )
