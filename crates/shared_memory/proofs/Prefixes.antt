-- What begins a legal history is legal.
use Rattle.std.proofs.Common.{List, ◌++◌, sym, subst}
use mathlib.Core.List.{IsPrefix}
use Rattle.types.specs.declared.event.Entry.{Entry}
use Rattle.shared_memory.specs.Memory.{Memory}
use Rattle.shared_memory.specs.Legal.{IsLegal}
use Rattle.shared_memory.proofs.Histories.{IsMemoryLegal-prefix, IsQueueLegal-prefix, IsWellFormed-prefix}

pub IsLegal-front : (opening : Memory) (xs ys : List Entry) → IsLegal opening (xs ++ ys) → IsLegal opening xs
IsLegal-front opening xs ys legal = record {
  memory = IsMemoryLegal-prefix opening xs ys legal.memory;
  queue = IsQueueLegal-prefix xs ys legal.queue;
  form = IsWellFormed-prefix xs ys legal.form;
}

pub IsLegal-prefix : (opening : Memory) (xs zs : List Entry) → IsPrefix xs zs → IsLegal opening zs → IsLegal opening xs
IsLegal-prefix opening xs zs p legal = IsLegal-front opening xs p.0 (subst (λ w. IsLegal opening w) (sym p.1) legal)
