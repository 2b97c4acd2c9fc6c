use Rattle.std.proofs.Common.{ℕ, ◌≡◌, ◌+◌, ◌*◌, false, List, [], length, refl, ap, ◌∙◌, sym, subst}
use Rattle.atomic_table.specs.Table.{opening}
use Rattle.shared_memory.specs.Memory.{Memory}
use Rattle.shared_memory_on_table.specs.Rule.{opened}
use Rattle.word_row.specs.Words.{words_of, IsStored}
use Rattle.word_row.specs.Rule.{KeptRow}
use Rattle.word_row.proofs.Memories.{length-words_of}
use Rattle.word_row.proofs.Moves.{opens}
use Rattle.word_row.proofs.prepared.Prepared.new.Goals as goal

pub of_words-requires : goal.of_words-requires
of_words-requires c =
    let memory : Memory = c.words.new.memory in
    let stored : IsStored memory = subst IsStored (sym c.words.ensures.same) c.words.ensures.stored in
    subst (λ (ws : List ℕ). KeptRow memory (opening ws [] (opened false)))
    (sym (c.deref.ensures.value ∙ c.in-Ok.ensures.words ∙ ap words_of (sym c.words.ensures.same)))
    (opens memory stored)

pub invariant_of-result : goal.invariant_of-result
invariant_of-result c =
    let memory : Memory = c.words.new.memory in
    let stored : IsStored memory = subst IsStored (sym c.words.ensures.same) c.words.ensures.stored in
    let e = c.in-Ok-of_words.ensures in
    let key : c.in-Ok-of_words.board.shared.key ≡ memory = e.5 in
    let words : c.deref.result.now ≡ words_of memory = c.deref.ensures.value ∙ c.in-Ok.ensures.words ∙ ap words_of (sym c.words.ensures.same) in (
      e.2,
      e.4,
      record {
        same = refl;
        count = e.0 ∙ ap (λ (l : List ℕ). length l) words ∙ length-words_of memory ∙ ap (λ (m : Memory). 8192 * m.max + 1) (sym key);
        slots = e.1;
        key = refl;
        stored = subst IsStored (sym key) stored;
      },
      sym (ap (λ (m : Memory). m.max) (key ∙ c.words.ensures.same ∙ c.in_ok-memory.ensures.opened)),
    )
