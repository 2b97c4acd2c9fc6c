-- The worked history, entry by entry.
use Rattle.std.proofs.Common.{◌≡◌, ◌≤◌, true, length, refl, sym, ◌∙◌, ap}
use Rattle.std.specs.Prelude.{nat_le}
use Rattle.std.proofs.lemmas.Bool.{le-leb, cond-true}
use Rattle.types.specs.declared.event.Reply.TheVariants.{Value, Done, OutOfBounds}
use Rattle.shared_memory.specs.Memory.{Memory, loaded}
use Rattle.shared_memory.specs.WaitQueue.{first_queue, after_question, after_answer}
use Rattle.shared_memory.specs.History.{queue_after}
use Rattle.shared_memory.specs.Legal.{IsMemoryLegal, IsQueueLegal, IsWellFormed}
use Rattle.shared_memory_laws.specs.Example.{meeting, WorkedHistory}

meeting_queue : IsQueueLegal meeting
unfolding IsQueueLegal first_queue after_question after_answer
meeting_queue = (
  record { alive = refl; awake = refl; told = refl },
  (
    refl,
    (
      record { alive = refl; awake = refl; told = refl },
      (
        record { alive = refl; awake = refl; told = refl },
        (
          refl,
          (
            refl,
            (
              record { alive = refl; awake = refl; told = refl },
              (
                refl,
                (record { alive = refl; awake = refl; told = refl }, (refl, tt)),
              ),
            ),
          ),
        ),
      ),
    ),
  ),
)

meeting_form : IsWellFormed meeting
unfolding IsWellFormed first_queue after_question after_answer
meeting_form = (
  record { alive = refl; awake = refl; told = refl },
  (
    tt,
    (
      record { alive = refl; awake = refl; told = refl },
      (
        record { alive = refl; awake = refl; told = refl },
        (
          tt,
          (
            tt,
            (
              record { alive = refl; awake = refl; told = refl },
              (
                tt,
                (record { alive = refl; awake = refl; told = refl }, (tt, tt)),
              ),
            ),
          ),
        ),
      ),
    ),
  ),
)

meeting_memory : (opening : Memory) → 12 ≤ length opening.bytes → loaded opening 8 4 ≡ 0 → IsMemoryLegal opening meeting
meeting_memory opening room zero_there =
    let within : nat_le 12 (length opening.bytes) ≡ true = le-leb 12 (length opening.bytes) room in (
      refl,
      (
        refl,
        (
          sym (cond-true (nat_le 12 (length opening.bytes)) (Value (loaded opening 8 4)) OutOfBounds within ∙ ap Value zero_there),
          (sym (cond-true (nat_le 12 (length opening.bytes)) Done OutOfBounds within), (refl, (refl, (refl, (refl, (refl, (refl, tt))))))),
        ),
      ),
    )

pub worked_history : WorkedHistory
unfolding queue_after first_queue after_question after_answer
worked_history = record {
  started = refl;
  heard = refl;
  asleep = refl;
  notified = refl;
  awake = refl;
  alone = refl;
  over = refl;
  legal = λ opening room zero_there. record { memory = meeting_memory opening room zero_there; queue = meeting_queue; form = meeting_form };
}
