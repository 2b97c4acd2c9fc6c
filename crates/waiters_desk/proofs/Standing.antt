-- What a thread's list says of it stays so where the list goes on without entries of the thread.
use Rattle.std.proofs.Common.{◌≡◌, ℕ, Bool, List, [], sym, ◌∙◌, ap, subst, append-nil}
use Rattle.std.proofs.lemmas.List.{append_cancel_left}
use mathlib.Core.List.{IsPrefix}
use Rattle.types.specs.declared.event.Entry.{Entry}
use Rattle.shared_memory.specs.Memory.{Memory}
use Rattle.shared_memory.specs.WaitQueue.{IsFree}
use Rattle.shared_memory.specs.History.{entries_of, queue_after}
use Rattle.shared_memory.specs.Access.{Gains, Meets}
use Rattle.shared_memory.proofs.Histories.{entries_of-append, entries_of-quiet}
use Rattle.shared_memory.proofs.Standing.{alive_prefix, open_prefix}
use Rattle.waiters_desk.specs.Freedom.{StandsAsBefore}
use Rattle.waiters_desk.proofs.Surviving.{free_beside_others}

stands_on : (n : ℕ) (before after : List Entry) → IsPrefix before after → entries_of n after ≡ entries_of n before → StandsAsBefore n before after
stands_on n before after p same = record {
  free = λ free. subst (λ (l : List Entry). IsFree (queue_after l) n) p.1 (free_beside_others n before p.0 none free);
  waiting = λ legal w. record { alive = alive_prefix n before after p same legal w.alive; asked = open_prefix n before after p same legal w.asked };
  without = λ nothing. same ∙ nothing;
}
  where
    none : entries_of n p.0 ≡ []
    none = append_cancel_left (entries_of n before) (entries_of n p.0) []
        (sym (entries_of-append n before p.0) ∙ (ap (entries_of n) p.1 ∙ (same ∙ sym (append-nil (entries_of n before)))))

pub others_leave : (n : ℕ) (right : Bool) (before others after : List Entry) → Gains n right before others after → StandsAsBefore n before after
others_leave n right before others after g =
    stands_on n before after (others, sym g.list) (ap (entries_of n) g.list ∙ entries_of-quiet n before others g.apart)

pub meeting_leaves : (opening : Memory) (m n : ℕ) (right_a right_b : Bool) (a b both : List Entry) → Meets opening m n right_a right_b a b both
    → StandsAsBefore m a both × StandsAsBefore n b both
meeting_leaves opening m n right_a right_b a b both met = (stands_on m a both met.begins_a met.own_a, stands_on n b both met.begins_b met.own_b)
