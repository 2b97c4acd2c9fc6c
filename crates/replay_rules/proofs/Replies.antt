-- The replies of the sequential memory are of the right kinds.
use Rattle.std.proofs.Common.{◌≡◌, ℕ, ◌+◌, Bool, true, false, cond, List, [], ◌∷◌, length, refl, ◌∙◌, ap}
use Rattle.std.specs.Prelude.{nat_le}
use Rattle.std.specs.List.{AllByRecursion}
use Rattle.types.specs.declared.event.Event.{Event}
use Rattle.types.specs.declared.event.Event.TheVariants.{Size, Grow, Load, Store, Rmw, Cmpxchg, Ask, Told}
use Rattle.types.specs.declared.event.Question.TheVariants.{Wait, Notify, Spawn, Leave}
use Rattle.types.specs.declared.event.Reply.{Reply}
use Rattle.types.specs.declared.event.Reply.TheVariants as replies
use Rattle.types.specs.declared.event.Entry.{Entry}
use Rattle.shared_memory.specs.Memory.{Memory, reply_of, state_after, if_within}
use Rattle.shared_memory.specs.Legal.{IsMemoryLegal}
use Rattle.replay_text.specs.Conditions.{ReplyFits, is_reply_to}
use Rattle.replay_rules.specs.Ranges.{ValueFits}

within : (m : Memory) (end : ℕ) (event : Event) (a b : Reply) → is_reply_to event a ≡ true → is_reply_to event b ≡ true
    → is_reply_to event (if_within m end a b) ≡ true
within m end event a b p q = by_test (nat_le end (length m.bytes))
  where
    by_test : (t : Bool) → is_reply_to event (cond t a b) ≡ true
    by_test true = p
    by_test false = q

pub reply_kind : (m : Memory) (event : Event) → is_reply_to event (reply_of m event) ≡ true
reply_kind m Size = refl
reply_kind m (Grow more) = refl
reply_kind m (Load addr width reach) = within m reach (Load addr width reach) _ _ refl refl
reply_kind m (Store addr width reach value) = within m reach (Store addr width reach value) _ _ refl refl
reply_kind m (Rmw op addr width value) = within m (addr + width) (Rmw op addr width value) _ _ refl refl
reply_kind m (Cmpxchg addr width expected replacement) = within m (addr + width) (Cmpxchg addr width expected replacement) _ _ refl refl
reply_kind m (Ask (Wait addr width expected timeout)) = within m (addr + width) (Ask (Wait addr width expected timeout)) _ _ refl refl
reply_kind m (Ask (Notify addr count)) = within m (addr + 4) (Ask (Notify addr count)) _ _ refl refl
reply_kind m (Ask (Spawn arg)) = refl
reply_kind m (Ask Leave) = refl
reply_kind m (Told answer) = refl

-- so are those of a legal history
pub kinds : (m : Memory) (log : List Entry) → IsMemoryLegal m log → AllByRecursion (λ (e : Entry). is_reply_to e.event e.reply ≡ true) log
kinds m [] legal = tt
kinds m (e ∷ log) legal = (ap (is_reply_to e.event) legal.0 ∙ reply_kind m e.event, kinds (state_after m e.event) log legal.1)

-- a reply of the right kind has its value alone
pub reply_fits : (event : Event) (reply : Reply) → is_reply_to event reply ≡ true → ValueFits reply → ReplyFits reply
reply_fits event (replies.Value v) kind fits = fits
reply_fits event replies.Done kind fits = tt
reply_fits event replies.OutOfBounds kind fits = tt
reply_fits event replies.Again kind fits = absurd (cc kind)
reply_fits event replies.Full kind fits = absurd (cc kind)
