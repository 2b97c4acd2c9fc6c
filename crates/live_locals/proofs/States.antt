-- States of a thread that are alike go alike.
use Rattle.std.proofs.Common.{◌≡◌, ℕ, zero, suc, refl}
use Rattle.types.specs.declared.event.Reply.{Reply}
use Rattle.types.specs.declared.event.Reply.TheVariants as replies
use Rattle.types.specs.declared.event.Answer.{Answer}
use Rattle.types.specs.declared.event.Answer.TheVariants as answers
use Rattle.types.specs.declared.event.Event.{Event}
use Rattle.interp_machine.specs.Config.{Config, Next, Asks, Hears}
use Rattle.interp_machine.specs.Program.{Program}
use Rattle.interp_machine.specs.Step.{next}
use Rattle.interp_machine.specs.State.{State, At, Over, gone, gone_times, gone_by, wanted_by, replied_by, heard_by}
use Rattle.live_locals.specs.Alike.{AreAlike, AreNextAlike, AreStatesAlike}
use Rattle.live_locals.specs.Laws.{StatesGoAlike}
use Rattle.live_locals.proofs.Other.{next_cases}
use Rattle.live_locals.proofs.Going.{alike}

wants_alike : (n m : Next) → AreNextAlike n m → wanted_by n ≡ wanted_by m
wants_alike = next_cases (λ n m. wanted_by n ≡ wanted_by m) refl (λ c d a. refl) (λ t. refl) (λ r. refl) (λ e go on h. refl) (λ go on h. refl)

module _ (c d : Config) (a : AreAlike c d) where
  gone_alike : (n m : Next) → AreNextAlike n m → AreStatesAlike (gone_by c n) (gone_by d m)
  gone_alike = next_cases (λ n m. AreStatesAlike (gone_by c n) (gone_by d m)) a (λ x y b. b) (λ t. refl) (λ r. refl) (λ e go on h. a) (λ go on h. a)

  replied_alike : (reply : Reply) (n m : Next) → AreNextAlike n m → AreStatesAlike (replied_by c n reply) (replied_by d m reply)
  replied_alike reply = next_cases (λ n m. AreStatesAlike (replied_by c n reply) (replied_by d m reply)) a (λ x y b. a) (λ t. a) (λ r. a)
      (λ e go on h. asked e go on h reply) (λ go on h. a)
    where
      asked : (e : Event) (go on : ℕ → Config) → ((n : ℕ) → AreAlike (go n) (on n)) → (reply : Reply) →
          AreStatesAlike (replied_by c (Asks e go) reply) (replied_by d (Asks e on) reply)
      asked e go on h (replies.Value n) = h n
      asked e go on h replies.Done = h 0
      asked e go on h replies.OutOfBounds = refl
      asked e go on h replies.Again = a
      asked e go on h replies.Full = a

  heard_alike : (answer : Answer) (n m : Next) → AreNextAlike n m → AreStatesAlike (heard_by c n answer) (heard_by d m answer)
  heard_alike answer = next_cases (λ n m. AreStatesAlike (heard_by c n answer) (heard_by d m answer)) a (λ x y b. a) (λ t. a) (λ r. a) (λ e go on h. a)
      (λ go on h. heard go on h answer)
    where
      heard : (go on : ℕ → Config) → ((n : ℕ) → AreAlike (go n) (on n)) → (answer : Answer) →
          AreStatesAlike (heard_by c (Hears go) answer) (heard_by d (Hears on) answer)
      heard go on h (answers.Number n) = h n
      heard go on h answers.ForGood = refl

goes_alike : (p : Program) (s t : State) → AreStatesAlike s t → AreStatesAlike (gone p s) (gone p t)
goes_alike p (At c) (At d) a = gone_alike c d a (next p c) (next p d) (alike p c d a)
goes_alike p (At c) (Over outcome) a = absurd a
goes_alike p (Over outcome) (At c) a = absurd a
goes_alike p (Over outcome) (Over other) a = a

turns_alike : (n : ℕ) (p : Program) (s t : State) → AreStatesAlike s t → AreStatesAlike (gone_times n p s) (gone_times n p t)
turns_alike zero p s t a = a
turns_alike (suc n) p s t a = turns_alike n p (gone p s) (gone p t) (goes_alike p s t a)

pub states : (p : Program) (s t : State) → AreStatesAlike s t → StatesGoAlike p s t
states p (At c) (At d) a =
    let n = alike p c d a in
    record {
      wants = wants_alike (next p c) (next p d) n;
      goes = gone_alike c d a (next p c) (next p d) n;
      turns = λ n. turns_alike n p (At c) (At d) a;
      replies = λ reply. replied_alike c d a reply (next p c) (next p d) n;
      hears = λ answer. heard_alike c d a answer (next p c) (next p d) n;
    }
states p (At c) (Over outcome) a = absurd a
states p (Over outcome) (At c) a = absurd a
states p (Over outcome) (Over other) a = record { wants = refl; goes = a; turns = λ n. turns_alike n p (Over outcome) (Over other) a; replies = λ reply. a; hears = λ answer. a }
