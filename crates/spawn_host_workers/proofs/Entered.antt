-- What a call of the memory or of the desk enters, as acts of the caller's thread.
use Rattle.std.proofs.Common.{◌≡◌, ℕ, ◌==◌, true, false, cond, List, [], ◌∷◌, ◌++◌, Option, Some, None, refl, sym, ◌∙◌, ap, append_assoc}
use Rattle.std.proofs.lemmas.Bool.{cond_both, both_ways}
use Rattle.std.proofs.lemmas.List.{append_cancel_left}
use Rattle.types.specs.declared.event.Entry.{Entry}
use Rattle.types.specs.declared.event.Event.{Event}
use Rattle.types.specs.declared.event.Event.TheVariants.{Ask, Told}
use Rattle.types.specs.declared.event.Question.{Question}
use Rattle.types.specs.declared.event.Answer.{Answer}
use Rattle.types.specs.declared.event.Answer.TheVariants.{Number}
use Rattle.types.specs.declared.event.Reply.{Reply}
use Rattle.types.specs.declared.event.Reply.TheVariants as replies
use Rattle.shared_memory.specs.Memory.{Memory}
use Rattle.shared_memory.specs.Events.{is_exempt}
use Rattle.shared_memory.specs.WaitQueue.{IsFree}
use Rattle.shared_memory.specs.History.{entries_of, queue_after}
use Rattle.shared_memory.specs.Access.{HasRoom}
use Rattle.shared_memory.proofs.Histories.{entries_of-append, entries_of-own}
use Rattle.waiters_desk.specs.Calls.{EntersAtDesk, FindsRoom, Misses, Hears, Sleeps, Refused, asked_with, taken}
use Rattle.schedule.specs.System.{Act.Made, Act.Heard}
use Rattle.schedule_threads.specs.Seeing.{SeesAct, SeesFull}
use Rattle.spawn_host_workers.specs.Serving.{IsOpen, IsAnswered, IsAsked}

-- the first entry of a thread among others
pub record FirstOwn (n : ℕ) (xs : List Entry) (e : Entry) (es : List Entry) : Type 0 where
  pub front : List Entry
  pub back : List Entry
  pub parts : xs ≡ front ++ e ∷ back
  pub apart : entries_of n front ≡ []
  pub rest : entries_of n back ≡ es

skipped : (n : ℕ) (x : Entry) (xs : List Entry) → (x.thread == n) ≡ false → entries_of n (x ∷ xs) ≡ entries_of n xs
skipped n x xs other = ap (λ b. cond b (x ∷ entries_of n xs) (entries_of n xs)) other

pub first_own : (n : ℕ) (xs : List Entry) (e : Entry) (es : List Entry) → entries_of n xs ≡ e ∷ es → FirstOwn n xs e es
first_own n [] e es is = absurd (cc is)
first_own n (x ∷ xs) e es is =
    cond_both (x.thread == n) (x ∷ entries_of n xs) (entries_of n xs) (λ w. w ≡ e ∷ es → FirstOwn n (x ∷ xs) e es)
    (λ here h. let first : x ≡ e = cc h in let rest : entries_of n xs ≡ es = cc h in
    record { front = []; back = xs; parts = ap (λ z. z ∷ xs) first; apart = refl; rest = rest })
    (λ other h. let r = first_own n xs e es h in
    record { front = x ∷ r.front; back = r.back; parts = ap (λ z. x ∷ z) r.parts; apart = skipped n x r.front other ∙ r.apart; rest = r.rest })
    is

-- an event that a full log takes all the same has room
pub exempt_room : (limit : Option ℕ) (event : Event) (history : List Entry) → is_exempt event ≡ true → HasRoom limit event history
exempt_room None event history is = tt
exempt_room (Some limit) event history is = λ held. absurd (both_ways (is_exempt event) held is)

module _ (opening : Memory) (limit : Option ℕ) (n : ℕ) (question : Question) (reply : Reply) (before after : List Entry) where
  abbrev asked : Entry
  asked = asked_with n question reply

  -- what a caller enters behind its question
  pub behind_question : (es : List Entry) (enters : EntersAtDesk opening n (asked ∷ es) before after)
      (found : FindsRoom limit n question reply before after) → entries_of n found.rest ≡ es
  behind_question es enters found =
      let parts : enters.added ≡ found.others ++ asked ∷ found.rest =
      append_cancel_left before enters.added (found.others ++ asked ∷ found.rest)
      (sym enters.list ∙ (found.list ∙ append_assoc before found.others (asked ∷ found.rest))) in
      let own : entries_of n (asked ∷ found.rest) ≡ asked ∷ entries_of n found.rest =
      entries_of-append n (asked ∷ []) found.rest ∙ ap (λ w. w ++ entries_of n found.rest) (entries_of-own n (Ask question) reply) in
      let both : asked ∷ es ≡ asked ∷ entries_of n found.rest =
      sym enters.of_caller
      ∙ (ap (entries_of n) parts ∙ (entries_of-append n found.others (asked ∷ found.rest)
      ∙ (ap (λ w. w ++ entries_of n (asked ∷ found.rest)) found.apart ∙ own))) in
      cc both

  -- a question alone
  pub sees_question : EntersAtDesk opening n (asked ∷ []) before after → FindsRoom limit n question reply before after
      → SeesAct limit n (Made (Ask question) reply) before after
  sees_question enters found = record {
    others = found.others;
    so_far = before ++ found.others;
    behind = found.rest;
    gains = refl;
    apart = found.apart;
    list = found.list;
    apart_behind = behind_question [] enters found;
    room = found.room;
  }

  -- a question and its answer
  module _ (answer : Answer) (enters : EntersAtDesk opening n (asked ∷ taken n answer ∷ []) before after)
      (found : FindsRoom limit n question reply before after) where
    abbrev pub between : List Entry
    between = (before ++ found.others) ++ asked ∷ []

    pub sees_asked : SeesAct limit n (Made (Ask question) reply) before between
    sees_asked = record {
      others = found.others;
      so_far = before ++ found.others;
      behind = [];
      gains = refl;
      apart = found.apart;
      list = refl;
      apart_behind = refl;
      room = found.room;
    }

    pub sees_heard : SeesAct limit n (Heard answer) between after
    sees_heard =
        let first = first_own n found.rest (taken n answer) [] (behind_question (taken n answer ∷ []) enters found) in record {
          others = first.front;
          so_far = between ++ first.front;
          behind = first.back;
          gains = refl;
          apart = first.apart;
          list = found.list ∙ (ap (λ w. (before ++ found.others) ++ asked ∷ w) first.parts
              ∙ (sym (append_assoc (before ++ found.others) (asked ∷ []) (first.front ++ taken n answer ∷ first.back))
              ∙ sym (append_assoc between first.front (taken n answer ∷ first.back))));
          apart_behind = first.rest;
          room = exempt_room limit (Told answer) (between ++ first.front) refl;
        }

-- an answer alone
pub sees_collected : (opening : Memory) (limit : Option ℕ) (n : ℕ) (answer : Answer) (before after : List Entry)
    → EntersAtDesk opening n (taken n answer ∷ []) before after
    → SeesAct limit n (Heard answer) before after
sees_collected opening limit n answer before after enters =
    let first = first_own n enters.added (taken n answer) [] enters.of_caller in record {
      others = first.front;
      so_far = before ++ first.front;
      behind = first.back;
      gains = refl;
      apart = first.apart;
      list = enters.list ∙ (ap (λ w. before ++ w) first.parts ∙ sym (append_assoc before first.front (taken n answer ∷ first.back)));
      apart_behind = first.rest;
      room = exempt_room limit (Told answer) (before ++ first.front) refl;
    }

-- a question that was refused
pub sees_refused : (opening : Memory) (limit : Option ℕ) (n : ℕ) (before after : List Entry)
    → Refused opening limit n before after → SeesFull limit n before after
sees_refused opening limit n before after did =
    record { others = did.enters.added; list = did.enters.list; apart = did.enters.of_caller; reached = did.reached }

-- what a question came to
module _ (opening : Memory) (limit : Option ℕ) (n : ℕ) (question : Question) (before after : List Entry) where
  pub served_miss : Misses opening limit n question before after → Unit {0}
      × SeesAct limit n (Made (Ask question) replies.OutOfBounds) before after × IsFree (queue_after after) n
  served_miss did = (tt, sees_question opening limit n question replies.OutOfBounds before after did.enters did.room, did.free)

  pub served_answer : (reply : Reply) (number : ℕ) → IsOpen (Ask question) reply → Hears opening limit n question reply number before after
      → IsAnswered limit n (Ask question) (Number number) before after
  served_answer reply number opened did = record {
    reply = reply;
    middle = between opening limit n question reply before after (Number number) did.enters did.room;
    opened = opened;
    asked = sees_asked opening limit n question reply before after (Number number) did.enters did.room;
    heard = sees_heard opening limit n question reply before after (Number number) did.enters did.room;
    free = did.free;
  }

  pub served_sleep : (reply : Reply) → IsOpen (Ask question) reply → Sleeps opening limit n question reply before after
      → IsAsked limit n (Ask question) before after
  served_sleep reply opened did = record {
    reply = reply;
    opened = opened;
    asked = sees_question opening limit n question reply before after did.enters did.room;
    waiting = did.waiting;
  }
