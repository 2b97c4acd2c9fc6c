-- A wait after a notify reads its word behind all that the notifier had seen.
use Rattle.std.proofs.Common.{◌≡◌, ◌≢◌, ℕ, ◌+◌, ℤ, List, [], ◌∷◌, ◌++◌, Option, refl, sym, ◌∙◌, ap, subst, inl, inr, append_assoc}
use Rattle.std.specs.Prelude.{nat_le, length}
use Rattle.std.proofs.lemmas.Bool.{cond_both, cases_eq}
use Rattle.types.specs.declared.event.Entry.{Entry}
use Rattle.types.specs.declared.event.Question.TheVariants.{Wait, Notify}
use Rattle.types.specs.declared.event.Reply.{Reply}
use Rattle.types.specs.declared.event.Reply.TheVariants.{Value, Done, OutOfBounds}
use Rattle.shared_memory.specs.Memory.{Memory, loaded, state_after, if_within}
use Rattle.shared_memory.specs.History.{memory_after}
use Rattle.shared_memory.specs.Legal.{IsMemoryLegal}
use Rattle.shared_memory.proofs.Histories.{memory_after-append, IsMemoryLegal-rest}
use Rattle.waiters_desk.specs.declared.answers.Asked.{Asked}
use Rattle.waiters_desk.specs.declared.answers.Asked.TheVariants as asked
use Rattle.waiters_desk.specs.declared.answers.Notified.{Notified}
use Rattle.waiters_desk.specs.declared.answers.Notified.TheVariants as notified
use Rattle.waiters_desk.specs.Calls.{asked_with, FindsRoom, Waits, Notifies}
use Rattle.waiters_desk.specs.Locks.{WaitAfterNotify, IsStoredAgain, ReadsAfter, ReadsBehind, WaitReads, NotifiesBehind}

-- a word that hasn't a value and has it after some entries was given it by one of them
stored_again : (at width value : ℕ) (m : Memory) (since : List Entry) → loaded m at width ≢ value → loaded (memory_after m since) at width ≡ value
    → IsStoredAgain m at width value since
stored_again at width value m [] differs is = absurd (differs is)
stored_again at width value m (e ∷ since) differs is =
    elim (cases_eq (loaded (state_after m e.event) at width) value) [
      | inl same ↦ record { front = []; changing = e; back = since; among = refl; before = differs; stored = same }
      | inr apart ↦ (let later : IsStoredAgain (state_after m e.event) at width value since = stored_again at width value (state_after m e.event)
          since apart is in
          record {
            front = e ∷ later.front;
            changing = later.changing;
            back = later.back;
            among = ap (λ w. e ∷ w) later.among;
            before = later.before;
            stored = later.stored;
          })
    ]

-- the value that a wait's reply has is the word's
value_read : (m : Memory) (at width value : ℕ) → Value value ≡ if_within m (at + width) (Value (loaded m at width)) OutOfBounds → value ≡ loaded m at width
value_read m at width value is =
    cond_both (nat_le (at + width) (length m.bytes)) (Value (loaded m at width)) OutOfBounds (λ (w : Reply). Value value ≡ w → value ≡ loaded m at width)
    (λ inside e. cc e) (λ outside e. absurd (cc e)) is

pub reads_after : (opening : Memory) (history : List Entry) → IsMemoryLegal opening history → (w : WaitAfterNotify history)
    → ReadsAfter opening w.seen (w.before ++ asked_with w.notifier (Notify w.addr w.count) w.reply ∷ w.between) w.at w.width w.value
reads_after opening history legal w = record {
  since = since;
  list = list;
  read = read;
  fresh = λ differs. stored_again w.at w.width w.value (memory_after opening w.seen) since differs (sym read_since);
}
  where
    notify : Entry
    notify = asked_with w.notifier (Notify w.addr w.count) w.reply

    wait : Entry
    wait = asked_with w.waiter (Wait w.at w.width w.expected w.timeout) (Value w.value)

    upto : List Entry
    upto = w.before ++ notify ∷ w.between

    since : List Entry
    since = w.had_seen.0 ++ notify ∷ w.between

    list : upto ≡ w.seen ++ since
    list = ap (λ l. l ++ notify ∷ w.between) (sym w.had_seen.1) ∙ append_assoc w.seen w.had_seen.0 (notify ∷ w.between)

    split : history ≡ upto ++ wait ∷ w.after
    split = w.stands ∙ sym (append_assoc w.before (notify ∷ w.between) (wait ∷ w.after))

    read : w.value ≡ loaded (memory_after opening upto) w.at w.width
    read =
        value_read (memory_after opening upto) w.at w.width w.value
        (IsMemoryLegal-rest opening upto (wait ∷ w.after) (subst (IsMemoryLegal opening) split legal)).0

    read_since : w.value ≡ loaded (memory_after (memory_after opening w.seen) since) w.at w.width
    read_since = read ∙ ap (λ (m : Memory). loaded m w.at w.width) (ap (memory_after opening) list ∙ memory_after-append opening w.seen since)

-- a wait's value is read behind any front of the list before it
reads_behind : (opening : Memory) (limit : Option ℕ) (n addr width expected : ℕ) (timeout : ℤ) (value : ℕ) (before after : List Entry)
    → IsMemoryLegal opening after → FindsRoom limit n (Wait addr width expected timeout) (Value value) before after
    → ReadsBehind opening n addr width expected timeout value before after
reads_behind opening limit n addr width expected timeout value before after legal found = record {
  upto = before ++ found.others;
  rest = found.rest;
  stands = found.list;
  reads = record {
    since = found.others;
    list = refl;
    read = read;
    fresh = λ differs. stored_again addr width value (memory_after opening before) found.others differs
        (sym (read ∙ ap (λ (m : Memory). loaded m addr width) (memory_after-append opening before found.others)));
  };
}
  where
    read : value ≡ loaded (memory_after opening (before ++ found.others)) addr width
    read =
        value_read (memory_after opening (before ++ found.others)) addr width value
        (IsMemoryLegal-rest opening (before ++ found.others) (asked_with n (Wait addr width expected timeout) (Value value) ∷ found.rest)
        (subst (IsMemoryLegal opening) found.list legal)).0

pub wait_reads : (opening : Memory) (limit : Option ℕ) (n addr width expected : ℕ) (timeout : ℤ) (before after : List Entry) (got : Asked)
    → Waits opening limit n addr width expected timeout before after got
    → WaitReads opening n addr width expected timeout before after got
wait_reads opening limit n addr width expected timeout before after asked.OutOfBounds did = tt
wait_reads opening limit n addr width expected timeout before after (asked.Told number) did =
    (did.0, reads_behind opening limit n addr width expected timeout did.0 before after did.1.enters.seen.legal did.1.room, did.2)
wait_reads opening limit n addr width expected timeout before after asked.Asleep did =
    reads_behind opening limit n addr width expected timeout expected before after did.0.enters.seen.legal did.0.room

-- a wait behind a notify reads behind what the notifier had seen
notifies_behind : (opening : Memory) (limit : Option ℕ) (n addr count : ℕ) (reply : Reply) (before after : List Entry)
    → FindsRoom limit n (Notify addr count) reply before after
    → NotifiesBehind opening n addr count before after
notifies_behind opening limit n addr count reply before after found = record {
  reply = reply;
  upto = before ++ found.others;
  rest = found.rest;
  had_seen = (found.others, refl);
  stands = found.list;
  read_later = λ between later waiter at width expected timeout value legal.
      reads_after opening ((before ++ found.others) ++ asked_with n (Notify addr count) reply
      ∷ (between ++ asked_with waiter (Wait at width expected timeout) (Value value) ∷ later)) legal (record {
        notifier = n;
        addr = addr;
        count = count;
        reply = reply;
        seen = before;
        before = before ++ found.others;
        had_seen = (found.others, refl);
        waiter = waiter;
        at = at;
        width = width;
        expected = expected;
        timeout = timeout;
        value = value;
        between = between;
        after = later;
        stands = refl;
      });
}

pub notify_behind : (opening : Memory) (limit : Option ℕ) (n addr count : ℕ) (before after : List Entry) (got : Notified)
    → Notifies opening limit n addr count before after got → NotifiesBehind opening n addr count before after
notify_behind opening limit n addr count before after notified.OutOfBounds did =
    notifies_behind opening limit n addr count OutOfBounds before after did.room
notify_behind opening limit n addr count before after (notified.Woke number) did = notifies_behind opening limit n addr count Done before after did.room
