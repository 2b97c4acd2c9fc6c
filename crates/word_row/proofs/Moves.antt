-- Each move of the seats, and each step of a caller, keeps the rule.
use Rattle.std.proofs.Common.{◌≡◌, ℕ, ◌^◌, ◌<◌, ◌≤◌, Bool, true, false, List, [], ◌∷◌, ◌++◌, length, set, get_or, Option}
use Rattle.std.proofs.Common.{Some, None, refl, sym, ap, ◌∙◌, subst, ⊎_elim, arith, eqb}
use mathlib.Core.Option.{some}
use lib.ListN.{get_elem?}
use prog.Atomic.{either}
use Rattle.std.proofs.lemmas.List.Elements.{All-nil, All-cons}
use Rattle.atomic_table.specs.Table.{State, Me, Act, keeps, Valid, carried_after, Allows, Enters, stepped, opening}
use Rattle.atomic_table.proofs.Lists.{at_snoc}
use Rattle.types.specs.declared.event.Entry.{Entry}
use Rattle.types.specs.declared.event.Event.{Event}
use Rattle.types.specs.declared.event.Reply.{Reply}
use Rattle.shared_memory.specs.Memory.{Memory, reply_of}
use Rattle.shared_memory.specs.History.{entry, IsEntry, AreEntries, memory_after}
use Rattle.shared_memory.specs.Access.{IsSeen}
use Rattle.shared_memory.proofs.Histories.{memory_after-append, IsMemoryLegal-entry, AreEntries-append, AreEntries-prefix, AreEntries-rest}
use Rattle.shared_memory_on_table.specs.declared.view.Caller.{Caller}
use Rattle.shared_memory_on_table.specs.declared.view.View.{View}
use Rattle.shared_memory_on_table.specs.Callers.{GoesOn, named, rights, keepers, seeing, losing_if}
use Rattle.shared_memory_on_table.specs.Moves.{IsOne, caller_in, alone, nobody}
use Rattle.shared_memory_on_table.specs.Seating.{Fits}
use Rattle.shared_memory_on_table.specs.Rule.{opened}
use Rattle.shared_memory_on_table.proofs.GoingOn.{goes_on-self}
use Rattle.shared_memory_on_table.proofs.Totals.{total-push}
use Rattle.shared_memory_on_table.proofs.Seating.{seated-change, seated-push, seated-open}
use Rattle.word_row.specs.Words.{words_of, IsStored}
use Rattle.word_row.specs.Answers.{end_of, is_access, place_of, size_answer, word_answer, Makes, made_reply, exchange_answer, IsMadeBy}
use Rattle.word_row.specs.Rule.{KeptRow, MayTry, StepsAs, FetchesAs, StoresAs, IsEmpty}
use Rattle.word_row.proofs.Memories.{Outlasts, outlasts}
use Rattle.word_row.proofs.Settling.{Settles, size_settles, word_settles, made, exchange_settles}

abbrev L : Type 0
L = List Entry

abbrev M : Type 0
M = Me ℕ View

abbrev S : Type 0
S = State ℕ View

-- the history with one entry more is seen
seen-entry : (m : Memory) (log : L) (c : Caller) (event : Event) (reply : Reply) → MayTry c event → IsSeen m log → reply ≡ reply_of (memory_after m log) event
    → IsSeen m (log ++ entry c.name event reply ∷ [])
seen-entry m log c event reply may seen is = record {
  legal = IsMemoryLegal-entry m log c.name event reply seen.legal is;
  entries = AreEntries-append log (entry c.name event reply ∷ []) seen.entries
      (All-cons IsEntry (entry c.name event reply) [] (record { named = may.known; event = may.is }) (All-nil IsEntry));
}

-- What a step settles of every memory that the caller may find.
abbrev pub SettlesAll : Memory → Caller → Event → (ℕ → Option Reply) → ℕ → (ℕ → ℕ) → Type 0
SettlesAll opening c event answer place makes =
    (later : Memory) → Outlasts opening later → length (memory_after opening c.seen).bytes ≤ length later.bytes
    → let found = get_or (words_of later) place 0 in found < 2 ^ 64 → Settles later event (answer found) place (makes found)

-- what the caller has seen of the memory is no longer than what there is
pub later_than : (m : Memory) (c : Caller) (log : L) → IsStored m → AreEntries log → GoesOn c log
    → length (memory_after m c.seen).bytes ≤ length (memory_after m log).bytes
later_than m c log s all goes =
    let split : log ≡ c.seen ++ goes.0 = goes.1.list in
    let entries : AreEntries (c.seen ++ goes.0) = subst AreEntries split all in
    let first = outlasts m c.seen s (front c.seen goes.0 entries) in
    let step = outlasts (memory_after m c.seen) goes.0 first.stored (AreEntries-rest c.seen goes.0 entries) in
    subst (λ (x : Memory). length (memory_after m c.seen).bytes ≤ length x.bytes)
    (sym (ap (memory_after m) split ∙ memory_after-append m c.seen goes.0)) step.length
  where
    front : (xs ys : L) → AreEntries (xs ++ ys) → AreEntries xs
    front = AreEntries-prefix

-- A step on one word, by what the word settles.
module _ (m : Memory) (loses : Bool) (slots id place : ℕ) (c : Caller) (event : Event) (answer : ℕ → Option Reply) (makes : ℕ → ℕ)
    (may : MayTry c event) (settles : SettlesAll m c event answer place makes) where
  steps_from : (s : S) (r : KeptRow m s) → get_elem? s.views id ≡ some (alone c) → (found : ℕ) → get_or s.words place 0 ≡ found
      → (a : Option Reply) → Settles (memory_after m r.log) event a place (makes found)
      → (w : View) × (act : Act ℕ) × Valid s.homes [] act × KeptRow m (stepped s place (makes found) id [] w act)
      × StepsAs m loses event a place (alone c, []) found (w, carried_after [] act)
  steps_from s r at found is None settled =
      let w = alone (losing_if loses (seeing r.log c)) in
      let goes = (r.seated.each id (alone c) at).begins in (
        w,
        keeps,
        tt,
        record {
          log = r.log;
          words = record {
            stored = r.words.stored;
            seen = r.words.seen;
            are = ap (λ (ws : List ℕ). set ws place (makes found)) r.words.are ∙ settled;
          };
          seated = seated-change 0 r.log s.views id (alone c) w r.seated at refl (λ n. refl) refl
              (record { knows = λ h. absurd (cc (h)); begins = (goes_on-self (losing_if loses (seeing r.log c)), tt) });
        },
        (
          refl,
          record {
            log = r.log;
            goes_on = goes.0;
            list = refl;
            seen = r.words.seen;
            word = ap (λ (ws : List ℕ). get_or ws place 0) (sym r.words.are) ∙ is;
          },
        ),
      )
  steps_from s r at found is (Some reply) settled =
      let e : Entry = entry c.name event reply in
      let now : L = r.log ++ e ∷ [] in
      let w = alone (seeing now c) in
      let goes = (r.seated.each id (alone c) at).begins in
      let seen : IsSeen m now = seen-entry m r.log c event reply may r.words.seen settled.0 in (
        w,
        keeps,
        tt,
        record {
          log = now;
          words = record {
            stored = r.words.stored;
            seen = seen;
            are = ap (λ (ws : List ℕ). set ws place (makes found)) r.words.are
                ∙ sym settled.1
                ∙ ap words_of (sym (memory_after-append m r.log (e ∷ [])));
          };
          seated = seated-push 0 r.log s.views id (alone c) c e w r.seated at refl refl may.right (omega arith) refl (λ h. absurd (cc (h))) refl;
        },
        (refl, record { log = r.log; goes_on = goes.0; list = refl; seen = seen; word = ap (λ (ws : List ℕ). get_or ws place 0) (sym r.words.are) ∙ is }),
      )

  steps_at : Allows (KeptRow m) slots id (alone c, []) place makes (λ n x. StepsAs m loses event (answer n) place (alone c, []) n x)
  steps_at s r _ at small =
      let found : ℕ = get_or s.words place 0 in
      let now : ℕ = get_or (words_of (memory_after m r.log)) place 0 in
      let same : now ≡ found = ap (λ (ws : List ℕ). get_or ws place 0) (sym r.words.are) in
      let goes = (r.seated.each id (alone c) at).begins in
      let settled = settles (memory_after m r.log) (outlasts m r.log r.words.stored r.words.seen.entries)
      (later_than m c r.log r.words.stored r.words.seen.entries goes.0) (subst (λ (n : ℕ). n < 2 ^ 64) (sym same) small) in
      steps_from s r at found refl (answer found) (subst (λ (n : ℕ). Settles (memory_after m r.log) event (answer n) place (makes n)) same settled)

steps : (m : Memory) (loses : Bool) (slots id place : ℕ) (me : M) (event : Event) (answer : ℕ → Option Reply) (makes : ℕ → ℕ) → IsOne me →
    MayTry (caller_in me.0) event
    → SettlesAll m (caller_in me.0) event answer place makes → Allows (KeptRow m) slots id me place makes (λ n x. StepsAs m loses event (answer n) place me n x)
steps m loses slots id place me event answer makes one may settles =
    subst (λ (x : M). Allows (KeptRow m) slots id x place makes (λ n y. StepsAs m loses event (answer n) place x n y)) (sym one)
    (steps_at m loses slots id place (caller_in me.0) event answer makes may settles)

-- A load of the size word.
pub notes : (m : Memory) (slots id : ℕ) (me : M) (event : Event) → IsOne me → MayTry (caller_in me.0) event
    → Allows (KeptRow m) slots id me 0 (λ n. n) (λ n x. StepsAs m false event (size_answer m.max event n) 0 me n x)
notes m slots id me event one may =
    steps m false slots id 0 me event (λ n. size_answer m.max event n) (λ n. n) one may
    (λ later o _ _. subst (λ (most : ℕ). Settles later event (size_answer most event (get_or (words_of later) 0 0)) 0
    (get_or (words_of later) 0 0)) o.max (size_settles later event o.stored))

-- A load of a data word, by a caller that has seen that the access lies within the memory.
pub reads : (m : Memory) (slots id : ℕ) (me : M) (event : Event) → IsOne me → MayTry (caller_in me.0) event → is_access event ≡ true
    → end_of event ≤ length (memory_after m (caller_in me.0).seen).bytes
    → Allows (KeptRow m) slots id me (place_of event) (λ n. n) (λ n x. StepsAs m false event (word_answer event n) (place_of event) me n x)
reads m slots id me event one may access within =
    steps m false slots id (place_of event) me event (λ n. word_answer event n)
    (λ n. n) one may (λ later o more _. word_settles later event o.stored may.is access (omega arith))

-- A compare-exchange of a word.
pub exchanges : (m : Memory) (slots id old new : ℕ) (me : M) (event : Event) → IsOne me → MayTry (caller_in me.0) event
    → end_of event ≤ length (memory_after m (caller_in me.0).seen).bytes → new < 2 ^ 64 → Makes m.max event old new
    → Allows (KeptRow m) slots id me (place_of event) (λ n. either (eqb n old) new n)
    (λ n x. StepsAs m true event (exchange_answer event old n) (place_of event) me n x)
exchanges m slots id old new me event one may within fits makes =
    steps m true slots id (place_of event) me event (λ n. exchange_answer event old n) (λ n. either (eqb n old) new n) one may
    (λ later o more _. exchange_settles later event old new o.stored may.is (omega arith) fits
    (subst (λ (most : ℕ). Makes most event old new) (sym o.max) makes))

-- A single exchange of a word, by a caller that has seen that the access lies within the memory.
pub fetches : (m : Memory) (slots id : ℕ) (me : M) (event : Event) (makes : ℕ → ℕ) → IsOne me → MayTry (caller_in me.0) event
    → end_of event ≤ length (memory_after m (caller_in me.0).seen).bytes
    → ((word : ℕ) → word < 2 ^ 64 → makes word < 2 ^ 64) → IsMadeBy event makes
    → Allows (KeptRow m) slots id me (place_of event) makes (λ n x. FetchesAs m event (place_of event) me n x)
fetches m slots id me event makes one may within fits made_by =
    steps m false slots id (place_of event) me event (λ n. Some (made_reply event n)) makes one may
    (λ later o more small.
    let found : ℕ = get_or (words_of later) (place_of event) 0 in
    let d = made later event found (makes found) o.stored may.is (omega arith) (fits found small) (made_by later.max found small) refl in
    (d.reply, d.words))

-- A store of a word, which tells no word.
pub stores : (m : Memory) (slots id new : ℕ) (me : M) (event : Event) → IsOne me → MayTry (caller_in me.0) event
    → end_of event ≤ length (memory_after m (caller_in me.0).seen).bytes → new < 2 ^ 64 → IsMadeBy event (λ _. new)
    → Allows (KeptRow m) slots id me (place_of event) (λ _. new) (λ _ x. StoresAs m event (place_of event) me x)
stores m slots id new me event one may within fits made_by s r long at small =
    let a = fetches m slots id me event (λ _. new) one may within (λ _ _. fits) made_by s r long at small in
    (a.0, a.1, a.2, a.3, (get_or s.words (place_of event) 0, a.4))

-- A new seat on which nobody stands.
pub arrives : (m : Memory) (slots : ℕ) → Enters (KeptRow m) slots 0 (λ n w. IsEmpty (w, []))
arrives m slots s r _ _ = (
  nobody,
  record {
    log = r.log;
    words = r.words;
    seated = record {
      few_keepers = let t = total-push keepers s.views nobody in let o = r.seated.few_keepers in omega arith;
      one_name = λ n. let t = total-push (named n) s.views nobody in let o = r.seated.one_name n in omega arith;
      one_right = let t = total-push rights s.views nobody in let o = r.seated.one_right in omega arith;
      each = λ j u e. ⊎_elim
          (λ (t : get_elem? s.views j ≡ some u). r.seated.each j u t)
          (λ (t : nobody ≡ u). subst (λ (y : View). Fits r.log y) t (record { knows = λ h. absurd (cc (h)); begins = tt }))
          (at_snoc s.views nobody u j e);
    };
  },
  refl,
)

-- The opening.
pub opens : (m : Memory) → IsStored m → KeptRow m (opening (words_of m) [] (opened false))
opens m s = record {
  log = [];
  words = record { stored = s; seen = record { legal = tt; entries = All-nil IsEntry }; are = refl };
  seated = seated-open 0 (opened false) (omega arith) refl refl;
}
