-- A caller that stands alone on its seat, and the events that it may try.
use prog.Atomic.{either}
use Rattle.std.proofs.Common.{ℕ, ◌≡◌, ◌+◌, ◌*◌, ◌^◌, ◌<◌, ◌≤◌, ◌∙◌, Bool, true, false, Option, length, subst, sym, ap, eqb, arith}
use Rattle.atomic_table.specs.Table.{Me, Allows}
use Rattle.atomic_table.specs.Seated.{TableId}
use Rattle.types.specs.declared.event.Event.{Event}
use Rattle.types.specs.declared.event.Event.TheVariants.{Size, Grow, Load, Store, Rmw, Cmpxchg, Ask, Told}
use Rattle.types.specs.declared.limits.TheConstants.{DESK_NAME}
use Rattle.types.specs.declared.event.Reply.{Reply}
use Rattle.shared_memory.specs.Events.{IsEvent, is_of_queue}
use Rattle.shared_memory.specs.Memory.{Memory}
use Rattle.shared_memory.specs.History.{memory_after}
use Rattle.shared_memory_on_table.specs.declared.view.Caller.{Caller}
use Rattle.shared_memory_on_table.specs.declared.view.View.{View}
use Rattle.shared_memory_on_table.specs.Moves.{caller_in}
use Rattle.shared_memory_on_table.specs.Rule.{StandsAlone}
use Rattle.word_row.specs.Answers.{end_of, is_access, place_of, Makes, IsMadeBy, exchange_answer, size_answer, word_answer}
use Rattle.word_row.specs.Rule.{FetchesAs, IsRow, KeptRow, MayTry, Steps, StepsAs, StoresAs}
use Rattle.word_row.proofs.Access.{place_in}
use Rattle.word_row.proofs.Fetching.{fetching, storing}
use Rattle.word_row.proofs.Moves.{notes, reads, exchanges}

-- what changes a word is no event of the queue
pub no_question : (max : ℕ) (event : Event) (word new : ℕ) → Makes max event word new → is_of_queue event ≡ true → ⊥
no_question max Size word new m q = m
no_question max (Grow more) word new m q = cc
no_question max (Load addr width reach) word new m q = m
no_question max (Store addr width reach value) word new m q = cc
no_question max (Rmw op addr width value) word new m q = cc
no_question max (Cmpxchg addr width expected replacement) word new m q = cc
no_question max (Ask question) word new m q = m
no_question max (Told answer) word new m q = m

-- What is known of the caller c on its seat of the row.
module _ (table own row : TableId) (opening key : Memory) (name : ℕ) (me : Me ℕ View) (c : Caller) (is : caller_in me.0 ≡ c)
    (stands : StandsAlone table opening name own me) (of : IsRow table opening row key) where
  pub may_try : (event : Event) → IsEvent event → (is_of_queue event ≡ true → c.has_queue_right ≡ true) → MayTry (caller_in me.0) event
  may_try event is_event right = record {
    known = subst (λ (n : ℕ). n ≤ DESK_NAME) stands.2 stands.4;
    is = is_event;
    right = λ q. subst (λ (x : Caller). x.has_queue_right ≡ true) (sym is) (right q);
  }

  pub within_seen : (event : Event) → end_of event ≤ length (memory_after opening c.seen).bytes
      → end_of event ≤ length (memory_after opening (caller_in me.0).seen).bytes
  within_seen event w = subst (λ (x : Caller). end_of event ≤ length (memory_after opening x.seen).bytes) (sym is) w

  pub on_row : own ≡ row
  on_row = stands.0 ∙ sym of.same

  -- the page count is one of its words
  pub first_word : 0 < row.words
  first_word = let count = of.count in omega arith

  -- and so is the word of an access
  pub its_word : (event : Event) (word : ℕ) → word ≡ place_of event → IsEvent event → end_of event ≤ length (memory_after opening c.seen).bytes
      → word < row.words
  its_word event word e is_event w =
      let inside : place_of event < 8192 * opening.max + 1 =
      place_in opening (caller_in me.0).seen event of.stored stands.3.entries is_event (within_seen event w) in
      let count = of.count in omega (arith, inside, count, e)

  -- Its steps for an event, which is the one that it tries.
  module _ (id : ℕ) (event tried : Event) (making : event ≡ tried) (is_event : IsEvent tried) where
    pub noting : (is_of_queue tried ≡ true → c.has_queue_right ≡ true) → (own ≡ row) × (0 < row.words) × Allows (KeptRow key) row.slots id me 0 (λ n. n)
        (λ n x. StepsAs opening false event (size_answer opening.max event n) 0 me n x)
    noting right = (
      on_row,
      first_word,
      subst (λ (k : Memory). Allows (KeptRow k) row.slots id me 0 (λ n. n) (λ n x. StepsAs opening false event (size_answer opening.max event n) 0 me n x))
          (sym of.key) (notes opening row.slots id me event stands.1
          (subst (λ (e : Event). MayTry (caller_in me.0) e) (sym making) (may_try tried is_event right))),
    )

    -- what a step tells of the caller and of the event that it tries
    pub stepped : (loses : Bool) (answer : Event → Option Reply) (place : Event → ℕ) (word found : ℕ) (after : Me ℕ View) → word ≡ place tried
        → StepsAs opening loses event (answer event) word me found after → Steps opening loses tried (answer tried) (place tried) c found (caller_in after.0)
    stepped loses answer place word found after at s =
        subst (λ (x : Caller). Steps opening loses tried (answer tried) (place tried) x found (caller_in after.0)) is
        (subst (λ (w : ℕ). Steps opening loses tried (answer tried) w (caller_in me.0) found (caller_in after.0)) at
        (subst (λ (e : Event). Steps opening loses e (answer e) word (caller_in me.0) found (caller_in after.0)) making s.1))

    -- on its word
    module _ (word : ℕ) (at : word ≡ place_of tried) (within : end_of tried ≤ length (memory_after opening c.seen).bytes) where
      there : place_of event ≡ word
      there = ap place_of making ∙ sym at

      ends : end_of event ≤ length (memory_after opening (caller_in me.0).seen).bytes
      ends = subst (λ (e : Event). end_of e ≤ length (memory_after opening (caller_in me.0).seen).bytes) (sym making) (within_seen tried within)

      pub reading : (is_of_queue tried ≡ true → c.has_queue_right ≡ true) → is_access tried ≡ true → (own ≡ row) × (word < row.words)
          × Allows (KeptRow key) row.slots id me word (λ n. n) (λ n x. StepsAs opening false event (word_answer event n) word me n x)
      reading right access = (
        on_row,
        its_word tried word at is_event within,
        subst (λ (k : Memory). Allows (KeptRow k) row.slots id me word (λ n. n) (λ n x. StepsAs opening false event (word_answer event n) word me n x))
            (sym of.key)
            (subst (λ (w : ℕ). Allows (KeptRow opening) row.slots id me w (λ n. n) (λ n x. StepsAs opening false event (word_answer event n) w me n x)) there
            (reads opening row.slots id me event stands.1 (subst (λ (e : Event). MayTry (caller_in me.0) e) (sym making) (may_try tried is_event right))
            (ap is_access making ∙ access) ends)),
      )

      pub exchanging : (old new : ℕ) → new < 2 ^ 64 → Makes opening.max tried old new → (own ≡ row) × (word < row.words)
          × Allows (KeptRow key) row.slots id me word (λ n. either (eqb n old) new n)
          (λ n x. StepsAs opening true event (exchange_answer event old n) word me n x)
      exchanging old new fits makes = (
        on_row,
        its_word tried word at is_event within,
        subst (λ (k : Memory). Allows (KeptRow k) row.slots id me word (λ n. either (eqb n old) new n)
            (λ n x. StepsAs opening true event (exchange_answer event old n) word me n x)) (sym of.key)
            (subst (λ (w : ℕ). Allows (KeptRow opening) row.slots id me w (λ n. either (eqb n old) new n)
            (λ n x. StepsAs opening true event (exchange_answer event old n) w me n x)) there
            (exchanges opening row.slots id old new me event stands.1
            (subst (λ (e : Event). MayTry (caller_in me.0) e) (sym making)
            (may_try tried is_event (λ q. absurd (no_question opening.max tried old new makes q))))
            ends fits (subst (λ (e : Event). Makes opening.max e old new) (sym making) makes))),
      )

      pub changing : (is_of_queue tried ≡ true → c.has_queue_right ≡ true) → (makes : ℕ → ℕ) → ((n : ℕ) → n < 2 ^ 64 → makes n < 2 ^ 64)
          → IsMadeBy tried makes → (own ≡ row) × (word < row.words)
          × Allows (KeptRow key) row.slots id me word makes (λ n x. FetchesAs opening event word me n x)
      changing right makes fits made_by = (
        on_row,
        its_word tried word at is_event within,
        fetching opening key row.slots id word me event tried of.key making stands.1 (may_try tried is_event right) (sym at) (within_seen tried within)
            makes fits made_by,
      )

      pub putting : (is_of_queue tried ≡ true → c.has_queue_right ≡ true) → (new : ℕ) → new < 2 ^ 64 → IsMadeBy tried (λ _. new)
          → (own ≡ row) × (word < row.words) × Allows (KeptRow key) row.slots id me word (λ _. new) (λ _ x. StoresAs opening event word me x)
      putting right new fits made_by = (
        on_row,
        its_word tried word at is_event within,
        storing opening key row.slots id word me event tried of.key making stands.1 (may_try tried is_event right) (sym at) (within_seen tried within)
            new fits made_by,
      )
