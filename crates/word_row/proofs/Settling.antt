-- What a step on one word settles is what the sequential memory answers, and the word is what it leaves.
use Rattle.std.proofs.Common.{◌≡◌, ◌≢◌, ℕ, suc, ◌+◌, ◌*◌, ◌/◌, ◌%◌, ◌^◌, ◌<◌, ◌≤◌, Bool, true, false, true≢false, cond, List, [], ◌∷◌, ◌++◌, length}
use Rattle.std.proofs.Common.{take, drop, set, get_or, Option, Some, None, refl, sym, ap, ap₂, ◌∙◌, ◌⊎◌, subst, arith, eqb, eqb-true, eq-eqb, ⊎_elim, inl, inr}
use Rattle.std.specs.Prelude.{nat_le}
use Rattle.std.proofs.lemmas.Bool.{leb-true, leb-false}
use Rattle.std.proofs.lemmas.List.{length-drop, take_more}
use prog.Atomic.{either}
use Rattle.types.specs.declared.event.Event.{Event}
use Rattle.types.specs.declared.event.Event.TheVariants.{Size, Grow, Load, Store, Rmw, Cmpxchg, Ask, Told}
use Rattle.types.specs.declared.event.Question.TheVariants.{Wait, Notify, Spawn, Leave}
use Rattle.types.specs.declared.event.Reply.{Reply}
use Rattle.types.specs.declared.event.Reply.TheVariants.{Value, Done, OutOfBounds, Again, Full}
use Rattle.types.specs.declared.limits.TheConstants.{PAGE_SIZE}
use Rattle.shared_memory.specs.Numbers.{le_number, le_bytes}
use Rattle.shared_memory.specs.Memory.{Memory, pages, loaded, written, combined, can_grow, grown, if_within, reply_of, state_after, word_at, touched}
use Rattle.shared_memory.specs.Events.{IsEvent, IsPart, IsAtomic, may_lose}
use Rattle.shared_memory_sequential.specs.Words.{lane_of, IsWithLane}
use Rattle.shared_memory_sequential.proofs.Memories.{loaded_is_lane, splice_is_with_lane}
use Rattle.word_row.specs.Words.{data_words, words_of, IsStored}
use Rattle.word_row.specs.Answers.{end_of, is_access, place_of, refusal, size_answer, word_answer, Makes, made_reply, exchange_answer}
use Rattle.shared_memory_on_table.proofs.Moves.{set_back}
use Rattle.word_row.proofs.Words.{data_words-at, data_words-set, data_words-zeros, eight_bytes, AreBytes-drop}
use Rattle.word_row.proofs.Memories.{whole_pages, length-written, length-grown, length-words_of}

-- What a step settles of an event, where it leaves a new word at a place: the sequential memory's reply and the words
-- after it; or nothing, and then no word changes.
abbrev pub Settles : Memory → Event → Option Reply → ℕ → ℕ → Type 0
Settles m event None place new = set (words_of m) place new ≡ words_of m
Settles m event (Some reply) place new = (reply ≡ reply_of m event) × (words_of (state_after m event) ≡ set (words_of m) place new)

-- a memory that stays as it is, word 0 written back
stays : (m : Memory) (event : Event) (reply : Reply) → reply ≡ reply_of m event → state_after m event ≡ m → Settles m event (Some reply) 0 (pages m)
stays m event reply is after = (is, ap words_of after)

-- an access that ends past the pages is refused
refused : (m : Memory) (event : Event) (end : ℕ) → IsStored m
    → (nat_le end (length m.bytes) ≡ false → (OutOfBounds ≡ reply_of m event) × (state_after m event ≡ m))
    → Settles m event (refusal end (pages m)) 0 (pages m)
refused m event end s outside =
    subst (λ (n : ℕ). Settles m event (cond (nat_le end n) None (Some OutOfBounds)) 0 (pages m)) (sym (whole_pages m s))
    (by_test (nat_le end (length m.bytes)) refl)
  where
    by_test : (b : Bool) → nat_le end (length m.bytes) ≡ b → Settles m event (cond b None (Some OutOfBounds)) 0 (pages m)
    by_test true e = refl
    by_test false e = let o = outside e in stays m event OutOfBounds o.0 o.1

-- past the end the one, and within it the other
outside_is : {A : Type 0} → (m : Memory) (end : ℕ) (a b : A) → nat_le end (length m.bytes) ≡ false → if_within m end a b ≡ b
outside_is m end a b e = ap (λ t. cond t a b) e

inside_is : {A : Type 0} → (m : Memory) (end : ℕ) (a b : A) → end ≤ length m.bytes → if_within m end a b ≡ a
inside_is m end a b h = by_test (nat_le end (length m.bytes)) refl
  where
    by_test : (t : Bool) → nat_le end (length m.bytes) ≡ t → cond t a b ≡ a
    by_test true e = refl
    by_test false e = absurd (let k = leb-false end (length m.bytes) e in omega arith)

-- The page count settles what it settles as the sequential memory does.
pub size_settles : (m : Memory) (event : Event) → IsStored m → Settles m event (size_answer m.max event (pages m)) 0 (pages m)
size_settles m Size s = (refl, refl)
size_settles m (Grow more) s = by_test (can_grow m more) refl
  where
    by_test : (b : Bool) → can_grow m more ≡ b → Settles m (Grow more) (cond b None (Some (Value 4294967295))) 0 (pages m)
    by_test true e = refl
    by_test false e = (ap (λ b. Value (cond b (pages m) 4294967295)) (sym e), ap (λ b. words_of (cond b (grown m more) m)) e)
size_settles m (Load addr width reach) s = refused m (Load addr width reach) reach s (λ e. (sym (outside_is m reach _ _ e), refl))
size_settles m (Store addr width reach value) s =
    refused m (Store addr width reach value) reach s (λ e. (sym (outside_is m reach _ _ e), outside_is m reach _ _ e))
size_settles m (Rmw op addr width value) s = refused m (Rmw op addr width value)
    (addr + width) s (λ e. (sym (outside_is m (addr + width) _ _ e), outside_is m (addr + width) _ _ e))
size_settles m (Cmpxchg addr width expected replacement) s =
    refused m (Cmpxchg addr width expected replacement) (addr + width) s (λ e. (sym (outside_is m (addr + width) _ _ e), outside_is m (addr + width) _ _ e))
size_settles m (Ask (Wait addr width expected timeout)) s = refused m (Ask (Wait addr width expected timeout))
    (addr + width) s (λ e. (sym (outside_is m (addr + width) _ _ e), refl))
size_settles m (Ask (Notify addr woken)) s = (ap (λ n. cond (nat_le (addr + 4) n) Done OutOfBounds) (whole_pages m s), refl)
size_settles m (Ask (Spawn arg)) s = (refl, refl)
size_settles m (Ask Leave) s = (refl, refl)
size_settles m (Told answer) s = (refl, refl)

-- The data word at an address within the memory.

word_of : Memory → ℕ → ℕ
word_of m addr = get_or (words_of m) (addr / 8 + 1) 0

-- The word that holds an address lies within the memory, and within its maximum.
pub record Holds (m : Memory) (addr : ℕ) : Type 0 where
  pub inside : addr / 8 * 8 + 8 ≤ length m.bytes
  pub counted : addr / 8 < 8192 * m.max

pub holds : (m : Memory) (addr : ℕ) → IsStored m → addr < length m.bytes → Holds m addr
holds m addr s h = let whole = s.sized.whole in let within = s.sized.within in record { inside = omega arith; counted = omega arith }

next_place : (ws : List ℕ) (x k : ℕ) → get_or (x ∷ ws) (k + 1) 0 ≡ get_or ws k 0
next_place ws x k = let e : k + 1 ≡ suc k = omega arith in ap (λ n. get_or (x ∷ ws) n 0) e

next_set : (ws : List ℕ) (x k new : ℕ) → set (x ∷ ws) (k + 1) new ≡ x ∷ set ws k new
next_set ws x k new = let e : k + 1 ≡ suc k = omega arith in ap (λ n. set (x ∷ ws) n new) e

-- the word as the number of its bytes, and its bytes
word_is : (m : Memory) (addr : ℕ) → Holds m addr → word_of m addr ≡ le_number (word_at m addr)
unfolding word_of
word_is m addr h = next_place (data_words (8192 * m.max) m.bytes) (pages m) (addr / 8) ∙ data_words-at (8192 * m.max) (addr / 8) m.bytes h.counted

word_bytes : (m : Memory) (addr : ℕ) → IsStored m → Holds m addr → word_at m addr ≡ le_bytes 8 (word_of m addr)
word_bytes m addr s h =
    eight_bytes (drop (addr / 8 * 8) m.bytes) (AreBytes-drop (addr / 8 * 8) m.bytes s.bytes)
    (let i = h.inside in omega (arith, length-drop (addr / 8 * 8) m.bytes))
    ∙ ap (le_bytes 8) (sym (word_is m addr h))

-- An access of some bytes that lie in one word.
pub record InWord (addr width : ℕ) : Type 0 where
  pub some : 1 ≤ width
  pub one_word : addr % 8 + width ≤ 8

part_in_word : (addr width reach : ℕ) → IsPart addr width reach → InWord addr width
part_in_word addr width reach part = record { some = part.some; one_word = part.one_word }

pub atomic_in_word : (addr width : ℕ) → IsAtomic addr width → InWord addr width
atomic_in_word addr width atomic =
    let zero_rest : (w : ℕ) → w ≡ width → addr % w ≡ 0 = λ w e. subst (λ (k : ℕ). addr % k ≡ 0) (sym e) atomic.aligned in
    elim atomic.of_width [
      | inl one ↦ record { some = omega arith; one_word = omega arith }
      | inr others ↦ elim others [
        | inl two ↦ (let z = zero_rest 2 (sym two) in record { some = omega arith; one_word = omega arith })
        | inr more ↦ elim more [
          | inl four ↦ (let z = zero_rest 4 (sym four) in record { some = omega arith; one_word = omega arith })
          | inr eight ↦ (let z = zero_rest 8 (sym eight) in record { some = omega arith; one_word = omega arith })
        ]
      ]
    ]

-- a wait is aligned as an atomic access is
pub wait_atomic : (addr width : ℕ) → (width ≡ 4) ⊎ (width ≡ 8) → addr % width ≡ 0 → IsAtomic addr width
wait_atomic addr width of_width aligned = record {
  of_width = ⊎_elim (λ four. inr (inr (inl four)))
      (λ eight. inr (inr (inr eight))) of_width;
  aligned = aligned;
}

-- what is loaded there is a lane of the word
loaded_is : (m : Memory) (addr width : ℕ) → IsStored m → InWord addr width → addr + width ≤ length m.bytes
    → lane_of (word_of m addr) addr width ≡ loaded m addr width
loaded_is m addr width s lies within = let some = lies.some in
    sym (loaded_is_lane m.bytes (word_of m addr) addr width lies.one_word (word_bytes m addr s (holds m addr s (omega arith))))

-- what is written there is a lane replaced in the word
words_written : (m : Memory) (addr width value new : ℕ) → IsStored m → InWord addr width → addr + width ≤ length m.bytes → new < 2 ^ 64
    → IsWithLane (word_of m addr) addr width value new → words_of (written m addr width value) ≡ set (words_of m) (addr / 8 + 1) new
words_written m addr width value new s lies within fits is =
    let some = lies.some in
    let h = holds m addr s (omega arith) in
    let count : pages (written m addr width value) ≡ pages m = ap (λ n. n / PAGE_SIZE) (length-written m addr width value within) in
    let replaced = splice_is_with_lane m.bytes (word_of m addr) addr width value new lies.one_word (word_bytes m addr s h) is in
    ap₂ (λ x xs. x ∷ xs) count (ap (data_words (8192 * m.max)) replaced ∙ data_words-set (8192 * m.max) (addr / 8) m.bytes new h.counted h.inside fits)
    ∙ sym (next_set (data_words (8192 * m.max) m.bytes) (pages m) (addr / 8) new)

-- and the new pages are the zeros that stand there
words_grown : (m : Memory) (more : ℕ) → IsStored m → words_of (grown m more) ≡ set (words_of m) 0 (pages m + more)
words_grown m more s =
    let long = length-grown m more in
    let whole = s.sized.whole in
    let count : pages (grown m more) ≡ pages m + more = ap (λ n. n / PAGE_SIZE) long
    ∙ (let e : (length m.bytes + PAGE_SIZE * more) / PAGE_SIZE ≡ pages m + more = omega arith in e) in
    ap₂ (λ x xs. x ∷ xs) count (data_words-zeros (8192 * m.max) (length m.bytes / 8) (PAGE_SIZE * more) m.bytes (omega arith))

-- A lane of the word that holds an address is what is loaded there.
pub lane_is_loaded : (m : Memory) (addr width word : ℕ) → IsStored m → InWord addr width
    → addr + width ≤ length m.bytes → get_or (words_of m) (addr / 8 + 1) 0 ≡ word
    → lane_of word addr width ≡ loaded m addr width
unfolding word_of
lane_is_loaded m addr width word s lies within is = ap (λ w. lane_of w addr width) (sym is) ∙ loaded_is m addr width s lies within

-- The words of a memory, one by one.
pub words_of-more : (m : Memory) (k : ℕ) → k < 8192 * m.max
    → take (k + 1 + 1) (words_of m) ≡ take (k + 1) (words_of m) ++ le_number (take 8 (drop (8 * k) m.bytes)) ∷ []
words_of-more m k h =
    let ws : List ℕ = words_of m in
    let long : k + 1 < length ws = omega (arith, length-words_of m) in
    let word : get_or ws (k + 1) 0 ≡ le_number (take 8 (drop (8 * k) m.bytes)) =
    next_place (data_words (8192 * m.max) m.bytes) (pages m) k ∙ data_words-at (8192 * m.max) k m.bytes h
    ∙ ap (λ n. le_number (take 8 (drop n m.bytes))) (let e : k * 8 ≡ 8 * k = omega arith in e) in
    take_more ws (k + 1) 0 long ∙ ap (λ w. take (k + 1) ws ++ w ∷ []) word

-- The place of a word is one of the memory's words.
pub place_within : (m : Memory) (event : Event) → IsStored m → IsEvent event → end_of event ≤ length m.bytes → place_of event < 8192 * m.max + 1
place_within m Size s is h = omega arith
place_within m (Grow more) s is h = omega arith
place_within m (Load addr width reach) s is h = let some = is.some in let ends = is.ends in let at = (holds m addr s (omega arith)).counted in omega arith
place_within m (Store addr width reach value) s is h = let part = is.0 in let some = part.some in let ends = part.ends in
    let at = (holds m addr s (omega arith)).counted in omega arith
place_within m (Rmw op addr width value) s is h = let some = (atomic_in_word addr width is.0).some in
    let at = (holds m addr s (omega arith)).counted in omega arith
place_within m (Cmpxchg addr width expected replacement) s is h = let some = (atomic_in_word addr width is.0).some in
    let at = (holds m addr s (omega arith)).counted in omega arith
place_within m (Ask (Wait addr width expected timeout)) s is h = let some = (atomic_in_word addr width (wait_atomic addr width is.0 is.1)).some in
    let at = (holds m addr s (omega arith)).counted in omega arith
place_within m (Ask (Notify addr woken)) s is h = omega arith
place_within m (Ask (Spawn arg)) s is h = omega arith
place_within m (Ask Leave) s is h = omega arith
place_within m (Told answer) s is h = omega arith

-- The word of an access within bounds settles what it settles as the sequential memory does.
pub word_settles : (m : Memory) (event : Event) → IsStored m → IsEvent event → is_access event ≡ true → end_of event ≤ length m.bytes
    → let word = get_or (words_of m) (place_of event) 0 in Settles m event (word_answer event word) (place_of event) word
unfolding word_of
word_settles m Size s is a h = absurd (true≢false (sym a))
word_settles m (Grow more) s is a h = absurd (true≢false (sym a))
word_settles m (Load addr width reach) s is a h =
    let ends = is.ends in (
      ap Value (loaded_is m addr width s (part_in_word addr width reach is) (omega arith)) ∙ sym (inside_is m reach _ OutOfBounds h),
      sym (set_back (words_of m) (addr / 8 + 1)),
    )
word_settles m (Store addr width reach value) s is a h = set_back (words_of m) (addr / 8 + 1)
word_settles m (Rmw op addr width value) s is a h = set_back (words_of m) (addr / 8 + 1)
word_settles m (Cmpxchg addr width expected replacement) s is a h = by_test (eqb (lane_of (word_of m addr) addr width) expected) refl
  where
    by_test : (b : Bool) → eqb (lane_of (word_of m addr) addr width) expected ≡ b
        → Settles m (Cmpxchg addr width expected replacement) (cond b None (Some (Value (lane_of (word_of m addr) addr width)))) (addr / 8 + 1) (word_of m addr)
    by_test true e = set_back (words_of m) (addr / 8 + 1)
    by_test false e =
        let lane = loaded_is m addr width s (atomic_in_word addr width is.0) h in
        let other : eqb (loaded m addr width) expected ≡ false = ap (λ n. eqb n expected) (sym lane) ∙ e in (
          ap Value lane ∙ sym (inside_is m (addr + width) _ OutOfBounds h),
          ap words_of (inside_is m (addr + width) _ m h ∙ ap (λ t. cond t (written m addr width replacement) m) other)
              ∙ sym (set_back (words_of m) (addr / 8 + 1)),
        )
word_settles m (Ask (Wait addr width expected timeout)) s is a h =
    let atomic : IsAtomic addr width = wait_atomic addr width is.0 is.1 in (
      ap Value (loaded_is m addr width s (atomic_in_word addr width atomic) h) ∙ sym (inside_is m (addr + width) _ OutOfBounds h),
      sym (set_back (words_of m) (addr / 8 + 1)),
    )
word_settles m (Ask (Notify addr woken)) s is a h = absurd (true≢false (sym a))
word_settles m (Ask (Spawn arg)) s is a h = absurd (true≢false (sym a))
word_settles m (Ask Leave) s is a h = absurd (true≢false (sym a))
word_settles m (Told answer) s is a h = absurd (true≢false (sym a))

-- Where an event makes one word of the word that is there, the sequential memory does the same.
pub record Made (m : Memory) (event : Event) (old new : ℕ) : Type 0 where
  pub reply : made_reply event old ≡ reply_of m event
  pub words : words_of (state_after m event) ≡ set (words_of m) (place_of event) new

-- a lane written in the word, within bounds
lane_made : (m : Memory) (addr width end value old new : ℕ) → IsStored m → InWord addr width → addr + width ≤ end
    → end ≤ length m.bytes → new < 2 ^ 64 → word_of m addr ≡ old
    → IsWithLane old addr width value new → words_of (if_within m end (written m addr width value) m) ≡ set (words_of m) (addr / 8 + 1) new
lane_made m addr width end value old new s lies ends h fits found is =
    ap words_of (inside_is m end _ m h) ∙ words_written m addr width value new s lies (omega arith) fits
    (subst (λ (w : ℕ). IsWithLane w addr width value new) (sym found) is)

pub made : (m : Memory) (event : Event) (old new : ℕ) → IsStored m → IsEvent event → end_of event ≤ length m.bytes → new < 2 ^ 64 → Makes m.max event old new
    → get_or (words_of m) (place_of event) 0 ≡ old → Made m event old new
unfolding word_of
made m (Grow more) old new s is h fits makes found =
    let can : can_grow m more ≡ true = le_leb (subst (λ (k : ℕ). k + more ≤ m.max) (sym found) makes.0) in
    record {
      reply = ap Value (sym found) ∙ ap (λ b. Value (cond b (pages m) 4294967295)) (sym can);
      words = ap (λ b. words_of (cond b (grown m more) m)) can ∙ words_grown m more s ∙ ap (set (words_of m) 0) (ap (λ k. k + more) found ∙ sym makes.1);
    }
  where
    le_leb : {a b : ℕ} → a ≤ b → nat_le a b ≡ true
    le_leb {a} {b} le = by_test (nat_le a b) refl
      where
        by_test : (t : Bool) → nat_le a b ≡ t → nat_le a b ≡ true
        by_test true e = e
        by_test false e = absurd (let k = leb-false a b e in omega arith)
made m (Store addr width reach value) old new s is h fits makes found =
    let part = is.0 in
    record {
      reply = sym (inside_is m reach Done OutOfBounds h);
      words = lane_made m addr width reach value old new s (part_in_word addr width reach part) part.ends h fits found makes;
    }
made m (Rmw op addr width value) old new s is h fits makes found =
    let lies = atomic_in_word addr width is.0 in
    let lane : lane_of old addr width ≡ loaded m addr width = ap (λ w. lane_of w addr width) (sym found) ∙ loaded_is m addr width s lies h in
    record {
      reply = ap Value lane ∙ sym (inside_is m (addr + width) _ OutOfBounds h);
      words = lane_made m addr width (addr + width) (combined op width (loaded m addr width) value) old new s lies (omega arith) h fits found
          (subst (λ (n : ℕ). IsWithLane old addr width (combined op width n value) new) lane makes);
    }
made m (Cmpxchg addr width expected replacement) old new s is h fits makes found =
    let lies = atomic_in_word addr width is.0 in
    let lane : lane_of old addr width ≡ loaded m addr width = ap (λ w. lane_of w addr width) (sym found) ∙ loaded_is m addr width s lies h in
    let matches : eqb (loaded m addr width) expected ≡ true = eq-eqb (loaded m addr width) expected (sym lane ∙ makes.0) in
    record {
      reply = ap Value lane ∙ sym (inside_is m (addr + width) _ OutOfBounds h);
      words = ap (λ t. words_of (if_within m (addr + width) (cond t (written m addr width replacement) m) m)) matches
          ∙ lane_made m addr width (addr + width) replacement old new s lies (omega arith) h fits found makes.1;
    }
made m Size old new s is h fits makes found = elim makes [ ]
made m (Load addr width reach) old new s is h fits makes found = elim makes [ ]
made m (Ask question) old new s is h fits makes found = elim makes [ ]
made m (Told answer) old new s is h fits makes found = elim makes [ ]

-- An exchange settles what it settles as the sequential memory does.
pub exchange_settles : (m : Memory) (event : Event) (old new : ℕ) → IsStored m → IsEvent event
    → end_of event ≤ length m.bytes → new < 2 ^ 64 → Makes m.max event old new
    → let found = get_or (words_of m) (place_of event) 0 in
    Settles m event (exchange_answer event old found) (place_of event) (either (eqb found old) new found)
exchange_settles m event old new s is h fits makes = by_test (eqb (get_or (words_of m) (place_of event) 0) old) refl
  where
    by_test : (b : Bool) → eqb (get_or (words_of m) (place_of event) 0) old ≡ b
        → Settles m event (cond b (Some (made_reply event old)) None) (place_of event) (either b new (get_or (words_of m) (place_of event) 0))
    by_test true e = let d = made m event old new s is h fits makes (eqb-true (get_or (words_of m) (place_of event) 0) old e) in (d.reply, d.words)
    by_test false e = set_back (words_of m) (place_of event)

-- The word of an event whose try may be lost spells what it touches.
pub touched_is : (m : Memory) (event : Event) → IsStored m → IsEvent event → end_of event ≤ length m.bytes → may_lose event ≡ true
    → get_or (words_of m) (place_of event) 0 ≡ le_number (touched m event)
unfolding word_of
touched_is m (Grow more) s is h may = (let e : pages m ≡ pages m + 256 * 0 = omega arith in e)
touched_is m (Store addr width reach value) s is h may = let part = is.0 in let some = part.some in
    let ends = part.ends in word_is m addr (holds m addr s (omega arith))
touched_is m (Rmw op addr width value) s is h may = let lies = atomic_in_word addr width is.0 in let some = lies.some in
    word_is m addr (holds m addr s (omega arith))
touched_is m (Cmpxchg addr width expected replacement) s is h may = let lies = atomic_in_word addr width is.0 in
    let some = lies.some in word_is m addr (holds m addr s (omega arith))
touched_is m Size s is h may = absurd (true≢false (sym may))
touched_is m (Load addr width reach) s is h may = absurd (true≢false (sym may))
touched_is m (Ask question) s is h may = absurd (true≢false (sym may))
touched_is m (Told answer) s is h may = absurd (true≢false (sym may))

-- What a compare-exchange expects was there.
pub expected_there : (m : Memory) (addr width expected replacement max old new : ℕ) → IsStored m
    → IsEvent (Cmpxchg addr width expected replacement) → addr + width ≤ length m.bytes
    → Makes max (Cmpxchg addr width expected replacement) old new → get_or (words_of m) (addr / 8 + 1) 0 ≡ old → loaded m addr width ≡ expected
unfolding word_of
expected_there m addr width expected replacement max old new s is h makes found =
    sym (loaded_is m addr width s (atomic_in_word addr width is.0) h) ∙ ap (λ w. lane_of w addr width) found ∙ makes.0

pub makes_may_lose : (max : ℕ) (event : Event) (old new : ℕ) → Makes max event old new → may_lose event ≡ true
makes_may_lose max Size old new makes = elim makes [ ]
makes_may_lose max (Grow more) old new makes = refl
makes_may_lose max (Load addr width reach) old new makes = elim makes [ ]
makes_may_lose max (Store addr width reach value) old new makes = refl
makes_may_lose max (Rmw op addr width value) old new makes = refl
makes_may_lose max (Cmpxchg addr width expected replacement) old new makes = refl
makes_may_lose max (Ask question) old new makes = elim makes [ ]
makes_may_lose max (Told answer) old new makes = elim makes [ ]

-- What the page count leaves open is a growth within the maximum, or an access within bounds.

left_open : (end count : ℕ) → refusal end count ≡ None → end ≤ PAGE_SIZE * count
left_open end count e = by_test (nat_le end (PAGE_SIZE * count)) refl e
  where
    by_test : (b : Bool) → nat_le end (PAGE_SIZE * count) ≡ b → cond b None (Some OutOfBounds) ≡ None → end ≤ PAGE_SIZE * count
    by_test true t e = leb-true end (PAGE_SIZE * count) t
    by_test false t e = absurd (cc (e))

pub open_within : (max : ℕ) (event : Event) (count : ℕ) → size_answer max event count ≡ None → end_of event ≤ PAGE_SIZE * count
open_within max Size count e = omega arith
open_within max (Grow more) count e = omega arith
open_within max (Load addr width reach) count e = left_open reach count e
open_within max (Store addr width reach value) count e = left_open reach count e
open_within max (Rmw op addr width value) count e = left_open (addr + width) count e
open_within max (Cmpxchg addr width expected replacement) count e = left_open (addr + width) count e
open_within max (Ask (Wait addr width expected timeout)) count e = left_open (addr + width) count e
open_within max (Ask (Notify addr woken)) count e = absurd (cc (e))
open_within max (Ask (Spawn arg)) count e = omega arith
open_within max (Ask Leave) count e = omega arith
open_within max (Told answer) count e = omega arith

pub open_growth : (max more count : ℕ) → size_answer max (Grow more) count ≡ None → count + more ≤ max
open_growth max more count e = by_test (nat_le (count + more) max) refl e
  where
    by_test : (b : Bool) → nat_le (count + more) max ≡ b → cond b None (Some (Value 4294967295)) ≡ None → count + more ≤ max
    by_test true t e = leb-true (count + more) max t
    by_test false t e = absurd (cc (e))

pub open_access : (max : ℕ) (event : Event) (count : ℕ) → size_answer max event count ≡ None → ((more : ℕ) → event ≢ Grow more) → is_access event ≡ true
open_access max Size count e other = absurd (cc (e))
open_access max (Grow more) count e other = absurd (other more refl)
open_access max (Load addr width reach) count e other = refl
open_access max (Store addr width reach value) count e other = refl
open_access max (Rmw op addr width value) count e other = refl
open_access max (Cmpxchg addr width expected replacement) count e other = refl
open_access max (Ask (Wait addr width expected timeout)) count e other = refl
open_access max (Ask (Notify addr woken)) count e other = absurd (cc (e))
open_access max (Ask (Spawn arg)) count e other = absurd (cc (e))
open_access max (Ask Leave) count e other = absurd (cc (e))
open_access max (Told answer) count e other = absurd (cc (e))

-- No word settles that a try was lost or that a log is full.

abbrev pub IsAnswer : Option Reply → Type 0
IsAnswer (Some Again) = ⊥
IsAnswer (Some Full) = ⊥
IsAnswer _ = Unit {0}

answer_if : (b : Bool) (r : Reply) → IsAnswer (Some r) → IsAnswer (cond b None (Some r))
answer_if true r a = tt
answer_if false r a = a

pub size_is_answer : (max : ℕ) (event : Event) (count : ℕ) → IsAnswer (size_answer max event count)
size_is_answer max Size count = tt
size_is_answer max (Grow more) count = answer_if (nat_le (count + more) max) (Value 4294967295) tt
size_is_answer max (Load addr width reach) count = answer_if (nat_le reach (PAGE_SIZE * count)) OutOfBounds tt
size_is_answer max (Store addr width reach value) count = answer_if (nat_le reach (PAGE_SIZE * count)) OutOfBounds tt
size_is_answer max (Rmw op addr width value) count = answer_if (nat_le (addr + width) (PAGE_SIZE * count)) OutOfBounds tt
size_is_answer max (Cmpxchg addr width expected replacement) count = answer_if (nat_le (addr + width) (PAGE_SIZE * count)) OutOfBounds tt
size_is_answer max (Ask (Wait addr width expected timeout)) count = answer_if (nat_le (addr + width) (PAGE_SIZE * count)) OutOfBounds tt
size_is_answer max (Ask (Notify addr woken)) count = by_test (nat_le (addr + 4) (PAGE_SIZE * count))
  where
    by_test : (b : Bool) → IsAnswer (Some (cond b Done OutOfBounds))
    by_test true = tt
    by_test false = tt
size_is_answer max (Ask (Spawn arg)) count = tt
size_is_answer max (Ask Leave) count = tt
size_is_answer max (Told answer) count = tt

pub word_is_answer : (event : Event) (word : ℕ) → IsAnswer (word_answer event word)
word_is_answer Size word = tt
word_is_answer (Grow more) word = tt
word_is_answer (Load addr width reach) word = tt
word_is_answer (Store addr width reach value) word = tt
word_is_answer (Rmw op addr width value) word = tt
word_is_answer (Cmpxchg addr width expected replacement) word = answer_if (eqb (lane_of word addr width) expected) (Value (lane_of word addr width)) tt
word_is_answer (Ask (Wait addr width expected timeout)) word = tt
word_is_answer (Ask (Notify addr woken)) word = tt
word_is_answer (Ask (Spawn arg)) word = tt
word_is_answer (Ask Leave) word = tt
word_is_answer (Told answer) word = tt

pub made_is_answer : (event : Event) (word : ℕ) → IsAnswer (Some (made_reply event word))
made_is_answer Size word = tt
made_is_answer (Grow more) word = tt
made_is_answer (Load addr width reach) word = tt
made_is_answer (Store addr width reach value) word = tt
made_is_answer (Rmw op addr width value) word = tt
made_is_answer (Cmpxchg addr width expected replacement) word = tt
made_is_answer (Ask question) word = tt
made_is_answer (Told answer) word = tt
