-- The laws of events, replies and entries.
use Rattle.std.proofs.Common.{◌≡◌, ℕ, ◌-◌, ◌^◌, ◌<◌, ◌≤◌, List, [], ◌∷◌, ◌++◌, Some, refl, sym, ap, subst, ◌∙◌, arith, ◌&&◌}
use Rattle.std.specs.Prelude.{codes}
use Rattle.std.specs.Fmt.{decimal}
use Rattle.std.proofs.lemmas.Bool.{and_parts}
use Rattle.types.specs.declared.event.RmwOp.{RmwOp}
use Rattle.types.specs.declared.event.RmwOp.TheVariants as ops
use Rattle.types.specs.declared.event.Event.{Event}
use Rattle.types.specs.declared.event.Event.TheVariants.{Size, Grow, Load, Store, Rmw, Cmpxchg, Ask, Told}
use Rattle.types.specs.declared.event.Question.TheVariants.{Wait, Notify, Spawn, Leave}
use Rattle.types.specs.declared.event.Answer.TheVariants.{Number, ForGood}
use Rattle.types.specs.declared.event.Reply.{Reply}
use Rattle.types.specs.declared.event.Reply.TheVariants as replies
use Rattle.types.specs.declared.event.Entry.{Entry}
use Rattle.types.specs.declared.limits.TheConstants.{MOST_THREADS}
use Rattle.replay_forms.specs.Reading.{Reader, FitsSigned64, after, number_at, number_then, behind, both, made, word_for, first, signed_then}
use Rattle.replay_forms.specs.Texts.{line, spaced}
use Rattle.replay_forms.proofs.Laws.{Law, Takes, number_text, number_law, signed_text, signed_law, behind_text}
use Rattle.replay_forms.proofs.Laws.{behind_law, both_text, both_law, made_takes, made_again, word_takes, first_takes}
use Rattle.replay_forms.proofs.Laws.{first_again, law_from, only_some, some_is}
use Rattle.replay_forms.proofs.Lines.{words_line_spaced}
use Rattle.replay_text.specs.Words.{op_word, event_words, reply_word, entry_words}
use Rattle.shared_memory.specs.Conditions.{is_event}
use Rattle.replay_text.specs.Conditions.{Fits8, Fits32, Fits64, EventFits, ReplyFits, IsEntry, is_reply_to}
use Rattle.replay_text.specs.Reading.{u8_at, u32_at, u64_at, op_at, load_at, store_at, rmw_at, cmpxchg_at, wait_at}
use Rattle.replay_text.specs.Reading.{notify_at, spawn_at, grow_at, told_at, access_at, plain_at, event_at, reply_at}
use Rattle.replay_text.specs.Reading.{entry_of, entry_at}
use Rattle.shared_memory.proofs.Decided.{event_found, event_made}

-- a reader whose values a constructor takes
by_takes : {A B : Type 0} (f : A → B) (text : A → List ℕ → List ℕ) (Fits : A → Type 0) (at : Reader A)
    (uext : B → List ℕ → List ℕ) (Gits : B → Type 0) → Law text Fits at
    → ((x : A) (rest : List ℕ) → Fits x → (text x rest ≡ uext (f x) rest) × Gits (f x)) → Takes uext Gits (made (λ x. Some (f x)) at)
by_takes {A} {B} f text Fits at uext Gits l there = made_takes (λ x. Some (f x)) text Fits at uext Gits l (λ x y rest fit e.
    subst (λ (z : B). (text x rest ≡ uext z rest) × Gits z) (some_is (f x) y e) (there x rest fit))

by_again : {A B : Type 0} (f : A → B) (text : A → List ℕ → List ℕ) (Fits : A → Type 0) (at : Reader A)
    → Law text Fits at → (x : A) (rest : List ℕ) → Fits x → made (λ x. Some (f x)) at (text x rest) ≡ Some (f x, rest)
by_again f text Fits at l x rest fit = made_again (λ x. Some (f x)) text Fits at l x (f x) rest fit refl

abbrev number : ℕ → List ℕ → List ℕ
number = number_text (32 ∷ [])

u8_law : Law number Fits8 u8_at
u8_law = number_law 255 32 [] (omega arith) refl

u32_law : Law number Fits32 u32_at
u32_law = number_law (2 ^ 32 - 1) 32 [] (omega arith) refl

u64_law : Law number Fits64 u64_at
u64_law = number_law (2 ^ 64 - 1) 32 [] (omega arith) refl

abbrev op_text : RmwOp → List ℕ → List ℕ
op_text op rest = op_word op ++ 32 ∷ rest

abbrev AnyOp : RmwOp → Type 0
AnyOp op = Unit {0}

op_again : (op : RmwOp) (rest : List ℕ) → AnyOp op → op_at (op_text op rest) ≡ Some (op, rest)
unfolding after
op_again ops.Add rest fit = refl
op_again ops.Sub rest fit = refl
op_again ops.And rest fit = refl
op_again ops.Or rest fit = refl
op_again ops.Xor rest fit = refl
op_again ops.Xchg rest fit = refl

op_law : Law op_text AnyOp op_at
op_law = law_from op_text AnyOp op_at (first_takes _ _ _ _ (word_takes ops.Add (codes "add ") _ _ (λ rest. refl) tt)
    (first_takes _ _ _ _ (word_takes ops.Sub (codes "sub ") _ _ (λ rest. refl) tt)
    (first_takes _ _ _ _ (word_takes ops.And (codes "and ") _ _ (λ rest. refl) tt)
    (first_takes _ _ _ _ (word_takes ops.Or (codes "or ") _ _ (λ rest. refl) tt)
    (first_takes _ _ _ _ (word_takes ops.Xor (codes "xor ") _ _ (λ rest. refl) tt)
    (word_takes ops.Xchg (codes "xchg ") _ _ (λ rest. refl) tt)))))) op_again

abbrev event_text : Event → List ℕ → List ℕ
event_text e rest = spaced (event_words e) rest

-- numbers behind one another
abbrev two : {A : Type 0} → (A → List ℕ → List ℕ) → ℕ × A → List ℕ → List ℕ
two text = both_text number text

load_law : Law (behind_text (codes "load ") (two (two number))) (λ x. Fits64 x.0 × (Fits8 (x.1).0 × Fits64 (x.1).1))
    (behind (codes "load ") (both u64_at (both u8_at u64_at)))
load_law = behind_law _ _ _ _ (both_law _ _ _ _ _ _ u64_law (both_law _ _ _ _ _ _ u8_law u64_law))

store_law : Law (behind_text (codes "store ") (two (two (two number))))
    (λ x. Fits64 x.0 × (Fits8 (x.1).0 × (Fits64 ((x.1).1).0 × Fits64 ((x.1).1).1)))
    (behind (codes "store ") (both u64_at (both u8_at (both u64_at u64_at))))
store_law = behind_law _ _ _ _ (both_law _ _ _ _ _ _ u64_law (both_law _ _ _ _ _ _ u8_law (both_law _ _ _ _ _ _ u64_law u64_law)))

cmpxchg_law : Law (behind_text (codes "cmpxchg ") (two (two (two number))))
    (λ x. Fits64 x.0 × (Fits8 (x.1).0 × (Fits64 ((x.1).1).0 × Fits64 ((x.1).1).1)))
    (behind (codes "cmpxchg ") (both u64_at (both u8_at (both u64_at u64_at))))
cmpxchg_law = behind_law _ _ _ _ (both_law _ _ _ _ _ _ u64_law (both_law _ _ _ _ _ _ u8_law (both_law _ _ _ _ _ _ u64_law u64_law)))

rmw_law : Law (behind_text (codes "rmw ") (both_text op_text (two (two number))))
    (λ x. AnyOp x.0 × (Fits64 (x.1).0 × (Fits8 ((x.1).1).0 × Fits64 ((x.1).1).1)))
    (behind (codes "rmw ") (both op_at (both u64_at (both u8_at u64_at))))
rmw_law = behind_law _ _ _ _ (both_law _ _ _ _ _ _ op_law (both_law _ _ _ _ _ _ u64_law (both_law _ _ _ _ _ _ u8_law u64_law)))

wait_law : Law (behind_text (codes "wait ") (two (two (two (signed_text (32 ∷ []))))))
    (λ x. Fits64 x.0 × (Fits8 (x.1).0 × (Fits64 ((x.1).1).0 × FitsSigned64 ((x.1).1).1)))
    (behind (codes "wait ") (both u64_at (both u8_at (both u64_at (signed_then (32 ∷ []))))))
wait_law = behind_law _ _ _ _ (both_law _ _ _ _ _ _ u64_law (both_law _ _ _ _ _ _ u8_law (both_law _ _ _ _ _ _ u64_law (signed_law 32 [] refl))))

notify_law : Law (behind_text (codes "notify ") (two number)) (λ x. Fits64 x.0 × Fits32 x.1) (behind (codes "notify ") (both u64_at u32_at))
notify_law = behind_law _ _ _ _ (both_law _ _ _ _ _ _ u64_law u32_law)

numbered_law : (word : List ℕ) → Law (behind_text word number) Fits32 (behind word u32_at)
numbered_law word = behind_law _ _ _ _ u32_law

access_takes : Takes event_text EventFits access_at
access_takes =
    first_takes _ _ _ _ (by_takes (λ x. Load x.0 (x.1).0 (x.1).1) _ _ _ event_text EventFits load_law (λ x rest fit. (refl, fit)))
    (first_takes _ _ _ _ (by_takes (λ x. Store x.0 (x.1).0 ((x.1).1).0 ((x.1).1).1) _ _ _ event_text EventFits store_law (λ x rest fit. (refl, fit)))
    (first_takes _ _ _ _ (by_takes (λ x. Rmw x.0 (x.1).0 ((x.1).1).0 ((x.1).1).1) _ _ _ event_text EventFits rmw_law (λ x rest fit. (refl, fit.1)))
    (first_takes _ _ _ _ (by_takes (λ x. Cmpxchg x.0 (x.1).0 ((x.1).1).0 ((x.1).1).1) _ _ _ event_text EventFits cmpxchg_law (λ x rest fit. (refl, fit)))
    (first_takes _ _ _ _ (by_takes (λ x. Ask (Wait x.0 (x.1).0 ((x.1).1).0 ((x.1).1).1)) _ _ _ event_text EventFits wait_law (λ x rest fit. (refl, fit)))
    (by_takes (λ x. Ask (Notify x.0 x.1)) _ _ _ event_text EventFits notify_law (λ x rest fit. (refl, fit)))))))

plain_takes : Takes event_text EventFits plain_at
plain_takes =
    first_takes _ _ _ _ (by_takes (λ n. Ask (Spawn n)) _ _ _ event_text EventFits (numbered_law (codes "spawn ")) (λ x rest fit. (refl, fit)))
    (first_takes _ _ _ _ (by_takes Grow _ _ _ event_text EventFits (numbered_law (codes "grow ")) (λ x rest fit. (refl, fit)))
    (first_takes _ _ _ _ (by_takes (λ n. Told (Number n)) _ _ _ event_text EventFits (numbered_law (codes "told ")) (λ x rest fit. (refl, fit)))
    (first_takes _ _ _ _ (word_takes (Told ForGood) (codes "told stop ") _ _ (λ rest. refl) tt)
    (first_takes _ _ _ _ (word_takes (Ask Leave) (codes "leave ") _ _ (λ rest. refl) tt)
    (word_takes Size (codes "size ") _ _ (λ rest. refl) tt)))))

in_access : (bytes : List ℕ) (z : Event × List ℕ) → access_at bytes ≡ Some z → event_at bytes ≡ Some z
in_access bytes z e = first_again access_at plain_at bytes z e

event_again : (e : Event) (rest : List ℕ) → EventFits e → event_at (event_text e rest) ≡ Some (e, rest)
unfolding after number_at
event_again (Load a w r) rest fit = in_access (event_text (Load a w r) rest) _
    (first_again load_at (first store_at (first rmw_at (first cmpxchg_at (first wait_at notify_at))))
    (event_text (Load a w r) rest) _ (by_again (λ x. Load x.0 (x.1).0 (x.1).1) _ _ _ load_law (a, (w, r)) rest fit))
event_again (Store a w r v) rest fit = in_access (event_text (Store a w r v) rest) _
    (first_again store_at (first rmw_at (first cmpxchg_at (first wait_at notify_at)))
    (event_text (Store a w r v) rest) _ (by_again (λ x. Store x.0 (x.1).0 ((x.1).1).0 ((x.1).1).1) _ _ _ store_law (
      a,
      (w, (r, v)),
    ) rest fit))
event_again (Rmw op a w v) rest fit = in_access (event_text (Rmw op a w v) rest) _
    (first_again rmw_at (first cmpxchg_at (first wait_at notify_at))
    (event_text (Rmw op a w v) rest) _ (by_again (λ x. Rmw x.0 (x.1).0 ((x.1).1).0 ((x.1).1).1) _ _ _ rmw_law (
      op,
      (a, (w, v)),
    ) rest (tt, fit)))
event_again (Cmpxchg a w x r) rest fit = in_access (event_text (Cmpxchg a w x r) rest) _
    (first_again cmpxchg_at (first wait_at notify_at)
    (event_text (Cmpxchg a w x r) rest) _ (by_again (λ x. Cmpxchg x.0 (x.1).0 ((x.1).1).0 ((x.1).1).1) _ _ _
    cmpxchg_law (a, (w, (x, r))) rest fit))
event_again (Ask (Wait a w x t)) rest fit =
    in_access (event_text (Ask (Wait a w x t)) rest) _
    (first_again wait_at notify_at (event_text (Ask (Wait a w x t)) rest) _
    (by_again (λ x. Ask (Wait x.0 (x.1).0 ((x.1).1).0 ((x.1).1).1)) _ _ _ wait_law (a, (w, (x, t))) rest fit))
event_again (Ask (Notify a n)) rest fit =
    in_access (event_text (Ask (Notify a n)) rest) _
    (by_again (λ x. Ask (Notify x.0 x.1)) _ _ _ notify_law (a, n) rest fit)
event_again (Ask (Spawn n)) rest fit = first_again spawn_at
    (first grow_at (first told_at (first (word_for (Told ForGood) (codes "told stop "))
    (first (word_for (Ask Leave) (codes "leave ")) (word_for Size (codes "size "))))))
    (event_text (Ask (Spawn n)) rest) _ (by_again (λ n. Ask (Spawn n)) _ _ _ (numbered_law (codes "spawn ")) n rest
    fit)
event_again (Grow n) rest fit = first_again grow_at
    (first told_at (first (word_for (Told ForGood) (codes "told stop "))
    (first (word_for (Ask Leave) (codes "leave ")) (word_for Size (codes "size ")))))
    (event_text (Grow n) rest) _ (by_again Grow _ _ _ (numbered_law (codes "grow ")) n rest fit)
event_again (Told (Number n)) rest fit = first_again told_at (first (word_for (Told ForGood) (codes "told stop "))
    (first (word_for (Ask Leave) (codes "leave ")) (word_for Size (codes "size "))))
    (event_text (Told (Number n)) rest) _ (by_again (λ n. Told (Number n)) _ _ _ (numbered_law (codes "told ")) n rest
    fit)
event_again (Told ForGood) rest fit = refl
event_again (Ask Leave) rest fit = refl
event_again Size rest fit = refl

event_law : Law event_text EventFits event_at
event_law = law_from event_text EventFits event_at (first_takes _ _ access_at plain_at access_takes plain_takes) event_again

abbrev reply_text : Reply → List ℕ → List ℕ
reply_text r rest = reply_word r ++ 10 ∷ rest

value_law : Law (number_text (10 ∷ [])) Fits64 (number_then (2 ^ 64 - 1) (10 ∷ []))
value_law = number_law (2 ^ 64 - 1) 10 [] (omega arith) refl

reply_again : (r : Reply) (rest : List ℕ) → ReplyFits r → reply_at (reply_text r rest) ≡ Some (r, rest)
unfolding after number_at
reply_again (replies.Value v) rest fit = first_again (made (λ v. Some (replies.Value v))
    (number_then (2 ^ 64 - 1) (10 ∷ []))) (first (word_for replies.Done (codes "done" ++ 10 ∷ []))
    (word_for replies.OutOfBounds (codes "out" ++ 10 ∷ [])))
    (reply_text (replies.Value v) rest) _ (by_again (λ v. replies.Value v) _ _ _ value_law v rest fit)
reply_again replies.Done rest fit = refl
reply_again replies.OutOfBounds rest fit = refl
reply_again replies.Again rest fit = absurd fit
reply_again replies.Full rest fit = absurd fit

reply_law : Law reply_text ReplyFits reply_at
reply_law = law_from reply_text ReplyFits reply_at
    (first_takes _ _ _ _ (by_takes (λ v. replies.Value v) _ _ _ reply_text ReplyFits value_law (λ x rest fit. (refl, fit)))
    (first_takes _ _ _ _ (word_takes replies.Done (codes "done" ++ 10 ∷ []) _ _ (λ rest. refl) tt)
    (word_takes replies.OutOfBounds (codes "out" ++ 10 ∷ []) _ _ (λ rest. refl) tt)))
    reply_again

-- ---- entries

abbrev pub entry_text : Entry → List ℕ → List ℕ
entry_text e rest = line (entry_words e) rest

abbrev pieces_text : ℕ × (Event × Reply) → List ℕ → List ℕ
pieces_text = both_text number (both_text event_text (behind_text (codes "= ") reply_text))

-- so many threads as a record may have
abbrev pub IsCount : ℕ → Type 0
IsCount threads = (1 ≤ threads) × (threads ≤ MOST_THREADS)

pieces_law : (threads : ℕ) → IsCount threads → Law pieces_text (λ x. (x.0 ≤ threads - 1) × (EventFits (x.1).0 × ReplyFits (x.1).1))
    (both (number_then (threads - 1) (32 ∷ [])) (both event_at (behind (codes "= ") reply_at)))
pieces_law threads count =
    both_law _ _ _ _ _ _ (number_law (threads - 1) 32 [] (omega (arith, count.1)) refl) (both_law _ _ _ _ _ _ event_law (behind_law _ _ _ _ reply_law))

same_text : (thread : ℕ) (event : Event) (reply : Reply) (rest : List ℕ)
    → pieces_text (thread, (event, reply)) rest ≡ entry_text (record { thread = thread; event = event; reply = reply })
    rest
same_text thread event reply rest = sym (ap (λ (t : List ℕ). (decimal thread) ++ t)
    (words_line_spaced (event_words event) (codes "=") (reply_word reply ∷ []) rest))

entry_there : (threads : ℕ) → IsCount threads → (x : ℕ × (Event × Reply)) (y : Entry) (rest : List ℕ) → (x.0 ≤ threads - 1)
    × (EventFits (x.1).0 × ReplyFits (x.1).1) → entry_of x ≡ Some y → (pieces_text x rest ≡ entry_text y rest)
    × IsEntry threads y
entry_there threads count x y rest fit e =
    let made_entry : Entry = record { thread = x.0; event = (x.1).0; reply = (x.1).1 } in
    let p = only_some (is_event (x.1).0 && is_reply_to (x.1).0 (x.1).1) (Some made_entry) y e in
    let q = and_parts (is_event (x.1).0) (is_reply_to (x.1).0 (x.1).1) p.0 in
    let below : x.0 < threads = omega (arith, fit.0, count.0) in
    let good : IsEntry threads made_entry = record {
      thread = below;
      event_fits = (fit.1).0;
      event = event_found (x.1).0 q.0;
      reply_fits = (fit.1).1;
      reply = q.1;
    } in
    subst (λ (z : Entry). (pieces_text x rest ≡ entry_text z rest) × IsEntry threads z) (some_is made_entry y p.1) (same_text x.0 (x.1).0 (x.1).1 rest, good)

pub entry_takes : (threads : ℕ) → IsCount threads → (bytes : List ℕ) (x : Entry) (rest : List ℕ)
    → entry_at threads bytes ≡ Some (x, rest) → (bytes ≡ entry_text x rest) × IsEntry threads x
unfolding entry_at
entry_takes threads count bytes x rest e =
    (made_takes entry_of _ _ _ entry_text (IsEntry threads) (pieces_law threads count) (entry_there threads count)).taken bytes x rest e

pub entry_again : (threads : ℕ) → IsCount threads → (e : Entry) (rest : List ℕ) → IsEntry threads e
    → entry_at threads (entry_text e rest) ≡ Some (e, rest)
unfolding entry_at
entry_again threads count e rest fit =
    let t = event_made e.event fit.event in
    let u = fit.reply in
    let to : entry_of (e.thread, (e.event, e.reply)) ≡ Some e = rw (t, u) refl in
    let low : e.thread ≤ threads - 1 = omega (arith, fit.thread) in
    ap (entry_at threads) (sym (same_text e.thread e.event e.reply rest))
    ∙ made_again entry_of _ _ _ (pieces_law threads count) (e.thread, (e.event, e.reply)) e rest (
      low,
      (fit.event_fits, fit.reply_fits),
    ) to
