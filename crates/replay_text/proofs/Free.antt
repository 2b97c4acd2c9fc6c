-- Words have no line feed, so a line has one.
use Rattle.std.proofs.Common.{◌≡◌, ℕ, suc, ◌+◌, ◌/◌, ◌%◌, ◌^◌, ◌<◌, ◌≤◌, Bool, true, false, ◌||◌, List, [], ◌∷◌, ◌++◌}
use Rattle.std.proofs.Common.{Some, None, refl, sym, ap, ◌∙◌, append_assoc, arith}
use Rattle.std.specs.Prelude.{codes, ◌==◌, pos, negsuc, ℤ}
use Rattle.std.specs.List.{list_any}
use Rattle.std.specs.Fmt.{decimal, signed_decimal}
use Rattle.std.proofs.lemmas.Fmt.{decimal_by_steps}
use Rattle.std.proofs.lemmas.List.Folds.{list_any-append}
use Rattle.std.proofs.lemmas.Bool.Decides.{nat_tests}
use Rattle.types.specs.declared.value.Value.{Value}
use Rattle.types.specs.declared.value.Value.TheVariants as values
use Rattle.types.specs.declared.event.RmwOp.{RmwOp}
use Rattle.types.specs.declared.event.RmwOp.TheVariants as ops
use Rattle.types.specs.declared.event.Event.{Event}
use Rattle.types.specs.declared.event.Event.TheVariants.{Size, Grow, Load, Store, Rmw, Cmpxchg, Ask, Told}
use Rattle.types.specs.declared.event.Question.TheVariants.{Wait, Notify, Spawn, Leave}
use Rattle.types.specs.declared.event.Answer.TheVariants.{Number, ForGood}
use Rattle.types.specs.declared.event.Reply.{Reply}
use Rattle.types.specs.declared.event.Reply.TheVariants as replies
use Rattle.types.specs.declared.event.Entry.{Entry}
use Rattle.types.specs.declared.outcome.Outcome.{Outcome}
use Rattle.types.specs.declared.outcome.Outcome.TheVariants as outcomes
use Rattle.types.specs.declared.outcome.ThreadReport.{ThreadReport}
use Rattle.types.specs.Values.{value_text}
use Rattle.types.specs.Outcomes.{trap_number, stop_number}
use Rattle.types.specs.declared.limits.TheConstants.{MOST_THREADS}
use Rattle.replay_forms.specs.Reading.{FitsSigned64}
use Rattle.replay_forms.specs.Texts.{words_line, line, hex_digit, hex_text}
use Rattle.replay_forms.proofs.Hex.{hex_is_digit}
use Rattle.replay_text.specs.Conditions.{Fits32, Fits64, EventFits, ReplyFits, IsValue, IsEntry, IsOutcome, IsReport}
use Rattle.replay_text.specs.Words.{op_word, event_words, reply_words, outcome_words, entry_words, end_words}
use Rattle.replay_text.specs.Text.{name_word}
use Rattle.replay_text.specs.Breaks.{is_feed, line_feeds}
use Rattle.replay_text.proofs.Records.{trap_small, stop_small}

-- bytes without a line feed
abbrev pub Free : List ℕ → Type 0
Free bytes = list_any is_feed bytes ≡ false

pub or_false : (x y : Bool) → (x || y) ≡ false → (x ≡ false) × (y ≡ false)
or_false true y e = absurd cc
or_false false y e = (refl, e)

pub free_append : (x y : List ℕ) → Free x → Free y → Free (x ++ y)
free_append x y p q = list_any-append is_feed x y ∙ rw (p, q) refl

pub free_cons : (b : ℕ) (bytes : List ℕ) → 10 < b → Free bytes → Free (b ∷ bytes)
free_cons b bytes high p =
    let t : (b == 10) ≡ false = grind (arith, nat_tests) in
    rw (t, p) refl

pub feeds_append : (x y : List ℕ) → line_feeds (x ++ y) ≡ line_feeds x + line_feeds y
feeds_append [] y = omega arith
feeds_append (b ∷ x) y = omega (arith, feeds_append x y)

pub free_feeds : (bytes : List ℕ) → Free bytes → line_feeds bytes ≡ 0
free_feeds [] p = refl
free_feeds (b ∷ bytes) p =
    let q = or_false (is_feed b) (list_any is_feed bytes) p in
    rw q.0 (omega (arith, free_feeds bytes q.1))

-- ---- numbers

pub decimal_free : (n : ℕ) → n < 2 ^ 64 → Free (decimal n)
decimal_free =
    decimal_by_steps (λ n ds. Free ds) (λ n small. free_cons (48 + n) [] (omega arith) refl)
    (λ n ds big so. free_append ds ((48 + n % 10) ∷ []) so (free_cons (48 + n % 10) [] (omega arith) refl))

signed_free : (z : ℤ) → FitsSigned64 z → Free (signed_decimal z)
signed_free (pos n) fit = decimal_free n (omega (arith, fit))
signed_free (negsuc n) fit = free_cons 45 (decimal (suc n)) (omega arith) (decimal_free (suc n) (omega (arith, fit)))

free32 : (n : ℕ) → Fits32 n → Free (decimal n)
free32 n fit = decimal_free n (omega (arith, fit))

free64 : (n : ℕ) → Fits64 n → Free (decimal n)
free64 n fit = decimal_free n (omega (arith, fit))

free8 : (n : ℕ) → n ≤ 255 → Free (decimal n)
free8 n fit = decimal_free n (omega arith)

-- ---- lines

abbrev pub AllFree : List (List ℕ) → Type 0
AllFree [] = Unit {0}
AllFree (w ∷ words) = Free w × AllFree words

all_append : (x y : List (List ℕ)) → AllFree x → AllFree y → AllFree (x ++ y)
all_append [] y p q = q
all_append (w ∷ x) y p q = (p.0, all_append x y p.1 q)

-- words, a space before each
abbrev pub words_behind : List (List ℕ) → List ℕ
words_behind [] = []
words_behind (w ∷ words) = 32 ∷ (w ++ words_behind words)

-- words, a space between each two
abbrev pub words_joined : List (List ℕ) → List ℕ
words_joined [] = []
words_joined (w ∷ words) = w ++ words_behind words

behind_spelled : (words : List (List ℕ)) (rest : List ℕ) → words_line words rest ≡ words_behind words ++ 10 ∷ rest
behind_spelled [] rest = refl
behind_spelled (w ∷ words) rest = ap (λ (t : List ℕ). 32 ∷ (w ++ t)) (behind_spelled words rest)
    ∙ ap (λ (t : List ℕ). 32 ∷ t) (sym (append_assoc w (words_behind words) (10 ∷ rest)))

pub line_spelled : (words : List (List ℕ)) (rest : List ℕ) → line words rest ≡ words_joined words ++ 10 ∷ rest
line_spelled [] rest = refl
line_spelled (w ∷ words) rest = ap (λ (t : List ℕ). w ++ t) (behind_spelled words rest)
    ∙ sym (append_assoc w (words_behind words) (10 ∷ rest))

behind_free : (words : List (List ℕ)) → AllFree words → Free (words_behind words)
behind_free [] p = refl
behind_free (w ∷ words) p = free_cons 32 (w ++ words_behind words) (omega arith) (free_append w (words_behind words) p.0 (behind_free words p.1))

pub line_free : (words : List (List ℕ)) → AllFree words → Free (words_joined words)
line_free [] p = refl
line_free (w ∷ words) p = free_append w (words_behind words) p.0 (behind_free words p.1)

-- ---- entries

op_free : (op : RmwOp) → Free (op_word op)
op_free ops.Add = refl
op_free ops.Sub = refl
op_free ops.And = refl
op_free ops.Or = refl
op_free ops.Xor = refl
op_free ops.Xchg = refl

event_free : (e : Event) → EventFits e → AllFree (event_words e)
event_free Size fit = (refl, tt)
event_free (Grow n) fit = (refl, (free32 n fit, tt))
event_free (Load a w r) fit = (refl, (free64 a fit.0, (free8 w (fit.1).0, (free64 r (fit.1).1, tt))))
event_free (Store a w r v) fit =
    (refl, (free64 a fit.0, (free8 w (fit.1).0, (free64 r ((fit.1).1).0, (free64 v ((fit.1).1).1, tt)))))
event_free (Rmw op a w v) fit =
    (refl, (op_free op, (free64 a fit.0, (free8 w (fit.1).0, (free64 v (fit.1).1, tt)))))
event_free (Cmpxchg a w x r) fit =
    (refl, (free64 a fit.0, (free8 w (fit.1).0, (free64 x ((fit.1).1).0, (free64 r ((fit.1).1).1, tt)))))
event_free (Ask (Wait a w x t)) fit =
    (refl, (free64 a fit.0, (free8 w (fit.1).0, (free64 x ((fit.1).1).0, (signed_free t ((fit.1).1).1, tt)))))
event_free (Ask (Notify a n)) fit = (refl, (free64 a fit.0, (free32 n fit.1, tt)))
event_free (Ask (Spawn n)) fit = (refl, (free32 n fit, tt))
event_free (Ask Leave) fit = (refl, tt)
event_free (Told (Number n)) fit = (refl, (free32 n fit, tt))
event_free (Told ForGood) fit = (refl, (refl, tt))

reply_free : (r : Reply) → ReplyFits r → AllFree (reply_words r)
reply_free (replies.Value v) fit = (refl, (free64 v fit, tt))
reply_free replies.Done fit = (refl, (refl, tt))
reply_free replies.OutOfBounds fit = (refl, (refl, tt))
reply_free replies.Again fit = (refl, (refl, tt))
reply_free replies.Full fit = (refl, (refl, tt))

pub entry_free : (threads : ℕ) → threads ≤ MOST_THREADS → (e : Entry) → IsEntry threads e → AllFree (entry_words e)
entry_free threads few e fit = (
  decimal_free e.thread (omega (arith, few, fit.thread)),
  all_append (event_words e.event) (reply_words e.reply)
      (event_free e.event fit.event_fits) (reply_free e.reply fit.reply_fits),
)

-- ---- ends, values and names

pub value_free : (v : Value) → IsValue v → Free (value_text v)
value_free (values.I32 n) fit = free_append (codes "i32:") (decimal n) refl (free32 n fit)
value_free (values.I64 n) fit = free_append (codes "i64:") (decimal n) refl (free64 n fit)

outcome_free : (o : Outcome) → IsOutcome o → AllFree (outcome_words o)
outcome_free (outcomes.Done None) fit = (refl, (refl, tt))
outcome_free (outcomes.Done (Some v)) fit = (refl, (value_free v fit, tt))
outcome_free (outcomes.Trap t) fit = (refl, (free8 (trap_number t) (omega (arith, trap_small t)), tt))
outcome_free (outcomes.Stop s) fit = (refl, (free8 (stop_number s) (omega (arith, stop_small s)), tt))

pub end_free : (thread : ℕ) → thread < 2 ^ 64 → (r : ThreadReport) → IsReport r → AllFree (end_words thread r)
end_free thread few r fit =
    let spent : r.spent < 2 ^ 64 = omega (arith, fit.spent) in (
      refl,
      (
        decimal_free thread few,
        all_append (outcome_words r.outcome) (decimal r.spent ∷ [])
            (outcome_free r.outcome fit.outcome) (decimal_free r.spent spent, tt),
      ),
    )

hex_free : (bytes : List ℕ) → Free (hex_text bytes)
hex_free [] = refl
hex_free (b ∷ bytes) =
    let high = hex_is_digit (b / 16) in
    let low = hex_is_digit (b % 16) in
    free_cons (hex_digit (b / 16)) (hex_digit (b % 16) ∷ hex_text bytes) (omega (arith, high))
    (free_cons (hex_digit (b % 16)) (hex_text bytes) (omega (arith, low)) (hex_free bytes))

pub name_free : (name : List ℕ) → Free (name_word name)
name_free [] = refl
name_free (b ∷ bytes) = hex_free (b ∷ bytes)
