-- Lines written piece by piece.
use Rattle.std.proofs.Common.{◌≡◌, ℕ, ◌+◌, List, [], ◌∷◌, ◌++◌, Option, refl, sym, ap, subst, ◌∙◌, append_assoc, map}
use Rattle.std.specs.Prelude.{codes, OnOk, Result, Ok, Err}
use Rattle.std.specs.Fmt.{decimal}
use Rattle.std.specs.Io.KnownBytes.{Appends}
use Rattle.std.specs.List.{join_with_byte}
use Rattle.types.specs.declared.event.Event.{Event}
use Rattle.types.specs.declared.event.Event.TheVariants.{Size, Grow, Load, Store, Rmw, Cmpxchg, Ask, Told}
use Rattle.types.specs.declared.event.Question.TheVariants.{Wait, Notify, Spawn, Leave}
use Rattle.types.specs.declared.event.Entry.{Entry}
use Rattle.types.specs.declared.outcome.ThreadReport.{ThreadReport}
use Rattle.types.specs.declared.value.Value.{Value}
use Rattle.types.specs.Values.{value_text}
use Rattle.replay_forms.specs.Texts.{line, words_line, spaced, lines_text, pieces}
use Rattle.replay_forms.proofs.Lines.{words_line_spaced}
use Rattle.replay_forms.proofs.Written.{appends_then, line_front}
use Rattle.replay_text.specs.Text.{name_word, scale_lines, call_lines, header_lines, end_lines, record_text}
use Rattle.replay_text.specs.declared.parts.RecordParts.{RecordParts}
use Rattle.replay_text.specs.Words.{event_words, reply_word, reply_words, entry_words, outcome_words, end_words}

-- what follows from the answer of the last call follows from the function's, which is the same
pub on_ok : {E A B : Type 0} (r : Result (Unit {0}) E) → OnOk r A → (A → B) → OnOk r B
on_ok (Ok u) h f = f h
on_ok (Err e) h f = h

spaced_front : (words : List (List ℕ)) (rest : List ℕ) → spaced words [] ++ rest ≡ spaced words rest
spaced_front [] rest = refl
spaced_front (w ∷ words) rest = append_assoc w (32 ∷ spaced words []) rest ∙ ap (λ (t : List ℕ). w ++ 32 ∷ t) (spaced_front words rest)

three : (words : List (List ℕ)) (front word : List ℕ) (more : List (List ℕ))
    → (front ++ 32 ∷ []) ++ (spaced words [] ++ (word ++ words_line more [])) ≡ front ++ words_line
    (words ++ word ∷ more) []
three words front word more = append_assoc front (32 ∷ []) (spaced words [] ++ (word ++ words_line more []))
    ∙ ap (λ (t : List ℕ). front ++ t) (ap (λ (t : List ℕ). 32 ∷ t) (spaced_front words (word ++ words_line more []))
    ∙ sym (words_line_spaced words word more []))

abbrev AnyWord : List (List ℕ) → Type 0
AnyWord [] = ⊥
AnyWord (word ∷ words) = Unit {0}

joined_spaced : (words : List (List ℕ)) (rest : List ℕ) → AnyWord words → join_with_byte 32 words ++ 32 ∷ rest ≡ spaced words rest
joined_spaced [] rest any = absurd any
joined_spaced (word ∷ []) rest any = refl
joined_spaced (word ∷ next ∷ words) rest any = append_assoc word (32 ∷ join_with_byte 32 (next ∷ words)) (32 ∷ rest)
    ∙ ap (λ (t : List ℕ). word ++ 32 ∷ t) (joined_spaced (next ∷ words) rest tt)

any_word : (e : Event) → AnyWord (event_words e)
any_word Size = tt
any_word (Grow more) = tt
any_word (Load addr width reach) = tt
any_word (Store addr width reach value) = tt
any_word (Rmw op addr width value) = tt
any_word (Cmpxchg addr width expected replacement) = tt
any_word (Ask (Wait addr width expected timeout)) = tt
any_word (Ask (Notify addr count)) = tt
any_word (Ask (Spawn arg)) = tt
any_word (Ask Leave) = tt
any_word (Told answer) = tt

-- a text with a space behind it, between two others
between : (front words rest : List ℕ)
    → (front ++ 32 ∷ (words ++ 32 ∷ [])) ++ rest ≡ front ++ 32 ∷ (words ++ 32 ∷ rest)
between front words rest = append_assoc front (32 ∷ (words ++ 32 ∷ [])) rest
    ∙ ap (λ (t : List ℕ). front ++ 32 ∷ t) (append_assoc words (32 ∷ []) rest)

pub entry_appends : (e : Entry) (a b c : Option (List ℕ))
    → Appends a b (decimal e.thread ++ 32 ∷ (join_with_byte 32 (event_words e.event) ++ 32 ∷ []))
    → Appends b c (line (reply_words e.reply) []) → Appends a c (line (entry_words e) [])
entry_appends e a b c p q =
    let words = event_words e.event in
    let reply = line (reply_words e.reply) [] in
    subst (λ (t : List ℕ). Appends a c t)
    (between (decimal e.thread) (join_with_byte 32 words) reply
    ∙ ap (λ (t : List ℕ). decimal e.thread ++ t) (ap (λ (t : List ℕ). 32 ∷ t) (joined_spaced words reply (any_word e.event))
    ∙ sym (words_line_spaced words (codes "=") (reply_word e.reply ∷ []) [])))
    (appends_then a b c _ _ p q)

pub end_appends : (thread : ℕ) (report : ThreadReport) (a b c d : Option (List ℕ))
    → Appends a b (codes "end " ++ (decimal thread ++ 32 ∷ []))
    → Appends b c (spaced (outcome_words report.outcome) []) → Appends c d (decimal report.spent ++ 10 ∷ [])
    → Appends a d (line (end_words thread report) [])
end_appends thread report a b c d p q r = subst (λ (t : List ℕ). Appends a d t)
    (ap (λ (t : List ℕ). codes "end " ++ t)
    (three (outcome_words report.outcome) (decimal thread) (decimal report.spent) []))
    (appends_then a b d _ _ p (appends_then b c d _ _ q r))

-- ---- the parts of a record

line_then : (words : List (List ℕ)) (more rest : List ℕ) → line words more ++ rest ≡ line words (more ++ rest)
line_then words more rest = ap (λ (t : List ℕ). t ++ rest) (sym (line_front words more))
    ∙ append_assoc (line words []) more rest ∙ line_front words (more ++ rest)

lines_then : (lines more : List (List (List ℕ))) → lines_text lines ++ lines_text more ≡ lines_text (lines ++ more)
lines_then [] more = refl
lines_then (words ∷ lines) more = line_then words (lines_text lines) (lines_text more) ∙ ap (line words) (lines_then lines more)

abbrev arg_piece : ℕ → Value → List ℕ
arg_piece place value = 32 ∷ value_text value

args_pieces : (i : ℕ) (args : List Value) (rest : List ℕ) → pieces arg_piece i args ++ 10 ∷ rest ≡ words_line (map value_text args) rest
args_pieces i [] rest = refl
args_pieces i (v ∷ args) rest = ap (λ (t : List ℕ). 32 ∷ t)
    (append_assoc (value_text v) (pieces arg_piece (i + 1) args) (10 ∷ rest)
    ∙ ap (λ (t : List ℕ). value_text v ++ t) (args_pieces (i + 1) args rest))

call_appends : (r : RecordParts) (a b c d e f : Option (List ℕ))
    → Appends a b (codes "invoke ") → Appends b c (name_word r.invoke)
    → Appends c d (10 ∷ codes "args") → Appends d e (pieces arg_piece 0 r.args)
    → Appends e f (10 ∷ codes "fuel " ++ (decimal r.fuel ++ (10 ∷ codes "limit " ++ (decimal r.limit ++ 10 ∷ [])))) → Appends a f (lines_text (call_lines r))
call_appends r a b c d e f p q s t u =
    let behind_args = codes "fuel " ++ (decimal r.fuel ++ (10 ∷ codes "limit " ++ (decimal r.limit ++ 10 ∷ []))) in
    subst (λ (z : List ℕ). Appends a f z) (ap
    (λ (z : List ℕ). codes "invoke " ++
    (name_word r.invoke ++ (10 ∷ codes "args" ++ z))) (args_pieces 0 r.args behind_args))
    (appends_then a b f _ _ p (appends_then b c f _ _ q (appends_then c d f _ _ s (appends_then d e f _ _ t u))))

abbrev scale_of : RecordParts → List (List (List ℕ))
scale_of r = scale_lines r.version r.module_len r.threads r.max_pages

pub header_appends : (r : RecordParts) (o a b c d e f : Option (List ℕ)) → Appends o a (lines_text (scale_of r))
    → Appends a b (codes "invoke ") → Appends b c (name_word r.invoke)
    → Appends c d (10 ∷ codes "args") → Appends d e (pieces arg_piece 0 r.args)
    → Appends e f (10 ∷ codes "fuel " ++ (decimal r.fuel ++ (10 ∷ codes "limit " ++ (decimal r.limit ++ 10 ∷ [])))) → Appends o f (lines_text (header_lines r))
header_appends r o a b c d e f front p q s t u =
    subst (λ (z : List ℕ). Appends o f z) (lines_then (scale_of r) (call_lines r))
    (appends_then o a f _ _ front (call_appends r a b c d e f p q s t u))

entry_pieces : (i : ℕ) (log : List Entry) (more : List (List (List ℕ)))
    → pieces (λ place entry. line (entry_words entry) []) i log ++ lines_text more ≡ lines_text
    (map entry_words log ++ more)
entry_pieces i [] more = refl
entry_pieces i (x ∷ log) more = append_assoc (line (entry_words x) [])
    (pieces (λ place entry. line (entry_words entry) []) (i + 1) log) (lines_text more)
    ∙ line_front (entry_words x) (pieces (λ place entry. line (entry_words entry) []) (i + 1) log ++ lines_text more)
    ∙ ap (line (entry_words x)) (entry_pieces (i + 1) log more)

end_pieces : (i : ℕ) (ends : List ThreadReport) (more : List (List (List ℕ)))
    → pieces (λ place report. line (end_words place report) []) i ends ++ lines_text more ≡ lines_text
    (end_lines i ends ++ more)
end_pieces i [] more = refl
end_pieces i (x ∷ ends) more = append_assoc (line (end_words i x) [])
    (pieces (λ place report. line (end_words place report) []) (i + 1) ends) (lines_text more)
    ∙ line_front (end_words i x) (pieces (λ place report. line (end_words place report) [])
    (i + 1) ends ++ lines_text more) ∙ ap (line (end_words i x)) (end_pieces (i + 1) ends more)

pub parts_appends : (r : RecordParts) (a b c d e : Option (List ℕ)) → Appends a b (lines_text (header_lines r))
    → Appends b c (pieces (λ place entry. line (entry_words entry) []) 0 r.log)
    → Appends c d (pieces (λ place report. line (end_words place report) []) 0 r.ends)
    → Appends d e (codes "pages " ++ (decimal r.pages ++ (10 ∷ codes "finish" ++ 10 ∷ []))) → Appends a e (record_text r)
parts_appends r a b c d e p q s t =
    let last : List (List (List ℕ)) = (codes "pages" ∷ decimal r.pages ∷ []) ∷ (codes "finish" ∷ []) ∷ [] in
    subst (λ (z : List ℕ). Appends a e z)
    (ap (λ (z : List ℕ). lines_text (header_lines r) ++ z)
    (ap (λ (z : List ℕ). pieces (λ place entry. line (entry_words entry) []) 0 r.log ++ z)
    (end_pieces 0 r.ends last) ∙ entry_pieces 0 r.log (end_lines 0 r.ends ++ last))
    ∙ lines_then (header_lines r) (map entry_words r.log ++ (end_lines 0 r.ends ++ last)))
    (appends_then a b e _ _ p (appends_then b c e _ _ q (appends_then c d e _ _ s t)))
