-- The laws of the header, of what stands behind it, and of whole records.
use Rattle.std.proofs.Common.{◌≡◌, ℕ, ◌+◌, ◌*◌, ◌/◌, ◌%◌, ◌≤◌, true, false, List, [], ◌∷◌, ◌++◌, Option, Some, None}
use Rattle.std.proofs.Common.{Result, Ok, Err, inl, inr, ◌⊎◌, refl, sym, ap, subst, ◌∙◌, arith, map, length-append}
use Rattle.std.specs.Prelude.{codes, length, ◌==◌}
use Rattle.std.specs.List.{All}
use Rattle.std.proofs.lemmas.List.Elements.{All-nil, All-head, All-tail, All-cons}
use Rattle.std.specs.Str.{is_utf8}
use Rattle.std.proofs.lemmas.Str.{is_utf8-from_IsUtf8, IsUtf8-nil}
use Rattle.std.specs.Fmt.{decimal}
use Rattle.std.proofs.lemmas.Bool.Decides.{nat_tests}
use Rattle.types.specs.declared.value.Value.{Value}
use Rattle.types.specs.declared.event.Entry.{Entry}
use Rattle.types.specs.declared.outcome.ThreadReport.{ThreadReport}
use Rattle.types.specs.Values.{value_text}
use Rattle.types.specs.declared.limits.TheConstants.{MOST_PAGES, MOST_THREADS, MOST_LIMIT, MOST_FUEL, MOST_MODULE_BYTES}
use Rattle.replay_forms.specs.Reading.{◌>>=◌, Reader, after, number_at, number_then, behind, both, made, word_for, first, several, listed, hex_byte_at}
use Rattle.replay_forms.specs.Texts.{line, words_line, lines_text, texts, hex_text, hex_digit}
use Rattle.replay_forms.proofs.Laws.{Law, bind_some, move, after_takes, after_again, begins_plain, number_text}
use Rattle.replay_forms.proofs.Laws.{number_law, behind_text, behind_law, both_text, both_law, made_takes, made_again}
use Rattle.replay_forms.proofs.Laws.{word_takes, first_takes, second_again, law_from, chosen, only_some, some_is}
use Rattle.replay_forms.proofs.Laws.{gives}
use Rattle.replay_forms.proofs.Lines.{lines_of_items}
use Rattle.replay_forms.proofs.Hex.{hex_byte_text, hex_takes, hex_again, hex_is_digit}
use Rattle.replay_forms.proofs.Repeated.{AllFit, IsSeveral, several_takes, several_again, listed_law}
use Rattle.replay_text.specs.Words.{entry_words}
use Rattle.replay_text.specs.Conditions.{IsValue, IsEntry, IsReport}
use Rattle.replay_text.specs.Text.{name_word, end_lines, record_text, IsRecord}
use Rattle.replay_text.specs.Reading.{value_at, arg_at, end_at, entry_at, named, invoke_at, args_at, fuel_at}
use Rattle.replay_text.specs.Reading.{limit_at, above_zero, count_at, Scale, one_at, two_at, scale_at, pages_at, header_at, Header}
use Rattle.replay_text.specs.Reading.{module_at, threads_at, max_pages_at, threads_in, max_pages_in, limit_in}
use Rattle.replay_text.specs.Reading.{some_items, ends_at, body_at}
use Rattle.replay_text.specs.Reading.{Body, parts_of, nothing_left, record_at, first_line, second_line, last_line}
use Rattle.replay_text.specs.Versions.{IsScale}
use Rattle.replay_text.specs.declared.version.Version.{Version}
use Rattle.replay_text.specs.declared.version.Version.TheVariants as versions
use Rattle.replay_text.specs.declared.parts.RecordParts.{RecordParts}
use Rattle.replay_text.specs.declared.fault.RecordFault.{RecordFault}
use Rattle.replay_text.specs.declared.fault.RecordFault.TheVariants as faults
use Rattle.replay_text.specs.Faults.{Gives}
use Rattle.replay_text.proofs.Events.{IsCount, entry_text, entry_takes, entry_again}
use Rattle.replay_text.proofs.Records.{value_front, value_taken, value_back, end_text, EndFits, end_takes, end_again}

-- ---- lists of items that fit

pub all_fit : {A : Type 0} (P : A → Type 0) (i : ℕ) (xs : List A) → All P xs → AllFit (λ k. P) i xs
all_fit P i [] h = tt
all_fit P i (x ∷ xs) h = (All-head P x xs h, all_fit P (i + 1) xs (All-tail P x xs h))

fit_all : {A : Type 0} (P : A → Type 0) (i : ℕ) (xs : List A) → AllFit (λ k. P) i xs → All P xs
fit_all P i [] h = All-nil P
fit_all P i (x ∷ xs) h = All-cons P x xs h.0 (fit_all P (i + 1) xs h.1)

ends_fit : (i : ℕ) (xs : List ThreadReport) → All IsReport xs → i + length xs ≤ MOST_THREADS → AllFit EndFits i xs
ends_fit i [] h le = tt
ends_fit i (x ∷ xs) h le = ((All-head IsReport x xs h, omega arith), ends_fit (i + 1) xs (All-tail IsReport x xs h) (omega arith))

fit_ends : (i : ℕ) (xs : List ThreadReport) → AllFit EndFits i xs → All IsReport xs
fit_ends i [] h = All-nil IsReport
fit_ends i (x ∷ xs) h = All-cons IsReport x xs (h.0).0 (fit_ends (i + 1) xs h.1)

-- ---- names

hex_texts : (i : ℕ) (bytes rest : List ℕ) → texts (λ k. hex_byte_text) i bytes rest ≡ hex_text bytes ++ rest
hex_texts i [] rest = refl
hex_texts i (b ∷ bytes) rest = ap (hex_byte_text b) (hex_texts (i + 1) bytes rest)

abbrev pub IsByte : ℕ → Type 0
IsByte b = b ≤ 255

name_stops : (k : ℕ) (rest : List ℕ) → hex_byte_at ((10 ∷ []) ++ rest) ≡ None
name_stops k [] = refl
name_stops k (c ∷ rest) = refl

abbrev hex_list_text : List ℕ → List ℕ → List ℕ
hex_list_text xs rest = texts (λ k. hex_byte_text) 0 xs ((10 ∷ []) ++ rest)

hex_list_law : Law hex_list_text (AllFit (λ k. IsByte) 0) (listed (λ place. hex_byte_at) (10 ∷ []))
hex_list_law = listed_law (λ rest. Unit {0}) (λ k. hex_byte_text) (λ k. IsByte) (λ place. hex_byte_at)
    (10 ∷ []) hex_takes (λ i x rest g fit. hex_again x rest fit) (λ i x rest. tt) (λ i x rest. omega arith)
    (λ rest. tt) name_stops

abbrev pub NameFits : List ℕ → Type 0
NameFits name = (is_utf8 name ≡ true) × AllFit (λ k. IsByte) 0 name

abbrev pub name_text : List ℕ → List ℕ → List ℕ
name_text name rest = name_word name ++ 10 ∷ rest

named_there : (x y rest : List ℕ) → AllFit (λ k. IsByte) 0 x → named x ≡ Some y → (hex_list_text x rest ≡ name_text y rest) × NameFits y
named_there [] y rest fit e = absurd cc
named_there (b ∷ bytes) y rest fit e =
    let p = only_some (is_utf8 (b ∷ bytes)) (Some (b ∷ bytes)) y e in
    subst (λ (z : List ℕ). (hex_list_text (b ∷ bytes) rest ≡ name_text z rest) × NameFits z)
    (some_is (b ∷ bytes) y p.1) (hex_texts 0 (b ∷ bytes) (10 ∷ rest), (p.0, fit))

pub utf8_empty : is_utf8 [] ≡ true
utf8_empty = is_utf8-from_IsUtf8 [] IsUtf8-nil

abbrev dash_at : Reader (List ℕ)
dash_at = word_for [] (codes "-" ++ 10 ∷ [])

abbrev hex_name_at : Reader (List ℕ)
hex_name_at = made named (listed (λ place. hex_byte_at) (10 ∷ []))

after_dash : (c : ℕ) (bytes : List ℕ) → 48 ≤ c → dash_at (c ∷ bytes) ≡ None
unfolding after
after_dash c bytes le =
    let t : (45 == c) ≡ false = grind (arith, nat_tests) in
    rw t refl

name_again : (name rest : List ℕ) → NameFits name → first dash_at hex_name_at (name_text name rest) ≡ Some (name, rest)
unfolding after
name_again [] rest fit = refl
name_again (b ∷ bytes) rest fit =
    let to : named (b ∷ bytes) ≡ Some (b ∷ bytes) = rw fit.0 refl in
    second_again dash_at hex_name_at (name_text (b ∷ bytes) rest) _ (after_dash (hex_digit (b / 16))
    (hex_digit (b % 16) ∷ (hex_text bytes ++ 10 ∷ rest)) (hex_is_digit (b / 16)))
    (ap hex_name_at (sym (hex_texts 0 (b ∷ bytes) (10 ∷ rest))) ∙ made_again named _ _ _ hex_list_law (b ∷ bytes) (b ∷ bytes) rest fit.1 to)

name_law : Law name_text NameFits (first dash_at hex_name_at)
name_law = law_from name_text NameFits _ (first_takes _ _ dash_at hex_name_at (word_takes [] (codes "-" ++ 10 ∷ []) _ _ (λ rest. refl) (utf8_empty, tt))
    (made_takes named _ _ _ name_text NameFits hex_list_law named_there)) name_again

pub invoke_law : Law (behind_text (codes "invoke ") name_text) NameFits invoke_at
unfolding invoke_at
invoke_law = behind_law (codes "invoke ") _ _ _ name_law

-- ---- arguments

abbrev pub arg_text : Value → List ℕ → List ℕ
arg_text v rest = 32 ∷ value_front v rest

arg_takes : (i : ℕ) (bytes : List ℕ) (v : Value) (rest : List ℕ) → arg_at bytes ≡ Some (v, rest) → (bytes ≡ arg_text v rest) × IsValue v
arg_takes i bytes v rest e =
    let p = bind_some (after (32 ∷ []) bytes) (λ r. value_at r) (v, rest) e in
    let t = value_taken p.0 v rest p.2 in
    (after_takes (32 ∷ []) bytes p.0 p.1 ∙ ap (λ (z : List ℕ). 32 ∷ z) t.0, t.1)

arg_again : (i : ℕ) (v : Value) (rest : List ℕ) → begins_plain rest ≡ true → IsValue v → arg_at (arg_text v rest) ≡ Some (v, rest)
unfolding after
arg_again i v rest plain fit = value_back v rest plain fit

arg_stops : (k : ℕ) (rest : List ℕ) → arg_at ((10 ∷ []) ++ rest) ≡ None
unfolding after
arg_stops k rest = refl

arg_longer : (i : ℕ) (v : Value) (rest : List ℕ) → 1 + length rest ≤ length (arg_text v rest)
arg_longer i v rest = omega (arith, length-append (value_text v) rest)

abbrev pub args_text : List Value → List ℕ → List ℕ
args_text args rest = texts (λ k. arg_text) 0 args ((10 ∷ []) ++ rest)

pub args_law : Law (behind_text (codes "args") args_text) (AllFit (λ k. IsValue) 0) args_at
unfolding args_at
args_law = behind_law (codes "args") _ _ _ (listed_law (λ rest. begins_plain rest ≡ true) (λ k. arg_text)
    (λ k. IsValue) (λ place. arg_at) (10 ∷ []) arg_takes arg_again (λ i v rest. refl) arg_longer (λ rest. refl)
    arg_stops)

args_line : (i : ℕ) (args : List Value) (rest : List ℕ) → texts (λ k. arg_text) i args (10 ∷ rest) ≡ words_line (map value_text args) rest
args_line i [] rest = refl
args_line i (v ∷ args) rest = ap (arg_text v) (args_line (i + 1) args rest)

-- ---- the lines before the entries

abbrev pub ended : ℕ → List ℕ → List ℕ
ended = number_text (10 ∷ [])

pub fuel_law : Law (behind_text (codes "fuel ") ended) (λ n. n ≤ MOST_FUEL) fuel_at
fuel_law = behind_law (codes "fuel ") _ _ _ (number_law MOST_FUEL 10 [] (omega arith) refl)

abbrev pub CountFits : ℕ → ℕ → Type 0
CountFits max n = (1 ≤ n) × (n ≤ max)

abbrev CountPlain : List ℕ → ℕ → Type 0
CountPlain word max = Law (behind_text word ended) (λ n. n ≤ max) (behind word (number_then max (10 ∷ [])))

none_some : (y : ℕ) (o : Option ℕ) → o ≡ None → o ≡ Some y → ⊥
none_some y o p q = cc

above : (x : ℕ) → (x == 0) ≡ false → 1 ≤ x
above x e = grind (arith, nat_tests, e)

count_there : (word : List ℕ) (max x y : ℕ) (rest : List ℕ) → x ≤ max → above_zero x ≡ Some y
    → (behind_text word ended x rest ≡ behind_text word ended y rest) × CountFits max y
count_there word max x y rest le e =
    elim (chosen (x == 0) None (Some x) (Some y) e) [
      | inl t ↦ absurd (none_some y None refl t.1)
      | inr t ↦ subst (λ (z : ℕ). (behind_text word ended x rest ≡ behind_text word ended z
          rest) × CountFits max z) (some_is x y t.1) (refl, (above x t.0, le))
    ]

count_to : (n : ℕ) → 1 ≤ n → above_zero n ≡ Some n
count_to n le =
    let t : (n == 0) ≡ false = grind (arith, nat_tests) in
    rw t refl

count_law : (word : List ℕ) (max : ℕ) → CountPlain word max → Law (behind_text word ended) (CountFits max) (count_at word max)
count_law word max plain = law_from _ _ _ (made_takes above_zero _ _ _ _ (CountFits max) plain (count_there word max))
    (λ n rest fit. made_again above_zero _ _ _ plain n n rest fit.1 (count_to n fit.0))

pub limit_law : Law (behind_text (codes "limit ") ended) (CountFits MOST_LIMIT) limit_at
limit_law = count_law (codes "limit ") MOST_LIMIT (behind_law (codes "limit ") _ _ _ (number_law MOST_LIMIT 10 [] (omega arith) refl))

-- ---- the version, the length, the threads and the pages

pub module_law : Law (behind_text (codes "module ") ended) (λ n. n ≤ MOST_MODULE_BYTES) module_at
module_law = behind_law (codes "module ") _ _ _ (number_law MOST_MODULE_BYTES 10 [] (omega arith) refl)

pub threads_law : Law (behind_text (codes "threads ") ended) (CountFits MOST_THREADS) threads_at
threads_law = count_law (codes "threads ") MOST_THREADS (behind_law (codes "threads ") _ _ _ (number_law MOST_THREADS 10 [] (omega arith) refl))

pub max_pages_law : Law (behind_text (codes "max-pages ") ended) (CountFits MOST_PAGES) max_pages_at
max_pages_law = count_law (codes "max-pages ") MOST_PAGES (behind_law (codes "max-pages ") _ _ _ (number_law MOST_PAGES 10 [] (omega arith) refl))

abbrev pub Sizes : Type 0
Sizes = ℕ × (ℕ × ℕ)

abbrev pub sizes_text : Sizes → List ℕ → List ℕ
sizes_text = behind_text second_line (both_text (behind_text (codes "module ") ended)
    (both_text (behind_text (codes "threads ") ended) (behind_text (codes "max-pages ") ended)))

abbrev pub SizesFit : Sizes → Type 0
SizesFit x = (x.0 ≤ MOST_MODULE_BYTES) × (CountFits MOST_THREADS (x.1).0 × CountFits MOST_PAGES (x.1).1)

pub sizes_law : Law sizes_text SizesFit (behind second_line (both module_at (both threads_at max_pages_at)))
sizes_law = behind_law second_line _ _ _ (both_law _ _ _ _ _ _ module_law (both_law _ _ _ _ _ _ threads_law max_pages_law))

abbrev pub text_by : Version → Sizes → List ℕ → List ℕ
text_by versions.One x rest = first_line ++ rest
text_by versions.Two x rest = sizes_text x rest

abbrev pub scale_text : Scale → List ℕ → List ℕ
scale_text s rest = text_by s.0 s.1 rest

abbrev pub ScaleFits : Scale → Type 0
ScaleFits s = IsScale s.0 (s.1).0 ((s.1).1).0 ((s.1).1).1

abbrev pub scale_two : Sizes → Scale
scale_two x = (versions.Two, x)

two_there : (x : Sizes) (y : Scale) (rest : List ℕ) → SizesFit x → Some (scale_two x) ≡ Some y
    → (sizes_text x rest ≡ scale_text y rest) × ScaleFits y
two_there x y rest fit e =
    subst (λ (z : Scale). (sizes_text x rest ≡ scale_text z rest) × ScaleFits z) (some_is (scale_two x) y e) (refl, fit)

one_back : (len threads pages : ℕ) (rest : List ℕ) → IsScale versions.One len threads pages
    → scale_at (first_line ++ rest) ≡ Some ((versions.One, (len, (threads, pages))), rest)
unfolding scale_at after
one_back len threads pages rest fit = rw (fit.0, (fit.1).0, (fit.1).1) refl

not_one : (x : Sizes) (rest : List ℕ) → one_at (sizes_text x rest) ≡ None
unfolding after
not_one x rest = refl

scale_back : (v : Version) (x : Sizes) (rest : List ℕ) → ScaleFits (v, x) → scale_at (scale_text (v, x) rest) ≡ Some ((v, x), rest)
unfolding scale_at
scale_back versions.One x rest fit = one_back x.0 (x.1).0 (x.1).1 rest fit
scale_back versions.Two x rest fit =
    second_again one_at two_at (sizes_text x rest) _ (not_one x rest)
    (made_again (λ y. Some (versions.Two, y)) _ _ _ sizes_law x (versions.Two, x) rest fit refl)

pub scale_law : Law scale_text ScaleFits scale_at
unfolding scale_at
scale_law = law_from scale_text ScaleFits _ (first_takes _ _ one_at two_at
    (word_takes _ first_line _ _ (λ rest. refl) (refl, (refl, refl)))
    (made_takes (λ y. Some (versions.Two, y)) _ _ _ scale_text ScaleFits sizes_law two_there))
    (λ s rest fit. scale_back s.0 s.1 rest fit)

pub counted : (v : Version) (len threads pages : ℕ) → IsScale v len threads pages → IsCount threads × (pages ≤ MOST_PAGES)
counted versions.One len threads pages fit = ((omega (arith, (fit.1).0), omega (arith, (fit.1).0)), omega (arith, (fit.1).1))
counted versions.Two len threads pages fit = ((fit.1).0, ((fit.1).1).1)

abbrev pub header_text : Header → List ℕ → List ℕ
header_text = both_text scale_text (both_text (behind_text (codes "invoke ") name_text)
    (both_text (behind_text (codes "args") args_text)
    (both_text (behind_text (codes "fuel ") ended) (behind_text (codes "limit ") ended))))

abbrev pub HeaderFits : Header → Type 0
HeaderFits h = ScaleFits h.0 × (NameFits (h.1).0 × (AllFit (λ k. IsValue) 0 ((h.1).1).0
    × (((((h.1).1).1).0 ≤ MOST_FUEL) × CountFits MOST_LIMIT (limit_in h))))

pub header_law : Law header_text HeaderFits header_at
unfolding header_at
header_law = both_law _ _ _ _ _ _ scale_law (both_law _ _ _ _ _ _ invoke_law (both_law _ _ _ _ _ _ args_law (both_law _ _ _ _ _ _ fuel_law limit_law)))

-- ---- what stands behind them

abbrev pub pages_text : ℕ → List ℕ → List ℕ
pages_text = behind_text (codes "pages ") ended

pub pages_law : (max_pages : ℕ) → max_pages ≤ MOST_PAGES → Law pages_text (λ n. n ≤ max_pages) (pages_at max_pages)
pages_law max_pages fits = behind_law (codes "pages ") _ _ _ (number_law max_pages 10 [] (omega (arith, fits)) refl)

abbrev pub Ends : Type 0
Ends = List ThreadReport × ℕ

abbrev pub ends_text : Ends → List ℕ → List ℕ
ends_text x rest = texts end_text 0 x.0 (pages_text x.1 (last_line ++ rest))

abbrev pub EndsFit : ℕ → ℕ → Ends → Type 0
EndsFit threads max_pages x = AllFit EndFits 0 x.0 × ((1 ≤ length x.0) × ((length x.0 ≤ threads) × (x.1 ≤ max_pages)))

items_are : {A : Type 0} (xs ys : List A) → some_items xs ≡ Some ys → (xs ≡ ys) × (1 ≤ length ys)
items_are [] ys e = absurd cc
items_are {A} (x ∷ xs) ys e = subst (λ (z : List A). (x ∷ xs ≡ z) × (1 ≤ length z)) (some_is (x ∷ xs) ys e) (refl, omega arith)

items_to : {A : Type 0} (xs : List A) → 1 ≤ length xs → some_items xs ≡ Some xs
items_to [] le = absurd (omega arith)
items_to (x ∷ xs) le = refl

ends_made : (threads max_pages : ℕ) (bytes : List ℕ) (all : List ThreadReport × List ℕ) (ends : List ThreadReport) (pages : ℕ)
    (mid last : List ℕ) (x : Ends) (rest : List ℕ) → IsSeveral end_text EndFits 0 threads bytes all
    → (all.0 ≡ ends) × (1 ≤ length ends) → (all.1 ≡ pages_text pages mid) × (pages ≤ max_pages)
    → mid ≡ last_line ++ last → gives (ends, pages) last ≡ gives x rest → (bytes ≡ ends_text x rest) × EndsFit threads max_pages x
ends_made threads max_pages bytes all ends pages mid last x rest t i p m e =
    let whole : bytes ≡ ends_text (ends, pages) last = t.spelled
    ∙ ap (λ (z : List ThreadReport). texts end_text 0 z all.1) i.0
    ∙ ap (texts end_text 0 ends) (p.0 ∙ ap (pages_text pages) m) in
    let fit : AllFit EndFits 0 ends = subst (λ (z : List ThreadReport). AllFit EndFits 0 z) i.0 t.fit in
    let few : length ends ≤ threads = subst (λ (z : List ThreadReport). length z ≤ threads) i.0 t.few in
    move (λ (z : Ends) (r : List ℕ). (bytes ≡ ends_text z r) × EndsFit threads max_pages z) (ends, pages) x last rest e (whole, (fit, (i.1, (few, p.1))))

pub ends_found : (threads max_pages : ℕ) → max_pages ≤ MOST_PAGES → (bytes : List ℕ) (x : Ends) (rest : List ℕ)
    → ends_at threads max_pages bytes ≡ Some (x, rest) → (bytes ≡ ends_text x rest) × EndsFit threads max_pages x
unfolding ends_at
ends_found threads max_pages fits bytes x rest e =
    let all = several end_at 0 threads bytes in
    let p = bind_some (some_items all.0) (λ ends. pages_at max_pages all.1 >>= λ pages. after last_line pages.1 >>= λ r. Some ((ends, pages.0), r))
    (x, rest) e in
    let q = bind_some (pages_at max_pages all.1) (λ pages. after last_line pages.1 >>= λ r. Some ((p.0, pages.0), r)) (x, rest) p.2 in
    let s = bind_some (after last_line q.0.1) (λ r. Some ((p.0, q.0.0), r)) (x, rest) q.2 in
    ends_made threads max_pages bytes all p.0 q.0.0 q.0.1 s.0 x rest
    (several_takes end_text EndFits end_at end_takes 0 threads bytes) (items_are all.0 p.0 p.1)
    ((pages_law max_pages fits).takes all.1 q.0.0 q.0.1 q.1) (after_takes last_line q.0.1 s.0 s.1) s.2

pub pages_stop : (k p : ℕ) (rest : List ℕ) → end_at k (pages_text p rest) ≡ None
unfolding end_at after
pages_stop k p rest = refl

pub ends_again : (threads max_pages : ℕ) → max_pages ≤ MOST_PAGES → (x : Ends) (rest : List ℕ) → EndsFit threads max_pages x
    → ends_at threads max_pages (ends_text x rest) ≡ Some (x, rest)
unfolding ends_at
ends_again threads max_pages fits x rest fit =
    let behind_ends = pages_text x.1 (last_line ++ rest) in
    let s = several_again (λ r. Unit {0}) end_text EndFits end_at (λ i y r g f. end_again i y r f)
    (λ i y r. tt) 0 threads x.0 behind_ends tt fit.0 ((fit.1).1).0 (λ k. pages_stop k x.1 (last_line ++ rest))
    in
    ap (λ (z : List ThreadReport × List ℕ). some_items z.0 >>= λ ends. pages_at max_pages z.1 >>= λ pages. after last_line pages.1 >>=
    λ r. Some ((ends, pages.0), r)) s
    ∙ rw (items_to x.0 (fit.1).0, (pages_law max_pages fits).again x.1 (last_line ++ rest) ((fit.1).1).1, after_again last_line rest) refl

abbrev pub body_text : Body → List ℕ → List ℕ
body_text b rest = texts (λ k. entry_text) 0 b.0 (ends_text b.1 rest)

abbrev pub BodyFits : ℕ → ℕ → ℕ → Body → Type 0
BodyFits threads max_pages limit b =
    AllFit (λ k. IsEntry threads) 0 b.0 × ((length b.0 ≤ limit + 3 * threads) × EndsFit threads max_pages b.1)

abbrev pub AreIn : ℕ → ℕ → Type 0
AreIn threads max_pages = IsCount threads × (max_pages ≤ MOST_PAGES)

pub body_takes : (threads max_pages : ℕ) → AreIn threads max_pages → (limit : ℕ) (bytes : List ℕ) (b : Body) (rest : List ℕ)
    → body_at threads max_pages limit bytes ≡ Some (b, rest) → (bytes ≡ body_text b rest) × BodyFits threads max_pages limit b
unfolding body_at
body_takes threads max_pages are limit bytes b rest e =
    let all = several (λ place. entry_at threads) 0 (limit + 3 * threads) bytes in
    let p = bind_some (ends_at threads max_pages all.1) (λ x. Some ((all.0, x.0), x.1)) (b, rest) e in
    let t = several_takes (λ k. entry_text) (λ k. IsEntry threads) (λ place. entry_at threads) (λ i. entry_takes threads are.0) 0 (limit + 3 * threads) bytes in
    let u = ends_found threads max_pages are.1 all.1 p.0.0 p.0.1 p.1 in
    move (λ (z : Body) (r : List ℕ). (bytes ≡ body_text z r) × BodyFits threads max_pages limit z)
    (all.0, p.0.0) b p.0.1 rest p.2 (t.spelled ∙ ap (texts (λ k. entry_text) 0 all.0) u.0, (t.fit, (t.few, u.1)))

pub end_stops_at : (threads : ℕ) (reports : List ThreadReport) (rest : List ℕ) → 1 ≤ length reports → entry_at threads (texts end_text 0 reports rest) ≡ None
unfolding entry_at number_at
end_stops_at threads [] rest le = absurd (omega arith)
end_stops_at threads (r ∷ reports) rest le = refl

end_stops : (threads : ℕ) (x : Ends) (rest : List ℕ) → 1 ≤ length x.0 → entry_at threads (ends_text x rest) ≡ None
end_stops threads x rest le = end_stops_at threads x.0 (pages_text x.1 (last_line ++ rest)) le

pub body_again : (threads max_pages : ℕ) → AreIn threads max_pages → (limit : ℕ) (b : Body) (rest : List ℕ) → BodyFits threads max_pages limit b
    → body_at threads max_pages limit (body_text b rest) ≡ Some (b, rest)
unfolding body_at
body_again threads max_pages are limit b rest fit =
    let stop = end_stops threads b.1 rest (((fit.1).1).1).0 in
    let s = several_again (λ r. Unit {0}) (λ k. entry_text) (λ k. IsEntry threads) (λ place. entry_at threads)
    (λ i y r g f. entry_again threads are.0 y r f) (λ i y r. tt) 0 (limit + 3 * threads) b.0 (ends_text b.1 rest) tt fit.0
    (fit.1).0 (λ k. stop) in
    ap (λ (z : List Entry × List ℕ). ends_at threads max_pages z.1 >>= λ x. Some ((z.0, x.0), x.1)) s ∙
    rw (ends_again threads max_pages are.1 b.1 rest (fit.1).1) refl

-- ---- records

abbrev pub whole_text : Header → Body → List ℕ
whole_text h b = header_text h (body_text b [])

ends_lines : (i : ℕ) (reports : List ThreadReport) (more : List (List (List ℕ)))
    → lines_text (end_lines i reports ++ more) ≡ texts end_text i reports (lines_text more)
ends_lines i [] more = refl
ends_lines i (r ∷ reports) more = ap (end_text i r) (ends_lines (i + 1) reports more)

call_is : (h : Header) (b : Body) (t : List ℕ) → t ≡ body_text b []
    → line (codes "invoke" ∷ name_word (h.1).0 ∷ []) (line (codes "args" ∷ map value_text ((h.1).1).0)
    (line (codes "fuel" ∷ decimal (((h.1).1).1).0 ∷ []) (line (codes "limit" ∷ decimal (limit_in h) ∷ []) t)))
    ≡ codes "invoke " ++ (name_word (h.1).0 ++ 10 ∷ (codes "args" ++ args_text ((h.1).1).0 (codes "fuel " ++ ended (((h.1).1).1).0
    (codes "limit " ++ ended (limit_in h) (body_text b [])))))
call_is h b t e =
    ap (λ (t : List ℕ). line (codes "invoke" ∷ name_word (h.1).0 ∷ []) (line (codes "args" ∷ map value_text ((h.1).1).0)
    (line (codes "fuel" ∷ decimal (((h.1).1).1).0 ∷ []) (line (codes "limit" ∷ decimal (limit_in h) ∷ []) t)))) e
    ∙ ap (λ (t : List ℕ). codes "invoke " ++ (name_word (h.1).0 ++ 10 ∷ (codes "args" ++ t)))
    (sym (args_line 0 ((h.1).1).0 (codes "fuel " ++ ended (((h.1).1).1).0
    (codes "limit " ++ ended (limit_in h) (body_text b [])))))

behind_log : (b : Body) → lines_text (map entry_words b.0 ++ (end_lines 0 (b.1).0 ++ (codes "pages" ∷ decimal (b.1).1 ∷ []) ∷ (codes "finish" ∷ []) ∷ []))
    ≡ body_text b []
behind_log b =
    lines_of_items entry_words (λ k. entry_text)
    (λ i x rest. refl) 0 b.0 (end_lines 0 (b.1).0 ++ (codes "pages" ∷ decimal (b.1).1 ∷ []) ∷ (codes "finish" ∷ [])
    ∷ []) ∙ ap (texts (λ k. entry_text) 0 b.0)
    (ends_lines 0 (b.1).0 ((codes "pages" ∷ decimal (b.1).1 ∷ []) ∷ (codes "finish" ∷ []) ∷ []))

record_by : (v : Version) (x : Sizes) (c : List ℕ × (List Value × (ℕ × ℕ))) (b : Body)
    → record_text (parts_of ((v, x), c) b) ≡ whole_text ((v, x), c) b
record_by versions.One x c b = ap (λ (t : List ℕ). first_line ++ t) (call_is ((versions.One, x), c) b _ (behind_log b))
record_by versions.Two x c b = ap (λ (t : List ℕ). sizes_text x t) (call_is ((versions.Two, x), c) b _ (behind_log b))

pub record_is : (h : Header) (b : Body) → record_text (parts_of h b) ≡ whole_text h b
record_is h b = record_by (h.0).0 (h.0).1 h.1 b

abbrev pub Fits : Header → Body → Type 0
Fits h b = BodyFits (threads_in h) (max_pages_in h) (limit_in h) b

pub record_fits : (h : Header) (b : Body) → HeaderFits h → Fits h b → IsRecord (parts_of h b)
record_fits h b f g = record {
  invoke = ((f.1).0).0;
  bytes = fit_all IsByte 0 (h.1).0 ((f.1).0).1;
  numbers = record {
    scale = f.0;
    fuel = (((f.1).1).1).0;
    limit_low = ((((f.1).1).1).1).0;
    limit = ((((f.1).1).1).1).1;
    log = (g.1).0;
    ends_low = (((g.1).1).1).0;
    ends = ((((g.1).1).1).1).0;
    pages = ((((g.1).1).1).1).1;
  };
  args = fit_all IsValue 0 ((h.1).1).0 ((f.1).1).0;
  log = fit_all (IsEntry (threads_in h)) 0 b.0 g.0;
  ends = fit_ends 0 (b.1).0 ((g.1).1).0;
}

pub are_in : (h : Header) → HeaderFits h → AreIn (threads_in h) (max_pages_in h)
are_in h f = counted (h.0).0 ((h.0).1).0 (threads_in h) (max_pages_in h) f.0

nothing_is : {A : Type 0} (bytes : List ℕ) (x y : A) → nothing_left bytes x ≡ Some y → (bytes ≡ []) × (x ≡ y)
nothing_is [] x y e = (refl, some_is x y e)
nothing_is (c ∷ bytes) x y e = absurd cc

pub record_takes : (bytes : List ℕ) (r : RecordParts) → record_at bytes ≡ Some r → IsRecord r × (bytes ≡ record_text r)
unfolding record_at
record_takes bytes r e =
    let p = bind_some (header_at bytes) (λ h. body_at (threads_in h.0) (max_pages_in h.0) (limit_in h.0) h.1 >>= λ b. nothing_left b.1 (parts_of h.0 b.0)) r e
    in
    let q = bind_some (body_at (threads_in p.0.0) (max_pages_in p.0.0) (limit_in p.0.0) p.0.1) (λ b. nothing_left b.1 (parts_of p.0.0 b.0)) r p.2 in
    let n = nothing_is q.0.1 (parts_of p.0.0 q.0.0) r q.2 in
    let t = header_law.takes bytes p.0.0 p.0.1 p.1 in
    let u = body_takes (threads_in p.0.0) (max_pages_in p.0.0) (are_in p.0.0 t.1) (limit_in p.0.0) p.0.1 q.0.0 q.0.1 q.1 in
    let whole : bytes ≡ record_text (parts_of p.0.0 q.0.0) = t.0 ∙ ap (header_text p.0.0) (u.0 ∙ ap (body_text q.0.0) n.0) ∙ sym (record_is p.0.0 q.0.0) in
    subst (λ (z : RecordParts). IsRecord z × (bytes ≡ record_text z)) n.1 (record_fits p.0.0 q.0.0 t.1 u.1, whole)

abbrev pub header_of : RecordParts → Header
header_of r = ((r.version, (r.module_len, (r.threads, r.max_pages))), (r.invoke, (r.args, (r.fuel, r.limit))))

abbrev pub body_of : RecordParts → Body
body_of r = (r.log, (r.ends, r.pages))

pub fits_of : (r : RecordParts) → IsRecord r → HeaderFits (header_of r) × Fits (header_of r) (body_of r)
fits_of r fit =
    let n = fit.numbers in
    let hf : HeaderFits (header_of r) = (
      n.scale,
      ((fit.invoke, all_fit IsByte 0 r.invoke fit.bytes), (all_fit IsValue 0 r.args fit.args, (n.fuel, (n.limit_low, n.limit)))),
    ) in
    let are = are_in (header_of r) hf in
    let few : 0 + length r.ends ≤ MOST_THREADS = omega (arith, n.ends, are.0.1) in
    (hf, (all_fit (IsEntry r.threads) 0 r.log fit.log, (n.log, (ends_fit 0 r.ends fit.ends few, (n.ends_low, (n.ends, n.pages))))))

pub record_again : (r : RecordParts) → IsRecord r → record_at (record_text r) ≡ Some r
unfolding record_at
record_again r fit =
    let h = header_of r in
    let b = body_of r in
    let f = fits_of r fit in
    ap record_at (record_is h b) ∙ rw (header_law.again h (body_text b []) f.0, body_again r.threads r.max_pages (are_in h f.0) r.limit b [] f.1) refl

pub one_record : (r s : RecordParts) → IsRecord r → IsRecord s → record_text r ≡ record_text s → r ≡ s
one_record r s p q e = some_is r s (sym (record_again r p) ∙ ap record_at e ∙ record_again s q)

-- ---- what the reader answers

pub read_found : (bytes : List ℕ) (result : Result RecordParts RecordFault)
    → (fault : RecordFault) → Gives (λ (r : RecordParts). r) result fault (record_at bytes) → (r : RecordParts) → IsRecord r
    → bytes ≡ record_text r → (result ≡ Ok r) ⊎ (result ≡ Err faults.NoMemory)
read_found bytes (Ok x) fault h r fit e = inl (ap (λ (z : RecordParts). Ok z) (some_is x r (sym h ∙ ap record_at e ∙ record_again r fit)))
read_found bytes (Err faults.NoMemory) fault h r fit e = inr refl
read_found bytes (Err (faults.Header line)) fault h r fit e = let s = sym h.0 ∙ ap record_at e ∙ record_again r fit in absurd cc
read_found bytes (Err (faults.Unreadable line)) fault h r fit e = let s = sym h.0 ∙ ap record_at e ∙ record_again r fit in absurd cc
read_found bytes (Err faults.EndMissing) fault h r fit e = let s = sym h.0 ∙ ap record_at e ∙ record_again r fit in absurd cc
