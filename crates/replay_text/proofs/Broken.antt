-- A text that isn't read breaks off where its fault says.
use Rattle.std.proofs.Common.{◌≡◌, ℕ, ◌+◌, ◌-◌, ◌*◌, ◌^◌, ◌<◌, ◌≤◌, Bool, true, false, cond, List, [], ◌∷◌, ◌++◌}
use Rattle.std.proofs.Common.{Option, Some, None, refl, sym, ap, subst, ◌∙◌, append_assoc, arith, inl, inr, ◌⊎◌}
use Rattle.std.specs.Prelude.{length, codes, nat_le}
use Rattle.std.specs.Fmt.{decimal}
use Rattle.std.proofs.lemmas.Bool.Decides.{nat_tests}
use Rattle.types.specs.declared.value.Value.{Value}
use Rattle.types.specs.declared.event.Entry.{Entry}
use Rattle.types.specs.declared.outcome.Outcome.TheVariants as outcomes
use Rattle.types.specs.declared.outcome.ThreadReport.{ThreadReport}
use Rattle.types.specs.Values.{value_text}
use Rattle.types.specs.declared.limits.TheConstants.{MOST_PAGES, MOST_THREADS, MOST_LIMIT, MOST_FUEL, MOST_MODULE_BYTES}
use Rattle.replay_forms.specs.Reading.{◌>>=◌, Reader, after, both, several, first}
use Rattle.replay_forms.specs.Texts.{texts}
use Rattle.replay_forms.proofs.Laws.{Law, after_takes, both_text, behind_text}
use Rattle.replay_forms.proofs.Repeated.{AllFit, several_takes}
use Rattle.replay_text.specs.Words.{entry_words, end_words}
use Rattle.replay_text.specs.Conditions.{IsValue, IsEntry}
use Rattle.replay_text.specs.Text.{name_word, record_text}
use Rattle.replay_text.specs.Versions.{header_count}
use Rattle.replay_text.specs.Reading.{Scale, Header, Body, first_line, second_line, last_line, one_at, two_at, scale_at}
use Rattle.replay_text.specs.Reading.{module_at, threads_at, max_pages_at, invoke_at, args_at, fuel_at, limit_at}
use Rattle.replay_text.specs.Reading.{header_at, entry_at, end_at, pages_at, some_items, ends_at, body_at, record_at}
use Rattle.replay_text.specs.Reading.{threads_in, max_pages_in, limit_in, parts_of, nothing_left}
use Rattle.replay_text.specs.Faults.{Refusal, Fails}
use Rattle.replay_text.specs.Refusals.{fault_or, or_next, header_line, body_line, scale_refusal, call_refusal, header_refusal}
use Rattle.replay_text.specs.Refusals.{behind_ends, body_refusal, behind_header, record_refusal, left_refusal}
use Rattle.replay_text.specs.Breaks.{line_feeds, Begins, IsFaultOf}
use Rattle.replay_text.specs.declared.version.Version.{Version}
use Rattle.replay_text.specs.declared.version.Version.TheVariants as versions
use Rattle.replay_text.specs.declared.parts.RecordParts.{RecordParts}
use Rattle.replay_text.specs.declared.fault.RecordFault.{RecordFault}
use Rattle.replay_text.specs.declared.fault.RecordFault.TheVariants as faults
use Rattle.replay_text.proofs.Events.{entry_text, entry_takes, entry_again}
use Rattle.replay_text.proofs.Records.{end_text, EndFits, end_takes, end_again}
use Rattle.replay_text.proofs.Whole.{fuel_law, limit_law, module_law, threads_law, max_pages_law, scale_law, invoke_law}
use Rattle.replay_text.proofs.Whole.{args_law, header_law, pages_law, end_stops_at, pages_stop, record_is, record_fits}
use Rattle.replay_text.proofs.Whole.{NameFits, name_text, args_text, arg_text, ended, CountFits, Sizes, sizes_text, SizesFit}
use Rattle.replay_text.proofs.Whole.{scale_text, ScaleFits, scale_two, header_text, HeaderFits, pages_text, Ends, ends_text}
use Rattle.replay_text.proofs.Whole.{EndsFit, body_text, BodyFits, AreIn, are_in, whole_text, utf8_empty, record_again}
use Rattle.replay_text.proofs.Whole.{body_takes}
use Rattle.replay_text.proofs.Free.{Free, free_append, free_cons, decimal_free, feeds_append, words_joined}
use Rattle.replay_text.proofs.Free.{line_spelled, line_free, entry_free, end_free, value_free, name_free}
use Rattle.replay_text.proofs.Stopping.{none_some, OneLine, local, after_local, Lines, one_lines, both_lines, Stops, Breaks}
use Rattle.replay_text.proofs.Stopping.{Breaking, line_breaks, first_stops, second_stops, joined_none, both_breaks}
use Rattle.replay_text.proofs.Stopping.{items_front, items_spelled, items_feeds, several_stops, several_all}

none_by : {A B : Type 0} (o : Option A) (f : A → B) → (o >>= λ x. Some (f x)) ≡ None → o ≡ None
none_by None f e = refl
none_by (Some x) f e = absurd (none_some (f x) (Some (f x)) e refl)

-- ---- one line each

number_line : (word : List ℕ) (max : ℕ) (Fits : ℕ → Type 0) → Free word → max < 2 ^ 64 → ((n : ℕ) → Fits n → n ≤ max)
    → OneLine (behind_text word ended) Fits
number_line word max Fits free few le = record {
  words = λ n. word ++ decimal n;
  spelled = λ n rest. sym (append_assoc word (decimal n) (10 ∷ rest));
  free = λ n fit. free_append word (decimal n) free (decimal_free n (omega (arith, few, le n fit)));
}

module_line : OneLine (behind_text (codes "module ") ended) (λ n. n ≤ MOST_MODULE_BYTES)
module_line = number_line (codes "module ") MOST_MODULE_BYTES _ refl (omega arith) (λ n fit. fit)

threads_line : OneLine (behind_text (codes "threads ") ended) (CountFits MOST_THREADS)
threads_line = number_line (codes "threads ") MOST_THREADS _ refl (omega arith) (λ n fit. fit.1)

max_pages_line : OneLine (behind_text (codes "max-pages ") ended) (CountFits MOST_PAGES)
max_pages_line = number_line (codes "max-pages ") MOST_PAGES _ refl (omega arith) (λ n fit. fit.1)

fuel_line : OneLine (behind_text (codes "fuel ") ended) (λ n. n ≤ MOST_FUEL)
fuel_line = number_line (codes "fuel ") MOST_FUEL _ refl (omega arith) (λ n fit. fit)

limit_line : OneLine (behind_text (codes "limit ") ended) (CountFits MOST_LIMIT)
limit_line = number_line (codes "limit ") MOST_LIMIT _ refl (omega arith) (λ n fit. fit.1)

pages_line : (max_pages : ℕ) → max_pages ≤ MOST_PAGES → OneLine pages_text (λ n. n ≤ max_pages)
pages_line max_pages few = number_line (codes "pages ") max_pages _ refl (omega (arith, few)) (λ n fit. fit)

invoke_line : OneLine (behind_text (codes "invoke ") name_text) NameFits
invoke_line = record {
  words = λ name. codes "invoke " ++ name_word name;
  spelled = λ name rest. refl;
  free = λ name fit. free_append (codes "invoke ") (name_word name) refl (name_free name);
}

abbrev args_words : List Value → List ℕ
args_words [] = []
args_words (v ∷ args) = 32 ∷ (value_text v ++ args_words args)

args_spelled : (i : ℕ) (args : List Value) (rest : List ℕ) → texts (λ k. arg_text) i args (10 ∷ rest) ≡ args_words args ++ 10 ∷ rest
args_spelled i [] rest = refl
args_spelled i (v ∷ args) rest = ap (λ (t : List ℕ). 32 ∷ (value_text v ++ t)) (args_spelled (i + 1) args rest)
    ∙ ap (λ (t : List ℕ). 32 ∷ t) (sym (append_assoc (value_text v) (args_words args) (10 ∷ rest)))

args_free : (i : ℕ) (args : List Value) → AllFit (λ k. IsValue) i args → Free (args_words args)
args_free i [] fit = refl
args_free i (v ∷ args) fit = free_cons 32 (value_text v ++ args_words args) (omega arith)
    (free_append (value_text v) (args_words args) (value_free v fit.0) (args_free (i + 1) args fit.1))

args_line : OneLine (behind_text (codes "args") args_text) (AllFit (λ k. IsValue) 0)
args_line = record {
  words = λ args. codes "args" ++ args_words args;
  spelled = λ args rest. ap (λ (t : List ℕ). codes "args" ++ t) (args_spelled 0 args rest);
  free = λ args fit. free_append (codes "args") (args_words args) refl (args_free 0 args fit);
}

abbrev pub entry_line : Entry → List ℕ
entry_line e = words_joined (entry_words e)

log_line : (threads : ℕ) → threads ≤ MOST_THREADS → OneLine entry_text (IsEntry threads)
log_line threads few = record {
  words = entry_line;
  spelled = λ e rest. line_spelled (entry_words e) rest;
  free = λ e fit. line_free (entry_words e) (entry_free threads few e fit);
}

abbrev pub end_line : ℕ → ThreadReport → List ℕ
end_line thread r = words_joined (end_words thread r)

end_fits_free : (thread : ℕ) (r : ThreadReport) → EndFits thread r → Free (end_line thread r)
end_fits_free thread r fit = line_free (end_words thread r) (end_free thread (omega (arith, fit.1)) r fit.0)

one_end : (thread : ℕ) → OneLine (end_text thread) (EndFits thread)
one_end thread = record {
  words = end_line thread;
  spelled = λ r rest. line_spelled (end_words thread r) rest;
  free = λ r fit. end_fits_free thread r fit;
}

end_law : (thread : ℕ) → Law (end_text thread) (EndFits thread) (end_at thread)
end_law thread = record { takes = end_takes thread; again = end_again thread }

log_law : (threads : ℕ) → (1 ≤ threads) × (threads ≤ MOST_THREADS) → Law entry_text (IsEntry threads) (entry_at threads)
log_law threads count = record { takes = entry_takes threads count; again = entry_again threads count }

-- ---- the version, the length, the threads and the pages

abbrev pub version_count : Version → ℕ
version_count versions.One = 1
version_count versions.Two = 4

abbrev pub scale_count : Scale → ℕ
scale_count s = version_count s.0

abbrev inner_text : Sizes → List ℕ → List ℕ
inner_text = both_text (behind_text (codes "module ") ended)
    (both_text (behind_text (codes "threads ") ended) (behind_text (codes "max-pages ") ended))

abbrev inner_at : Reader Sizes
inner_at = both module_at (both threads_at max_pages_at)

abbrev inner_refusal : Refusal
inner_refusal = or_next module_at (faults.Header 2) (or_next threads_at (faults.Header 3) (header_line 4))

one_low : CountFits MOST_THREADS 1
one_low = (omega arith, omega arith)

page_low : CountFits MOST_PAGES 1
page_low = (omega arith, omega arith)

inner_breaks : Breaking inner_text SizesFit inner_at (λ x. 3) 2 inner_refusal
inner_breaks = both_breaks _ _ _ _ _ _ _ module_law module_line (1, 1) (one_low, page_low) 0 (omega arith) 2 _
    (both_breaks _ _ _ _ _ _ _ threads_law threads_line 1 page_low 1 one_low 3 _
    (line_breaks _ _ _ max_pages_law max_pages_line 1 page_low 4))

inner_lines : Lines inner_text SizesFit (λ x. 3)
inner_lines = both_lines _ _ _ _ _ _ (one_lines _ _ module_line) (both_lines _ _ _ _ _ _ (one_lines _ _ threads_line) (one_lines _ _ max_pages_line))

abbrev to_scale : Sizes × List ℕ → Option (Scale × List ℕ)
to_scale x = Some (scale_two x.0, x.1)

scale_none : (bytes : List ℕ) → after first_line bytes ≡ None → after second_line bytes ≡ None → scale_at bytes ≡ None
unfolding scale_at
scale_none bytes p q = rw (p, q) refl

scale_inner : (bytes : List ℕ) → scale_at (second_line ++ bytes) ≡ (inner_at bytes >>= to_scale)
unfolding scale_at after
scale_inner bytes = refl

or_none : {A : Type 0} (bytes : List ℕ) (at bt : Reader A) (o p : Option (A × List ℕ)) → at bytes ≡ o → bt bytes ≡ p
    → first at bt bytes ≡ None → (o ≡ None) × (p ≡ None)
or_none bytes at bt None None e f n = (refl, refl)
or_none bytes at bt None (Some y) e f n = absurd (none_some y (first at bt bytes) n (rw (e, f) refl))
or_none bytes at bt (Some x) p e f n = absurd (none_some x (first at bt bytes) n (rw e refl))

scale_by : (bytes : List ℕ) (o : Option (List ℕ)) → after second_line bytes ≡ o → after first_line bytes ≡ None
    → two_at bytes ≡ None → Breaks scale_text ScaleFits scale_at scale_count 1 scale_refusal bytes
scale_by bytes None e one two = record {
  front = [];
  rest = bytes;
  stops = record {
    cut = refl;
    again = λ line more other f. scale_none (line ++ 10 ∷ other)
        (after_local (codes "wathread-record 1") line more other refl (ap (after first_line) (sym f) ∙ one))
        (after_local (codes "wathread-record 2") line more other refl (ap (after second_line) (sym f) ∙ e));
    value = scale_two (0, (1, 1));
    fits = (omega arith, (one_low, page_low));
    more = λ other. sizes_text (0, (1, 1)) other;
    text_is = λ other. refl;
    goes_on = λ other. omega arith;
    within = omega arith;
  };
  is = ap (λ (o : Option (List ℕ)). fault_or (o >>= λ r. Some (versions.Two, r)) (faults.Header 1) (λ x. inner_refusal)) e;
}
scale_by bytes (Some r) e one two =
    let n : (inner_at r >>= to_scale) ≡ None = sym (ap (λ (o : Option (List ℕ)). (o >>= λ r. inner_at r) >>= to_scale) e) ∙ two in
    let c = inner_breaks r (none_by (inner_at r) (λ x. (scale_two x.0, x.1)) n) in
    let feeds : line_feeds (second_line ++ c.front) ≡ 1 + line_feeds c.front = feeds_append second_line c.front in
    record {
      front = second_line ++ c.front;
      rest = c.rest;
      stops = record {
        cut = after_takes second_line bytes r e ∙ ap (λ (t : List ℕ). second_line ++ t) c.stops.cut;
        again = λ line more other f. scale_inner (c.front ++ (line ++ 10 ∷ other))
            ∙ ap (λ (o : Option (Sizes × List ℕ)). o >>= to_scale) (c.stops.again line more other f);
        value = scale_two c.stops.value;
        fits = c.stops.fits;
        more = c.stops.more;
        text_is = λ other. ap (λ (t : List ℕ). second_line ++ t) (c.stops.text_is other);
        goes_on = c.stops.goes_on;
        within = omega (arith, feeds, c.stops.within);
      };
      is = ap (λ (o : Option (List ℕ)). fault_or (o >>= λ r. Some (versions.Two, r)) (faults.Header 1) (λ x. inner_refusal)) e
          ∙ c.is ∙ ap (λ (n : ℕ). faults.Header n) (omega (arith, feeds));
    }

scale_breaks : Breaking scale_text ScaleFits scale_at scale_count 1 scale_refusal
unfolding scale_at
scale_breaks bytes none =
    let p = or_none bytes one_at two_at (one_at bytes) (two_at bytes) refl refl none in
    scale_by bytes (after second_line bytes) refl (none_by (after first_line bytes) _ p.0) p.1

abbrev front_by : Version → Sizes → List ℕ
front_by versions.One x = first_line
front_by versions.Two x = second_line ++ inner_lines.front x

front_spelled : (v : Version) (x : Sizes) (rest : List ℕ) → scale_text (v, x) rest ≡ front_by v x ++ rest
front_spelled versions.One x rest = refl
front_spelled versions.Two x rest = ap (λ (t : List ℕ). second_line ++ t) (inner_lines.spelled x rest)

front_feeds : (v : Version) (x : Sizes) → ScaleFits (v, x) → line_feeds (front_by v x) ≡ version_count v
front_feeds versions.One x fit = refl
front_feeds versions.Two x fit = feeds_append second_line (inner_lines.front x) ∙ ap (λ (n : ℕ). 1 + n) (inner_lines.feeds x fit)

scale_lines : Lines scale_text ScaleFits scale_count
scale_lines = record {
  front = λ s. front_by s.0 s.1;
  spelled = λ s rest. front_spelled s.0 s.1 rest;
  feeds = λ s fit. front_feeds s.0 s.1 fit;
}

-- ---- the header

abbrev Call : Type 0
Call = List ℕ × (List Value × (ℕ × ℕ))

abbrev call_text : Call → List ℕ → List ℕ
call_text = both_text (behind_text (codes "invoke ") name_text) (both_text (behind_text (codes "args") args_text)
    (both_text (behind_text (codes "fuel ") ended) (behind_text (codes "limit ") ended)))

abbrev CallFits : Call → Type 0
CallFits c = NameFits c.0 × (AllFit (λ k. IsValue) 0 (c.1).0 × ((((c.1).1).0 ≤ MOST_FUEL) × CountFits MOST_LIMIT ((c.1).1).1))

abbrev call_at : Reader Call
call_at = both invoke_at (both args_at (both fuel_at limit_at))

abbrev least_call : Call
least_call = ([], ([], (0, 1)))

limit_low : CountFits MOST_LIMIT 1
limit_low = (omega arith, omega arith)

budget_fits : (0 ≤ MOST_FUEL) × CountFits MOST_LIMIT 1
budget_fits = (omega arith, limit_low)

least_fits : CallFits least_call
least_fits = ((utf8_empty, tt), (tt, budget_fits))

call_by : (first : ℕ) → Breaking call_text CallFits call_at (λ x. 4) first
    (or_next invoke_at (faults.Header first) (or_next args_at (faults.Header (first + 1))
    (or_next fuel_at (faults.Header (first + 1 + 1)) (header_line (first + 1 + 1 + 1)))))
call_by first = both_breaks _ _ _ _ _ _ _ invoke_law invoke_line ([], (0, 1)) (tt, budget_fits) [] (utf8_empty, tt) first _
    (both_breaks _ _ _ _ _ _ _ args_law args_line (0, 1) budget_fits [] tt (first + 1) _
    (both_breaks _ _ _ _ _ _ _ fuel_law fuel_line 1 limit_low 0 (omega arith) (first + 1 + 1) _
    (line_breaks _ _ _ limit_law limit_line 1 limit_low (first + 1 + 1 + 1))))

call_breaks : (v : Version) → Breaking call_text CallFits call_at (λ x. 4) (header_count v - 3) (call_refusal (header_count v))
call_breaks versions.One = call_by 2
call_breaks versions.Two = call_by 5

call_lines : Lines call_text CallFits (λ x. 4)
call_lines = both_lines _ _ _ _ _ _ (one_lines _ _ invoke_line) (both_lines _ _ _ _ _ _ (one_lines _ _ args_line)
    (both_lines _ _ _ _ _ _ (one_lines _ _ fuel_line) (one_lines _ _ limit_line)))

abbrev pub header_lines_of : Header → ℕ
header_lines_of h = scale_count h.0 + 4

lines_are : (v : Version) → version_count v + 4 ≡ header_count v
lines_are versions.One = refl
lines_are versions.Two = refl

call_first : (v : Version) → header_count v - 3 ≡ 1 + version_count v
call_first versions.One = refl
call_first versions.Two = refl

pub header_front : Lines header_text HeaderFits header_lines_of
header_front = both_lines _ _ _ _ _ _ scale_lines call_lines

abbrev with_call : Scale × List ℕ → Option (Header × List ℕ)
with_call x = call_at x.1 >>= λ y. Some ((x.0, y.0), y.1)

header_by : (bytes : List ℕ) (o : Option (Scale × List ℕ)) → scale_at bytes ≡ o → (o >>= with_call) ≡ None
    → Breaks header_text HeaderFits (both scale_at call_at) header_lines_of 1 header_refusal bytes
header_by bytes None e n =
    let c = scale_breaks bytes e in
    record {
      front = c.front;
      rest = c.rest;
      stops = first_stops scale_text ScaleFits scale_at scale_count call_text CallFits call_at (λ x. 4) least_call least_fits
          bytes c.front c.rest c.stops;
      is = ap (λ (o : Option (Scale × List ℕ)). fault_or o (scale_refusal bytes) (λ s. call_refusal (header_count s.0))) e ∙ c.is;
    }
header_by bytes (Some z) e n =
    let t = scale_law.takes bytes z.0 z.1 e in
    let c = call_breaks z.0.0 z.1 (joined_none call_at z n) in
    let f = scale_lines.front z.0 in
    let feeds : line_feeds (f ++ c.front) ≡ version_count z.0.0 + line_feeds c.front =
    omega (arith, feeds_append f c.front, scale_lines.feeds z.0 t.1) in
    let number : (header_count z.0.0 - 3) + line_feeds c.front ≡ 1 + line_feeds (f ++ c.front) =
    omega (arith, call_first z.0.0, feeds) in
    record {
      front = f ++ c.front;
      rest = c.rest;
      stops = second_stops scale_text ScaleFits scale_at scale_count call_text CallFits call_at (λ x. 4) scale_law scale_lines
          z.0 t.1 bytes z.1 c.front c.rest t.0 c.stops;
      is = ap (λ (o : Option (Scale × List ℕ)). fault_or o (scale_refusal bytes) (λ s. call_refusal (header_count s.0))) e
          ∙ c.is ∙ ap (λ (n : ℕ). faults.Header n) number;
    }

header_breaks : Breaking header_text HeaderFits header_at header_lines_of 1 header_refusal
unfolding header_at
header_breaks bytes none = header_by bytes (scale_at bytes) refl none

-- ---- the ends

abbrev from_last : List ThreadReport → ℕ × List ℕ → Option (Ends × List ℕ)
from_last ends pages = after last_line pages.1 >>= λ r. Some ((ends, pages.0), r)

abbrev from_ends : ℕ → List ThreadReport × List ℕ → Option (Ends × List ℕ)
from_ends max_pages all = some_items all.0 >>= λ ends. pages_at max_pages all.1 >>= from_last ends

ends_are : (threads max_pages : ℕ) (bytes : List ℕ) → ends_at threads max_pages bytes ≡ from_ends max_pages (several end_at 0 threads bytes)
unfolding ends_at
ends_are threads max_pages bytes = refl

-- how many threads and pages there may be, and the end lines that were read
record IsRead (threads max_pages : ℕ) (bytes : List ℕ) (ends : List ThreadReport) (left : List ℕ) : Type 0 where
  are : AreIn threads max_pages
  spelled : bytes ≡ texts end_text 0 ends left
  fit : AllFit EndFits 0 ends
  few : length ends ≤ threads
  stop : length ends < threads → end_at (0 + length ends) left ≡ None

record EndsBreak (threads max_pages : ℕ) (bytes : List ℕ) (ends : List ThreadReport) (left : List ℕ) : Type 0 where
  front : List ℕ
  rest : List ℕ
  stops : Stops ends_text (EndsFit threads max_pages) (ends_at threads max_pages) (λ x. length x.0 + 2) bytes front rest
  entry : (line more other : List ℕ) → rest ≡ line ++ 10 ∷ more → entry_at threads bytes ≡ None → entry_at threads (front ++ (line ++ 10 ∷ other)) ≡ None
  is : (line : ℕ) → behind_ends max_pages line ends left ≡ body_line (line + line_feeds front) rest

end_passed : (threads : ℕ) (ends : List ThreadReport) (rest : List ℕ) → AllFit EndFits 0 ends → length ends ≤ threads
    → (length ends < threads → end_at (0 + length ends) rest ≡ None) → several end_at 0 threads (texts end_text 0 ends rest) ≡ (ends, rest)
end_passed threads ends rest fit few stop = several_all end_text EndFits end_at end_again 0 threads ends rest fit few stop

abbrev least_end : ThreadReport
least_end = record { outcome = outcomes.Done None; spent = 0 }

end_fits : EndFits 0 least_end
end_fits = (record { outcome = tt; spent = omega arith }, omega arith)

same_number : (rest : List ℕ) (n m : ℕ) → n ≡ m → body_line n rest ≡ body_line m rest
same_number rest n m e = ap (λ (k : ℕ). body_line k rest) e

no_end : (threads max_pages : ℕ) (bytes left : List ℕ) → IsRead threads max_pages bytes [] left → EndsBreak threads max_pages bytes [] left
no_end threads max_pages bytes left read =
    let none : end_at 0 left ≡ None = read.stop (omega (arith, read.are.0.0)) in
    record {
      front = [];
      rest = left;
      stops = record {
        cut = read.spelled;
        again = λ line more other f.
            let stop = local (end_text 0) (EndFits 0) (end_at 0) (end_law 0) (one_end 0) line more other (ap (end_at 0) (sym f) ∙ none) in
            ends_are threads max_pages (line ++ 10 ∷ other)
            ∙ ap (from_ends max_pages) (end_passed threads [] (line ++ 10 ∷ other) tt (omega arith) (λ lt. stop));
        value = (least_end ∷ [], 0);
        fits = ((end_fits, tt), (omega arith, (omega (arith, read.are.0.0), omega arith)));
        more = λ other. end_text 0 least_end (pages_text 0 (last_line ++ other));
        text_is = λ other. refl;
        goes_on = λ other. omega arith;
        within = omega arith;
      };
      entry = λ line more other f e. local entry_text (IsEntry threads) (entry_at threads) (log_law threads read.are.0)
          (log_line threads read.are.0.1) line more other (ap (entry_at threads) (sym f) ∙ ap (entry_at threads) (sym read.spelled) ∙ e);
      is = λ line. same_number left line (line + 0) (omega arith);
    }

abbrev pub ends_before : List ThreadReport → List ℕ
ends_before ends = items_front end_line 0 ends

pub ends_spelled : (ends : List ThreadReport) (rest : List ℕ) → texts end_text 0 ends rest ≡ ends_before ends ++ rest
ends_spelled ends rest = items_spelled end_text end_line (λ i r rest. line_spelled (end_words i r) rest) 0 ends rest

ends_feeds : (ends : List ThreadReport) → AllFit EndFits 0 ends → line_feeds (ends_before ends) ≡ length ends
ends_feeds ends fit = items_feeds end_line EndFits end_fits_free 0 ends fit

no_pages : (threads max_pages : ℕ) (bytes left : List ℕ) (end : ThreadReport) (others : List ThreadReport)
    → IsRead threads max_pages bytes (end ∷ others) left → pages_at max_pages left ≡ None
    → EndsBreak threads max_pages bytes (end ∷ others) left
no_pages threads max_pages bytes left end others read none =
    let ends : List ThreadReport = end ∷ others in
    let some : 1 ≤ length ends = omega arith in
    record {
      front = ends_before ends;
      rest = left;
      stops = record {
        cut = read.spelled ∙ ends_spelled ends left;
        again = λ line more other f.
            let next = line ++ 10 ∷ other in
            let stop : length ends < threads → end_at (0 + length ends) next ≡ None =
            λ lt. local (end_text (0 + length ends)) (EndFits (0 + length ends)) (end_at (0 + length ends)) (end_law (0 + length ends))
            (one_end (0 + length ends)) line more other (ap (end_at (0 + length ends)) (sym f) ∙ read.stop lt) in
            let page = local pages_text (λ n. n ≤ max_pages) (pages_at max_pages) (pages_law max_pages read.are.1)
            (pages_line max_pages read.are.1) line more other (ap (pages_at max_pages) (sym f) ∙ none) in
            ap (ends_at threads max_pages) (sym (ends_spelled ends next))
            ∙ ends_are threads max_pages (texts end_text 0 ends next)
            ∙ ap (from_ends max_pages) (end_passed threads ends next read.fit read.few stop)
            ∙ ap (λ (o : Option (ℕ × List ℕ)). o >>= from_last ends) page;
        value = (ends, 0);
        fits = (read.fit, (some, (read.few, omega arith)));
        more = λ other. pages_text 0 (last_line ++ other);
        text_is = λ other. ends_spelled ends (pages_text 0 (last_line ++ other));
        goes_on = λ other. omega arith;
        within = omega (arith, ends_feeds ends read.fit);
      };
      entry = λ line more other f e. ap (entry_at threads) (sym (ends_spelled ends (line ++ 10 ∷ other)))
          ∙ end_stops_at threads ends (line ++ 10 ∷ other) some;
      is = λ line. ap (λ (o : Option (ℕ × List ℕ)). fault_or o (body_line (line + length ends) left) (λ pages. body_line (line + length ends + 1))) none
          ∙ same_number left (line + length ends) (line + line_feeds (ends_before ends)) (omega (arith, ends_feeds ends read.fit));
    }

no_last : (threads max_pages : ℕ) (bytes left : List ℕ) (end : ThreadReport) (others : List ThreadReport)
    → IsRead threads max_pages bytes (end ∷ others) left → (pages : ℕ) (rest : List ℕ)
    → pages_at max_pages left ≡ Some (pages, rest) → after last_line rest ≡ None
    → EndsBreak threads max_pages bytes (end ∷ others) left
no_last threads max_pages bytes left end others read pages rest e none =
    let ends : List ThreadReport = end ∷ others in
    let some : 1 ≤ length ends = omega arith in
    let law = pages_law max_pages read.are.1 in
    let t = law.takes left pages rest e in
    let l = one_lines pages_text (λ n. n ≤ max_pages) (pages_line max_pages read.are.1) in
    let page = l.front pages in
    let front = ends_before ends ++ page in
    let spelled : (z : List ℕ) → texts end_text 0 ends (pages_text pages z) ≡ front ++ z =
    λ z. ends_spelled ends (pages_text pages z) ∙ ap (λ (t : List ℕ). ends_before ends ++ t) (l.spelled pages z)
    ∙ sym (append_assoc (ends_before ends) page z) in
    let feeds : line_feeds front ≡ length ends + 1 =
    omega (arith, feeds_append (ends_before ends) page, ends_feeds ends read.fit, l.feeds pages t.1) in
    record {
      front = front;
      rest = rest;
      stops = record {
        cut = read.spelled ∙ ap (texts end_text 0 ends) t.0 ∙ spelled rest;
        again = λ line more other f.
            let next = line ++ 10 ∷ other in
            let last = after_local (codes "finish") line more other refl (ap (after last_line) (sym f) ∙ none) in
            ap (ends_at threads max_pages) (sym (spelled next))
            ∙ ends_are threads max_pages (texts end_text 0 ends (pages_text pages next))
            ∙ ap (from_ends max_pages) (end_passed threads ends (pages_text pages next) read.fit read.few
            (λ lt. pages_stop (0 + length ends) pages next))
            ∙ ap (λ (o : Option (ℕ × List ℕ)). o >>= from_last ends) (law.again pages next t.1)
            ∙ ap (λ (o : Option (List ℕ)). o >>= λ r. Some ((ends, pages), r)) last;
        value = (ends, pages);
        fits = (read.fit, (some, (read.few, t.1)));
        more = λ other. last_line ++ other;
        text_is = λ other. spelled (last_line ++ other);
        goes_on = λ other. omega arith;
        within = omega (arith, feeds);
      };
      entry = λ line more other f e. ap (entry_at threads) (sym (spelled (line ++ 10 ∷ other)))
          ∙ end_stops_at threads ends (pages_text pages (line ++ 10 ∷ other)) some;
      is = λ line. ap (λ (o : Option (ℕ × List ℕ)). fault_or o (body_line (line + length ends) left) (λ pages. body_line (line + length ends + 1))) e
          ∙ same_number rest (line + length ends + 1) (line + line_feeds front) (omega (arith, feeds));
    }

some_ends_by : (threads max_pages : ℕ) (bytes left : List ℕ) (end : ThreadReport) (others : List ThreadReport)
    → IsRead threads max_pages bytes (end ∷ others) left → (o : Option (ℕ × List ℕ)) → pages_at max_pages left ≡ o
    → (o >>= from_last (end ∷ others)) ≡ None → EndsBreak threads max_pages bytes (end ∷ others) left
some_ends_by threads max_pages bytes left end others read None e n = no_pages threads max_pages bytes left end others read e
some_ends_by threads max_pages bytes left end others read (Some p) e n =
    no_last threads max_pages bytes left end others read p.0 p.1 e (none_by (after last_line p.1) (λ r. ((end ∷ others, p.0), r)) n)

ends_by : (threads max_pages : ℕ) (bytes : List ℕ) (ends : List ThreadReport) (left : List ℕ)
    → IsRead threads max_pages bytes ends left → from_ends max_pages (ends, left) ≡ None → EndsBreak threads max_pages bytes ends left
ends_by threads max_pages bytes [] left read n = no_end threads max_pages bytes left read
ends_by threads max_pages bytes (end ∷ others) left read n =
    some_ends_by threads max_pages bytes left end others read (pages_at max_pages left) refl n

-- ---- what stands behind the header

record BodyBreak (header threads max_pages limit : ℕ) (bytes : List ℕ) : Type 0 where
  front : List ℕ
  rest : List ℕ
  stops : Stops body_text (BodyFits threads max_pages limit) (body_at threads max_pages limit) (λ b. length b.0 + (length (b.1).0 + 2)) bytes front rest
  is : body_refusal header threads max_pages limit bytes ≡ body_line (header + line_feeds front + 1) rest

abbrev log_of : ℕ → ℕ → List ℕ → List Entry × List ℕ
log_of threads limit bytes = several (λ place. entry_at threads) 0 (limit + 3 * threads) bytes

abbrev from_log : ℕ → ℕ → List Entry × List ℕ → Option (Body × List ℕ)
from_log threads max_pages p = ends_at threads max_pages p.1 >>= λ x. Some ((p.0, x.0), x.1)

body_is : (threads max_pages limit : ℕ) (bytes : List ℕ) → body_at threads max_pages limit bytes ≡ from_log threads max_pages (log_of threads limit bytes)
unfolding body_at
body_is threads max_pages limit bytes = refl

body_breaks : (header threads max_pages : ℕ) → AreIn threads max_pages → (limit : ℕ) (bytes : List ℕ)
    → body_at threads max_pages limit bytes ≡ None → BodyBreak header threads max_pages limit bytes
body_breaks header threads max_pages are limit bytes none =
    let most = limit + 3 * threads in
    let all = log_of threads limit bytes in
    let t = several_takes (λ k. entry_text) (λ k. IsEntry threads) (λ place. entry_at threads) (λ i. entry_takes threads are.0) 0 most bytes in
    let n = none_by (ends_at threads max_pages all.1) (λ x. ((all.0, x.0), x.1)) (sym (body_is threads max_pages limit bytes) ∙ none) in
    let ends = several end_at 0 threads all.1 in
    let u = several_takes end_text EndFits end_at end_takes 0 threads all.1 in
    let read : IsRead threads max_pages all.1 ends.0 ends.1 = record {
      are = are;
      spelled = u.spelled;
      fit = u.fit;
      few = u.few;
      stop = λ lt. several_stops end_at 0 threads all.1 lt;
    } in
    let c = ends_by threads max_pages all.1 ends.0 ends.1 read (sym (ends_are threads max_pages all.1) ∙ n) in
    let before = items_front (λ i. entry_line) 0 all.0 in
    let spelled : (z : List ℕ) → texts (λ k. entry_text) 0 all.0 z ≡ before ++ z =
    λ z. items_spelled (λ k. entry_text) (λ i. entry_line) (λ i e rest. line_spelled (entry_words e) rest) 0 all.0 z in
    let feeds : line_feeds (before ++ c.front) ≡ length all.0 + line_feeds c.front =
    omega (
      arith,
      feeds_append before c.front,
      items_feeds (λ i. entry_line) (λ k. IsEntry threads)
          (λ i e fit. line_free (entry_words e) (entry_free threads are.0.1 e fit)) 0 all.0 t.fit,
    ) in
    record {
      front = before ++ c.front;
      rest = c.rest;
      stops = record {
        cut = t.spelled ∙ spelled all.1 ∙ ap (λ (z : List ℕ). before ++ z) c.stops.cut ∙ sym (append_assoc before c.front c.rest);
        again = λ line more other f.
            let next = c.front ++ (line ++ 10 ∷ other) in
            let stop : length all.0 < most → entry_at threads next ≡ None =
            λ lt. c.entry line more other f (several_stops (λ place. entry_at threads) 0 most bytes lt) in
            ap (body_at threads max_pages limit) (append_assoc before c.front (line ++ 10 ∷ other) ∙ sym (spelled next))
            ∙ body_is threads max_pages limit (texts (λ k. entry_text) 0 all.0 next)
            ∙ ap (from_log threads max_pages) (several_all (λ k. entry_text) (λ k. IsEntry threads) (λ place. entry_at threads)
            (λ i e rest fit. entry_again threads are.0 e rest fit) 0 most all.0 next t.fit t.few stop)
            ∙ ap (λ (o : Option (Ends × List ℕ)). o >>= λ x. Some ((all.0, x.0), x.1)) (c.stops.again line more other f);
        value = (all.0, c.stops.value);
        fits = (t.fit, (t.few, c.stops.fits));
        more = c.stops.more;
        text_is = λ other. ap (texts (λ k. entry_text) 0 all.0) (c.stops.text_is other) ∙ spelled (c.front ++ c.stops.more other)
            ∙ sym (append_assoc before c.front (c.stops.more other));
        goes_on = c.stops.goes_on;
        within = omega (arith, feeds, c.stops.within);
      };
      is = c.is (header + length all.0 + 1) ∙ same_number c.rest (header + length all.0 + 1 + line_feeds c.front)
          (header + line_feeds (before ++ c.front) + 1) (omega (arith, feeds));
    }

-- ---- whole records

bool_by : (b : Bool) (x y : RecordFault) → b ≡ true → cond b x y ≡ x
bool_by b x y e = rw e refl

not_by : (b : Bool) (x y : RecordFault) → b ≡ false → cond b x y ≡ y
not_by b x y e = rw e refl

low_line : (n m : ℕ) → n + 1 ≤ m → nat_le (n + 1) m ≡ true
low_line n m le = grind (arith, nat_tests)

high_line : (n m : ℕ) → m < n + 1 → nat_le (n + 1) m ≡ false
high_line n m lt = grind (arith, nat_tests)

-- what no record's text begins with: the record would be read
never : (front line : List ℕ) → ((other : List ℕ) → record_at (front ++ (line ++ 10 ∷ other)) ≡ None)
    → Begins (front ++ (line ++ 10 ∷ [])) → ⊥
never front line none b =
    let back : record_text b.parts ≡ front ++ (line ++ 10 ∷ b.more) = b.text ∙ append_assoc front (line ++ 10 ∷ []) b.more
    ∙ ap (λ (t : List ℕ). front ++ t) (append_assoc line (10 ∷ []) b.more) in
    none_some b.parts (record_at (front ++ (line ++ 10 ∷ b.more))) (none b.more) (ap record_at (sym back) ∙ record_again b.parts b.is_record)

abbrev pub body_in : Header × List ℕ → Option (Body × List ℕ)
body_in h = body_at (threads_in h.0) (max_pages_in h.0) (limit_in h.0) h.1

abbrev pub with_body : Header × List ℕ → Option RecordParts
with_body h = body_in h >>= λ b. nothing_left b.1 (parts_of h.0 b.0)

pub record_are : (bytes : List ℕ) → record_at bytes ≡ (header_at bytes >>= with_body)
unfolding record_at
record_are bytes = refl

abbrev least_body : Body
least_body = ([], (least_end ∷ [], 0))

least_body_fits : (threads max_pages limit : ℕ) → AreIn threads max_pages → BodyFits threads max_pages limit least_body
least_body_fits threads max_pages limit are = (tt, (omega arith, ((end_fits, tt), (omega arith, (omega (arith, are.0.0), omega arith)))))

refused_header : (bytes : List ℕ) → header_at bytes ≡ None → IsFaultOf bytes (record_refusal bytes)
refused_header bytes none =
    let c = header_breaks bytes none in
    let h = c.stops.value in
    let are = are_in h c.stops.fits in
    let front = c.front in
    let low : line_feeds front + 1 ≤ header_count (h.0).0 = omega (arith, c.stops.within, lines_are (h.0).0) in
    inl (record {
      front = front;
      rest = c.rest;
      cut = c.stops.cut;
      before = record {
        parts = parts_of h least_body;
        is_record = record_fits h least_body c.stops.fits (least_body_fits (threads_in h) (max_pages_in h) (limit_in h) are);
        more = c.stops.more (body_text least_body []);
        text = record_is h least_body ∙ c.stops.text_is (body_text least_body []);
      };
      goes_on = c.stops.goes_on (body_text least_body []);
      wrong = λ line more e b. never front line (λ other. record_are (front ++ (line ++ 10 ∷ other))
          ∙ ap (λ (o : Option (Header × List ℕ)). o >>= with_body) (c.stops.again line more other e)) b;
      is = ap (λ (o : Option (Header × List ℕ)). fault_or o (header_refusal bytes) behind_header) none ∙ c.is
          ∙ ap (λ (n : ℕ). faults.Header n) (omega arith)
          ∙ sym (bool_by (nat_le (line_feeds front + 1) (header_count (h.0).0)) _ _ (low_line (line_feeds front) (header_count (h.0).0) low));
    })

refused_body : (bytes : List ℕ) (h : Header) (left : List ℕ) → header_at bytes ≡ Some (h, left) → body_in (h, left) ≡ None
    → IsFaultOf bytes (record_refusal bytes)
refused_body bytes h left e none =
    let t = header_law.takes bytes h left e in
    let are = are_in h t.1 in
    let header = header_count (h.0).0 in
    let c = body_breaks header (threads_in h) (max_pages_in h) are (limit_in h) left none in
    let before = header_front.front h in
    let front = before ++ c.front in
    let feeds : line_feeds front ≡ header + line_feeds c.front =
    omega (arith, feeds_append before c.front, header_front.feeds h t.1, lines_are (h.0).0) in
    inl (record {
      front = front;
      rest = c.rest;
      cut = t.0 ∙ header_front.spelled h left ∙ ap (λ (z : List ℕ). before ++ z) c.stops.cut ∙ sym (append_assoc before c.front c.rest);
      before = record {
        parts = parts_of h c.stops.value;
        is_record = record_fits h c.stops.value t.1 c.stops.fits;
        more = c.stops.more [];
        text = record_is h c.stops.value ∙ ap (header_text h) (c.stops.text_is []) ∙ header_front.spelled h (c.front ++ c.stops.more [])
            ∙ sym (append_assoc before c.front (c.stops.more []));
      };
      goes_on = c.stops.goes_on [];
      wrong = λ line more f b. never front line (λ other.
          let next = c.front ++ (line ++ 10 ∷ other) in
          ap record_at (append_assoc before c.front (line ++ 10 ∷ other) ∙ sym (header_front.spelled h next))
          ∙ record_are (header_text h next)
          ∙ ap (λ (o : Option (Header × List ℕ)). o >>= with_body) (header_law.again h next t.1)
          ∙ ap (λ (o : Option (Body × List ℕ)). o >>= λ b. nothing_left b.1 (parts_of h b.0)) (c.stops.again line more other f)) b;
      is = ap (λ (o : Option (Header × List ℕ)). fault_or o (header_refusal bytes) behind_header) e
          ∙ ap (λ (o : Option (Body × List ℕ)). fault_or o (body_refusal header (threads_in h) (max_pages_in h) (limit_in h) left) (left_refusal header)) none
          ∙ c.is ∙ same_number c.rest (header + line_feeds c.front + 1) (line_feeds front + 1) (omega (arith, feeds))
          ∙ sym (not_by (nat_le (line_feeds front + 1) header) _ _ (high_line (line_feeds front) header (omega (arith, feeds))));
    })

-- ---- more behind a record

texts_feeds : (h : Header) (b : Body) → HeaderFits h → BodyFits (threads_in h) (max_pages_in h) (limit_in h) b → AreIn (threads_in h) (max_pages_in h)
    → line_feeds (whole_text h b) ≡ header_count (h.0).0 + (length b.0 + (length (b.1).0 + 2))
texts_feeds h b fit gits are =
    let l = one_lines pages_text (λ n. n ≤ max_pages_in h) (pages_line (max_pages_in h) are.1) in
    let ends = ends_spelled (b.1).0 (pages_text (b.1).1 (last_line ++ [])) in
    let log = items_spelled (λ k. entry_text) (λ i. entry_line) (λ i e rest. line_spelled (entry_words e) rest) 0 b.0 (ends_text b.1 []) in
    let p = ap line_feeds (l.spelled (b.1).1 (last_line ++ [])) ∙ feeds_append (l.front (b.1).1) last_line in
    let q = ap line_feeds ends ∙ feeds_append (ends_before (b.1).0) (pages_text (b.1).1 (last_line ++ [])) in
    let r = ap line_feeds log ∙ feeds_append (items_front (λ i. entry_line) 0 b.0) (ends_text b.1 []) in
    let s = ap line_feeds (header_front.spelled h (body_text b [])) ∙ feeds_append (header_front.front h) (body_text b []) in
    let log_feeds = items_feeds (λ i. entry_line) (λ k. IsEntry (threads_in h)) (λ i e f. line_free (entry_words e) (entry_free (threads_in h) are.0.1 e f)) 0
    b.0 gits.0 in
    omega (
      arith,
      p,
      q,
      r,
      s,
      log_feeds,
      ends_feeds (b.1).0 ((gits.1).1).0,
      l.feeds (b.1).1 ((((gits.1).1).1).1).1,
      header_front.feeds h fit,
      lines_are (h.0).0,
    )

texts_then : {A : Type 0} (text : ℕ → A → List ℕ → List ℕ) (words : ℕ → A → List ℕ)
    → ((i : ℕ) (x : A) (rest : List ℕ) → text i x rest ≡ words i x ++ 10 ∷ rest) → (i : ℕ) (xs : List A) (rest more : List ℕ)
    → texts text i xs rest ++ more ≡ texts text i xs (rest ++ more)
texts_then text words one i xs rest more =
    ap (λ (t : List ℕ). t ++ more) (items_spelled text words one i xs rest) ∙ append_assoc (items_front words i xs) rest more
    ∙ sym (items_spelled text words one i xs (rest ++ more))

pages_then : (pages : ℕ) (rest more : List ℕ) → pages_text pages rest ++ more ≡ pages_text pages (rest ++ more)
pages_then pages rest more = ap (λ (t : List ℕ). codes "pages " ++ t) (append_assoc (decimal pages) (10 ∷ rest) more)

-- more bytes behind the text of a record
pub whole_then : (h : Header) (b : Body) (more : List ℕ) → whole_text h b ++ more ≡ header_text h (body_text b more)
whole_then h b more =
    let behind_ends = pages_text (b.1).1 (last_line ++ []) in
    let front = header_front.front h in
    ap (λ (t : List ℕ). t ++ more) (header_front.spelled h (body_text b []))
    ∙ append_assoc front (body_text b []) more ∙ sym (header_front.spelled h (body_text b [] ++ more))
    ∙ ap (header_text h) (texts_then (λ k. entry_text) (λ i. entry_line) (λ i e rest. line_spelled (entry_words e) rest) 0 b.0 (ends_text b.1 []) more
    ∙ ap (texts (λ k. entry_text) 0 b.0) (texts_then end_text end_line (λ i r rest. line_spelled (end_words i r) rest) 0 (b.1).0 behind_ends more
    ∙ ap (texts end_text 0 (b.1).0) (pages_then (b.1).1 (last_line ++ []) more)))

refused_left : (bytes : List ℕ) (h : Header) (left : List ℕ) (b : Body) (more : List ℕ) → 0 < length more
    → header_at bytes ≡ Some (h, left) → body_in (h, left) ≡ Some (b, more) → IsFaultOf bytes (record_refusal bytes)
refused_left bytes h left b more some e f =
    let t = header_law.takes bytes h left e in
    let are = are_in h t.1 in
    let u = body_takes (threads_in h) (max_pages_in h) are (limit_in h) left b more f in
    let l = one_lines pages_text (λ n. n ≤ max_pages_in h) (pages_line (max_pages_in h) are.1) in
    let header = header_count (h.0).0 in
    let whole : whole_text h b ++ more ≡ header_text h (body_text b more) = whole_then h b more in
    let feeds : line_feeds (record_text (parts_of h b)) ≡ header + (length b.0 + (length (b.1).0 + 2)) =
    ap line_feeds (record_is h b) ∙ texts_feeds h b t.1 u.1 are in
    inr (record {
      parts = parts_of h b;
      is_record = record_fits h b t.1 u.1;
      more = more;
      cut = t.0 ∙ ap (header_text h) u.0 ∙ sym whole ∙ ap (λ (z : List ℕ). z ++ more) (sym (record_is h b));
      some = some;
      is = ap (λ (o : Option (Header × List ℕ)). fault_or o (header_refusal bytes) behind_header) e
          ∙ ap (λ (o : Option (Body × List ℕ)). fault_or o (body_refusal header (threads_in h) (max_pages_in h) (limit_in h) left) (left_refusal header)) f
          ∙ ap (λ (n : ℕ). faults.Unreadable n) (omega (arith, feeds));
    })

left_by : (bytes : List ℕ) (h : Header) (left : List ℕ) (b : Body) (more : List ℕ) → header_at bytes ≡ Some (h, left)
    → body_in (h, left) ≡ Some (b, more) → nothing_left more (parts_of h b) ≡ None → IsFaultOf bytes (record_refusal bytes)
left_by bytes h left b [] e f n = absurd (none_some (parts_of h b) (Some (parts_of h b)) n refl)
left_by bytes h left b (c ∷ more) e f n = refused_left bytes h left b (c ∷ more) (omega arith) e f

body_by : (bytes : List ℕ) (h : Header) (left : List ℕ) (o : Option (Body × List ℕ)) → header_at bytes ≡ Some (h, left)
    → body_in (h, left) ≡ o → (o >>= λ b. nothing_left b.1 (parts_of h b.0)) ≡ None → IsFaultOf bytes (record_refusal bytes)
body_by bytes h left None e f n = refused_body bytes h left e f
body_by bytes h left (Some b) e f n = left_by bytes h left b.0 b.1 e f n

refused_by : (bytes : List ℕ) (o : Option (Header × List ℕ)) → header_at bytes ≡ o → (o >>= with_body) ≡ None
    → IsFaultOf bytes (record_refusal bytes)
refused_by bytes None e n = refused_header bytes e
refused_by bytes (Some h) e n = body_by bytes h.0 h.1 (body_in h) e refl n

refused : (bytes : List ℕ) → record_at bytes ≡ None → IsFaultOf bytes (record_refusal bytes)
refused bytes none = refused_by bytes (header_at bytes) refl (sym (record_are bytes) ∙ none)

pub fault_is : (bytes : List ℕ) (e : RecordFault) → Fails e (record_refusal bytes) (record_at bytes)
    → (e ≡ faults.NoMemory) ⊎ IsFaultOf bytes e
fault_is bytes faults.NoMemory h = inl refl
fault_is bytes (faults.Header line) h = inr (subst (IsFaultOf bytes) (sym h.1) (refused bytes h.0))
fault_is bytes (faults.Unreadable line) h = inr (subst (IsFaultOf bytes) (sym h.1) (refused bytes h.0))
fault_is bytes faults.EndMissing h = inr (subst (IsFaultOf bytes) (sym h.1) (refused bytes h.0))
