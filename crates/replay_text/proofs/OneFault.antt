-- A text that is no record's has one fault, and a record's text has none.
use Rattle.std.proofs.Common.{◌≡◌, ℕ, ◌<◌, Bool, true, false, cond, ◌||◌, length-append, List, [], ◌∷◌, ◌++◌, Option}
use Rattle.std.proofs.Common.{None, refl, sym, ap, subst, ◌∙◌, append_assoc, arith, inl, inr, ◌⊎◌, get_or}
use Rattle.std.specs.Prelude.{length, codes, nat_le}
use Rattle.std.specs.List.{list_any}
use Rattle.std.proofs.lemmas.List.{append-nil}
use Rattle.std.proofs.lemmas.List.Folds.{list_any-append}
use Rattle.std.proofs.lemmas.Bool.Decides.{nat_tests}
use Rattle.replay_forms.specs.Reading.{◌>>=◌}
use Rattle.replay_forms.specs.Texts.{lines_text}
use Rattle.replay_text.specs.Versions.{header_count}
use Rattle.replay_text.specs.Text.{record_text, scale_lines, call_lines, IsRecord}
use Rattle.replay_text.specs.Reading.{Header, Body, record_at, nothing_left, parts_of}
use Rattle.replay_text.specs.Breaks.{is_feed, line_feeds, line_behind, Begins, BreaksOff, RunsOver, IsFaultOf}
use Rattle.replay_text.specs.declared.version.Version.{Version}
use Rattle.replay_text.specs.declared.version.Version.TheVariants as versions
use Rattle.replay_text.specs.declared.parts.RecordParts.{RecordParts}
use Rattle.replay_text.specs.declared.fault.RecordFault.{RecordFault}
use Rattle.replay_text.specs.declared.fault.RecordFault.TheVariants as faults
use Rattle.replay_text.proofs.Whole.{header_law, body_again, record_is, record_again, header_of, body_of, fits_of, are_in}
use Rattle.replay_text.proofs.Free.{Free, feeds_append, free_feeds, line_spelled}
use Rattle.replay_text.proofs.Whole.{body_text, ends_text, pages_text, whole_text}
use Rattle.replay_text.proofs.Events.{entry_text}
use Rattle.replay_text.specs.Words.{entry_words}
use Rattle.replay_text.specs.Reading.{last_line}
use Rattle.std.specs.Fmt.{decimal}
use Rattle.replay_text.proofs.Stopping.{none_some, head_is, tail_is, split, items_front, items_spelled}
use Rattle.replay_text.proofs.Broken.{record_are, with_body, whole_then, header_front, entry_line, ends_spelled, ends_before}

-- ---- cuts of one text

abbrev Nested : List ℕ → List ℕ → List ℕ → List ℕ → Type 0
Nested x r y s = (d : List ℕ) × (y ≡ x ++ d) × (r ≡ d ++ s)

nested_more : (b c : ℕ) (x r y s : List ℕ) → b ≡ c → Nested x r y s ⊎ Nested y s x r
    → Nested (b ∷ x) r (c ∷ y) s ⊎ Nested (c ∷ y) s (b ∷ x) r
nested_more b c x r y s h (inl n) = inl (n.0, ap (λ (k : ℕ). k ∷ y) (sym h) ∙ ap (λ (z : List ℕ). b ∷ z) n.1, n.2)
nested_more b c x r y s h (inr n) = inr (n.0, ap (λ (k : ℕ). k ∷ x) h ∙ ap (λ (z : List ℕ). c ∷ z) n.1, n.2)

nested : (x r y s : List ℕ) → x ++ r ≡ y ++ s → Nested x r y s ⊎ Nested y s x r
nested [] r y s e = inl (y, refl, e)
nested (b ∷ x) r [] s e = inr (b ∷ x, refl, sym e)
nested (b ∷ x) r (c ∷ y) s e =
    nested_more b c x r y s (head_is b c (x ++ r) (y ++ s) e) (nested x r y s (tail_is b c (x ++ r) (y ++ s) e))

-- a line feed within bytes
abbrev Found : List ℕ → Type 0
Found d = (line : List ℕ) × (rest : List ℕ) × (d ≡ line ++ 10 ∷ rest)

found_at : (b : ℕ) (d : List ℕ) → is_feed b ≡ true → b ∷ d ≡ 10 ∷ d
found_at b d t =
    let e : b ≡ 10 = grind (arith, nat_tests, t) in
    ap (λ (k : ℕ). k ∷ d) e

found_by : (b : ℕ) (d : List ℕ) (t : Bool) → is_feed b ≡ t → (list_any is_feed d ≡ true → Found d)
    → (t || list_any is_feed d) ≡ true → Found (b ∷ d)
found_by b d true t so e = ([], d, found_at b d t)
found_by b d false t so e = let f = so e in (b ∷ f.0, f.1, ap (λ (z : List ℕ). b ∷ z) f.2)

found : (d : List ℕ) → list_any is_feed d ≡ true → Found d
found [] e = absurd cc
found (b ∷ d) e = found_by b d (is_feed b) refl (λ t. found d t) e

free_by : (b : Bool) → (b ≡ false) ⊎ (b ≡ true)
free_by true = inr refl
free_by false = inl refl

begins_less : (x y : List ℕ) → Begins (x ++ y) → Begins x
begins_less x y b = record {
  parts = b.parts;
  is_record = b.is_record;
  more = y ++ b.more;
  text = b.text ∙ append_assoc x y b.more;
}

-- what no text begins with
abbrev Wrong : List ℕ → List ℕ → Type 0
Wrong front rest = (line more : List ℕ) → rest ≡ line ++ 10 ∷ more → Begins (front ++ (line ++ 10 ∷ [])) → ⊥

wrong_within : (front rest : List ℕ) → Wrong front rest → (d s : List ℕ) → rest ≡ d ++ s → Begins (front ++ d)
    → list_any is_feed d ≡ true → ⊥
wrong_within front rest wrong d s e b t =
    let f = found d t in
    let line = f.0 ++ 10 ∷ [] in
    let cut : front ++ d ≡ (front ++ line) ++ f.1 =
    ap (λ (z : List ℕ). front ++ z) (f.2 ∙ sym (append_assoc f.0 (10 ∷ []) f.1)) ∙ sym (append_assoc front line f.1) in
    wrong f.0 (f.1 ++ s) (e ∙ ap (λ (z : List ℕ). z ++ s) f.2 ∙ append_assoc f.0 (10 ∷ f.1) s)
    (begins_less (front ++ line) f.1 (subst Begins cut b))

free_or : (d : List ℕ) → (list_any is_feed d ≡ true → ⊥) → Free d
free_or d none = elim (free_by (list_any is_feed d)) [ inl f ↦ f | inr t ↦ absurd (none t) ]

-- ---- the version in the first line

abbrev version_word : Version → List ℕ
version_word versions.One = codes "wathread-record 1"
version_word versions.Two = codes "wathread-record 2"

word_free : (v : Version) → Free (version_word v)
word_free versions.One = refl
word_free versions.Two = refl

first_by : (v : Version) (len threads pages : ℕ) (call more : List (List (List ℕ)))
    → (z : List ℕ) × (lines_text ((scale_lines v len threads pages ++ call) ++ more) ≡ version_word v ++ 10 ∷ z)
first_by versions.One len threads pages call more = (lines_text (call ++ more), refl)
first_by versions.Two len threads pages call more = (_, refl)

counts : (v w : Version) (l m : List ℕ) → version_word v ++ 10 ∷ l ≡ version_word w ++ 10 ∷ m → header_count v ≡ header_count w
counts versions.One versions.One l m e = refl
counts versions.Two versions.Two l m e = refl
counts versions.One versions.Two l m e =
    let h : 49 ≡ 50 = ap (λ (z : List ℕ). get_or z 16 0) e in absurd (omega (arith, h))
counts versions.Two versions.One l m e =
    let h : 50 ≡ 49 = ap (λ (z : List ℕ). get_or z 16 0) e in absurd (omega (arith, h))

-- where a text begins with a line, that is the line of its version
begins_by : (p : RecordParts) (line rest : List ℕ) → record_text p ≡ line ++ 10 ∷ rest
    → (l : List ℕ) × (line ++ 10 ∷ [] ≡ version_word p.version ++ 10 ∷ l)
begins_by p line rest e =
    let a = first_by p.version p.module_len p.threads p.max_pages (call_lines p) _ in
    let s = split line rest (version_word p.version) a.0 (word_free p.version) (sym e ∙ a.1) in
    (s.0, s.1)

alike : (front : List ℕ) → list_any is_feed front ≡ true → (p q : RecordParts) (m n : List ℕ) → record_text p ≡ front ++ m
    → record_text q ≡ front ++ n → header_count p.version ≡ header_count q.version
alike front t p q m n e f =
    let g = found front t in
    let cut : (z : List ℕ) → front ++ z ≡ g.0 ++ 10 ∷ (g.1 ++ z) =
    λ z. ap (λ (y : List ℕ). y ++ z) g.2 ∙ append_assoc g.0 (10 ∷ g.1) z in
    let a = begins_by p g.0 (g.1 ++ m) (e ∙ cut m) in
    let b = begins_by q g.0 (g.1 ++ n) (f ∙ cut n) in
    counts p.version q.version a.0 b.0 (sym a.1 ∙ b.1)

-- ---- two places at which a text breaks off

abbrev fault_by : ℕ → ℕ → Bool → RecordFault
fault_by count line feed = cond (nat_le line count) (faults.Header line) (cond feed (faults.Unreadable line) faults.EndMissing)

fault_low : (v : Version) (feed : Bool) → fault_by (header_count v) 1 feed ≡ faults.Header 1
fault_low versions.One feed = refl
fault_low versions.Two feed = refl

breaks_both : (bytes : List ℕ) (e f : RecordFault) (p : BreaksOff bytes e) (q : BreaksOff bytes f)
    → Nested p.front p.rest q.front q.rest → e ≡ f
breaks_both bytes e f p q n =
    let v = p.before.parts.version in
    let w = q.before.parts.version in
    let free = free_or n.0 (wrong_within p.front p.rest p.wrong n.0 q.rest n.2 (subst Begins n.1 q.before)) in
    let lines : line_behind p.front ≡ line_behind q.front = omega (arith, ap line_feeds n.1, feeds_append p.front n.0, free_feeds n.0 free) in
    let feeds : list_any is_feed p.rest ≡ list_any is_feed q.rest =
    ap (list_any is_feed) n.2 ∙ list_any-append is_feed n.0 q.rest ∙ ap (λ (b : Bool). b || list_any is_feed q.rest) free in
    let same : fault_by (header_count v) (line_behind p.front) (list_any is_feed q.rest) ≡ fault_by (header_count w) (line_behind p.front)
    (list_any is_feed q.rest) =
    elim (free_by (list_any is_feed p.front)) [
      | inl none ↦ (let first : line_behind p.front ≡ 1 = omega (arith, free_feeds p.front none) in
          ap (λ (k : ℕ). fault_by (header_count v) k (list_any is_feed q.rest)) first ∙ fault_low v (list_any is_feed q.rest)
          ∙ sym (fault_low w (list_any is_feed q.rest)) ∙ ap (λ (k : ℕ). fault_by (header_count w) k (list_any is_feed q.rest)) (sym first))
      | inr some ↦ ap (λ (k : ℕ). fault_by k (line_behind p.front) (list_any is_feed q.rest))
          (alike p.front some p.before.parts q.before.parts p.before.more (n.0 ++ q.before.more) p.before.text
          (q.before.text ∙ ap (λ (z : List ℕ). z ++ q.before.more) n.1 ∙ append_assoc p.front n.0 q.before.more))
    ] in
    p.is ∙ ap (fault_by (header_count v) (line_behind p.front)) feeds ∙ same
    ∙ ap (λ (k : ℕ). fault_by (header_count w) k (list_any is_feed q.rest)) lines ∙ sym q.is

-- ---- whole texts

left_none : (z : List ℕ) (r : RecordParts) → 0 < length z → nothing_left z r ≡ None
left_none [] r some = absurd (omega (arith, some))
left_none (b ∷ z) r some = refl

no_more : (p : RecordParts) → IsRecord p → (z : List ℕ) → 0 < length z → record_at (record_text p ++ z) ≡ None
no_more p fit z some =
    let h = header_of p in
    let b = body_of p in
    let fits = fits_of p fit in
    ap record_at (ap (λ (t : List ℕ). t ++ z) (record_is h b) ∙ whole_then h b z) ∙ record_are _
    ∙ ap (λ (o : Option (Header × List ℕ)). o >>= with_body) (header_law.again h _ fits.0)
    ∙ ap (λ (o : Option (Body × List ℕ)). o >>= λ b. nothing_left b.1 (parts_of h b.0))
    (body_again p.threads p.max_pages (are_in h fits.0) p.limit b z fits.1) ∙ left_none z p some

-- no record's text begins with another and goes on
no_longer : (p r : RecordParts) → IsRecord p → IsRecord r → (z : List ℕ) → 0 < length z → record_text r ≡ record_text p ++ z → ⊥
no_longer p r pit fit z some e = none_some r (record_at (record_text p ++ z)) (no_more p pit z some) (ap record_at (sym e) ∙ record_again r fit)

-- a text whose last line ends
abbrev Ended : List ℕ → Type 0
Ended t = (x : List ℕ) × (t ≡ x ++ 10 ∷ [])

ended_behind : (w t : List ℕ) → Ended t → Ended (w ++ t)
ended_behind w t e = (w ++ e.0, ap (λ (z : List ℕ). w ++ z) e.1 ∙ sym (append_assoc w e.0 (10 ∷ [])))

ended_as : (s t : List ℕ) → s ≡ t → Ended t → Ended s
ended_as s t same e = (e.0, same ∙ e.1)

last_ended : (pages : ℕ) → Ended (pages_text pages (last_line ++ []))
last_ended pages = ended_behind (codes "pages ") (decimal pages ++ 10 ∷ (last_line ++ []))
    (ended_behind (decimal pages) (10 ∷ (last_line ++ [])) (10 ∷ codes "finish", refl))

whole_ends : (p : RecordParts) → Ended (record_text p)
whole_ends p =
    let h = header_of p in
    let b = body_of p in
    let last = pages_text p.pages (last_line ++ []) in
    ended_as (record_text p) (whole_text h b) (record_is h b)
    (ended_as (whole_text h b) (header_front.front h ++ body_text b []) (header_front.spelled h (body_text b []))
    (ended_behind (header_front.front h) (body_text b [])
    (ended_as (body_text b []) (items_front (λ i. entry_line) 0 p.log ++ ends_text b.1 [])
    (items_spelled (λ k. entry_text) (λ i. entry_line) (λ i e rest. line_spelled (entry_words e) rest) 0 p.log (ends_text b.1 []))
    (ended_behind (items_front (λ i. entry_line) 0 p.log) (ends_text b.1 [])
    (ended_as (ends_text b.1 []) (ends_before p.ends ++ last) (ends_spelled p.ends last)
    (ended_behind (ends_before p.ends) last (last_ended p.pages)))))))

or_true : (b : Bool) → (b || true) ≡ true
or_true true = refl
or_true false = refl

last_by : (k d : List ℕ) → 10 ∷ [] ≡ k ++ d → 0 < length d → list_any is_feed d ≡ true
last_by [] d e some = ap (list_any is_feed) (sym e)
last_by (c ∷ k) d e some =
    let none = ap length (tail_is 10 c [] (k ++ d) e) in
    absurd (omega (arith, none, length-append k d, some))

last_feed : (front d x : List ℕ) → front ++ d ≡ x ++ 10 ∷ [] → 0 < length d → list_any is_feed d ≡ true
last_feed front d x e some =
    elim (nested front d x (10 ∷ []) e) [
      | inl n ↦ ap (list_any is_feed) n.2 ∙ list_any-append is_feed n.0 (10 ∷ []) ∙ or_true (list_any is_feed n.0)
      | inr n ↦ last_by n.0 d n.2 some
    ]

-- it doesn't break off within a record's text, nor behind one
within_whole : (front rest d more : List ℕ) (b : Begins front) → 0 < length b.more → Wrong front rest → (p : RecordParts) → IsRecord p
    → record_text p ≡ front ++ d → rest ≡ d ++ more → ⊥
within_whole front rest [] more b some wrong p fit e f =
    no_longer p b.parts fit b.is_record b.more some (b.text ∙ ap (λ (z : List ℕ). z ++ b.more) (sym (append-nil front) ∙ sym e))
within_whole front rest (c ∷ d) more b some wrong p fit e f =
    let x = whole_ends p in
    let here : Begins (front ++ (c ∷ d)) = record { parts = p; is_record = fit; more = []; text = e ∙ sym (append-nil (front ++ (c ∷ d))) } in
    wrong_within front rest wrong (c ∷ d) more f here (last_feed front (c ∷ d) x.0 (sym e ∙ x.1) (omega arith))

behind_whole : (front d : List ℕ) (b : Begins front) → 0 < length b.more → (p : RecordParts) → IsRecord p
    → front ≡ record_text p ++ d → ⊥
behind_whole front d b some p fit e =
    no_longer p b.parts fit b.is_record (d ++ b.more) (omega (arith, length-append d b.more, some))
    (b.text ∙ ap (λ (z : List ℕ). z ++ b.more) e ∙ append_assoc (record_text p) d b.more)

not_both : (bytes : List ℕ) (e f : RecordFault) → RunsOver bytes e → BreaksOff bytes f → ⊥
not_both bytes e f p q =
    elim (nested (record_text p.parts) p.more q.front q.rest (sym p.cut ∙ q.cut)) [
      | inl n ↦ behind_whole q.front n.0 q.before q.goes_on p.parts p.is_record n.1
      | inr n ↦ within_whole q.front q.rest n.0 p.more q.before q.goes_on q.wrong p.parts p.is_record n.1 n.2
    ]

runs_by : (p q : RecordParts) → IsRecord p → IsRecord q → (d : List ℕ) → record_text q ≡ record_text p ++ d → record_text p ≡ record_text q
runs_by p q pit qit [] e = sym (append-nil (record_text p)) ∙ sym e
runs_by p q pit qit (c ∷ d) e = absurd (no_longer p q pit qit (c ∷ d) (omega arith) e)

runs_both : (bytes : List ℕ) (e f : RecordFault) → RunsOver bytes e → RunsOver bytes f → e ≡ f
runs_both bytes e f p q =
    let same : record_text p.parts ≡ record_text q.parts =
    elim (nested (record_text p.parts) p.more (record_text q.parts) q.more (sym p.cut ∙ q.cut)) [
      | inl n ↦ runs_by p.parts q.parts p.is_record q.is_record n.0 n.1
      | inr n ↦ sym (runs_by q.parts p.parts q.is_record p.is_record n.0 n.1)
    ] in
    p.is ∙ ap (λ (t : List ℕ). faults.Unreadable (line_behind t)) same ∙ sym q.is

pub one_fault : (bytes : List ℕ) (e f : RecordFault) → IsFaultOf bytes e → IsFaultOf bytes f → e ≡ f
one_fault bytes e f (inl p) (inl q) =
    elim (nested p.front p.rest q.front q.rest (sym p.cut ∙ q.cut)) [
      | inl n ↦ breaks_both bytes e f p q n
      | inr n ↦ sym (breaks_both bytes f e q p n)
    ]
one_fault bytes e f (inl p) (inr q) = absurd (not_both bytes f e q p)
one_fault bytes e f (inr p) (inl q) = absurd (not_both bytes e f p q)
one_fault bytes e f (inr p) (inr q) = runs_both bytes e f p q

pub no_fault : (r : RecordParts) (e : RecordFault) → IsRecord r → IsFaultOf (record_text r) e → ⊥
no_fault r e fit (inl p) = within_whole p.front p.rest p.rest [] p.before p.goes_on p.wrong r fit p.cut (sym (append-nil p.rest))
no_fault r e fit (inr p) = no_longer p.parts r p.is_record fit p.more p.some p.cut
