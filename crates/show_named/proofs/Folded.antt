-- Entries that are alike, rounds, and what stands for entries, one behind the other.
use Rattle.std.proofs.Common.{◌≡◌, ℕ, ◌+◌, ◌≤◌, ◌<◌, List, [], ◌∷◌, ◌++◌, length, take, drop, Option, Some, None, inl, inr}
use Rattle.std.proofs.Common.{refl, sym, ap, subst, ◌∙◌, arith, get_or}
use Rattle.std.proofs.lemmas.List.{append-nil, append_assoc, take_all, take_more, length-append, length-take}
use Rattle.std.proofs.lemmas.List.Elements.{All-nil, All-push, AllZip-push}
use Rattle.std.proofs.lemmas.List.Folds.{concat-append}
use Rattle.std.proofs.Math.Seq.{take-add}
use Rattle.std.specs.List.{concat, slice_get}
use Rattle.std.specs.Io.KnownBytes.{Keeps}
use Rattle.std.specs.Prelude.{codes, option_and_then, option_map, unwrap_or}
use Rattle.types.specs.declared.event.Entry.{Entry}
use Rattle.types.specs.declared.event.Question.{Question}
use Rattle.show_text.specs.declared.context.Context.TheVariants.{Asked}
use Rattle.show_text.specs.Rows.{RowText}
use Rattle.show_rows.specs.declared.rows.Row.{Row}
use Rattle.show_rows.specs.declared.listing.Shown.{Shown}
use Rattle.show_rows.specs.declared.listing.Story.{Story}
use Rattle.show_rows.specs.Listing.{IsCallText, IsPlaceText, context_at, is_atomic_row, line_at, row_at}
use Rattle.show_rows.proofs.Chosen.{keeps_same}
use Rattle.show_named.specs.declared.data_map.DataMap.{DataMap}
use Rattle.show_named.specs.declared.folds.FoldedRounds.{FoldedRounds}
use Rattle.show_named.specs.Folds.{AddsFolded, AddsNoted, AddsPart, AddsParts, AreAlike, AreOfOne, AreRounds}
use Rattle.show_named.specs.Folds.{AreToldAlike, AreNamedWords, IsAnswered, IsBy, IsRoundsOf, Repeats, often_text}
use Rattle.show_named.specs.Folds.{without_caller}
use Rattle.show_named.specs.Rows.{AddsEntries}
use Rattle.show_named.proofs.Listed.{entry_behind, keeps_keeps, keeps_then}

abbrev before_in : Option Row → Option ℕ
before_in row = option_and_then (λ (r : Row). r.before) row

before_without : (row : Option Row) → before_in row ≡ before_in (without_caller row)
before_without None = refl
before_without (Some row) = refl

module _ (shown : Shown) (map : DataMap) (story : Story) where
  atomic_without : (row : Option Row) → is_atomic_row shown row ≡ is_atomic_row shown (without_caller row)
  atomic_without None = refl
  atomic_without (Some row) = refl

  -- Equal entries of which the log and the rows say the same are alike.
  pub alike : (a b : ℕ) → slice_get shown.record.now.log a ≡ slice_get shown.record.now.log b → AreToldAlike shown story a b
      → AreAlike shown map story a b
  alike a b same told row says =
      let w = says.says.words_of in
      let p = says.says.place in
      record {
        row = record says.row { line = line_at shown b };
        says = record {
          made = says.says.made;
          stands = sym same ∙ says.says.stands;
          line = refl;
          thread = says.says.thread;
          said = says.says.said;
          words_of = record {
            entry = w.entry;
            context = w.context ∙ told.context;
            atomic = w.atomic ∙ atomic_without (row_at shown a) ∙ ap (is_atomic_row shown) told.row
                ∙ sym (atomic_without (row_at shown b));
            signed = w.signed;
            before = w.before ∙ before_without (row_at shown a) ∙ ap before_in told.row ∙ sym (before_without (row_at shown b));
            woken = w.woken ∙ told.woken ∙ sym told.woken_too;
            outcome = w.outcome;
          };
          words = says.says.words;
          place = record {
            spot = p.spot;
            spot_is = subst (λ x. IsPlaceText shown.code.now x p.spot) told.place p.spot_is;
            call = p.call;
            call_is = subst (λ x. IsCallText shown.code.now x p.call) told.call p.call_is;
            text_is = p.text_is;
          };
        };
        name = says.name;
        name_is = record { made = says.name_is.made; stands = sym same ∙ says.name_is.stands; named = says.name_is.named };
        is = ap (λ (r : RowText). record r { line = line_at shown b }) says.is;
      }

  -- One more entry of a round is alike to that of the first one.
  pub repeats_next : (first next : List ℕ) (k a b z y : ℕ) → k < length first → k < length next → a ≡ get_or first k z
      → b ≡ get_or next k y → Repeats shown map story (take k first) (take k next) → AreAlike shown map story a b
      → Repeats shown map story (take (k + 1) first) (take (k + 1) next)
  repeats_next first next k a b z y lt below a_is b_is before one =
      subst (λ (xs : List ℕ). Repeats shown map story xs (take (k + 1) next))
      (ap (λ (x : ℕ). take k first ++ x ∷ []) a_is ∙ sym (take_more first k z lt))
      (subst (λ (ys : List ℕ). Repeats shown map story (take k first ++ a ∷ []) ys)
      (ap (λ (x : ℕ). take k next ++ x ∷ []) b_is ∙ sym (take_more next k y below))
      (AllZip-push (AreAlike shown map story) (take k first) (take k next) a b before one))

  -- One round more.
  pub more_rounds : (first : List ℕ) (times : ℕ) (part next : List ℕ) → AreRounds shown map story first times part
      → Repeats shown map story first next → AreRounds shown map story first (times + 1) (part ++ next)
  more_rounds first times part next r same = record {
    of_one = r.of_one;
    others = r.others ++ next ∷ [];
    all = ap (λ (xs : List ℕ). xs ++ next) r.all ∙ append_assoc first (concat r.others) next
        ∙ ap (λ (xs : List ℕ). first ++ xs) (ap (λ (ys : List ℕ). concat r.others ++ ys) (sym (append-nil next))
        ∙ sym (concat-append r.others (next ∷ [])));
    count = ap (λ (n : ℕ). n + 1) r.count ∙ ap (λ (n : ℕ). n + 1) (sym (length-append r.others (next ∷ [])));
    repeat = All-push (Repeats shown map story first) r.others next r.repeat same;
  }

  noted_behind : (note : List ℕ) (at : ℕ) (a b c : Option (List ℕ)) → Keeps a b → AddsNoted shown map story note at b c
      → AddsNoted shown map story note at a c
  noted_behind note at a b c k (colored, row, says, wrote) = (colored, row, says, (wrote.0, keeps_then a b c _ k wrote.1))

  entries_behind : (ats : List ℕ) (a b c : Option (List ℕ)) → Keeps a b → AddsEntries shown map story ats b c
      → AddsEntries shown map story ats a c
  entries_behind [] a b c k p = keeps_keeps a b c k p
  entries_behind (x ∷ ats) a b c k (middle, first, rest) = (middle, entry_behind shown map story x a b middle k first, rest)

  part_behind : (part : List ℕ) (a b c : Option (List ℕ)) → Keeps a b → AddsPart shown map story part b c
      → AddsPart shown map story part a c
  part_behind part a b c k (inl r) = inl (record {
    front = r.front;
    last = r.last;
    times = r.times;
    rounds = r.rounds;
    between = r.between;
    before = entries_behind r.front a b r.between k r.before;
    behind = r.behind;
  })
  part_behind part a b c k (inr r) = inr (record {
    asked = r.asked;
    told = r.told;
    both = r.both;
    answers = r.answers;
    words = r.words;
    words_are = r.words_are;
    row = noted_behind _ r.asked a b c k r.row;
  })

  one_part : (parts : List (List ℕ)) (part : List ℕ) (a b c : Option (List ℕ)) → AddsParts shown map story parts a b
      → AddsPart shown map story part b c → AddsParts shown map story (parts ++ part ∷ []) a c
  one_part [] part a b c k p = (c, part_behind part a b c k p, keeps_same c)
  one_part (x ∷ parts) part a b c (middle, first, rest) p = (middle, first, one_part parts part middle b c rest p)

  parts_flushed : (parts : List (List ℕ)) (a b c : Option (List ℕ)) → AddsParts shown map story parts a b → Keeps b c
      → AddsParts shown map story parts a c
  parts_flushed [] a b c p k = keeps_keeps a b c p k
  parts_flushed (x ∷ parts) a b c (middle, first, rest) k = (middle, first, parts_flushed parts middle b c rest k)

  pub flushed_folded : (places : List ℕ) (a b c : Option (List ℕ)) → AddsFolded shown map story places a b → Keeps b c
      → AddsFolded shown map story places a c
  flushed_folded places a b c (parts, all, wrote) k = (parts, all, parts_flushed parts a b c wrote k)

  -- What stands for the next entries goes behind.
  pub folded_next : (places : List ℕ) (done count : ℕ) (a b c : Option (List ℕ)) → AddsFolded shown map story (take done places) a b
      → AddsPart shown map story (take count (drop done places)) b c
      → AddsFolded shown map story (take (done + count) places) a c
  folded_next places done count a b c (parts, all, wrote) next =
      let part : List ℕ = take count (drop done places) in (
        parts ++ part ∷ [],
        concat-append parts (part ∷ []) ∙ ap (λ (xs : List ℕ). concat parts ++ xs) (append-nil part)
            ∙ ap (λ (xs : List ℕ). xs ++ part) all ∙ sym (take-add done count places),
        one_part parts part a b c wrote next,
      )

  -- All entries that are chosen, where all were gone through.
  pub folded_all : (places : List ℕ) (done : ℕ) (a b : Option (List ℕ)) → length places ≤ done
      → AddsFolded shown map story (take done places) a b → AddsFolded shown map story places a b
  folded_all places done a b le folded = subst (λ (xs : List ℕ). AddsFolded shown map story xs a b) (take_all done places le) folded

  -- One entry is of one thread.
  pub one_of : (places : List ℕ) → 1 ≤ length places → AreOfOne shown (take 1 places)
  one_of [] le = absurd (omega (arith, le))
  one_of (x ∷ xs) le =
      let thread : ℕ = unwrap_or (option_map (λ (e : Entry). e.thread) (slice_get shown.record.now.log x)) 0 in (
        thread,
        All-push (IsBy shown thread) [] x (All-nil (IsBy shown thread))
            (λ made is. ap (λ (o : Option Entry). unwrap_or (option_map (λ (e : Entry). e.thread) o) 0) (sym is)),
      )

  -- Once.
  pub first_round : (places : List ℕ) (size : ℕ) → 1 ≤ size → size ≤ length places → AreOfOne shown (take size places)
      → IsRoundsOf shown map story places (record { length = size; times = 1; count = size })
  first_round places size some within one = record {
    some = some;
    within = within;
    long = omega arith;
    are = record {
      of_one = one;
      others = [];
      all = sym (append-nil (take size places));
      count = refl;
      repeat = All-nil (Repeats shown map story (take size places));
    };
  }

  -- And once more.
  pub next_round : (places : List ℕ) (r : FoldedRounds) (size : ℕ) → IsRoundsOf shown map story places r → r.length ≡ size
      → r.count + r.length ≤ length places
      → Repeats shown map story (take r.length places) (take r.length (drop r.count places))
      → IsRoundsOf shown map story places (record { length = size; times = r.times + 1; count = r.count + size })
  next_round places r size is long fits same =
      subst (λ (n : ℕ). IsRoundsOf shown map story places (record { length = n; times = r.times + 1; count = r.count + n })) long (record {
        some = is.some;
        within = fits;
        long = omega arith;
        are = subst (λ (xs : List ℕ). AreRounds shown map story (take r.length places) (r.times + 1) xs)
            (sym (take-add r.count r.length places))
            (more_rounds (take r.length places) r.times (take r.count places) (take r.length (drop r.count places)) is.are same);
      })

  -- The rows of a round are written, with how often it was made.
  pub rounds_written : (places : List ℕ) (r : FoldedRounds) (k z at : ℕ) (note : List ℕ) (a b c : Option (List ℕ))
      → IsRoundsOf shown map story places r → r.length ≡ k + 1 → at ≡ get_or places k z → note ≡ often_text r.length r.times
      → AddsEntries shown map story (take k places) a b → AddsNoted shown map story note at b c
      → AddsPart shown map story (take r.count places) a c
  rounds_written places r k z at note a b c is long here note_is before behind =
      let lt : k < length places = omega (arith, is.within, is.long, long) in
      let first : take r.length places ≡ take k places ++ at ∷ [] =
      ap (λ (n : ℕ). take n places) long ∙ take_more places k z lt ∙ ap (λ (y : ℕ). take k places ++ y ∷ []) (sym here) in
      let front : length (take k places) + 1 ≡ r.length = omega (arith, length-take k places, lt, long) in
      inl (record {
        front = take k places;
        last = at;
        times = r.times;
        rounds = subst (λ (xs : List ℕ). AreRounds shown map story xs r.times (take r.count places)) first is.are;
        between = b;
        before = before;
        behind = subst (λ (t : List ℕ). AddsNoted shown map story t at b c)
            (note_is ∙ ap (λ (n : ℕ). often_text n r.times) (sym front)) behind;
      })

  -- An answer stands behind its question.
  pub is_answer : (places : List ℕ) (question : Question) (z y asked : ℕ) → 2 ≤ length places
      → context_at story (get_or places 1 z) ≡ Asked question asked → asked ≡ get_or places 0 y → IsAnswered story places
  is_answer [] question z y asked two is here = absurd (omega (arith, two))
  is_answer (x ∷ []) question z y asked two is here = absurd (omega (arith, two))
  is_answer (x ∷ (told ∷ rest)) question z y asked two is here =
      (x, told, rest, refl, (question, subst (λ (n : ℕ). context_at story told ≡ Asked question n) here is))

  -- They are two.
  pub two_of : (places : List ℕ) → IsAnswered story places → 2 ≤ length places
  two_of places (asked, told, rest, is, answers) = omega (arith, ap (λ (ps : List ℕ). length ps) is)

  -- And its words are written with those of the question.
  pub answered_written : (places : List ℕ) (z y : ℕ) (words note : List ℕ) (a c : Option (List ℕ)) → IsAnswered story places
      → note ≡ codes ", " ++ words → AreNamedWords shown map story (get_or places 1 z) words
      → AddsNoted shown map story note (get_or places 0 y) a c → AddsPart shown map story (take 2 places) a c
  answered_written places z y words note a c (asked, told, rest, is, answers) note_is =
      subst (λ (ps : List ℕ). AreNamedWords shown map story (get_or ps 1 z) words → AddsNoted shown map story note (get_or ps 0 y) a c
      → AddsPart shown map story (take 2 ps) a c) (sym is) (λ w n. inr (record {
        asked = asked;
        told = told;
        both = refl;
        answers = answers;
        words = words;
        words_are = w;
        row = subst (λ (t : List ℕ). AddsNoted shown map story t asked a c) note_is n;
      }))
