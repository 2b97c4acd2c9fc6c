-- The moves that are noted stand together, and to each state but the first one leads in from a lower one.
use Rattle.std.specs.Prelude.{◌≡◌, ◌<◌, ◌≤◌, ◌⊎◌, ℕ, zero, suc, Bool, true, false, List, [], ◌∷◌, ◌++◌, length, get_or, Some, refl, ◌==◌}
use Rattle.std.specs.Prelude.{Contains}
use Rattle.std.specs.List.{slice_get, IsDistinct}
use Rattle.std.proofs.Common.{ap, subst, sym, ◌∙◌, inl, inr, arith, true≢false, append_assoc}
use Rattle.std.proofs.lemmas.Bool.{cases_eq, cases_lt}
use Rattle.std.proofs.lemmas.List.{append-nil}
use Rattle.std.proofs.lemmas.List.Elements.{Contains-append_right, Contains-append_cases, filter-append}
use Rattle.std.proofs.lemmas.Map.Keys.{apart_from_distinct}
use Rattle.std.proofs.lemmas.Option.{none-some, get_or_from_slice_get, slice_get_within, slice_get-get_or}
use Rattle.search_graph.specs.declared.graph.Move.{Move}
use Rattle.search_reach.specs.declared.explores.NextState.{NextState}
use Rattle.search_reach.specs.Search.{StepSystem, IsFirst}
use Rattle.search_reach.specs.Explored.{Gains, moves_from, HasAt, Notes, Explored}
use Rattle.search_reach.specs.Moved.{StandTogether, LeadsIn, IsMoved}
use Rattle.search_reach.proofs.Searching.{Begins, Gains-begins, get_longer, get_shorter, here, from-none, from-all, noted-each, noted-all}

-- no two places have equal states
abbrev pub IsUnique : {S : Type 0} → (S → S → Bool) → List S → Type 0
IsUnique eq ks = (i j : ℕ) (x y : _) → slice_get ks i ≡ Some x → slice_get ks j ≡ Some y → eq x y ≡ true → i ≡ j

pub unique : {S : Type 0} (eq : S → S → Bool) → ((x y : S) → eq x y ≡ true → eq y x ≡ true) → (ks : List S) → IsDistinct eq ks → IsUnique eq ks
unique {S} eq back ks distinct i j x y at there same = by (cases_lt i j) (cases_lt j i)
  where
    apart : (i j : ℕ) (x y : S) → i < j → slice_get ks i ≡ Some x → slice_get ks j ≡ Some y → eq x y ≡ false
    apart i j x y less at there =
        let one = get_or_from_slice_get ks i x x at in
        let other = get_or_from_slice_get ks j y x there in
        let no = apart_from_distinct eq ks i j x distinct less (slice_get_within ks j y there) in
        subst (λ v. eq x v ≡ false) other (subst (λ v. eq v (get_or ks j x) ≡ false) one no)

    by : (i < j) ⊎ (j ≤ i) → (j < i) ⊎ (i ≤ j) → i ≡ j
    by (inl less) b = absurd (true≢false (sym same ∙ apart i j x y less at there))
    by (inr past) (inl more) = absurd (true≢false (sym (back x y same) ∙ apart j i y x more there at))
    by (inr past) (inr up) = omega (arith, past, up)

pub together-none : (from : ℕ) → StandTogether [] from
together-none from = record {
  front = [];
  back = [];
  is = refl;
  before = λ m c. absurd (omega (arith, c.1));
  behind = λ m c. absurd (omega (arith, c.1));
}

-- the moves from one more state stand behind those from others
module _ (moves new after : List Move) (i : ℕ) (is : after ≡ moves ++ new) (new_from : (m : Move) → Contains new m → m.from ≡ i)
    (before : (m : Move) → Contains moves m → m.from ≡ i → ⊥) where
  split : (j : ℕ) → moves_from j after ≡ moves_from j moves ++ moves_from j new
  split j = ap (moves_from j) is ∙ filter-append (λ (m : Move). m.from == j) moves new

  this : moves_from i after ≡ new
  this = split i ∙ (ap (λ l. l ++ moves_from i new) (from-none i moves before) ∙ from-all i new new_from)

  others : (j : ℕ) → (j ≡ i → ⊥) → moves_from j after ≡ moves_from j moves
  others j other =
      split j ∙ (ap (λ l. moves_from j moves ++ l) (from-none j new (λ m c same. other (sym same ∙ new_from m c))) ∙ append-nil (moves_from j moves))

  behind-both : (back : List Move) (from : ℕ) → ((m : Move) → Contains back m → m.from ≡ from → ⊥) → (from ≡ i → ⊥) → (m : Move) → m.from ≡ from
      → Contains back m ⊎ Contains new m → ⊥
  behind-both back from old other m same (inl c) = old m c same
  behind-both back from old other m same (inr c) = other (sym same ∙ new_from m c)

  pub together-more : ((from : ℕ) → StandTogether moves from) → (from : ℕ) → StandTogether after from
  together-more was from = by (cases_eq from i)
    where
      by : (from ≡ i) ⊎ (from ≡ i → ⊥) → StandTogether after from
      by (inl same) = subst (StandTogether after) (sym same) (record {
        front = moves;
        back = [];
        is = is ∙ ap (λ l. moves ++ l) (sym (append-nil (moves_from i after) ∙ this));
        before = before;
        behind = λ m c. absurd (omega (arith, c.1));
      })
      by (inr other) =
          let t = was from in
          record {
            front = t.front;
            back = t.back ++ new;
            is = is ∙ (ap (λ l. l ++ new) t.is ∙ (append_assoc t.front (moves_from from moves ++ t.back) new
                ∙ (ap (λ l. t.front ++ l) (append_assoc (moves_from from moves) t.back new)
                ∙ ap (λ l. t.front ++ (l ++ (t.back ++ new))) (sym (others from other)))));
            before = t.before;
            behind = λ m c same. behind-both t.back from t.behind other m same (Contains-append_cases t.back new m c);
          }

leads-longer : (moves after : List Move) → Begins moves after → (to place : ℕ) → LeadsIn moves to place → LeadsIn after to place
leads-longer moves after b to place l = record { move = l.move; at = get_longer moves after place l.move b l.at; next = l.next; lower = l.lower }

-- what stands behind the first keys
pub behind : {S : Type 0} (ks more : List S) (i : ℕ) (s : S) → length ks ≤ i → slice_get (ks ++ more) i ≡ Some s → Contains more s
behind [] more i s past at = here more i s at
behind (k ∷ ks) more zero s past at = absurd (omega (arith, past))
behind (k ∷ ks) more (suc i) s past at = behind ks more i s (omega (arith, past)) at

placed : {A : Type 0} (xs : List A) (x : A) → Contains xs x → (place : ℕ) × (slice_get xs place ≡ Some x)
placed xs x c = (c.0, slice_get-get_or xs c.0 x c.1 ∙ ap Some c.2)

pub at-some : {A : Type 0} (xs : List A) (i : ℕ) → i < length xs → (x : A) × (slice_get xs i ≡ Some x)
at-some [] i low = absurd (omega (arith, low))
at-some (x ∷ xs) zero low = (x, refl)
at-some (x ∷ xs) (suc i) low = at-some xs i (omega (arith, low))

module _ {S : Type 0} (eq : S → S → Bool) (ks ls : List S) (xs : List (NextState S)) (moves after : List Move) (i : ℕ) (g : Gains ks xs ls)
    (noted : Notes eq ls i xs moves after) (low : i < length ks) (distinct : IsUnique eq ls) where
  led-new : (to : ℕ) → to < length ls → length ks ≤ to → (place : ℕ) × LeadsIn after to place
  led-new to within past =
      let s = at-some ls to within in
      let among = behind ks g.more to s.0 past (sym (ap (λ l. slice_get l to) g.is) ∙ s.1) in
      let x = g.among s.0 among in
      let m = noted-all eq ls i xs noted.new noted.are x.0 x.1 in
      let has : HasAt eq ls m.0.next x.0.state = m.2.next in
      let from : m.0.from ≡ i = m.2.from in
      let there = placed after m.0 (subst (λ l. Contains l m.0) (sym noted.is) (Contains-append_right moves noted.new m.0 m.1)) in (
        there.0,
        record {
          move = m.0;
          at = there.1;
          next = sym (distinct to m.0.next s.0 has.key s.1 has.at (subst (λ v. eq v has.key ≡ true) x.2 has.is));
          lower = omega (arith, from, low, past);
        },
      )

  pub led-more : ((to : ℕ) → 0 < to → to < length ks → (place : ℕ) × LeadsIn moves to place) → (to : ℕ) → 0 < to → to < length ls
      → (place : ℕ) × LeadsIn after to place
  led-more was to some within = by (cases_lt to (length ks))
    where
      by : (to < length ks) ⊎ (length ks ≤ to) → (place : ℕ) × LeadsIn after to place
      by (inl less) = let l = was to some less in (l.0, leads-longer moves after (record { more = noted.new; is = noted.is }) to l.0 l.1)
      by (inr past) = led-new to within past

module _ {S W E : Type 0} (k : StepSystem S W E) (eq : S → S → Bool) where
  -- where no state was met, and where one was
  pub moved-none : IsMoved k eq [] []
  moved-none = record {
    first = λ s at. absurd (none-some s at);
    gone_on = λ m s c at. absurd (omega (arith, c.1));
    ordered = record { together = together-none; led = λ to some low. absurd (omega (arith, low)) };
  }

  pub moved-first : (s : S) → IsFirst k s → IsMoved k eq (s ∷ []) []
  moved-first s f = record {
    first = λ x at. (let same : s ≡ x = cc at in subst (IsFirst k) same f);
    gone_on = λ m x c at. absurd (omega (arith, c.1));
    ordered = record { together = together-none; led = λ to some low. absurd (omega (arith, some, low)) };
  }

  -- behind one more that was gone on from
  pub moved-more : (ks ls : List S) (xs : List (NextState S)) (moves after : List Move) (i : ℕ) → Gains ks xs ls → Notes eq ls i xs moves after
      → i < length ks → IsUnique eq ls → ((m : Move) → Contains moves m → m.from ≡ i → ⊥) → IsMoved k eq ks moves
      → (now : ℕ → Type 0) → Explored k eq ls after now → IsMoved k eq ls after
  moved-more ks ls xs moves after i g noted low distinct before was now e = record {
    first = λ s at. was.first s (get_shorter ks ls 0 s (Gains-begins ks ls xs g) (omega (arith, low)) at);
    gone_on = λ m s c at. e.gone_on m.from s (e.from m c).0 at;
    ordered = record {
      together = together-more moves noted.new after i noted.is (λ m c. (noted-each eq ls i xs noted.new noted.are m c).2.from) before
          was.ordered.together;
      led = led-more eq ks ls xs moves after i g noted low distinct was.ordered.led;
    };
  }
