-- Turns make at least as many entries as they have events.
use Rattle.std.proofs.Common.{◌≡◌, ◌+◌, ◌≤◌, ◌⊎◌, inl, inr, refl, sym, ◌∙◌, ap, subst, arith, ℕ, zero, suc, true, List, [], ◌∷◌, ◌++◌, length}
use Rattle.std.proofs.Common.{length-append}
use Rattle.schedule.specs.System.{Want, Want.Turns, Want.Calls, Want.Awaits, Want.Gone, Kind.Turn, Act, Act.Made, Act.Heard, Entry, System, State}
use Rattle.schedule.specs.Scheduled.{after_mark, scheduled_run, entries_by, entries_at, entries_made}
use Rattle.schedule.specs.Histories.{if_made, without_answers}
use Rattle.search_threads.specs.Budgets.{turns_of}
use Rattle.search_reach.specs.Levels.{Comes}
use Rattle.search_settled.specs.Settled.{turning}
use Rattle.search_settled.specs.Levels.{wants_none, makes_none, ComesWithin}

module _ {E V A : Type 0} where
  few-made : (n : ℕ) (a : Act E V A) (H : List (Entry E V A)) → length (if_made n a H) ≤ suc (length H)
  few-made n (Made e v) H = omega arith
  few-made n (Heard a) H = omega arith

  pub fewer-answers : (H : List (Entry E V A)) → length (without_answers H) ≤ length H
  fewer-answers [] = omega arith
  fewer-answers (h ∷ H) = let one = few-made h.thread h.act (without_answers H) in let rest = fewer-answers H in omega (arith, one, rest)

module _ {X T E V A : Type 0} (s : System X T E V A) where
  abbrev Path : ℕ → ℕ → State X T → State X T → Type 0
  Path = Comes (turning s) (makes_none s)

  pub comes-more : (steps few more : ℕ) (w z : State X T) → few ≤ more → Path steps few w z → Path steps more w z
  comes-more zero few more w z le p = p
  comes-more (suc steps) few more w z le p = (p.0, p.1, p.2, by more le p.3 (λ least most low q. comes-more steps least most w p.0 low q))
    where
      by : (most : ℕ) → few ≤ most → ((makes_none s p.0 p.1 ≡ true) × Path steps few w p.0) ⊎ ((less : ℕ) × (few ≡ suc less) × Path steps less w p.0)
          → ((least higher : ℕ) → least ≤ higher → Path steps least w p.0 → Path steps higher w p.0)
          → ((makes_none s p.0 p.1 ≡ true) × Path steps most w p.0) ⊎ ((less : ℕ) × (most ≡ suc less) × Path steps less w p.0)
      by most low (inl q) on = inl (q.0, on few most low q.1)
      by zero low (inr q) on = absurd (let is = q.1 in omega (arith, is, low))
      by (suc most) low (inr q) on = inr (most, refl, on q.0 most (let is = q.1 in omega (arith, is, low)) q.2)

  -- along one turn, and then others
  module _ (n : ℕ) (turns : List ℕ) (first v : State X T) where
    abbrev following : State X T
    following = after_mark s v n Turn

    abbrev later : ℕ
    later = length (entries_made s following (turns_of turns))

    abbrev all : ℕ
    all = length (entries_by s v n (s.wants (v.threads n)) ++ entries_made s following (turns_of turns))

    abbrev Rest : Type 0
    Rest = (count more : ℕ) → Path count more first following → ComesWithin s (more + later) first (scheduled_run s following (turns_of turns))

    all-is : all ≡ length (entries_by s v n (s.wants (v.threads n))) + later
    all-is = length-append (entries_by s v n (s.wants (v.threads n))) (entries_made s following (turns_of turns))

    module _ (steps events : ℕ) (p : Path steps events first v) (rest : Rest) where
      quiet : (want : Want E) → s.wants (v.threads n) ≡ want → wants_none want ≡ true
          → ComesWithin s (events + all) first (scheduled_run s following (turns_of turns))
      quiet want is none =
          let r = rest (suc steps) events (v, n, refl, inl (ap wants_none is ∙ none, p)) in
          (r.0, comes-more r.0 (events + later) (events + all) first (scheduled_run s following (turns_of turns)) (let l = all-is in omega (arith, l)) r.1)

      one-more : (want : Want E) → s.wants (v.threads n) ≡ want → ComesWithin s (events + all) first (scheduled_run s following (turns_of turns))
      one-more Turns is = quiet Turns is refl
      one-more (Calls e) is =
          let r = rest (suc steps) (suc events) (v, n, refl, inr (events, refl, p)) in
          let one : length (entries_by s v n (s.wants (v.threads n))) ≡ 1 = ap (λ x. length (entries_by s v n x)) is in (
            r.0,
            comes-more r.0 (suc events + later) (events + all) first (scheduled_run s following (turns_of turns))
                (let l = all-is in omega (arith, l, one)) r.1,
          )
      one-more Awaits is = quiet Awaits is refl
      one-more Gone is = quiet Gone is refl

  -- along turns
  pub along : (turns : List ℕ) (first v : State X T) (steps events : ℕ) → Path steps events first v
      → ComesWithin s (events + length (entries_made s v (turns_of turns))) first (scheduled_run s v (turns_of turns))
  along [] first v steps events p = (steps, comes-more steps events (events + 0) first v (omega arith) p)
  along (n ∷ turns) first v steps events p =
      one-more n turns first v steps events p (λ count more q. along turns first (after_mark s v n Turn) count more q) (s.wants (v.threads n)) refl

  -- from where they begin
  pub within-entries : (turns : List ℕ) (first : State X T) (H : List (Entry E V A)) (most : ℕ) → entries_made s first (turns_of turns) ≡ without_answers H
      → length H ≡ most → ComesWithin s most first (scheduled_run s first (turns_of turns))
  within-entries turns first H most made is =
      let r = along turns first first 0 0 refl in
      let few = fewer-answers H in
      let e = ap length made in (
        r.0,
        comes-more r.0 (0 + length (entries_made s first (turns_of turns))) most first (scheduled_run s first (turns_of turns))
            (omega (arith, few, e, is)) r.1,
      )
