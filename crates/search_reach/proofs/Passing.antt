-- Which of the states that were met have ended as is looked for.
use Rattle.std.specs.Prelude.{◌≡◌, ◌+◌, ◌<◌, ◌≤◌, ◌⊎◌, ◌↔◌, ℕ, Bool, true, false, List, length, Contains, Some, None, refl}
use Rattle.std.proofs.Common.{ap, subst, sym, ◌∙◌, inl, inr, arith, true≢false}
use Rattle.std.specs.List.{slice_get}
use Rattle.std.proofs.lemmas.Bool.{cases_lt}
use Rattle.std.proofs.lemmas.Option.{slice_get-get_or, slice_get_within, none-some}
use Rattle.search_reach.specs.Search.{StepSystem, IsSound, IsEnding, HasEqual, AllEnds, AreEndsOf}
use Rattle.search_reach.specs.Sought.{IsPassed, ArePassed, SaysOf, HasSoughtFrom, SaysFrom, SeeksAmong, SeeksIn}
use Rattle.search_reach.specs.declared.search.Verdict.{Verdict}
use Rattle.search_reach.specs.declared.search.Verdict.TheVariants as verdicts
use Rattle.search_reach.proofs.Searching.{Begins, get_shorter, here}

module _ {S W E : Type 0} (k : StepSystem S W E) (Sought : E → Type 0) where
  pub says-none : (s : S) → IsEnding k s None → SaysOf k Sought false s
  says-none s is w e st ends so = absurd (none-some e (is.all w e st ends))

  pub says-some : (s : S) (e : E) (is : Bool) → ((is ≡ true) ↔ Sought e) → IsEnding k s (Some e) → SaysOf k Sought is s
  says-some s e true told is = record { ending = e; is = is; sought = told.0 refl }
  says-some s e false told is = λ w x st ends so. (
      let same : Some e ≡ Some x = is.all w x st ends in
      let one : e ≡ x = cc same in
      absurd (true≢false (sym (told.1 (subst Sought (sym one) so)))))

  -- of the states from a place to another
  abbrev pub PassedTo : ℕ → ℕ → List S → Type 0
  PassedTo from to ks = (j : ℕ) (s : S) → from ≤ j → j < to → slice_get ks j ≡ Some s → IsPassed k Sought s

  pub passed-none : (from : ℕ) (ks : List S) → PassedTo from from ks
  passed-none from ks j s since low at = absurd (omega (arith, since, low))

  pub passed-one : (from to : ℕ) (ks : List S) (s : S) (is : Bool) → is ≡ false → slice_get ks to ≡ Some s → SaysOf k Sought is s → PassedTo from to ks
      → PassedTo from (to + 1) ks
  passed-one from to ks s is fails at says before j x since low there = by (cases_lt j to)
    where
      by : (j < to) ⊎ (to ≤ j) → IsPassed k Sought x
      by (inl less) = before j x since less there
      by (inr high) =
          let same : to ≡ j = omega (arith, low, high) in
          let here-is : slice_get ks j ≡ Some s = subst (λ (n : ℕ). slice_get ks n ≡ Some s) same at in
          let one : s ≡ x = cc (here-is, there) in
          subst (λ v. IsPassed k Sought v) one (subst (λ b. SaysOf k Sought b s) fails says)

  pub passed-all : (from to : ℕ) (ks : List S) → length ks ≤ to → PassedTo from to ks → SaysFrom k Sought from false ks
  passed-all from to ks past before j s since at =
      let within = slice_get_within ks j s at in
      before j s since (omega (arith, within, past)) at

  pub sought-at : (from to : ℕ) (ks : List S) (s : S) (is : Bool) → is ≡ true → from ≤ to → slice_get ks to ≡ Some s → SaysOf k Sought is s
      → PassedTo from to ks → SaysFrom k Sought from true ks
  sought-at from to ks s is holds since at says before = record {
    at = to;
    since = since;
    state = s;
    there = at;
    ended = subst (λ b. SaysOf k Sought b s) holds says;
    before = before;
  }

  pub passed-more : (ks ls : List S) → Begins ks ls → ArePassed k Sought ks → SaysFrom k Sought (length ks) false ls → ArePassed k Sought ls
  passed-more ks ls begins old new j s at = by (cases_lt j (length ks))
    where
      by : (j < length ks) ⊎ (length ks ≤ j) → IsPassed k Sought s
      by (inl low) = old j s (get_shorter ks ls j s begins low at)
      by (inr high) = new j s high at

  pub sought-more : (ks ls : List S) → Begins ks ls → ArePassed k Sought ks → HasSoughtFrom k Sought (length ks) ls → HasSoughtFrom k Sought 0 ls
  sought-more ks ls begins old has = record {
    at = has.at;
    since = omega arith;
    state = has.state;
    there = has.there;
    ended = has.ended;
    before = λ j s since low at. before j s low at (cases_lt j (length ks));
  }
    where
      before : (j : ℕ) (s : S) → j < has.at → slice_get ls j ≡ Some s → (j < length ks) ⊎ (length ks ≤ j) → IsPassed k Sought s
      before j s low at (inl less) = old j s (get_shorter ks ls j s begins less at)
      before j s low at (inr high) = has.before j s high low at

  pub all-passed : (ks : List S) → SaysFrom k Sought 0 false ks → ArePassed k Sought ks
  all-passed ks says j s at = says j s (omega arith) at

  pub seeks-none : (verdict : Verdict) (ks : List S) → (verdict ≡ verdicts.Sought → ⊥) → ArePassed k Sought ks → SeeksAmong k Sought verdict ks
  seeks-none verdict ks other passed = record { some = λ v. absurd (other v); none = λ other. passed }

  pub seeks-some : (ks : List S) → HasSoughtFrom k Sought 0 ks → SeeksAmong k Sought verdicts.Sought ks
  seeks-some ks has = record { some = λ v. has; none = λ other. absurd (other refl) }

  -- the same of the endings
  pub seeks-in : (eq : E → E → Bool) (before after : Verdict) (ks : List S) (es : List E) → IsSound k ks → SeeksAmong k Sought before ks → AllEnds k eq ks es
      → AreEndsOf k ks es → (after ≡ verdicts.Sought → before ≡ verdicts.Sought) → (before ≡ verdicts.Sought → after ≡ verdicts.Sought)
      → SeeksIn Sought eq after es
  seeks-in eq before after ks es sound seeks all of back forth = record {
    some = λ v. some (seeks.some (back v));
    none = λ other e c is. none (seeks.none (λ was. other (forth was))) e is (of e c);
  }
    where
      some : HasSoughtFrom k Sought 0 ks → (e : E) × Sought e × HasEqual eq es e
      some has =
          let c = here ks has.at has.state has.there in
          let met = sound has.state c in
          let z = ((has.ended).is).sound met.comes.end (has.ended).ending met.comes.is refl in
          ((has.ended).ending, (has.ended).sought, all has.state c z.end (has.ended).ending z.stands z.is)

      none : ArePassed k Sought ks → (e : E) → Sought e → (s : S) × Contains ks s × IsEnding k s (Some e) → ⊥
      none passed e is f =
          let met = sound f.0 f.1 in
          let z = (f.2).sound met.comes.end e met.comes.is refl in
          let at : slice_get ks (f.1).0 ≡ Some f.0 = slice_get-get_or ks (f.1).0 f.0 (f.1).1 ∙ ap Some (f.1).2 in
          passed (f.1).0 f.0 at z.end e z.stands z.is is
