-- The endings of runs in a row, the last first.
use Rattle.std.proofs.Common.{ℕ, ◌≡◌, ◌+◌, Bool, List, [], ◌∷◌, ◌++◌, Option, Some, None, IfSome, refl, length, length-append, subst, arith}
use Rattle.std.specs.Option.{option_to_list}
use Rattle.spawn_host.specs.Requests.{Requested}
use Rattle.selection.specs.declared.sought.Sought.{Sought}
use Rattle.search_scheduled.specs.declared.running.MadeRun.{MadeRun}
use Rattle.search_endings.specs.Endings.{Ending}
use Rattle.search_finds.specs.Drawing.{AreOfRunsBack, AreOfRunsBy, HasPointsAmong, IsDrawnAmong, IsEndingAmong, IsMetBy, IsRunOfNumber}
use Rattle.search_finds.specs.declared.search.JudgedEnding.{JudgedEnding}
use Rattle.search_finds.specs.Halts.{IfFound}
use Rattle.search_finds.specs.declared.finding.Halt.{Halt}
use Rattle.search_finds.specs.declared.finding.Halt.TheVariants as halts

module _ (Says : MadeRun → Bool → Type 0) (q : Requested) (s : Sought) (entries : ℕ) where
  -- those of earlier runs stand behind those of later ones
  pub put_behind : (run : ℕ) (later made : List JudgedEnding) → AreOfRunsBack Says q s entries (run + length made) later
      → AreOfRunsBack Says q s entries run made → AreOfRunsBack Says q s entries run (later ++ made)
  put_behind run [] made all these = these
  put_behind run (e ∷ later) made all these =
      let n : (run + length made) + length later ≡ run + length (later ++ made) = omega (arith, length-append later made) in
      (subst (λ (k : ℕ). IsEndingAmong Says q s entries k e) n all.0, put_behind run later made all.1 these)

  -- the last one is that of the first run
  pub last_is_first : (run : ℕ) (endings : List JudgedEnding) (e : JudgedEnding) → AreOfRunsBack Says q s entries run (endings ++ e ∷ [])
      → AreOfRunsBack Says q s entries (run + 1) endings × IsEndingAmong Says q s entries run e
  last_is_first run [] e all = (tt, subst (λ (k : ℕ). IsEndingAmong Says q s entries k e) (omega arith) all.0)
  last_is_first run (x ∷ endings) e all =
      let rest = last_is_first run endings e all.1 in
      let n : run + length (endings ++ e ∷ []) ≡ (run + 1) + length endings = omega (arith, length-append endings (e ∷ [])) in
      ((subst (λ (k : ℕ). IsEndingAmong Says q s entries k x) n all.0, rest.0), rest.1)

  pub popped : (run : ℕ) (all left : List JudgedEnding) (o : Option JudgedEnding) (e : JudgedEnding) → all ≡ left ++ option_to_list o → o ≡ Some e
      → AreOfRunsBack Says q s entries run all → AreOfRunsBack Says q s entries (run + 1) left × IsEndingAmong Says q s entries run e
  popped run all left o e is some these =
      last_is_first run left e (rw some at (subst (AreOfRunsBack Says q s entries run) is these))

  pub popped_if : (run : ℕ) (all left : List JudgedEnding) (o : Option JudgedEnding) → all ≡ left ++ option_to_list o → (o ≡ None → length left ≡ 0)
      → AreOfRunsBack Says q s entries run all → AreOfRunsBack Says q s entries (run + 1) left × IfSome o (IsEndingAmong Says q s entries run)
  popped_if run all left (Some e) is none these = popped run all left (Some e) e is refl these
  popped_if run all [] None is none these = (tt, tt)
  popped_if run all (x ∷ left) None is none these = let empty : length (x ∷ left) ≡ 0 = none refl in absurd (omega arith)

-- the ending of a run is that of its number, where points lie among as many entries as they do
pub met_of : (Says : MadeRun → Bool → Type 0) (P : ℕ → MadeRun → Type 0) (q : Requested) (s : Sought) (entries run : ℕ) (e : JudgedEnding)
    → HasPointsAmong q s.limit s.way entries → IsEndingAmong Says q s entries run e → ((made : MadeRun) → Says made e.is_sought → P run made)
    → IsMetBy P q s run e.ending
met_of Says P q s entries run e points x f = record {
  made = x.made;
  drawn = record { entries = entries; points = points; drawn = x.drawn };
  ending = x.ending;
  holds = f x.made x.judged;
}

module _ (q : Requested) (s : Sought) where
  -- one more run
  pub one_more : (P : ℕ → MadeRun → Type 0) (run : ℕ) (endings : List Ending) (e : Ending) → AreOfRunsBy P q s run endings
      → IsMetBy P q s (run + length endings) e → AreOfRunsBy P q s run (endings ++ e ∷ [])
  one_more P run [] e all met = (subst (λ (k : ℕ). IsMetBy P q s k e) (omega arith) met, tt)
  one_more P run (x ∷ endings) e all met =
      let n : run + length (x ∷ endings) ≡ (run + 1) + length endings = omega arith in
      (all.0, one_more P (run + 1) endings e all.1 (subst (λ (k : ℕ). IsMetBy P q s k e) n met))

  -- one run fewer
  pub last_of : (P : ℕ → MadeRun → Type 0) (run : ℕ) (endings : List Ending) (e : Ending) → AreOfRunsBy P q s run (endings ++ e ∷ [])
      → AreOfRunsBy P q s run endings × IsMetBy P q s (run + length endings) e
  last_of P run [] e all = (tt, subst (λ (k : ℕ). IsMetBy P q s k e) (omega arith) all.0)
  last_of P run (x ∷ endings) e all =
      let rest = last_of P (run + 1) endings e all.1 in
      let n : (run + 1) + length endings ≡ run + length (x ∷ endings) = omega arith in
      ((all.0, rest.0), subst (λ (k : ℕ). IsMetBy P q s k e) n rest.1)

  pub drawn_of : (entries : ℕ) → HasPointsAmong q s.limit s.way entries → (h : Halt) → IfFound h (λ f. IsDrawnAmong q s entries f.run f.made)
      → IfFound h (λ f. IsRunOfNumber q s f.run f.made)
  drawn_of entries points (halts.Found f) drawn = record { entries = entries; points = points; drawn = drawn }
  drawn_of entries points halts.AllMade drawn = tt
  drawn_of entries points halts.Told drawn = tt
