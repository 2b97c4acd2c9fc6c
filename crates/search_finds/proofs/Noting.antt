-- What holds of each row of a table, and of an ending that is noted, holds of each then.
use Rattle.std.proofs.Common.{ℕ, ◌≡◌, ◌+◌, List, [], ◌∷◌, ◌++◌, All, Bool, true, false, length, length-append, subst, sym, arith}
use Rattle.std.proofs.lemmas.List.Elements.{All-nil, All-push, All-same, All-set}
use Rattle.search_scheduled.specs.declared.running.MadeRun.{MadeRun}
use Rattle.search_endings.specs.Endings.{Ending}
use Rattle.search_finds.specs.declared.met.Met.{Met}
use Rattle.search_finds.specs.declared.met.EndingTable.{EndingTable}
use Rattle.search_finds.specs.Tables.{IsNoted}
use Rattle.search_finds.specs.Noted.{AreMet, AreNoted, AreNotedBy, IsTableOf}
use Rattle.search_finds.specs.Noted.IsTableOf.{none, more}
use Rattle.search_finds.specs.Drawing.{AreOfRuns, AreOfRunsBy, IsMetBy}
use Rattle.spawn_host.specs.Requests.{Requested}
use Rattle.selection.specs.declared.sought.Sought.{Sought}
use Rattle.search_finds.proofs.InRow.{one_more, last_of}

pub noted_all : (P : ℕ → Ending → Type 0) (run : ℕ) (e : Ending) (is_new : Bool) (old new : EndingTable) → IsNoted run e is_new old new → P run e
    → All (λ m. P m.first m.ending) old.met.items → All (λ m. P m.first m.ending) new.met.items
noted_all P run e true old new noted p all =
    subst (λ (l : List Met). All (λ m. P m.first m.ending) l) (sym noted.met.list)
    (All-push (λ (m : Met). P m.first m.ending) old.met.items _ all p)
noted_all P run e false old new noted p all =
    let m = noted.met in
    let before : P m.was.first m.was.ending = subst (λ (x : Met). P x.first x.ending) m.was_there (all m.place m.was m.within) in
    subst (λ (l : List Met). All (λ x. P x.first x.ending) l) (sym m.list)
    (All-set (λ (x : Met). P x.first x.ending) old.met.items m.place _ before all)

module _ (P : ℕ → MadeRun → Type 0) (q : Requested) (s : Sought) where
  -- A table of no runs.
  pub noted_none : (t : EndingTable) → t.runs ≡ 0 → t.met.items ≡ [] → AreNotedBy P q s t
  noted_none t runs met = record { endings = []; noted = none t runs met; met = tt; count = sym runs }

  -- One run more.
  pub noted_more : (run : ℕ) (e : Ending) (is_new : Bool) (old new : EndingTable) → AreNotedBy P q s old
      → old.runs + s.from ≡ run → IsMetBy P q s run e → IsNoted run e is_new old new → AreNotedBy P q s new
  noted_more run e is_new old new a at met noted =
      let count = a.count in
      let place : run ≡ s.from + length a.endings = omega arith in
      let longer : length (a.endings ++ e ∷ []) ≡ length a.endings + 1 = length-append a.endings (e ∷ []) in
      let runs = noted.runs in
      record {
        endings = a.endings ++ e ∷ [];
        noted = more a.endings e is_new old new a.noted (subst (λ (r : ℕ). IsNoted r e is_new old new) place noted);
        met = one_more q s P s.from a.endings e a.met (subst (λ (r : ℕ). IsMetBy P q s r e) place met);
        count = omega arith;
      }

  -- Each row has its first run.
  rows_by : (es : List Ending) (t : EndingTable) → IsTableOf s.from es t → AreOfRunsBy P q s s.from es
      → All (λ m. IsMetBy P q s m.first m.ending) t.met.items
  rows_by [] _ (none t runs met) all =
      All-same (λ (m : Met). IsMetBy P q s m.first m.ending) _ [] met (All-nil (λ (m : Met). IsMetBy P q s m.first m.ending))
  rows_by _ _ (more es e is_new old t before noted) all =
      let split = last_of q s P s.from es e all in
      noted_all (IsMetBy P q s) (s.from + length es) e is_new old t noted split.1 (rows_by es old before split.0)

  pub rows_of : (t : EndingTable) → AreNotedBy P q s t → All (λ m. IsMetBy P q s m.first m.ending) t.met.items
  rows_of t a = rows_by a.endings t a.noted a.met

  pub met_of_noted : (t : EndingTable) → AreNotedBy P q s t → AreMet q s t
  met_of_noted t a = λ k d within. let met = rows_of t a k d within in record { made = met.made; drawn = met.drawn; ending = met.ending }

  -- Of each number and run more may be said.
  runs_plain : (run : ℕ) (es : List Ending) → AreOfRunsBy P q s run es → AreOfRuns q s run es
  runs_plain run [] all = tt
  runs_plain run (e ∷ es) all =
      (record { made = all.0.made; drawn = all.0.drawn; ending = all.0.ending }, runs_plain (run + 1) es all.1)

  pub plainly_noted : (t : EndingTable) → AreNotedBy P q s t → AreNoted q s t
  plainly_noted t a =
      record { endings = a.endings; noted = a.noted; met = runs_plain s.from a.endings a.met; count = a.count }

module _ (P Q : ℕ → MadeRun → Type 0) (f : (run : ℕ) (made : MadeRun) → P run made → Q run made) (q : Requested) (s : Sought) where
  runs_weaker : (run : ℕ) (es : List Ending) → AreOfRunsBy P q s run es → AreOfRunsBy Q q s run es
  runs_weaker run [] all = tt
  runs_weaker run (e ∷ es) all = (
    record { made = all.0.made; drawn = all.0.drawn; ending = all.0.ending; holds = f run all.0.made all.0.holds },
    runs_weaker (run + 1) es all.1,
  )

  pub noted_weaker : (t : EndingTable) → AreNotedBy P q s t → AreNotedBy Q q s t
  noted_weaker t a =
      record { endings = a.endings; noted = a.noted; met = runs_weaker s.from a.endings a.met; count = a.count }
