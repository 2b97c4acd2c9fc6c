-- Where nowhere two next accesses race, none conflicts with a plain one before it.
use Rattle.std.proofs.Common.{◌≡◌, ◌≢◌, ℕ, Some}
use Rattle.schedule.specs.System.{State}
use Rattle.search_settled.specs.Settled.{IsReached}
use Rattle.search_settled.specs.Accesses.{Race}
use Rattle.search_settled.specs.declared.access.NextAccess.{NextAccess}
use Rattle.search_race_free.specs.Wanted.{next_access, after_next}
use Rattle.search_race_free.specs.Laws.{RacesMeet}
use Rattle.search_race_free.proofs.Racing.{none-race}
use Rattle.search_race_free.proofs.Turning.{plain-laws}

pub races-meet : (X T E V A : Type 0) → RacesMeet X T E V A
races-meet X T E V A s first accesses most tame plain none one other c =
    let made = c.made in
    none-race (next_access s accesses) (after_next s) (IsReached s first) (plain-laws s accesses first most tame plain) never one other c.access c.next
    made.before c.state c.differ made.reached made.wanted made.plain made.since c.wanted c.conflict
  where
    never : (w : State X T) → IsReached s first w → (t u : ℕ) (e f : NextAccess) → u ≢ t → next_access s accesses w t ≡ Some e →
        next_access s accesses w u ≡ Some f
        → Race e f → ⊥
    never w r t u e f d h g race =
        none t u (record { differ = d; state = w; reached = r; access = e; wanted = h; next = f; wanted_next = g; race = race })
