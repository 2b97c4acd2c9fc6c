-- Which entry of a log was the last to write some bytes, or to notify an address.
use Rattle.std.specs.Prelude.{ℕ, ◌≡◌, ◌≢◌, ◌<◌, ◌≤◌, true, false, List, Option, Some, None}
use Rattle.std.specs.List.{slice_get}
use Rattle.types.specs.declared.event.Entry.{Entry}
use Rattle.types.specs.declared.event.Event.TheVariants.{Ask}
use Rattle.types.specs.declared.event.Question.TheVariants.{Notify}
use Rattle.race_history.specs.Accesses.{bytes_of, is_out_of_bounds, HasByte}
use Rattle.race_history.specs.declared.access.ThreadAccess.{ThreadAccess}
use Rattle.race_history.specs.declared.access.AccessKind.TheVariants.{Plain}
use Rattle.race_history.specs.declared.access.Site.{Site}
use Rattle.selection.specs.declared.choice.NumberSpan.{NumberSpan}
use Rattle.show_named.specs.declared.lasts.Act.{Act}
use Rattle.show_named.specs.declared.lasts.Act.TheVariants as acts

-- Any instruction.
abbrev pub any : Site
any = record { kind = Plain; code = 0; is_allowed = false }

-- The entry writes a byte at one of these addresses. By which instruction it was made makes no difference to that.
pub record Writes (addrs : NumberSpan) (e : Entry) : Type 0 where
  pub access : ThreadAccess
  pub is : bytes_of e any ≡ Some access
  pub writes : access.writes ≡ true
  pub byte : ℕ
  pub own : HasByte access byte
  pub from : addrs.first ≤ byte
  pub to : byte ≤ addrs.last

-- The entry notifies those that wait at this address.
pub record Notifies (addr : ℕ) (e : Entry) : Type 0 where
  pub count : ℕ
  pub is : e.event ≡ Ask (Notify addr count)
  pub made : is_out_of_bounds e.reply ≡ false

abbrev pub Does : Act → Entry → Type 0
Does (acts.Write addrs) e = Writes addrs e
Does (acts.OtherWrite addrs n) e = (e.thread ≢ n) × Writes addrs e
Does (acts.Notify addr) e = Notifies addr e

-- The entry of this place does what is sought, and it is the last one before another place that does.
pub record IsLast (s : Act) (log : List Entry) (before k : ℕ) : Type 0 where
  pub entry : Entry
  pub at : slice_get log k ≡ Some entry
  pub earlier : k < before
  pub does : Does s entry
  pub later : (j : ℕ) (e : Entry) → k < j → j < before → slice_get log j ≡ Some e → Does s e → ⊥

-- None before that place does.
abbrev pub HasNone : Act → List Entry → ℕ → Type 0
HasNone s log before = (j : ℕ) (e : Entry) → j < before → slice_get log j ≡ Some e → Does s e → ⊥

-- The place of the last one, or none.
abbrev pub IsLastIfAny : Act → List Entry → ℕ → Option ℕ → Type 0
IsLastIfAny s log before (Some k) = IsLast s log before k
IsLastIfAny s log before None = HasNone s log before
