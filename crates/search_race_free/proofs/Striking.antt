-- What is within what threads own conflicts only where that does.
use Rattle.std.proofs.Common.{◌≡◌, ◌⊎◌, inl, inr, ℕ, sym, ◌∙◌, arith, List, Contains, true}
use Rattle.schedule.specs.System.{System, State}
use Rattle.search_settled.specs.Accesses.{IsPlain, Conflict}
use Rattle.search_settled.specs.declared.access.NextAccess.{NextAccess}
use Rattle.search_race_free.specs.declared.owning.Touch.{Touch}
use Rattle.search_race_free.specs.Wanted.{own_turn}
use Rattle.search_race_free.specs.Owned.{OwnsByte, Within, IsSafe}
use Rattle.search_race_free.proofs.Moving.{AreApart}
use Rattle.search_race_free.proofs.Racing.{conflict-swap, plain-race}

-- More touches own more.
pub within-more : (before after : List Touch) (t : ℕ) (a : NextAccess) → ((x : Touch) → x.thread ≡ t → Contains before x → Contains after x)
    → Within before t a → Within after t a
within-more before after t a grows h byte has =
    let o = h byte has in
    record { touch = o.touch; among = grows o.touch o.is o.among; is = o.is; plain = o.plain; has = o.has; writes = o.writes }

-- A turn of its own touches nothing.
pub own-within : (owned : List Touch) (t : ℕ) → Within owned t own_turn
own-within owned t byte has = let a = has.0 in let b = has.1 in absurd (omega (arith, a, b))

-- A plain touch of the thread with which the access conflicts too.
pub record Struck (owned : List Touch) (a : NextAccess) (u : ℕ) : Type 0 where
  pub touch : Touch
  pub among : Contains owned touch
  pub is : touch.thread ≡ u
  pub plain : IsPlain touch.access
  pub conflict : Conflict a touch.access

pub struck : (owned : List Touch) (a b : NextAccess) (u : ℕ) → Conflict a b → Within owned u b → Struck owned a u
struck owned a b u c within =
    let m = c.meet in
    let o = within m.0 m.1.1 in
    record { touch = o.touch; among = o.among; is = o.is; plain = o.plain; conflict = record { meet = (m.0, (m.1.0, o.has)); write = by o c.write } }
  where
    by : (o : OwnsByte owned u c.meet.0 (b.writes ≡ true)) → (a.writes ≡ true) ⊎ (b.writes ≡ true) → (a.writes ≡ true) ⊎ (o.touch.access.writes ≡ true)
    by o (inl h) = inl h
    by o (inr h) = inr (o.writes h)

module _ {X T E V A : Type 0} (s : System X T E V A) (accesses : X → T → E → NextAccess) (owned : List Touch) (z : State X T)
    (safe : IsSafe s accesses owned z) where
  pub within-apart : AreApart (Within owned)
  within-apart t u e f d own_e own_f c =
      let y = struck owned f e t c own_e in
      let x = struck owned y.touch.access f u (conflict-swap f y.touch.access y.conflict) own_f in
      safe.apart y.touch x.touch y.among x.among (λ q. d (sym x.is ∙ (sym q ∙ y.is)))
      (plain-race y.touch.access x.touch.access y.plain x.conflict)
