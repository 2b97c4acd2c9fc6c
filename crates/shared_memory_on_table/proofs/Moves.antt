-- Each move of the seats keeps the rule, whatever the words are of the history.
use Rattle.std.proofs.Common.{◌≡◌, ℕ, zero, suc, ◌+◌, ◌-◌, ◌<◌, Bool, false, List, [], ◌∷◌, set, get_or, refl, sym, ap, ◌∙◌, subst, arith}
use Rattle.atomic_table.specs.Table.{Me, keeps, Allows, Splits, Joins}
use Rattle.types.specs.declared.event.Entry.{Entry}
use Rattle.types.specs.declared.limits.TheConstants.{SEATS}
use Rattle.shared_memory_on_table.specs.declared.view.Caller.{Caller}
use Rattle.shared_memory_on_table.specs.declared.view.View.{View}
use Rattle.shared_memory_on_table.specs.Callers.{one_if, fresh, fresh_from}
use Rattle.shared_memory_on_table.specs.Moves.{IsOne, caller_in, alone, nobody, others_stay, first_goes, together, met, MeetsAs}
use Rattle.shared_memory_on_table.specs.Rule.{Kept}
use Rattle.shared_memory_on_table.proofs.Seating.{seated-split, seated-join, seated-meet}

abbrev L : Type 0
L = List Entry

abbrev M : Type 0
M = Me ℕ View

-- a word is set to what it was
pub set_back : (ws : List ℕ) (i : ℕ) → set ws i (get_or ws i 0) ≡ ws
set_back [] i = refl
set_back (w ∷ ws) zero = refl
set_back (w ∷ ws) (suc i) = ap (λ (l : List ℕ). w ∷ l) (set_back ws i)

abbrev two : Caller → Caller → View
two a b = record { keeps = false; log = []; callers = a ∷ b ∷ [] }

module _ (has_keeper : Bool) (agree : L → List ℕ → Type 0) where
  pub splits : (id : ℕ) (v : View) → Splits (Kept has_keeper agree) id v (others_stay v) (first_goes v)
  splits id v s r at = record {
    log = r.log;
    words = r.words;
    seated = seated-split (one_if has_keeper) r.log s.views id v r.seated at;
  }

  pub joins : (id : ℕ) (v : View) (other : ℕ) (w : View) → Joins (Kept has_keeper agree) id v other w (together v w) nobody
  joins id v other w s r at apart there = record {
    log = r.log;
    words = r.words;
    seated = seated-join (one_if has_keeper) r.log s.views id v other w r.seated at apart there;
  }

  meets_at : (slots id : ℕ) (held : List (ℕ × ℕ)) (a b : Caller)
      → Allows (Kept has_keeper agree) slots id (two a b, held) 0 (λ n. n) (λ n x. MeetsAs (two a b, held) x)
  meets_at slots id held a b s r _ at _ =
      let m = seated-meet (one_if has_keeper) r.log s.views id (two a b) a b r.seated at refl in
      let words : agree r.log (set s.words 0 (get_or s.words 0 0)) = subst (λ (ws : List ℕ). agree r.log ws) (sym (set_back s.words 0)) r.words in
      (met (two a b), keeps, tt, record { log = r.log; words = words; seated = m.0 }, (refl, refl, (m.1, m.2)))

  -- a meeting of two callers on one seat: a load of the first word
  pub meets : (slots id : ℕ) (me : M) (a b : Caller) → me.0 ≡ two a b → Allows (Kept has_keeper agree) slots id me 0 (λ n. n) (λ n x. MeetsAs me x)
  meets slots id me a b is =
      subst (λ (v : View). Allows (Kept has_keeper agree) slots id (v, me.1) 0 (λ n. n) (λ n x. MeetsAs (v, me.1) x)) (sym is)
      (meets_at slots id me.1 a b)

-- two callers on one seat
pub both_on : (a b : M) → IsOne a → IsOne b → together a.0 (first_goes b.0) ≡ two (caller_in b.0) (caller_in a.0)
both_on a b is_a is_b =
    ap (λ (v : View). together v (first_goes b.0)) (ap (λ (x : M). x.0) is_a)
    ∙ ap (λ (v : View). together (alone (caller_in a.0)) (first_goes v)) (ap (λ (x : M). x.0) is_b)

pub is_one : (m : M) (x : Caller) → m ≡ (alone x, []) → IsOne m
is_one m x e = subst (λ (k : M). IsOne k) (sym e) refl

-- the seats that are still to be dealt, from a name on
pub next_fresh : (n : ℕ) → n < SEATS → fresh_from (SEATS - n) n ≡ fresh n ∷ fresh_from (SEATS - (n + 1)) (n + 1)
next_fresh n h = let e : SEATS - n ≡ suc (SEATS - (n + 1)) = omega arith in ap (λ (k : ℕ). fresh_from k n) e
