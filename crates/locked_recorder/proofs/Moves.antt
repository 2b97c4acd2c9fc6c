-- Each move of the seats keeps the rule.
use Rattle.std.proofs.Common.{◌≡◌, ℕ, true, List, [], ◌∷◌, ◌++◌, set, get_or, refl, sym, ap, ◌∙◌, subst, arith}
use Rattle.atomic_table.specs.Table.{State, Me, keeps, Allows}
use Rattle.types.specs.declared.event.Entry.{Entry}
use Rattle.shared_memory_on_table.specs.declared.view.Caller.{Caller}
use Rattle.shared_memory_on_table.specs.declared.view.View.{View}
use Rattle.shared_memory_on_table.specs.Callers.{AllGoOn, seeing}
use Rattle.shared_memory_on_table.specs.Moves.{IsOne, IsKeeper, caller_in, keeper, first_goes, together}
use Rattle.shared_memory_on_table.specs.Rule.{Kept, opened}
use Rattle.shared_memory_on_table.proofs.GoingOn.{goes_on-self}
use Rattle.shared_memory_on_table.proofs.Seating.{seated-change, seated-push, seated-open}
use Rattle.locked_recorder.specs.Rule.{is_zero, entered, learned, Enters, Learns, MayMake}

abbrev L : Type 0
L = List Entry

abbrev M : Type 0
M = Me ℕ View

-- The recorder's rule.
abbrev Holds : State ℕ View → Type 0
Holds = Kept true is_zero

-- the word stays 0
still : (s : State ℕ View) → s.words ≡ 0 ∷ [] → set s.words 0 (get_or s.words 0 0) ≡ 0 ∷ []
still s e = ap (λ (ws : List ℕ). set ws 0 (get_or ws 0 0)) e

-- the keeper alone knows the log, and its guest enters
enters_at : (slots id : ℕ) (held : List (ℕ × ℕ)) (log : L) (c : Caller) (e : Entry) → MayMake c e
    → Allows Holds slots id (keeper log (c ∷ []), held) 0 (λ n. n) (λ n m. Enters e (keeper log (c ∷ []), held) m)
enters_at slots id held log c e may s r _ at _ =
    let v = keeper log (c ∷ []) in
    let w = entered e v in
    let mine = r.seated.each id v at in
    let same : log ≡ r.log = mine.knows refl in
    let here : log ++ e ∷ [] ≡ r.log ++ e ∷ [] = ap (λ (l : L). l ++ e ∷ []) same in (
      w,
      keeps,
      tt,
      record {
        log = r.log ++ e ∷ [];
        words = still s r.words;
        seated = seated-push 1 r.log s.views id v c e w r.seated at refl may.0 may.1 (omega arith) refl (λ _. here) (ap (λ (l : L). seeing l c ∷ []) here);
      },
      (refl, refl, subst (λ (l : L). AllGoOn (c ∷ []) l) (sym same) mine.begins),
    )

pub enters : (slots id : ℕ) (me : M) (log : L) (c : Caller) (e : Entry) → me.0 ≡ keeper log (c ∷ []) → MayMake c e
    → Allows Holds slots id me 0 (λ n. n) (λ n m. Enters e me m)
enters slots id me log c e is may =
    subst (λ (v : View). Allows Holds slots id (v, me.1) 0 (λ n. n) (λ n m. Enters e (v, me.1) m)) (sym is) (enters_at slots id me.1 log c e may)

learns_at : (slots id : ℕ) (held : List (ℕ × ℕ)) (log : L) (c : Caller)
    → Allows Holds slots id (keeper log (c ∷ []), held) 0 (λ n. n) (λ n m. Learns (keeper log (c ∷ []), held) m)
learns_at slots id held log c s r _ at _ =
    let v = keeper log (c ∷ []) in
    let w = learned v in
    let mine = r.seated.each id v at in
    let same : log ≡ r.log = mine.knows refl in (
      w,
      keeps,
      tt,
      record {
        log = r.log;
        words = still s r.words;
        seated = seated-change 1 r.log s.views id v w r.seated at refl (λ n. refl) refl
            (record { knows = λ _. same; begins = subst (λ (l : L). AllGoOn (seeing log c ∷ []) l) same (goes_on-self (seeing log c), tt) });
      },
      (refl, refl, subst (λ (l : L). AllGoOn (c ∷ []) l) (sym same) mine.begins),
    )

pub learns : (slots id : ℕ) (me : M) (log : L) (c : Caller) → me.0 ≡ keeper log (c ∷ []) → Allows Holds slots id me 0 (λ n. n) (λ n m. Learns me m)
learns slots id me log c is = subst (λ (v : View). Allows Holds slots id (v, me.1) 0 (λ n. n)
    (λ n m. Learns (v, me.1) m)) (sym is) (learns_at slots id me.1 log c)

pub opens : Kept true is_zero (record { words = 0 ∷ []; homes = []; views = opened true ∷ [] })
opens = record { log = []; words = refl; seated = seated-open 1 (opened true) (omega arith) refl refl }

-- a caller on the keeper's seat
pub guest_on : (d m : M) → IsKeeper d → IsOne m → together d.0 (first_goes m.0) ≡ keeper d.0.log (caller_in m.0 ∷ [])
guest_on d m kept one = ap (λ (v : View). together v (first_goes m.0)) (ap (λ (x : M). x.0) kept)
    ∙ ap (λ (v : View). together (keeper d.0.log []) (first_goes v)) (ap (λ (x : M). x.0) one)
