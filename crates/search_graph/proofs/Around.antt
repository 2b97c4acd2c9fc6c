-- A walk that comes back to where it began, made again and again, is a run.
use Rattle.std.specs.Prelude.{◌≡◌, ◌<◌, ◌≤◌, ◌+◌, ◌-◌, ◌%◌, ◌⊎◌, ℕ, zero, suc, Bool, true, false, cond, nat_lt, Some, List, All, Contains, length, refl}
use Rattle.std.proofs.Common.{ap, subst, sym, ◌∙◌, inl, inr, arith}
use Rattle.std.proofs.Math.Nat.{mod_self, suc-mod}
use Rattle.std.proofs.lemmas.Bool.{cases_lt}
use Rattle.std.proofs.lemmas.List.Elements.{All-get_or}
use Rattle.std.proofs.lemmas.List.{get_or_default}
use Rattle.std.proofs.lemmas.Nat.{mod-mul-add}
use lib.ListN.{get_or}
use borrow.Author.Tests.{ltb-true, ltb-false}
use Rattle.search_graph.specs.declared.graph.Move.{Move}
use Rattle.search_graph.specs.Graph.{Moves, CanMove, move_at}
use Rattle.search_graph.specs.Round.{moves_at, came, IsRound, GetsTurnIn, IsFairRound}
use Rattle.search_graph.specs.Runs.{Run, GetsTurn, IsFair, HasFairCycle}
use Rattle.search_graph.proofs.Having.{decide}
use Rattle.search_graph.proofs.Checked.{among-moves}

small : (b w : ℕ) → b < w → b % w ≡ b
small b w h = ap (λ n. n % w) (omega arith) ∙ mod-mul-add 0 w b h

module _ (moves : List Move) (start : ℕ) (walk : List Move) (round : IsRound start walk) (among : All (Contains moves) walk) where
  -- The index of the next move of the walk.
  abbrev after : ℕ → ℕ
  after p = cond (nat_lt (suc p) (length walk)) (suc p) 0

  -- The index at a moment.
  abbrev place : ℕ → ℕ
  place zero = 0
  place (suc k) = after (place k)

  after-next : (p : ℕ) → suc p < length walk → after p ≡ suc p
  after-next p h = by (nat_lt (suc p) (length walk)) refl
    where
      by : (b : Bool) → nat_lt (suc p) (length walk) ≡ b → cond b (suc p) 0 ≡ suc p
      by true e = refl
      by false e = absurd (omega (arith, ltb-false (suc p) (length walk) e))

  after-last : (p : ℕ) → length walk ≤ suc p → after p ≡ 0
  after-last p h = by (nat_lt (suc p) (length walk)) refl
    where
      by : (b : Bool) → nat_lt (suc p) (length walk) ≡ b → cond b (suc p) 0 ≡ 0
      by true e = absurd (omega (arith, ltb-true (suc p) (length walk) e))
      by false e = refl

  within : (k : ℕ) → place k < length walk
  within zero = round.some
  within (suc k) = by (cases_lt (suc (place k)) (length walk))
    where
      by : (suc (place k) < length walk) ⊎ (length walk ≤ suc (place k)) → after (place k) < length walk
      by (inl h) = omega (arith, after-next (place k) h)
      by (inr h) = omega (arith, after-last (place k) h, round.some)

  begins : (move_at walk 0).from ≡ start
  begins = round.joined 0 round.some

  -- Each move leads to where the next one is from.
  leads : (p : ℕ) → p < length walk → (move_at walk p).next ≡ (move_at walk (after p)).from
  leads p l = by (cases_lt (suc p) (length walk))
    where
      by : (suc p < length walk) ⊎ (length walk ≤ suc p) → (move_at walk p).next ≡ (move_at walk (after p)).from
      by (inl h) = sym (round.joined (suc p) h) ∙ ap (λ q. (move_at walk q).from) (sym (after-next p h))
      by (inr h) =
          let all : suc p ≡ length walk = omega arith in
          ap (came start walk) all ∙ round.closed ∙ sym begins ∙ ap (λ q. (move_at walk q).from) (sym (after-last p h))

  -- It is what is left of the moment by the walk's length.
  counted : (p k : ℕ) → p < length walk → p ≡ k % length walk → after p ≡ suc k % length walk
  counted p k l e = by (cases_lt (suc p) (length walk))
    where
      up : suc k % length walk ≡ suc p % length walk
      up = suc-mod k (length walk) ∙ ap (λ r. suc r % length walk) (sym e)

      by : (suc p < length walk) ⊎ (length walk ≤ suc p) → after p ≡ suc k % length walk
      by (inl h) = after-next p h ∙ (sym (small (suc p) (length walk) h) ∙ sym up)
      by (inr h) =
          let all : suc p ≡ length walk = omega arith in
          after-last p h ∙ (sym (ap (λ n. n % length walk) all ∙ mod_self (length walk)) ∙ sym up)

  counts : (k : ℕ) → place k ≡ k % length walk
  counts zero = sym (small 0 (length walk) round.some)
  counts (suc k) = counted (place k) k (within k) (counts k)

  goes : (k : ℕ) → Moves moves (move_at walk (place k)).from (move_at walk (place k)).thread (move_at walk (place (suc k))).from
  goes k =
      subst (λ z. Moves moves (move_at walk (place k)).from (move_at walk (place k)).thread z) (leads (place k) (within k))
      (All-get_or (Contains moves) walk (place k) (record { from = 0; thread = 0; next = 0 }) (within k) among)

  abbrev around : Run moves
  around = record { at = λ k. (move_at walk (place k)).from; by = λ k. Some ((move_at walk (place k)).thread); turns = goes }

  -- From any moment on it comes to its first move.
  to-first : (left k : ℕ) → place k + suc left ≡ length walk → (j : ℕ) × (k ≤ j) × (place j ≡ 0)
  to-first zero k e = (suc k, omega arith, after-last (place k) (omega arith))
  to-first (suc left) k e =
      let n : place (suc k) ≡ suc (place k) = after-next (place k) (omega arith) in
      let r = to-first left (suc k) (omega arith) in
      (r.0, omega (arith, r.1), r.2)

  -- And from there to each.
  to-each : (i j : ℕ) → place j ≡ 0 → i < length walk → (m : ℕ) × (j ≤ m) × (place m ≡ i)
  to-each zero j e h = (j, omega arith, e)
  to-each (suc i) j e h =
      let r = to-each i j e (omega arith) in
      (suc r.0, omega (arith, r.1), ap after r.2 ∙ after-next i h)

  first-from : (k : ℕ) → (j : ℕ) × (k ≤ j) × (place j ≡ 0)
  first-from k = let w = within k in to-first (length walk - suc (place k)) k (omega arith)

  module _ (turns : (t : ℕ) → CanMove moves start t → GetsTurnIn moves walk t) where
    fair : IsFair moves around
    fair k t h = by (decide moves start t)
      where
        f : (j : ℕ) × (k ≤ j) × (place j ≡ 0)
        f = first-from k

        is : (m i : ℕ) → place m ≡ i → ((move_at walk i).thread ≡ t) ⊎ (CanMove moves (move_at walk i).from t → ⊥)
            → (around.by m ≡ Some t) ⊎ (CanMove moves (around.at m) t → ⊥)
        is m i e (inl q) = inl (ap (λ p. Some ((move_at walk p).thread)) e ∙ ap Some q)
        is m i e (inr n) = inr (subst (λ p. CanMove moves (move_at walk p).from t → ⊥) (sym e) n)

        turn : (i : ℕ) (m : Move) → i < length walk → m ≡ move_at walk i → (m.thread ≡ t) ⊎ (CanMove moves m.from t → ⊥) → GetsTurn moves around k t
        turn i m l e g =
            let r = to-each i f.0 f.2 l in
            record {
              later = r.0;
              since = omega (arith, f.1, r.1);
              is = is r.0 i r.2 (subst (λ v. (v.thread ≡ t) ⊎ (CanMove moves v.from t → ⊥)) e g);
            }

        at-index : (i : ℕ) (m : Move) → i < length walk → get_or walk i m ≡ m → move_at walk i ≡ m
        at-index i m l e = get_or_default walk i (record { from = 0; thread = 0; next = 0 }) m l ∙ e

        by : CanMove moves start t ⊎ (CanMove moves start t → ⊥) → GetsTurn moves around k t
        by (inl c) =
            let g = turns t c in
            turn g.0 g.1 g.2 (sym (at-index g.0 g.1 g.2 g.3)) g.4
        by (inr n) = record { later = f.0; since = f.1; is = is f.0 0 f.2 (inr (subst (λ s. CanMove moves s t → ⊥) (sym begins) n)) }

    pub fair-cycle : HasFairCycle moves start walk
    fair-cycle = record {
      run = around;
      starts = begins;
      fair = fair;
      makes = λ k. record {
        from = ap (λ p. (move_at walk p).from) (counts k);
        thread = ap (λ p. Some ((move_at walk p).thread)) (counts k);
      };
    }

-- A fair round, made again and again, is a fair run without end.
pub round-cycle : (moves : List Move) (start : ℕ) (indices : List ℕ) → IsFairRound moves start indices → HasFairCycle moves start (moves_at moves indices)
round-cycle moves start indices r = fair-cycle moves start (moves_at moves indices) r.round (among-moves moves indices r.within) r.turns
