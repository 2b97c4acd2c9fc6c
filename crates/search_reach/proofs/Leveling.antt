-- How many levels are complete.
use Rattle.std.specs.Prelude.{◌≡◌, ◌<◌, ◌≤◌, ◌⊎◌, ℕ, zero, suc, Bool, true, List, length, Option, Some, None}
use Rattle.std.proofs.Common.{ap, subst, sym, ◌∙◌, inl, inr, arith}
use Rattle.std.specs.List.{slice_get}
use Rattle.std.specs.Option.{IfSome}
use Rattle.std.proofs.lemmas.Option.{slice_get_within, slice_get-get_or}
use Rattle.search_graph.specs.declared.graph.Move.{Move}
use Rattle.search_reach.specs.Search.{StepSystem, StandsFor, Covers, StaysIn, LeadsOn, AllEnds}
use Rattle.search_reach.specs.Explored.{IsGoneOn, ExploredTo}
use Rattle.search_reach.specs.Levels.{Comes, CoversBelow, HasLevels, HasEndsWithin, HasGoneThrough}
use Rattle.search_reach.proofs.Searching.{Begins, get_longer, here}
use Rattle.search_reach.proofs.Graphing.{move_to}

module _ {S W E : Type 0} (k : StepSystem S W E) where
  -- the same of more states
  pub levels-longer : (ks ls : List S) (levels end : ℕ) → Begins ks ls → HasLevels k ks levels end → HasLevels k ls levels end
  levels-longer ks ls levels end begins has quiet so w z steps b path =
      let c = has quiet so w z steps b path in
      record { at = c.at; state = c.state; below = c.below; there = get_longer ks ls c.at c.state begins c.there; is = c.is }

  -- of some states it is so of all
  pub levels-all : (ks : List S) (levels end : ℕ) → end ≤ length ks → HasLevels k ks levels end → HasLevels k ks levels (length ks)
  levels-all ks levels end inside has quiet so w z steps b path =
      let c = has quiet so w z steps b path in
      let below = c.below in
      record { at = c.at; state = c.state; below = omega (arith, below, inside); there = c.there; is = c.is }

  covered-below : (ks : List S) (w : W) → Covers k ks w → CoversBelow k ks (length ks) w
  covered-below ks w c = record {
    at = c.among.0;
    state = c.state;
    below = c.among.1;
    there = slice_get-get_or ks c.among.0 c.state c.among.1 ∙ ap Some c.among.2;
    is = c.is;
  }

  module _ (eq : S → S → Bool) (same : (x y : S) → eq x y ≡ true → (w : W) (left : ℕ → ℕ) → k.stands x w left → k.stands y w left)
      (ks : List S) (moves : List Move) (i : ℕ) (e : ExploredTo k eq ks moves i) where
    -- a step from what a state stands for that was gone on from
    next-covered : (j : ℕ) (s : S) → j < i → slice_get ks j ≡ Some s → (w z : W) (n : ℕ) → StandsFor k s w → k.worlds.steps n w z
        → CoversBelow k ks (length ks) z
    next-covered j s low at w z n st step = by ((g.are).orderly.idles w z n st step)
      where
        g : IsGoneOn k eq ks moves j s
        g = e.gone_on j s low at

        stay : StandsFor k s z → CoversBelow k ks (length ks) z
        stay is = record { at = j; state = s; below = slice_get_within ks j s at; there = at; is = is }

        go : StaysIn k s n z st.0 ⊎ LeadsOn k g.next n z st.0 → CoversBelow k ks (length ks) z
        go (inl r) = stay (r.after, r.is)
        go (inr r) =
            let m = move_to k eq ks moves same j s g r.next r.among in
            record {
              at = m.to;
              state = m.state;
              below = slice_get_within ks m.to m.state m.at;
              there = m.at;
              is = (r.after, m.alike z r.after r.is);
            }

        by : k.worlds.can w n ⊎ (z ≡ w) → CoversBelow k ks (length ks) z
        by (inl can) = go ((g.are).step w z st.0 n st.1 can step)
        by (inr back) = stay (subst (λ v. StandsFor k s v) (sym back) st)

    module _ (quiet : W → ℕ → Bool) (so : (s : S) (w z : W) (n : ℕ) → StandsFor k s w → quiet w n ≡ true → k.worlds.steps n w z → StandsFor k s z)
        (w : W) (begins : k.begins w) where
      still : (v z : W) (n : ℕ) → quiet v n ≡ true → k.worlds.steps n v z → CoversBelow k ks (length ks) v → CoversBelow k ks (length ks) z
      still v z n silent step c =
          record { at = c.at; state = c.state; below = c.below; there = c.there; is = so c.state v z n c.is silent step }

      -- by quiet steps alone
      none : (steps : ℕ) (z : W) → Comes k.worlds quiet steps 0 w z → CoversBelow k ks (length ks) z
      none zero z path = subst (λ v. CoversBelow k ks (length ks) v) path (covered-below ks w (e.begun w begins))
      none (suc steps) z path = by path.3 (λ p. none steps path.0 p)
        where
          by : ((quiet path.0 path.1 ≡ true) × Comes k.worlds quiet steps 0 w path.0) ⊎ ((less : ℕ) × (0 ≡ suc less) × Comes k.worlds quiet steps less w path.0)
              → (Comes k.worlds quiet steps 0 w path.0 → CoversBelow k ks (length ks) path.0) → CoversBelow k ks (length ks) z
          by (inl silent) rest = still path.0 z path.1 silent.0 path.2 (rest silent.1)
          by (inr loud) rest = absurd (let no = loud.1 in omega (arith, no))

      -- and by one more that isn't
      more : (levels end : ℕ) → end ≤ i → HasLevels k ks levels end → (steps : ℕ) (z : W) → Comes k.worlds quiet steps (suc levels) w z
          → CoversBelow k ks (length ks) z
      more levels end past has zero z path = subst (λ v. CoversBelow k ks (length ks) v) path (covered-below ks w (e.begun w begins))
      more levels end past has (suc steps) z path = by path.3 (λ p. more levels end past has steps path.0 p)
        where
          by : ((quiet path.0 path.1 ≡ true) × Comes k.worlds quiet steps (suc levels) w path.0)
              ⊎ ((less : ℕ) × (suc levels ≡ suc less) × Comes k.worlds quiet steps less w path.0)
              → (Comes k.worlds quiet steps (suc levels) w path.0 → CoversBelow k ks (length ks) path.0) → CoversBelow k ks (length ks) z
          by (inl silent) rest = still path.0 z path.1 silent.0 path.2 (rest silent.1)
          by (inr loud) rest =
              let is : loud.0 ≡ levels = (let one = loud.1 in omega (arith, one)) in
              let c = has quiet so w path.0 steps begins (subst (λ (n : ℕ). Comes k.worlds quiet steps n w path.0) is loud.2) in
              let low = c.below in
              next-covered c.at c.state (omega (arith, low, past)) c.there path.0 z path.1 c.is path.2

    pub levels-none : HasLevels k ks 0 (length ks)
    levels-none quiet so w z steps b path = none quiet so w b steps z path

    pub levels-more : (levels end : ℕ) → end ≤ i → HasLevels k ks levels end → HasLevels k ks (suc levels) (length ks)
    levels-more levels end past has quiet so w z steps b path = more quiet so w b levels end past has steps z path

  -- the endings of what was met
  pub ends-within : (eq : E → E → Bool) (ks : List S) (es : List E) (levels : ℕ) → HasLevels k ks levels (length ks) → AllEnds k eq ks es
      → HasEndsWithin k eq es levels
  ends-within eq ks es levels has all quiet so w z steps e b path ends =
      let c = has quiet so w z steps b path in
      all c.state (here ks c.at c.state c.there) z e c.is ends

  pub gone-within : (eq : E → E → Bool) (ks : List S) (es : List E) (levels : Option ℕ) → HasGoneThrough k ks levels → AllEnds k eq ks es
      → IfSome levels (HasEndsWithin k eq es)
  gone-within eq ks es None has all = tt
  gone-within eq ks es (Some n) has all = ends-within eq ks es n has all
