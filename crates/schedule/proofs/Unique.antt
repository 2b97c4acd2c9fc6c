-- A thread's end is fixed by its acts and its lost tries.
use Rattle.std.proofs.Common.{◌≡◌, true, false, List, [], ◌∷◌, sym, ◌∙◌, ap, subst, Option, Some, None}
use Rattle.schedule.proofs.Standing.{Facts, tries}
use Rattle.schedule.specs.System.{Act, Act.Heard, Act.Made, Step, Step.Acts, Step.Full, Step.Lost, Step.Own, System, Want.Calls}
use Rattle.schedule.specs.ThreadRun.{IsThreadRun, after_step}

module _ {X T E V A : Type 0} (s : System X T E V A) (laws : Facts s) where
  -- who wants to leave, and neither loses nor fills, leaves
  leaves_first : (r : List (Step E V A)) (t end : T) → s.wants t ≡ Calls laws.leave → s.may_lose t ≡ false → (s.may_fill t ≡ true → ⊥) → IsThreadRun s t r end
      → (v : V) × (later : List (Option (Act E V A))) × (tries r ≡ Some (Made laws.leave v) ∷ later)
  leaves_first [] t end h no_lose no_fill l = absurd (cc (h, l.0))
  leaves_first (Own ∷ r) t end h no_lose no_fill l = absurd (cc (h, l.0))
  leaves_first (Lost y ∷ r) t end h no_lose no_fill l = absurd (cc (no_lose, l.0.1))
  leaves_first (Full y ∷ r) t end h no_lose no_fill l = absurd (no_fill l.0.1)
  leaves_first (Acts (Made e v) ∷ r) t end h no_lose no_fill l =
      let same : e ≡ laws.leave = cc (h, l.0) in
      (v, tries r, ap (λ z. Some (Made z v) ∷ tries r) same)
  leaves_first (Acts (Heard a) ∷ r) t end h no_lose no_fill l = absurd (cc (h, l.0))

  full_first : (r : List (Step E V A)) (t end : T) → s.may_fill t ≡ true → IsThreadRun s (s.full t) r end
      → (v : V) × (later : List (Option (Act E V A))) × (tries r ≡ Some (Made laws.leave v) ∷ later)
  full_first r t end h l = leaves_first r (s.full t) end (laws.full_leaves t h) (laws.full_loses t h)
      (λ k. laws.leave_fills (s.full t) k (laws.full_leaves t h)) l

  full_not_lost : (r : List (Step E V A)) (t end : T) (o : List (Option (Act E V A))) → s.may_fill t ≡ true
      → IsThreadRun s (s.full t) r end → tries r ≡ None ∷ o → ⊥
  full_not_lost r t end o h l e = let k = full_first r t end h l in cc (k.2, e)

  full_not_did : (r : List (Step E V A)) (t end : T) (e : E) (v : V) (o : List (Option (Act E V A))) → s.may_fill t ≡ true → IsThreadRun s (s.full t) r end
      → s.wants t ≡ Calls e → tries r ≡ Some (Made e v) ∷ o → ⊥
  full_not_did r t end e v o h l want is =
      let k = full_first r t end h l in
      let same : e ≡ laws.leave = cc (k.2, is) in
      laws.leave_fills t h (want ∙ ap (λ z. Calls z) same)

  pub unique : (r r' : List (Step E V A)) (t end end' : T) → IsThreadRun s t r end → IsThreadRun s t r' end' → tries r ≡ tries r' → end ≡ end'
  unique [] [] t end end' l l' e = sym l.1 ∙ l'.1
  unique [] (Own ∷ r') t end end' l l' e = absurd (cc (l.0, l'.0))
  unique [] (Lost y' ∷ r') t end end' l l' e = absurd (cc)
  unique [] (Full y' ∷ r') t end end' l l' e = absurd (cc (laws.gone_fill t l.0, l'.0.1))
  unique [] (Acts a ∷ r') t end end' l l' e = absurd (cc)
  unique (Own ∷ r) [] t end end' l l' e = absurd (cc (l.0, l'.0))
  unique (Own ∷ r) (Own ∷ r') t end end' l l' e = unique r r' (s.own_turn t) end end' l.1 l'.1 e
  unique (Own ∷ r) (Lost y' ∷ r') t end end' l l' e = absurd (laws.lose_turns t l'.0.1 l.0)
  unique (Own ∷ r) (Full y' ∷ r') t end end' l l' e = absurd (laws.fill_turns t l'.0.1 l.0)
  unique (Own ∷ r) (Acts (Made x v) ∷ r') t end end' l l' e = absurd (cc (l.0, l'.0))
  unique (Own ∷ r) (Acts (Heard a) ∷ r') t end end' l l' e = absurd (cc (l.0, l'.0))
  unique (Lost y ∷ r) [] t end end' l l' e = absurd (cc)
  unique (Lost y ∷ r) (Own ∷ r') t end end' l l' e = absurd (laws.lose_turns t l.0.1 l'.0)
  unique (Lost y ∷ r) (Lost y' ∷ r') t end end' l l' e = let k : tries r ≡ tries r' = cc in unique r r' (s.lost t) end end' l.1 l'.1 k
  unique (Lost y ∷ r) (Full y' ∷ r') t end end' l l' e = absurd (full_not_lost r' t end' (tries r) l'.0.1 l'.1 (sym e))
  unique (Lost y ∷ r) (Acts a ∷ r') t end end' l l' e = absurd (cc)
  unique (Full y ∷ r) [] t end end' l l' e = absurd (cc (laws.gone_fill t l'.0, l.0.1))
  unique (Full y ∷ r) (Own ∷ r') t end end' l l' e = absurd (laws.fill_turns t l.0.1 l'.0)
  unique (Full y ∷ r) (Lost y' ∷ r') t end end' l l' e = absurd (full_not_lost r t end (tries r') l.0.1 l.1 e)
  unique (Full y ∷ r) (Full y' ∷ r') t end end' l l' e = unique r r' (s.full t) end end' l.1 l'.1 e
  unique (Full y ∷ r) (Acts (Made x v) ∷ r') t end end' l l' e = absurd (full_not_did r t end x v (tries r') l.0.1 l.1 l'.0 e)
  unique (Full y ∷ r) (Acts (Heard a) ∷ r') t end end' l l' e = absurd (cc (laws.awaits_fill t l'.0, l.0.1))
  unique (Acts a ∷ r) [] t end end' l l' e = absurd (cc)
  unique (Acts (Made x v) ∷ r) (Own ∷ r') t end end' l l' e = absurd (cc (l.0, l'.0))
  unique (Acts (Heard a) ∷ r) (Own ∷ r') t end end' l l' e = absurd (cc (l.0, l'.0))
  unique (Acts a ∷ r) (Lost y' ∷ r') t end end' l l' e = absurd (cc)
  unique (Acts (Made x v) ∷ r) (Full y' ∷ r') t end end' l l' e = absurd (full_not_did r' t end' x v (tries r) l'.0.1 l'.1 l.0 (sym e))
  unique (Acts (Heard a) ∷ r) (Full y' ∷ r') t end end' l l' e = absurd (cc (laws.awaits_fill t l.0, l'.0.1))
  unique (Acts a ∷ r) (Acts b ∷ r') t end end' l l' e =
      let same : a ≡ b = cc in
      let k : tries r ≡ tries r' = cc in
      unique r r' (after_step s t (Acts a)) end end' l.1 (subst (λ z. IsThreadRun s (after_step s t (Acts z)) r' end') (sym same) l'.1) k
