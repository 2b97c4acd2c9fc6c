-- The schedule of a history follows it.
use Rattle.std.proofs.Common.{◌≡◌, ◌≢◌, ℕ, suc, ◌+◌, ◌⊎◌, inl, inr, true, false, List, [], ◌∷◌, ◌++◌, length, refl}
use Rattle.std.proofs.Common.{sym, ◌∙◌, ap, subst, arith, append_assoc, Option, Some, None}
use Rattle.schedule.specs.Histories.{acts_of, next_shared, shared_after}
use Rattle.schedule.specs.System.{Entry, Step, Step.Acts, Step.Full, Step.Lost, Step.Own, System, Want.Calls}
use Rattle.schedule.specs.ThreadRun.{IsGivingUp, IsLeaving, IsLost, IsThreadRun, Laws, acts, after_step, losses}
use Rattle.schedule.specs.Tries.{HasChanges, HasEnough, HasEnoughLater, HasReached, HasRoom, IsChanged, IsFullOnlyAtLimit, SeesAll, TryRules, is_act_exempt}
use Rattle.schedule.proofs.Apart.{if_same, acts_over, acts_here, length_over, shared_over, no_changes, one_more}
use Rattle.schedule.proofs.Apart.{enough_over, later_over, later_by, none_later, full_over, full_by, full_found}
use Rattle.schedule.proofs.Apart.{none_full, HasRoomItself, room_apart, room_over}

module _ {X T E V A W : Type 0} (s : System X T E V A) (rules : TryRules X E W) (n : ℕ) where
  -- what a thread saw, from a point of the history on: after so many entries, with this shared state, of the rest
  abbrev pub Ahead : List (Step E V A) → ℕ → X → List (Entry E V A) → Type 0
  Ahead [] count x H = Unit {0}
  Ahead (Own ∷ r) count x H = Ahead r count x H
  Ahead (Lost e ∷ r) count x H =
      (others : List (Entry E V A)) × (rest : List (Entry E V A)) × (H ≡ others ++ rest) × (acts_of n others ≡ [])
      × (rules.loses ≡ true) × IsChanged s rules x e others × Ahead r (count + length others) (shared_after s x others) rest
  Ahead (Full e ∷ r) count x H =
      (others : List (Entry E V A)) × (rest : List (Entry E V A)) × (H ≡ others ++ rest) × (acts_of n others ≡ [])
      × HasReached rules.limit (count + length others) × Ahead r (count + length others) (shared_after s x others) rest
  Ahead (Acts a ∷ r) count x H =
      (others : List (Entry E V A)) × (behind : List (Entry E V A)) × (rest : List (Entry E V A))
      × (H ≡ others ++ (record { thread = n; act = a } ∷ (behind ++ rest))) × (acts_of n others ≡ []) × (acts_of n behind ≡ [])
      × HasRoom rules.limit (is_act_exempt s rules a) (count + length others)
      × Ahead r (suc (count + length others) + length behind) (shared_after s (next_shared s (shared_after s x others) n a) behind) rest

  ahead_at : (r : List (Step E V A)) (count count' : ℕ) (x x' : X) (H : List (Entry E V A)) → count ≡ count' → x ≡ x' → Ahead r count x H → Ahead r count' x' H
  ahead_at r count count' x x' H c e h = subst (λ z. Ahead r count' z H) e (subst (λ z. Ahead r z x H) c h)

  pub ahead : (first : X) (r : List (Step E V A)) (before last H unseen : List (Entry E V A)) → SeesAll s rules first n before r last → H ≡ last ++ unseen
      → (rest : List (Entry E V A)) × (H ≡ before ++ rest) × Ahead r (length before) (shared_after s first before) rest
  ahead first [] before last H unseen sees is = (unseen, is ∙ ap (λ z. z ++ unseen) (sym sees), tt)
  ahead first (Own ∷ r) before last H unseen sees is =
      let k = ahead first r sees.0 last H unseen sees.2 is in
      let m : (H ≡ before ++ k.0) × Ahead r (length before) (shared_after s first before) k.0 =
      subst (λ z. (H ≡ z ++ k.0) × Ahead r (length z) (shared_after s first z) k.0) sees.1 (k.1, k.2) in
      (k.0, m.0, m.1)
  ahead first (Lost e ∷ r) before last H unseen sees is =
      let k = ahead first r sees.0 last H unseen sees.2 is in
      let lost = sees.1 in (
        lost.others ++ k.0,
        k.1 ∙ (ap (λ z. z ++ k.0) lost.list ∙ append_assoc before lost.others k.0),
        (
          lost.others,
          k.0,
          refl,
          lost.apart,
          lost.may,
          lost.cause,
          ahead_at r (length sees.0) (length before + length lost.others) (shared_after s first sees.0)
              (shared_after s (shared_after s first before) lost.others) k.0
              (ap length lost.list ∙ length_over before lost.others) (ap (shared_after s first) lost.list ∙ shared_over s first before lost.others) k.2,
        ),
      )
  ahead first (Full e ∷ r) before last H unseen sees is =
      let k = ahead first r sees.0 last H unseen sees.2 is in
      let found = sees.1 in
      let count : length sees.0 ≡ length before + length found.others = ap length found.list ∙ length_over before found.others in (
        found.others ++ k.0,
        k.1 ∙ (ap (λ z. z ++ k.0) found.list ∙ append_assoc before found.others k.0),
        (
          found.others,
          k.0,
          refl,
          found.apart,
          subst (HasReached rules.limit) count found.reached,
          ahead_at r (length sees.0) (length before + length found.others) (shared_after s first sees.0)
              (shared_after s (shared_after s first before) found.others) k.0
              count (ap (shared_after s first) found.list ∙ shared_over s first before found.others) k.2,
        ),
      )
  ahead first (Acts a ∷ r) before last H unseen sees is =
      let k = ahead first r sees.0 last H unseen sees.2 is in
      let did = sees.1 in
      let own : Entry E V A = record { thread = n; act = a } in
      let list : sees.0 ≡ before ++ (did.others ++ (own ∷ did.behind)) =
      did.list ∙ (ap (λ z. z ++ (own ∷ did.behind)) did.gains ∙ append_assoc before did.others (own ∷ did.behind)) in
      let to_here : length did.so_far ≡ length before + length did.others = ap length did.gains ∙ length_over before did.others in
      let count : length sees.0 ≡ suc (length before + length did.others) + length did.behind =
      counted (length sees.0) (length before) (length (did.others ++ (own ∷ did.behind))) (length did.others) (length did.behind)
      (ap length list ∙ length_over before (did.others ++ (own ∷ did.behind))) (length_over did.others (own ∷ did.behind)) in
      let at : shared_after s first sees.0 ≡ shared_after s (next_shared s (shared_after s (shared_after s first before) did.others) n a) did.behind =
      ap (shared_after s first) list ∙ (shared_over s first before (did.others ++ (own ∷ did.behind))
      ∙ shared_over s (shared_after s first before) did.others (own ∷ did.behind)) in (
        did.others ++ (own ∷ (did.behind ++ k.0)),
        k.1 ∙ (ap (λ z. z ++ k.0) list ∙ (append_assoc before (did.others ++ (own ∷ did.behind)) k.0
            ∙ ap (λ z. before ++ z) (append_assoc did.others (own ∷ did.behind) k.0))),
        (
          did.others,
          did.behind,
          k.0,
          refl,
          did.apart,
          did.apart_behind,
          subst (λ z. HasRoom rules.limit (is_act_exempt s rules a) z) to_here did.room,
          ahead_at r (length sees.0) (suc (length before + length did.others) + length did.behind) (shared_after s first sees.0)
              (shared_after s (next_shared s (shared_after s (shared_after s first before) did.others) n a) did.behind) k.0 count at k.2,
        ),
      )
    where
      counted : (a b c d e : ℕ) → a ≡ b + c → c ≡ d + suc e → a ≡ suc (b + d) + e
      counted a b c d e h k = omega arith

  -- a try that is lost is one of the same event as the one lost before it
  leaving_loses_none : (leave : E) → ((t : T) → s.may_fill t ≡ true → s.wants t ≡ Calls leave → ⊥)
      → (r : List (Step E V A)) (t end : T) → IsLeaving s leave t → IsThreadRun s t r end
      → (z : E) → IsLost z r → ⊥
  leaving_loses_none leave fills [] t end h run z k = k
  leaving_loses_none leave fills (Own ∷ r) t end h run z k = cc (h.0, run.0)
  leaving_loses_none leave fills (Lost y ∷ r) t end h run z k = cc (h.1, run.0.1)
  leaving_loses_none leave fills (Full y ∷ r) t end h run z k = fills t run.0.1 h.0
  leaving_loses_none leave fills (Acts a ∷ r) t end h run z k = k

  -- none is lost, or one is
  lost_or_none : (r : List (Step E V A)) → (losses r ≡ 0) ⊎ ((z : E) × IsLost z r)
  lost_or_none [] = inl refl
  lost_or_none (Own ∷ r) = lost_or_none r
  lost_or_none (Lost y ∷ r) = inr (y, inl refl)
  lost_or_none (Full y ∷ r) = lost_or_none r
  lost_or_none (Acts a ∷ r) = inl refl

  module _ (laws : Laws s) where
    lost_same : (r : List (Step E V A)) (t end : T) (e z : E) → (s.wants t ≡ Calls e) ⊎ IsGivingUp s laws.leave t → IsThreadRun s t r end → IsLost z r → z ≡ e
    lost_same [] t end e z h run k = absurd k
    lost_same (Own ∷ r) t end e z (inl h) run k = absurd (cc (h, run.0))
    lost_same (Own ∷ r) t end e z (inr h) run k = absurd (leaving_loses_none laws.leave laws.leave_fills r (s.own_turn t) end h.1 run.1 z k)
    lost_same (Lost y ∷ r) t end e z (inl h) run (inl k) = cc (h, run.0.0, k)
    lost_same (Lost y ∷ r) t end e z (inl h) run (inr k) =
        let same : y ≡ e = cc (h, run.0.0) in
        lost_same r (s.lost t) end y z (laws.lost_again t y run.0.1 run.0.0) run.1 k ∙ same
    lost_same (Lost y ∷ r) t end e z (inr h) run k = absurd (cc (h.0, run.0.0))
    lost_same (Full y ∷ r) t end e z (inl h) run k =
        absurd (leaving_loses_none laws.leave laws.leave_fills r (s.full t) end (laws.full_leaves t run.0.1) run.1 z
        k)
    lost_same (Full y ∷ r) t end e z (inr h) run k = absurd (cc (h.0, run.0.0))
    lost_same (Acts a ∷ r) t end e z h run k = absurd k

    -- up to the next act, others change what is touched as often as tries of it are lost
    pub enough : (r : List (Step E V A)) (t end : T) (count : ℕ) (x : X) (H : List (Entry E V A))
        → IsThreadRun s t r end → Ahead r count x H → HasEnough s rules n x H r
    enough [] t end count x H run h = λ e is. absurd is
    enough (Own ∷ r) t end count x H run h = enough r (s.own_turn t) end count x H run.1 h
    enough (Lost y ∷ r) t end count x H run h = λ e is.
        let again : (s.wants (s.lost t) ≡ Calls y) ⊎ IsGivingUp s laws.leave (s.lost t) = laws.lost_again t y run.0.1 run.0.0 in
        let x' : X = shared_after s x h.0 in
        let behind : HasChanges s rules h.1 (losses r) n y x' =
        elim (lost_or_none r) [
          | inl k ↦ subst (λ v. HasChanges s rules h.1 v n y x') (sym k) (no_changes s rules n h.1 y x')
          | inr k ↦ subst (λ v. HasChanges s rules h.1 (losses r) n v x') (lost_same r (s.lost t) end y k.0 again run.1 k.1)
              (enough r (s.lost t) end (count + length h.0) x' h.1 run.1 h.6 k.0 k.1)
        ] in
        let same : y ≡ e = elim is [ inl k ↦ k | inr k ↦ sym (lost_same r (s.lost t) end y e again run.1 k) ] in
        subst (λ v. HasChanges s rules H (suc (losses r)) n v x) same
        (subst (λ v. HasChanges s rules v (suc (losses r)) n y x) (sym h.2) (one_more s rules n h.0 h.1 (losses r) y x h.3 h.5 behind))
    enough (Full y ∷ r) t end count x H run h =
        subst (λ v. HasEnough s rules n x v (Full y ∷ r)) (sym h.2)
        (enough_over s rules n h.0 h.1 x r h.3 (enough r (s.full t) end (count + length h.0) (shared_after s x h.0) h.1 run.1 h.5))
    enough (Acts a ∷ r) t end count x H run h = λ e is. absurd is

    pub enough_later : (r : List (Step E V A)) (t end : T) (count : ℕ) (x : X) (H : List (Entry E V A))
        → IsThreadRun s t r end → Ahead r count x H → HasEnoughLater s rules H n x r
    enough_later [] t end count x H run h = none_later s rules n H x
    enough_later (Own ∷ r) t end count x H run h = later_by s rules n H x r (Own ∷ r) refl (enough_later r (s.own_turn t) end count x H run.1 h)
    enough_later (Lost y ∷ r) t end count x H run h =
        subst (λ v. HasEnoughLater s rules v n x (Lost y ∷ r)) (sym h.2)
        (later_over s rules n h.0 h.1 x (Lost y ∷ r) h.3 (later_by s rules n h.1 (shared_after s x h.0) r (Lost y ∷ r) refl
        (enough_later r (s.lost t) end (count + length h.0) (shared_after s x h.0) h.1 run.1 h.6)))
    enough_later (Full y ∷ r) t end count x H run h =
        subst (λ v. HasEnoughLater s rules v n x (Full y ∷ r)) (sym h.2)
        (later_over s rules n h.0 h.1 x (Full y ∷ r) h.3 (later_by s rules n h.1 (shared_after s x h.0) r (Full y ∷ r) refl
        (enough_later r (s.full t) end (count + length h.0) (shared_after s x h.0) h.1 run.1 h.5)))
    enough_later (Acts a ∷ r) t end count x H run h =
        let x' : X = shared_after s x h.0 in
        let y : X = next_shared s x' n a in
        let c : ℕ = suc (count + length h.0) + length h.1 in
        let t' : T = after_step s t (Acts a) in
        let here : HasEnough s rules n y (h.1 ++ h.2) r = enough_over s rules n h.1 h.2 y r h.5 (enough r t' end c (shared_after s y h.1) h.2 run.1 h.7) in
        let later : HasEnoughLater s rules (h.1 ++ h.2) n y r =
        later_over s rules n h.1 h.2 y r h.5 (enough_later r t' end c (shared_after s y h.1) h.2 run.1 h.7) in
        subst (λ v. HasEnoughLater s rules v n x (Acts a ∷ r)) (sym h.3)
        (later_over s rules n h.0 (record { thread = n; act = a } ∷ (h.1 ++ h.2)) x (Acts a ∷ r) h.4
        (if_same n n (HasEnough s rules n y (h.1 ++ h.2) r × HasEnoughLater s rules (h.1 ++ h.2) n y r)
        (HasEnoughLater s rules (h.1 ++ h.2) n y (Acts a ∷ r)) refl (here, later)))

  pub full_at_limit : (r : List (Step E V A)) (count : ℕ) (x : X) (H : List (Entry E V A)) → Ahead r count x H → IsFullOnlyAtLimit s rules H n count r
  full_at_limit [] count x H h = none_full s rules n H count
  full_at_limit (Own ∷ r) count x H h = full_by s rules n H count r (Own ∷ r) refl refl (full_at_limit r count x H h)
  full_at_limit (Lost y ∷ r) count x H h =
      subst (λ v. IsFullOnlyAtLimit s rules v n count (Lost y ∷ r)) (sym h.2)
      (full_over s rules n h.0 h.1 count (Lost y ∷ r) h.3 (full_by s rules n h.1 (count + length h.0) r (Lost y ∷ r) refl refl
      (full_at_limit r (count + length h.0) (shared_after s x h.0) h.1 h.6)))
  full_at_limit (Full y ∷ r) count x H h =
      subst (λ v. IsFullOnlyAtLimit s rules v n count (Full y ∷ r)) (sym h.2)
      (full_over s rules n h.0 h.1 count (Full y ∷ r) h.3 (full_found s rules n h.1 (count + length h.0) r (Full y ∷ r) h.4 refl
      (full_at_limit r (count + length h.0) (shared_after s x h.0) h.1 h.5)))
  full_at_limit (Acts a ∷ r) count x H h =
      let c : ℕ = count + length h.0 in
      let y : X = shared_after s (next_shared s (shared_after s x h.0) n a) h.1 in
      let later : IsFullOnlyAtLimit s rules (h.1 ++ h.2) n (suc c) r =
      full_over s rules n h.1 h.2 (suc c) r h.5 (full_at_limit r (suc c + length h.1) y h.2 h.7) in
      subst (λ v. IsFullOnlyAtLimit s rules v n count (Acts a ∷ r)) (sym h.3)
      (full_over s rules n h.0 (record { thread = n; act = a } ∷ (h.1 ++ h.2)) count (Acts a ∷ r) h.4
      (if_same n n ((false ≡ true → HasReached rules.limit c) × IsFullOnlyAtLimit s rules (h.1 ++ h.2) n (suc c) r)
      (IsFullOnlyAtLimit s rules (h.1 ++ h.2) n (suc c) (Acts a ∷ r)) refl
      ((λ z. absurd (cc (z))), later)))

  pub room_itself : (r : List (Step E V A)) (count : ℕ) (x : X) (H : List (Entry E V A)) → Ahead r count x H
      → acts r ≡ acts_of n H → HasRoomItself s rules n H count
  room_itself [] count x H h e = room_apart s rules n H count (sym e)
  room_itself (Own ∷ r) count x H h e = room_itself r count x H h e
  room_itself (Lost y ∷ r) count x H h e =
      subst (λ v. HasRoomItself s rules n v count) (sym h.2)
      (room_over s rules n h.0 h.1 count h.3 (room_itself r (count + length h.0)
      (shared_after s x h.0) h.1 h.6 (e ∙ (ap (acts_of n) h.2 ∙ acts_over n h.0 h.1 h.3))))
  room_itself (Full y ∷ r) count x H h e =
      subst (λ v. HasRoomItself s rules n v count) (sym h.2)
      (room_over s rules n h.0 h.1 count h.3 (room_itself r (count + length h.0)
      (shared_after s x h.0) h.1 h.5 (e ∙ (ap (acts_of n) h.2 ∙ acts_over n h.0 h.1 h.3))))
  room_itself (Acts a ∷ r) count x H h e =
      let c : ℕ = count + length h.0 in
      let own : Entry E V A = record { thread = n; act = a } in
      let y : X = shared_after s (next_shared s (shared_after s x h.0) n a) h.1 in
      let both : a ∷ acts r ≡ a ∷ acts_of n h.2 =
      e ∙ (ap (acts_of n) h.3 ∙ (acts_over n h.0 (own ∷ (h.1 ++ h.2)) h.4 ∙ (acts_here n a (h.1 ++ h.2) ∙ ap (λ z. a ∷ z) (acts_over n h.1 h.2 h.5)))) in
      let left : acts r ≡ acts_of n h.2 = cc (both) in
      let later : HasRoomItself s rules n (h.1 ++ h.2) (suc c) = room_over s rules n h.1 h.2 (suc c) h.5 (room_itself r (suc c + length h.1) y h.2 h.7 left) in
      subst (λ v. HasRoomItself s rules n v count) (sym h.3)
      (room_over s rules n h.0 (own ∷ (h.1 ++ h.2)) count h.4
      (if_same n n (HasRoom rules.limit (is_act_exempt s rules a) c × HasRoomItself s rules n (h.1 ++ h.2) (suc c))
      (HasRoomItself s rules n (h.1 ++ h.2) (suc c)) refl (h.6, later)))

  -- lost tries and full logs are where they can be
  abbrev pub StepsMay : List (Step E V A) → Type 0
  StepsMay [] = Unit {0}
  StepsMay (Own ∷ r) = StepsMay r
  StepsMay (Lost e ∷ r) = (rules.loses ≡ true) × StepsMay r
  StepsMay (Full e ∷ r) = (rules.limit ≢ None) × StepsMay r
  StepsMay (Acts a ∷ r) = StepsMay r

  has_limit : (limit : Option ℕ) (count : ℕ) → HasReached limit count → limit ≢ None
  has_limit None count h = absurd h
  has_limit (Some l) count h = λ e. cc (e)

  pub steps_may : (r : List (Step E V A)) (count : ℕ) (x : X) (H : List (Entry E V A)) → Ahead r count x H → StepsMay r
  steps_may [] count x H h = tt
  steps_may (Own ∷ r) count x H h = steps_may r count x H h
  steps_may (Lost e ∷ r) count x H h = (h.4, steps_may r (count + length h.0) (shared_after s x h.0) h.1 h.6)
  steps_may (Full e ∷ r) count x H h = (has_limit rules.limit (count + length h.0) h.4, steps_may r (count + length h.0) (shared_after s x h.0) h.1 h.5)
  steps_may (Acts a ∷ r) count x H h =
      steps_may r (suc (count + length h.0) + length h.1) (shared_after s (next_shared s (shared_after s x h.0) n a) h.1) h.2 h.7
