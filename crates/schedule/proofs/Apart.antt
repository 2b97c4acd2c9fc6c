-- Entries of others in a history: what of a thread goes on over them.
use Rattle.std.proofs.Common.{◌≡◌, ◌≢◌, ℕ, zero, suc, ◌+◌, ◌≤◌, ◌==◌, inl, inr, Bool, true, false, cond, List, []}
use Rattle.std.proofs.Common.{◌∷◌, ◌++◌, length, refl, sym, ◌∙◌, ap, subst, arith, append_assoc, append-nil, Option}
use Rattle.std.proofs.Common.{Some, None}
use Rattle.schedule.specs.Histories.{acts_of, next_shared, shared_after, starts_at}
use Rattle.schedule.specs.System.{Act, Entry, Step, System}
use Rattle.schedule.specs.ThreadRun.{after_first_act, found_full, losses}
use Rattle.schedule.specs.Tries.{HasChanges, HasEnough, HasEnoughLater, HasEnoughOnceStarted, HasReached, HasRoom}
use Rattle.schedule.specs.Tries.{IsChanged, IsFullOnlyAtLimit, TryRules, if_some, if_true, is_act_exempt}
use Rattle.schedule.proofs.Basics.{same_is, other_is, same_or_not}

pub true_case : (b : Bool) (this that : Type 0) → (b ≡ true → this) → (b ≡ false → that) → if_true b this that
true_case true this that h k = h refl
true_case false this that h k = k refl

pub some_case : {B : Type 0} (o : Option B) (this that : Type 0) → ((b : B) → o ≡ Some b → this) → (o ≡ None → that) → if_some o this that
some_case (Some b) this that h k = h b refl
some_case None this that h k = k refl

pub if_same : (m n : ℕ) (this that : Type 0) → m ≡ n → this → if_true (m == n) this that
if_same m n this that e h = true_case (m == n) this that (λ k. h) (λ k. absurd (cc (k, same_is n, ap (λ z. z == n) e)))

pub if_other : (m n : ℕ) (this that : Type 0) → m ≢ n → that → if_true (m == n) this that
if_other m n this that e h = true_case (m == n) this that (λ k. absurd (cc (k, other_is m n e))) (λ k. h)

module _ {E V A : Type 0} (n : ℕ) where
  pub apart_first : (h : Entry E V A) (H : List (Entry E V A)) → acts_of n (h ∷ H) ≡ [] → (h.thread ≢ n) × (acts_of n H ≡ [])
  apart_first h H e =
      elim (same_or_not h.thread n) [
        | inl k ↦ absurd (cc (e, ap (λ b. cond b (h.act ∷ acts_of n H) (acts_of n H)) (ap (λ z. z == n) k ∙ same_is n)))
        | inr k ↦ (k, sym (ap (λ b. cond b (h.act ∷ acts_of n H) (acts_of n H)) (other_is h.thread n k)) ∙ e)
      ]

  pub acts_over : (others H : List (Entry E V A)) → acts_of n others ≡ [] → acts_of n (others ++ H) ≡ acts_of n H
  acts_over [] H e = refl
  acts_over (h ∷ others) H e =
      let k = apart_first h others e in
      ap (λ b. cond b (h.act ∷ acts_of n (others ++ H)) (acts_of n (others ++ H))) (other_is h.thread n k.0) ∙ acts_over others H k.1

  pub acts_here : (a : Act E V A) (H : List (Entry E V A)) → acts_of n (record { thread = n; act = a } ∷ H) ≡ a ∷ acts_of n H
  acts_here a H = ap (λ b. cond b (a ∷ acts_of n H) (acts_of n H)) (same_is n)

  pub acts_both : (F G : List (Entry E V A)) → acts_of n (F ++ G) ≡ acts_of n F ++ acts_of n G
  acts_both [] G = refl
  acts_both (f ∷ F) G = one (f.thread == n) (acts_both F G)
    where
      one : (b : Bool) → acts_of n (F ++ G) ≡ acts_of n F ++ acts_of n G
          → cond b (f.act ∷ acts_of n (F ++ G)) (acts_of n (F ++ G)) ≡ cond b (f.act ∷ acts_of n F) (acts_of n F) ++ acts_of n G
      one true e = ap (λ z. f.act ∷ z) e
      one false e = e

  pub none_behind : (F G : List (Entry E V A)) → acts_of n G ≡ [] → acts_of n (F ++ G) ≡ acts_of n F
  none_behind F G e = acts_both F G ∙ (ap (λ z. acts_of n F ++ z) e ∙ append-nil (acts_of n F))

pub length_over : {B : Type 0} (xs ys : List B) → length (xs ++ ys) ≡ length xs + length ys
length_over [] ys = omega arith
length_over (x ∷ xs) ys = let e : length (xs ++ ys) ≡ length xs + length ys = length_over xs ys in omega arith

module _ {X T E V A : Type 0} (s : System X T E V A) where
  pub shared_over : (x : X) (F G : List (Entry E V A)) → shared_after s x (F ++ G) ≡ shared_after s (shared_after s x F) G
  shared_over x [] G = refl
  shared_over x (h ∷ F) G = shared_over (next_shared s x h.thread h.act) F G

module _ {X T E V A W : Type 0} (s : System X T E V A) (rules : TryRules X E W) (n : ℕ) where
  pub no_changes : (H : List (Entry E V A)) (e : E) (x : X) → HasChanges s rules H 0 n e x
  no_changes [] e x = tt
  no_changes (h ∷ H) e x = tt

  -- entries of others keep what has changed behind them
  pub changes_over : (others H : List (Entry E V A)) (count : ℕ) (e : E) (x : X) → acts_of n others ≡ []
      → HasChanges s rules H count n e (shared_after s x others)
      → HasChanges s rules (others ++ H) count n e x
  changes_over [] H count e x apart h = h
  changes_over (o ∷ others) H zero e x apart h = tt
  changes_over (o ∷ others) H (suc count) e x apart h =
      let k = apart_first n o others apart in
      (k.0, inr (changes_over others H (suc count) e (next_shared s x o.thread o.act) k.1 h))

  -- and one of them that changes what the event touches is one change more
  pub one_more : (others H : List (Entry E V A)) (count : ℕ) (e : E) (x : X) → acts_of n others ≡ [] → IsChanged s rules x e others
      → HasChanges s rules H count n e (shared_after s x others) → HasChanges s rules (others ++ H) (suc count) n e x
  one_more others H count e x apart changed h =
      let c : Entry E V A = changed.changing in
      let y : X = shared_after s x changed.front in
      let z : X = next_shared s y c.thread c.act in
      let apart' : acts_of n (changed.front ++ c ∷ changed.back) ≡ [] = ap (acts_of n) (sym changed.among) ∙ apart in
      let parts = apart_split changed.front (c ∷ changed.back) apart' in
      let own = apart_first n c changed.back parts.1 in
      let at : shared_after s x others ≡ shared_after s z changed.back =
      ap (shared_after s x) changed.among ∙ shared_over s x changed.front (c ∷ changed.back) in
      let behind : HasChanges s rules (changed.back ++ H) count n e z =
      changes_over changed.back H count e z own.1 (subst (λ v. HasChanges s rules H count n e v) at h) in
      let differs : rules.touched z e ≢ rules.touched y e = λ same.
      changed.changed (ap (λ v. rules.touched v e) (shared_over s x changed.front (c ∷ [])) ∙ same) in
      let here : HasChanges s rules (c ∷ (changed.back ++ H)) (suc count) n e y = (own.0, inl (differs, behind)) in
      let list : changed.front ++ (c ∷ (changed.back ++ H)) ≡ others ++ H =
      sym (append_assoc changed.front (c ∷ changed.back) H) ∙ ap (λ v. v ++ H) (sym changed.among) in
      subst (λ v. HasChanges s rules v (suc count) n e x) list (changes_over changed.front (c ∷ (changed.back ++ H)) (suc count) e x parts.0 here)
    where
      apart_split : (F G : List (Entry E V A)) → acts_of n (F ++ G) ≡ [] → (acts_of n F ≡ []) × (acts_of n G ≡ [])
      apart_split [] G e = (refl, e)
      apart_split (f ∷ F) G e =
          let k = apart_first n f (F ++ G) e in
          let r = apart_split F G k.1 in
          (ap (λ b. cond b (f.act ∷ acts_of n F) (acts_of n F)) (other_is f.thread n k.0) ∙ r.0, r.1)

  pub enough_over : (others H : List (Entry E V A)) (x : X) (steps : List (Step E V A)) → acts_of n others ≡ []
      → HasEnough s rules n (shared_after s x others) H steps
      → HasEnough s rules n x (others ++ H) steps
  enough_over others H x steps apart h = λ e first. changes_over others H (losses steps) e x apart (h e first)

  pub later_over : (others H : List (Entry E V A)) (x : X) (steps : List (Step E V A)) → acts_of n others ≡ []
      → HasEnoughLater s rules H n (shared_after s x others) steps
      → HasEnoughLater s rules (others ++ H) n x steps
  later_over [] H x steps apart h = h
  later_over (o ∷ others) H x steps apart h =
      let k = apart_first n o others apart in
      let x' : X = next_shared s x o.thread o.act in
      if_other o.thread n (HasEnough s rules n x' (others ++ H) (after_first_act steps) × HasEnoughLater s rules (others ++ H) n x' (after_first_act steps))
      (HasEnoughLater s rules (others ++ H) n x' steps) k.0 (later_over others H x' steps k.1 h)

  -- only the steps after the first act matter later
  pub later_by : (H : List (Entry E V A)) (x : X) (steps steps' : List (Step E V A)) → after_first_act steps ≡ after_first_act steps'
      → HasEnoughLater s rules H n x steps → HasEnoughLater s rules H n x steps'
  later_by [] x steps steps' e h = tt
  later_by (o ∷ H) x steps steps' e h = go (o.thread == n) h (λ k. later_by H (next_shared s x o.thread o.act) steps steps' e k)
    where
      go : (b : Bool)
          → if_true b (HasEnough s rules n (next_shared s x o.thread o.act) H (after_first_act steps)
          × HasEnoughLater s rules H n (next_shared s x o.thread o.act) (after_first_act steps))
          (HasEnoughLater s rules H n (next_shared s x o.thread o.act) steps)
          → (HasEnoughLater s rules H n (next_shared s x o.thread o.act) steps → HasEnoughLater s rules H n (next_shared s x o.thread o.act) steps')
          → if_true b (HasEnough s rules n (next_shared s x o.thread o.act) H (after_first_act steps')
          × HasEnoughLater s rules H n (next_shared s x o.thread o.act) (after_first_act steps'))
          (HasEnoughLater s rules H n (next_shared s x o.thread o.act) steps')
      go true k more = subst (λ z. HasEnough s rules n (next_shared s x o.thread o.act) H z × HasEnoughLater s rules H n (next_shared s x o.thread o.act) z) e k
      go false k more = more k

  pub none_later : (H : List (Entry E V A)) (x : X) → HasEnoughLater s rules H n x []
  none_later [] x = tt
  none_later (o ∷ H) x =
      let x' : X = next_shared s x o.thread o.act in
      true_case (o.thread == n) (HasEnough s rules n x' H [] × HasEnoughLater s rules H n x' []) (HasEnoughLater s rules H n x' [])
      (λ k. ((λ e h. absurd h), none_later H x')) (λ k. none_later H x')

  pub none_once : (H : List (Entry E V A)) (x : X) → HasEnoughOnceStarted s rules H n x []
  none_once [] x = tt
  none_once (o ∷ H) x =
      let x' : X = next_shared s x o.thread o.act in
      some_case (starts_at s n x o.thread o.act) (HasEnough s rules n x' H [] × HasEnoughLater s rules H n x' []) (HasEnoughOnceStarted s rules H n x' [])
      (λ t k. ((λ e h. absurd h), none_later H x')) (λ k. none_once H x')

  -- full logs
  pub full_over : (others H : List (Entry E V A)) (count : ℕ) (steps : List (Step E V A)) → acts_of n others ≡ []
      → IsFullOnlyAtLimit s rules H n (count + length others) steps
      → IsFullOnlyAtLimit s rules (others ++ H) n count steps
  full_over [] H count steps apart h = let e : count + 0 ≡ count = omega arith in subst (λ z. IsFullOnlyAtLimit s rules H n z steps) e h
  full_over (o ∷ others) H count steps apart h =
      let k = apart_first n o others apart in
      let e : count + suc (length others) ≡ suc count + length others = omega arith in
      if_other o.thread n ((found_full steps ≡ true → HasReached rules.limit count)
      × IsFullOnlyAtLimit s rules (others ++ H) n (suc count) (after_first_act steps))
      (IsFullOnlyAtLimit s rules (others ++ H) n (suc count) steps) k.0
      (full_over others H (suc count) steps k.1 (subst (λ z. IsFullOnlyAtLimit s rules H n z steps) e h))

  pub full_by : (H : List (Entry E V A)) (count : ℕ) (steps steps' : List (Step E V A))
      → found_full steps ≡ found_full steps' → after_first_act steps ≡ after_first_act steps'
      → IsFullOnlyAtLimit s rules H n count steps → IsFullOnlyAtLimit s rules H n count steps'
  full_by [] count steps steps' f e h = tt
  full_by (o ∷ H) count steps steps' f e h = go (o.thread == n) h (λ k. full_by H (suc count) steps steps' f e k)
    where
      go : (b : Bool)
          → if_true b ((found_full steps ≡ true → HasReached rules.limit count) × IsFullOnlyAtLimit s rules H n (suc count) (after_first_act steps))
          (IsFullOnlyAtLimit s rules H n (suc count) steps)
          → (IsFullOnlyAtLimit s rules H n (suc count) steps → IsFullOnlyAtLimit s rules H n (suc count) steps')
          → if_true b ((found_full steps' ≡ true → HasReached rules.limit count) × IsFullOnlyAtLimit s rules H n (suc count) (after_first_act steps'))
          (IsFullOnlyAtLimit s rules H n (suc count) steps')
      go true k more = ((λ z. k.0 (f ∙ z)), subst (λ z. IsFullOnlyAtLimit s rules H n (suc count) z) e k.1)
      go false k more = more k

  reached_next : (limit : Option ℕ) (count : ℕ) → HasReached limit count → HasReached limit (suc count)
  reached_next None count h = h
  reached_next (Some limit) count h = let l : limit ≤ count = h in omega arith

  -- once the limit is reached, it stays so up to the next entry
  pub full_found : (H : List (Entry E V A)) (count : ℕ) (steps steps' : List (Step E V A))
      → HasReached rules.limit count → after_first_act steps ≡ after_first_act steps'
      → IsFullOnlyAtLimit s rules H n count steps → IsFullOnlyAtLimit s rules H n count steps'
  full_found [] count steps steps' reached e h = tt
  full_found (o ∷ H) count steps steps' reached e h =
      go (o.thread == n) h (λ k. full_found H (suc count) steps steps' (reached_next rules.limit count reached) e k)
    where
      go : (b : Bool)
          → if_true b ((found_full steps ≡ true → HasReached rules.limit count) × IsFullOnlyAtLimit s rules H n (suc count) (after_first_act steps))
          (IsFullOnlyAtLimit s rules H n (suc count) steps)
          → (IsFullOnlyAtLimit s rules H n (suc count) steps → IsFullOnlyAtLimit s rules H n (suc count) steps')
          → if_true b ((found_full steps' ≡ true → HasReached rules.limit count) × IsFullOnlyAtLimit s rules H n (suc count) (after_first_act steps'))
          (IsFullOnlyAtLimit s rules H n (suc count) steps')
      go true k more = ((λ z. reached), subst (λ z. IsFullOnlyAtLimit s rules H n (suc count) z) e k.1)
      go false k more = more k

  pub none_full : (H : List (Entry E V A)) (count : ℕ) → IsFullOnlyAtLimit s rules H n count []
  none_full [] count = tt
  none_full (o ∷ H) count =
      true_case (o.thread == n) ((false ≡ true → HasReached rules.limit count)
      × IsFullOnlyAtLimit s rules H n (suc count) []) (IsFullOnlyAtLimit s rules H n (suc count) [])
      (λ k. ((λ z. absurd (cc (z))), none_full H (suc count))) (λ k. none_full H (suc count))

  -- the thread's own entries found room
  abbrev pub HasRoomItself : List (Entry E V A) → ℕ → Type 0
  HasRoomItself [] count = Unit {0}
  HasRoomItself (h ∷ H) count = if_true (h.thread == n)
      (HasRoom rules.limit (is_act_exempt s rules h.act) count × HasRoomItself H (suc count))
      (HasRoomItself H (suc count))

  pub room_apart : (H : List (Entry E V A)) (count : ℕ) → acts_of n H ≡ [] → HasRoomItself H count
  room_apart [] count e = tt
  room_apart (o ∷ H) count e =
      let k = apart_first n o H e in
      if_other o.thread n (HasRoom rules.limit (is_act_exempt s rules o.act) count × HasRoomItself H (suc count))
      (HasRoomItself H (suc count)) k.0 (room_apart H (suc count) k.1)

  pub room_over : (others H : List (Entry E V A)) (count : ℕ) → acts_of n others ≡ []
      → HasRoomItself H (count + length others) → HasRoomItself (others ++ H) count
  room_over [] H count apart h = let e : count + 0 ≡ count = omega arith in subst (λ z. HasRoomItself H z) e h
  room_over (o ∷ others) H count apart h =
      let k = apart_first n o others apart in
      let e : count + suc (length others) ≡ suc count + length others = omega arith in
      if_other o.thread n (HasRoom rules.limit (is_act_exempt s rules o.act) count
      × HasRoomItself (others ++ H) (suc count)) (HasRoomItself (others ++ H) (suc count)) k.0
      (room_over others H (suc count) k.1 (subst (λ z. HasRoomItself H z) e h))
