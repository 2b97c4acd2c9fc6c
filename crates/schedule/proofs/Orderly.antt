-- What a run says of the order of its acts, and how a loop makes one.
use Rattle.std.proofs.Common.{◌≡◌, ◌≢◌, ℕ, zero, suc, ◌<◌, ◌≤◌, inl, inr, List, [], ◌∷◌, ◌++◌, refl, sym, ◌∙◌, ap, subst, arith, append-nil, append_assoc}
use Rattle.schedule.proofs.Standing.{Stands}
use Rattle.schedule.specs.Histories.{Place, Place.Due, Place.Free, Place.Open, Place.Unstarted, acts_of}
use Rattle.schedule.specs.System.{Act, Act.Heard, Act.Made, Entry, Step, Step.Acts, Step.Full, Step.Lost, Step.Own, System, Want.Awaits, Want.Gone, put}
use Rattle.schedule.specs.ThreadRun.{Fits, IsThreadRun, Reaches, acts, after_step}
use Rattle.schedule.specs.Tries.{Sees, SeesAll, TryRules}
use Rattle.schedule.proofs.Basics.{same_or_not, put-same, put-other}
use Rattle.schedule.proofs.Apart.{acts_both, none_behind, acts_here}

module _ {X T E V A : Type 0} (s : System X T E V A) where
  -- who awaits makes no event, and who is gone nothing
  pub awaits_no_event : (r : List (Step E V A)) (t end : T) (e : E) (v : V) (more : List (Act E V A))
      → s.wants t ≡ Awaits → IsThreadRun s t r end → acts r ≡ Made e v ∷ more → ⊥
  awaits_no_event [] t end e v more h l is = cc
  awaits_no_event (Own ∷ r) t end e v more h l is = cc (h, l.0)
  awaits_no_event (Lost x ∷ r) t end e v more h l is = cc (h, l.0.0)
  awaits_no_event (Full x ∷ r) t end e v more h l is = cc (h, l.0.0)
  awaits_no_event (Acts (Made x y) ∷ r) t end e v more h l is = cc (h, l.0)
  awaits_no_event (Acts (Heard a) ∷ r) t end e v more h l is = cc

  pub gone_no_act : (r : List (Step E V A)) (t end : T) → s.wants t ≡ Gone → IsThreadRun s t r end → r ≡ []
  gone_no_act [] t end h l = refl
  gone_no_act (Own ∷ r) t end h l = absurd (cc (h, l.0))
  gone_no_act (Lost x ∷ r) t end h l = absurd (cc (h, l.0.0))
  gone_no_act (Full x ∷ r) t end h l = absurd (cc (h, l.0.0))
  gone_no_act (Acts (Made x y) ∷ r) t end h l = absurd (cc (h, l.0))
  gone_no_act (Acts (Heard a) ∷ r) t end h l = absurd (cc (h, l.0))

  -- so an event is of one without an open question
  pub free_at_event : (p : Place A) (steps r : List (Step E V A)) (end t : T) (e : E) (v : V)
      (more : List (Act E V A)) → Stands s steps end p t r → acts r ≡ Made e v ∷ more → p ≢ Unstarted → p ≡ Free
  free_at_event Unstarted steps r end t e v more h is some = absurd (some refl)
  free_at_event Free steps r end t e v more h is some = refl
  free_at_event Open steps r end t e v more h is some = absurd (awaits_no_event r t end e v more h.0 h.1 is)
  free_at_event (Due a) steps r end t e v more h is some = absurd (awaits_no_event r h.0 end e v more h.2 h.3 is)

  -- a loop that makes one step more
  pub path_snoc : (r : List (Step E V A)) (t t' : T) (x : Step E V A) → Reaches s t r t' → Fits s t' x → Reaches s t (r ++ x ∷ []) (after_step s t' x)
  path_snoc [] t t' x p f = (subst (λ z. Fits s z x) (sym p) f, ap (λ z. after_step s z x) p)
  path_snoc (y ∷ r) t t' x p f = (p.0, path_snoc r (after_step s t y) t' x p.1 f)

module _ {X T E V A W : Type 0} (s : System X T E V A) (rules : TryRules X E W) where
  -- and what it saw by the way
  pub sees_snoc : (first : X) (n : ℕ) (r : List (Step E V A)) (before mid after : List (Entry E V A))
      (p : Step E V A) → SeesAll s rules first n before r mid → Sees s rules first n p mid after
      → SeesAll s rules first n before (r ++ p ∷ []) after
  sees_snoc first n [] before mid after p h sees = (after, subst (λ z. Sees s rules first n p z after) (sym h) sees, refl)
  sees_snoc first n (x ∷ r) before mid after p h sees = (h.0, h.1, sees_snoc first n r h.0 mid after p h.2 sees)

  -- whose own entries are the acts
  pub acts_seen : (first : X) (n : ℕ) (r : List (Step E V A)) (before last : List (Entry E V A))
      → SeesAll s rules first n before r last → acts_of n last ≡ acts_of n before ++ acts r
  acts_seen first n [] before last h = sym (append-nil (acts_of n before) ∙ ap (acts_of n) h)
  acts_seen first n (Own ∷ r) before last h = acts_seen first n r h.0 last h.2 ∙ ap (λ z. acts_of n z ++ acts r) h.1
  acts_seen first n (Lost e ∷ r) before last h = acts_seen first n r h.0 last h.2
      ∙ ap (λ z. z ++ acts r) (ap (acts_of n) h.1.list ∙ none_behind n before h.1.others h.1.apart)
  acts_seen first n (Full e ∷ r) before last h = acts_seen first n r h.0 last h.2
      ∙ ap (λ z. z ++ acts r) (ap (acts_of n) h.1.list ∙ none_behind n before h.1.others h.1.apart)
  acts_seen first n (Acts a ∷ r) before last h =
      let did = h.1 in
      let one : acts_of n h.0 ≡ acts_of n before ++ a ∷ [] =
      ap (acts_of n) did.list ∙ (acts_both n did.so_far (record { thread = n; act = a } ∷ did.behind)
      ∙ (λ i. (ap (acts_of n) did.gains ∙ none_behind n before did.others did.apart) i ++ (acts_here n a did.behind ∙ ap (λ z. a ∷ z) did.apart_behind) i)) in
      acts_seen first n r h.0 last h.2 ∙ (ap (λ z. z ++ acts r) one ∙ append_assoc (acts_of n before) (a ∷ []) (acts r))

-- lists, one for each number below n, as a map
pub chosen : {B : Type 0} (n : ℕ) (P : ℕ → List B → Type 0) → ((k : ℕ) → k < n → (r : List B) × P k r)
    → (f : ℕ → List B) × ((k : ℕ) → k < n → P k (f k)) × ((k : ℕ) → n ≤ k → f k ≡ [])
chosen zero P h = ((λ k. []), (λ k l. absurd (omega arith)), (λ k l. refl))
chosen (suc n) P h =
    let c = chosen n P (λ k l. let l' : k < suc n = omega arith in h k l') in
    let here : n < suc n = omega arith in
    let g = h n here in (
      put c.0 n g.0,
      (λ k l. elim (same_or_not k n) [
        | inl e ↦ subst (λ z. P z (put c.0 n g.0 z)) (sym e) (subst (λ z. P n z) (sym (put-same c.0 n g.0)) g.1)
        | inr ne ↦ (let lt : k < n = omega arith in subst (λ z. P k z) (sym (put-other c.0 n g.0 k ne)) (c.1 k lt))
      ]),
      (λ k l. let ne : k ≢ n = omega arith in let le : n ≤ k = omega arith in put-other c.0 n g.0 k ne ∙ c.2 k le),
    )
