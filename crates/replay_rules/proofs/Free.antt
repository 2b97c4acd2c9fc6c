-- A thread that heard an answer last has no open question.
use Rattle.std.proofs.Common.{◌≡◌, ◌≢◌, ℕ, ◌==◌, false, cond, inl, inr, List, [], ◌∷◌, ◌++◌, Option, Some, None, refl, sym, ◌∙◌, ap}
use Rattle.schedule.specs.System.{Act, Act.Made, Act.Heard, Entry, System, put}
use Rattle.schedule.specs.Histories.{Place, Place.Free, placed, acts_of, next_shared, next_places, places_after, IsLegalEntry, IsLegalHistory}
use Rattle.schedule.proofs.Basics.{same_is, other_is, same_or_not, put-same, put-other}
use Rattle.schedule.proofs.Apart.{apart_first}

module _ {X T E V A : Type 0} (s : System X T E V A) (m : ℕ) where
  -- who may enter events may do so after an entry of another
  free_step : (x : X) (q : ℕ → Place A) (n : ℕ) (act : Act E V A) → IsLegalEntry s x q n act → n ≢ m → q m ≡ Free → next_places s x q n act m ≡ Free
  free_step x q n (Heard a) legal apart free = put-other q n Free m (λ e. apart (sym e)) ∙ free
  free_step x q n (Made e v) legal apart free = by (s.starts x n e m) (s.gives x n e m) refl
    where
      by : (o : Option T) (g : Option A) → s.gives x n e m ≡ g → placed o g (put (λ (k : ℕ). false) n (s.opens e v) m) (q m) ≡ Free
      by (Some t) g is = refl
      by None (Some a) is = absurd (cc (free, (legal.3 m a is).0 (λ same. apart (sym same))))
      by None None is = ap (λ c. placed {B = T} None None c (q m)) (put-other (λ (k : ℕ). false) n (s.opens e v) m (λ same. apart (sym same))) ∙ free

  -- and after entries of others
  free_stays : (x : X) (q : ℕ → Place A) (H : List (Entry E V A)) → IsLegalHistory s x q H → acts_of m H ≡ [] → q m ≡ Free → places_after s x q H m ≡ Free
  free_stays x q [] legal none free = free
  free_stays x q (h ∷ H) legal none free =
      let apart = apart_first m h H none in
      free_stays (next_shared s x h.thread h.act) (next_places s x q h.thread h.act) H legal.1 apart.1 (free_step x q h.thread h.act legal.0 apart.0 free)

  -- so whoever heard an answer last
  pub free_last : (x : X) (q : ℕ → Place A) (H : List (Entry E V A)) (front : List (Act E V A)) (a : A)
      → IsLegalHistory s x q H → acts_of m H ≡ front ++ Heard a ∷ []
      → places_after s x q H m ≡ Free
  free_last x q [] [] a legal is = absurd (cc is)
  free_last x q [] (f ∷ front) a legal is = absurd (cc is)
  free_last x q (h ∷ H) front a legal is =
      let x' : X = next_shared s x h.thread h.act in
      let q' : ℕ → Place A = next_places s x q h.thread h.act in
      elim (same_or_not h.thread m) [
        | inl own ↦ heard_last own front (sym (ap (λ b. cond b (h.act ∷ acts_of m H) (acts_of m H))
            (ap (λ k. k == m) own ∙ same_is m)) ∙ is) (λ rest more. free_last x' q' H rest a legal.1 more)
        | inr apart ↦ free_last x' q' H front a legal.1 (sym (ap (λ b. cond b (h.act ∷ acts_of m H) (acts_of m H)) (other_is h.thread m apart)) ∙ is)
      ]
    where
      heard_last : h.thread ≡ m → (front : List (Act E V A)) → h.act ∷ acts_of m H ≡ front ++ Heard a ∷ []
          → ((rest : List (Act E V A)) → acts_of m H ≡ rest ++ Heard a ∷ []
          → places_after s (next_shared s x h.thread h.act) (next_places s x q h.thread h.act) H m ≡ Free)
          → places_after s (next_shared s x h.thread h.act) (next_places s x q h.thread h.act) H m ≡ Free
      heard_last own [] last more =
          let act : h.act ≡ Heard a = cc last in
          let none : acts_of m H ≡ [] = cc last in
          let here : next_places s x q h.thread h.act m ≡ Free =
          ap (λ (b : Act E V A). next_places s x q h.thread b m) act
          ∙ (ap (λ k. put q k Free m) own ∙ put-same q m Free) in
          free_stays (next_shared s x h.thread h.act) (next_places s x q h.thread h.act) H legal.1 none here
      heard_last own (f ∷ front) last more = more front (cc last)
