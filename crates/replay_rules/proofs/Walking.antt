-- A walk and the runs that make its log.
use Rattle.std.proofs.Common.{◌≡◌, ℕ, zero, suc, ◌+◌, List, [], ◌∷◌, ◌++◌, length, take, refl, sym, ◌∙◌, ap, subst}
use Rattle.std.proofs.Common.{append_assoc, append-nil, arith, length-append, ◌⊎◌, inl, inr}
use Rattle.schedule.specs.System.{Want.Turns, Want.Calls, Act, Act.Made, Act.Heard, Entry, System, State, put}
use Rattle.schedule.specs.ThreadRun.{Laws}
use Rattle.schedule.specs.Scheduled.{scheduled_run}
use Rattle.schedule.specs.Histories.{Place, Place.Free, next_places}
use Rattle.schedule.specs.Tries.{TryRules}
use Rattle.replay_rules.specs.Logs.{MakesLog, IsMade}
use Rattle.replay_rules.specs.Walk.{Walks, WalksOn, CanTake, ComesTo, Settles, FindsFull, after_made}
use Rattle.replay_rules.specs.Theorems.{WalksAreMade, EndsAreTheSame, StopsAreMisfits}
use Rattle.replay_rules.proofs.Making.{MakesFrom, makes_none, makes_told, makes_event, makes_log}
use Rattle.replay_rules.proofs.Leading.{Leads, leads_first, leads_told, leads_event, leads_end}

module _ {X T E V A W : Type 0} (s : System X T E V A) (rules : TryRules X E W) (laws : Laws s) where
  module _ (z : State X T) (p : ℕ → Place A) where
    made_step : (log : List (Entry E V A)) (w : State X T) (q : ℕ → Place A) (count n : ℕ) (act : Act E V A)
        → ((w : State X T) (q : ℕ → Place A) → Walks s rules log w q (suc count) z p → MakesFrom s rules w q (suc count) log z p)
        → WalksOn s rules w q count n act (λ w' q'. Walks s rules log w' q' (suc count) z p)
        → MakesFrom s rules w q count (record { thread = n; act = act } ∷ log) z p
    made_step log w q count n (Made e v) on walks =
        makes_event s rules laws w q count n e v walks.0 log z p walks.1 (on (after_made s w n e walks.0) (next_places s w.shared q n (Made e v)) walks.2)
    made_step log w q count n (Heard a) on walks = makes_told s rules w q count n a log z p walks.0 (on w (put q n Free) walks.1)

    makes : (log : List (Entry E V A)) (w : State X T) (q : ℕ → Place A) (count : ℕ) → Walks s rules log w q count z p → MakesFrom s rules w q count log z p
    makes [] w q count walks =
        subst (λ x. MakesFrom s rules w q count [] x p) walks.0 (subst (λ y. MakesFrom s rules w q count [] w y) walks.1 (makes_none s rules w q count))
    makes (h ∷ log) w q count walks = made_step log w q count h.thread h.act (λ w' q' more. makes log w' q' (suc count) more) walks

  -- a thread makes an event as one thread alone
  comes_once : (j k : ℕ) (t u v : T) → ComesTo s j t u → ComesTo s k t v → (s.wants u ≡ Turns → ⊥) → (s.wants v ≡ Turns → ⊥) → u ≡ v
  comes_once zero zero t u v a b hu hv = sym a ∙ b
  comes_once zero (suc k) t u v a b hu hv = absurd (hu (sym (ap s.wants a) ∙ b.0))
  comes_once (suc j) zero t u v a b hu hv = absurd (hv (sym (ap s.wants b) ∙ a.0))
  comes_once (suc j) (suc k) t u v a b hu hv = comes_once j k (s.own_turn t) u v a.1 b.1 hu hv

  pub settles_once : (t u v : T) → Settles s t u → Settles s t v → u ≡ v
  settles_once t u v a b = comes_once a.turns b.turns t u v a.comes b.comes a.rests b.rests

  full_apart : (count : ℕ) (t u v : T) (e : E) → Settles s t u → s.wants u ≡ Calls e → FindsFull s rules count t v → s.wants v ≡ Calls e → u ≡ v
  full_apart count t u v e a wants b wants' =
      let same : b.settled ≡ u = settles_once t b.settled u b.settles a in
      let leaves : s.wants v ≡ Calls laws.leave = ap s.wants b.filled ∙ (laws.full_leaves b.settled b.may).0 in
      let leave : s.wants b.settled ≡ Calls laws.leave = ap s.wants same ∙ (wants ∙ (sym wants' ∙ leaves)) in
      absurd (laws.leave_fills b.settled b.may leave)

  pub ready_once : (count : ℕ) (t u v : T) (e : E) → Settles s t u ⊎ FindsFull s rules count t u → Settles s t v
      ⊎ FindsFull s rules count t v → s.wants u ≡ Calls e → s.wants v ≡ Calls e → u ≡ v
  ready_once count t u v e (inl a) (inl b) wu wv = settles_once t u v a b
  ready_once count t u v e (inl a) (inr b) wu wv = full_apart count t u v e a wu b wv
  ready_once count t u v e (inr a) (inl b) wu wv = sym (full_apart count t v u e b wv a wu)
  ready_once count t u v e (inr a) (inr b) wu wv = a.filled ∙ (ap s.full (settles_once t a.settled b.settled a.settles b.settles) ∙ sym b.filled)

  -- a run of the log and more leads the walk along the log
  module _ (z : State X T) (p : ℕ → Place A) (rest : List (Entry E V A)) (y : State X T) where
    along_step : (log : List (Entry E V A)) (w : State X T) (q : ℕ → Place A) (count n : ℕ) (act : Act E V A)
        → ((w : State X T) (q : ℕ → Place A) → Walks s rules log w q (suc count) z p
        → Leads s rules w q (suc count) (log ++ rest) y → Leads s rules z p (suc count + length log) rest y)
        → WalksOn s rules w q count n act (λ w' q'. Walks s rules log w' q' (suc count) z p)
        → Leads s rules w q count (record { thread = n; act = act } ∷ (log ++ rest)) y
        → Leads s rules z p (suc count + length log) rest y
    along_step log w q count n (Made e v) on walks leads =
        let next = leads_event s rules laws w q count n e v (log ++ rest) y leads in
        let same : next.thread ≡ walks.0 = ready_once count (w.threads n) next.thread walks.0 e (next.can).ready
        (walks.1).ready (next.can).wants (walks.1).wants in
        on (after_made s w n e walks.0) (next_places s w.shared q n (Made e v)) walks.2
        (subst (λ t. Leads s rules (after_made s w n e t) (next_places s w.shared q n (Made e v)) (suc count) (log ++ rest) y) same next.leads)
    along_step log w q count n (Heard a) on walks leads = on w (put q n Free) walks.1 (leads_told s rules w q count n a (log ++ rest) y leads).1

    along : (log : List (Entry E V A)) (w : State X T) (q : ℕ → Place A) (count : ℕ) → Walks s rules log w q count z p → Leads s rules w q count (log ++ rest) y
        → Leads s rules z p (count + length log) rest y
    along [] w q count walks leads =
        let same : count ≡ count + 0 = omega arith in
        subst (λ c. Leads s rules z p c rest y) same
        (subst (λ x. Leads s rules z x count rest y) walks.1
        (subst (λ x. Leads s rules x q count rest y) walks.0 leads))
    along (h ∷ log) w q count walks leads =
        let same : suc count + length log ≡ count + suc (length log) = omega arith in
        subst (λ c. Leads s rules z p c rest y) same
        (along_step log w q count h.thread h.act (λ w' q' more lead. along log w' q' (suc count) more lead) walks
        leads)

  can_take : (w : State X T) (q : ℕ → Place A) (count n : ℕ) (act : Act E V A) (rest : List (Entry E V A)) (y : State X T)
      → Leads s rules w q count (record { thread = n; act = act } ∷ rest) y → CanTake s rules w q count n act
  can_take w q count n (Made e v) rest y leads = let next = leads_event s rules laws w q count n e v rest y leads in (next.thread, next.can)
  can_take w q count n (Heard a) rest y leads = (leads_told s rules w q count n a rest y leads).0

take_front : {B : Type 0} (xs ys : List B) → take (length xs) (xs ++ ys) ≡ xs
take_front [] ys = refl
take_front (x ∷ xs) ys = ap (λ z. x ∷ z) (take_front xs ys)

take_one : {B : Type 0} (xs : List B) (y : B) (ys : List B) → take (suc (length xs)) (xs ++ y ∷ ys) ≡ xs ++ y ∷ []
take_one [] y ys = refl
take_one (x ∷ xs) y ys = ap (λ z. x ∷ z) (take_one xs y ys)

pub walks_are_made : (X T E V A W : Type 0) → WalksAreMade X T E V A W
walks_are_made X T E V A W s rules laws first places beginning log z p walks =
    let m = makes s rules laws z p log first places 0 walks in
    record { schedule = m.schedule; makes = makes_log s rules first places log z p beginning.closed m; run = m.run; placed = m.placed }

pub ends_are_the_same : (X T E V A W : Type 0) → EndsAreTheSame X T E V A W
ends_are_the_same X T E V A W s rules laws first places beginning log z p walks S made =
    let same : log ++ [] ≡ log = append-nil log in
    let leads = leads_first s rules first places log S beginning.closed beginning.idle made in
    let last = along s rules laws z p [] (scheduled_run s first S) log first places 0 walks
    (subst (λ l. Leads s rules first places 0 l (scheduled_run s first S)) (sym same) leads) in
    let r = leads_end s rules laws z p (0 + length log) (scheduled_run s first S) last in
    (r.shared, r.gone)

pub stops_are_misfits : (X T E V A W : Type 0) → StopsAreMisfits X T E V A W
stops_are_misfits X T E V A W s rules laws first places beginning log rest h z p walks stops =
    let m = makes s rules laws z p log first places 0 walks in record {
      below = omega (arith, length-append log (h ∷ rest));
      before = subst (λ l. IsMade s rules first places l) (sym (take_front log (h ∷ rest)))
          (m.schedule, makes_log s rules first places log z p beginning.closed m);
      none = λ more made.
          let list : take (suc (length log)) (log ++ h ∷ rest) ++ more ≡ log ++ (h ∷ more) = ap (λ l. l ++ more)
          (take_one log h rest) ∙ append_assoc log (h ∷ []) more in
          let makes_it = subst (λ l. MakesLog s rules first places l made.0) list made.1 in
          let leads = leads_first s rules first places (log ++ (h ∷ more)) made.0 beginning.closed beginning.idle makes_it in
          let last = along s rules laws z p (h ∷ more) (scheduled_run s first made.0) log first places 0 walks leads in
          let count : 0 + length log ≡ length log = omega arith in
          stops (can_take s rules laws z p (length log) h.thread h.act more (scheduled_run s first made.0)
          (subst (λ c. Leads s rules z p c (h ∷ more) (scheduled_run s first made.0)) count last));
    }
