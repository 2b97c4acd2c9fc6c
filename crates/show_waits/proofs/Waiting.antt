-- Who waits for whom, and where that comes back to where it began.
use Rattle.std.proofs.Common.{◌≡◌, ◌<◌, ◌≤◌, ◌+◌, ◌++◌, inl, inr, ℕ, List, [], ◌∷◌, length, take, get_or, append_assoc}
use Rattle.std.proofs.Common.{length-append, All, Option, Some, None, refl, sym, ap, subst, ◌∙◌, slice_get}
use Rattle.std.proofs.Common.{slice_index_or, arith}
use Rattle.std.proofs.lemmas.Bool.{cases_lt}
use Rattle.std.proofs.lemmas.List.Elements.{All-head, All-nil, All-push, All-tail}
use Rattle.std.proofs.lemmas.Option.{get_or_from_slice_get}
use Rattle.std.specs.List.{AllZip}
use Rattle.types.specs.declared.event.Entry.{Entry}
use Rattle.types.specs.declared.outcome.ThreadReport.{ThreadReport}
use Rattle.selection.specs.declared.choice.NumberSpan.{NumberSpan}
use Rattle.selection.specs.declared.spans.Spans.{Spans}
use Rattle.show_rows.proofs.Zipped.{zip_next}
use Rattle.show_named.specs.declared.lasts.Act.{Act}
use Rattle.show_named.specs.declared.lasts.Act.TheVariants as acts
use Rattle.show_waits.specs.declared.stands.Stand.{Stand}
use Rattle.show_named.specs.Lasts.{HasNone, IsLast}
use Rattle.show_waits.specs.Beside.{touched_beside}
use Rattle.show_waits.specs.Stands.{IsStand}
use Rattle.show_waits.specs.Cycles.{IsChain, IsCycle, WaitsFor, wait_in}

-- two places, neither of which is behind the other
same_place : (j k : ℕ) → (j < k → ⊥) → (k < j → ⊥) → j ≡ k
same_place j k not_before not_behind = elim (cases_lt j k) [
  | inl before ↦ absurd (not_before before)
  | inr from ↦ elim (cases_lt k j) [ inl behind ↦ absurd (not_behind behind) | inr to ↦ omega (arith, from, to) ]
]

-- there is one last entry
pub same_last : (act : Act) (log : List Entry) (before j k : ℕ) → IsLast act log before j → IsLast act log before k → j ≡ k
same_last act log before j k a b = same_place j k (λ lt. a.later k b.entry lt b.earlier b.at b.does) (λ lt. b.later j a.entry lt a.earlier a.at a.does)

-- and one place where a thread stands
pub same_stand : (n : ℕ) (log : List Entry) (out : Option Spans) (s t : Stand) → IsStand n log out s → IsStand n log out t → s.addrs ≡ t.addrs
same_stand n log out s t a b =
    let place = same_place s.last t.last (λ lt. a.stands.none t.last t.addrs lt b.stands.last)
    (λ lt. b.stands.none s.last s.addrs lt a.stands.last) in
    let e : Some a.stands.last.entry ≡ Some b.stands.last.entry =
    sym a.stands.last.at ∙ (ap (slice_get log) place ∙ b.stands.last.at) in
    let same : a.stands.last.entry ≡ b.stands.last.entry = cc e in
    let both : Some s.addrs ≡ Some t.addrs =
    sym a.stands.last.touches ∙ (ap (λ (x : Entry). touched_beside out x.event) same ∙ b.stands.last.touches) in
    cc both

-- the entry of the last one, as it is read off the log
pub entry_of : (act : Act) (log : List Entry) (before k : ℕ) (last : IsLast act log before k) (d : Entry)
    → (slice_index_or log k d).thread ≡ last.entry.thread
entry_of act log before k last d = ap (λ (e : Entry). e.thread) (get_or_from_slice_get log k last.entry d last.at)

-- for whom a thread waits, by where it stands
module _ (log : List Entry) (ends : List ThreadReport) (out : Option Spans) (n m : ℕ) (w : WaitsFor log ends out n m) (s : Stand)
    (is : IsStand n log out s) where
  last_there : IsLast (acts.OtherWrite s.addrs n) log (length log) w.place
  last_there = subst (λ (a : NumberSpan). IsLast (acts.OtherWrite a n) log (length log) w.place) (same_stand n log out w.stand s w.is is) w.last

  pub no_other : HasNone (acts.OtherWrite s.addrs n) log (length log) → ⊥
  no_other none = none w.place last_there.entry last_there.earlier last_there.at last_there.does

  pub same_writer : (k : ℕ) (last : IsLast (acts.OtherWrite s.addrs n) log (length log) k) → m ≡ last.entry.thread
  same_writer k last =
      let e : Some w.last.entry ≡ Some last.entry = sym w.last.at ∙
      (ap (slice_get log) (same_last (acts.OtherWrite s.addrs n) log (length log) w.place k last_there last) ∙ last.at) in
      let same : w.last.entry ≡ last.entry = cc e in
      sym w.writer ∙ ap (λ (x : Entry). x.thread) same

-- two lists, place by place
pub zip_pushed : {A B : Type 0} (R : A → B → Type 0) (xs : List A) (ys : List B) (k : ℕ) (z x : A) (y : B) → k < length xs
    → x ≡ get_or xs k z → AllZip R (take k xs) ys → R x y → (zs : List B) → zs ≡ ys ++ y ∷ [] → AllZip R (take (k + 1) xs) zs
zip_pushed {A} {B} R xs ys k z x y lt is p r zs last =
    subst (λ (t : List B). AllZip R (take (k + 1) xs) t) (sym last) (zip_next R xs ys k z x y lt is p r)

-- one more at the end of a chain
chain_push : (waits : List (Option ℕ)) (n : ℕ) (ms : List ℕ) (k to : ℕ) → IsChain waits n ms k → wait_in waits k ≡ Some to
    → IsChain waits n (ms ++ k ∷ []) to
chain_push waits n [] k to chain last = (chain, last)
chain_push waits n (m ∷ ms) k to chain last = (chain.0, chain_push waits m ms k to chain.1 last)

all_behind : (P : ℕ → Type 0) (xs ys : List ℕ) → All P (xs ++ ys) → All P ys
all_behind P [] ys all = all
all_behind P (x ∷ xs) ys all = all_behind P xs ys (All-tail P x (xs ++ ys) all)

-- what is left of a cycle behind the threads that were met
pub record IsLeft (waits : List (Option ℕ)) (n : ℕ) (others : List ℕ) (at : ℕ) (cycle : List ℕ) : Type 0 where
  pub rest : List ℕ
  pub is : cycle ≡ others ++ rest
  pub chain : IsChain waits at rest n

-- the threads that were met behind thread n, up to this one
pub record IsWalk (waits : List (Option ℕ)) (n : ℕ) (others : List ℕ) (at : ℕ) : Type 0 where
  pub closes : (to : ℕ) → wait_in waits at ≡ Some to → IsChain waits n others to
  pub higher : All (λ m. n < m) others
  pub only : (cycle : List ℕ) → IsCycle waits n cycle → IsLeft waits n others at cycle

pub at_first : (waits : List (Option ℕ)) (n : ℕ) → IsWalk waits n [] n
at_first waits n = record {
  closes = λ to is. is;
  higher = All-nil (λ m. n < m);
  only = λ cycle h. record { rest = cycle; is = refl; chain = h.chain };
}

module _ (waits : List (Option ℕ)) (n : ℕ) (others : List ℕ) (at : ℕ) (walk : IsWalk waits n others at) where
  pub closed : wait_in waits at ≡ Some n → length others < length waits → IsCycle waits n others
  closed is few = record { chain = walk.closes n is; higher = walk.higher; few = few }

  -- it goes on nowhere
  pub no_next : wait_in waits at ≡ None → (cycle : List ℕ) → IsCycle waits n cycle → ⊥
  no_next none cycle h = let left = walk.only cycle h in waits_on left.rest left.chain
    where
      waits_on : (rest : List ℕ) → IsChain waits at rest n → ⊥
      waits_on [] chain = let e : None ≡ Some n = sym none ∙ chain in cc e
      waits_on (m ∷ ms) chain = let e : None ≡ Some m = sym none ∙ chain.0 in cc e

  -- it has been long enough
  pub too_long : length waits ≤ length others → (cycle : List ℕ) → IsCycle waits n cycle → ⊥
  too_long long cycle h =
      let left = walk.only cycle h in
      let size = ap length left.is in
      omega (arith, long, size, length-append others left.rest, h.few)

  module _ (next : ℕ) (is : wait_in waits at ≡ Some next) (other : next ≡ n → ⊥) where
    -- the cycle goes on there
    split : (cycle rest : List ℕ) → cycle ≡ others ++ rest → IsChain waits at rest n → IsLeft waits n (others ++ next ∷ []) next cycle
    split cycle [] same chain = absurd (other (let e : Some next ≡ Some n = sym is ∙ chain in cc e))
    split cycle (m ∷ ms) same chain =
        let e : Some m ≡ Some next = sym chain.0 ∙ is in
        let m_is : m ≡ next = cc e in
        record {
          rest = ms;
          is = same ∙ (ap (λ k. others ++ k ∷ ms) m_is ∙ sym (append_assoc others (next ∷ []) ms));
          chain = subst (λ k. IsChain waits k ms n) m_is chain.1;
        }

    pub onward : (cycle : List ℕ) → IsCycle waits n cycle → IsLeft waits n (others ++ next ∷ []) next cycle
    onward cycle h = let left = walk.only cycle h in split cycle left.rest left.is left.chain

    -- to a lower number
    pub too_low : next < n → (cycle : List ℕ) → IsCycle waits n cycle → ⊥
    too_low low cycle h =
        let left = onward cycle h in
        let all = subst (λ (l : List ℕ). All (λ m. n < m) l) (left.is ∙ append_assoc others (next ∷ []) left.rest) h.higher in
        let high = All-head (λ m. n < m) next left.rest (all_behind (λ m. n < m) others (next ∷ left.rest) all) in
        omega (arith, low, high)

    pub goes_on : n < next → IsWalk waits n (others ++ next ∷ []) next
    goes_on high = record {
      closes = λ to last. chain_push waits n others next to (walk.closes next is) last;
      higher = All-push (λ m. n < m) others next walk.higher high;
      only = onward;
    }
