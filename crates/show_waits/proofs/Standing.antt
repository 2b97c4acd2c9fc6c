-- Where a thread stands, by the entries from a place on.
use Rattle.std.proofs.Common.{◌≡◌, ◌+◌, ◌-◌, ◌<◌, ◌≤◌, ◌==◌, ◌⊎◌, inl, inr, ℕ, suc, List, ◌∷◌, length, filter, drop, Option, Some, None, IfSome}
use Rattle.std.proofs.Common.{Bool, true, false, ◌&&◌, cond, refl, sym, ◌∙◌, ap, subst, slice_get, slice_index_or, arith}
use Rattle.std.proofs.lemmas.Bool.{cases_lt, cases_eq}
use Rattle.std.proofs.lemmas.Bool.Decides.{nat_tests}
use Rattle.std.proofs.lemmas.Option.{IfSome_then, slice_get-get_or, slice_get_within}
use Rattle.std.proofs.lemmas.List.{drop_all, drop_more}
use Rattle.std.specs.Option.{is_some}
use Rattle.types.specs.declared.event.Entry.{Entry}
use Rattle.types.specs.declared.event.Event.TheVariants.{Size}
use Rattle.types.specs.declared.event.Reply.TheVariants.{Value}
use Rattle.selection.specs.declared.choice.NumberSpan.{NumberSpan}
use Rattle.selection.specs.declared.spans.Spans.{Spans}
use Rattle.show_waits.specs.declared.stands.Stand.{Stand}
use Rattle.show_waits.specs.Beside.{touched_beside}
use Rattle.show_waits.specs.Stands.{TouchesAt, Stands, IsStand, is_touch}

-- an entry that is none
pub of_another : (out : Option Spans) (n : ℕ) (e : Entry) → (e.thread ≡ n → ⊥) → is_touch out n e ≡ false
of_another out n e other = ap (λ b. b && is_some (touched_beside out e.event)) (differ e.thread n other)
  where
    differ : (a b : ℕ) → (a ≡ b → ⊥) → (a == b) ≡ false
    differ a b h = grind (arith, nat_tests, h)

pub of_no_bytes : (out : Option Spans) (n : ℕ) (e : Entry) → touched_beside out e.event ≡ None → is_touch out n e ≡ false
of_no_bytes out n e none = ap (λ o. (e.thread == n) && is_some o) none ∙ no_more (e.thread == n)
  where
    no_more : (b : Bool) → (b && false) ≡ false
    no_more true = refl
    no_more false = refl

pub of_bytes : (out : Option Spans) (n : ℕ) (e : Entry) (addrs : NumberSpan) → e.thread ≡ n → touched_beside out e.event ≡ Some addrs → is_touch out n e ≡ true
of_bytes out n e addrs own touches = ap (λ o. (e.thread == n) && is_some o) touches ∙ ap (λ b. b && true) (alike e.thread n own)
  where
    alike : (a b : ℕ) → a ≡ b → (a == b) ≡ true
    alike a b h = grind (arith, nat_tests, h)

-- how many of them there are from a place on
abbrev pub count_from : ℕ → List Entry → Option Spans → ℕ → ℕ
count_from n log out place = length (filter (is_touch out n) (drop place log))

pub record IsSoFar (n : ℕ) (log : List Entry) (out : Option Spans) (place : ℕ) (s : Stand) : Type 0 where
  pub stands : Stands n log out s
  pub from : place ≤ s.since
  pub between : (k : ℕ) (addrs : NumberSpan) → place ≤ k → k < s.since → TouchesAt n log out k addrs → ⊥
  pub count : s.times ≡ count_from n log out place
  pub few : s.times + place ≤ length log

pub record IsNothing (n : ℕ) (log : List Entry) (out : Option Spans) (place : ℕ) : Type 0 where
  pub none : (k : ℕ) (addrs : NumberSpan) → place ≤ k → TouchesAt n log out k addrs → ⊥
  pub count : count_from n log out place ≡ 0

pub record IsSeen (n : ℕ) (log : List Entry) (out : Option Spans) (place : ℕ) (o : Option Stand) : Type 0 where
  pub none : o ≡ None → IsNothing n log out place
  pub some : IfSome o (IsSoFar n log out place)

-- an entry of a log, and the place behind it
pub record IsEntryAt (log : List Entry) (p q : ℕ) (e : Entry) : Type 0 where
  pub next : q ≡ p + 1
  pub low : p < length log
  pub at : slice_get log p ≡ Some e
  pub more : drop p log ≡ e ∷ drop q log

abbrev pub nobody : Entry
nobody = record { thread = 0; event = Size; reply = Value 0 }

-- the entry before a place
abbrev pub entry_before : List Entry → ℕ → Entry
entry_before log place = slice_index_or log (place - 1) nobody

pub is_before : (log : List Entry) (place : ℕ) → 0 < place → place ≤ length log
    → IsEntryAt log (place - 1) place (entry_before log place)
is_before log place some within =
    let next : place ≡ place - 1 + 1 = omega (arith, some) in
    let low : place - 1 < length log = omega (arith, some, within) in
    let more = drop_more log (place - 1) nobody low in
    record {
      next = next;
      low = low;
      at = slice_get-get_or log (place - 1) nobody low;
      more = more ∙ ap (λ (k : ℕ). entry_before log place ∷ drop k log) (sym next);
    }

module _ (out : Option Spans) (n : ℕ) {log : List Entry} {p q : ℕ} {e : Entry} (x : IsEntryAt log p q e) where
  -- it is of this entry
  pub of_this : (addrs : NumberSpan) → (t : TouchesAt n log out p addrs) → (e.thread ≡ n) × (touched_beside out e.event ≡ Some addrs)
  of_this addrs t =
      let is : t.entry ≡ e = cc (t.at, x.at) in
      (ap (λ (y : Entry). y.thread) (sym is) ∙ t.own, ap (λ (y : Entry). touched_beside out y.event) (sym is) ∙ t.touches)

  this_place : (k : ℕ) (addrs : NumberSpan) → k ≡ p → TouchesAt n log out k addrs → TouchesAt n log out p addrs
  this_place k addrs is t = subst (λ j. TouchesAt n log out j addrs) is t

  counts : (b : Bool) → is_touch out n e ≡ b → count_from n log out p ≡ length (cond b (e ∷ filter (is_touch out n) (drop q log)) (filter (is_touch out n) (drop q log)))
  counts b is = ap (λ l. length (filter (is_touch out n) l)) x.more ∙
      ap (λ c. length (cond c (e ∷ filter (is_touch out n) (drop q log)) (filter (is_touch out n) (drop q log)))) is

  -- at this place or behind it
  above : (k : ℕ) → p ≤ k → (k ≡ p) ⊎ (q ≤ k)
  above k from = elim (cases_eq k p) [ inl is ↦ inl is | inr other ↦ inr (omega (arith, from, other, x.next)) ]

  -- the entry is no touch of the thread
  module _ (other : is_touch out n e ≡ false) (none : (addrs : NumberSpan) → TouchesAt n log out p addrs → ⊥) where
    still_none : IsNothing n log out q → IsNothing n log out p
    still_none h = record {
      none = λ k addrs from t. elim (above k from) [ inl is ↦ none addrs (this_place k addrs is t) | inr past ↦ h.none k addrs past t ];
      count = counts false other ∙ h.count;
    }

    still_so : (s : Stand) → IsSoFar n log out q s → IsSoFar n log out p s
    still_so s h = record {
      stands = h.stands;
      from = omega (arith, h.from, x.next);
      between = λ k addrs from to t. elim (above k from) [ inl is ↦ none addrs (this_place k addrs is t) | inr past ↦ h.between k addrs past to t ];
      count = h.count ∙ sym (counts false other);
      few = omega (arith, h.few, x.next);
    }

    pub skips : (o : Option Stand) → IsSeen n log out q o → IsSeen n log out p o
    skips o h = record { none = λ is. still_none (h.none is); some = IfSome_then o h.some still_so }

  -- it is one, at these addresses
  module _ (is : is_touch out n e ≡ true) (own : e.thread ≡ n) (addrs : NumberSpan) (touches : touched_beside out e.event ≡ Some addrs) where
    here : TouchesAt n log out p addrs
    here = record { entry = e; at = x.at; own = own; touches = touches }

    same_here : (k : ℕ) (others : NumberSpan) → k ≡ p → TouchesAt n log out k others → others ≡ addrs
    same_here k others place t = let h = of_this others (this_place k others place t) in let both : Some others ≡ Some addrs = sym (h.1) ∙ touches in cc both

    pub first : IsNothing n log out q → IsSeen n log out p (Some (record { addrs = addrs; since = p; last = p; times = 1 }))
    first h = record {
      none = λ not. absurd (cc not);
      some = record {
        stands = record {
          last = here;
          none = λ k others past t. h.none k others (omega (arith, past, x.next)) t;
          since = here;
          same = λ k others from t. elim (above k from) [ inl place ↦ same_here k others place t | inr past ↦ absurd (h.none k others past t) ];
          times = sym (counts true is ∙ ap suc h.count);
        };
        from = omega arith;
        between = λ k others from to t. let no : ⊥ = omega (arith, from, to) in no;
        count = sym (counts true is ∙ ap suc h.count);
        few = omega (arith, x.low);
      };
    }

    module _ (s : Stand) (h : IsSoFar n log out q s) where
      pub again : s.addrs ≡ addrs → IsSoFar n log out p (record { addrs = s.addrs; since = p; last = s.last; times = s.times + 1 })
      again equal =
          let count : s.times + 1 ≡ count_from n log out p = let c = counts true is in let d = h.count in omega (arith, c, d) in
          record {
            stands = record {
              last = h.stands.last;
              none = h.stands.none;
              since = subst (λ a. TouchesAt n log out p a) (sym equal) here;
              same = λ k others from t. elim (above k from) [
                | inl place ↦ same_here k others place t ∙ sym equal
                | inr past ↦ elim (cases_lt k s.since) [
                  | inl before ↦ absurd (h.between k others past before t)
                  | inr behind ↦ h.stands.same k others behind t
                ]
              ];
              times = count;
            };
            from = omega arith;
            between = λ k others from to t. let no : ⊥ = omega (arith, from, to) in no;
            count = count;
            few = omega (arith, h.few, x.next);
          }

      pub ends : (s.addrs ≡ addrs → ⊥) → IsStand n log out s
      ends differ = record {
        stands = h.stands;
        begins = λ k others before t. record {
          place = p;
          from = elim (cases_lt p k) [
            | inl past ↦ absurd (h.between k others (omega (arith, past, x.next)) before t)
            | inr low ↦ low
          ];
          to = omega (arith, h.from, x.next);
          others = addrs;
          at = here;
          differ = λ same. differ (sym same);
        };
      }

-- nothing of the thread stands before
pub over : (n : ℕ) (log : List Entry) (out : Option Spans) (s : Stand) → IsSoFar n log out 0 s → IsStand n log out s
over n log out s h = record { stands = h.stands; begins = λ k others before t. absurd (h.between k others (omega arith) before t) }

-- and before the first entry that is looked at nothing is behind
pub seen_at_end : (n : ℕ) (log : List Entry) (out : Option Spans) (p : ℕ) → length log ≤ p → IsNothing n log out p
seen_at_end n log out p high = record {
  none = λ k addrs from t. let no : ⊥ = omega (arith, high, from, slice_get_within log k t.entry t.at) in no;
  count = ap (λ l. length (filter (is_touch out n) l)) (drop_all p log high);
}
