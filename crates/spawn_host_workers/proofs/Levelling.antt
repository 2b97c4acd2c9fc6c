-- Rounds of meetings.
use Rattle.std.proofs.Common.{◌≡◌, ◌≢◌, ℕ, ◌+◌, ◌<◌, ◌≤◌, Bool, true, List, refl, length, ap, subst, sym, ◌∙◌, arith, get_or, set}
use Rattle.std.proofs.Common.{inl, inr, get_or-set_same, get_or-set_other, length-set, below_more}
use Rattle.std.proofs.lemmas.List.{get_or_read}
use mathlib.Core.List.{IsPrefix}
use Rattle.types.specs.declared.event.Entry.{Entry}
use Rattle.shared_memory.specs.Memory.{Memory}
use Rattle.shared_memory.specs.History.{entries_of}
use Rattle.shared_memory.specs.Access.{Meets}
use Rattle.waiters_desk.proofs.Prefixes.{prefix_trans, prefix_same, prefix_both}
use Rattle.spawn_host_workers.specs.Level.{HubGoes, SeatGoes, Round, Level}

-- who begins the hub's list leaves it
met_first : (opening : Memory) (m n : ℕ) (right right' : Bool) (a b both : List Entry) → Meets opening m n right right' a b both → IsPrefix b a → both ≡ a
met_first opening m n right right' a b both met begins =
    elim met.longer [ inl e ↦ e | inr e ↦ prefix_both both a (subst (λ (w : List Entry). IsPrefix w a) (sym e) begins) met.begins_a ]

pub same_from_both : (a b : ℕ) → a ≤ b → b ≤ a → a ≡ b
same_from_both a b up down = omega (arith, up, down)

-- before the first has met the hub
pub round_none : {S : Type 0} (opening : Memory) (name : S → ℕ) (right : S → Bool) (seen : S → List Entry) (hub : S) (seats : List S)
    → right hub ≡ true → Round opening name right seen hub hub seats seats 0
round_none opening name right seen hub seats has = record {
  hub_goes = record { name_is = refl; right_is = has; grows = prefix_same (seen hub) (seen hub) refl; owned = refl; queue = refl };
  len = refl;
  goes = λ k d lt. absurd (omega (arith, lt));
  holds = λ k d lt. absurd (omega (arith, lt));
  begins = λ k d lt. absurd (omega (arith, lt));
  rest = λ k d le. refl;
  still = λ all. (refl, λ k d lt. absurd (omega (arith, lt)));
  legal = λ some. absurd (omega (arith, some));
}

module _
    {S : Type 0} (opening : Memory) (name : S → ℕ) (right : S → Bool) (seen : S → List Entry) (hub0 hub hub1 : S)
    (seats0 seats : List S) (i : ℕ) (seat seat1 : S)
    (r : Round opening name right seen hub0 hub seats0 seats i) (below : i < length seats) (at : seat ≡ get_or seats i seat) (hub_name : name hub1 ≡ name hub)
    (seat_name : name seat1 ≡ name seat) (hub_right : right hub1 ≡ right hub) (one : seen seat1 ≡ seen hub1)
    (met : Meets opening (name hub) (name seat) (right hub) (right seat) (seen hub) (seen seat) (seen hub1)) where
  at_i : (d : S) → get_or (set seats i seat1) i d ≡ seat1
  at_i d = get_or-set_same seats i seat1 d below

  at_k : (k : ℕ) (d : S) → k ≢ i → get_or (set seats i seat1) k d ≡ get_or seats k d
  at_k k d apart = get_or-set_other seats i k seat1 d apart

  was_i : (d : S) → get_or seats0 i d ≡ seat
  was_i d = let le : i ≤ i = omega arith in sym (get_or_read seats i seat below at d ∙ r.rest i d le)

  here : (d : S) → SeatGoes name seen (get_or seats0 i d) (get_or (set seats i seat1) i d)
  here d = rw (was_i d, at_i d) (record { name_is = seat_name; owned = ap (entries_of (name seat)) one ∙ met.own_b })

  hub_next : HubGoes name right seen hub0 hub1
  hub_next = record {
    name_is = hub_name ∙ r.hub_goes.name_is;
    right_is = hub_right ∙ r.hub_goes.right_is;
    grows = prefix_trans (seen hub0) (seen hub) (seen hub1) r.hub_goes.grows met.begins_a;
    owned = (let e = rw r.hub_goes.name_is at met.own_a in e ∙ r.hub_goes.owned);
    queue = met.quiet_a r.hub_goes.right_is ∙ r.hub_goes.queue;
  }

  pub round_more : Round opening name right seen hub0 hub1 seats0 (set seats i seat1) (i + 1)
  round_more = record {
    hub_goes = hub_next;
    len = length-set seats i seat1 ∙ r.len;
    goes = λ k d lt.
        below_more (λ (j : ℕ). SeatGoes name seen (get_or seats0 j d) (get_or (set seats i seat1) j d)) i
        (λ j low. let apart : j ≢ i = omega arith in rw (at_k j d apart) (r.goes j d low)) (here d) k lt;
    holds = λ k d lt.
        below_more (λ (j : ℕ). IsPrefix (seen (get_or seats0 j d)) (seen hub1)) i
        (λ j low. prefix_trans (seen (get_or seats0 j d)) (seen hub) (seen hub1) (r.holds j d low) met.begins_a)
        (rw (was_i d) met.begins_b) k lt;
    begins = λ k d lt.
        below_more (λ (j : ℕ). IsPrefix (seen (get_or (set seats i seat1) j d)) (seen hub1)) i
        (λ j low. let apart : j ≢ i = omega arith in
        rw (at_k j d apart) (prefix_trans (seen (get_or seats j d)) (seen hub) (seen hub1)
        (r.begins j d low) met.begins_a))
        (rw (at_i d) (prefix_same (seen seat1) (seen hub1) one)) k lt;
    rest = λ k d le. let apart : k ≢ i = omega arith in let le' : i ≤ k = omega arith in at_k k d apart ∙ r.rest k d le';
    still = λ all.
        let was = r.still all in
        let inside : i < length seats0 = omega (arith, r.len) in
        let begins : IsPrefix (seen seat) (seen hub) = rw (was.0) (subst (λ (s : S). IsPrefix (seen s) (seen hub0)) (was_i seat) (all i seat inside)) in
        let now : seen hub1 ≡ seen hub0 = met_first opening (name hub) (name seat) (right hub) (right seat) (seen hub)
        (seen seat) (seen hub1) met begins ∙ was.0 in (
          now,
          λ k d lt.
              below_more (λ (j : ℕ). seen (get_or (set seats i seat1) j d) ≡ seen hub0) i
              (λ j low. let apart : j ≢ i = omega arith in rw (at_k j d apart) (was.1 j d low)) (rw (at_i d) (one ∙ now)) k lt,
        );
    legal = λ _. met.seen;
  }

module _
    {S : Type 0} (opening : Memory) (name : S → ℕ) (right : S → Bool) (seen : S → List Entry) (hub hub1 hub2 : S) (seats seats1 seats2 : List S)
    (r : Round opening name right seen hub hub1 seats seats1 (length seats)) (q : Round opening name right seen hub1 hub2 seats1 seats2 (length seats1)) where
  pub level_from : Level opening name right seen hub hub2 seats seats2
  level_from =
      let still = q.still (λ k d lt. r.begins k d (omega (arith, r.len, lt))) in record {
        hub_goes = record {
          name_is = q.hub_goes.name_is ∙ r.hub_goes.name_is;
          right_is = q.hub_goes.right_is;
          grows = prefix_trans (seen hub) (seen hub1) (seen hub2) r.hub_goes.grows q.hub_goes.grows;
          owned = (let e = rw r.hub_goes.name_is at q.hub_goes.owned in e ∙ r.hub_goes.owned);
          queue = q.hub_goes.queue ∙ r.hub_goes.queue;
        };
        len = q.len ∙ r.len;
        goes = λ k d lt.
            let a = r.goes k d lt in
            let b = q.goes k d (omega (arith, r.len, lt)) in
            record { name_is = b.name_is ∙ a.name_is; owned = (let e = rw a.name_is at b.owned in e ∙ a.owned) };
        holds = λ k d lt. prefix_trans (seen (get_or seats k d)) (seen hub1) (seen hub2) (r.holds k d lt) q.hub_goes.grows;
        one = λ k d lt. still.1 k d (omega (arith, r.len, lt)) ∙ sym still.0;
        legal = λ some. q.legal (omega (arith, r.len, some));
      }
