-- Lists that go on from what callers have seen.
use Rattle.std.proofs.Common.{cond, ◌≡◌, ℕ, zero, suc, ◌+◌, ◌<◌, ◌≤◌, Bool, true, false, List, [], ◌∷◌, ◌++◌}
use Rattle.std.proofs.Common.{length, refl, sym, ap, ◌∙◌, subst, inl, inr, arith, append_assoc, append-nil, eqb, eq-eqb, ne_eqb}
use Rattle.std.specs.List.{filter}
use Rattle.std.proofs.lemmas.List.Elements.{filter-append}
use Rattle.std.proofs.Math.Dec.{ltb}
use Rattle.std.proofs.lemmas.Bool.{ltb-true, ltb-false}
use native.Mathlib.Decide.{ℕ_discrete}
use mathlib.Core.Logic.{dite}
use Rattle.types.specs.declared.event.Entry.{Entry}
use Rattle.shared_memory.specs.Events.{is_of_queue}
use Rattle.shared_memory.specs.Memory.{Memory}
use Rattle.shared_memory.specs.History.{entries_of, of_queue}
use Rattle.shared_memory.specs.Access.{IsSeen, Meets}
use Rattle.shared_memory.proofs.Histories.{entries_of-quiet, of_queue-quiet}
use Rattle.shared_memory_on_table.specs.declared.view.Caller.{Caller}
use Rattle.shared_memory_on_table.specs.Callers.{GoesOn, AllGoOn, one_if, total_of, has_name, has_right, fresh_from}
use Rattle.shared_memory_on_table.specs.Moves.{first_of, others_of, longer, meeting}
use Rattle.shared_memory_on_table.proofs.Totals.{one_of_true, not_one}

abbrev L : Type 0
L = List Entry

nil_parts : (xs ys : L) → xs ++ ys ≡ [] → (xs ≡ []) × (ys ≡ [])
nil_parts [] ys e = (refl, e)
nil_parts (x ∷ xs) ys e = absurd (cc)

-- what a test keeps of two lists
pub none_of : (p : Entry → Bool) (xs ys : L) → filter p xs ≡ [] → filter p ys ≡ [] → filter p (xs ++ ys) ≡ []
none_of p xs ys a b = filter-append p xs ys ∙ (ap (λ l. l ++ filter p ys) a ∙ b)

pub none_in : (p : Entry → Bool) (xs ys : L) → filter p (xs ++ ys) ≡ [] → (filter p xs ≡ []) × (filter p ys ≡ [])
none_in p xs ys e = nil_parts (filter p xs) (filter p ys) (sym (filter-append p xs ys) ∙ e)

pub none_one : (p : Entry → Bool) (e : Entry) → p e ≡ false → filter p (e ∷ []) ≡ []
none_one p e h = rw h refl

-- of two beginnings of one list the longer begins with the shorter
pub between : (xs ys us vs : L) → xs ++ us ≡ ys ++ vs → length xs ≤ length ys → (more : L) × (ys ≡ xs ++ more) × (us ≡ more ++ vs)
between [] ys us vs e h = (ys, refl, e)
between (x ∷ xs) [] us vs e h = absurd (omega arith)
between (x ∷ xs) (y ∷ ys) us vs e h =
    let r = between xs ys us vs (cc (e)) (omega arith) in
    let heads : x ≡ y = cc (e) in
    (r.0, cc (heads, r.1), r.2)

-- a list goes on from itself
pub goes_on-self : (c : Caller) → GoesOn c c.seen
goes_on-self c = ([], record { list = sym (append-nil c.seen); apart = refl; quiet = λ _. refl })

-- what goes on from a caller's list keeps its entries, and with the queue right those of the queue
pub goes_on-entries : (c : Caller) (list : L) → GoesOn c list → entries_of c.name list ≡ entries_of c.name c.seen
goes_on-entries c list g = ap (entries_of c.name) g.1.list ∙ entries_of-quiet c.name c.seen g.0 g.1.apart

pub goes_on-queue : (c : Caller) (list : L) → GoesOn c list → c.has_queue_right ≡ true → of_queue list ≡ of_queue c.seen
goes_on-queue c list g right = ap of_queue g.1.list ∙ of_queue-quiet c.seen g.0 (g.1.quiet right)

-- the callers of two seats, and some of one
pub all_go_on-append : (cs ds : List Caller) (list : L) → AllGoOn cs list → AllGoOn ds list → AllGoOn (cs ++ ds) list
all_go_on-append [] ds list a b = b
all_go_on-append (c ∷ cs) ds list a b = (a.0, all_go_on-append cs ds list a.1 b)

pub all_go_on-first : (cs : List Caller) (list : L) → AllGoOn cs list → AllGoOn (first_of cs) list
all_go_on-first [] list a = tt
all_go_on-first (c ∷ cs) list a = (a.0, tt)

pub all_go_on-others : (cs : List Caller) (list : L) → AllGoOn cs list → AllGoOn (others_of cs) list
all_go_on-others [] list a = tt
all_go_on-others (c ∷ cs) list a = a.1

-- another's entry more
pub goes_on-push : (c : Caller) (list : L) (e : Entry) → eqb c.name e.thread ≡ false
    → (c.has_queue_right ≡ true → is_of_queue e.event ≡ false) → GoesOn c list → GoesOn c (list ++ e ∷ [])
goes_on-push c list e other quiet g =
    let apart : eqb e.thread c.name ≡ false = grind (arith, ne_eqb, eq-eqb) in (
      g.0 ++ e ∷ [],
      record {
        list = ap (λ (l : L). l ++ e ∷ []) g.1.list ∙ append_assoc c.seen g.0 (e ∷ []);
        apart = none_of (λ (x : Entry). eqb x.thread c.name) g.0 (e ∷ []) g.1.apart (none_one (λ (x : Entry). eqb x.thread c.name) e apart);
        quiet = λ right. none_of (λ (x : Entry). is_of_queue x.event) g.0 (e ∷ []) (g.1.quiet right)
            (none_one (λ (x : Entry). is_of_queue x.event) e (quiet right));
      },
    )

silent : (c : Caller) (e : Entry) → c.has_queue_right ≡ true → (is_of_queue e.event ≡ true → one_if c.has_queue_right ≡ 0) → is_of_queue e.event ≡ false
silent c e right h = by_test (is_of_queue e.event) refl
  where
    by_test : (b : Bool) → is_of_queue e.event ≡ b → is_of_queue e.event ≡ false
    by_test true t = absurd (let z = h t in let o = one_of_true c.has_queue_right right in omega arith)
    by_test false t = t

pub all_go_on-push : (cs : List Caller) (list : L) (e : Entry) → total_of (has_name e.thread) cs ≡ 0
    → (is_of_queue e.event ≡ true → total_of has_right cs ≡ 0) → AllGoOn cs list
    → AllGoOn cs (list ++ e ∷ [])
all_go_on-push [] list e names quiet a = tt
all_go_on-push (c ∷ cs) list e names quiet a = (
  goes_on-push c list e (not_one (eqb c.name e.thread) (omega arith)) (λ right. silent c e right (λ t. let q = quiet t in omega arith)) a.0,
  all_go_on-push cs list e (omega arith) (λ t. let q = quiet t in omega arith) a.1,
)

-- of two callers the first has seen as much as the second, or more
ahead : (a b : Caller) (list : L) → GoesOn a list → GoesOn b list → length b.seen ≤ length a.seen
    → GoesOn b a.seen × GoesOn (meeting a b a.seen) list × GoesOn (meeting b a a.seen) list
ahead a b list g h le =
    let m = between b.seen a.seen h.0 g.0 (sym h.1.list ∙ g.1.list) le in
    let mine : L → Type 0 = λ (l : L). entries_of b.name l ≡ [] in
    let own_parts = none_in (λ (x : Entry). eqb x.thread b.name) m.0 g.0 (subst mine m.2 h.1.apart) in
    let queue_parts = λ (p : b.has_queue_right ≡ true). none_in (λ (x : Entry). is_of_queue x.event) m.0 g.0
    (subst (λ (l : L). of_queue l ≡ []) m.2 (h.1.quiet p)) in (
      (m.0, record { list = m.1; apart = own_parts.0; quiet = λ p. (queue_parts p).0 }),
      (g.0, record { list = g.1.list; apart = g.1.apart; quiet = λ p. (queue_parts p).1 }),
      (g.0, record { list = g.1.list; apart = own_parts.1; quiet = g.1.quiet }),
    )

-- the longer list goes on from both, and the history goes on from what both are after the meeting
pub longer_goes_on : (a b : Caller) (list : L) → GoesOn a list → GoesOn b list
    → let l = longer a.seen b.seen in
    GoesOn a l × GoesOn b l × GoesOn (meeting a b l) list × GoesOn (meeting b a l) list
longer_goes_on a b list g h = by_test (ltb (length b.seen) (length a.seen)) refl
  where
    by_test : (t : Bool) → ltb (length b.seen) (length a.seen) ≡ t
        → let l : L = cond t a.seen b.seen in
        GoesOn a l × GoesOn b l × GoesOn (meeting a b l) list × GoesOn (meeting b a l) list
    by_test true e = let r = ahead a b list g h (let z = ltb-true (length b.seen) (length a.seen) e in omega arith) in (goes_on-self a, r.0, r.1, r.2)
    by_test false e = let r = ahead b a list h g (ltb-false (length b.seen) (length a.seen) e) in (r.0, goes_on-self b, r.2, r.1)

-- a meeting is one of the trait's
pub meets : (opening : Memory) (a b : Caller) → let l = longer b.seen a.seen in
    GoesOn a l → GoesOn b l → IsSeen opening a.seen → IsSeen opening b.seen → Meets opening a.name b.name a.has_queue_right b.has_queue_right a.seen b.seen l
meets opening a b g h seen_a seen_b = by_test (ltb (length a.seen) (length b.seen)) g h
  where
    by_test : (t : Bool) → GoesOn a (cond t b.seen a.seen) → GoesOn b (cond t b.seen a.seen)
        → Meets opening a.name b.name a.has_queue_right b.has_queue_right a.seen b.seen (cond t b.seen a.seen)
    by_test true g h = record {
      longer = inr refl;
      begins_a = (g.0, sym g.1.list);
      begins_b = (h.0, sym h.1.list);
      own_a = goes_on-entries a b.seen g;
      own_b = goes_on-entries b b.seen h;
      quiet_a = goes_on-queue a b.seen g;
      quiet_b = goes_on-queue b b.seen h;
      seen = seen_b;
    }
    by_test false g h = record {
      longer = inl refl;
      begins_a = (g.0, sym g.1.list);
      begins_b = (h.0, sym h.1.list);
      own_a = goes_on-entries a a.seen g;
      own_b = goes_on-entries b a.seen h;
      quiet_a = goes_on-queue a a.seen g;
      quiet_b = goes_on-queue b a.seen h;
      seen = seen_a;
    }

-- new callers: each name once, and nothing seen
no_names : (count n m : ℕ) → m < n → total_of (has_name m) (fresh_from count n) ≡ 0
no_names zero n m h = refl
no_names (suc count) n m h = let r = no_names count (n + 1) m (omega arith) in let other : eqb n m ≡ false = ne_eqb n m (λ e. omega arith) in
    let z : one_if (eqb n m) ≡ 0 = ap one_if other in omega arith

pub names_once : (count n m : ℕ) → total_of (has_name m) (fresh_from count n) ≤ 1
names_once zero n m = omega arith
names_once (suc count) n m = dite (ℕ_discrete n m)
    (λ is. let z : one_if (eqb n m) ≡ 1 = ap one_if (eq-eqb n m is) in let r = no_names count (n + 1) m (omega arith) in omega arith)
    (λ not. let z : one_if (eqb n m) ≡ 0 = ap one_if (ne_eqb n m not) in let r = names_once count (n + 1) m in omega arith)

pub fresh_go_on : (count n : ℕ) → AllGoOn (fresh_from count n) []
fresh_go_on zero n = tt
fresh_go_on (suc count) n = (([], record { list = refl; apart = refl; quiet = λ _. refl }), fresh_go_on count (n + 1))
