-- Who sleeps at an address, as sleepers are gone through, and entries.
use Rattle.std.proofs.Common.{◌≡◌, ◌∙◌, ℕ, ◌+◌, ◌-◌, ◌<◌, ◌≤◌, min, Bool, true, false, cond, eqb, ltb, ◌&&◌, List, [], ◌∷◌, ◌++◌}
use Rattle.std.proofs.Common.{length, map, take, drop, get_or, Option, Some, None, option_and_then, append_assoc, add-one, refl, sym, ap, subst, arith}
use Rattle.std.specs.List.{slice_get, filter, filter_map, flat_map, range_with_len}
use Rattle.std.specs.Option.{option_to_list}
use Rattle.std.proofs.lemmas.Bool.{eqb-true, ltb-true, ltb-false, eq-eqb, ne_eqb, cond-true, cond-false}
use Rattle.std.proofs.lemmas.List.{append-nil, take_more, take_all, take-append-le, drop-append-le, drop_all, drop_min}
use Rattle.std.proofs.lemmas.List.{drop-drop, length_push, map_push, map-id}
use Rattle.std.proofs.lemmas.List.Concat.{flat_map-append}
use Rattle.std.proofs.lemmas.List.Elements.{filter-append, filter_map-append}
use Rattle.std.proofs.lemmas.List.FromFn.{map-range_with_len_more}
use Rattle.std.proofs.lemmas.Option.{slice_get-get_or}
use Rattle.types.specs.declared.event.Entry.{Entry}
use Rattle.show_text.specs.declared.context.Context.{Context}
use Rattle.show_text.specs.declared.woken.Wake.{Wake}
use Rattle.show_text.specs.declared.woken.NotifyCall.{NotifyCall}
use Rattle.show_text.specs.declared.woken.Waking.{Waking}
use Rattle.show_text.specs.declared.woken.SleepingThread.{SleepingThread}
use Rattle.show_text.specs.Woken.{is_at, left_behind, kept_of, woken_of, wake_of, most_by, woken_from, sleeper_by}
use Rattle.show_text.specs.Woken.{sleeper_at, asleep, notified_by, notified_at, woken_before, line_at, woken_by}

filter_off : (p : SleepingThread → Bool) (xs : List SleepingThread) (s : SleepingThread) → p s ≡ false → filter p (xs ++ s ∷ []) ≡ filter p xs
filter_off p xs s e =
    filter-append p xs (s ∷ []) ∙ (ap (λ (b : Bool). filter p xs ++ cond b (s ∷ []) []) e ∙ append-nil (filter p xs))

filter_on : (p : SleepingThread → Bool) (xs : List SleepingThread) (s : SleepingThread) → p s ≡ true → filter p (xs ++ s ∷ []) ≡ filter p xs ++ s ∷ []
filter_on p xs s e = filter-append p xs (s ∷ []) ∙ ap (λ (b : Bool). filter p xs ++ cond b (s ∷ []) []) e

-- One more is kept, or gone.
kept_more : (p : SleepingThread → Bool) (m : ℕ) (kept gone : List SleepingThread) (s : SleepingThread) (b : Bool) → p s ≡ b
    → (b ≡ true → m ≤ length (filter p gone)) → filter p kept ≡ drop m (filter p gone)
    → filter p (kept ++ s ∷ []) ≡ drop m (filter p (gone ++ s ∷ []))
kept_more p m kept gone s false e within h = filter_off p kept s e ∙ (h ∙ ap (drop m) (sym (filter_off p gone s e)))
kept_more p m kept gone s true e within h =
    filter_on p kept s e ∙ (ap (λ (xs : List SleepingThread). xs ++ s ∷ []) h
    ∙ (sym (drop-append-le m (filter p gone) (s ∷ []) (within refl)) ∙ ap (drop m) (sym (filter_on p gone s e))))

gone_more : (p : SleepingThread → Bool) (m : ℕ) (kept gone : List SleepingThread) (s : SleepingThread) (b : Bool) → p s ≡ b
    → (b ≡ true → length (filter p gone) < m) → filter p kept ≡ drop m (filter p gone)
    → filter p (kept ++ []) ≡ drop m (filter p (gone ++ s ∷ []))
gone_more p m kept gone s false e short h =
    ap (filter p) (append-nil kept) ∙ (h ∙ ap (drop m) (sym (filter_off p gone s e)))
gone_more p m kept gone s true e short h =
    let lt : length (filter p gone) < m = short refl in
    let old : drop m (filter p gone) ≡ [] = drop_all m (filter p gone) (omega (arith, lt)) in
    let new : drop m (filter p gone ++ s ∷ []) ≡ [] = drop_all m (filter p gone ++ s ∷ []) (omega (arith, lt, length_push (filter p gone) s)) in
    ap (filter p) (append-nil kept) ∙ (h ∙ (old ∙ sym (ap (drop m) (filter_on p gone s e) ∙ new)))

-- A notify with so many to wake has come past some sleepers.
pub record IsPast (notify addr most : ℕ) (before : List Wake) (gone : List SleepingThread) (left : ℕ) (kept : List SleepingThread) (wakes : List Wake) :
    Type 0 where
  left_is : left ≡ most - length (filter (is_at addr) gone)
  wakes_are : wakes ≡ before ++ map (wake_of notify) (take most (filter (is_at addr) gone))
  kept_are : (other : ℕ) → filter (is_at other) kept ≡ drop (cond (eqb addr other) most 0) (filter (is_at other) gone)

pub past_none : (notify addr most : ℕ) (before : List Wake) → IsPast notify addr most before [] most [] before
past_none notify addr most before = record {
  left_is = omega arith;
  wakes_are = sym (ap (λ (xs : List SleepingThread). before ++ map (wake_of notify) xs) (take_all most [] (omega arith)) ∙ append-nil before);
  kept_are = λ other. sym (drop_all (cond (eqb addr other) most 0) [] (omega arith));
}

same_addr : (s : SleepingThread) (a b : ℕ) → is_at a s ≡ true → is_at b s ≡ true → a ≡ b
same_addr s a b e f = sym (eqb-true s.addr a e) ∙ eqb-true s.addr b f

both_ways : (b : Bool) → b ≡ true → b ≡ false → ⊥
both_ways b t f = cc

past_by : (notify addr most left : ℕ) (before wakes : List Wake) (gone kept : List SleepingThread) (s : SleepingThread) (here more : Bool)
    → is_at addr s ≡ here → ltb 0 left ≡ more → IsPast notify addr most before gone left kept wakes
    → IsPast notify addr most before (gone ++ s ∷ []) (cond (here && more) (left - 1) left)
    (kept ++ cond (here && more) [] (s ∷ [])) (wakes ++ cond (here && more) (wake_of notify s ∷ []) [])
past_by notify addr most left before wakes gone kept s false more here_is more_is h = record {
  left_is = h.left_is ∙ ap (λ (xs : List SleepingThread). most - length xs) (sym (filter_off (is_at addr) gone s here_is));
  wakes_are = append-nil wakes ∙ (h.wakes_are ∙ ap (λ (xs : List SleepingThread). before ++ map (wake_of notify) (take most xs))
      (sym (filter_off (is_at addr) gone s here_is)));
  kept_are = λ other. kept_more (is_at other) (cond (eqb addr other) most 0) kept gone s (is_at other s) refl
      (λ on. let none : cond (eqb addr other) most 0 ≡ 0 = cond-false (eqb addr other) most 0 (ne_eqb addr other (apart other on)) in
      omega (arith, none)) (h.kept_are other);
}
  where
    apart : (other : ℕ) → is_at other s ≡ true → addr ≡ other → ⊥
    apart other on e = both_ways (is_at addr s) (subst (λ (k : ℕ). is_at k s ≡ true) (sym e) on) here_is
past_by notify addr most left before wakes gone kept s true false here_is more_is h =
    let there : List SleepingThread = filter (is_at addr) gone in
    let le : most ≤ length there = omega (arith, h.left_is, ltb-false 0 left more_is) in
    let more_there : filter (is_at addr) (gone ++ s ∷ []) ≡ there ++ s ∷ [] = filter_on (is_at addr) gone s here_is in
    record {
      left_is = omega (arith, le, h.left_is, ap length more_there, length_push there s);
      wakes_are = append-nil wakes ∙ (h.wakes_are ∙ ap (λ (xs : List SleepingThread). before ++ map (wake_of notify) xs)
          (sym (ap (take most) more_there ∙ take-append-le most there (s ∷ []) le)));
      kept_are = λ other. kept_more (is_at other) (cond (eqb addr other) most 0) kept gone s (is_at other s) refl
          (λ on. subst (λ (k : ℕ). cond (eqb addr k) most 0 ≤ length (filter (is_at k) gone)) (same_addr s addr other here_is on)
          (let all : cond (eqb addr addr) most 0 ≡ most = cond-true (eqb addr addr) most 0 (eq-eqb addr addr refl) in omega (arith, all, le)))
          (h.kept_are other);
    }
past_by notify addr most left before wakes gone kept s true true here_is more_is h =
    let there : List SleepingThread = filter (is_at addr) gone in
    let lt : length there < most = omega (arith, h.left_is, ltb-true 0 left more_is) in
    let more_there : filter (is_at addr) (gone ++ s ∷ []) ≡ there ++ s ∷ [] = filter_on (is_at addr) gone s here_is in
    let was : take most there ≡ there = take_all most there (omega (arith, lt)) in
    let now : take most (filter (is_at addr) (gone ++ s ∷ [])) ≡ there ++ s ∷ [] =
    ap (take most) more_there ∙ take_all most (there ++ s ∷ []) (omega (arith, lt, length_push there s)) in
    let mk : List SleepingThread → List Wake = λ xs. map (wake_of notify) xs in
    record {
      left_is = omega (arith, lt, h.left_is, ap length more_there, length_push there s);
      wakes_are = ap (λ (ws : List Wake). ws ++ wake_of notify s ∷ []) (h.wakes_are ∙ ap (λ (xs : List SleepingThread). before ++ mk xs) was)
          ∙ (append_assoc before (mk there) (wake_of notify s ∷ [])
          ∙ ap (λ (ws : List Wake). before ++ ws) (sym (ap mk now ∙ map_push (wake_of notify) there s)));
      kept_are = λ other. gone_more (is_at other) (cond (eqb addr other) most 0) kept gone s (is_at other s) refl
          (λ on. subst (λ (k : ℕ). length (filter (is_at k) gone) < cond (eqb addr k) most 0) (same_addr s addr other here_is on)
          (let all : cond (eqb addr addr) most 0 ≡ most = cond-true (eqb addr addr) most 0 (eq-eqb addr addr refl) in omega (arith, all, lt)))
          (h.kept_are other);
    }

pub past_next : (w v : Waking) (most : ℕ) (before : List Wake) (sleepers : List SleepingThread) (k : ℕ) (d : SleepingThread) (wakes new : List Wake)
    → k < length sleepers → (v.notify ≡ w.notify) × (v.addr ≡ w.addr) → v.left ≡ left_behind w (get_or sleepers k d)
    → v.kept.items ≡ w.kept.items ++ kept_of w (get_or sleepers k d) → new ≡ wakes ++ woken_of w (get_or sleepers k d)
    → IsPast w.notify w.addr most before (take k sleepers) w.left w.kept.items wakes
    → IsPast v.notify v.addr most before (take (k + 1) sleepers) v.left v.kept.items new
past_next w v most before sleepers k d wakes new lt same left kept adds h =
    rw (same.0, same.1, left, kept, adds, take_more sleepers k d lt)
    (past_by w.notify w.addr most w.left before wakes (take k sleepers) w.kept.items (get_or sleepers k d)
    (is_at w.addr (get_or sleepers k d)) (ltb 0 w.left) refl refl h)

-- Behind them all.
pub woken_all : (notify : ℕ) (notified : NotifyCall) (n a left k : ℕ) (before wakes : List Wake) (sleepers kept : List SleepingThread)
    → length sleepers ≤ k → n ≡ notify → a ≡ notified.addr
    → IsPast n a notified.most before (take k sleepers) left kept wakes
    → wakes ≡ before ++ woken_from notify (Some notified) (λ addr. filter (is_at addr) sleepers)
woken_all notify notified n a left k before wakes sleepers kept le is_n is_a h =
    h.wakes_are ∙ rw (is_n, is_a, take_all k sleepers le)

pub kept_all : (notify : ℕ) (notified : NotifyCall) (n a left k : ℕ) (before wakes : List Wake) (sleepers kept : List SleepingThread)
    → length sleepers ≤ k → n ≡ notify → a ≡ notified.addr
    → IsPast n a notified.most before (take k sleepers) left kept wakes
    → (addr : ℕ) → filter (is_at addr) kept ≡ drop (most_by addr (Some notified)) (filter (is_at addr) sleepers)
kept_all notify notified n a left k before wakes sleepers kept le is_n is_a h addr =
    h.kept_are addr ∙ rw (is_a, take_all k sleepers le)

-- One more entry.
range_more : (n : ℕ) → range_with_len 0 (n + 1) ≡ range_with_len 0 n ++ n ∷ []
range_more n =
    let same : ℕ → ℕ = λ k. k in
    sym (map-id (range_with_len 0 (n + 1))) ∙ (map-range_with_len_more same 0 n n (omega arith)
    ∙ ap (λ (ks : List ℕ). ks ++ n ∷ []) (map-id (range_with_len 0 n)))

single : {X Y : Type 0} (h : X → Option Y) (x : X) (o : Option Y) → h x ≡ o → filter_map h (x ∷ []) ≡ option_to_list o
single h x None e = simp e
single h x (Some y) e = simp e

asleep_more : (log : List Entry) (contexts : List Context) (addr n : ℕ)
    → asleep log contexts addr (n + 1) ≡ asleep log contexts addr n ++ filter (is_at addr) (option_to_list (sleeper_at log contexts n))
asleep_more log contexts addr n =
    let h : ℕ → Option SleepingThread = sleeper_at log contexts in
    let past : List ℕ = range_with_len 0 n in
    ap (λ (ks : List ℕ). filter (is_at addr) (filter_map h ks)) (range_more n)
    ∙ (ap (filter (is_at addr)) (filter_map-append h past (n ∷ [])
    ∙ ap (λ (xs : List SleepingThread). filter_map h past ++ xs) (single h n (h n) refl))
    ∙ filter-append (is_at addr) (filter_map h past) (option_to_list (h n)))

line_more : (log : List Entry) (contexts : List Context) (addr n : ℕ) → line_at log contexts (n + 1) addr
    ≡ drop (most_by addr (notified_at log contexts n)) (line_at log contexts n addr)
    ++ filter (is_at addr) (option_to_list (sleeper_at log contexts n))
line_more log contexts addr n =
    let xs : List SleepingThread = asleep log contexts addr n in
    let ys : List SleepingThread = filter (is_at addr) (option_to_list (sleeper_at log contexts n)) in
    let was : ℕ = woken_before log contexts addr n in
    let m : ℕ = most_by addr (notified_at log contexts n) in
    ap (λ (k : ℕ). drop (woken_before log contexts addr k) (asleep log contexts addr (n + 1))) (add-one n)
    ∙ (ap (drop (min (was + m) (length xs))) (asleep_more log contexts addr n)
    ∙ (drop-append-le (min (was + m) (length xs)) xs ys (omega arith)
    ∙ ap (λ (zs : List SleepingThread). zs ++ ys) (drop_min (was + m) xs ∙ sym (drop-drop m was xs))))

same_list : (xs ys : List SleepingThread) → xs ≡ ys → ys ≡ xs
same_list xs ys e = sym e

-- Who sleeps behind one more entry, and whom it woke.
pub line_next : (log : List Entry) (contexts : List Context) (n : ℕ) (notified : Option NotifyCall) (sleeper : Option SleepingThread)
    (old mid new : List SleepingThread) → notified ≡ notified_at log contexts n → sleeper ≡ sleeper_at log contexts n
    → ((addr : ℕ) → filter (is_at addr) old ≡ line_at log contexts n addr)
    → ((addr : ℕ) → filter (is_at addr) mid ≡ drop (most_by addr notified) (filter (is_at addr) old))
    → new ≡ mid ++ option_to_list sleeper
    → (addr : ℕ) → filter (is_at addr) new ≡ line_at log contexts (n + 1) addr
line_next log contexts n notified sleeper old mid new is_notified is_sleeper line kept adds addr =
    ap (filter (is_at addr)) adds ∙ (filter-append (is_at addr) mid (option_to_list sleeper)
    ∙ (ap (λ (xs : List SleepingThread). xs ++ filter (is_at addr) (option_to_list sleeper))
    (kept addr ∙ (ap (drop (most_by addr notified)) (line addr)
    ∙ ap (λ (o : Option NotifyCall). drop (most_by addr o) (line_at log contexts n addr)) is_notified))
    ∙ (ap (λ (o : Option SleepingThread). drop (most_by addr (notified_at log contexts n)) (line_at log contexts n addr)
    ++ filter (is_at addr) (option_to_list o)) is_sleeper ∙ sym (line_more log contexts addr n))))

same_woken : (n : ℕ) (o : Option NotifyCall) (f g : ℕ → List SleepingThread) → ((addr : ℕ) → f addr ≡ g addr) → woken_from n o f ≡ woken_from n o g
same_woken n None f g same = refl
same_woken n (Some notified) f g same = ap (λ (xs : List SleepingThread). map (wake_of n) (take notified.most xs)) (same notified.addr)

pub all_more : {X : Type 0} (f : ℕ → List X) (n : ℕ) → flat_map f (range_with_len 0 (n + 1)) ≡ flat_map f (range_with_len 0 n) ++ f n
all_more {X} f n = ap (flat_map f) (range_more n) ∙ (flat_map-append f (range_with_len 0 n) (n ∷ [])
    ∙ ap (λ (xs : List X). flat_map f (range_with_len 0 n) ++ xs) (append-nil (f n)))

pub wakes_next : (log : List Entry) (contexts : List Context) (n : ℕ) (notified : Option NotifyCall) (old : List SleepingThread)
    (before mid new : List Wake) → notified ≡ notified_at log contexts n
    → ((addr : ℕ) → filter (is_at addr) old ≡ line_at log contexts n addr)
    → before ≡ flat_map (woken_by log contexts) (range_with_len 0 n)
    → mid ≡ before ++ woken_from n notified (λ addr. filter (is_at addr) old) → new ≡ mid
    → new ≡ flat_map (woken_by log contexts) (range_with_len 0 (n + 1))
wakes_next log contexts n notified old before mid new is_notified line was adds same =
    let lines : ℕ → List SleepingThread = λ addr. filter (is_at addr) old in
    let here : woken_from n notified lines ≡ woken_by log contexts n =
    same_woken n notified lines (line_at log contexts n) line
    ∙ ap (λ (o : Option NotifyCall). woken_from n o (line_at log contexts n)) is_notified in
    same ∙ (adds ∙ (ap (λ (ws : List Wake). ws ++ woken_from n notified lines) was
    ∙ (ap (λ (ws : List Wake). flat_map (woken_by log contexts) (range_with_len 0 n) ++ ws) here
    ∙ sym (all_more (woken_by log contexts) n))))

-- What the entry at a place is for those who sleep.
pub notified_is : (log : List Entry) (contexts : List Context) (at : ℕ) (d : Entry) (context : Option Context) (o : Option NotifyCall)
    → at < length log → context ≡ slice_get contexts at → o ≡ notified_by context (get_or log at d).event → o ≡ notified_at log contexts at
notified_is log contexts at d context o lt is e =
    e ∙ (ap (λ (c : Option Context). notified_by c (get_or log at d).event) is
    ∙ sym (ap (option_and_then (λ (made : Entry). notified_by (slice_get contexts at) made.event)) (slice_get-get_or log at d lt)))

pub sleeper_is : (log : List Entry) (contexts : List Context) (at : ℕ) (d : Entry) (context : Option Context) (o : Option SleepingThread)
    → at < length log → context ≡ slice_get contexts at → o ≡ sleeper_by at context (get_or log at d) → o ≡ sleeper_at log contexts at
sleeper_is log contexts at d context o lt is e =
    e ∙ (ap (λ (c : Option Context). sleeper_by at c (get_or log at d)) is
    ∙ sym (ap (option_and_then (sleeper_by at (slice_get contexts at))) (slice_get-get_or log at d lt)))
