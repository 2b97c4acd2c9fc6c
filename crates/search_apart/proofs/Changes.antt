-- What an event makes of the memory, and what that leaves of another event.
use Rattle.std.proofs.Common.{◌≡◌, ℕ, ◌+◌, ◌*◌, ◌/◌, ◌==◌, ◌≤◌, inl, inr, Bool, true, false}
use Rattle.std.proofs.Common.{true≢false, List, length, take, drop, refl, sym, ap, ◌∙◌, subst, arith, length-append}
use Rattle.std.specs.Prelude.{◌&&◌, nat_le, nat_lt, if◌then◌else◌, replicate}
use Rattle.std.specs.List.{splice}
use Rattle.std.proofs.lemmas.Bool.{and_cases, leb-true, le-leb, ltb-false}
use Rattle.allowed_races.specs.declared.allowed.Allowed.{Allowed}
use Rattle.types.specs.declared.event.Event.{Event}
use Rattle.types.specs.declared.event.Event.TheVariants.{Size, Grow, Load, Store, Rmw, Cmpxchg, Ask, Told}
use Rattle.types.specs.declared.event.Question.TheVariants.{Wait, Notify, Spawn, Leave}
use Rattle.types.specs.declared.event.Reply.TheVariants.{Value, Done, OutOfBounds}
use Rattle.types.specs.declared.limits.TheConstants.{PAGE_SIZE}
use Rattle.shared_memory.specs.Numbers.{le_number, le_bytes}
use Rattle.shared_memory.specs.Memory.{Memory, pages, loaded, written, combined, can_grow, grown, if_within, reply_of, state_after}
use Rattle.shared_memory.proofs.Numbers.{length-le_bytes}
use Rattle.search_settled.specs.declared.access.NextAccess.{NextAccess}
use Rattle.search_runs.specs.Accesses.{no_bytes, look, growth, in_bounds, with_timeout, access_by, judged}
use Rattle.search_runs.proofs.Bytes as bytes
use Rattle.search_runs.proofs.Plain.{Apart, swap-writes}
use Rattle.search_apart.specs.Acts.{Deed, Nothing, Grows, looks_past, deed_of, have_common}
use Rattle.search_apart.proofs.Stepping.{EndsWithin}

-- It stays, so many bytes are written, or it grows by so many pages.
pub data Change : Type 0 where
  Stays : Change
  Writes : ℕ → ℕ → ℕ → Change
  Longer : ℕ → Change

abbrev pub changed : Memory → Change → Memory
changed m Stays = m
changed m (Writes a w n) = written m a w n
changed m (Longer more) = grown m more

abbrev pub change_of : Memory → Event → Change
change_of m Size = Stays
change_of m (Grow more) = if can_grow m more then Longer more else Stays
change_of m (Load addr width reach) = Stays
change_of m (Store addr width reach value) = if_within m reach (Writes addr width value) Stays
change_of m (Rmw op addr width value) =
    if_within m (addr + width) (Writes addr width (combined op width (loaded m addr width) value)) Stays
change_of m (Cmpxchg addr width expected replacement) =
    if_within m (addr + width) (if loaded m addr width == expected then Writes addr width replacement else Stays) Stays
change_of m (Ask question) = Stays
change_of m (Told answer) = Stays

changed-if : (m : Memory) (t : Bool) (c : Change) → (if t then changed m c else m) ≡ changed m (if t then c else Stays)
changed-if m true c = refl
changed-if m false c = refl

changed-ifs : (m : Memory) (s t : Bool) (c : Change) → (if s then (if t then changed m c else m) else m)
    ≡ changed m (if s then (if t then c else Stays) else Stays)
changed-ifs m true t c = changed-if m t c
changed-ifs m false t c = refl

pub is-changed : (m : Memory) (e : Event) → state_after m e ≡ changed m (change_of m e)
is-changed m Size = refl
is-changed m (Grow more) = changed-if m (can_grow m more) (Longer more)
is-changed m (Load addr width reach) = refl
is-changed m (Store addr width reach value) = changed-if m (nat_le reach (length m.bytes)) (Writes addr width value)
is-changed m (Rmw op addr width value) =
    changed-if m (nat_le (addr + width) (length m.bytes)) (Writes addr width (combined op width (loaded m addr width) value))
is-changed m (Cmpxchg addr width expected replacement) =
    changed-ifs m (nat_le (addr + width) (length m.bytes)) (loaded m addr width == expected) (Writes addr width replacement)
is-changed m (Ask question) = refl
is-changed m (Told answer) = refl

-- What is written lies within.
abbrev pub IsIn : Memory → Change → Type 0
IsIn m Stays = Unit {0}
IsIn m (Writes a w n) = a + w ≤ length m.bytes
IsIn m (Longer more) = Unit {0}

in-if : (m : Memory) (t : Bool) (c : Change) → (t ≡ true → IsIn m c) → IsIn m (if t then c else Stays)
in-if m true c h = h refl
in-if m false c h = tt

pub change-in : (m : Memory) (e : Event) → EndsWithin e → IsIn m (change_of m e)
change-in m Size ends = tt
change-in m (Grow more) ends = in-if m (can_grow m more) (Longer more) (λ t. tt)
change-in m (Load addr width reach) ends = tt
change-in m (Store addr width reach value) ends = in-if m (nat_le reach (length m.bytes)) (Writes addr width value)
    (λ t. let within = leb-true reach (length m.bytes) t in omega (arith, ends, within))
change-in m (Rmw op addr width value) ends =
    in-if m (nat_le (addr + width) (length m.bytes)) (Writes addr width (combined op width (loaded m addr width) value))
    (λ t. leb-true (addr + width) (length m.bytes) t)
change-in m (Cmpxchg addr width expected replacement) ends =
    in-if m (nat_le (addr + width) (length m.bytes)) (if loaded m addr width == expected then Writes addr width replacement else Stays)
    (λ t. in-if m (loaded m addr width == expected) (Writes addr width replacement) (λ s. leb-true (addr + width) (length m.bytes) t))
change-in m (Ask question) ends = tt
change-in m (Told answer) ends = tt

-- What the change does is in the access and the deed.
abbrev pub IsBy : NextAccess → Deed → Change → Type 0
IsBy a d Stays = Unit {0}
IsBy a d (Writes addr width n) = (a.addr ≡ addr) × (a.width ≡ width) × (a.writes ≡ true)
IsBy a d (Longer more) = d ≡ Grows

by-growth : (opening more : ℕ) (t : Bool) → IsBy (if t then growth opening else no_bytes) (if t then Grows else Nothing) (if t then Longer more else Stays)
by-growth opening more true = refl
by-growth opening more false = tt

by-write : (s : Bool) (x y : NextAccess) (d : Deed) (a w n : ℕ) → x.addr ≡ a → x.width ≡ w → x.writes ≡ true
    → IsBy (if s then x else y) d (if s then Writes a w n else Stays)
by-write true x y d a w n p q r = (p, q, r)
by-write false x y d a w n p q r = tt

by-some : (x : NextAccess) (d : Deed) (t : Bool) (a w n : ℕ) → x.addr ≡ a → x.width ≡ w → x.writes ≡ t → IsBy x d (if t then Writes a w n else Stays)
by-some x d true a w n p q r = (p, q, r)
by-some x d false a w n p q r = tt

by-swap : (s : Bool) (x y : NextAccess) (d : Deed) (t : Bool) (a w n : ℕ) → x.addr ≡ a → x.width ≡ w → x.writes ≡ t
    → IsBy (if s then x else y) d (if s then (if t then Writes a w n else Stays) else Stays)
by-swap true x y d t a w n p q r = by-some x d t a w n p q r
by-swap false x y d t a w n p q r = tt

pub change-by : (opening : ℕ) (m : Memory) (p : Bool) (e : Event) → IsBy (access_by opening m p e) (deed_of m e) (change_of m e)
change-by opening m p Size = tt
change-by opening m p (Grow more) = by-growth opening more (can_grow m more)
change-by opening m p (Load addr width reach) = tt
change-by opening m p (Store addr width reach value) = by-write (nat_le reach (length m.bytes)) _ look Nothing addr width value refl refl refl
change-by opening m p (Rmw op addr width value) =
    by-write (nat_le (addr + width) (length m.bytes)) _ look Nothing addr width (combined op width (loaded m addr width) value) refl refl refl
change-by opening m p (Cmpxchg addr width expected replacement) =
    by-swap (nat_le (addr + width) (length m.bytes)) _ look Nothing (loaded m addr width == expected) addr width replacement refl refl refl
change-by opening m p (Ask question) = tt
change-by opening m p (Told answer) = tt

-- what may race changes none of this
pub judged-by : (allowed : Allowed) (a : NextAccess) (d : Deed) (c : Change) → IsBy a d c → IsBy (judged allowed a) d c
judged-by allowed a d Stays h = tt
judged-by allowed a d (Writes addr width n) h = (h.0, h.1, h.2)
judged-by allowed a d (Longer more) h = h

-- ---- What a change leaves

-- A change touches what an access finds.
abbrev pub touches : NextAccess → Bool → Change → Bool
touches a looks Stays = false
touches a looks (Writes b v n) = have_common a.addr a.width b v
touches a looks (Longer more) = looks

pub judged-touches : (allowed : Allowed) (a : NextAccess) (looks : Bool) (c : Change) → touches (judged allowed a) looks c ≡ touches a looks c
judged-touches allowed a looks Stays = refl
judged-touches allowed a looks (Writes b v n) = refl
judged-touches allowed a looks (Longer more) = refl

pub apart-from : (a w b v : ℕ) → have_common a w b v ≡ false → Apart a w b v
apart-from a w b v h = elim (and_cases (nat_lt 0 w && nat_lt 0 v) (nat_lt a (b + v) && nat_lt b (a + w)) h) [
  | inl none ↦ elim (and_cases (nat_lt 0 w) (nat_lt 0 v) none) [
    | inl x ↦ inl (let y = ltb-false 0 w x in omega (arith, y))
    | inr x ↦ inr (inl (let y = ltb-false 0 v x in omega (arith, y)))
  ]
  | inr none ↦ elim (and_cases (nat_lt a (b + v)) (nat_lt b (a + w)) none) [
    | inl x ↦ inr (inr (inr (ltb-false a (b + v) x)))
    | inr x ↦ inr (inr (inl (ltb-false b (a + w) x)))
  ]
]

apart-back : (a w b v : ℕ) → Apart a w b v → Apart b v a w
apart-back a w b v (inl h) = inr (inl h)
apart-back a w b v (inr (inl h)) = inl h
apart-back a w b v (inr (inr (inl h))) = inr (inr (inr h))
apart-back a w b v (inr (inr (inr h))) = inr (inr (inl h))

-- what is read apart from what is written within
loaded-apart : (m : Memory) (a w n b v : ℕ) → Apart a w b v → a + w ≤ length m.bytes → loaded (written m a w n) b v ≡ loaded m b v
loaded-apart m a w n b v apart within = ap le_number (by apart)
  where
    by : Apart a w b v → take v (drop b (splice m.bytes a (a + w) (le_bytes w n))) ≡ take v (drop b m.bytes)
    by (inl none) = ap (λ l. take v (drop b l)) (bytes.splice-none m.bytes a w (le_bytes w n) none (length-le_bytes w n))
    by (inr (inl none)) =
        subst (λ k. take k (drop b (splice m.bytes a (a + w) (le_bytes w n))) ≡ take k (drop b m.bytes)) (sym none) refl
    by (inr (inr (inl low))) =
        ap (take v) (bytes.after m.bytes (le_bytes w n) a w b (length-le_bytes w n) within low)
    by (inr (inr (inr high))) = bytes.before m.bytes (le_bytes w n) a (a + w) b v high (omega (arith, high, within))

-- An access within bounds.
abbrev access_with : Bool → Bool → Bool → Bool → ℕ → ℕ → ℕ → NextAccess
access_with plain reads writes hangs addr width reach = record {
  plain = plain && nat_le (addr + width) reach;
  reads = reads;
  writes = writes;
  is_conditional = hangs;
  is_timed = false;
  is_allowed = false;
  addr = addr;
  width = width;
}

-- An event finds the same in both memories: as many bytes as far as it asks, and what it loads.
abbrev IsTested : Memory → Memory → ℕ → Type 0
IsTested m z end = nat_le end (length z.bytes) ≡ nat_le end (length m.bytes)

abbrev IsLoaded : Memory → Memory → ℕ → ℕ → ℕ → Type 0
IsLoaded m z addr width end = nat_le end (length m.bytes) ≡ true → loaded z addr width ≡ loaded m addr width

abbrev Finds : Memory → Memory → Event → Type 0
Finds m z Size = length z.bytes ≡ length m.bytes
Finds m z (Grow more) = (length z.bytes ≡ length m.bytes) × (z.max ≡ m.max)
Finds m z (Load addr width reach) = IsTested m z reach × IsLoaded m z addr width reach
Finds m z (Store addr width reach value) = IsTested m z reach
Finds m z (Rmw op addr width value) = IsTested m z (addr + width) × IsLoaded m z addr width (addr + width)
Finds m z (Cmpxchg addr width expected replacement) = IsTested m z (addr + width) × IsLoaded m z addr width (addr + width)
Finds m z (Ask (Wait addr width expected timeout)) = IsTested m z (addr + width) × IsLoaded m z addr width (addr + width)
Finds m z (Ask (Notify addr count)) = IsTested m z (addr + 4)
Finds m z (Ask (Spawn arg)) = Unit {0}
Finds m z (Ask Leave) = Unit {0}
Finds m z (Told answer) = Unit {0}

-- So it does the same.
pub record IsSame (opening : ℕ) (p : Bool) (m z : Memory) (e : Event) : Type 0 where
  pub reply : reply_of z e ≡ reply_of m e
  pub change : change_of z e ≡ change_of m e
  pub access : access_by opening z p e ≡ access_by opening m p e
  pub deed : deed_of z e ≡ deed_of m e

same-if : {B : Type 0} (s t : Bool) (x y z : B) → s ≡ t → (t ≡ true → x ≡ y) → (if s then x else z) ≡ (if t then y else z)
same-if true true x y z e h = h refl
same-if true false x y z e h = absurd (true≢false e)
same-if false true x y z e h = absurd (true≢false (sym e))
same-if false false x y z e h = refl

grow-tested : (m z : Memory) (more : ℕ) → length z.bytes ≡ length m.bytes → z.max ≡ m.max → can_grow z more ≡ can_grow m more
grow-tested m z more h most = ap (λ l. nat_le (l / PAGE_SIZE + more) z.max) h ∙ ap (λ k. nat_le (length m.bytes / PAGE_SIZE + more) k) most

module _ (opening : ℕ) (p : Bool) (m z : Memory) where
  found-same : (e : Event) → Finds m z e → IsSame opening p m z e
  found-same Size h = record { reply = ap (λ l. Value (l / PAGE_SIZE)) h; change = refl; access = refl; deed = refl }
  found-same (Grow more) h =
      let grows = grow-tested m z more h.0 h.1 in
      record {
        reply = ap (λ t. Value (if t then pages z else 4294967295)) grows ∙ ap (λ l. Value (if can_grow m more then l / PAGE_SIZE else 4294967295)) h.0;
        change = ap (λ (t : Bool). if t then Longer more else Stays) grows;
        access = ap (λ t. if t then growth opening else no_bytes) grows;
        deed = ap (λ t. if t then Grows else Nothing) grows;
      }
  found-same (Load addr width reach) h = record {
    reply = same-if (nat_le reach (length z.bytes)) (nat_le reach (length m.bytes)) (Value (loaded z addr width)) (Value (loaded m addr width)) OutOfBounds
        h.0 (λ t. ap Value (h.1 t));
    change = refl;
    access = same-if (nat_le reach (length z.bytes)) (nat_le reach (length m.bytes)) _ _ look h.0 (λ t. refl);
    deed = refl;
  }
  found-same (Store addr width reach value) h = record {
    reply = ap (λ t. if t then Done else OutOfBounds) h;
    change = ap (λ (t : Bool). if t then Writes addr width value else Stays) h;
    access = same-if (nat_le reach (length z.bytes)) (nat_le reach (length m.bytes)) _ _ look h (λ t. refl);
    deed = refl;
  }
  found-same (Rmw op addr width value) h = record {
    reply = same-if (nat_le (addr + width) (length z.bytes)) (nat_le (addr + width) (length m.bytes)) (Value (loaded z addr width))
        (Value (loaded m addr width)) OutOfBounds h.0 (λ t. ap Value (h.1 t));
    change = same-if (nat_le (addr + width) (length z.bytes)) (nat_le (addr + width) (length m.bytes)) _ _ Stays h.0
        (λ t. ap (λ n. Writes addr width (combined op width n value)) (h.1 t));
    access = same-if (nat_le (addr + width) (length z.bytes)) (nat_le (addr + width) (length m.bytes)) _ _ look h.0 (λ t. refl);
    deed = refl;
  }
  found-same (Cmpxchg addr width expected replacement) h = record {
    reply = same-if (nat_le (addr + width) (length z.bytes)) (nat_le (addr + width) (length m.bytes)) (Value (loaded z addr width))
        (Value (loaded m addr width)) OutOfBounds h.0 (λ t. ap Value (h.1 t));
    change = same-if (nat_le (addr + width) (length z.bytes)) (nat_le (addr + width) (length m.bytes)) _ _ Stays h.0
        (λ t. ap (λ (n : ℕ). if n == expected then Writes addr width replacement else Stays) (h.1 t));
    access = same-if (nat_le (addr + width) (length z.bytes)) (nat_le (addr + width) (length m.bytes)) _ _ look h.0
        (λ t. ap (λ (n : ℕ). access_with false true (n == expected) true addr width (addr + width)) (h.1 t));
    deed = refl;
  }
  found-same (Ask (Wait addr width expected timeout)) h = record {
    reply = same-if (nat_le (addr + width) (length z.bytes)) (nat_le (addr + width) (length m.bytes)) (Value (loaded z addr width))
        (Value (loaded m addr width)) OutOfBounds h.0 (λ t. ap Value (h.1 t));
    change = refl;
    access = ap (with_timeout timeout) (same-if (nat_le (addr + width) (length z.bytes)) (nat_le (addr + width) (length m.bytes)) _ _ look h.0 (λ t. refl));
    deed = refl;
  }
  found-same (Ask (Notify addr count)) h = record { reply = ap (λ t. if t then Done else OutOfBounds) h; change = refl; access = refl; deed = refl }
  found-same (Ask (Spawn arg)) h = record { reply = refl; change = refl; access = refl; deed = refl }
  found-same (Ask Leave) h = record { reply = refl; change = refl; access = refl; deed = refl }
  found-same (Told answer) h = record { reply = refl; change = refl; access = refl; deed = refl }

-- In a memory as long that may grow as much it touches the same bytes.
pub record HasSameBytes (a b : NextAccess) : Type 0 where
  pub addr : a.addr ≡ b.addr
  pub width : a.width ≡ b.width

module _ (opening : ℕ) (p : Bool) (m z : Memory) (long : length z.bytes ≡ length m.bytes) (most : z.max ≡ m.max) where
  same-if-in : (plain reads one other hangs : Bool) (addr width reach : ℕ) (t : Bool)
      → HasSameBytes (if t then access_with plain reads one hangs addr width reach else look)
      (if t then access_with plain reads other hangs addr width reach else look)
  same-if-in plain reads one other hangs addr width reach true = record { addr = refl; width = refl }
  same-if-in plain reads one other hangs addr width reach false = record { addr = refl; width = refl }

  in-same : (plain reads one other hangs : Bool) (addr width reach : ℕ)
      → HasSameBytes (in_bounds z plain reads one hangs addr width reach) (in_bounds m plain reads other hangs addr width reach)
  in-same plain reads one other hangs addr width reach =
      subst (λ l. HasSameBytes (if nat_le reach l then access_with plain reads one hangs addr width reach else look)
      (in_bounds m plain reads other hangs addr width reach)) (sym long)
      (same-if-in plain reads one other hangs addr width reach (nat_le reach (length m.bytes)))

  pub same-bytes : (e : Event) → HasSameBytes (access_by opening z p e) (access_by opening m p e)
  same-bytes Size = record { addr = refl; width = refl }
  same-bytes (Grow more) =
      subst (λ (t : Bool). HasSameBytes (if t then growth opening else no_bytes) (if can_grow m more then growth opening else no_bytes))
      (sym (grow-tested m z more long most)) (record { addr = refl; width = refl })
  same-bytes (Load addr width reach) = in-same p true false false false addr width reach
  same-bytes (Store addr width reach value) = in-same p false true true false addr width reach
  same-bytes (Rmw op addr width value) = in-same false true true true false addr width (addr + width)
  same-bytes (Cmpxchg addr width expected replacement) =
      in-same false true (loaded z addr width == expected) (loaded m addr width == expected) true addr width (addr + width)
  same-bytes (Ask (Wait addr width expected timeout)) =
      let h = in-same false true false false false addr width (addr + width) in record { addr = h.addr; width = h.width }
  same-bytes (Ask (Notify addr count)) = record { addr = refl; width = refl }
  same-bytes (Ask (Spawn arg)) = record { addr = refl; width = refl }
  same-bytes (Ask Leave) = record { addr = refl; width = refl }
  same-bytes (Told answer) = record { addr = refl; width = refl }

-- what is written leaves the length
pub long-written : (m : Memory) (b v k : ℕ) → b + v ≤ length m.bytes → length (written m b v k).bytes ≡ length m.bytes
long-written m b v k within = bytes.length-splice m.bytes (le_bytes v k) b v (length-le_bytes v k) within

-- What a change doesn't touch, it leaves.
module _ (opening : ℕ) (p : Bool) (m : Memory) (least : opening ≤ length m.bytes) where
  same-finds : (e : Event) → Finds m m e
  same-finds Size = refl
  same-finds (Grow more) = (refl, refl)
  same-finds (Load addr width reach) = (refl, λ t. refl)
  same-finds (Store addr width reach value) = refl
  same-finds (Rmw op addr width value) = (refl, λ t. refl)
  same-finds (Cmpxchg addr width expected replacement) = (refl, λ t. refl)
  same-finds (Ask (Wait addr width expected timeout)) = (refl, λ t. refl)
  same-finds (Ask (Notify addr count)) = refl
  same-finds (Ask (Spawn arg)) = tt
  same-finds (Ask Leave) = tt
  same-finds (Told answer) = tt

  module _ (b v k : ℕ) (within : b + v ≤ length m.bytes) where
    tested-written : (end : ℕ) → IsTested m (written m b v k) end
    tested-written end = ap (nat_le end) (long-written m b v k within)

    loaded-written : (plain reads writes hangs : Bool) (addr width reach : ℕ)
        → have_common (in_bounds m plain reads writes hangs addr width reach).addr (in_bounds m plain reads writes hangs addr width reach).width b v ≡ false
        → IsLoaded m (written m b v k) addr width reach
    loaded-written plain reads writes hangs addr width reach h t =
        loaded-apart m b v k addr width (apart-back addr width b v (apart-from addr width b v
        (subst (λ (s : Bool). have_common (if s then access_with plain reads writes hangs addr width reach else look).addr
        (if s then access_with plain reads writes hangs addr width reach else look).width b v ≡ false) t h))) within

    write-finds : (e : Event) → have_common (access_by opening m p e).addr (access_by opening m p e).width b v ≡ false → Finds m (written m b v k) e
    write-finds Size h = long-written m b v k within
    write-finds (Grow more) h = (long-written m b v k within, refl)
    write-finds (Load addr width reach) h = (tested-written reach, loaded-written p true false false addr width reach h)
    write-finds (Store addr width reach value) h = tested-written reach
    write-finds (Rmw op addr width value) h = (tested-written (addr + width), loaded-written false true true false addr width (addr + width) h)
    write-finds (Cmpxchg addr width expected replacement) h =
        (tested-written (addr + width), loaded-written false true (loaded m addr width == expected) true addr width (addr + width) h)
    write-finds (Ask (Wait addr width expected timeout)) h =
        (tested-written (addr + width), loaded-written false true false false addr width (addr + width) h)
    write-finds (Ask (Notify addr count)) h = tested-written (addr + 4)
    write-finds (Ask (Spawn arg)) h = tt
    write-finds (Ask Leave) h = tt
    write-finds (Told answer) h = tt

  module _ (more : ℕ) where
    long-grown : length m.bytes ≤ length (grown m more).bytes
    long-grown = let a = length-append m.bytes (replicate (PAGE_SIZE * more) 0) in omega (arith, a)

    tested-grown : (end : ℕ) → nat_lt opening end ≡ false → IsTested m (grown m more) end
    tested-grown end h =
        let low = ltb-false opening end h in
        let long = long-grown in
        le-leb end (length (grown m more).bytes) (omega (arith, low, least, long)) ∙ sym (le-leb end (length m.bytes) (omega (arith, low, least)))

    loaded-grown : (addr width end : ℕ) → addr + width ≤ end → IsLoaded m (grown m more) addr width end
    loaded-grown addr width end ends t =
        let within = leb-true end (length m.bytes) t in
        ap le_number (bytes.taken-more m.bytes (replicate (PAGE_SIZE * more) 0) addr width (omega (arith, ends, within)))

    growth-finds : (e : Event) → EndsWithin e → looks_past opening e ≡ false → Finds m (grown m more) e
    growth-finds Size ends h = absurd (true≢false h)
    growth-finds (Grow pages) ends h = absurd (true≢false h)
    growth-finds (Load addr width reach) ends h = (tested-grown reach h, loaded-grown addr width reach ends)
    growth-finds (Store addr width reach value) ends h = tested-grown reach h
    growth-finds (Rmw op addr width value) ends h = (tested-grown (addr + width) h, loaded-grown addr width (addr + width) (omega arith))
    growth-finds (Cmpxchg addr width expected replacement) ends h =
        (tested-grown (addr + width) h, loaded-grown addr width (addr + width) (omega arith))
    growth-finds (Ask (Wait addr width expected timeout)) ends h =
        (tested-grown (addr + width) h, loaded-grown addr width (addr + width) (omega arith))
    growth-finds (Ask (Notify addr count)) ends h = tested-grown (addr + 4) h
    growth-finds (Ask (Spawn arg)) ends h = tt
    growth-finds (Ask Leave) ends h = tt
    growth-finds (Told answer) ends h = tt

  pub left-same : (e : Event) (c : Change) → EndsWithin e → IsIn m c → touches (access_by opening m p e) (looks_past opening e) c ≡ false
      → IsSame opening p m (changed m c) e
  left-same e Stays ends within h = found-same opening p m m e (same-finds e)
  left-same e (Writes b v k) ends within h = found-same opening p m (written m b v k) e (write-finds b v k within e h)
  left-same e (Longer more) ends within h = found-same opening p m (grown m more) e (growth-finds more e ends h)

-- ---- Two changes

abbrev pub AreClear : Change → Change → Type 0
AreClear Stays d = Unit {0}
AreClear (Writes a w n) Stays = Unit {0}
AreClear (Writes a w n) (Writes b v k) = Apart a w b v
AreClear (Writes a w n) (Longer more) = Unit {0}
AreClear (Longer more) Stays = Unit {0}
AreClear (Longer more) (Writes b v k) = Unit {0}
AreClear (Longer more) (Longer other) = ⊥

clear-if : (t : Bool) (c d : Change) → (t ≡ true → AreClear c d) → AreClear (if t then c else Stays) d
clear-if true c d h = h refl
clear-if false c d h = tt

clear-write : (x : NextAccess) (looks : Bool) (a w n : ℕ) (d : Change) → x.addr ≡ a → x.width ≡ w → touches x looks d ≡ false → AreClear (Writes a w n) d
clear-write x looks a w n Stays p q h = tt
clear-write x looks a w n (Writes b v k) p q h =
    apart-from a w b v (subst (λ j. have_common a j b v ≡ false) q (subst (λ i. have_common i x.width b v ≡ false) p h))
clear-write x looks a w n (Longer more) p q h = tt

clear-growth : (x : NextAccess) (more : ℕ) (d : Change) → touches x true d ≡ false → AreClear (Longer more) d
clear-growth x more Stays h = tt
clear-growth x more (Writes b v k) h = tt
clear-growth x more (Longer other) h = true≢false h

-- what an access, where it is within bounds, touches
touches-in : (t : Bool) (x y : NextAccess) (looks : Bool) (d : Change) → t ≡ true → touches (if t then x else y) looks d ≡ false → touches x looks d ≡ false
touches-in true x y looks d e h = h
touches-in false x y looks d e h = absurd (true≢false (sym e))

pub clear-of : (opening : ℕ) (m : Memory) (p : Bool) (e : Event) (d : Change) → touches (access_by opening m p e) (looks_past opening e) d ≡ false
    → AreClear (change_of m e) d
clear-of opening m p Size d h = tt
clear-of opening m p (Grow more) d h =
    clear-if (can_grow m more) (Longer more) d (λ t. clear-growth (access_by opening m p (Grow more)) more d h)
clear-of opening m p (Load addr width reach) d h = tt
clear-of opening m p (Store addr width reach value) d h =
    clear-if (nat_le reach (length m.bytes)) (Writes addr width value) d (λ t.
    clear-write (access_with p false true false addr width reach) (nat_lt opening reach) addr width value d refl refl
    (touches-in (nat_le reach (length m.bytes)) (access_with p false true false addr width reach) look (nat_lt opening reach) d t h))
clear-of opening m p (Rmw op addr width value) d h =
    clear-if (nat_le (addr + width) (length m.bytes)) (Writes addr width (combined op width (loaded m addr width) value)) d (λ t.
    clear-write (access_with false true true false addr width (addr + width)) (nat_lt opening (addr + width)) addr width
    (combined op width (loaded m addr width) value) d refl refl
    (touches-in (nat_le (addr + width) (length m.bytes)) (access_with false true true false addr width (addr + width)) look
    (nat_lt opening (addr + width)) d t h))
clear-of opening m p (Cmpxchg addr width expected replacement) d h =
    clear-if (nat_le (addr + width) (length m.bytes)) (if loaded m addr width == expected then Writes addr width replacement else Stays) d (λ t.
    clear-if (loaded m addr width == expected) (Writes addr width replacement) d (λ s.
    clear-write (access_with false true (loaded m addr width == expected) true addr width (addr + width)) (nat_lt opening (addr + width)) addr width replacement
    d refl refl (touches-in (nat_le (addr + width) (length m.bytes))
    (access_with false true (loaded m addr width == expected) true addr width (addr + width)) look (nat_lt opening (addr + width)) d t h)))
clear-of opening m p (Ask question) d h = tt
clear-of opening m p (Told answer) d h = tt

same-memory : (m : Memory) (xs ys : List ℕ) → xs ≡ ys → record m { bytes = xs } ≡ record m { bytes = ys }
same-memory m xs ys h = ap (λ l. record m { bytes = l }) h

write-grown : (m : Memory) (a w n more : ℕ) → a + w ≤ length m.bytes → written (grown m more) a w n ≡ grown (written m a w n) more
write-grown m a w n more within = same-memory m _ _ (bytes.spliced-more m.bytes (le_bytes w n) (replicate (PAGE_SIZE * more) 0) a w within)

-- both are made in either order
pub swap-changes : (m : Memory) (c d : Change) → IsIn m c → IsIn m d → AreClear c d → changed (changed m d) c ≡ changed (changed m c) d
swap-changes m Stays d in_c in_d clear = refl
swap-changes m (Writes a w n) Stays in_c in_d clear = refl
swap-changes m (Writes a w n) (Writes b v k) in_c in_d clear = sym (swap-writes m a w n b v k clear in_d)
swap-changes m (Writes a w n) (Longer more) in_c in_d clear = write-grown m a w n more in_c
swap-changes m (Longer more) Stays in_c in_d clear = refl
swap-changes m (Longer more) (Writes b v k) in_c in_d clear = sym (write-grown m b v k more in_d)
swap-changes m (Longer more) (Longer other) in_c in_d clear = absurd clear
