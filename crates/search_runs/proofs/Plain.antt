-- Plain accesses and the events of others, in the sequential memory.
use Rattle.std.proofs.Common.{◌≡◌, ℕ, zero, suc, ◌+◌, ◌*◌, ◌/◌, ◌==◌, ◌≤◌, ◌<◌, ◌⊎◌, inl, inr, Bool, true, false}
use Rattle.std.proofs.Common.{true≢false, List, ◌++◌, length, take, drop, refl, sym, ap, ◌∙◌, subst, arith}
use Rattle.std.proofs.Common.{length-append}
use Rattle.std.specs.Prelude.{◌&&◌, nat_le, if◌then◌else◌, replicate}
use Rattle.std.specs.List.{splice}
use Rattle.std.proofs.lemmas.Bool.{cases_lt, leb-true, le-leb}
use Rattle.types.specs.declared.event.Event.{Event}
use Rattle.types.specs.declared.event.Event.TheVariants.{Size, Grow, Load, Store, Rmw, Cmpxchg, Ask, Told}
use Rattle.types.specs.declared.event.Question.TheVariants.{Wait, Notify, Spawn, Leave}
use Rattle.types.specs.declared.event.Reply.{Reply}
use Rattle.types.specs.declared.event.Reply.TheVariants.{Value, Done, OutOfBounds}
use Rattle.types.specs.declared.limits.TheConstants.{PAGE_SIZE}
use Rattle.shared_memory.specs.Numbers.{le_number, le_bytes}
use Rattle.shared_memory.specs.Memory.{Memory, pages, loaded, written, combined, can_grow, grown, if_within, reply_of, state_after}
use Rattle.shared_memory.proofs.Numbers.{length-le_bytes}
use Rattle.search_settled.specs.declared.access.NextAccess.{NextAccess}
use Rattle.search_settled.specs.Accesses.{HasByte, Meet, Conflict}
use Rattle.search_runs.specs.Accesses.{no_bytes, look, growth, in_bounds, with_timeout, access_by}
use Rattle.search_runs.proofs.Bytes as bytes

-- within a memory
pub record FitsIn (m : Memory) (addr width reach : ℕ) : Type 0 where
  pub ends : addr + width ≤ reach
  pub reaches : reach ≤ length m.bytes

-- a load or a store within bounds
abbrev pub IsAccess : Memory → Event → Type 0
IsAccess m Size = ⊥
IsAccess m (Grow more) = ⊥
IsAccess m (Load addr width reach) = FitsIn m addr width reach
IsAccess m (Store addr width reach value) = FitsIn m addr width reach
IsAccess m (Rmw op addr width value) = ⊥
IsAccess m (Cmpxchg addr width expected replacement) = ⊥
IsAccess m (Ask question) = ⊥
IsAccess m (Told answer) = ⊥

abbrev inside : Bool → Bool → Bool → Bool → ℕ → ℕ → NextAccess
inside plain reads writes hangs addr width = record { plain = plain; reads = reads; writes = writes; is_conditional = hangs; is_timed = false; is_allowed = false; addr = addr; width = width }

pub both-true : (s t : Bool) → (s && t) ≡ true → (s ≡ true) × (t ≡ true)
both-true true t h = (refl, h)
both-true false t h = absurd (true≢false (sym h))

in-fits : (m : Memory) (plain reads writes hangs : Bool) (addr width reach : ℕ) → (in_bounds m plain reads writes hangs addr width reach).plain ≡ true
    → FitsIn m addr width reach
in-fits m plain reads writes hangs addr width reach h = by (nat_le reach (length m.bytes)) refl h
  where
    by : (t : Bool) → nat_le reach (length m.bytes) ≡ t
        → (if t then inside (plain && nat_le (addr + width) reach) reads writes hangs addr width else look).plain ≡ true → FitsIn m addr width reach
    by true e g = record {
      ends = leb-true (addr + width) reach (both-true plain (nat_le (addr + width) reach) g).1;
      reaches = leb-true reach (length m.bytes) e;
    }
    by false e g = absurd (true≢false (sym g))

not-plain : {B : Type 0} → false ≡ true → B
not-plain h = absurd (true≢false (sym h))

rmw-plain : (m : Memory) (reads writes hangs : Bool) (addr width reach : ℕ) → (in_bounds m false reads writes hangs addr width reach).plain ≡ true → ⊥
rmw-plain m reads writes hangs addr width reach h = by (nat_le reach (length m.bytes)) h
  where
    by : (t : Bool) → (if t then inside (false && nat_le (addr + width) reach) reads writes hangs addr width else look).plain ≡ true → ⊥
    by true g = not-plain g
    by false g = not-plain g

never-plain : {B : Type 0} (t : Bool) (x y : NextAccess) → x.plain ≡ false → y.plain ≡ false → (if t then x else y).plain ≡ true → B
never-plain true x y a b h = not-plain (sym a ∙ h)
never-plain false x y a b h = not-plain (sym b ∙ h)

-- what is plain is one of these
pub is-access : (opening : ℕ) (m : Memory) (p : Bool) (e : Event) → (access_by opening m p e).plain ≡ true → IsAccess m e
is-access opening m p Size h = not-plain h
is-access opening m p (Grow more) h = never-plain (can_grow m more) (growth opening) no_bytes refl refl h
is-access opening m p (Load addr width reach) h = in-fits m p true false false addr width reach h
is-access opening m p (Store addr width reach value) h = in-fits m p false true false addr width reach h
is-access opening m p (Rmw op addr width value) h = rmw-plain m true true false addr width (addr + width) h
is-access opening m p (Cmpxchg addr width expected replacement) h = rmw-plain m true (loaded m addr width == expected) true addr width (addr + width) h
is-access opening m p (Ask (Wait addr width expected timeout)) h = rmw-plain m true false false addr width (addr + width) h
is-access opening m p (Ask (Notify addr count)) h = never-plain (nat_le (addr + 4) opening) no_bytes look refl refl h
is-access opening m p (Ask (Spawn arg)) h = not-plain h
is-access opening m p (Ask Leave) h = not-plain h
is-access opening m p (Told answer) h = not-plain h

-- its bytes
pub in-is : (m : Memory) (plain reads writes hangs : Bool) (addr width reach : ℕ) → nat_le reach (length m.bytes) ≡ true
    → in_bounds m plain reads writes hangs addr width reach ≡ inside (plain && nat_le (addr + width) reach) reads writes hangs addr width
in-is m plain reads writes hangs addr width reach e =
    ap (λ t. if t then inside (plain && nat_le (addr + width) reach) reads writes hangs addr width else look) e

-- Ranges of bytes without a byte in common.
abbrev pub Apart : ℕ → ℕ → ℕ → ℕ → Type 0
Apart a w b v = (w ≡ 0) ⊎ ((v ≡ 0) ⊎ ((a + w ≤ b) ⊎ (b + v ≤ a)))

pub apart-of : (x y : NextAccess) → (Meet x y → ⊥) → Apart x.addr x.width y.addr y.width
apart-of x y never = elim (cases_lt 0 x.width) [
  | inr none ↦ inl (omega (arith, none))
  | inl some ↦ elim (cases_lt 0 y.width) [
    | inr none ↦ inr (inl (omega (arith, none)))
    | inl more ↦ elim (cases_lt x.addr y.addr) [
      | inl low ↦ elim (cases_lt y.addr (x.addr + x.width)) [
        | inl meets ↦ absurd (never (y.addr, ((omega (arith, low), meets), (omega arith, omega (arith, more)))))
        | inr past ↦ inr (inr (inl past))
      ]
      | inr high ↦ elim (cases_lt x.addr (y.addr + y.width)) [
        | inl meets ↦ absurd (never (x.addr, ((omega arith, omega (arith, some)), (high, meets))))
        | inr past ↦ inr (inr (inr past))
      ]
    ]
  ]
]

apart-back : (a w b v : ℕ) → Apart a w b v → Apart b v a w
apart-back a w b v (inl h) = inr (inl h)
apart-back a w b v (inr (inl h)) = inl h
apart-back a w b v (inr (inr (inl h))) = inr (inr (inr h))
apart-back a w b v (inr (inr (inr h))) = inr (inr (inl h))

-- what is read apart from what is written
pub loaded-apart : (m : Memory) (a w n b v : ℕ) → Apart a w b v → (b + v ≤ length m.bytes) ⊎ (a + w ≤ length m.bytes)
    → loaded (written m a w n) b v ≡ loaded m b v
loaded-apart m a w n b v apart within = ap le_number (by apart within)
  where
    by : Apart a w b v → (b + v ≤ length m.bytes) ⊎ (a + w ≤ length m.bytes) → take v (drop b (splice m.bytes a (a + w) (le_bytes w n))) ≡ take v
        (drop b m.bytes)
    by (inl none) h = ap (λ l. take v (drop b l)) (bytes.splice-none m.bytes a w (le_bytes w n) none (length-le_bytes w n))
    by (inr (inl none)) h =
        subst (λ k. take k (drop b (splice m.bytes a (a + w) (le_bytes w n))) ≡ take k (drop b m.bytes)) (sym none) refl
    by (inr (inr (inl low))) (inl k) =
        ap (take v) (bytes.after m.bytes (le_bytes w n) a w b (length-le_bytes w n) (omega (arith, low, k)) low)
    by (inr (inr (inl low))) (inr k) =
        ap (take v) (bytes.after m.bytes (le_bytes w n) a w b (length-le_bytes w n) k low)
    by (inr (inr (inr high))) (inl k) = bytes.before m.bytes (le_bytes w n) a (a + w) b v high k
    by (inr (inr (inr high))) (inr k) = bytes.before m.bytes (le_bytes w n) a (a + w) b v high (omega (arith, high, k))

same-memory : (m : Memory) (xs ys : List ℕ) → xs ≡ ys → record m { bytes = xs } ≡ record m { bytes = ys }
same-memory m xs ys h = ap (λ l. record m { bytes = l }) h

pub swap-writes : (m : Memory) (a w n b v k : ℕ) → Apart a w b v → b + v ≤ length m.bytes
    → written (written m a w n) b v k ≡ written (written m b v k) a w n
swap-writes m a w n b v k apart within = same-memory m _ _ (by apart)
  where
    by : Apart a w b v → splice (splice m.bytes a (a + w) (le_bytes w n)) b (b + v) (le_bytes v k) ≡ splice (splice m.bytes b (b + v) (le_bytes v k)) a (a + w)
        (le_bytes w n)
    by (inl none) =
        ap (λ l. splice l b (b + v) (le_bytes v k)) (bytes.splice-none m.bytes a w (le_bytes w n) none (length-le_bytes w n))
        ∙ sym (bytes.splice-none (splice m.bytes b (b + v) (le_bytes v k)) a w (le_bytes w n) none (length-le_bytes w n))
    by (inr (inl none)) =
        bytes.splice-none (splice m.bytes a (a + w) (le_bytes w n)) b v (le_bytes v k) none (length-le_bytes v k)
        ∙ ap (λ l. splice l a (a + w) (le_bytes w n)) (sym (bytes.splice-none m.bytes b v (le_bytes v k) none (length-le_bytes v k)))
    by (inr (inr (inl low))) =
        bytes.swapped m.bytes (le_bytes w n) (le_bytes v k) a w b v (length-le_bytes w n) (omega (arith, low, within)) low
    by (inr (inr (inr high))) =
        sym (bytes.swapped m.bytes (le_bytes v k) (le_bytes w n) b v a w (length-le_bytes v k) within high)

-- tests of the length
pub if-in : {B : Type 0} (m : Memory) (end : ℕ) (x y : B) → end ≤ length m.bytes → if_within m end x y ≡ x
if-in m end x y h = ap (λ t. if t then x else y) (le-leb end (length m.bytes) h)

if-same : {B : Type 0} (m z : Memory) (end : ℕ) (x y : B) → length z.bytes ≡ length m.bytes → if_within z end x y ≡ if_within m end x y
if-same m z end x y h = ap (λ l. if nat_le end l then x else y) h

longer-if : (m z : Memory) (t : Bool) → length m.bytes ≤ length z.bytes → length m.bytes ≤ length (if t then z else m).bytes
longer-if m z true h = h
longer-if m z false h = omega arith

longer-written : (m : Memory) (a w n : ℕ) → length m.bytes ≤ length (written m a w n).bytes
longer-written m a w n = bytes.longer-splice m.bytes (le_bytes w n) a w (length-le_bytes w n)

-- an event takes no bytes away
pub longer : (m : Memory) (f : Event) → length m.bytes ≤ length (state_after m f).bytes
longer m Size = omega arith
longer m (Grow more) = longer-if m (grown m more) (can_grow m more) (let a = length-append m.bytes (replicate (PAGE_SIZE * more) 0) in omega (arith, a))
longer m (Load addr width reach) = omega arith
longer m (Store addr width reach value) = longer-if m (written m addr width value) (nat_le reach (length m.bytes)) (longer-written m addr width value)
longer m (Rmw op addr width value) =
    longer-if m (written m addr width (combined op width (loaded m addr width) value)) (nat_le (addr + width) (length m.bytes))
    (longer-written m addr width (combined op width (loaded m addr width) value))
longer m (Cmpxchg addr width expected replacement) =
    longer-if m (if loaded m addr width == expected then written m addr width replacement else m) (nat_le (addr + width) (length m.bytes))
    (longer-if m (written m addr width replacement) (loaded m addr width == expected) (longer-written m addr width replacement))
longer m (Ask question) = omega arith
longer m (Told answer) = omega arith

-- What a write leaves to bytes that its thread's access doesn't meet.
abbrev pub Spares : NextAccess → ℕ → ℕ → Type 0
Spares x b v = x.writes ≡ true → Meet x (inside true false true false b v) → ⊥

spares-apart : (m : Memory) (p reads hangs : Bool) (a w r b v : ℕ) → nat_le r (length m.bytes) ≡ true → Spares (in_bounds m p reads true hangs a w r) b v
    → Apart a w b v
spares-apart m p reads hangs a w r b v e h =
    apart-of (inside (p && nat_le (a + w) r) reads true hangs a w) (inside true false true false b v)
    (subst (λ x. Spares x b v) (in-is m p reads true hangs a w r e) h refl)

-- what is read is there still
pub loaded-still : (opening : ℕ) (m : Memory) (p : Bool) (f : Event) (b v : ℕ) → b + v ≤ length m.bytes → Spares (access_by opening m p f) b v
    → loaded (state_after m f) b v ≡ loaded m b v
loaded-still opening m p Size b v within h = refl
loaded-still opening m p (Grow more) b v within h = by (can_grow m more)
  where
    by : (t : Bool) → loaded (if t then grown m more else m) b v ≡ loaded m b v
    by true = ap le_number (bytes.taken-more m.bytes (replicate (PAGE_SIZE * more) 0) b v within)
    by false = refl
loaded-still opening m p (Load addr width reach) b v within h = refl
loaded-still opening m p (Store addr width reach value) b v within h = by (nat_le reach (length m.bytes)) refl
  where
    by : (t : Bool) → nat_le reach (length m.bytes) ≡ t → loaded (if t then written m addr width value else m) b v ≡ loaded m b v
    by true e = loaded-apart m addr width value b v (spares-apart m p false false addr width reach b v e h) (inl within)
    by false e = refl
loaded-still opening m p (Rmw op addr width value) b v within h = by (nat_le (addr + width) (length m.bytes)) refl
  where
    by : (t : Bool) → nat_le (addr + width) (length m.bytes) ≡ t
        → loaded (if t then written m addr width (combined op width (loaded m addr width) value) else m) b v ≡ loaded m b v
    by true e = loaded-apart m addr width (combined op width (loaded m addr width) value) b v
        (spares-apart m false true false addr width (addr + width) b v e h) (inl within)
    by false e = refl
loaded-still opening m p (Cmpxchg addr width expected replacement) b v within h = by (nat_le (addr + width) (length m.bytes)) refl
  where
    swapped : nat_le (addr + width) (length m.bytes) ≡ true → (t : Bool) → Spares (in_bounds m false true t true addr width (addr + width)) b v
        → loaded (if t then written m addr width replacement else m) b v ≡ loaded m b v
    swapped e true g = loaded-apart m addr width replacement b v (spares-apart m false true true addr width (addr + width) b v e g) (inl within)
    swapped e false g = refl

    by : (t : Bool) → nat_le (addr + width) (length m.bytes) ≡ t
        → loaded (if t then (if loaded m addr width == expected then written m addr width replacement else m) else m) b v ≡ loaded m b v
    by true e = swapped e (loaded m addr width == expected) h
    by false e = refl
loaded-still opening m p (Ask question) b v within h = refl
loaded-still opening m p (Told answer) b v within h = refl

-- An access and an event that don't conflict.
module _ (opening : ℕ) (m : Memory) (p q : Bool) (f : Event) where
  abbrev pub Spared : Event → Type 0
  Spared e = Conflict (access_by opening m p f) (access_by opening m q e) → ⊥

  load-spared : (b v r : ℕ) → FitsIn m b v r → Spared (Load b v r) → Spares (access_by opening m p f) b v
  load-spared b v r fits h writes meet =
      h (subst (λ y. Conflict (access_by opening m p f) y) (sym (in-is m q true false false b v r (le-leb r (length m.bytes) fits.reaches)))
      (record { meet = meet; write = inl writes }))

  store-spared : (b v r k : ℕ) → FitsIn m b v r → Spared (Store b v r k) → Meet (access_by opening m p f) (inside true false true false b v) → ⊥
  store-spared b v r k fits h meet =
      h (subst (λ y. Conflict (access_by opening m p f) y) (sym (in-is m q false true false b v r (le-leb r (length m.bytes) fits.reaches)))
      (record { meet = meet; write = inr refl }))

  -- it finds the same after the event
  pub reply-still : (e : Event) → IsAccess m e → Spared e → reply_of (state_after m f) e ≡ reply_of m e
  reply-still Size is h = absurd is
  reply-still (Grow more) is h = absurd is
  reply-still (Load b v r) fits h =
      let z = state_after m f in
      let more = longer m f in
      let ends = fits.ends in
      let reaches = fits.reaches in
      if-in z r (Value (loaded z b v)) OutOfBounds (omega (arith, more, reaches))
      ∙ (ap Value (loaded-still opening m p f b v (omega (arith, ends, reaches)) (load-spared b v r fits h))
      ∙ sym (if-in m r (Value (loaded m b v)) OutOfBounds reaches))
  reply-still (Store b v r k) fits h =
      let more = longer m f in
      let reaches = fits.reaches in
      if-in (state_after m f) r Done OutOfBounds (omega (arith, more, reaches)) ∙ sym (if-in m r Done OutOfBounds reaches)
  reply-still (Rmw op addr width value) is h = absurd is
  reply-still (Cmpxchg addr width expected replacement) is h = absurd is
  reply-still (Ask question) is h = absurd is
  reply-still (Told answer) is h = absurd is

-- A store within bounds, and an event that doesn't meet it.
module _ (m : Memory) (p : Bool) (b v k : ℕ) (within : b + v ≤ length m.bytes) where
  long : length (written m b v k).bytes ≡ length m.bytes
  long = bytes.length-splice m.bytes (le_bytes v k) b v (length-le_bytes v k) within

  meet-back : (x y : NextAccess) → Meet x y → Meet y x
  meet-back x y h = (h.0, (h.1.1, h.1.0))

  store-apart : (t reads writes hangs : Bool) (a w r : ℕ) → nat_le r (length m.bytes) ≡ true
      → (Meet (in_bounds m t reads writes hangs a w r) (inside true false true false b v) → ⊥)
      → Apart b v a w
  store-apart t reads writes hangs a w r e never =
      apart-of (inside true false true false b v) (inside (t && nat_le (a + w) r) reads writes hangs a w)
      (λ meet. never (subst (λ x. Meet x (inside true false true false b v)) (sym (in-is m t reads writes hangs a w r e))
      (meet-back (inside true false true false b v) (inside (t && nat_le (a + w) r) reads writes hangs a w) meet)))

  -- what the event reads is there still
  other-loads : (t reads writes hangs : Bool) (a w r end : ℕ) → end ≡ r → (Meet (in_bounds m t reads writes hangs a w r) (inside true false true false b v) → ⊥)
      → if_within (written m b v k) end (Value (loaded (written m b v k) a w)) OutOfBounds ≡ if_within m end (Value (loaded m a w)) OutOfBounds
  other-loads t reads writes hangs a w r end same never =
      if-same m (written m b v k) end (Value (loaded (written m b v k) a w)) OutOfBounds long ∙ by (nat_le end (length m.bytes)) refl
    where
      by : (s : Bool) → nat_le end (length m.bytes) ≡ s
          → (if s then Value (loaded (written m b v k) a w) else OutOfBounds) ≡ (if s then Value (loaded m a w) else OutOfBounds)
      by true e = ap Value (loaded-apart m b v k a w
          (store-apart t reads writes hangs a w r (subst (λ x. nat_le x (length m.bytes) ≡ true) same e) never) (inr within))
      by false e = refl

  pub other-found : (opening : ℕ) (f : Event) → (Meet (access_by opening m p f) (inside true false true false b v) → ⊥)
      → reply_of (written m b v k) f ≡ reply_of m f
  other-found opening Size h = ap (λ l. Value (l / PAGE_SIZE)) long
  other-found opening (Grow more) h = ap (λ l. Value (if nat_le (l / PAGE_SIZE + more) m.max then l / PAGE_SIZE else 4294967295)) long
  other-found opening (Load a w r) h = other-loads p true false false a w r r refl h
  other-found opening (Store a w r n) h = if-same m (written m b v k) r Done OutOfBounds long
  other-found opening (Rmw op a w value) h = other-loads false true true false a w (a + w) (a + w) refl h
  other-found opening (Cmpxchg a w expected replacement) h = other-loads false true (loaded m a w == expected) true a w (a + w) (a + w) refl h
  other-found opening (Ask (Wait a w expected timeout)) h = other-loads false true false false a w (a + w) (a + w) refl h
  other-found opening (Ask (Notify a count)) h = if-same m (written m b v k) (a + 4) Done OutOfBounds long
  other-found opening (Ask (Spawn arg)) h = refl
  other-found opening (Ask Leave) h = refl
  other-found opening (Told answer) h = refl

  -- it leaves the same, whichever comes first
  other-writes : (t reads hangs : Bool) (a w r n end : ℕ) → end ≡ r → (Meet (in_bounds m t reads true hangs a w r) (inside true false true false b v) → ⊥) →
      (s : Bool) → nat_le end (length m.bytes) ≡ s
      → written (if s then written m a w n else m) b v k ≡ (if s then written (written m b v k) a w n else written m b v k)
  other-writes t reads hangs a w r n end same h true e = swap-writes m a w n b v k
      (apart-back b v a w (store-apart t reads true hangs a w r (subst (λ x. nat_le x (length m.bytes) ≡ true) same e) h)) within
  other-writes t reads hangs a w r n end same h false e = refl

  pub other-leaves : (opening : ℕ) (f : Event) → (Meet (access_by opening m p f) (inside true false true false b v) → ⊥)
      → written (state_after m f) b v k ≡ state_after (written m b v k) f
  other-leaves opening Size h = refl
  other-leaves opening (Grow more) h = by (can_grow m more) ∙
      sym (ap (λ l. if nat_le (l / PAGE_SIZE + more) m.max then grown (written m b v k) more else written m b v k) long)
    where
      by : (t : Bool) → written (if t then grown m more else m) b v k ≡ (if t then grown (written m b v k) more else written m b v k)
      by true = same-memory m _ _ (bytes.spliced-more m.bytes (le_bytes v k) (replicate (PAGE_SIZE * more) 0) b v within)
      by false = refl
  other-leaves opening (Load a w r) h = refl
  other-leaves opening (Store a w r n) h =
      other-writes p false false a w r n r refl h (nat_le r (length m.bytes)) refl ∙
      sym (if-same m (written m b v k) r (written (written m b v k) a w n) (written m b v k) long)
  other-leaves opening (Rmw op a w value) h =
      other-writes false true false a w (a + w) (combined op w (loaded m a w) value) (a + w) refl h (nat_le (a + w) (length m.bytes)) refl
      ∙ (by (nat_le (a + w) (length m.bytes)) refl
      ∙ sym (if-same m (written m b v k) (a + w) (written (written m b v k) a w (combined op w (loaded (written m b v k) a w) value)) (written m b v k) long))
    where
      by : (s : Bool) → nat_le (a + w) (length m.bytes) ≡ s
          → (if s then written (written m b v k) a w (combined op w (loaded m a w) value) else written m b v k)
          ≡ (if s then written (written m b v k) a w (combined op w (loaded (written m b v k) a w) value) else written m b v k)
      by true e = ap (λ o. written (written m b v k) a w (combined op w o value))
          (sym (loaded-apart m b v k a w (store-apart false true true false a w (a + w) e h) (inr within)))
      by false e = refl
  other-leaves opening (Cmpxchg a w expected replacement) h =
      by (nat_le (a + w) (length m.bytes)) refl
      ∙ sym (if-same m (written m b v k) (a + w) (if loaded (written m b v k) a w == expected then written (written m b v k) a w replacement else written m b v
      k) (written m b v k) long)
    where
      swapped : nat_le (a + w) (length m.bytes) ≡ true → (s : Bool)
          → written (if s then written m a w replacement else m) b v k ≡ (if s then written (written m b v k) a w replacement else written m b v k)
      swapped e true = swap-writes m a w replacement b v k (apart-back b v a w (store-apart false true (loaded m a w == expected) true a w (a + w) e h)) within
      swapped e false = refl

      by : (s : Bool) → nat_le (a + w) (length m.bytes) ≡ s
          → written (if s then (if loaded m a w == expected then written m a w replacement else m) else m) b v k
          ≡ (if s then (if loaded (written m b v k) a w == expected then written (written m b v k) a w replacement else written m b v k) else written m b v k)
      by true e =
          swapped e (loaded m a w == expected)
          ∙ ap (λ o. if o == expected then written (written m b v k) a w replacement else written m b v k)
          (sym (loaded-apart m b v k a w (store-apart false true (loaded m a w == expected) true a w (a + w) e h) (inr within)))
      by false e = refl
  other-leaves opening (Ask question) h = refl
  other-leaves opening (Told answer) h = refl

module _ (opening : ℕ) (m : Memory) (p q : Bool) (f : Event) where
  -- the event finds the same after the access
  pub found-still : (e : Event) → IsAccess m e → Spared opening m p q f e → reply_of (state_after m e) f ≡ reply_of m f
  found-still Size is h = absurd is
  found-still (Grow more) is h = absurd is
  found-still (Load b v r) fits h = refl
  found-still (Store b v r k) fits h =
      let ends = fits.ends in
      let reaches = fits.reaches in
      ap (λ z. reply_of z f) (if-in m r (written m b v k) m reaches)
      ∙ other-found m p b v k (omega (arith, ends, reaches)) opening f (store-spared opening m p q f b v r k fits h)
  found-still (Rmw op addr width value) is h = absurd is
  found-still (Cmpxchg addr width expected replacement) is h = absurd is
  found-still (Ask question) is h = absurd is
  found-still (Told answer) is h = absurd is

  -- they leave the same, whichever comes first
  pub leaves-same : (e : Event) → IsAccess m e → Spared opening m p q f e → state_after (state_after m f) e ≡ state_after (state_after m e) f
  leaves-same Size is h = absurd is
  leaves-same (Grow more) is h = absurd is
  leaves-same (Load b v r) fits h = refl
  leaves-same (Store b v r k) fits h =
      let ends = fits.ends in
      let reaches = fits.reaches in
      let more = longer m f in
      let z = state_after m f in
      if-in z r (written z b v k) z (omega (arith, more, reaches))
      ∙ (other-leaves m p b v k (omega (arith, ends, reaches)) opening f (store-spared opening m p q f b v r k fits h)
      ∙ sym (ap (λ y. state_after y f) (if-in m r (written m b v k) m reaches)))
  leaves-same (Rmw op addr width value) is h = absurd is
  leaves-same (Cmpxchg addr width expected replacement) is h = absurd is
  leaves-same (Ask question) is h = absurd is
  leaves-same (Told answer) is h = absurd is

-- an access leaves as many bytes
pub as-long : (m : Memory) (e : Event) → IsAccess m e → length (state_after m e).bytes ≡ length m.bytes
as-long m Size is = absurd is
as-long m (Grow more) is = absurd is
as-long m (Load b v r) fits = refl
as-long m (Store b v r k) fits =
    let ends = fits.ends in
    let reaches = fits.reaches in
    ap (λ (z : Memory). length z.bytes) (if-in m r (written m b v k) m reaches) ∙ long m true b v k (omega (arith, ends, reaches))
as-long m (Rmw op addr width value) is = absurd is
as-long m (Cmpxchg addr width expected replacement) is = absurd is
as-long m (Ask question) is = absurd is
as-long m (Told answer) is = absurd is

-- and may have as many pages
as-much-most : (m : Memory) (e : Event) → IsAccess m e → (state_after m e).max ≡ m.max
as-much-most m Size is = absurd is
as-much-most m (Grow more) is = absurd is
as-much-most m (Load b v r) fits = refl
as-much-most m (Store b v r k) fits = ap (λ (z : Memory). z.max) (if-in m r (written m b v k) m fits.reaches)
as-much-most m (Rmw op addr width value) is = absurd is
as-much-most m (Cmpxchg addr width expected replacement) is = absurd is
as-much-most m (Ask question) is = absurd is
as-much-most m (Told answer) is = absurd is

-- what an event does with a memory depends on its length, and a compare-exchange's on what is there
in-same : (m z : Memory) (plain reads writes hangs : Bool) (addr width reach : ℕ) → length z.bytes ≡ length m.bytes
    → in_bounds z plain reads writes hangs addr width reach ≡ in_bounds m plain reads writes hangs addr width reach
in-same m z plain reads writes hangs addr width reach h =
    ap (λ l. if nat_le reach l then inside (plain && nat_le (addr + width) reach) reads writes hangs addr width else look) h

-- in the memory after a store that it doesn't meet
module _ (m : Memory) (p : Bool) (b v k : ℕ) (within : b + v ≤ length m.bytes) where
  found-same : (a w expected : ℕ) → (Meet (in_bounds m false true (loaded m a w == expected) true a w (a + w)) (inside true false true false b v) → ⊥)
      → in_bounds (written m b v k) false true (loaded (written m b v k) a w == expected) true a w (a + w)
      ≡ in_bounds m false true (loaded m a w == expected) true a w (a + w)
  found-same a w expected never =
      in-same m (written m b v k) false true (loaded (written m b v k) a w == expected) true a w (a + w) (long m p b v k within) ∙
      by (nat_le (a + w) (length m.bytes)) refl
    where
      by : (s : Bool) → nat_le (a + w) (length m.bytes) ≡ s
          → (if s then inside (false && nat_le (a + w) (a + w)) true (loaded (written m b v k) a w == expected) true a w else look)
          ≡ (if s then inside (false && nat_le (a + w) (a + w)) true (loaded m a w == expected) true a w else look)
      by true e =
          ap (λ n. inside (false && nat_le (a + w) (a + w)) true (n == expected) true a w)
          (loaded-apart m b v k a w (store-apart m p b v k within false true (loaded m a w == expected) true a w (a + w) e never) (inr within))
      by false e = refl

  written-same : (opening : ℕ) (f : Event) → (Meet (access_by opening m p f) (inside true false true false b v) → ⊥)
      → access_by opening (written m b v k) p f ≡ access_by opening m p f
  written-same opening Size h = refl
  written-same opening (Grow more) h =
      ap (λ l. if nat_le (l / PAGE_SIZE + more) m.max then growth opening else no_bytes) (long m p b v k within)
  written-same opening (Load addr width reach) h = in-same m (written m b v k) p true false false addr width reach (long m p b v k within)
  written-same opening (Store addr width reach value) h = in-same m (written m b v k) p false true false addr width reach (long m p b v k within)
  written-same opening (Rmw op addr width value) h = in-same m (written m b v k) false true true false addr width (addr + width) (long m p b v k within)
  written-same opening (Cmpxchg addr width expected replacement) h = found-same addr width expected h
  written-same opening (Ask (Wait addr width expected timeout)) h =
      ap (with_timeout timeout) (in-same m (written m b v k) false true false false addr width (addr + width) (long m p b v k within))
  written-same opening (Ask (Notify addr count)) h = refl
  written-same opening (Ask (Spawn arg)) h = refl
  written-same opening (Ask Leave) h = refl
  written-same opening (Told answer) h = refl

-- the bytes that an event touches are the same in a memory as long
in-meets : (m z : Memory) (plain reads one other hangs : Bool) (addr width reach : ℕ) (y : NextAccess) → length z.bytes ≡ length m.bytes
    → Meet (in_bounds m plain reads one hangs addr width reach) y → Meet (in_bounds z plain reads other hangs addr width reach) y
in-meets m z plain reads one other hangs addr width reach y h meet = subst (λ x. Meet x y) (sym (in-same m z plain reads other hangs addr width reach h))
    (by (nat_le reach (length m.bytes)) meet)
  where
    by : (s : Bool) → Meet (if s then inside (plain && nat_le (addr + width) reach) reads one hangs addr width else look) y
        → Meet (if s then inside (plain && nat_le (addr + width) reach) reads other hangs addr width else look) y
    by true g = g
    by false g = g

as-much : (m z : Memory) (more : ℕ) → length z.bytes ≡ length m.bytes → z.max ≡ m.max → can_grow z more ≡ can_grow m more
as-much m z more h most = ap (λ l. nat_le (l / PAGE_SIZE + more) z.max) h ∙ ap (λ k. nat_le (length m.bytes / PAGE_SIZE + more) k) most

meets-still : (opening : ℕ) (m z : Memory) (p : Bool) (f : Event) (y : NextAccess) → length z.bytes ≡ length m.bytes → z.max ≡ m.max
    → Meet (access_by opening m p f) y → Meet (access_by opening z p f) y
meets-still opening m z p Size y h most meet = meet
meets-still opening m z p (Grow more) y h most meet =
    subst (λ (t : Bool). Meet (if t then growth opening else no_bytes) y) (sym (as-much m z more h most)) meet
meets-still opening m z p (Load addr width reach) y h most meet = in-meets m z p true false false false addr width reach y h meet
meets-still opening m z p (Store addr width reach value) y h most meet = in-meets m z p false true true false addr width reach y h meet
meets-still opening m z p (Rmw op addr width value) y h most meet = in-meets m z false true true true false addr width (addr + width) y h meet
meets-still opening m z p (Cmpxchg addr width expected replacement) y h most meet =
    in-meets m z false true (loaded m addr width == expected) (loaded z addr width == expected) true addr width (addr + width) y h meet
meets-still opening m z p (Ask (Wait addr width expected timeout)) y h most meet = in-meets m z false true false false false addr width (addr + width) y h meet
meets-still opening m z p (Ask (Notify addr count)) y h most meet = meet
meets-still opening m z p (Ask (Spawn arg)) y h most meet = meet
meets-still opening m z p (Ask Leave) y h most meet = meet
meets-still opening m z p (Told answer) y h most meet = meet

module _ (opening : ℕ) (m : Memory) (p q : Bool) (f : Event) where
  -- what an event does with the memory is the same after an access that it doesn't conflict with
  pub access-same : (e : Event) → IsAccess m e → Spared opening m p q f e → access_by opening (state_after m e) p f ≡ access_by opening m p f
  access-same Size is h = absurd is
  access-same (Grow more) is h = absurd is
  access-same (Load b v r) fits h = refl
  access-same (Store b v r k) fits h =
      let ends = fits.ends in
      let reaches = fits.reaches in
      ap (λ z. access_by opening z p f) (if-in m r (written m b v k) m reaches)
      ∙ written-same m p b v k (omega (arith, ends, reaches)) opening f (store-spared opening m p q f b v r k fits h)
  access-same (Rmw op addr width value) is h = absurd is
  access-same (Cmpxchg addr width expected replacement) is h = absurd is
  access-same (Ask question) is h = absurd is
  access-same (Told answer) is h = absurd is

  -- and one that conflicts with it does still
  pub conflict-still : (e : Event) → IsAccess m e → Conflict (access_by opening m p f) (access_by opening m q e)
      → Conflict (access_by opening (state_after m e) p f) (access_by opening m q e)
  conflict-still Size is c = absurd is
  conflict-still (Grow more) is c = absurd is
  conflict-still (Load b v r) fits c = c
  conflict-still (Store b v r k) fits c = record {
    meet = meets-still opening m (state_after m (Store b v r k)) p f (access_by opening m q (Store b v r k)) (as-long m (Store b v r k) fits)
        (as-much-most m (Store b v r k) fits) c.meet;
    write = inr (ap (λ (y : NextAccess). y.writes) (in-is m q false true false b v r (le-leb r (length m.bytes) fits.reaches)));
  }
  conflict-still (Rmw op addr width value) is c = absurd is
  conflict-still (Cmpxchg addr width expected replacement) is c = absurd is
  conflict-still (Ask question) is c = absurd is
  conflict-still (Told answer) is c = absurd is

in-more : (m z : Memory) (plain reads writes hangs : Bool) (addr width reach : ℕ) → FitsIn m addr width reach → length m.bytes ≤ length z.bytes
    → in_bounds z plain reads writes hangs addr width reach ≡ in_bounds m plain reads writes hangs addr width reach
in-more m z plain reads writes hangs addr width reach fits more =
    let reaches = fits.reaches in
    in-is z plain reads writes hangs addr width reach (le-leb reach (length z.bytes) (omega (arith, reaches, more)))
    ∙ sym (in-is m plain reads writes hangs addr width reach (le-leb reach (length m.bytes) reaches))

-- what is within bounds stays so
pub access-stays : (opening : ℕ) (m z : Memory) (q : Bool) (e : Event) → IsAccess m e → length m.bytes ≤ length z.bytes
    → access_by opening z q e ≡ access_by opening m q e
access-stays opening m z q Size is more = absurd is
access-stays opening m z q (Grow pages) is more = absurd is
access-stays opening m z q (Load addr width reach) fits more = in-more m z q true false false addr width reach fits more
access-stays opening m z q (Store addr width reach value) fits more = in-more m z q false true false addr width reach fits more
access-stays opening m z q (Rmw op addr width value) is more = absurd is
access-stays opening m z q (Cmpxchg addr width expected replacement) is more = absurd is
access-stays opening m z q (Ask question) is more = absurd is
access-stays opening m z q (Told answer) is more = absurd is
