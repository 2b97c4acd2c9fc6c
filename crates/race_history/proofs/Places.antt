-- What stands at a place of a history, and which accesses it makes.
use Rattle.std.proofs.Common.{◌≡◌, ◌∙◌, ◌≤◌, ◌<◌, ◌+◌, ◌++◌, ◌%◌, ◌⊎◌, ℕ, zero, suc, List, [], ◌∷◌, Bool, true, false, Option, Some, None, inl, inr, refl, sym, ap, subst, arith, not}
use Rattle.std.specs.Prelude.{◌-◌, ◌^◌, if◌then◌else◌, min, nat_lt, option_map}
use Rattle.std.specs.List.{Contains}
use Rattle.std.specs.Option.{option_to_list}
use Rattle.std.proofs.lemmas.Bool.{cond_both}
use Rattle.std.proofs.lemmas.List.Elements.{Contains-append_cases, Contains-push_cases}
use Rattle.std.proofs.lemmas.Option.{cond_some, none-some, same_Some}
use Rattle.types.specs.declared.event.Entry.{Entry}
use Rattle.types.specs.declared.event.Event.{Event}
use Rattle.types.specs.declared.event.Event.TheVariants.{Size, Grow, Load, Store, Rmw, Cmpxchg, Ask, Told}
use Rattle.types.specs.declared.event.Question.TheVariants.{Wait, Notify, Spawn, Leave}
use Rattle.types.specs.declared.event.Reply.{Reply}
use Rattle.shared_memory.specs.Events.{IsAtomic, IsEvent}
use Rattle.shared_memory.specs.History.{AreEntries, IsEntry}
use Rattle.race_history.specs.declared.access.ThreadAccess.{ThreadAccess}
use Rattle.race_history.specs.declared.access.Site.{Site}
use Rattle.race_history.specs.declared.access.Location.{Location}
use Rattle.race_history.specs.declared.access.Location.TheVariants.{Bytes, Pages, Waiters, Threads}
use Rattle.race_history.specs.Accesses.{HasByte, Meet, accesses_of, bytes_of, bytes_within, call_of, call_within, changing, counting, each_byte, end_of, entering}
use Rattle.race_history.specs.Accesses.{has_value, is_atomic_by, is_out_of_bounds, judged, one_byte, pages_of, pages_within, reading}
use Rattle.race_history.specs.Places.{IsAt, IsAccess, thread_at}
use Rattle.race_history.specs.Lasts.{IsInWord}
use Rattle.race_history.proofs.Lists.{Contains-none, IsAt-same, map-at, some_in}

-- an access of a thread to a location
record IsTo (n : ℕ) (l : Location) (a : ThreadAccess) : Type 0 where
  pub thread : n ≡ a.thread
  pub location : a.location ≡ l

-- what holds of one holds of the other
module _ (P : ThreadAccess → Type 0) where
  of_some : (r a : ThreadAccess) → Some r ≡ Some a → P r → P a
  of_some r a e h = subst P (same_Some r a e) h

  of_none : (a : ThreadAccess) → None ≡ Some a → P a
  of_none a e = absurd (none-some a e)

in_bounds : (out : Bool) (o : Option ThreadAccess) (a : ThreadAccess) → (if out then None else o) ≡ Some a → o ≡ Some a
in_bounds out o a = cond_both out None o (λ (p : Option ThreadAccess). p ≡ Some a → o ≡ Some a) (λ is e. absurd (none-some a e)) (λ isnt e. e)

module _ (n : ℕ) (a : ThreadAccess) where
  made_to : (l : Location) (r : ThreadAccess) → Some r ≡ Some a → n ≡ r.thread → r.location ≡ l → IsTo n l a
  made_to l r e thread location = of_some (IsTo n l) r a e (record { thread = thread; location = location })

  bytes_to : (event : Event) (reply : Reply) (site : Site) → bytes_within n event reply site ≡ Some a → IsTo n Bytes a
  bytes_to (Load addr width reach) reply site e = made_to Bytes (reading n addr width (is_atomic_by site) site.code) e refl refl
  bytes_to (Store addr width reach value) reply site e =
      made_to Bytes (record {
        thread = n;
        location = Bytes;
        addr = addr;
        width = width;
        reads = false;
        writes = true;
        atomic = is_atomic_by site;
        code = site.code;
      }) e refl refl
  bytes_to (Rmw op addr width value) reply site e = made_to Bytes (changing n addr width true site.code) e refl refl
  bytes_to (Cmpxchg addr width expected replacement) reply site e =
      made_to Bytes (changing n addr width (has_value reply expected) site.code) e refl refl
  bytes_to (Ask (Wait addr width expected timeout)) reply site e = made_to Bytes (reading n addr width true site.code) e refl refl
  bytes_to (Ask (Notify addr count)) reply site e = of_none (IsTo n Bytes) a e
  bytes_to (Ask (Spawn arg)) reply site e = of_none (IsTo n Bytes) a e
  bytes_to (Ask Leave) reply site e = of_none (IsTo n Bytes) a e
  bytes_to (Told answer) reply site e = of_none (IsTo n Bytes) a e
  bytes_to Size reply site e = of_none (IsTo n Bytes) a e
  bytes_to (Grow more) reply site e = of_none (IsTo n Bytes) a e

  abbrev IsCall : Type 0
  IsCall = IsInWord a × (IsTo n Waiters a ⊎ IsTo n Threads a)

  one_wide : (r : ThreadAccess) → Some r ≡ Some a → r.width ≡ 1 → IsInWord a
  one_wide r e wide = of_some IsInWord r a e (let addr : ℕ = r.addr in record { some = omega arith; one_word = omega arith })

  no_call : None ≡ Some a → IsCall
  no_call e = absurd (none-some a e)

  calls_to : (event : Event) → call_within n event ≡ Some a → IsCall
  calls_to (Ask (Wait addr width expected timeout)) e =
      (one_wide (entering n Waiters addr) e refl, inl (made_to Waiters (entering n Waiters addr) e refl refl))
  calls_to (Ask (Notify addr count)) e =
      (one_wide (entering n Waiters addr) e refl, inl (made_to Waiters (entering n Waiters addr) e refl refl))
  calls_to (Ask (Spawn arg)) e = (one_wide (entering n Threads 0) e refl, inr (made_to Threads (entering n Threads 0) e refl refl))
  calls_to (Ask Leave) e = no_call e
  calls_to (Told answer) e = no_call e
  calls_to Size e = no_call e
  calls_to (Grow more) e = no_call e
  calls_to (Load addr width reach) e = no_call e
  calls_to (Store addr width reach value) e = no_call e
  calls_to (Rmw op addr width value) e = no_call e
  calls_to (Cmpxchg addr width expected replacement) e = no_call e

  abbrev IsCount : Type 0
  IsCount = IsInWord a × IsTo n Pages a

  counts : (writes atomic : Bool) → Some (counting n writes atomic) ≡ Some a → IsCount
  counts writes atomic e = (one_wide (counting n writes atomic) e refl, made_to Pages (counting n writes atomic) e refl refl)

  looks : (event : Event) (opening : ℕ) → (if nat_lt opening (end_of event) then Some (counting n false false) else None) ≡ Some a → IsCount
  looks event opening e =
      let p = cond_some (nat_lt opening (end_of event)) (counting n false false) a e in
      counts false false (ap (λ (b : ThreadAccess). Some b) p.1)

  counts_to : (event : Event) (reply : Reply) (opening : ℕ) → pages_within n event reply opening ≡ Some a → IsCount
  counts_to Size reply opening e = counts false true e
  counts_to (Grow more) reply opening e = counts (not (has_value reply 4294967295)) true e
  counts_to (Load addr width reach) reply opening e = looks (Load addr width reach) opening e
  counts_to (Store addr width reach value) reply opening e = looks (Store addr width reach value) opening e
  counts_to (Rmw op addr width value) reply opening e = looks (Rmw op addr width value) opening e
  counts_to (Cmpxchg addr width expected replacement) reply opening e = looks (Cmpxchg addr width expected replacement) opening e
  counts_to (Ask question) reply opening e = looks (Ask question) opening e
  counts_to (Told answer) reply opening e = looks (Told answer) opening e

-- a width that divides an address keeps within a word
atomic_in_word : (addr width : ℕ) → IsAtomic addr width → (1 ≤ width) × (addr % 8 + width ≤ 8)
atomic_in_word addr width h =
    let P : ℕ → Type 0 = λ w. addr % w ≡ 0 in
    let Q : ℕ → Type 0 = λ w. (1 ≤ w) × (addr % 8 + w ≤ 8) in
    let by : (w : ℕ) → width ≡ w → (P w → Q w) → Q width = λ w e f. subst Q (sym e) (f (subst P e h.aligned)) in
    elim h.of_width [
      | inl e ↦ by 1 e (λ r. (omega arith, omega arith))
      | inr more ↦ elim more [
        | inl e ↦ by 2 e (λ r. (omega arith, omega arith))
        | inr more' ↦ elim more' [
          | inl e ↦ by 4 e (λ r. (omega arith, omega arith))
          | inr e ↦ by 8 e (λ r. (omega arith, omega arith))
        ]
      ]
    ]

wait_in_word : (addr width : ℕ) → (width ≡ 4) ⊎ (width ≡ 8) → addr % width ≡ 0 → (1 ≤ width) × (addr % 8 + width ≤ 8)
wait_in_word addr width either aligned =
    elim either [
      | inl e ↦ atomic_in_word addr width (record { of_width = inr (inr (inl e)); aligned = aligned })
      | inr e ↦ atomic_in_word addr width (record { of_width = inr (inr (inr e)); aligned = aligned })
    ]

module _ (n : ℕ) (reply : Reply) (site : Site) (a : ThreadAccess) where
  in_word : (r : ThreadAccess) → Some r ≡ Some a → (1 ≤ r.width) × (r.addr % 8 + r.width ≤ 8) → IsInWord a
  in_word r e h = of_some IsInWord r a e (record { some = h.0; one_word = h.1 })

  bytes_word : (event : Event) → IsEvent event → bytes_within n event reply site ≡ Some a → IsInWord a
  bytes_word (Load addr width reach) h e = in_word (reading n addr width (is_atomic_by site) site.code) e (h.some, h.one_word)
  bytes_word (Store addr width reach value) h e =
      in_word (record {
        thread = n;
        location = Bytes;
        addr = addr;
        width = width;
        reads = false;
        writes = true;
        atomic = is_atomic_by site;
        code = site.code;
      }) e (h.0.some, h.0.one_word)
  bytes_word (Rmw op addr width value) h e = in_word (changing n addr width true site.code) e (atomic_in_word addr width h.0)
  bytes_word (Cmpxchg addr width expected replacement) h e =
      in_word (changing n addr width (has_value reply expected) site.code) e (atomic_in_word addr width h.0)
  bytes_word (Ask (Wait addr width expected timeout)) h e = in_word (reading n addr width true site.code) e (wait_in_word addr width h.0 h.1)
  bytes_word (Ask (Notify addr count)) h e = of_none IsInWord a e
  bytes_word (Ask (Spawn arg)) h e = of_none IsInWord a e
  bytes_word (Ask Leave) h e = of_none IsInWord a e
  bytes_word (Told answer) h e = of_none IsInWord a e
  bytes_word Size h e = of_none IsInWord a e
  bytes_word (Grow more) h e = of_none IsInWord a e

-- an access to a byte is one of these
each_is : (r : ThreadAccess) (n : ℕ) (a : ThreadAccess) → Contains (each_byte r n) a → (i : ℕ) × (a ≡ one_byte r i)
each_is r zero a c = absurd (Contains-none a c)
each_is r (suc n) a c = by (Contains-push_cases (each_byte r n) (one_byte r n) a c) (λ d. each_is r n a d)
  where
    by : Contains (each_byte r n) a ⊎ (one_byte r n ≡ a) → (Contains (each_byte r n) a → (i : ℕ) × (a ≡ one_byte r i)) → (i : ℕ) × (a ≡ one_byte r i)
    by (inl d) below = below d
    by (inr e) below = (n, sym e)

-- of such bytes, the one at an address
abbrev byte_at : ThreadAccess → ℕ → ThreadAccess
byte_at r byte = record r { addr = byte; width = 1; atomic = true }

one_is : (r : ThreadAccess) (i byte : ℕ) → HasByte (one_byte r i) byte → byte_at r byte ≡ one_byte r i
one_is r i byte has =
    ap (byte_at r) (between (min (r.addr + i) (2 ^ 64 - 1)) byte has.0 has.1)
  where
    between : (m n : ℕ) → m ≤ n → n < m + 1 → n ≡ m
    between m n low high = omega (arith, low, high)

-- What an access to bytes is, that has a byte.
abbrev judged_at : Bool → ℕ → ThreadAccess → ThreadAccess
judged_at true byte r = byte_at r byte
judged_at false byte r = r

-- Each is made of one, and has its thread and location, is within a word, and is that one where it has a byte.
record IsJudged (allowed : Bool) (o : Option ThreadAccess) (a : ThreadAccess) : Type 0 where
  pub whole : ThreadAccess
  pub of : o ≡ Some whole
  pub thread : whole.thread ≡ a.thread
  pub location : whole.location ≡ a.location
  pub word : IsInWord whole → IsInWord a
  pub is : (byte : ℕ) → HasByte a byte → judged_at allowed byte whole ≡ a

judged_is : (allowed : Bool) (o : Option ThreadAccess) (a : ThreadAccess) → Contains (judged o allowed) a → IsJudged allowed o a
judged_is true None a c = absurd (Contains-none a c)
judged_is false None a c = absurd (Contains-none a c)
judged_is false (Some r) a c =
    let same = some_in (Some r) a c in
    let e : r ≡ a = same_Some r a same in
    record {
      whole = r;
      of = refl;
      thread = ap (λ (x : ThreadAccess). x.thread) e;
      location = ap (λ (x : ThreadAccess). x.location) e;
      word = λ w. subst IsInWord e w;
      is = λ byte has. e;
    }
judged_is true (Some r) a c =
    let one = each_is r r.width a c in
    let i : ℕ = one.0 in
    let e : a ≡ one_byte r i = one.1 in
    record {
      whole = r;
      of = refl;
      thread = ap (λ (x : ThreadAccess). x.thread) (sym e);
      location = ap (λ (x : ThreadAccess). x.location) (sym e);
      word = λ w. one_wide r.thread a (one_byte r i) (ap (λ (x : ThreadAccess). Some x) (sym e)) refl;
      is = λ byte has. one_is r i byte (subst (λ (x : ThreadAccess). HasByte x byte) e has) ∙ sym e;
    }

module _ (e : Entry) (site : Site) (opening : ℕ) where
  bytes_is : (a : ThreadAccess) → bytes_of e site ≡ Some a → IsTo e.thread Bytes a
  bytes_is a is = bytes_to e.thread a e.event e.reply site (in_bounds (is_out_of_bounds e.reply) (bytes_within e.thread e.event e.reply site) a is)

  call_is : (a : ThreadAccess) → call_of e ≡ Some a → IsCall e.thread a
  call_is a is = calls_to e.thread a e.event (in_bounds (is_out_of_bounds e.reply) (call_within e.thread e.event) a is)

  count_is : (a : ThreadAccess) → pages_of e opening ≡ Some a → IsCount e.thread a
  count_is a is = counts_to e.thread a e.event e.reply opening is

  -- the access to a location that has a byte
  abbrev at_location : ℕ → Location → Option ThreadAccess
  at_location byte Bytes = option_map (judged_at site.is_allowed byte) (bytes_of e site)
  at_location byte Pages = pages_of e opening
  at_location byte Waiters = call_of e
  at_location byte Threads = call_of e

  parts : (a : ThreadAccess) → Contains (accesses_of e site opening) a
      → IsJudged site.is_allowed (bytes_of e site) a ⊎ (call_of e ≡ Some a) ⊎ (pages_of e opening ≡ Some a)
  parts a c =
      elim (Contains-append_cases (judged (bytes_of e site) site.is_allowed ++ option_to_list (call_of e)) (option_to_list (pages_of e opening)) a c) [
        | inl two ↦ elim (Contains-append_cases (judged (bytes_of e site) site.is_allowed) (option_to_list (call_of e)) a two) [
          | inl b ↦ inl (judged_is site.is_allowed (bytes_of e site) a b)
          | inr l ↦ inr (inl (some_in (call_of e) a l))
        ]
        | inr p ↦ inr (inr (some_in (pages_of e opening) a p))
      ]

  to_bytes : (a : ThreadAccess) (j : IsJudged site.is_allowed (bytes_of e site) a) → a.location ≡ Bytes
  to_bytes a j = sym j.location ∙ (bytes_is j.whole j.of).location

  -- the access to its location that has its bytes is this one
  one_each : (a : ThreadAccess) (byte : ℕ) → HasByte a byte → Contains (accesses_of e site opening) a → at_location byte a.location ≡ Some a
  one_each a byte has c = elim (parts a c) [
    | inl b ↦
        ap (at_location byte) (to_bytes a b)
        ∙ (ap (option_map (judged_at site.is_allowed byte)) b.of ∙ ap (λ (x : ThreadAccess). Some x) (b.is byte has))
    | inr more ↦ elim more [
      | inl l ↦ elim (call_is a l).1 [
        | inl waits ↦ ap (at_location byte) waits.location ∙ l
        | inr starts ↦ ap (at_location byte) starts.location ∙ l
      ]
      | inr p ↦ ap (at_location byte) (count_is a p).1.location ∙ p
    ]
  ]

  of_thread : (a : ThreadAccess) → Contains (accesses_of e site opening) a → e.thread ≡ a.thread
  of_thread a c = elim (parts a c) [
    | inl b ↦ (bytes_is b.whole b.of).thread ∙ b.thread
    | inr more ↦ elim more [
      | inl l ↦ elim (call_is a l).1 [ inl waits ↦ waits.thread | inr starts ↦ starts.thread ]
      | inr p ↦ (count_is a p).1.thread
    ]
  ]

  within_word : IsEvent e.event → (a : ThreadAccess) → Contains (accesses_of e site opening) a → IsInWord a
  within_word is a c = elim (parts a c) [
    | inl b ↦
        b.word (bytes_word e.thread e.reply site b.whole e.event is
        (in_bounds (is_out_of_bounds e.reply) (bytes_within e.thread e.event e.reply site) b.whole b.of))
    | inr more ↦ elim more [ inl l ↦ (call_is a l).0 | inr p ↦ (count_is a p).0 ]
  ]

module _ (log : List Entry) (sites : List Site) (opening : ℕ) where
  -- the entry and the site at a place are these
  pub made_here : (place : ℕ) (e : Entry) (site : Site) (a : ThreadAccess) → IsAt log place e → IsAt sites place site → IsAccess log sites opening place a
      → Contains (accesses_of e site opening) a
  made_here place e site a at of h =
      subst (λ (x : Entry). Contains (accesses_of x site opening) a) (IsAt-same log place h.entry e h.entered at)
      (subst (λ (x : Site). Contains (accesses_of h.entry x opening) a) (IsAt-same sites place h.site site h.sited of) h.made)

  -- an entry makes one access to a byte of a location
  pub IsAccess-same : (place : ℕ) (a b : ThreadAccess) → IsAccess log sites opening place a → IsAccess log sites opening place b
      → Meet a b → a ≡ b
  IsAccess-same place a b h i meet =
      let c = made_here place h.entry h.site b h.entered h.sited i in
      let byte : ℕ = meet.1.0 in
      same_Some a b (sym (one_each h.entry h.site opening a byte meet.1.1.0 h.made)
      ∙ (ap (at_location h.entry h.site opening byte) meet.0 ∙ one_each h.entry h.site opening b byte meet.1.1.1 c))

  pub thread_is : (place : ℕ) (e : Entry) → IsAt log place e → thread_at log place ≡ e.thread
  thread_is place e h = map-at (λ (x : Entry). x.thread) log place e 0 h

  pub access_thread : (place : ℕ) (a : ThreadAccess) → IsAccess log sites opening place a → thread_at log place ≡ a.thread
  access_thread place a h = thread_is place h.entry h.entered ∙ of_thread h.entry h.site opening a h.made

  -- and within a word
  pub access_word : AreEntries log → (place : ℕ) (a : ThreadAccess) → IsAccess log sites opening place a → IsInWord a
  access_word entries place a h =
      let e : Entry = h.entry in
      let P : Entry → Type 0 = IsEntry in
      let is : IsEntry e = subst P h.entered.is (entries place e h.entered.within) in
      within_word e h.site opening is.event a h.made

  pub access_made : (place : ℕ) (e : Entry) (site : Site) (a : ThreadAccess) → IsAt log place e → IsAt sites place site
      → Contains (accesses_of e site opening) a → IsAccess log sites opening place a
  access_made place e site a at of is = record { entry = e; site = site; entered = at; sited = of; made = is }
