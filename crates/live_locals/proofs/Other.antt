-- A configuration with other locals, and what comes next of both, value by value.
use Rattle.std.proofs.Common.{◌≡◌, ℕ, ◌+◌, nat_le, List, [], ◌∷◌, length, sum_by, Option, Some, None, Bool, true, false}
use Rattle.std.proofs.Common.{suc, if◌then◌else◌, take, drop, refl, sym, ◌∙◌, ap, subst}
use Rattle.std.proofs.lemmas.List.Sums.{sum_by-cons}
use Rattle.types.specs.declared.value.ValType.{ValType}
use Rattle.types.specs.declared.value.ValType.TheVariants as types
use Rattle.types.specs.declared.value.Value.{Value}
use Rattle.types.specs.declared.value.Value.TheVariants as values
use Rattle.types.specs.declared.event.Event.{Event}
use Rattle.types.specs.declared.outcome.Trap.{Trap}
use Rattle.types.specs.declared.outcome.Trap.TheVariants as traps
use Rattle.types.specs.declared.limits.TheConstants.{MOST_VALUES}
use Rattle.interp_machine.specs.Config.{Label, Frame, Config, values_in, values_of, Next, Stuck, Goes, Traps, Finishes, Asks, Hears}
use Rattle.interp_machine.specs.Step.{on_top, on_number, on_some, on_front, limited}
use Rattle.live_locals.specs.Lives.{IsLiveFrame}
use Rattle.live_locals.specs.Alike.{Agree, AreFramesAlike, AreCallersAlike, AreAlike, AreNextAlike}
use Rattle.live_locals.proofs.Marks.{agree_long}

-- ---- With operands

pub on_top_alike : (ops : List Value) (go on : Value → List Value → Next) → ((v : Value) (below : List Value) → AreNextAlike (go v below) (on v below)) →
    AreNextAlike (on_top ops go) (on_top ops on)
on_top_alike [] go on h = tt
on_top_alike (v ∷ below) go on h = h v below

pub on_number_alike : (t : ValType) (ops : List Value) (go on : ℕ → List Value → Next) →
    ((n : ℕ) (below : List Value) → AreNextAlike (go n below) (on n below)) → AreNextAlike (on_number t ops go) (on_number t ops on)
on_number_alike types.I32 [] go on h = tt
on_number_alike types.I32 (values.I32 n ∷ below) go on h = h n below
on_number_alike types.I32 (values.I64 n ∷ below) go on h = tt
on_number_alike types.I64 [] go on h = tt
on_number_alike types.I64 (values.I32 n ∷ below) go on h = tt
on_number_alike types.I64 (values.I64 n ∷ below) go on h = h n below

pub on_some_alike : {A : Type 0} (o : Option A) (go on : A → Next) → ((x : A) → AreNextAlike (go x) (on x)) → AreNextAlike (on_some o go) (on_some o on)
on_some_alike None go on h = tt
on_some_alike (Some x) go on h = h x

pub either_alike : (b : Bool) (this that these those : Next) → AreNextAlike this these → AreNextAlike that those →
    AreNextAlike (if b then this else that) (if b then these else those)
either_alike true this that these those h k = h
either_alike false this that these those h k = k

pub on_front_alike : (n : ℕ) (ops : List Value) (go on : List Value → List Value → Next) →
    ((kept below : List Value) → AreNextAlike (go kept below) (on kept below)) → AreNextAlike (on_front n ops go) (on_front n ops on)
on_front_alike n ops go on h =
    either_alike (nat_le n (length ops)) (go (take n ops) (drop n ops)) Stuck (on (take n ops) (drop n ops)) Stuck (h (take n ops) (drop n ops)) tt

pub either_config_alike : (b : Bool) (this that these those : Config) → AreAlike this these → AreAlike that those →
    AreAlike (if b then this else that) (if b then these else those)
either_config_alike true this that these those h k = h
either_config_alike false this that these those h k = k

-- the same option in two places
pub on_same_alike : {A : Type 0} (o q : Option A) (go on : A → Next) → o ≡ q → ((x : A) → AreNextAlike (go x) (on x)) →
    AreNextAlike (on_some o go) (on_some q on)
on_same_alike {A = A} o q go on e h = subst (λ (y : Option A). AreNextAlike (on_some o go) (on_some y on)) e (on_some_alike o go on h)

-- ---- Values

frames_long : (f g : Frame) → AreFramesAlike f g → values_in f ≡ values_in g
frames_long f g a =
    let l = agree_long a.row f.locals g.locals a.same.locals in
    let o = a.same.operands in
    let b = a.same.labels in
    λ i. l i + (length (o i) + sum_by (λ (y : Label). length y.below) (b i))

callers_values : (fs gs : List Frame) → AreCallersAlike fs gs → sum_by values_in fs ≡ sum_by values_in gs
callers_values [] [] a = refl
callers_values [] (g ∷ gs) a = absurd a
callers_values (f ∷ fs) [] a = absurd a
callers_values (f ∷ fs) (g ∷ gs) a =
    let h = frames_long f g a.0 in
    let t = callers_values fs gs a.1 in
    sum_by-cons values_in f fs ∙ (λ i. h i + t i) ∙ sym (sum_by-cons values_in g gs)

pub callers_long : (fs gs : List Frame) → AreCallersAlike fs gs → length fs ≡ length gs
callers_long [] [] a = refl
callers_long [] (g ∷ gs) a = absurd a
callers_long (f ∷ fs) [] a = absurd a
callers_long (f ∷ fs) (g ∷ gs) a = ap suc (callers_long fs gs a.1)

pub as_many_values : (c d : Config) → AreAlike c d → values_of c ≡ values_of d
as_many_values c d a =
    let f = frames_long c.frame d.frame a.frame in
    let r = callers_values c.callers d.callers a.callers in
    λ i. f i + r i

room_alike : (c d : Config) (go on : Next) → AreAlike c d → AreNextAlike go on →
    AreNextAlike (if nat_le (values_of c) MOST_VALUES then go else Traps traps.StackExhausted)
    (if nat_le (values_of d) MOST_VALUES then on else Traps traps.StackExhausted)
room_alike c d go on a h =
    subst (λ n. AreNextAlike (if nat_le (values_of c) MOST_VALUES then go else Traps traps.StackExhausted)
    (if nat_le n MOST_VALUES then on else Traps traps.StackExhausted)) (as_many_values c d a)
    (either_alike (nat_le (values_of c) MOST_VALUES) go (Traps traps.StackExhausted) on (Traps traps.StackExhausted) h refl)

-- what is so of two that are alike, by what comes next
module _ (P : Next → Next → Type 0) (stuck : P Stuck Stuck) (goes : (c d : Config) → AreAlike c d → P (Goes c) (Goes d))
    (traps : (trap : Trap) → P (Traps trap) (Traps trap)) (finishes : (result : Option Value) → P (Finishes result) (Finishes result))
    (asks : (event : Event) (go on : ℕ → Config) → ((n : ℕ) → AreAlike (go n) (on n)) → P (Asks event go) (Asks event on))
    (hears : (go on : ℕ → Config) → ((n : ℕ) → AreAlike (go n) (on n)) → P (Hears go) (Hears on)) where
  pub next_cases : (n m : Next) → AreNextAlike n m → P n m
  next_cases Stuck Stuck h = stuck
  next_cases Stuck (Goes d) h = absurd h
  next_cases Stuck (Traps u) h = absurd h
  next_cases Stuck (Finishes q) h = absurd h
  next_cases Stuck (Asks f on) h = absurd h
  next_cases Stuck (Hears on) h = absurd h
  next_cases (Goes c) Stuck h = absurd h
  next_cases (Goes c) (Goes d) h = goes c d h
  next_cases (Goes c) (Traps u) h = absurd h
  next_cases (Goes c) (Finishes q) h = absurd h
  next_cases (Goes c) (Asks f on) h = absurd h
  next_cases (Goes c) (Hears on) h = absurd h
  next_cases (Traps t) Stuck h = absurd h
  next_cases (Traps t) (Goes d) h = absurd h
  next_cases (Traps t) (Traps u) h = subst (λ y. P (Traps t) (Traps y)) h (traps t)
  next_cases (Traps t) (Finishes q) h = absurd h
  next_cases (Traps t) (Asks f on) h = absurd h
  next_cases (Traps t) (Hears on) h = absurd h
  next_cases (Finishes r) Stuck h = absurd h
  next_cases (Finishes r) (Goes d) h = absurd h
  next_cases (Finishes r) (Traps u) h = absurd h
  next_cases (Finishes r) (Finishes q) h = subst (λ y. P (Finishes r) (Finishes y)) h (finishes r)
  next_cases (Finishes r) (Asks f on) h = absurd h
  next_cases (Finishes r) (Hears on) h = absurd h
  next_cases (Asks e go) Stuck h = absurd h
  next_cases (Asks e go) (Goes d) h = absurd h
  next_cases (Asks e go) (Traps u) h = absurd h
  next_cases (Asks e go) (Finishes q) h = absurd h
  next_cases (Asks e go) (Asks f on) h = subst (λ y. P (Asks e go) (Asks y on)) h.0 (asks e go on h.1)
  next_cases (Asks e go) (Hears on) h = absurd h
  next_cases (Hears go) Stuck h = absurd h
  next_cases (Hears go) (Goes d) h = absurd h
  next_cases (Hears go) (Traps u) h = absurd h
  next_cases (Hears go) (Finishes q) h = absurd h
  next_cases (Hears go) (Asks f on) h = absurd h
  next_cases (Hears go) (Hears on) h = hears go on h

pub limited_alike : (n m : Next) → AreNextAlike n m → AreNextAlike (limited n) (limited m)
limited_alike = next_cases (λ n m. AreNextAlike (limited n) (limited m)) tt (λ c d a. room_alike c d (Goes c) (Goes d) a a) (λ trap. refl) (λ result. refl)
    (λ event go on h. room_alike (go 0) (on 0) (Asks event go) (Asks event on) (h 0) (refl, h)) (λ go on h. h)

-- ---- A configuration with other locals

-- other locals in the innermost frame, and other calling frames
abbrev pub other : Config → List Value → List Frame → Config
other c ys gs = record c { frame = record c.frame { locals = ys }; callers = gs }

pub frame_alike : (row : List Bool) (f : Frame) (ys : List Value) → IsLiveFrame row f → Agree row f.locals ys → AreFramesAlike f (record f { locals = ys })
frame_alike row f ys live agree =
    record { row = row; live = live; same = record { locals = agree; code = refl; operands = refl; labels = refl; arity = refl } }

pub config_alike : (c : Config) (ys : List Value) (gs : List Frame) (row : List Bool) → IsLiveFrame row c.frame → Agree row c.frame.locals ys →
    AreCallersAlike c.callers gs → AreAlike c (other c ys gs)
config_alike c ys gs row live agree callers =
    record { globals = refl; frame = frame_alike row c.frame ys live agree; callers = callers; progress = refl }

-- each of two that are alike is the other one with other locals
pub other_is : (c d : Config) → AreAlike c d → other c d.frame.locals d.callers ≡ d
other_is c d a =
    let g = a.globals in
    let o = a.frame.same.code in
    let s = a.frame.same.operands in
    let l = a.frame.same.labels in
    let n = a.frame.same.arity in
    let p = a.progress in
    λ i. record {
      globals = g i;
      frame = record { locals = d.frame.locals; code = o i; operands = s i; labels = l i; arity = n i };
      callers = d.callers;
      progress = p i;
    }
