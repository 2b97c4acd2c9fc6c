-- How long the runs are that were all gone through. A step is quiet where that is said of its world and its thread: it
-- stays within what the states stand for. The others are counted.
use Rattle.std.specs.Prelude.{◌≡◌, ◌<◌, ◌+◌, ◌^◌, ◌⊎◌, ℕ, zero, suc, Bool, true, Option, None, Some, List, length}
use Rattle.std.specs.List.{slice_get}
use Rattle.std.specs.Option.{IfSome}
use Rattle.search_graph.specs.Worlds.{Worlds}
use Rattle.search_reach.specs.Search.{StepSystem, StandsFor, HasEqual}
use Rattle.search_reach.specs.declared.search.Levels.{Levels}
use Rattle.search_reach.specs.declared.search.SearchOrder.{SearchOrder}
use Rattle.search_reach.specs.declared.search.SearchOrder.TheVariants.{Breadth, Depth}

-- From w so many steps lead to z, of which at most so many are not quiet.
abbrev pub Comes : {W : Type 0} → Worlds W → (W → ℕ → Bool) → ℕ → ℕ → W → W → Type 0
Comes worlds quiet zero loud w z = w ≡ z
Comes worlds quiet (suc steps) loud w z =
    (v : _) × (n : ℕ) × worlds.steps n v z
    × (((quiet v n ≡ true) × Comes worlds quiet steps loud w v)
    ⊎ ((less : ℕ) × (loud ≡ suc less) × Comes worlds quiet steps less w v))

module _ {S W E : Type 0} (k : StepSystem S W E) where
  -- Each quiet step of what a state stands for stays within that.
  abbrev pub IsQuiet : (W → ℕ → Bool) → Type 0
  IsQuiet quiet = (s : S) (w z : W) (n : ℕ) → StandsFor k s w → quiet w n ≡ true → k.worlds.steps n w z → StandsFor k s z

  -- One of the first so many states stands for it.
  pub record CoversBelow (ks : List S) (end : ℕ) (w : W) : Type 0 where
    pub at : ℕ
    pub state : S
    pub below : at < end
    pub there : slice_get ks at ≡ Some state
    pub is : StandsFor k state w

  -- What can be reached by so many steps that are not quiet, one of the first `end` states stands for.
  abbrev pub HasLevels : List S → ℕ → ℕ → Type 0
  HasLevels ks levels end =
      (quiet : W → ℕ → Bool) → IsQuiet quiet → (w z : W) (steps : ℕ) → k.begins w → Comes k.worlds quiet steps levels w z
      → CoversBelow ks end z

  -- All that can be reached so is stood for, where a number is said.
  abbrev pub HasGoneThrough : List S → Option ℕ → Type 0
  HasGoneThrough ks levels = IfSome levels (λ n. HasLevels ks n (length ks))

  -- However something has ended that can be reached so, the list has it.
  abbrev pub HasEndsWithin : (E → E → Bool) → List E → ℕ → Type 0
  HasEndsWithin eq es levels =
      (quiet : W → ℕ → Bool) → IsQuiet quiet → (w z : W) (steps : ℕ) (e : E) → k.begins w → Comes k.worlds quiet steps levels w z
      → k.ends z e → HasEqual eq es e

-- It is the same, or one level more: so many states were gone on from, which are all below the end of the last one; and
-- the new one ends where the known states do.
abbrev pub IsBehind : Levels → ℕ → ℕ → Levels → Type 0
IsBehind old gone known new =
    (new ≡ old) ⊎ ((gone ≡ old.end) × (known < 2 ^ 32) × (new.complete ≡ old.complete + 1) × (new.end ≡ known))

-- Levels are counted breadth first alone.
abbrev pub levels_by : SearchOrder → ℕ → Option ℕ
levels_by Breadth levels = Some levels
levels_by Depth levels = None

-- Depth first no number is said; breadth first one is, but in the case that is named.
abbrev pub IsLeveled : SearchOrder → Option ℕ → Type 0 → Type 0
IsLeveled Breadth levels unless = levels ≡ None → unless
IsLeveled Depth levels unless = levels ≡ None
