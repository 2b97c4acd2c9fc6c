-- The words of a thread with those of dead locals cleared.
use Rattle.std.specs.Prelude.{ℕ, ◌-◌, nat_le, ◌&&◌, if◌then◌else◌, Bool, true, false, List, [], ◌∷◌, length, take, drop}
use Rattle.std.specs.List.{splice, fold}
use Rattle.interp_state.specs.declared.state.Caller.{Caller}
use Rattle.interp.specs.declared.kept.Kept.{Kept}
use Rattle.live_locals.specs.Live.{row_at}

-- Words by a row of marks: those that it calls dead are 0.
abbrev pub cleared : List Bool → List ℕ → List ℕ
cleared row [] = []
cleared [] (word ∷ words) = word ∷ words
cleared (true ∷ row) (word ∷ words) = word ∷ cleared row words
cleared (false ∷ row) (word ∷ words) = 0 ∷ cleared row words

-- The words of all open functions, where the locals of one are cleared by the marks of its place.
abbrev pub has_locals : List ℕ → Caller → Bool
has_locals words caller = nat_le caller.base caller.operands && nat_le caller.operands (length words)

abbrev pub locals_of : List ℕ → Caller → List ℕ
locals_of words caller = take (caller.operands - caller.base) (drop caller.base words)

module _ (tables : List (List (List Bool))) where
  abbrev pub cleared_at : List ℕ → Caller → List ℕ
  cleared_at words caller =
      if has_locals words caller
      then splice words caller.base caller.operands
      (cleared (row_at (row_at tables caller.function) caller.pc) (locals_of words caller))
      else words

-- The function that runs, as an open one.
abbrev pub running : Kept → Caller
running k = record {
  function = k.function;
  pc = k.pc;
  base = k.base;
  operands = k.operands;
  results = k.results;
}

-- The words of a thread with the dead locals of all its open functions cleared.
abbrev pub cleared_words : List (List (List Bool)) → Kept → List ℕ
cleared_words tables k = cleared_at tables (fold (cleared_at tables) k.values.items k.callers.items) (running k)
