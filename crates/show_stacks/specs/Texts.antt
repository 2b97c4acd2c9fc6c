-- The text of a stack.
use Rattle.std.specs.Prelude.{ℕ, ◌≡◌, List, [], ◌∷◌, ◌++◌, Option, Some}
use Rattle.interp.specs.declared.place.CodePlace.{CodePlace}
use Rattle.show_rows.specs.declared.code.CodeMap.{CodeMap}
use Rattle.show_rows.specs.Listing.{IsCallText, IsPlaceText}

-- The new text is the old one, and behind it the text of each of these calls, in order.
abbrev pub AddsCalls : CodeMap → List CodePlace → List ℕ → List ℕ → Type 0
AddsCalls code [] old new = new ≡ old
AddsCalls code (call ∷ calls) old new =
    (text : List ℕ) × IsCallText code (Some call) text × AddsCalls code calls (old ++ text) new

-- The text of these calls alone.
abbrev pub IsCallsText : CodeMap → List CodePlace → List ℕ → Type 0
IsCallsText code calls text = AddsCalls code calls [] text

-- The text of a place, and behind it that of each call that led there.
abbrev pub IsStackText : CodeMap → Option CodePlace → List CodePlace → List ℕ → Type 0
IsStackText code place calls text =
    (spot : List ℕ) × IsPlaceText code place spot × AddsCalls code calls spot text
