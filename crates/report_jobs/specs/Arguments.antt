-- The arguments of a run, as they are written on the command line.
use Rattle.std.specs.Prelude.{ℕ, ◌≡◌, List, [], ◌∷◌, map}
use Rattle.std.specs.Borrow.{Bor}
use Rattle.types.specs.declared.value.ValType.{ValType}
use Rattle.types.specs.declared.value.Value.{Value}
use Rattle.types.specs.Values.{type_of}
use Rattle.types.specs.declared.parts.Parts.{Parts}
use Rattle.report_command.specs.Spells.{Spells}
use Rattle.spawn_host.specs.Entries.{Takes}

-- The texts spell the values, in number and order.
abbrev pub AreSpelled : List (List ℕ) → List Value → Type 0
AreSpelled [] [] = Unit {0}
AreSpelled [] (v ∷ vs) = ⊥
AreSpelled (text ∷ texts) [] = ⊥
AreSpelled (text ∷ texts) (v ∷ vs) = Spells text v × AreSpelled texts vs

-- The texts as they are given.
abbrev pub texts_in : List (Bor (List ℕ)) → List (List ℕ)
texts_in texts = map (λ text. text.now) texts

-- They spell the values, which have these types.
abbrev pub AreSpelledAs : List (List ℕ) → List ValType → List Value → Type 0
AreSpelledAs texts types args = AreSpelled texts args × (map type_of args ≡ types)

-- They spell no values of these types.
abbrev pub SpellNone : List (List ℕ) → List ValType → Type 0
SpellNone texts types = (args : List Value) → AreSpelled texts args → map type_of args ≡ types → ⊥

-- No function of the module itself is exported by the name and takes values that the texts spell.
abbrev pub CannotCall : Parts → List ℕ → List (List ℕ) → Type 0
CannotCall m name texts = (args : List Value) → AreSpelled texts args → Takes m name args → ⊥
