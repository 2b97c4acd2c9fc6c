-- The first of several faults, which are looked for one after another.
use Rattle.std.proofs.Common.{◌≡◌, ◌∙◌, ℕ, refl, ap, not, true, false, Bool, Option, Some, None, is_some}
use Rattle.std.specs.Option.{option_or}
use Rattle.validate_typing.specs.declared.fault.Fault.{Fault}
use Rattle.validate_typing.specs.declared.fault.Fault.TheVariants.{StartSection}
use Rattle.validate_module_rules.specs.Faults.{unless, start_fault}

or_in_order : (a b rest : Option Fault) → option_or (option_or a b) rest ≡ option_or a (option_or b rest)
or_in_order None b rest = refl
or_in_order (Some x) b rest = refl

pub in_order : (a b both rest first : Option Fault) → both ≡ option_or a b → first ≡ option_or both rest → first ≡ option_or a (option_or b rest)
in_order a b both rest first e h = h ∙ ap (λ (x : Option Fault). option_or x rest) e ∙ or_in_order a b rest

pub both_are : {a b x y : Option Fault} → a ≡ x → b ≡ y → option_or a b ≡ option_or x y
both_are {a} {b} {x} {y} e h = ap (λ (p : Option Fault). option_or p b) e ∙ ap (λ (q : Option Fault). option_or x q) h

pub start_is : (start : Option ℕ) (bare : Bool) (fault : Option Fault) → is_some start ≡ not bare → fault ≡ unless bare StartSection →
    fault ≡ start_fault start
start_is None true fault e h = h
start_is None false fault e h = absurd (let never : false ≡ true = e in cc)
start_is (Some n) true fault e h = absurd (let never : true ≡ false = e in cc)
start_is (Some n) false fault e h = h
