-- What the parser found of an argument: the texts under its name, as `clap` has them.
use Rattle.std.specs.Prelude.{ℕ, ◌≡◌, ◌≤◌, ◌↔◌, Bool, true, false, List, [], map, codes}
use Rattle.std.specs.Prelude.{Option, Some, None, is_some, option_and_then, option_map, unwrap_or}
use Rattle.std.specs.Borrow.{Bor}
use Rattle.std.specs.List.{AllZip}
use Rattle.std.specs.Str.Parse.{digits_value, without_leading_plus}
use Rattle.clap.specs.Words.{first_value, one_text, matched_of, raw_values}
use Rattle.clap.specs.declared.parser.matches.Found.{Found}
use Rattle.clap.specs.declared.parser.matches.ValueSource.{ValueSource}
use Rattle.clap.specs.declared.parser.matches.ValueSource.TheVariants.{CommandLine, DefaultValue}
use Rattle.report_command.specs.declared.kinds.ArgumentKind.{ArgumentKind}
use Rattle.report_command.specs.declared.kinds.ArgumentKind.TheVariants.{Number, Long}

-- It isn't there.
abbrev pub HasNo : Found → List ℕ → Type 0
HasNo f name = first_value f name ≡ None

-- It is.
abbrev pub is_given : Found → List ℕ → Bool
is_given f name = is_some (first_value f name)

-- The words say it: a default doesn't count.
abbrev pub is_of_words : Option ValueSource → Bool
is_of_words (Some CommandLine) = true
is_of_words (Some DefaultValue) = false
is_of_words None = false

abbrev pub is_said : Found → List ℕ → Bool
is_said f name = is_of_words (option_and_then (λ a. a.source) (matched_of f name))

-- It is this text.
abbrev pub HasText : Found → List ℕ → Bor (List ℕ) → Type 0
HasText f name text = first_value f name ≡ Some text.now

-- It is this text, or neither is there.
abbrev pub HasTextIfAny : Found → List ℕ → Option (Bor (List ℕ)) → Type 0
HasTextIfAny f name text = option_map (λ t. t.now) text ≡ first_value f name

-- It is these texts.
abbrev pub HasTexts : Found → List ℕ → List (Bor (List ℕ)) → Type 0
HasTexts f name all = map (λ t. t.now) all ≡ unwrap_or (option_map raw_values (matched_of f name)) []

-- The number that decimal digits write, behind a plus or none.
abbrev pub decimal_of : List ℕ → ℕ
decimal_of text = digits_value 10 (without_leading_plus text)

abbrev pub number_found : Found → List ℕ → Option ℕ
number_found f name = option_map decimal_of (one_text f name)

-- It is this number.
abbrev pub HasNumber : Found → List ℕ → ℕ → Type 0
HasNumber f name n = number_found f name ≡ Some n

-- It is this number, or neither is there.
abbrev pub HasNumberIfAny : Found → List ℕ → Option ℕ → Type 0
HasNumberIfAny f name n = number_found f name ≡ n

-- It is this number, or where it isn't there the other one.
abbrev pub HasNumberOr : Found → List ℕ → ℕ → ℕ → Type 0
HasNumberOr f name other n = unwrap_or (number_found f name) other ≡ n

-- A flag, which says `true` or `false`, and is false where it isn't there.
pub record HasFlag (f : Found) (name : List ℕ) (is : Bool) : Type 0 where
  pub missing : one_text f name ≡ None → is ≡ false
  pub yes : one_text f name ≡ Some (codes "true") → is ≡ true
  pub no : one_text f name ≡ Some (codes "false") → is ≡ false

-- Whether it is this word.
abbrev pub IsWord : Found → List ℕ → List ℕ → Bool → Type 0
IsWord f name word is = (is ≡ true) ↔ (first_value f name ≡ Some word)

-- The number is in the range of the kind.
abbrev pub IsWithin : ArgumentKind → ℕ → Type 0
IsWithin (Number least most) n = (least ≤ n) × (n ≤ most)
IsWithin (Long least most) n = (least ≤ n) × (n ≤ most)
IsWithin kind n = ⊥

-- Its text reads as this value, or neither is there.
abbrev pub IsReadIfAny : {T : Type 0} → (List ℕ → T → Type 0) → Found → List ℕ → Option T → Type 0
IsReadIfAny Reads f name None = HasNo f name
IsReadIfAny Reads f name (Some value) = (text : List ℕ) × (first_value f name ≡ Some text) × Reads text value

-- Its texts read as these values, one for each; none where it isn't given.
abbrev pub AreRead : {T : Type 0} → (List ℕ → T → Type 0) → Found → List ℕ → List T → Type 0
AreRead Reads f name values = (texts : List (Bor (List ℕ))) × HasTexts f name texts
    × AllZip (λ text value. Reads text.now value) texts values
