-- Which bytes may race.
use Rattle.std.specs.Prelude.{ℕ, zero, suc, ◌≡◌, ◌+◌, ◌&&◌, nat_lt, Bool, true, false, []}
use Rattle.std.specs.List.{list_any}
use Rattle.selection.specs.Choices.{has}
use Rattle.allowed_races.specs.declared.allowed.Allowed.{Allowed}

-- The byte lies in one of the spans.
abbrev pub has_byte : Allowed → ℕ → Bool
has_byte allowed byte = list_any (λ span. has span byte) allowed.spans.now

-- So do so many from an address on.
abbrev pub has_each : Allowed → ℕ → ℕ → Bool
has_each allowed addr zero = true
has_each allowed addr (suc more) = has_byte allowed (addr + more) && has_each allowed addr more

-- So does each byte of an access, of which there is one at least.
abbrev pub has_bytes : Allowed → ℕ → ℕ → Bool
has_bytes allowed addr width = nat_lt 0 width && has_each allowed addr width

-- No access may race.
pub record IsNothing (allowed : Allowed) : Type 0 where
  pub spans : allowed.spans.now ≡ []
  pub unmixed : allowed.mixed ≡ false
