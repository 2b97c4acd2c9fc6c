-- A call of a module's function that can be made, as contracts see it.
use Rattle.std.specs.Prelude.{ℕ, ◌≡◌, List}
use Rattle.types.specs.declared.value.Value.{Value}
use Rattle.types.specs.declared.parts.Parts.{Parts}
use Rattle.spawn_host.specs.declared.call.Call.{Call}
use Rattle.spawn_host.specs.Entries.{Takes}

-- The module's parts, the name under which it exports the function, the arguments, and each thread's budget.
pub record Requested : Type 0 where
  pub parts : Parts
  pub name : List ℕ
  pub args : List Value
  pub fuel : ℕ

-- It is that of a module, for this call.
pub record IsRequestOf (m : Parts) (call : Call) (r : Requested) : Type 0 where
  pub parts_are : r.parts ≡ m
  pub name_is : r.name ≡ call.name.now
  pub args_are : r.args ≡ call.args.now
  pub fuel_is : r.fuel ≡ call.fuel

-- The function has this number among those of the module itself, from 0 on.
abbrev pub IsNumberOf : Requested → ℕ → Type 0
IsNumberOf r own = (takes : Takes r.parts r.name r.args) × (takes.own ≡ own)
