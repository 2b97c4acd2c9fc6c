-- What a record says of a call.
use Rattle.std.specs.Prelude.{◌≡◌}
use Rattle.spawn_host.specs.Requests.{Requested}
use Rattle.report_runs.specs.declared.recording.Header.{Header}

-- The name, the arguments and the budget are those of what is requested.
pub record IsHeaderOf (r : Requested) (h : Header) : Type 0 where
  pub invoke_is : h.invoke ≡ r.name
  pub args_are : h.args ≡ r.args
  pub fuel_is : h.fuel ≡ r.fuel
