-- Calls in words that can be made.
use Rattle.std.specs.Prelude.{◌≡◌}
use Rattle.spawn_host.specs.Entries.{Takes}
use Rattle.spawn_host.specs.Requests.{Requested}
use Rattle.report_command.specs.declared.call.CallWords.{CallWords}
use Rattle.report_jobs.specs.Arguments.{AreSpelled, texts_in}

-- The name and the budget of what is requested are those of the call, and its arguments values that the texts spell,
-- which the function takes.
pub record IsAskedBy (call : CallWords) (r : Requested) : Type 0 where
  pub name_is : r.name ≡ call.invoke.now
  pub fuel_is : r.fuel ≡ call.fuel
  pub spelled : AreSpelled (texts_in call.args.items) r.args
  pub takes : Takes r.parts r.name r.args
