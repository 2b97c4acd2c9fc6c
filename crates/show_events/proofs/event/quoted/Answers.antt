use Rattle.std.proofs.Common.{rules}
use Rattle.serde_json.specs.declared.value.Value.{the_lemmas}
use Rattle.show_events.proofs.event.quoted.Goals as goal

pub returns : goal.returns
returns c = search (rules, the_lemmas)
