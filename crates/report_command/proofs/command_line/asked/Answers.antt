use Rattle.std.proofs.lemmas.Result.{IfOk-weaker}
use Rattle.report_command.specs.Options.{IsOrderOf, IsAskedBy, texts_in}
use Rattle.report_command.proofs.command_line.asked.Goals as goal

pub returns-clause-asks : goal.returns-clause-asks
returns-clause-asks c =
    IfOk-weaker c.order_of.result (IsOrderOf c.in_ok-matches.matches) (IsAskedBy (texts_in c.args.words.now))
    (λ order is. record {
      command = c.in_ok-commands.field-0;
      matches = c.in_ok-matches.matches;
      parsed = c.in_ok-matches.ensures.parsed;
      found = c.in_ok-matches.ensures.matches;
      order_is = is;
    }) c.order_of.ensures.asks
