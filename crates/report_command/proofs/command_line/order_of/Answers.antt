use Rattle.std.proofs.Common.{◌∙◌, sym, ap, Some}
use Rattle.clap.specs.Words.{found_of}
use Rattle.report_command.proofs.command_line.order_of.Goals as goal

pub returns-in-None-clause-asks : goal.returns-in-None-clause-asks
returns-in-None-clause-asks c =
    let f = found_of c.in-Some.matches.now in
    let asks = c.in-Ok.ensures.asks in
    record {
      found = f;
      command = sym c.in-Some.ensures.name ∙ ap Some (sym asks.0);
      arguments = sym c.in-Some.ensures.rows;
      job = asks.1;
      explain = c.explain_of.ensures;
    }
