use Rattle.std.proofs.Common.{sym}
use Rattle.std.proofs.lemmas.List.{take_all}
use Rattle.std.proofs.lemmas.List.Elements.{All-more, All-same}
use Rattle.replay_rules.specs.Ranges.{EntryFits}
use Rattle.report_runs.proofs.fitting.show_entries_fit.Goals as goal

pub loop-entry-preserved : goal.loop-entry-preserved
loop-entry-preserved c = All-more EntryFits c.args.log.now c.loop-entry.entry-index _ c.loop-entry-test.true c.loop-entry.invariant c.show_entry_fits.ensures

pub returns : goal.returns
returns c = All-same EntryFits c.args.log.now _ (sym (take_all c.loop-entry.entry-index c.args.log.now c.loop-entry-test.false)) c.loop-entry.invariant
