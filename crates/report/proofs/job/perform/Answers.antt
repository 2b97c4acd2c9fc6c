use Rattle.std.proofs.Common.{ap}
use Rattle.report_jobs.specs.Prints.{changed}
use Rattle.report.proofs.Performing.{still_performs, tells_four, tells_two}
use Rattle.report.proofs.job.perform.Goals as goal

pub returns-clause-performs : goal.returns-clause-performs
returns-clause-performs g c =
    let old = c.args.streams.now in
    let mid = c.perform_silent-ended.new.streams in
    still_performs c.args.bytes.«module».now c.args.bytes.saved.now (changed g.W.Write.contents old.out mid.out)
    (changed g.E.Write.contents old.err mid.err) (changed g.S.Write.contents old.save mid.save)
    (changed g.S.Write.contents old.memory mid.memory) (g.E.Write.contents c.tell_ended.new.err) c.args.job.now
    c.perform_silent-ended.result c.tell_ended.ensures c.perform_silent-ended.ensures.performs

pub returns-clause-refusal : goal.returns-clause-refusal
returns-clause-refusal g c =
    let contents = g.E.Write.contents in
    let old = c.args.streams.now in
    let ended = c.perform_silent-ended in
    tells_two c.args.bytes.«module».now c.args.bytes.saved.now (contents old.err) (contents ended.new.streams.err) (contents c.tell_ended.new.err)
    ended.result ended.ensures.done ended.ensures.why (λ refusal. ap contents (ended.ensures.silent refusal).0.1) c.tell_ended.ensures

pub returns-clause-told : goal.returns-clause-told
returns-clause-told g c =
    let contents = g.E.Write.contents in
    let old = c.args.streams.now in
    let ended = c.perform_silent-ended in
    tells_four c.args.bytes.«module».now c.args.bytes.saved.now (contents old.err) (contents ended.new.streams.err) (contents c.tell_ended.new.err)
    ended.result ended.ensures.done ended.ensures.wrong (λ refusal. ap contents (ended.ensures.silent refusal).0.1) c.tell_ended.ensures
