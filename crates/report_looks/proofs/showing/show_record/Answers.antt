use Rattle.std.proofs.Common.{Bool, List, sym, subst}
use Rattle.replay_text.specs.declared.parts.RecordParts.{RecordParts}
use Rattle.selection.specs.declared.choice.NumberSpan.{NumberSpan}
use Rattle.show_said.specs.declared.said.Said.{Said}
use Rattle.report_jobs.specs.Prints.{IsSaid}
use Rattle.report_looks.specs.Looked.{says, IsAsked}
use Rattle.report_looks.proofs.showing.show_record.Goals as goal

pub print_asked-requires-clause-of_record : goal.print_asked-requires-clause-of_record
print_asked-requires-clause-of_record g c = sym c.parts-2.ensures.parts

pub returns-in-Ok-print_asked-clause-prints : goal.returns-in-Ok-print_asked-clause-prints
returns-in-Ok-print_asked-clause-prints g c =
    let seen = c.in-Ok.seen in
    let map = c.in-Ok-read.map in
    let own = c.in-Ok-read_own.own in
    let asked = c.in-Ok-asked_of.asked in
    record {
      record_is = seen.record;
      rows = seen.rows.items;
      seen = c.in-Ok.ensures.seen;
      map = map;
      own = own;
      own_is = c.in-Ok-read_own.ensures;
      asked = asked;
      asked_is = subst (λ (r : RecordParts). IsAsked r map c.args.how.now own asked) c.parts.ensures.parts
          (subst (λ (own : List NumberSpan). IsAsked c.parts.result.now map c.args.how.now own asked) c.as_slice.ensures
          c.in-Ok-asked_of.ensures.asked);
      all = c.deref.result.now;
      said_is = subst (λ (all : List Said). IsSaid c.args.code.module.now seen.record (says c.args.how.now.view) all)
          (sym c.deref.ensures.value)
          (subst (λ (wanted : Bool). IsSaid c.args.code.module.now seen.record wanted c.in-Ok-said_in.said.items) c.says.ensures
          c.in-Ok-said_in.ensures);
      prints = (
        _,
        record { of_record = c.parts-2.ensures.parts; of_rows = c.as_slice-2.ensures.value; of_module = c.in-Ok-code_of.ensures },
        c.in-Ok-print_asked.ensures,
      );
    }
