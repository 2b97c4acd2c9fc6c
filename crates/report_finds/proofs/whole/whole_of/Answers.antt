use Rattle.std.proofs.Common.{◌∙◌, true, ap, sym, subst, true≢false}
use Rattle.report_telling.specs.declared.racing.Racing.{Racing}
use Rattle.report_finds.specs.Racing.{IsLooked, IsWhole, racing_in}
use Rattle.report_finds.proofs.Looking.{whole_by}
use Rattle.report_finds.proofs.whole.whole_of.Goals as goal

pub returns-in-Done-clause-whole : goal.returns-in-Done-clause-whole
returns-in-Done-clause-whole g c =
    let q = c.args.call.request.now in
    let s = c.args.call.search.now in
    let may = c.args.call.allowed in
    let all = c.in-Done.all in
    let looked = subst (IsLooked q s may) c.in-Done.is c.requires in
    subst (λ (racing : Racing). IsWhole q s may (record { all = all; racing = racing; is_free = true })) (sym c.racing_by-racing.ensures)
    (whole_by q s may all c.in-Done.timed looked.0 looked.1 looked.2 looked.3)

pub returns-in-Done-clause-racing : goal.returns-in-Done-clause-racing
returns-in-Done-clause-racing g c = c.racing_by-racing.ensures ∙ sym (ap racing_in c.in-Done.is)

pub returns-clause-whole : goal.returns-clause-whole
returns-clause-whole g c =
    let looked = subst (IsLooked c.args.call.request.now c.args.call.search.now c.args.call.allowed) c.in-Open.is c.requires in
    record {
      complete = c.in_ok-all-in-Open.ensures.complete;
      known = looked.0;
      asked = looked.1;
      never = λ free. absurd (true≢false (sym free));
      sought = c.in_ok-all-in-Open.ensures.sought;
    }

pub returns-clause-racing : goal.returns-clause-racing
returns-clause-racing g c = sym (ap racing_in c.in-Open.is)
