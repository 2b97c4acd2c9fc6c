use Rattle.std.proofs.Common.{Bool, Option, None, ap, refl, sym, ◌∙◌, subst}
use Rattle.search_finds.specs.Sizes.{size_in}
use Rattle.search_finds.specs.declared.size.Size.{Size}
use Rattle.search_scheduled.specs.declared.running.MadeRun.{MadeRun}
use Rattle.report_telling.specs.declared.found.KeptRun.{KeptRun}
use Rattle.report_finds.specs.Found.{IsKeptAs, can_shrink, shrunk_if}
use Rattle.report_finds.proofs.Meeting.{kept_by, none_of}
use Rattle.report_finds.proofs.found.kept_of.Goals as goal

pub returns-then-not-can_shrink-clause-kept : goal.returns-then-not-can_shrink-clause-kept
returns-then-not-can_shrink-clause-kept g c = record {
  as_is = refl;
  kept = subst (λ (is : Bool). IsKeptAs c.args.call.request.now c.args.call.search.now is c.args.found.made
      (record { found_as = c.args.found.found_as; shrunk = None; made = c.args.found.made }))
      (sym (sym c.can_shrink.ensures ∙ c.if-not-can_shrink.true)) (refl, refl);
}

pub smaller-requires : goal.smaller-requires
smaller-requires g c = (c.type_bounds.sync-F-Watch, rw c.in-Some.is at c.requires)

pub returns-clause-kept : goal.returns-clause-kept
returns-clause-kept g c =
    let shrink = c.args.call.search.now.shrink in
    let was = c.in-Some.made in
    kept_by c.args.call.request.now c.args.call.search.now c.args.found was _
    (sym c.can_shrink.ensures ∙ c.if-not-can_shrink.false) c.in-Some.is refl (record {
      made = c.in_ok-made.made;
      made_is = refl;
      find = c.in_ok-made.ensures.run;
      ends = sym c.in_ok-made.ensures.ending;
      same = c.in_ok-made.ensures.same;
      shrunk_is = c.shrunk_if.ensures ∙ (ap (λ (size : Size). shrunk_if shrink size c.size_of-is.result) c.size_of-was.ensures
          ∙ ap (λ (size : Size). shrunk_if shrink (size_in was.«record») size) c.size_of-is.ensures);
    })

pub returns-in_default-clause-kept : goal.returns-in_default-clause-kept
returns-in_default-clause-kept g c = record {
  as_is = refl;
  kept =
      let k : KeptRun = record { found_as = c.args.found.found_as; shrunk = None; made = None } in
      let none = none_of c.args.found.made c.in_default.not-Some in
      subst (λ (o : Option MadeRun). IsKeptAs c.args.call.request.now c.args.call.search.now (can_shrink c.args.found.found_as) o k)
      (sym none)
      (subst (λ (is : Bool). IsKeptAs c.args.call.request.now c.args.call.search.now is None k)
      (sym (sym c.can_shrink.ensures ∙ c.if-not-can_shrink.false)) (refl, refl));
}
