use Rattle.std.proofs.Common.{◌∙◌, ap, refl, subst}
use Rattle.types.specs.declared.parts.Parts.{Parts}
use Rattle.search_finds.specs.Sizes.{size_in}
use Rattle.search_finds.specs.declared.size.Size.{Size}
use Rattle.report_looks.specs.Sighted.{AreRacesOf}
use Rattle.report_finds.specs.Found.{shrunk_if}
use Rattle.report_finds.proofs.raced.kept_race.Goals as goal

pub returns-in-Ok-Some-clause-has : goal.returns-in-Ok-Some-clause-has
returns-in-Ok-Some-clause-has g c =
    let shrink = c.args.call.search.now.shrink in
    let made = c.in_ok-made.made in
    record {
      number = refl;
      find = c.in_ok-made.ensures.run;
      same = c.in_ok-made.ensures.same;
      shrunk_is = c.shrunk_if.ensures ∙ (ap (λ (was : Size). shrunk_if shrink was c.size_of-is.result) c.size_of-was.ensures
          ∙ ap (λ (is : Size). shrunk_if shrink (size_in c.args.found.made.«record») is) c.size_of-is.ensures);
      race = subst (λ (p : Parts). AreRacesOf p made.«record» c.in-Ok-Some.race) c.module-module.ensures
          (rw c.in-Ok-Some.field-0-is at c.in-Ok-Some.ensures.race);
      allowed = rw c.in-Ok-Some.field-0-is at c.in-Ok-Some.ensures.allowed;
    }
