use Rattle.std.proofs.Common.{◌≡◌, List, true, sym, ◌∙◌, arith, subst}
use Rattle.std.proofs.lemmas.Grind.{common_steps}
use Rattle.search_endings.specs.Endings.{Ending}
use Rattle.report_telling.specs.Complete.{all_end_well}
use Rattle.report_telling.proofs.complete.are_well.Goals as goal

abbrev ended : List Ending → Type 0
ended endings = all_end_well endings ≡ true

pub returns : goal.returns
returns c =
    let keys = c.as_slice-endings.ensures.keys in (
      (λ yes. record {
        sure = c.is_sure.ensures.0 c.if-not-is_sure.false;
        some = λ empty. grind (arith, common_steps, c.is_empty.ensures, c.if-is_empty.false, c.as_slice-endings.ensures.keys, empty);
        well = subst ended keys (sym c.all_ended_well.ensures ∙ yes);
        unsought = c.requires;
      }),
      (λ well. c.all_ended_well.ensures ∙ subst ended (sym keys) well.well),
    )
