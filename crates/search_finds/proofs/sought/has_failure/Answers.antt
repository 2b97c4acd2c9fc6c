use Rattle.std.proofs.Common.{◌≡◌, Bool, true, false, not, ap, ◌∙◌, sym, refl, true≢false}
use Rattle.std.specs.List.{list_all}
use Rattle.search_endings.specs.Ends.{is_done}
use Rattle.search_finds.proofs.sought.has_failure.Goals as goal

untrue : (b : Bool) → not b ≡ true → b ≡ false
untrue true h = absurd (true≢false (sym h))
untrue false h = refl

pub returns : goal.returns
returns c =
    let same : c.all_done.result ≡ list_all is_done c.args.ending.now.outcomes =
    c.all_done.ensures ∙ ap (list_all is_done) c.outcomes.ensures in (
      λ h. sym same ∙ untrue c.all_done.result h,
      λ h. ap not (same ∙ h),
    )
