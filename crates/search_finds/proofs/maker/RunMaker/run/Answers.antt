use Rattle.std.proofs.Common.{◌≡◌, ◌∙◌, subst}
use Rattle.search_strategies.specs.Places.{ChoosesBy}
use Rattle.search_strategies.specs.Runs.{drawn_choice, drawn_heard}
use Rattle.search_strategies.specs.declared.drawn.Drawn.{Drawn}
use Rattle.search_scheduled.specs.Led.{IsLedRun}
use Rattle.search_scheduled.proofs.Parts.{run_by_part}
use Rattle.search_finds.specs.Searching.{IsMadeIn}
use Rattle.search_finds.proofs.Led.{if_all, named_by}
use Rattle.search_finds.proofs.maker.RunMaker.run.Goals as goal

pub returns-clause-made : goal.returns-clause-made
returns-clause-made g c =
    let s = c.args.self.now in
    let q = s.request.now in
    let limit = s.sought.now.limit in
    let after = c.run_with_spares.new.strategy in
    if_all c.run_with_spares.result _ _ _ _ (IsMadeIn s c.args.run) (λ made header run heard led. record {
      find = record { run = run; of_call = header; heard = heard };
      last = after.strategy;
      led = subst (λ (d : Drawn). IsLedRun (ChoosesBy drawn_choice) (λ before entry then. then ≡ drawn_heard before entry.event) q limit d
          after.strategy made.«record») (c.new-watched.ensures ∙ c.new-drawn.ensures)
          (run_by_part _ _ (ChoosesBy drawn_choice) (λ before entry then. then ≡ drawn_heard before entry.event) (λ w. w.strategy)
          (λ p ready place p' h. named_by _ place h) (λ p e p' h. h) q limit c.new-watched.result after made.«record» led);
    }) c.run_with_spares.ensures.header c.run_with_spares.ensures.run c.run_with_spares.ensures.heard
    c.run_with_spares.ensures.led
