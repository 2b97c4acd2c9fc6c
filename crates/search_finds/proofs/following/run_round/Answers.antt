use Rattle.std.proofs.Common.{◌≡◌, subst}
use Rattle.search_strategies.specs.Given.{Rounding, rounds}
use Rattle.search_strategies.specs.Places.{ChoosesBy}
use Rattle.search_scheduled.specs.Led.{IsLedRun}
use Rattle.search_finds.specs.Drawing.{unheard}
use Rattle.search_finds.proofs.Led.{if_all}
use Rattle.search_finds.proofs.following.run_round.Goals as goal

pub returns-clause-along : goal.returns-clause-along
returns-clause-along c =
    if_all c.run_along.result _ _ _ _ _ (λ made header run heard led. record {
      find = record { run = run; of_call = header; heard = heard };
      last = c.run_along.new.strategy;
      led = subst (λ (s : Rounding). IsLedRun (ChoosesBy rounds) (λ before entry after. after ≡ unheard before entry) c.args.request.now c.args.limit s
          c.run_along.new.strategy made.«record») c.new.ensures led;
    }) c.run_along.ensures.header c.run_along.ensures.run c.run_along.ensures.heard c.run_along.ensures.led
