use Rattle.std.proofs.Common.{ℕ, ◌≡◌, List, sym, ◌∙◌, subst, true≢false}
use Rattle.search_strategies.specs.Given.{chosen}
use Rattle.search_strategies.specs.Places.{ChoosesBy}
use Rattle.search_scheduled.specs.Led.{IsLedRun}
use Rattle.search_endings.specs.Equal.{equal_ones, same_ones}
use Rattle.search_finds.specs.Drawing.{unheard}
use Rattle.search_finds.proofs.following.run_to.Goals as goal

pub returns-then-eq-clause-ending : goal.returns-then-eq-clause-ending
returns-then-eq-clause-ending c = sym (equal_ones _ _ (sym c.eq.ensures ∙ c.if-eq.true)) ∙ c.in_ok-end.ensures

pub returns-then-eq-clause-along : goal.returns-then-eq-clause-along
returns-then-eq-clause-along c = record {
  find = record { run = c.in_ok-made.ensures.run; of_call = c.in_ok-made.ensures.header; heard = c.in_ok-made.ensures.heard };
  last = c.run_along.new.strategy;
  led = subst (λ (l : List ℕ). IsLedRun (ChoosesBy chosen) (λ before entry after. after ≡ unheard before entry) c.args.request.now c.args.limit l
      c.run_along.new.strategy c.in_ok-made.made.«record») c.new.ensures c.in_ok-made.ensures.led;
}

pub returns-else-eq-clause-none : goal.returns-else-eq-clause-none
returns-else-eq-clause-none c = record {
  made = c.in_ok-made.made;
  along = record {
    find = record { run = c.in_ok-made.ensures.run; of_call = c.in_ok-made.ensures.header; heard = c.in_ok-made.ensures.heard };
    last = c.run_along.new.strategy;
    led = subst (λ (l : List ℕ). IsLedRun (ChoosesBy chosen) (λ before entry after. after ≡ unheard before entry) c.args.request.now c.args.limit l
        c.run_along.new.strategy c.in_ok-made.made.«record») c.new.ensures c.in_ok-made.ensures.led;
  };
  other = λ same. true≢false (sym (c.eq.ensures ∙ same_ones _ _ (c.in_ok-end.ensures ∙ sym same)) ∙ c.if-eq.false);
}
