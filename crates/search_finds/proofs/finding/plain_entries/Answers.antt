use Rattle.std.proofs.Common.{◌≡◌, ◌∙◌, length, ap, subst, arith}
use Rattle.replay_text.specs.declared.parts.RecordParts.{RecordParts}
use Rattle.search_strategies.specs.Given.{Following, along}
use Rattle.search_strategies.specs.Places.{ChoosesBy}
use Rattle.search_scheduled.specs.Led.{IsLedRun}
use Rattle.search_scheduled.proofs.Parts.{run_by_part}
use Rattle.search_finds.specs.Drawing.{unheard}
use Rattle.search_finds.proofs.Led.{named_by}
use Rattle.search_finds.proofs.finding.plain_entries.Goals as goal

pub returns-clause-plain : goal.returns-clause-plain
returns-clause-plain g c =
    let q = c.args.request.now in
    let limit = c.args.limit in
    let made = c.in_ok-plain.plain in
    let after = c.run_along.new.strategy in
    record {
      made = made;
      plain = record {
        find = record { run = c.in_ok-plain.ensures.run; of_call = c.in_ok-plain.ensures.header; heard = c.in_ok-plain.ensures.heard };
        last = after.strategy;
        led = subst (λ (s : Following). IsLedRun (ChoosesBy along) (λ before entry then. then ≡ unheard before entry) q limit s after.strategy made.«record»)
            (c.new-along.ensures ∙ c.new.ensures)
            (run_by_part _ _ (ChoosesBy along) (λ before entry then. then ≡ unheard before entry) (λ w. w.strategy)
            (λ p ready place p' h. named_by _ place h) (λ p e p' h. h) q limit c.new-along.result after made.«record» c.in_ok-plain.ensures.led);
      };
      count =
          let len : length c.as_slice-entries.result.now ≡ length made.«record».log =
          ap length (c.as_slice-entries.ensures ∙ ap (λ (r : RecordParts). r.log) c.parts.ensures.parts) in
          let least = c.max.ensures in
          let most = c.min.ensures in
          omega (arith, len, least, most);
    }
