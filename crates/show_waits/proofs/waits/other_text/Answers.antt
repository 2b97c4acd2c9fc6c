use Rattle.std.proofs.Common.{◌≡◌, Bool, true, false, not, inl, inr, length, string_bytes, rules}
use Rattle.std.proofs.lemmas.Bool.{false≢true}
use Rattle.show_named.proofs.Places.{says_last}
use Rattle.show_named.specs.declared.lasts.Act.TheVariants as acts
use Rattle.show_waits.proofs.waits.other_text.Goals as goal

not_both : (b : Bool) → b ≡ true → not b ≡ true → ⊥
not_both true is other = false≢true other
not_both false is other = false≢true is

pub returns-then-not-wait : goal.returns-then-not-wait
returns-then-not-wait c =
    inr (λ own. not_both c.args.wait.is_own (c.requires.own.1 own) c.if-not-wait.true, c.new.ensures.bytes)

pub returns : goal.returns
returns c =
    let own : c.args.wait.is_own ≡ true = search rules in
    inl (record {
      own = c.requires.own.0 own;
      other = string_bytes c.in_ok-other.other;
      other_is = says_last c.args.shown c.args.map.now c.args.story.now (length c.args.shown.record.now.log)
          (acts.OtherWrite c.args.wait.stand.addrs c.args.n) _ c.args.wait.other _ c.requires.other c.in_ok-other.ensures;
      words = c.in_ok-text.ensures.ok;
    })
