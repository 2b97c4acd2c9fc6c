use Rattle.std.proofs.Common.{rules, ◌≡◌, ◌∙◌, subst, string_bytes, ℕ, List}
use Rattle.show_named.specs.declared.lasts.Act.TheVariants as acts
use Rattle.show_named.specs.LastTexts.{SaysLast, unwritten_text}
use Rattle.show_named.proofs.last_texts.write_last.Goals as goal

pub returns : goal.returns
returns g c =
    let a = c.args in
    let text = string_bytes c.in_ok-text.text in
    let none : c.as_str.result.now ≡ unwritten_text a.sought.addrs = c.as_str.ensures.value ∙ c.in_ok-none.ensures in (
      text,
      subst (λ (n : List ℕ). SaysLast a.shown a.map.now a.story.now a.sought.before (acts.Write a.sought.addrs) n text) none c.in_ok-text.ensures,
      search rules,
    )
