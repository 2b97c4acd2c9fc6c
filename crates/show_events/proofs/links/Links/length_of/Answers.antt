use Rattle.std.proofs.Common.{◌∙◌, List, Option, ℕ, length, None, sym, ap, rules}
use Rattle.show_events.specs.Links.{in_list}
use Rattle.show_events.proofs.Answered.{in_same, lasts_alone, lasts_plain, lasts_wait}
use Rattle.show_events.proofs.links.Links.length_of.Goals as goal

pub returns-in_default : goal.returns-in_default
returns-in_default c = lasts_alone c.args.contexts.now (length c.args.log.now) c.args.at c.args.self.now.answers.items
    c.requires.answers c.requires.within (in_same _ _ c.args.at _ None c.deref.ensures.value c.in_list.ensures c.in_default.is)

pub returns-then-not-is_wait_over : goal.returns-then-not-is_wait_over
returns-then-not-is_wait_over c =
    let told = ap (λ (l : List (Option ℕ)). in_list l c.args.at) (sym c.deref.ensures.value) ∙ sym c.in-Some.ensures in
    lasts_plain c.args.log.now c.args.contexts.now c.args.at c.in-Some.told c.args.self.now.answers.items c.is_wait_over.result
    c.requires.contexts c.requires.answers told c.is_wait_over.ensures c.if-not-is_wait_over.true

pub returns : goal.returns
returns c =
    let told = ap (λ (l : List (Option ℕ)). in_list l c.args.at) (sym c.deref.ensures.value) ∙ sym c.in-Some.ensures in
    lasts_wait c.args.contexts.now (length c.args.log.now) c.args.at c.in-Some.told c.args.self.now.answers.items
    c.is_wait_over.result c.requires.answers told c.is_wait_over.ensures c.if-not-is_wait_over.false c.max.result (search rules)
