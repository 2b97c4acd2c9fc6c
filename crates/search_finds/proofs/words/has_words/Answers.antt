use Rattle.std.proofs.Common.{◌≡◌, ◌↔◌, List, ℕ, subst, ◌∙◌, true}
use Rattle.std.specs.Str.Iter.{HasSubslice}
use Rattle.std.proofs.lemmas.Str.Pattern.{contains_text}
use Rattle.search_finds.proofs.words.has_words.Goals as goal

pub returns : goal.returns
returns c = subst (λ (l : List ℕ). (c.contains.result ≡ true) ↔ HasSubslice l c.args.words.now) (c.deref.ensures ∙ c.in_ok-line.ensures.ok)
    (contains_text _ _ _ c.contains.ensures.cases)
