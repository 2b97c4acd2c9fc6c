use Rattle.std.proofs.Common.{◌≡◌, ◌∙◌, ◌++◌, ◌∷◌, [], filter, not, ap, rules}
use Rattle.std.proofs.lemmas.Fn.{filter_same}
use Rattle.race_history.specs.declared.lasts.Last.{Last}
use Rattle.race_history.specs.Tests.{is_same}
use Rattle.race_history.proofs.lasts.put.Goals as goal

pub returns : goal.returns
returns c =
    let kept : c.retain.new.self.items ≡ filter (λ (x : Last). not (is_same x.access c.args.last.access)) c.args.list.now.items =
    filter_same _ _ _ (λ x b f' k. search rules) _ _ c.retain.ensures.filtered in
    c.in_ok-push.ensures.items ∙ ap (λ l. l ++ c.args.last ∷ []) kept
