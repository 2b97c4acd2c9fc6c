use Rattle.std.proofs.Common.{◌<◌, ◌∷◌, length, reverse, refl, ap, ◌∙◌, rules}
use Rattle.types.specs.declared.limits.TheConstants.{MOST_VALUES}
use Rattle.interp_accesses.proofs.Replied.{answer_room, tells}
use Rattle.interp_accesses.proofs.answers.hear.Goals as goal

pub push-requires : goal.push-requires
push-requires c =
    let h : length c.args.state.now.values.items < MOST_VALUES = answer_room c.requires.sound.0 _ c.requires.sound.1 c.requires.sound.3 c.requires.due in
    search rules

pub returns : goal.returns
returns c = λ w k v st.
    tells w c.args.state.now _ k c.args.number st c.requires.due refl refl refl refl
    (c.push.ensures.word ∙ ap (λ k. k ∷ reverse c.args.state.now.values.items) c.from.ensures) (search rules)
