use Rattle.std.proofs.Common.{sym, ◌∙◌, subst}
use Rattle.interp_trait.specs.Turns.{IsGiven, IsTurned, after_turn}
use Rattle.schedule_machine.proofs.Turning.{ended_says}
use Rattle.schedule_program.proofs.stepped.Stepped.give.Goals as goal

pub goes_on-requires : goal.goes_on-requires
goes_on-requires g c =
    let r = c.requires in
    let turned = c.turn-turn.ensures.turned r.0 r.1 r.3 in (
      after_turn (g.T.TakesTurns.meaning c.args.self.now.thread).program r.0 c.args.given,
      turned.after,
      r.2,
      ended_says (g.T.TakesTurns.meaning c.args.self.now.thread).program r.0 c.args.given
          c.turn-turn.result turned.answer,
    )

pub returns : goal.returns
returns g c s t alike stands here may =
    let p = (g.T.TakesTurns.meaning c.args.self.now.thread).program in
    let turned = c.turn-turn.ensures.turned t stands (subst (λ z. IsGiven z t c.args.given) (sym alike.program_is) may) in
    let now = subst (λ z. IsTurned z t c.args.given c.turn-turn.result (g.T.TakesTurns.meaning c.turn-turn.new.self).stands) alike.program_is turned in
    c.goes_on.ensures s (after_turn s.program t c.args.given)
    (record { program_is = c.turn-turn.ensures.stays.program ∙ alike.program_is; fuel_is = c.turn-turn.ensures.stays.fuel ∙ alike.fuel_is })
    now.after here (ended_says s.program t c.args.given c.turn-turn.result now.answer)
