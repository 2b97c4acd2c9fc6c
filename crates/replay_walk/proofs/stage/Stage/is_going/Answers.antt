use Rattle.std.proofs.Common.{None, sym, ◌∙◌, arith}
use Rattle.replay_walk.proofs.Leaving.{none_of, some_of, going_at, gone_at, is_below, is_known, has_none_open}
use Rattle.replay_walk.proofs.stage.Stage.is_going.Goals.{then-n-self-via-then-n-self, then-n-self-via-else-n-self+then-has_open_question}
use Rattle.replay_walk.proofs.stage.Stage.is_going.Goals as goal

pub returns-then-n-self-clause-gone : goal.returns-then-n-self-clause-gone
returns-then-n-self-clause-gone g c = λ no s threads st free.
    elim c.then-n-self.branch [
      | then-n-self-via-then-n-self w ↦ (let known =
          is_known g.T.TakesTurns.meaning s threads c.args.self.now.queue c.args.self.now.started c.args.self.now.ends st
          c.args.n free in
          let past = w.if-n-self.true in absurd (omega arith))
      | then-n-self-via-else-n-self+then-has_open_question w ↦
          absurd (has_none_open g.T.TakesTurns.meaning s threads c.args.self.now.queue c.args.self.now.started
          c.args.self.now.ends st c.args.n free (sym w.has_open_question.ensures ∙ w.if-has_open_question.true))
    ]

pub returns-clause-going : goal.returns-clause-going
returns-clause-going g c = λ yes s threads st.
    going_at g.T.TakesTurns.meaning s threads c.args.self.now.queue c.args.self.now.started c.args.self.now.ends st c.args.n c.if-n-self.false
    (sym c.if-has_open_question.ensures) (sym (c.in-Some.ensures.lookup.3.1 None) ∙ none_of c.in-Some.end.now c.is_none.result c.is_none.ensures yes)

pub returns-clause-gone : goal.returns-clause-gone
returns-clause-gone g c = λ no s threads st free.
    let some = some_of c.in-Some.end.now c.is_none.result c.is_none.ensures no in
    gone_at g.T.TakesTurns.meaning s threads c.args.self.now.queue c.args.self.now.started c.args.self.now.ends st c.args.n free some.0
    (sym (c.in-Some.ensures.lookup.3.1 None) ∙ some.1)

pub returns-in_default-clause-gone : goal.returns-in_default-clause-gone
returns-in_default-clause-gone g c = λ no s threads st free.
    let below = is_below g.T.TakesTurns.meaning s threads c.args.self.now.queue c.args.self.now.started c.args.self.now.ends st c.args.n free in
    let past = c.in_default.ensures.lookup.3 in absurd (omega arith)
