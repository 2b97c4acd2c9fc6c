use Rattle.std.proofs.Common.{rules, ◌<◌, ◌≤◌, length, refl, sym, subst}
use Rattle.interp_trait.specs.Turns.{wants_of}
use Rattle.schedule_program.specs.Threads.{IsThread}
use Rattle.schedule_program.proofs.Slots.{thread_in}
use Rattle.schedule_program.proofs.Marks.{at_own, at_gone}
use Rattle.schedule_program.proofs.stepping.Machine.go.Goals as goal

pub go-requires : goal.go-requires
go-requires g c =
    let m = g.T.TakesTurns in
    let r = c.requires in
    let old = c.args.self.now in
    let n = c.args.n in
    let within : n < length old.threads.items = search rules in (
      r.0,
      (r.1).threads n,
      subst (λ z. IsThread m.meaning r.0 z ((r.1).threads n)) (sym c.index_mut.ensures.value)
          (thread_in m.meaning r.0 old.threads.items (r.1).threads n c.index_mut.result.now within (r.2).threads),
      r.3,
    )

pub returns-then-place-len : goal.returns-then-place-len
returns-then-place-len g c s w at none =
    let m = g.T.TakesTurns in
    let n = c.args.n in
    let old = c.args.self.now in
    let within : n < length old.threads.items = search rules in
    let is = subst (λ z. IsThread m.meaning s z (w.threads n)) (sym c.index_mut.ensures.value)
    (thread_in m.meaning s old.threads.items w.threads n c.index_mut.result.now within at.threads) in
    at_own m.meaning s w n old _ c.go.new.self (record { within = within; threads = refl; shared = refl; next = λ e. e }) at
    (wants_of s.program (w.threads n)) refl none (c.go.ensures s (w.threads n) is none)

pub returns-else-place-len : goal.returns-else-place-len
returns-else-place-len g c s w at none =
    let m = g.T.TakesTurns in
    let past : length c.args.self.now.threads.items ≤ c.args.n = search rules in
    at_gone m.meaning s w c.args.n c.args.self.now past at
