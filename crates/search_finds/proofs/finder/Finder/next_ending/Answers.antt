use Rattle.std.proofs.Common.{arith}
use Rattle.search_finds.proofs.InRow.{popped, popped_if}
use Rattle.search_finds.proofs.finder.Finder.next_ending.Goals as goal

pub returns-in-Some-clause-met : goal.returns-in-Some-clause-met
returns-in-Some-clause-met g c =
    let s = c.args.self.now.maker in
    let says = g.J.Judges.judges c.args.self.now.judge.now c.args.self.now.maker.request.now in
    (popped says s.request.now s.sought.now s.entries c.args.run _ _ _ _ c.pop.ensures.items c.in-Some.is c.requires.ahead).1

pub returns-in-Some-clause-ahead : goal.returns-in-Some-clause-ahead
returns-in-Some-clause-ahead g c =
    let s = c.args.self.now.maker in
    let says = g.J.Judges.judges c.args.self.now.judge.now c.args.self.now.maker.request.now in
    (popped says s.request.now s.sought.now s.entries c.args.run _ _ _ _ c.pop.ensures.items c.in-Some.is c.requires.ahead).0

pub returns-clause-met : goal.returns-clause-met
returns-clause-met g c =
    let s = c.args.self.now.maker in
    let says = g.J.Judges.judges c.args.self.now.judge.now c.args.self.now.maker.request.now in
    let left = c.pop-2.new.self in
    (popped_if says s.request.now s.sought.now s.entries c.args.run _ left.items c.pop-2.result c.pop-2.ensures.items
    (λ none. let h = rw none at c.pop-2.ensures.cases in omega (arith, h, left.ok)) c.in_ok-ahead.ensures).1

pub returns-clause-ahead : goal.returns-clause-ahead
returns-clause-ahead g c =
    let s = c.args.self.now.maker in
    let says = g.J.Judges.judges c.args.self.now.judge.now c.args.self.now.maker.request.now in
    let left = c.pop-2.new.self in
    (popped_if says s.request.now s.sought.now s.entries c.args.run _ left.items c.pop-2.result c.pop-2.ensures.items
    (λ none. let h = rw none at c.pop-2.ensures.cases in omega (arith, h, left.ok)) c.in_ok-ahead.ensures).0
