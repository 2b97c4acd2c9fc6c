use Rattle.std.proofs.Common.{ℕ, ◌≡◌, ◌+◌, List, length, vec_len, subst, sym, ◌∙◌, arith}
use Rattle.std.specs.Global.{Vec}
use Rattle.search_finds.specs.Searching.{AreMetIn, first_of}
use Rattle.search_finds.specs.declared.search.JudgedEnding.{JudgedEnding}
use Rattle.search_finds.proofs.InRow.{put_behind}
use Rattle.search_finds.proofs.Pieces.{one_fewer, pieces_left, piece_last}
use Rattle.search_finds.proofs.finder.Finder.add.Goals as goal

len_is : (v : Vec JudgedEnding) → vec_len v ≡ length v.items
len_is v = omega (arith, v.ok)

pub drop_later-requires : goal.drop_later-requires
drop_later-requires g c =
    let says = g.J.Judges.judges c.args.self.now.judge.now c.args.self.now.maker.request.now in
    let s = c.args.self.now.maker in
    let a = c.args.ahead in
    let first = c.first-first.ensures in
    let wanted = c.wanted-wanted.ensures in
    let next : first_of a (c.args.job + 1) ≡ c.first-first.result + c.wanted-wanted.result = omega (arith, first, wanted) in
    (c.type_bounds.sync-W, (c.type_bounds.sync-J, subst (λ (k : ℕ). AreMetIn says s k c.args.endings.now.items) next c.requires.endings))

pub returns-clause-endings : goal.returns-clause-endings
returns-clause-endings g c =
    let says = g.J.Judges.judges c.args.self.now.judge.now c.args.self.now.maker.request.now in
    let s = c.args.self.now.maker in
    let a = c.args.ahead in
    let q = s.request.now in
    let last = piece_last says s a _ _ _ _ c.pop.ensures.items c.in-Some.is c.requires.pieces in
    let fewer = one_fewer says s a _ _ _ _ c.pop.ensures.items c.in-Some.is in
    let job : length c.pop.new.self.items ≡ c.args.job = let all = c.requires.last in omega (arith, fewer, all) in
    let these : AreMetIn says s (first_of a c.args.job) c.in_ok-made.made.items =
    subst (λ (k : ℕ). AreMetIn says s (first_of a k) c.in_ok-made.made.items) job (rw c.in_ok-made.was at last) in
    let later : AreMetIn says s (first_of a c.args.job + length c.in_ok-made.made.items) c.drop_later.new.endings.items =
    subst (λ (k : ℕ). AreMetIn says s k c.drop_later.new.endings.items)
    (let first = c.first-first.ensures in let len = c.len.ensures ∙ len_is c.in_ok-made.made in omega (arith, first, len)) c.drop_later.ensures in
    subst (λ (l : List JudgedEnding). AreMetIn says s (first_of a c.args.job) l) (sym {A = List JudgedEnding} c.in_ok-append.ensures.items)
    (put_behind says q s.sought.now s.entries (first_of a c.args.job) c.drop_later.new.endings.items c.in_ok-made.made.items later these)

pub returns-clause-pieces : goal.returns-clause-pieces
returns-clause-pieces g c =
    pieces_left (g.J.Judges.judges c.args.self.now.judge.now c.args.self.now.maker.request.now)
    c.args.self.now.maker c.args.ahead _ _ _ _ c.pop.ensures.items c.in-Some.is
    c.requires.pieces

pub returns-clause-last : goal.returns-clause-last
returns-clause-last g c =
    let fewer = one_fewer (g.J.Judges.judges c.args.self.now.judge.now c.args.self.now.maker.request.now)
    c.args.self.now.maker c.args.ahead _ _ _ _ c.pop.ensures.items
    c.in-Some.is in
    let all = c.requires.last in omega (arith, fewer, all)
