use Rattle.std.proofs.Common.{◌≡◌, subst}
use Rattle.search_settled.proofs.Threads.{if-some-at}
use Rattle.search_race_free.specs.declared.known.LoneThread.{LoneThread}
use Rattle.search_race_free.specs.Known.{AnyTurn, GoesOnAlone}
use Rattle.search_race_free.proofs.known.found_turn.Goals as goal

pub lone_stretch-requires : goal.lone_stretch-requires
lone_stretch-requires g c =
    let k = g.M.Moves.threads c.args.system.now in
    let of = c.requires in
    let same : of.held_is ≡ c.in-Some.from.now = cc (of.held_at, c.in-Some.ensures.key) in
    let also : of.thread_is ≡ c.in-Some-get_index.own.now = cc (of.thread_at, c.in-Some-get_index.ensures.key) in
    subst (λ h. AnyTurn k c.in-Some.from.now h c.args.of.n) also (subst (λ v. AnyTurn k v of.thread_is c.args.of.n) same of.any)

pub returns-clause-found : goal.returns-clause-found
returns-clause-found g c =
    let k = g.M.Moves.threads c.args.system.now in
    let of = c.requires in
    let same : c.in-Some.from.now ≡ of.held_is = cc (of.held_at, c.in-Some.ensures.key) in
    let also : c.in-Some-get_index.own.now ≡ of.thread_is = cc (of.thread_at, c.in-Some-get_index.ensures.key) in
    let to = c.in-Some-2.to in
    let so = if-some-at (λ (l : LoneThread g.row.M-Shared.Denot g.row.M-Thread.Denot).
    GoesOnAlone k c.in-Some.from.now c.in-Some-get_index.own.now c.args.of.n l.held l.thread)
    c.in_ok-to.field-0 to c.in-Some-2.is c.in_ok-to.ensures in
    record {
      from = of;
      goes = subst (λ h. GoesOnAlone k of.held_is h c.args.of.n to.held to.thread) also
          (subst (λ v. GoesOnAlone k v c.in-Some-get_index.own.now c.args.of.n to.held to.thread) same so);
    }
