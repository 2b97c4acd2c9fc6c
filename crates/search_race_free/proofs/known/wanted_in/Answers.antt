use Rattle.std.proofs.Common.{sym, ◌∷◌, arith}
use Rattle.search_race_free.proofs.Rowing.{wants-first, wants-thread, wants-more, wants-all}
use Rattle.search_race_free.proofs.known.wanted_in.Goals as goal

pub loop-n-init : goal.loop-n-init
loop-n-init g c = record {
  wanted = wants-first (g.M.Moves.threads c.args.system.now) c.args.parts.now (c.args.held ∷ c.args.threads.now) c.in_ok-wanted.wanted.items
      c.in_ok-wanted.ensures.items;
}

pub access-requires : goal.access-requires
access-requires g c =
    wants-thread (g.M.Moves.threads c.args.system.now) c.args.parts.now c.args.held c.args.threads.now c.requires c.in-Some.held.now
    (sym c.in-Some.ensures.key) c.loop-n.n c.number_at-number.result c.number_at-number.ensures c.in-Some-get_index.thread.now
    (sym c.in-Some-get_index.ensures.key)

pub loop-n-preserved : goal.loop-n-preserved
loop-n-preserved g c = record {
  wanted = wants-more (g.M.Moves.threads c.args.system.now) c.args.parts.now c.args.held c.args.threads.now c.in-Some.held.now
      (sym c.in-Some.ensures.key) c.loop-n.n c.number_at-number.result c.number_at-number.ensures c.in-Some-get_index.thread.now
      (sym c.in-Some-get_index.ensures.key) c.loop-n.wanted.items c.push.new.self.items c.in_ok-access.access c.loop-n.invariant.wanted
      c.in_ok-access.ensures c.in_ok-push.ensures.items;
}

pub returns : goal.returns
returns g c =
    wants-all (g.M.Moves.threads c.args.system.now) c.args.parts.now c.args.held c.args.threads.now c.loop-n.n c.loop-n.wanted.items (omega arith)
    c.loop-n.invariant.wanted
