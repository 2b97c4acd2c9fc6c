use Rattle.std.proofs.Common.{sym, subst, refl, List, ℕ}
use Rattle.search_parts.specs.Threads.{IsInCall}
use Rattle.search_parts.specs.declared.shared.HashedThread.{HashedThread}
use Rattle.search_modules.specs.Moved.{called}
use Rattle.search_modules.proofs.Told.{access_told}
use Rattle.search_modules.proofs.accesses.SearchedAccesses.access.Goals as goal

pub next_access-requires : goal.next_access-requires
next_access-requires c =
    let s = c.args.self.now in
    let of = c.requires.1 in
    subst (λ (l : List ℕ). IsInCall s.valid.now l c.args.shared.now c.walker.result.now.standing c.args.n) (sym c.as_slice.ensures.value)
    (subst (λ (t : HashedThread). IsInCall s.valid.now s.opening.items c.args.shared.now t.standing c.args.n) (sym c.walker.ensures)
    (called s, c.requires.0, record { of = refl; reached = of.0; shares = of.1; rested = of.2 }))

pub returns : goal.returns
returns c =
    access_told c.args.self.now c.as_slice.result.now c.as_slice.ensures.value c.args.shared.now c.walker.result.now c.args.thread.now
    c.walker.ensures c.args.n c.next_access.result c.next_access.ensures
