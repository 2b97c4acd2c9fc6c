use Rattle.std.proofs.Common.{ℕ, sym, subst}
use Rattle.types.specs.declared.parts.Parts.{Parts}
use Rattle.interp.specs.Threads.{meaning_in}
use Rattle.replay.specs.Threads.{AreSpares}
use Rattle.search_scheduled.proofs.threads.threads_of.Goals as goal

pub others_of-requires : goal.others_of-requires
others_of-requires c =
    subst (λ (m : Parts). AreSpares meaning_in m c.call.result.fuel c.args.spares.now.items) (sym c.«module».ensures)
    (subst (λ (fuel : ℕ). AreSpares meaning_in c.args.request.now.parts fuel c.args.spares.now.items) c.call.ensures.call.fuel_is c.requires)

pub returns-clause-threads : goal.returns-clause-threads
returns-clause-threads c = record {
  first = c.in_ok-first.first;
  others = c.in_ok-threads.threads.items;
  list = c.in_ok-insert.ensures.items;
  is_first = c.in_ok-first.ensures;
  are_others = rw (c.«module».ensures, sym c.call.ensures.call.fuel_is) at c.in_ok-threads.ensures.others;
}

pub returns-clause-spares : goal.returns-clause-spares
returns-clause-spares c = rw (c.«module».ensures, sym c.call.ensures.call.fuel_is) at c.in_ok-threads.ensures.spares
