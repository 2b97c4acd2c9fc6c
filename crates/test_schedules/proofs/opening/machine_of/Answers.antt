use Rattle.std.proofs.Common.{◌≤◌, sym, ◌∙◌, subst, arith}
use Rattle.schedule.specs.Machine.{Thread.Runs}
use Rattle.interp_machine.specs.State.{At}
use Rattle.interp.specs.Starts.{start_of}
use Rattle.interp.specs.Threads.{meaning_in}
use Rattle.spawn_host.proofs.Requested.{first_of_call}
use Rattle.test_schedules.specs.Machines.{setting_of}
use Rattle.test_schedules.proofs.Filling.{are_alone, count_alone, absent_past}
use Rattle.test_schedules.proofs.Machines.{worker_in, prepared, calls_start, opened_is, at_start}
use Rattle.test_schedules.proofs.opening.machine_of.Goals as goal

pub running-requires : goal.running-requires
running-requires c =
    let f = first_of_call c.in_ok-request.request c.args.module.now.parts c.args.call c.in_ok-request.ensures.request meaning_in
    c.in_ok-first.first c.in_ok-first.ensures in
    let main = start_of c.args.module.now.parts f.takes.func_type f.takes.body c.args.call.args.now in
    (main, subst (λ k. (meaning_in c.in_ok-first.first).stands (Runs (At main) k)) (sym f.call.fuel_is) f.call.stands_so)

pub add_absent-requires-clause-prepared : goal.add_absent-requires-clause-prepared
add_absent-requires-clause-prepared c =
    let m = c.args.module.now.parts in
    let are = c.in_ok-spawned.ensures in (
      setting_of m (worker_in meaning_in m c.args.call.fuel _ c.in_ok-spawned.spawned.items are) c.args.call.fuel,
      prepared meaning_in m c.args.call.fuel _ c.in_ok-spawned.spawned.items are,
    )

pub returns-then-not-starts_threads : goal.returns-then-not-starts_threads
returns-then-not-starts_threads c =
    let m = c.args.module.now.parts in
    let f = first_of_call c.in_ok-request.request m c.args.call c.in_ok-request.ensures.request meaning_in c.in_ok-first.first
    c.in_ok-first.ensures in
    let main = start_of m f.takes.func_type f.takes.body c.args.call.args.now in
    let worker = start_of m f.takes.func_type f.takes.body in
    let s = setting_of m worker c.args.call.fuel in
    let is = c.running.ensures s main (record { program_is = f.call.program_is; fuel_is = f.call.fuel_is }) f.call.stands_so in
    let are = are_alone meaning_in s c.in_ok-threads.threads.items c.push_reserved.new.self.items c.running.result
    (Runs (At main) c.args.call.fuel) c.in_ok-threads.ensures.items
    c.push_reserved.ensures.items is in record {
      takes = f.takes;
      worker = worker;
      calls = λ starts. absurd (cc (c.if-not-starts_threads.ensures.1 starts));
      at = at_start meaning_in m c.args.call.fuel c.new-then-not-starts_threads.result worker f.takes.func_type f.takes.body c.args.call.args.now
          c.in_ok-memory.memory
          (opened_is m c.in_ok-memory.memory _ _ c.in_ok-memory.ensures.opened (c.deref.ensures.value ∙ c.in_ok-image.ensures) c.pages_max.ensures)
          (c.new-then-not-starts_threads.ensures s main are (λ starts. absurd (cc (c.if-not-starts_threads.ensures.1 starts))));
    }

pub returns : goal.returns
returns c =
    let m = c.args.module.now.parts in
    let f = first_of_call c.in_ok-request.request m c.args.call c.in_ok-request.ensures.request meaning_in c.in_ok-first.first
    c.in_ok-first.ensures in
    let main = start_of m f.takes.func_type f.takes.body c.args.call.args.now in
    let spawned = c.in_ok-spawned.ensures in
    let worker = worker_in meaning_in m c.args.call.fuel _ c.in_ok-spawned.spawned.items spawned in
    let s = setting_of m worker c.args.call.fuel in
    let is = c.running.ensures s main (record { program_is = f.call.program_is; fuel_is = f.call.fuel_is }) f.call.stands_so in
    let t = Runs (At main) c.args.call.fuel in
    let alone = are_alone meaning_in s c.in_ok-threads.threads.items c.push_reserved.new.self.items c.running.result t c.in_ok-threads.ensures.items
    c.push_reserved.ensures.items is in
    let one = count_alone meaning_in s c.in_ok-threads.threads.items c.push_reserved.new.self.items c.running.result c.in_ok-threads.ensures.items
    c.push_reserved.ensures.items in
    let ready = prepared meaning_in m c.args.call.fuel _ c.in_ok-spawned.spawned.items spawned in
    let are = c.add_absent.ensures.threads s _ ready alone (λ k past. absent_past meaning_in s t k (subst (λ n. n ≤ k) one past)) in record {
      takes = f.takes;
      worker = worker;
      calls = λ starts. calls_start meaning_in m c.args.call.fuel _ c.in_ok-spawned.spawned.items spawned;
      at = at_start meaning_in m c.args.call.fuel c.new-2.result worker f.takes.func_type f.takes.body c.args.call.args.now c.in_ok-memory.memory
          (opened_is m c.in_ok-memory.memory _ _ c.in_ok-memory.ensures.opened (c.deref.ensures.value ∙ c.in_ok-image.ensures) c.pages_max.ensures)
          (c.new-2.ensures s main are (λ starts. omega (arith, c.add_absent.ensures.count, one, spawned.count)));
    }
