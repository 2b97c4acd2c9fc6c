use Rattle.std.proofs.Common.{arith, ap, ℕ, ◌≡◌, ◌≤◌, ◌<◌, ◌+◌, ◌∙◌, List, [], length, map, inl, inr, subst, vec_len, vec_capacity}
use Rattle.std.specs.Global.{Vec}
use Rattle.shared_memory.specs.History.{entries_of, of_queue}
use Rattle.types.specs.declared.limits.TheConstants.{MOST_THREADS, DESK_NAME}
use Rattle.spawn_host_workers.specs.OverMemory.{over}
use Rattle.waiters_desk.specs.Calls.{Leaves}
use Rattle.types.specs.declared.event.Entry.{Entry}
use Rattle.spawn_host_workers.proofs.OneList.{Unpacked, IsDeskSeat, first_name, first_new, lead_may_ask, workers_new, desk_new}
use Rattle.spawn_host_workers.specs.Crew.{CountsSpawnable}
use Rattle.spawn_host_workers.specs.Gated.{Gathers, passage_of}
use Rattle.spawn_host_workers.specs.declared.worker.WorkerEnd.{WorkerEnd}
use Rattle.spawn_host_workers.proofs.Ending.{ends_length, composed_any, gated_any}
use Rattle.spawn_host_workers.proofs.host.run_all.Given as given
use Rattle.spawn_host_workers.proofs.host.run_all.Goals as goal
use Rattle.spawn_host_workers.proofs.host.run_all.Goals.{After-deal-seat}

-- the first seat and the last are taken off
dealt_of : (g : given.Over) (c : After-deal-seat g)
    → Unpacked c.args.seats.items c.deal-seat.result.first c.deal-seat.result.workers.items c.deal-seat.result.desk
dealt_of g c = record { parts = c.deal-seat.ensures.parts; len = c.deal-seat.ensures.len }

desk : (g : given.Over) (c : After-deal-seat g)
    → IsDeskSeat g.M.SharedMemory.name g.M.SharedMemory.has_queue_right g.M.SharedMemory.seen c.deal-seat.result.desk
desk g c =
    desk_new g.M.SharedMemory.name g.M.SharedMemory.seen c.args.seats.items c.deal-seat.result.first c.deal-seat.result.workers.items
    c.deal-seat.result.desk (dealt_of g c) c.requires.names c.requires.new g.M.SharedMemory.has_queue_right c.requires.right

-- an empty vector with room for so many
room_for : {A B : Type 0} (ends : Vec A) (reports : Vec B) (room : ℕ) → vec_len ends ≡ room → reports.items ≡ [] → vec_capacity reports ≡ room
    → vec_len reports + vec_len ends ≤ vec_capacity reports
room_for ends reports room many none fits =
    let empty : length reports.items ≡ 0 = ap length none in
    let len = reports.ok.0 in
    omega (arith, many, empty, len, fits)

more_room_for : {A B : Type 0} (ends : Vec A) (home : Vec B) (room : ℕ) → vec_len ends ≡ room → home.items ≡ [] → room < vec_capacity home
    → vec_len home + vec_len ends < vec_capacity home
more_room_for ends home room many none fits =
    let empty : length home.items ≡ 0 = ap length none in
    let len = home.ok.0 in
    omega (arith, many, empty, len, fits)

pub open-desk-requires-clause-right : goal.open-desk-requires-clause-right
open-desk-requires-clause-right g c κs within = (desk g (goal.at.open-desk-requires-clause-right g c).After-deal-seat).may_ask

pub open-desk-requires-clause-name : goal.open-desk-requires-clause-name
open-desk-requires-clause-name g c κs within = (desk g (goal.at.open-desk-requires-clause-name g c).After-deal-seat).named

pub open-desk-requires-clause-quiet : goal.open-desk-requires-clause-quiet
open-desk-requires-clause-quiet g c κs within = ap of_queue (desk g (goal.at.open-desk-requires-clause-quiet g c).After-deal-seat).fresh

pub open-desk-requires-clause-silent : goal.open-desk-requires-clause-silent
open-desk-requires-clause-silent g c κs within = ap (entries_of DESK_NAME) (desk g (goal.at.open-desk-requires-clause-silent g c).After-deal-seat).fresh

pub run_crew-requires-clause-start : goal.run_crew-requires-clause-start
run_crew-requires-clause-start g c κs within =
    let m = g.M.SharedMemory in
    let dealt = c.deal-seat.result in
    let u = dealt_of g (goal.at.run_crew-requires-clause-start g c).After-deal-seat in
    record {
      here = c.requires.here;
      free = lead_may_ask m.name m.seen c.args.seats.items dealt.first dealt.workers.items dealt.desk u c.requires.names c.requires.new;
      few = omega (arith, c.deal-seat.ensures.len);
      new = workers_new m.name m.seen c.args.seats.items dealt.first dealt.workers.items dealt.desk u c.requires.names c.requires.new;
      begins = c.requires.begins;
    }

pub run_crew-requires-clause-len : goal.run_crew-requires-clause-len
run_crew-requires-clause-len g c κs within =
    λ some. elim c.requires.count [
      | inl most ↦ omega (arith, most, c.deal-seat.ensures.len, c.deal-seat.result.workers.ok.0)
      | inr none ↦ absurd (some none.0)
    ]

pub bring_home-requires-clause-room : goal.bring_home-requires-clause-room
bring_home-requires-clause-room g c κs within =
    let m = g.M.SharedMemory in
    let t = g.T.TakesTurns in
    let ends = c.in-Ok-run_crew.ends in
    let count = ends_length (over m c.args.memory.now) g.G.Gate c.args.gate.now t.meaning c.args.first c.deal-seat.result.first c.args.spawned.items
    c.deal-seat.result.workers.items ends.items c.in-Ok-run_crew.ensures.ends in
    let here : vec_len ends ≡ MOST_THREADS = omega (arith, count, ends.ok.0, c.deal-seat.ensures.len) in (
      room_for ends c.in-Ok.room.reports MOST_THREADS here c.in-Ok.ensures.reports.0 c.in-Ok.ensures.reports.1,
      (let fits = c.in-Ok.ensures.home.1 in more_room_for ends c.in-Ok.room.home MOST_THREADS here c.in-Ok.ensures.home.0 (omega (arith, fits))),
    )

pub returns-in-Ok-run_crew-clause-composed : goal.returns-in-Ok-run_crew-clause-composed
returns-in-Ok-run_crew-clause-composed g c =
    let m = g.M.SharedMemory in
    let t = g.T.TakesTurns in
    let end = c.bring_home.result in
    let level = c.bring_home.ensures.seats in
    composed_any (over m c.args.memory.now) g.G.Gate c.args.gate.now m.has_queue_right t.meaning c.args.first c.args.spawned.items c.requires.here
    c.args.seats.items c.deal-seat.result.first c.deal-seat.result.desk c.deal-seat.result.workers.items c.close-hub.result
    c.in-Ok-run_crew.ends.items end.threads.items end.seats.items
    c.deal-seat.ensures.parts c.deal-seat.ensures.len c.requires.names c.requires.new c.bring_home.ensures.threads level.0
    level.1 level.2 level.3 c.close-hub.ensures.legal c.close-hub.ensures.name c.close-hub.ensures.silent
    (subst (λ (n : ℕ). CountsSpawnable (t.meaning c.args.first) n) c.args.spawned.ok.0 c.requires.count) c.in-Ok-run_crew.ensures.ends

pub returns-in-Ok-run_crew-clause-gated : goal.returns-in-Ok-run_crew-clause-gated
returns-in-Ok-run_crew-clause-gated g c =
    let m = g.M.SharedMemory in
    let dealt = c.deal-seat.result in
    gated_any (over m c.args.memory.now) g.G.Gate c.args.gate.now c.gather.new.gate g.T.TakesTurns.meaning c.args.first c.args.spawned.items
    c.args.seats.items dealt.first dealt.desk dealt.workers.items c.in-Ok-run_crew.ends.items c.bring_home.result.threads.items
    (record { parts = c.deal-seat.ensures.parts; len = c.deal-seat.ensures.len }) c.requires.names c.requires.new
    c.bring_home.ensures.threads
    (subst (λ (l : List (WorkerEnd _ _)). Gathers g.G.Gate (map passage_of l) c.args.gate.now c.gather.new.gate) c.as_slice-in-Ok-run_crew.ensures.value
    c.gather.ensures)
    c.in-Ok-run_crew.ensures.ends

pub bring_home-requires-clause-right : goal.bring_home-requires-clause-right
bring_home-requires-clause-right g c κs within = c.close-hub.ensures.right

pub returns-in_default-clause-composed : goal.returns-in_default-clause-composed
returns-in_default-clause-composed g c = tt

pub deal-seat-requires : goal.deal-seat-requires
deal-seat-requires g c = c.requires.len

pub bring_home-requires-clause-empty : goal.bring_home-requires-clause-empty
bring_home-requires-clause-empty g c κs within = (c.in-Ok.ensures.reports.0, c.in-Ok.ensures.home.0)

pub returns-in-Err-clause-composed : goal.returns-in-Err-clause-composed
returns-in-Err-clause-composed g c = tt

pub returns-in-Err-clause-unstarted : goal.returns-in-Err-clause-unstarted
returns-in-Err-clause-unstarted g c =
    let m = g.M.SharedMemory in
    let dealt = c.deal-seat.result in
    let u : Unpacked c.args.seats.items dealt.first dealt.workers.items dealt.desk
    = record { parts = c.deal-seat.ensures.parts; len = c.deal-seat.ensures.len } in
    let name = first_name m.name m.seen c.args.seats.items dealt.first dealt.workers.items dealt.desk u c.requires.names c.requires.new in
    let fresh = first_new m.name m.seen c.args.seats.items dealt.first dealt.workers.items dealt.desk u c.requires.names c.requires.new in
    let last = m.seen c.in-Err.seat in
    let limit = m.limit c.args.memory.now in (
      c.in-Err.ensures.left.name_is ∙ name,
      subst (λ (n : ℕ). Leaves m.opening limit n [] last) name
          (subst (λ (l : List Entry). Leaves m.opening limit (m.name dealt.first) l last) fresh c.in-Err.ensures.left.left),
    )
