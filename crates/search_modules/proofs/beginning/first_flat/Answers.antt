use Rattle.std.proofs.Common.{refl, sym, subst, inl}
use Rattle.types.specs.declared.limits.TheConstants.{MOST_THREADS}
use Rattle.shared_memory.specs.WaitQueue.{first_queue}
use Rattle.shared_memory_sequential.specs.Opening.{IsSized}
use Rattle.interp_machine.specs.State.{At}
use Rattle.search_threads.specs.Unlimited.{Unlimited.Going}
use Rattle.search_settled.specs.Settled.{MakesTurns}
use Rattle.search_runs.specs.Called.{Walker as Thread, system_of}
use Rattle.search_parts.specs.Walkers.{RestsAt, patience}
use Rattle.search_parts.specs.Rests.{CanBegin, BeginsAndRests, BeginsAndRunsOn}
use Rattle.search_parts.specs.Sharing.{Shares}
use Rattle.search_modules.specs.Moved.{called}
use Rattle.search_modules.proofs.Callable.{main, sized}
use Rattle.search_modules.proofs.Begun.{first_at, begun}
use Rattle.search_modules.proofs.beginning.first_flat.Goals as goal

pub begin-requires-clause-sound : goal.begin-requires-clause-sound
begin-requires-clause-sound c = c.args.searched.now.sound

pub begin-requires-clause-begins : goal.begin-requires-clause-begins
begin-requires-clause-begins c =
    let s = c.args.searched.now in
    let f = main s.valid.now.parts s.opening.items s.max s.main s.args.items s.worker s.callable in
    subst (λ l. CanBegin s.valid.now s.main l) (sym c.as_slice.ensures.value) (f.func_type, f.body, f.function, f.fit)

pub first_common-requires : goal.first_common-requires
first_common-requires c =
    let s = c.args.searched.now in
    subst (λ l. IsSized (record { bytes = l; max = s.max })) (sym c.as_slice-2.ensures.value)
    (sized s.valid.now.parts s.opening.items s.max s.main s.args.items s.worker s.callable)

pub returns-clause-first : goal.returns-clause-first
returns-clause-first c =
    let s = c.args.searched.now in
    let b = called s in
    let f = main s.valid.now.parts s.opening.items s.max s.main s.args.items s.worker s.callable in
    let rested = subst (λ l. BeginsAndRests s.valid.now s.main l c.in-Some.main) c.as_slice.ensures.value
    (rw c.in-Some.is at c.in_ok-main.ensures.rests) in
    let at = subst (λ x. RestsAt s.valid.now b (Going (At x)) c.in-Some.main) (sym (f.calls s.args.items)) (rested b f.func_type f.body refl f.function) in
    let shared = subst (λ l. Shares l c.in_ok-shared.shared (record { memory = record { bytes = l; max = s.max }; queue = first_queue MOST_THREADS }))
    c.as_slice-2.ensures.value c.in_ok-shared.ensures in
    begun s.valid.now b s.opening.items c.in-Some.main at s.allowed (record { shared = c.in_ok-shared.shared; threads = c.in_ok-threads.threads })
    shared c.in_ok-threads.ensures

pub returns-in_default-clause-gives_up : goal.returns-in_default-clause-gives_up
returns-in_default-clause-gives_up c none =
    let s = c.args.searched.now in
    let b = called s in
    let f = main s.valid.now.parts s.opening.items s.max s.main s.args.items s.worker s.callable in
    let gives_up = subst (λ l. BeginsAndRunsOn s.valid.now s.main l) c.as_slice.ensures.value (c.in_ok-main.ensures.gives_up c.in_default.is) in
    let makes = gives_up b f.func_type f.body refl f.function in
    let begins : MakesTurns (system_of b) patience (Going (At b.main)) =
    subst (λ x. MakesTurns (system_of b) patience (Going (At x))) (sym (f.calls s.args.items)) makes in
    (0, inl (subst (λ (v : Thread). MakesTurns (system_of b) patience v) (sym (first_at b)) begins))
