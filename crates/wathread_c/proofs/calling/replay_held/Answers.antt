use Rattle.std.proofs.Common.{ℕ, ◌≡◌, List, length, refl, inr, arith}
use Rattle.spawn_host.specs.declared.end.EndState.{EndState}
use Rattle.host_calls.specs.Hosts.{IsRefusedReplay, IsSavedRun}
use Rattle.host_calls.specs.declared.fault.HostFault.{HostFault}
use Rattle.host_instances.specs.Instances.{module_of}
use Rattle.wathread_c.specs.Calls.{IsReplayed}
use Rattle.wathread_c.specs.Calls.IsReplayed.{ran, refused}
use Rattle.wathread_c.specs.Kept.{kept_by}
use Rattle.wathread_c.specs.Lines.{IsRefusalText}
use Rattle.wathread_c.proofs.Told.{may_stay, settled_so, told_line}
use Rattle.wathread_c.proofs.calling.replay_held.Goals as goal

pub returns-in-Err : goal.returns-in-Err
returns-in-Err c =
    let fault = c.in-Err.fault in let i = c.args.held.now in let saved = c.args.record.now in
    may_stay (i ≡ i) (IsRefusalText fault)
    (IsReplayed (λ (end : EndState) (line : List ℕ). IsSavedRun (module_of i) saved end × (i ≡ kept_by c.args.text.now line end i))
    (λ (fault : HostFault). IsRefusedReplay (module_of i) saved fault × (i ≡ i)))
    refl (λ s l text. refused fault (c.in-Err.ensures.fault, refl) text) _ _ _ _ c.refuse.ensures.told

pub returns : goal.returns
returns c =
    let i = c.args.held.now in let i' = c.settle.new.held in let saved = c.args.record.now in let end = c.in-Ok.end in let line = c.in-Ok-run_line.line in
    let counted : c.len.result ≡ length line.text.items = omega (arith, c.len.ensures, line.text.ok) in
    let kept : i' ≡ kept_by c.args.text.now line.text.items end i =
    settled_so c.args.text.now c.args.text.now line.text.items c.len.result c.has_room.result end i i' c.has_room.ensures refl counted c.settle.ensures in
    inr (told_line
    (IsReplayed (λ (end : EndState) (line : List ℕ). IsSavedRun (module_of i) saved end × (i' ≡ kept_by c.args.text.now line end i))
    (λ (fault : HostFault). IsRefusedReplay (module_of i) saved fault × (i' ≡ i)))
    line (ran end (c.in-Ok.ensures.run, kept) c.in-Ok-run_line.ensures) c.args.answer.now c.tell.new.answer _ _ _ c.tell.ensures)
