use Rattle.std.proofs.Common.{ap, ℕ, List, refl, inl, inr, subst, arith}
use Rattle.spawn_host.specs.declared.end.EndState.{EndState}
use Rattle.host_calls.specs.Hosts.{IsReplayFault, IsReplayOf}
use Rattle.wathread_c.specs.Answers.{Puts}
use Rattle.wathread_c.specs.Calls.{IsReplayed}
use Rattle.wathread_c.specs.Calls.IsReplayed.{ran, refused}
use Rattle.wathread_c.specs.Lines.{IsRefusalText, IsRunText}
use Rattle.wathread_c.specs.declared.answer.CallAnswer.{CallAnswer}
use Rattle.wathread_c.proofs.Told.{may_tell, weaker, keeps_bytes}
use Rattle.wathread_c.proofs.replaying.wathread_replay.Goals as goal

pub returns-in-Ok : goal.returns-in-Ok
returns-in-Ok c =
    let end = c.in-Ok.end in
    let says = IsRunText end in
    let kept = keeps_bytes c.run_line.result _ _ _ _ _ c.tell.ensures in
    record {
      told = weaker says (IsReplayed (λ (end : EndState) (line : List ℕ). IsReplayOf c.args.module.now c.args.record.now end) (IsReplayFault c.args.module.now c.args.record.now)) (λ s l text. ran end c.in-Ok.ensures.run text) _ _ _ _
          (may_tell says c.run_line.result c.run_line.ensures _ _ _ _ _ (ap (λ (a : CallAnswer). a.text) c.none.ensures) c.tell.ensures);
      memory_is = inr (record {
        end = end;
        run = c.in-Ok.ensures.run;
        length_is = omega (arith, kept, c.len-answer.ensures, end.bytes.ok);
        puts = subst (λ (bytes : List ℕ). Puts c.args.bytes.now bytes c.put.new.buffer) c.deref.ensures.value c.put.ensures;
      });
    }

pub returns-in-Err : goal.returns-in-Err
returns-in-Err c = record {
  told = weaker (IsRefusalText c.in-Err.fault) (IsReplayed (λ (end : EndState) (line : List ℕ). IsReplayOf c.args.module.now c.args.record.now end) (IsReplayFault c.args.module.now c.args.record.now))
      (λ s l text. refused c.in-Err.fault c.in-Err.ensures.fault text) _ _ _ _ c.refuse.ensures.told;
  memory_is = inl (refl, c.refuse.ensures.bytes);
}
