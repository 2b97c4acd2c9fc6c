use Rattle.std.proofs.Common.{ap}
use Rattle.wathread_c.specs.Calls.{IsChecked}
use Rattle.wathread_c.specs.Calls.IsChecked.{accepted, refused}
use Rattle.wathread_c.specs.Lines.{IsAcceptedText, IsRefusalText}
use Rattle.wathread_c.specs.declared.answer.CallAnswer.{CallAnswer}
use Rattle.wathread_c.proofs.Told.{may_tell, weaker}
use Rattle.wathread_c.proofs.checking.wathread_check.Goals as goal

pub returns-in-Ok : goal.returns-in-Ok
returns-in-Ok c =
    let says = IsAcceptedText c.in-Ok.count in
    weaker says (IsChecked c.args.module.now) (λ s l text. accepted c.in-Ok.count c.in-Ok.ensures.count text) _ _ _ _
    (may_tell says c.accepted_line.result c.accepted_line.ensures _ _ _ _ _ (ap (λ (a : CallAnswer). a.text) c.none.ensures) c.tell.ensures)

pub returns-in-Err : goal.returns-in-Err
returns-in-Err c = weaker (IsRefusalText c.in-Err.fault) (IsChecked c.args.module.now)
    (λ s l text. refused c.in-Err.fault c.in-Err.ensures.fault text) _ _ _ _ c.refuse.ensures.told
