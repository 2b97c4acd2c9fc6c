use Rattle.std.proofs.Common.{◌∙◌, ap}
use Rattle.wathread_c.specs.Lines.{IsRefusalText}
use Rattle.wathread_c.specs.declared.answer.CallAnswer.{CallAnswer}
use Rattle.wathread_c.proofs.Told.{may_tell, keeps_bytes}
use Rattle.wathread_c.proofs.objects.refuse.Goals as goal

pub returns-in-Some-clause-told : goal.returns-in-Some-clause-told
returns-in-Some-clause-told c = may_tell (IsRefusalText c.args.fault) c.refusal_line.result c.refusal_line.ensures _ _ _ _ _
    (ap (λ (a : CallAnswer). a.text) c.requires) c.tell.ensures

pub returns-in-Some-clause-bytes : goal.returns-in-Some-clause-bytes
returns-in-Some-clause-bytes c =
    keeps_bytes c.refusal_line.result _ _ _ _ _ c.tell.ensures ∙ ap (λ (a : CallAnswer). a.bytes) c.requires
