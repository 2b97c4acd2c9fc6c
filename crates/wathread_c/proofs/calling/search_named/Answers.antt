use Rattle.std.proofs.Common.{ap, List, ◌∙◌, subst}
use Rattle.types.specs.declared.value.Value.{Value}
use Rattle.host_calls.specs.Hosts.{AreEndings, IsRefusedCall}
use Rattle.host_instances.specs.Instances.{module_of}
use Rattle.wathread_c.specs.Calls.{IsSearched}
use Rattle.wathread_c.specs.Calls.IsSearched.{met, refused}
use Rattle.wathread_c.specs.Given.{values_by}
use Rattle.wathread_c.specs.Lines.{IsRefusalText, IsSearchText}
use Rattle.wathread_c.specs.declared.answer.CallAnswer.{CallAnswer}
use Rattle.wathread_c.proofs.Told.{may_tell, weaker}
use Rattle.wathread_c.proofs.calling.search_named.Goals as goal

pub returns-in-Ok-endings : goal.returns-in-Ok-endings
returns-in-Ok-endings c =
    let o = c.args.options.now in let m = module_of c.args.held.now in
    let all = c.in-Ok-endings.all in
    let found =
    subst (λ (values : List Value). AreEndings m c.args.name.now values o.states o.dump all)
    (c.deref.ensures.value ∙ c.in-Ok.ensures) c.in-Ok-endings.ensures.found in
    let says = IsSearchText all o.states in
    weaker says
    (IsSearched (AreEndings m c.args.name.now (values_by c.args.args.now) o.states o.dump) (IsRefusedCall m c.args.name.now (values_by c.args.args.now)) o.states)
    (λ s l text. met all found text) _ _ _ _
    (may_tell says c.search_line.result c.search_line.ensures _ _ _ _ _
    (ap (λ (a : CallAnswer). a.text) c.requires) c.tell.ensures)

pub returns : goal.returns
returns c =
    let fault = c.in-Err.fault in let o = c.args.options.now in let m = module_of c.args.held.now in
    let is =
    subst (λ (values : List Value). IsRefusedCall m c.args.name.now values fault)
    (c.deref.ensures.value ∙ c.in-Ok.ensures) c.in-Err.ensures.fault in
    weaker (IsRefusalText fault)
    (IsSearched (AreEndings m c.args.name.now (values_by c.args.args.now) o.states o.dump) (IsRefusedCall m c.args.name.now (values_by c.args.args.now)) o.states)
    (λ s l text. refused fault is text) _ _ _ _ c.refuse.ensures.told
