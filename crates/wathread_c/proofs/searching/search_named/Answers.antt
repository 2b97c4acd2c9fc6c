use Rattle.std.proofs.Common.{ap, List, ◌∙◌, subst}
use Rattle.types.specs.declared.value.Value.{Value}
use Rattle.host_calls.specs.Hosts.{HasEndings, IsCallFaultOf}
use Rattle.wathread_c.specs.Calls.{IsSearched}
use Rattle.wathread_c.specs.Calls.IsSearched.{met, refused}
use Rattle.wathread_c.specs.Given.{values_by}
use Rattle.wathread_c.specs.Lines.{IsRefusalText, IsSearchText}
use Rattle.wathread_c.specs.declared.answer.CallAnswer.{CallAnswer}
use Rattle.wathread_c.proofs.Told.{may_tell, weaker}
use Rattle.wathread_c.proofs.searching.search_named.Goals as goal

pub returns-in-Ok-endings_of : goal.returns-in-Ok-endings_of
returns-in-Ok-endings_of c =
    let o = c.args.options.now in
    let all = c.in-Ok-endings_of.all in
    let found =
    subst (λ (values : List Value). HasEndings c.args.module.now c.args.name.now values o.states o.dump all)
    (c.deref.ensures.value ∙ c.in-Ok.ensures) c.in-Ok-endings_of.ensures.found in
    let says = IsSearchText all o.states in
    weaker says (IsSearched (HasEndings c.args.module.now c.args.name.now (values_by c.args.args.now) o.states o.dump)
    (IsCallFaultOf c.args.module.now c.args.name.now (values_by c.args.args.now)) o.states) (λ s l text. met all found text) _ _ _ _
    (may_tell says c.search_line.result c.search_line.ensures _ _ _ _ _
    (ap (λ (a : CallAnswer). a.text) c.requires) c.tell.ensures)

pub returns : goal.returns
returns c =
    let fault = c.in-Err.fault in
    let is =
    subst (λ (values : List Value). IsCallFaultOf c.args.module.now c.args.name.now values fault)
    (c.deref.ensures.value ∙ c.in-Ok.ensures) c.in-Err.ensures.fault in
    weaker (IsRefusalText fault) (IsSearched (HasEndings c.args.module.now c.args.name.now (values_by c.args.args.now) c.args.options.now.states c.args.options.now.dump)
    (IsCallFaultOf c.args.module.now c.args.name.now (values_by c.args.args.now)) c.args.options.now.states)
    (λ s l text. refused fault is text) _ _ _ _ c.refuse.ensures.told
