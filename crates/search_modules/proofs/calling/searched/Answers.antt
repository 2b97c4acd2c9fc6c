use Rattle.std.proofs.Common.{◌≡◌, ◌∙◌, List, ap, subst, sym, true}
use Rattle.types.specs.declared.limits.TheConstants.{MOST_PAGES}
use Rattle.types.specs.declared.value.Value.{Value}
use Rattle.types.specs.declared.parts.Parts.{Parts}
use Rattle.types.specs.Modules.{IsModule}
use Rattle.validate_typing.specs.Image.{opening_image, pages_max_of}
use Rattle.validate_typing.specs.Validity.{IsValid}
use Rattle.search_modules.specs.Endings.{IsWorkerOf}
use Rattle.search_modules.specs.Returned.{IsCall}
use Rattle.search_modules.specs.Searching.{called_of, is_callable}
use Rattle.search_modules.proofs.Entries.{callable_so, call_so}
use Rattle.search_modules.proofs.calling.searched.Goals as goal

pub invariant_of-result : goal.invariant_of-result
invariant_of-result c =
    let r = c.args.request.now in
    let m = c.module-valid.result.now.parts in
    let same : m ≡ r.parts = c.module-valid.ensures in
    let parts = c.parts-parts.ensures in
    let takes = c.number.ensures in
    let worker = subst (λ (x : Parts). IsWorkerOf x c.worker_of.result) same c.worker_of.ensures in
    let opening = c.in_ok-opening.ensures ∙ ap opening_image same in
    let max = c.pages_max.ensures ∙ ap (pages_max_of MOST_PAGES) same in
    let args = c.call.ensures.call.args_are ∙ sym c.in_ok-args.ensures.items in
    record {
      sound = c.in_ok-live.ensures;
      callable = subst (λ (x : Parts). is_callable x c.in_ok-opening.opening.items c.pages_max.result c.number.result c.in_ok-args.args.items
          c.worker_of.result ≡ true) (sym same)
          (subst (λ a. is_callable r.parts c.in_ok-opening.opening.items c.pages_max.result c.number.result a c.worker_of.result ≡ true) args
          (callable_so r.parts r.name r.args takes.0 c.worker_of.result worker c.in_ok-opening.opening.items c.pages_max.result c.number.result
          opening max (sym takes.1) (subst (λ (x : Parts). IsModule x) same parts.tested)
          (subst (λ (x : Parts). IsValid x) same parts.validated.valid)));
    }

pub returns-clause-call : goal.returns-clause-call
returns-clause-call c =
    let r = c.args.request.now in
    let m = c.module-valid.result.now.parts in
    let same : m ≡ r.parts = c.module-valid.ensures in
    let takes = c.number.ensures in
    let worker = subst (λ (x : Parts). IsWorkerOf x c.worker_of.result) same c.worker_of.ensures in
    let opening = c.in_ok-opening.ensures ∙ ap opening_image same in
    let max = c.pages_max.ensures ∙ ap (pages_max_of MOST_PAGES) same in
    let args = c.call.ensures.call.args_are ∙ sym c.in_ok-args.ensures.items in
    let b = λ (x : Parts) (a : List Value). called_of x c.in_ok-opening.opening.items c.pages_max.result c.number.result a c.worker_of.result in
    subst (λ (x : Parts). IsCall r.parts r.name r.args (b x c.in_ok-args.args.items)) (sym same)
    (subst (λ a. IsCall r.parts r.name r.args (b r.parts a)) args
    (call_so r.parts r.name r.args takes.0 c.worker_of.result worker c.in_ok-opening.opening.items c.pages_max.result c.number.result
    opening max (sym takes.1)))

pub returns-clause-worker : goal.returns-clause-worker
returns-clause-worker c = subst (λ (x : Parts). IsWorkerOf x c.worker_of.result) c.module-valid.ensures c.worker_of.ensures
