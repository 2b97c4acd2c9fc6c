use Rattle.std.proofs.Common.{◌≡◌, List, ℕ, map, Option, Vec, Global, Bor, sym, ◌∙◌, subst}
use Rattle.std.specs.Option.{MatchOption}
use Rattle.types.specs.declared.value.Value.{Value}
use Rattle.types.specs.Values.{type_of}
use Rattle.report_jobs.specs.Arguments.{AreSpelled, CannotCall, texts_in}
use Rattle.report_jobs.proofs.Calls.{unknown, cannot}
use Rattle.report_jobs.proofs.running.args_of.Goals as goal

pub returns-in_default-clause-trouble : goal.returns-in_default-clause-trouble
returns-in_default-clause-trouble c =
    let call = c.args.call.now in
    unknown c.args.module.now.parts call.invoke.now (texts_in call.args.items) c.in_default.ensures

pub returns-in-None-clause-trouble : goal.returns-in-None-clause-trouble
returns-in-None-clause-trouble c =
    let f = c.in-Some.function in
    let m = c.args.module.now.parts in
    let call = c.args.call.now in
    let exports = c.in-Some.ensures in
    let params = c.as_slice.result.now in
    let texts = texts_in c.deref.result.now in
    let None : Type 0 = (args : List Value) → AreSpelled texts args → map type_of args ≡ params → ⊥ in
    let Read : Option (Vec Value Global) → Type 0
    = λ read. MatchOption read None (λ args. AreSpelled texts args.items × (map type_of args.items ≡ params)) in
    let none = subst Read c.in-None.is c.in_ok-args.ensures in
    subst (λ (words : List (Bor (List ℕ))). CannotCall m call.invoke.now (texts_in words)) c.deref.ensures.value
    (cannot m c.show_distinct.ensures call.invoke.now texts f.own f.func_type.now exports.0 exports.1
    (λ args spelled fit. none args spelled (fit ∙ sym c.as_slice.ensures)))
