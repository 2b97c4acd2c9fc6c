-- A request by values that a call's texts spell.
use Rattle.std.proofs.Common.{◌≡◌, ℕ, List, sym, ◌∙◌, subst}
use Rattle.types.specs.declared.value.Value.{Value}
use Rattle.types.specs.declared.parts.Parts.{Parts}
use Rattle.spawn_host.specs.declared.call.Call.{Call}
use Rattle.spawn_host.specs.Entries.{Takes}
use Rattle.spawn_host.specs.Requests.{Requested, IsRequestOf}
use Rattle.report_command.specs.declared.call.CallWords.{CallWords}
use Rattle.report_jobs.specs.Arguments.{AreSpelled, texts_in}
use Rattle.report_jobs.specs.Asked.{IsAskedBy}
use Rattle.report_jobs.specs.Troubles.{AreArgumentsOf}

pub asked_by : (m : Parts) (words : CallWords) (call : Call) (r : Requested) (args : List Value) → IsRequestOf m call r → call.args.now ≡ args
    → AreArgumentsOf m words args → call.name.now ≡ words.invoke.now → call.fuel ≡ words.fuel → IsAskedBy words r
asked_by m words call r args of_call same taken named budget =
    let name_is = of_call.name_is ∙ named in
    let args_are = of_call.args_are ∙ same in record {
      name_is = name_is;
      fuel_is = of_call.fuel_is ∙ budget;
      spelled = subst (AreSpelled (texts_in words.args.items)) (sym args_are) taken.0;
      takes = subst (λ (p : Parts). Takes p r.name r.args) (sym of_call.parts_are)
          (subst (λ (name : List ℕ). Takes m name r.args) (sym name_is)
          (subst (λ (values : List Value). Takes m words.invoke.now values) (sym args_are) taken.1));
    }
