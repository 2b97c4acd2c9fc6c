-- What a handle holds, and what follows from it.
use Rattle.std.proofs.Common.{ℕ, ◌≡◌, List, sym, subst, inl, inr, Option, Some, None}
use Rattle.types.specs.declared.parts.Parts.{Parts}
use Rattle.host_calls.specs.Hosts.{IsModuleFault, Spells}
use Rattle.host_calls.specs.declared.fault.HostFault.{HostFault}
use Rattle.host_instances.specs.Instances.{Instanced}
use Rattle.wathread_c.specs.Calls.{TellsFault}
use Rattle.wathread_c.specs.Kept.{CallsHeld, CallsOver, IsOpened.accepted, IsOpened.refused, MayAccept, Opens, SearchesHeld, SearchesOver}
use Rattle.wathread_c.specs.declared.answer.CallAnswer.{CallAnswer}
use Rattle.wathread_c.specs.declared.given.Options.{Options}
use Rattle.wathread_c.specs.declared.given.Word.{Word}

module _ (name : List ℕ) (words : List Word) (o : Options) (old new : List ℕ) (answer : CallAnswer) (status : ℕ) where
  pub called : (h h' : Option Instanced) (i i' : Instanced) → h ≡ Some i → h' ≡ Some i' → CallsOver i i' name words o old new answer status
      → CallsHeld h h' name words o old new answer status
  called h h' i i' is is' over =
      subst (λ (g : Option Instanced). CallsHeld g h' name words o old new answer status) (sym is) (i', is', over)

  pub searched : (h : Option Instanced) (i : Instanced) → h ≡ Some i → SearchesOver i name words o old new answer status
      → SearchesHeld h name words o old new answer status
  searched h i is over = subst (λ (g : Option Instanced). SearchesHeld g name words o old new answer status) (sym is) over

module _ (bytes old new : List ℕ) (answer : CallAnswer) (status : ℕ) (held : Option Parts) where
  pub opened : (m : Parts) → Spells bytes m → MayAccept m held old new answer status → Opens bytes held old new answer status
  opened m spells (inl failed) = inl failed
  opened m spells (inr told) = inr (record {
    line = told.1.line;
    said = accepted m spells told.0 told.1.said;
    length_is = told.1.length_is;
    puts = told.1.puts;
  })

  pub unopened : (fault : HostFault) → IsModuleFault bytes fault → held ≡ None → TellsFault fault old new answer status
      → Opens bytes held old new answer status
  unopened fault is none (inl failed) = inl (failed, none)
  unopened fault is none (inr told) = inr (record {
    line = told.line;
    said = refused fault is none told.said;
    length_is = told.length_is;
    puts = told.puts;
  })
