-- What each call of a module or an instance that stays answers, by what its handle holds.
use Rattle.std.specs.Prelude.{ℕ, ◌≡◌, ◌⊎◌, ◌==◌, ◌||◌, nat_le, Bool, if◌then◌else◌, List, length, Option, Some, None}
use Rattle.types.specs.declared.parts.Parts.{Parts}
use Rattle.replay_text.specs.Text.{record_text}
use Rattle.spawn_host.specs.declared.end.EndState.{EndState}
use Rattle.host_calls.specs.Hosts.{AreEndings, IsModuleFault, IsPlannedRun, IsRefusedCall, IsRefusedReplay, IsRefusedRun}
use Rattle.host_calls.specs.Hosts.{IsSavedRun, Spells}
use Rattle.host_calls.specs.declared.fault.HostFault.{HostFault}
use Rattle.host_instances.specs.Instances.{Instanced, can_be_set, first_of, left_by, lies_within, module_of, read_at, set_to}
use Rattle.host_instances.specs.Instances.{written_at}
use Rattle.wathread_c.specs.Answers.{no_answer}
use Rattle.wathread_c.specs.Calls.{Comes, Fails, HasNoName, IsReplayed, IsSearched, MayTell, Tells, TellsNoName}
use Rattle.wathread_c.specs.Given.{plan_by, values_by}
use Rattle.wathread_c.specs.Lines.{IsAcceptedText, IsRefusalText}
use Rattle.wathread_c.specs.declared.answer.CallAnswer.{CallAnswer}
use Rattle.wathread_c.specs.declared.given.Options.{Options}
use Rattle.wathread_c.specs.declared.given.Word.{Word}

-- A module is opened, and its handle holds it; or it is refused by a fault of its, and the handle holds nothing.
pub data IsOpened (bytes : List ℕ) (held : Option Parts) (status : ℕ) (line : List ℕ) : Type 0 where
  accepted : (m : Parts) → Spells bytes m → held ≡ Some m → IsAcceptedText (length m.functions) status line
      → IsOpened bytes held status line
  refused : (fault : HostFault) → IsModuleFault bytes fault → held ≡ None → IsRefusalText fault status line
      → IsOpened bytes held status line

-- A module is accepted, and its handle holds it; unless memory was refused.
abbrev pub MayAccept : Parts → Option Parts → List ℕ → List ℕ → CallAnswer → ℕ → Type 0
MayAccept m held old new answer status =
    (Fails old new answer status × (held ≡ None))
    ⊎ ((held ≡ Some m) × Tells (IsAcceptedText (length m.functions)) old new answer status)

abbrev pub Opens : List ℕ → Option Parts → List ℕ → List ℕ → CallAnswer → ℕ → Type 0
Opens bytes held old new answer status =
    (Fails old new answer status × (held ≡ None)) ⊎ Tells (IsOpened bytes held) old new answer status

-- A handle holds this now, unless memory was refused.
abbrev pub Holds : {X : Type 0} → X → Option X → ℕ → Type 0
Holds x held status = ((held ≡ Some x) × (status ≡ 0)) ⊎ ((held ≡ None) × (status ≡ 5))

-- Of a handle of a module another one of it is made.
abbrev pub Shares : Option Parts → Option Parts → ℕ → Type 0
Shares None held status = (held ≡ None) × (status ≡ 3)
Shares (Some m) held status = Holds m held status

-- Of a handle of a module one of an instance is made, whose memory is the module's own.
abbrev pub Begins : Option Parts → Option Instanced → ℕ → Type 0
Begins None held status = (held ≡ None) × (status ≡ 3)
Begins (Some m) held status = Holds (first_of m) held status

abbrev pub pages_in : Option Instanced → ℕ
pages_in None = 0
pages_in (Some i) = i.pages

-- Bytes are read, all or none.
abbrev pub Reads : Option Instanced → ℕ → List ℕ → List ℕ → ℕ → Type 0
Reads None addr old new status = (new ≡ old) × (status ≡ 3)
Reads (Some i) addr old new status =
    (new ≡ read_at i addr old) × (status ≡ (if lies_within i addr (length old) then 0 else 3))

-- Bytes are written, all or none.
abbrev pub Writes : Option Instanced → Option Instanced → ℕ → List ℕ → ℕ → Type 0
Writes None held addr bytes status = (held ≡ None) × (status ≡ 3)
Writes (Some i) held addr bytes status =
    (held ≡ Some (written_at i addr bytes)) × (status ≡ (if lies_within i addr (length bytes) then 0 else 3))

-- Bytes are made the whole memory, if they can be; unless memory was refused.
abbrev pub Sets : Option Instanced → Option Instanced → List ℕ → ℕ → Type 0
Sets None held bytes status = (held ≡ None) × (status ≡ 3)
Sets (Some i) held bytes status =
    ((held ≡ Some i) × (status ≡ 5))
    ⊎ ((held ≡ Some (set_to i bytes)) × (status ≡ (if can_be_set i.parts (length bytes) then 0 else 3)))

-- Of a handle that is closed nothing is answered but that it is.
pub record IsClosed (held : Option Instanced) (old new : List ℕ) (answer : CallAnswer) (status : ℕ) : Type 0 where
  pub closed : held ≡ None
  pub three : status ≡ 3
  pub kept : new ≡ old
  pub answer_is : answer ≡ no_answer

-- A buffer has room for bytes, or is empty, so that they aren't wanted.
abbrev pub has_room : List ℕ → List ℕ → Bool
has_room buffer bytes = (length buffer == 0) || nat_le (length bytes) (length buffer)

-- Behind a run the instance is what the run left, if its buffer has room for what is told of it; else it stays.
abbrev pub kept_by : List ℕ → List ℕ → EndState → Instanced → Instanced
kept_by buffer bytes end i = if has_room buffer bytes then left_by end i else i

-- Of a call: it is the run that is wanted of the module of the instance, which is kept; or it was refused, and the
-- instance stays.
abbrev pub CallsNamed : Instanced → Instanced → List ℕ → List Word → Options → List ℕ → List ℕ → CallAnswer → ℕ → Type 0
CallsNamed i i' name words o old new answer status =
    Comes (i' ≡ i)
    (λ made. IsPlannedRun (module_of i) name (values_by words) (plan_by o) made
    × (i' ≡ kept_by old (record_text made.record) made.end i))
    (λ fault. IsRefusedRun (module_of i) name (values_by words) (plan_by o) fault × (i' ≡ i))
    old new answer status

abbrev pub CallsOver : Instanced → Instanced → List ℕ → List Word → Options → List ℕ → List ℕ → CallAnswer → ℕ → Type 0
CallsOver i i' name words o old new answer status =
    (HasNoName name old new answer status × (i' ≡ i)) ⊎ CallsNamed i i' name words o old new answer status

abbrev pub CallsHeld : Option Instanced → Option Instanced → List ℕ → List Word → Options → List ℕ → List ℕ
    → CallAnswer → ℕ → Type 0
CallsHeld None held name words o old new answer status = IsClosed held old new answer status
CallsHeld (Some i) held name words o old new answer status =
    (i' : Instanced) × (held ≡ Some i') × CallsOver i i' name words o old new answer status

-- Of a replay: the run is one of the module of the instance, which is kept; or it was refused, and the instance stays.
abbrev pub ReplaysOver : Instanced → Instanced → List ℕ → List ℕ → List ℕ → CallAnswer → ℕ → Type 0
ReplaysOver i i' saved old new answer status =
    (Fails old new answer status × (i' ≡ i))
    ⊎ Tells
    (IsReplayed (λ end line. IsSavedRun (module_of i) saved end × (i' ≡ kept_by old line end i))
    (λ fault. IsRefusedReplay (module_of i) saved fault × (i' ≡ i)))
    old new answer status

abbrev pub ReplaysHeld : Option Instanced → Option Instanced → List ℕ → List ℕ → List ℕ → CallAnswer → ℕ → Type 0
ReplaysHeld None held saved old new answer status = IsClosed held old new answer status
ReplaysHeld (Some i) held saved old new answer status =
    (i' : Instanced) × (held ≡ Some i') × ReplaysOver i i' saved old new answer status

-- Of a search: all endings of the module of the instance, or why there are none.
abbrev pub SearchesNamedOver : Instanced → List ℕ → List Word → Options → List ℕ → List ℕ → CallAnswer → ℕ → Type 0
SearchesNamedOver i name words o old new answer status =
    MayTell
    (IsSearched (AreEndings (module_of i) name (values_by words) o.states o.dump)
    (IsRefusedCall (module_of i) name (values_by words)) o.states)
    old new answer status

abbrev pub SearchesOver : Instanced → List ℕ → List Word → Options → List ℕ → List ℕ → CallAnswer → ℕ → Type 0
SearchesOver i name words o old new answer status =
    TellsNoName name old new answer status ⊎ SearchesNamedOver i name words o old new answer status

abbrev pub SearchesHeld : Option Instanced → List ℕ → List Word → Options → List ℕ → List ℕ → CallAnswer → ℕ → Type 0
SearchesHeld None name words o old new answer status = IsClosed None old new answer status
SearchesHeld (Some i) name words o old new answer status = SearchesOver i name words o old new answer status
