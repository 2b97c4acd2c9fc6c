-- From the faults of a run to what they say of the words that asked for it.
use Rattle.std.proofs.Common.{◌≡◌, ℕ, List, map, ◌∙◌, ap}
use Rattle.types.specs.declared.value.Value.{Value}
use Rattle.types.specs.Values.{type_of}
use Rattle.types.specs.declared.parts.FuncType.{FuncType}
use Rattle.types.specs.declared.parts.Body.{Body}
use Rattle.types.specs.declared.parts.Parts.{Parts}
use Rattle.validate_typing.specs.Validity.{HasDistinctNames}
use Rattle.spawn_host_workers.specs.declared.report.StartFault.TheVariants as start_faults
use Rattle.spawn_host.specs.declared.request.CallFault.{CallFault}
use Rattle.spawn_host.specs.declared.request.CallFault.TheVariants as call_faults
use Rattle.spawn_host.specs.declared.running.RunFault.TheVariants as run_faults
use Rattle.spawn_host.specs.Entries.{Exports, IsUnknown, Takes}
use Rattle.spawn_host.specs.Faults.{IsCallFault}
use Rattle.spawn_host.specs.Requests.{Requested}
use Rattle.replay.proofs.Same.{same_function}
use Rattle.report_runs.specs.RunFaults.{IsRecordingFaultOfRequest, IsWordsFaultOfRequest}
use Rattle.report_runs.specs.declared.recording.RecordRunFault.{RecordRunFault}
use Rattle.report_runs.specs.declared.recording.RecordRunFault.TheVariants as recording_faults
use Rattle.report_jobs.specs.Arguments.{AreSpelled, CannotCall}
use Rattle.report_jobs.specs.Troubles.{IsTrouble, trouble_of_recording}

pub unknown : (m : Parts) (name : List ℕ) (texts : List (List ℕ)) → IsUnknown m name → CannotCall m name texts
unknown m name texts none args spelled takes = none takes.own takes.exports.exported

module _ (m : Parts) (distinct : HasDistinctNames m.exports) (name : List ℕ) where
  pub cannot : (texts : List (List ℕ)) (own : ℕ) (t : FuncType) (b : Body) → Exports m name own t b
      → ((args : List Value) → AreSpelled texts args → map type_of args ≡ t.params → ⊥) → CannotCall m name texts
  cannot texts own t b x none args spelled takes =
      let same = (same_function m distinct name takes.own own takes.func_type t takes.body b takes.exports x).0 in
      none args spelled (takes.fit ∙ ap (λ (u : FuncType). u.params) same)

  -- a call that can be made has no fault
  pub fits : (args : List Value) → Takes m name args → (fault : CallFault) → IsCallFault m name args fault → ⊥
  fits args takes call_faults.UnknownExport none = none takes.own takes.exports.exported
  fits args takes call_faults.WrongArguments h =
      let same = (same_function m distinct name takes.own h.own takes.func_type h.func_type takes.body h.body takes.exports h.exports).0 in
      h.unfit (takes.fit ∙ ap (λ (u : FuncType). u.params) same)

-- the faults of a call that can be made are the system's
module _ (m : Parts) (name : List ℕ) (texts : List (List ℕ)) (r : Requested) where
  pub of_words : (fault : RecordRunFault) → IsWordsFaultOfRequest r fault → IsTrouble m name texts (trouble_of_recording fault)
  of_words (recording_faults.Open f) h = tt
  of_words (recording_faults.Run (run_faults.Call f)) h = absurd h
  of_words (recording_faults.Run (run_faults.Start start_faults.NoMemory)) h = tt
  of_words (recording_faults.Run (run_faults.Start start_faults.NoThread)) h = tt
  of_words recording_faults.NoMemory h = tt

  pub of_recording : (limit : ℕ) (fault : RecordRunFault) → IsRecordingFaultOfRequest r limit fault → IsTrouble m name texts (trouble_of_recording fault)
  of_recording limit (recording_faults.Open f) h = tt
  of_recording limit (recording_faults.Run (run_faults.Call f)) h = absurd h
  of_recording limit (recording_faults.Run (run_faults.Start start_faults.NoMemory)) h = tt
  of_recording limit (recording_faults.Run (run_faults.Start start_faults.NoThread)) h = tt
  of_recording limit recording_faults.NoMemory h = tt
