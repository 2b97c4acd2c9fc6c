-- What is refused, as JSON says it.
use Rattle.std.specs.Prelude.{ℕ, ◌≡◌, List, codes}
use Rattle.binary_wire.specs.declared.fault.ReadFault.TheVariants as reads
use Rattle.validate_typing.specs.declared.fault.ValidFault.TheVariants as validity
use Rattle.replay_text.specs.declared.fault.RecordFault.TheVariants as records
use Rattle.replay.specs.declared.fault.ReplayFault.TheVariants as replays
use Rattle.spawn_host.specs.declared.request.CallFault.{CallFault}
use Rattle.spawn_host.specs.declared.request.CallFault.TheVariants.{UnknownExport, WrongArguments}
use Rattle.report_jobs.specs.declared.loading.ModuleRefusal.TheVariants as refusals
use Rattle.report_json.specs.declared.refusals.RefusedObject.{RefusedObject}
use Rattle.report_json.specs.declared.refusals.RefusedObject.TheVariants as refused
use Rattle.host_calls.specs.declared.fault.HostFault.{HostFault}
use Rattle.host_calls.specs.declared.fault.HostFault.TheVariants as faults

-- The words of a call that can't be made.
abbrev pub call_words : CallFault → List ℕ
call_words UnknownExport = codes "unknown export"
call_words WrongArguments = codes "wrong arguments"

-- A call is refused with these words.
abbrev pub IsCallWith : List ℕ → RefusedObject → Type 0
IsCallWith words (refused.Call said) = said.now ≡ words
IsCallWith words r = ⊥

-- A fault is told as what is refused. Out of memory isn't.
abbrev pub IsRefusedAs : HostFault → RefusedObject → Type 0
IsRefusedAs (faults.Module (refusals.Read reads.OutOfMemory)) r = ⊥
IsRefusedAs (faults.Module (refusals.Read (reads.Malformed kind offset))) r = r ≡ refused.Read kind offset
IsRefusedAs (faults.Module (refusals.Validity validity.OutOfMemory)) r = ⊥
IsRefusedAs (faults.Module (refusals.Validity (validity.Outside kind))) r = r ≡ refused.Rule kind
IsRefusedAs (faults.Module (refusals.Validity (validity.InBody kind function instruction))) r =
    r ≡ refused.RuleInBody kind function instruction
IsRefusedAs (faults.Call fault) r = IsCallWith (call_words fault) r
IsRefusedAs faults.Range r = IsCallWith (codes "out of range") r
IsRefusedAs (faults.Record (records.Header line)) r = r ≡ refused.Header line
IsRefusedAs (faults.Record (records.Unreadable line)) r = r ≡ refused.Unreadable line
IsRefusedAs (faults.Record records.EndMissing) r = r ≡ refused.EndMissing
IsRefusedAs (faults.Record records.NoMemory) r = ⊥
IsRefusedAs (faults.Replay (replays.Line line)) r = r ≡ refused.Line line
IsRefusedAs (faults.Replay (replays.EndLine line)) r = r ≡ refused.EndLine line
IsRefusedAs (faults.Replay replays.NoMemory) r = ⊥
IsRefusedAs faults.NoMemory r = ⊥
