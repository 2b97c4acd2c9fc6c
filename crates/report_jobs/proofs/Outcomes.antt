-- What comes of a job that is refused or fails, by the fault that it comes of.
use Rattle.std.proofs.Common.{◌≡◌, ◌≤◌, ◌⊎◌, inl, inr, ℕ, List, Option, refl, sym, ◌∙◌, subst, arith}
use Rattle.std.specs.Borrow.{Bor}
use Rattle.validate_typing.specs.Tabled.{WithTables}
use Rattle.types.specs.declared.parts.Parts.{Parts}
use Rattle.validate_typing.specs.Validity.{IsValid}
use Rattle.binary.specs.Grammar.{IsModuleText}
use Rattle.binary_wire.specs.declared.fault.ReadFault.TheVariants.{OutOfMemory as ReadOutOfMemory, Malformed}
use Rattle.validate_typing.specs.declared.fault.ValidFault.TheVariants.{OutOfMemory as ValidityOutOfMemory, Outside}
use Rattle.validate_typing.specs.declared.fault.ValidFault.TheVariants.{InBody}
use Rattle.replay_text.specs.declared.fault.RecordFault.TheVariants as records
use Rattle.replay.specs.declared.fault.ReplayFault.TheVariants as replays
use Rattle.report_command.specs.declared.memory.MemoryFile.{MemoryFile}
use Rattle.report_memory.specs.declared.laying.Unlaid.{Unlaid as Why}
use Rattle.show_rows.specs.declared.next.Stood.{Stood}
use Rattle.report_command.specs.declared.command_line.RunJob.{RunJob}
use Rattle.report_jobs.specs.Jobs.{CannotLayOver, CannotRun, IsNoValidModule, IsOfNoRun, IsRefused, IsUnfit, IsUnready}
use Rattle.report_jobs.specs.Prints.{WriterChange}
use Rattle.report_jobs.specs.Silence.{refusal_status, trouble_status, unfit_status}
use Rattle.report_jobs.specs.Told.{TellsRefusal, TellsWhatIsWrong, refusal_line, unfit_line}
use Rattle.report_jobs.specs.Trapped.{Tells}
use Rattle.report_jobs.specs.Troubles.{IsTrouble}
use Rattle.report_jobs.specs.Arguments.{CannotCall}
use Rattle.report_jobs.specs.Undone.{of_refusal, of_trouble, of_unfit, of_unready, undone_line, undone_status}
use Rattle.report_jobs.specs.Why.{RefusesModule, RefusesRecord}
use Rattle.report_jobs.specs.declared.loading.ModuleRefusal.{ModuleRefusal}
use Rattle.report_jobs.specs.declared.loading.ModuleRefusal.TheVariants.{Read, Validity}
use Rattle.report_jobs.specs.declared.loading.Unready.{Unready}
use Rattle.report_jobs.specs.declared.loading.Unready.TheVariants as unreadies
use Rattle.report_jobs.specs.declared.running.Trouble.{Trouble}
use Rattle.report_jobs.specs.declared.running.Trouble.TheVariants as troubles
use Rattle.report_jobs.specs.declared.replaying.Unfit.{Unfit}
use Rattle.report_jobs.specs.declared.replaying.Unfit.TheVariants as unfits
use Rattle.report_jobs.specs.declared.undone.Undone.{Undone}
use Rattle.report_jobs.proofs.Refusing.{of_invalid}

-- it has the status and the line of the fault
pub refusal_status_is : (r : ModuleRefusal) → undone_status (of_refusal r) ≡ refusal_status r
refusal_status_is (Read ReadOutOfMemory) = refl
refusal_status_is (Read (Malformed kind offset)) = refl
refusal_status_is (Validity ValidityOutOfMemory) = refl
refusal_status_is (Validity (Outside kind)) = refl
refusal_status_is (Validity (InBody kind function place)) = refl

refusal_line_is : (r : ModuleRefusal) → undone_line (of_refusal r) ≡ refusal_line r
refusal_line_is (Read ReadOutOfMemory) = refl
refusal_line_is (Read (Malformed kind offset)) = refl
refusal_line_is (Validity ValidityOutOfMemory) = refl
refusal_line_is (Validity (Outside kind)) = refl
refusal_line_is (Validity (InBody kind function place)) = refl

pub refusal_two : (r : ModuleRefusal) → (undone_status (of_refusal r) ≡ 2) ⊎ (undone_status (of_refusal r) ≡ 5)
refusal_two (Read ReadOutOfMemory) = inr refl
refusal_two (Read (Malformed kind offset)) = inl refl
refusal_two (Validity ValidityOutOfMemory) = inr refl
refusal_two (Validity (Outside kind)) = inl refl
refusal_two (Validity (InBody kind function place)) = inl refl

module _ (bytes : List ℕ) where
  -- with 2 no valid module is spelled
  pub no_module : (r : ModuleRefusal) → IsRefused bytes r → undone_status (of_refusal r) ≡ 2 → IsNoValidModule bytes
  no_module (Read ReadOutOfMemory) is two = absurd (omega (arith, two))
  no_module (Read (Malformed kind offset)) is two = λ parts text valid. is parts text
  no_module (Validity ValidityOutOfMemory) is two = absurd (omega (arith, two))
  no_module (Validity (Outside kind)) is two = of_invalid bytes is
  no_module (Validity (InBody kind function place)) is two = of_invalid bytes is

  pub refuses : (r : ModuleRefusal) → IsRefused bytes r → undone_status (of_refusal r) ≡ 2 → RefusesModule bytes (of_refusal r)
  refuses r is two = record { refusal = r; is = is; refuses = sym (refusal_status_is r) ∙ two; why_is = refl }

  -- of a module of which no run can be made
  module _ (over : List ℕ) (file : Option MemoryFile) (count : ℕ) where
    pub unready_no_module : (u : Unready) → IsUnready bytes file over u → undone_status (of_unready u file count) ≡ 2
        → IsNoValidModule bytes
    unready_no_module (unreadies.Refused r) is two = no_module r is two
    unready_no_module (unreadies.Unlaid why) is two = absurd (omega (arith, two))
    unready_no_module unreadies.NoMemory is two = absurd (omega (arith, two))

    pub unready_refuses : (u : Unready) → IsUnready bytes file over u → undone_status (of_unready u file count) ≡ 2
        → RefusesModule bytes (of_unready u file count)
    unready_refuses (unreadies.Refused r) is two = refuses r is two
    unready_refuses (unreadies.Unlaid why) is two = absurd (omega (arith, two))
    unready_refuses unreadies.NoMemory is two = absurd (omega (arith, two))

    pub unready_cannot : (u : Unready) → IsUnready bytes file over u → undone_status (of_unready u file count) ≡ 3
        → (why : Why) × CannotLayOver bytes file over why
    unready_cannot (unreadies.Refused r) is three = elim (refusal_two r) [
      | inl two ↦ absurd (omega (arith, two, three))
      | inr five ↦ absurd (omega (arith, five, three))
    ]
    unready_cannot (unreadies.Unlaid why) is three = (why, is)
    unready_cannot unreadies.NoMemory is three = absurd (omega (arith, three))

    pub unready_refusal : (u : Unready) → (undone_status (of_unready u file count) ≡ 2)
        ⊎ ((undone_status (of_unready u file count) ≡ 3) ⊎ (undone_status (of_unready u file count) ≡ 5))
    unready_refusal (unreadies.Refused r) = elim (refusal_two r) [
      | inl two ↦ inl two
      | inr five ↦ inr (inr five)
    ]
    unready_refusal (unreadies.Unlaid why) = inr (inl refl)
    unready_refusal unreadies.NoMemory = inr (inr refl)

  pub unready_cannot_run : (over : List ℕ) (job : RunJob) (count : ℕ) (u : Unready) → IsUnready bytes job.memory_in over u
      → undone_status (of_unready u job.memory_in count) ≡ 3 → CannotRun bytes over job
  unready_cannot_run over job count u is three =
      let x = unready_cannot over job.memory_in count u is three in
      record { parts = x.1.parts; text = x.1.text; valid = x.1.valid; cannot = inr (x.0, x.1.cannot) }

-- of a run or a search that wasn't made
module _ (v : WithTables) (save memory : Option (Bor (List ℕ))) where
  pub trouble_status_is : (t : Trouble) → undone_status (of_trouble t v save memory) ≡ trouble_status t
  trouble_status_is (troubles.Call fault) = refl
  trouble_status_is troubles.NoThread = refl
  trouble_status_is troubles.NoMemory = refl
  trouble_status_is troubles.Output = refl
  trouble_status_is troubles.Save = refl
  trouble_status_is troubles.SaveMemory = refl

  pub trouble_three : (t : Trouble) → (undone_status (of_trouble t v save memory) ≡ 3)
      ⊎ (undone_status (of_trouble t v save memory) ≡ 5)
  trouble_three (troubles.Call fault) = inl refl
  trouble_three troubles.NoThread = inr refl
  trouble_three troubles.NoMemory = inr refl
  trouble_three troubles.Output = inr refl
  trouble_three troubles.Save = inr refl
  trouble_three troubles.SaveMemory = inr refl

  pub trouble_cannot : (m : Parts) (name : List ℕ) (texts : List (List ℕ)) (t : Trouble) → IsTrouble m name texts t
      → undone_status (of_trouble t v save memory) ≡ 3 → CannotCall m name texts
  trouble_cannot m name texts (troubles.Call fault) is three = is
  trouble_cannot m name texts troubles.NoThread is three = absurd (omega (arith, three))
  trouble_cannot m name texts troubles.NoMemory is three = absurd (omega (arith, three))
  trouble_cannot m name texts troubles.Output is three = absurd (omega (arith, three))
  trouble_cannot m name texts troubles.Save is three = absurd (omega (arith, three))
  trouble_cannot m name texts troubles.SaveMemory is three = absurd (omega (arith, three))

-- of a record that isn't replayed
module _ (v : WithTables) (stood : Option Stood) where
  pub unfit_status_is : (u : Unfit) → undone_status (of_unfit u v stood) ≡ unfit_status u
  unfit_status_is (unfits.Unread (records.Header line)) = refl
  unfit_status_is (unfits.Unread (records.Unreadable line)) = refl
  unfit_status_is (unfits.Unread records.EndMissing) = refl
  unfit_status_is (unfits.Unread records.NoMemory) = refl
  unfit_status_is (unfits.Misfit (replays.Line line)) = refl
  unfit_status_is (unfits.Misfit (replays.EndLine line)) = refl
  unfit_status_is (unfits.Misfit replays.NoMemory) = refl
  unfit_status_is unfits.NoMemory = refl
  unfit_status_is unfits.Output = refl

  unfit_line_is : (u : Unfit) → undone_line (of_unfit u v stood) ≡ unfit_line u
  unfit_line_is (unfits.Unread (records.Header line)) = refl
  unfit_line_is (unfits.Unread (records.Unreadable line)) = refl
  unfit_line_is (unfits.Unread records.EndMissing) = refl
  unfit_line_is (unfits.Unread records.NoMemory) = refl
  unfit_line_is (unfits.Misfit (replays.Line line)) = refl
  unfit_line_is (unfits.Misfit (replays.EndLine line)) = refl
  unfit_line_is (unfits.Misfit replays.NoMemory) = refl
  unfit_line_is unfits.NoMemory = refl
  unfit_line_is unfits.Output = refl

  pub unfit_four : (u : Unfit) → (undone_status (of_unfit u v stood) ≡ 4) ⊎ (undone_status (of_unfit u v stood) ≡ 5)
  unfit_four (unfits.Unread (records.Header line)) = inl refl
  unfit_four (unfits.Unread (records.Unreadable line)) = inl refl
  unfit_four (unfits.Unread records.EndMissing) = inl refl
  unfit_four (unfits.Unread records.NoMemory) = inr refl
  unfit_four (unfits.Misfit (replays.Line line)) = inl refl
  unfit_four (unfits.Misfit (replays.EndLine line)) = inl refl
  unfit_four (unfits.Misfit replays.NoMemory) = inr refl
  unfit_four unfits.NoMemory = inr refl
  unfit_four unfits.Output = inr refl

  -- with 4 the bytes are the text of no record of a run of the module
  pub no_record : (m : Parts) (saved : List ℕ) (u : Unfit) → IsUnfit m saved u → undone_status (of_unfit u v stood) ≡ 4
      → IsOfNoRun m saved
  no_record m saved (unfits.Unread fault) is four = is.none
  no_record m saved (unfits.Misfit fault) is four = is.none
  no_record m saved unfits.NoMemory is four = absurd (omega (arith, four))
  no_record m saved unfits.Output is four = absurd (omega (arith, four))

  pub refuses_record : (bytes saved : List ℕ) (m : Parts) → IsModuleText bytes m → IsValid m → (u : Unfit)
      → IsUnfit m saved u → undone_status (of_unfit u v stood) ≡ 4 → RefusesRecord bytes saved (of_unfit u v stood)
  refuses_record bytes saved m text valid u is four = record {
    parts = m;
    text = text;
    valid = valid;
    unfit = u;
    is = is;
    refuses = sym (unfit_status_is u) ∙ four;
    module_is = v;
    stood = stood;
    why_is = refl;
  }

-- where what is refused is told, its line is
pub tells_refusal : (bytes : List ℕ) (why : Undone) (err : WriterChange) → RefusesModule bytes why
    → Tells err.old err.new (undone_line why) → TellsRefusal bytes err
tells_refusal bytes why err r told = record {
  refusal = r.refusal;
  is = r.is;
  refuses = r.refuses;
  line = subst (λ (line : List ℕ). Tells err.old err.new line) (refusal_line_is r.refusal)
      (subst (λ (u : Undone). Tells err.old err.new (undone_line u)) r.why_is told);
}

pub tells_record : (bytes saved : List ℕ) (why : Undone) (err : WriterChange) → RefusesRecord bytes saved why
    → Tells err.old err.new (undone_line why) → TellsWhatIsWrong bytes saved err
tells_record bytes saved why err r told = record {
  parts = r.parts;
  text = r.text;
  valid = r.valid;
  unfit = r.unfit;
  is = r.is;
  refuses = r.refuses;
  line = subst (λ (line : List ℕ). Tells err.old err.new line) (unfit_line_is r.module_is r.stood r.unfit)
      (subst (λ (u : Undone). Tells err.old err.new (undone_line u)) r.why_is told);
}
