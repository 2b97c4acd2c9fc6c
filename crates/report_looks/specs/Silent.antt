-- What stays as it was, where a record is refused.
use Rattle.std.specs.Prelude.{ℕ, ◌≡◌, ◌⊎◌, List}
use Rattle.types.specs.declared.parts.Parts.{Parts}
use Rattle.report_jobs.specs.Jobs.{IsOfRun, IsUnfit}
use Rattle.report_jobs.specs.declared.replaying.Unfit.{Unfit}
use Rattle.report_jobs.specs.declared.replaying.Unfit.TheVariants as unfits
use Rattle.report_looks.specs.declared.wanted.Unshown.{Unshown}
use Rattle.report_looks.specs.declared.wanted.Unshown.TheVariants as unshown

-- This holds where the record is refused.
abbrev pub IfRefusedRecord : Unfit → Type 0 → Type 0
IfRefusedRecord (unfits.Unread fault) P = P
IfRefusedRecord (unfits.Misfit fault) P = P
IfRefusedRecord unfits.NoMemory P = Unit {0}
IfRefusedRecord unfits.Output P = Unit {0}

-- It isn't refused: memory or the stream failed.
abbrev pub IsNoRefusal : Unfit → Type 0
IsNoRefusal (unfits.Unread fault) = ⊥
IsNoRefusal (unfits.Misfit fault) = ⊥
IsNoRefusal unfits.NoMemory = Unit {0}
IsNoRefusal unfits.Output = Unit {0}

-- This holds where nothing is shown because a record is refused, or has not what is asked for.
abbrev pub IfUnshown : Unshown → Type 0 → Type 0
IfUnshown (unshown.Unfit unfit stood) P = IfRefusedRecord unfit P
IfUnshown (unshown.Absent absent) P = P

-- Why nothing is shown: the record is none of a run of the module; or it is one, and has not what is asked for.
abbrev pub IsUnshown : Parts → List ℕ → Unshown → Type 0
IsUnshown m saved (unshown.Unfit unfit stood) = IsUnfit m saved unfit
IsUnshown m saved (unshown.Absent absent) = IsOfRun m saved

-- No record is refused by this.
abbrev pub IsUnrefused : Unshown → Type 0
IsUnrefused (unshown.Unfit unfit stood) = IsNoRefusal unfit
IsUnrefused (unshown.Absent absent) = Unit {0}

-- The record has not what is asked for, or the module no such data.
abbrev pub IsAbsent : Unshown → Type 0
IsAbsent (unshown.Unfit unfit stood) = ⊥
IsAbsent (unshown.Absent absent) = Unit {0}

-- The statuses of a show: 1 is none of them.
abbrev pub IsShowStatus : ℕ → Type 0
IsShowStatus n = (n ≡ 0) ⊎ (n ≡ 2) ⊎ (n ≡ 3) ⊎ (n ≡ 4) ⊎ (n ≡ 5)
