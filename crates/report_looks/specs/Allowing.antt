-- Which accesses may race, by what is asked for.
use Rattle.std.specs.Prelude.{◌≡◌, List, Contains}
use Rattle.std.specs.List.{AllZip}
use Rattle.allowed_races.specs.declared.allowed.Allowed.{Allowed}
use Rattle.selection.specs.declared.choice.NumberSpan.{NumberSpan}
use Rattle.report_jobs.specs.declared.undone.Absent.{Absent}
use Rattle.report_jobs.specs.declared.undone.Absent.TheVariants as absents
use Rattle.report_command.specs.declared.allowance.Allowance.{Allowance}
use Rattle.report_command.specs.declared.places.Data.{Data}
use Rattle.report_command.specs.declared.places.Data.TheVariants.{At, Named}
use Rattle.show_named.specs.declared.data_map.DataMap.{DataMap}
use Rattle.report_looks.specs.Addresses.{AreAddresses}
use Rattle.report_looks.specs.declared.allowing.AllowedBytes.{AllowedBytes}
use Rattle.report_looks.specs.declared.wanted.Unshown.{Unshown}
use Rattle.report_looks.specs.declared.wanted.Unshown.TheVariants as unshown

-- Data are at these addresses, by what bytes of a module say of it.
abbrev pub IsSpanOf : Data → NumberSpan → Type 0
IsSpanOf d span = (map : DataMap) × AreAddresses map d span

-- Accesses to these bytes may race, and atomic ones of different widths where that is asked for.
pub record IsAllowedBy (allow : Allowance) (allowed : Allowed) : Type 0 where
  pub spans : AllZip IsSpanOf allow.bytes.items allowed.spans.now
  pub mixed : allowed.mixed ≡ allow.mixed

pub record AreBytesOf (allow : Allowance) (bytes : AllowedBytes) : Type 0 where
  pub spans : AllZip IsSpanOf allow.bytes.items bytes.spans.items
  pub mixed : bytes.mixed ≡ allow.mixed

-- Data are told by name.
abbrev pub IsNamed : Data → Type 0
IsNamed (At addrs) = ⊥
IsNamed (Named words) = Unit {0}

-- What is said of such data that isn't there, or is at several addresses, has its name.
abbrev pub IsNameOf : Data → Absent → Type 0
IsNameOf (Named words) (absents.NoData name) = name ≡ words
IsNameOf (Named words) (absents.SeveralData name) = name ≡ words
IsNameOf (Named words) absents.NoTrap = ⊥
IsNameOf (At addrs) absent = ⊥

abbrev pub IsSaidOf : Data → Unshown → Type 0
IsSaidOf d (unshown.Absent absent) = IsNameOf d absent
IsSaidOf d (unshown.Unfit unfit stood) = Unit {0}

-- Some of these are.
abbrev pub SomeNamed : List Data → Type 0
SomeNamed all = (d : Data) × Contains all d × IsNamed d
