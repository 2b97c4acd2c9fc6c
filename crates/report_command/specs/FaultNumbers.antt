-- The numbers of the faults of a command line.
use Rattle.std.specs.Prelude.{ℕ, ◌≡◌, ◌⊎◌}
use Rattle.report_command.specs.declared.command_line.Usage.{Usage}
use Rattle.report_command.specs.declared.command_line.Usage.TheVariants as faults

abbrev pub usage_number : Usage → ℕ
usage_number (faults.Wrong e) = 1
usage_number (faults.Help e) = 2
usage_number faults.NoMemory = 3

-- The words are wrong, or the system had too little memory left to say so.
abbrev pub IsWrong : Usage → Type 0
IsWrong u = (usage_number u ≡ 1) ⊎ (usage_number u ≡ 3)
