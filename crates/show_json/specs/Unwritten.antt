-- What is left of a writer to which an object couldn't be written.
use Rattle.std.specs.Prelude.{◌≡◌}
use Rattle.show_text.specs.declared.sheet.Unwritten.{Unwritten}
use Rattle.show_text.specs.declared.sheet.Unwritten.TheVariants.{NoMemory, Output}

-- Where memory was refused it is as it was; where the writer failed, that isn't said.
abbrev pub LeavesAs : {W : Type 0} → W → W → Unwritten → Type 0
LeavesAs old new NoMemory = new ≡ old
LeavesAs old new Output = Unit {0}
