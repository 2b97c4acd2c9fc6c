-- What is left of a job's streams, once what they held back was handed on.
use Rattle.std.specs.Prelude.{ℕ, ◌≡◌, ◌≤◌, List, Option, None}
use Rattle.std.specs.Io.Buffered.{writer_contents, writer_inner}
use Rattle.std.specs.Io.KnownBytes.{Keeps}
use Rattle.std.specs.declared.io.buffered.BufWriter.{BufWriter}

-- The stream behind a buffer has all that was written.
abbrev pub HasAll : {W A : Type 0} → (W → Option (List ℕ)) → BufWriter W A → W → Type 0
HasAll contents buffer stream = Keeps (writer_contents contents buffer) (contents stream)

-- It has what it had.
abbrev pub HasNoMore : {W A : Type 0} → BufWriter W A → W → Type 0
HasNoMore buffer stream = stream ≡ writer_inner buffer
