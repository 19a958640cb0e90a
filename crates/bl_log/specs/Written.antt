-- A log of which a power cut has left some of what was written.
use Rattle.std.specs.Prelude.{◌≡◌, ℕ, List, length, take, drop, All}
use Rattle.bl_log.specs.Log.{fragments}

-- the fragment stands at its place in these bytes, byte for byte
abbrev pub StandsIn : List ℕ → ℕ × List ℕ → Type 0
StandsIn bytes fragment = take (length fragment.1) (drop fragment.0 bytes) ≡ fragment.1

-- each fragment that reading these bytes accepts stands at the same place in what was written
abbrev pub OnlyWritten : List ℕ → List ℕ → Type 0
OnlyWritten bytes written = All (StandsIn written) (fragments bytes)
