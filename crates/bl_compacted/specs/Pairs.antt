-- Relations between any two of a list.
use Rattle.std.specs.Prelude.{◌≢◌, ◌⊎◌, List, [], ◌∷◌}
use Rattle.std.specs.List.{AllByRecursion}
use Rattle.bl_entry.specs.Revisions.{Revision}
use Rattle.bl_out.specs.References.{Reference}

-- each one is so related to those behind it
abbrev pub Pairwise : {A : Type 0} → (A → A → Type 0) → List A → Type 0
Pairwise R [] = Unit {0}
Pairwise R (x ∷ xs) = AllByRecursion (R x) xs × Pairwise R xs

-- two references are to different records
abbrev pub AreApart : Reference → Reference → Type 0
AreApart a b = (a.index.file ≢ b.index.file) ⊎ (a.index.offset ≢ b.index.offset)

-- two entries are of different user keys or sequences
abbrev pub AreDistinct : Revision → Revision → Type 0
AreDistinct a b = (a.key ≢ b.key) ⊎ (a.seq ≢ b.seq)
