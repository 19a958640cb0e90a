-- A listing: the tables by level and then by number, and the blob files by number.
use Rattle.std.specs.Prelude.{ℕ, ◌+◌, ◌*◌, ◌^◌, ◌<◌, ◌==◌, nat_lt, List, [], ◌∷◌, filter, if◌then◌else◌}
use Rattle.std.specs.List.{AllByRecursion}
use Rattle.bl_edit.specs.declared.edit.NewTable.{NewTable}
use Rattle.bl_build.specs.declared.meta.BlobMeta.{BlobMeta}

pub record Listing : Type 0 where
  pub tables : List NewTable
  pub blobs : List BlobMeta

abbrev pub nothing : Listing
nothing = record { tables = []; blobs = [] }

-- level and number in one: numbers are below 2^64
abbrev pub rank : ℕ → ℕ → ℕ
rank level number = level * 2 ^ 64 + number

abbrev pub table_rank : NewTable → ℕ
table_rank t = rank t.level t.number

abbrev pub blob_number : BlobMeta → ℕ
blob_number b = b.number

-- an item in its place by a key, in front of those that are not below it
abbrev pub placed : {A : Type 0} → (A → ℕ) → A → List A → List A
placed key x [] = x ∷ []
placed key x (y ∷ ys) = if nat_lt (key y) (key x) then y ∷ placed key x ys else x ∷ y ∷ ys

-- several, one after the other
abbrev pub all_placed : {A : Type 0} → (A → ℕ) → List A → List A → List A
all_placed key [] ys = ys
all_placed key (x ∷ xs) ys = all_placed key xs (placed key x ys)

-- the tables of a level
abbrev pub at_level : ℕ → List NewTable → List NewTable
at_level level tables = filter (λ t. t.level == level) tables

-- each key is below those behind it
abbrev pub Ascends : {A : Type 0} → (A → ℕ) → List A → Type 0
Ascends key [] = Unit {0}
Ascends key (x ∷ xs) = AllByRecursion (λ y. key x < key y) xs × Ascends key xs
