-- What an opening found.
use Rattle.std.proofs.Common.{◌≡◌, ◌↔◌, ℕ, ◌+◌, ◌-◌, ◌^◌, ◌<◌, List, length, map, IsSome, Contains, sym, ap, subst, arith, ◌⊎◌, inl, inr}
use Rattle.std.proofs.lemmas.Bool.{cases_lt}
use Rattle.std.specs.Prelude.{max}
use Rattle.std.proofs.lemmas.List.{length-map}
use Rattle.bl_site.specs.Disk.{Name, File, Folder, Disk, folder_of}
use Rattle.bl_entry.specs.Revisions.{Map}
use Rattle.bl_wal.specs.LogFile.{log_name}
use Rattle.bl_wal.specs.Held.{Batches}
use Rattle.bl_logstore.specs.Logs.{bytes_in}
use Rattle.bl_logstore.specs.Folders.{HasOnlyLogs, Stands}
use Rattle.bl_logstore.specs.Listing.{IsWithin}
use Rattle.bl_logstore.specs.Replaying.{HasAll}
use Rattle.bl_logstore.proofs.FolderLemmas.{there_reads, was_some}

-- the names listed are those that are there
pub listed : {X : Type 0} (f : X → Name) (disk : Disk) (items names : List X) → names ≡ items → ((name : Name) → Contains (map f items) name ↔ IsSome (disk name))
    → (name : Name) → IsWithin (length names) (map f names) name ↔ IsSome (folder_of disk name)
listed {X = X} f disk items names same value =
    let P : List X → Type 0 = λ ns. (name : Name) → IsWithin (length ns) (map f ns) name ↔ IsSome (folder_of disk name) in
    subst P (sym same) (λ name. (
      λ w. there_reads (disk name) ((value name).0 (w.0, omega (arith, w.1, length-map items f), w.2)),
      λ some. let c = (value name).1 (was_some (λ (file : File). file.read) (disk name) some) in (c.0, omega (arith, c.1, length-map items f), c.2),
    ))

-- no number is left
pub none_left : (folder : Folder) (now : Map) (last greatest number : ℕ) → HasOnlyLogs folder → HasAll folder now last greatest → greatest < 10 ^ 15 → number ≡ 10 ^ 15
    → (number ≡ 2) ⊎ (number ≡ greatest + 1) → IsSome (folder (log_name (10 ^ 15 - 1))) × ((batches : Batches) × ((l : ℕ) × Stands folder batches l))
none_left folder now last greatest number only all great is next = (
  elim next [
    | inl two ↦ absurd (omega (arith, two, is))
    | inr more ↦ elim all.there [
      | inl zero ↦ absurd (omega (arith, more, is, zero))
      | inr there ↦
          let same : greatest ≡ 10 ^ 15 - 1 = omega (arith, more, is) in
          let P : ℕ → Type 0 = λ n. IsSome (folder (log_name n)) in subst P same there.1
    ]
  ],
  (
    all.batches,
    (
      last,
      record {
        only = only;
        have = record { top = greatest; is_number = great; no_more = λ k lt less. ap bytes_in (all.above k lt less); are = all.are };
      },
    ),
  ),
)

-- the next number
pub next_is : (greatest number : ℕ) → number ≡ max (greatest + 1) 2 → (number ≡ 2) ⊎ (number ≡ greatest + 1)
next_is greatest number e = elim (cases_lt greatest 1) [
  | inl lt ↦ inl (omega (arith, e, lt))
  | inr le ↦ inr (omega (arith, e, le))
]
