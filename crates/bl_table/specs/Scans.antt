-- What going over the entries of a block comes to.
use Rattle.std.specs.Prelude.{◌≡◌, ℕ, ◌≤◌, List, drop, Some}
use Rattle.bl_table.specs.declared.check.Scanned.{Scanned}
use Rattle.bl_table.specs.declared.check.Scanned.TheVariants as scanned
use Rattle.bl_table.specs.Blocks.{number_at, contents, numbers_in}
use Rattle.bl_table.specs.Steps.{left_fault}

abbrev pub Scans : Scanned → ℕ → List ℕ → ℕ → ℕ → Type 0
Scans (scanned.Fault f) offset bytes limit count = (contents offset bytes limit count).fault ≡ Some (f.rule, f.place)
Scans (scanned.Passed n) offset bytes limit count =
    (n ≤ count) × ((contents offset bytes limit count).fault ≡ left_fault offset limit count (number_at bytes limit) (drop n (numbers_in count (drop limit bytes))))
