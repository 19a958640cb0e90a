-- What a flush has written is read.
use Rattle.std.proofs.Common.{◌≡◌, ℕ, ◌≤◌, ◌^◌, true, List, [], ◌∷◌, length, sym, subst, arith}
use Rattle.std.specs.Prelude.{◌&&◌, IfOk, OnOk, Result, Ok, Err}
use Rattle.std.specs.List.{AllByRecursion}
use Rattle.bl_site.specs.Disk.{Disk}
use Rattle.bl_entry.specs.declared.key.Entry.{Entry}
use Rattle.bl_entry.specs.Entries.{IsAscending, IsProper}
use Rattle.bl_entry.specs.Kept.{is_newest}
use Rattle.bl_edit.specs.Bounds.{FitsWords, IsEdit}
use Rattle.bl_edit.specs.Options.{AreInRange, Values}
use Rattle.bl_edit.specs.declared.edit.Edit.{Edit}
use Rattle.bl_out.specs.Flushes.{stored}
use Rattle.bl_out.specs.Held.{HoldsOut}
use Rattle.bl_out.specs.Outputs.{IsEditOf}
use Rattle.bl_out.specs.Reads.{AreBehind, OutputsAreRead, OutputsFit}
use Rattle.bl_out.specs.Tables.{table_entries}
use Rattle.bl_out.specs.Written.{IsPlainKind, Writes}
use Rattle.bl_flush.specs.Flushing.{Flushes}
use Rattle.bl_flush.specs.Jobs.{ArePutsAndDeletions, added_of, flushed, next_of}
use Rattle.bl_flush.specs.Laws.{FlushesMakeKept, MakesKept}
use Rattle.bl_flush.proofs.KeptBehind.{kept_are_behind}
use Rattle.bl_flush.proofs.Making.{all_filter}

all_to : {A : Type 0} (P Q : A → Type 0) (xs : List A) → ((x : A) → P x → Q x) → AllByRecursion P xs → AllByRecursion Q xs
all_to P Q [] to h = tt
all_to P Q (x ∷ xs) to h = (to x h.0, all_to P Q xs to h.1)

-- of a result what holds of it in three ways
pub ok_with : {T E : Type 0} (r : Result T E) (P F Q : T → Type 0) (H : Type 0) → IfOk r P → OnOk r H → IfOk r F → ((x : T) → P x → H → F x → Q x) → IfOk r Q
ok_with (Ok x) P F Q H p h f to = to x p h f
ok_with (Err e) P F Q H p h f to = tt

pub ok_both : {T E : Type 0} (r : Result T E) (P F Q : T → Type 0) → IfOk r P → IfOk r F → ((x : T) → P x → F x → Q x) → IfOk r Q
ok_both (Ok x) P F Q p f to = to x p f
ok_both (Err e) P F Q p f to = tt

module _ (makes : FlushesMakeKept) (options : Values) (snapshots : List ℕ) (from : ℕ) (memory : List Entry) (range : AreInRange options) (written : ArePutsAndDeletions memory) where
  abbrev m : MakesKept options snapshots from memory
  m = makes options snapshots from memory range written

  proper : AllByRecursion IsProper (added_of options snapshots from memory).given
  proper = subst (AllByRecursion IsProper) (sym m.given) (all_filter IsProper (λ e. is_newest snapshots memory e && true) memory (all_to (λ e. IsProper e × IsPlainKind e.key.kind) IsProper memory (λ e h. h.0) written))

  pub edit_fits : OutputsFit → (e : Edit) → 1 ≤ from → next_of options snapshots from memory ≤ 10 ^ 15 → IsEditOf (flushed options snapshots from memory) e → IsEdit e
  edit_fits law e first last edit = law from (next_of options snapshots from memory) (added_of options snapshots from memory) e m.made first last proper edit

  pub flushes : OutputsAreRead → (disk : Disk) (e : Edit) → 1 ≤ from → next_of options snapshots from memory ≤ 10 ^ 15 → IsAscending memory → HoldsOut disk (flushed options snapshots from memory) → IsEditOf (flushed options snapshots from memory) e → FitsWords e
      → Flushes options from (next_of options snapshots from memory) snapshots memory disk e
  flushes law disk e first last up held edit words =
      let r = law disk from (next_of options snapshots from memory) (added_of options snapshots from memory) e m.made first last proper (subst AreBehind (sym m.given) (kept_are_behind snapshots memory up)) held edit words in
      let one : length (added_of options snapshots from memory).tables ≤ 1 = m.made.one m.one in
      let count : length r.0.tables ≡ length (added_of options snapshots from memory).tables = r.2 in
      record {
        files = r.0;
        edit = r.1.edit;
        flush = record {
          one = omega (arith, one, count);
          tables = r.1.tables;
          blobs = r.1.blobs;
          ascend = r.1.ascend;
          writes = subst (λ (es : List Entry). Writes options.min_blob_size (stored r.0.blobs) es (table_entries r.0.tables)) m.given
              (subst (λ (v : Values). Writes v.min_blob_size (stored r.0.blobs) (added_of options snapshots from memory).given (table_entries r.0.tables)) m.options_are r.1.writes);
        };
        has = r.1.has;
        tables = r.1.table_files;
        blobs = r.1.blob_files;
      }
