-- What an opening leaves of the files that it found.
use Rattle.std.proofs.Common.{◌≡◌, ℕ, ◌+◌, ◌<◌, ◌≤◌, [], ◌∷◌, sym, ◌∙◌, ap, subst, arith, Result, Ok, Err}
use Rattle.std.specs.Prelude.{◌^◌, OnOk}
use Rattle.std.specs.Option.{option_map}
use Rattle.bl_site.specs.Disk.{Disk, File, Folder, Name, folder_of}
use Rattle.bl_build.specs.Listing.{Listing}
use Rattle.bl_names.specs.declared.name.FileName.TheVariants.{Current, Log, Manifest, Table, Blob, Temp}
use Rattle.bl_names.specs.Names.{manifest_name, name_of}
use Rattle.bl_wal.specs.LogFile.{log_name}
use Rattle.bl_out.specs.Quiet.{IsNoneOf}
use Rattle.bl_folder.specs.Numbers.{IsFirstNumber}
use Rattle.bl_open.specs.Flushing.{KeepsOthers}
use Rattle.bl_open.specs.Keeping.{IsBefore, IsOld, KeepsAllButLogs, KeepsBefore, KeepsFound}
use Rattle.bl_open.specs.declared.error.OpenErr.{OpenErr}

on_ok : {T : Type 0} (r : Result T OpenErr) (P : Type 0) → P → OnOk r P
on_ok (Ok x) P p = p
on_ok (Err e) P p = tt

-- ---- from a number on

pub flush_keeps : (first from : ℕ) (old mid : Disk) → first ≤ from → KeepsOthers from old mid → KeepsBefore first old mid
flush_keeps first from old mid le keeps name is =
    keeps name (record {
      table = λ n has above same. is.no_number (Table n) has (omega (arith, le, above)) (sym same);
      blob = λ n has above same. is.no_number (Blob n) has (omega (arith, le, above)) (sym same);
    })

pub store_keeps : (first manifest log : ℕ) (mid new : Disk) → 1 ≤ first → manifest ≡ first → log ≡ first + 1 → log < 10 ^ 15
    → ((name : Name) → IsNoneOf (log_name log ∷ manifest_name manifest ∷ name_of (Temp manifest) ∷ name_of Current ∷ []) name → new name ≡ mid name) → KeepsBefore first mid new
store_keeps first manifest log mid new some at_manifest at_log less keeps name is =
    keeps name (
      (λ same. is.no_number (Log log) (omega (arith, some, at_log), less) (omega (arith, at_log)) (sym same)),
      (
        (λ same. is.no_number (Manifest manifest) (omega (arith, some, at_manifest), omega (arith, at_manifest, at_log, less)) (omega (arith, at_manifest)) (sym same)),
        (
          (λ same. is.no_number (Temp manifest) (omega (arith, some, at_manifest), omega (arith, at_manifest, at_log, less)) (omega (arith, at_manifest)) (sym same)),
          ((λ same. is.no_current (sym same)), tt),
        ),
      ),
    )

pub then_keeps : (first : ℕ) (old mid new : Disk) → KeepsBefore first old mid → KeepsBefore first mid new → KeepsBefore first old new
then_keeps first old mid new one two name is = two name is ∙ one name is

-- what is old has no number that is drawn
old_is_before : (folder : Folder) (version : Listing) (next first : ℕ) (name : Name) → IsFirstNumber folder version next first → IsOld folder name → IsBefore first name
old_is_before folder version next first name is old = record {
  no_current = old.no_current;
  no_number = λ f has le. old.no_new f has (λ g has_g some. let less = is.above.names g has_g some in omega (arith, le, less));
}

-- ---- from call to call

module _ {T : Type 0} (r : Result T OpenErr) (old : Disk) where
  pub same_kept : (new : Disk) → new ≡ old → KeepsFound r old new
  same_kept new same = record { files = λ name is no. ap (λ (d : Disk). d name) same; reads = on_ok r _ (λ name is. ap (λ (d : Disk). folder_of d name) same) }

  pub synced_kept : (new : Disk) → KeepsAllButLogs old new → folder_of new ≡ folder_of old → KeepsFound r old new
  synced_kept new keeps same = record { files = λ name is no. keeps name no; reads = on_ok r _ (λ name is. ap (λ (f : Folder). f name) same) }

  pub failed_kept : (new : Disk) (e : OpenErr) → r ≡ Err e → KeepsAllButLogs old new → KeepsFound r old new
  failed_kept new e failed keeps = record { files = λ name is no. keeps name no; reads = subst (λ x. OnOk x ((name : Name) → IsOld (folder_of old) name → folder_of new name ≡ folder_of old name)) (sym failed) tt }

  pub begun_kept : (mid new : Disk) (version : Listing) (next first : ℕ) → KeepsAllButLogs old mid → folder_of mid ≡ folder_of old → IsFirstNumber (folder_of old) version next first → KeepsBefore first mid new → KeepsFound r old new
  begun_kept mid new version next first synced same is keeps = record {
    files = λ name o no. keeps name (old_is_before (folder_of old) version next first name is o) ∙ synced name no;
    reads = on_ok r _ (λ name o. ap (option_map (λ (x : File). x.read)) (keeps name (old_is_before (folder_of old) version next first name is o)) ∙ ap (λ (f : Folder). f name) same);
  }

pub kept_before : {T : Type 0} (r : Result T OpenErr) (old mid new : Disk) → mid ≡ old → KeepsFound r mid new → KeepsFound r old new
kept_before r old mid new same kept = subst (λ (d : Disk). KeepsFound r d new) same kept
