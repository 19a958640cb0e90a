-- Files that a call does not name.
use Rattle.std.proofs.Common.{◌≡◌, ◌⊎◌, inl, inr, arith, ℕ, List, ◌∙◌, ap, sym, subst, refl, IsSome, Option, Some}
use Rattle.bl_site.specs.Disk.{Name, File, Folder, Disk, folder_of}
use Rattle.bl_site.specs.Calls.{Puts, Creates, Syncs, Frays, DoneOrNot}
use Rattle.bl_names.specs.Names.{IsNumber}
use Rattle.bl_wal.specs.LogFile.{log_name}
use Rattle.bl_logstore.specs.Stored.{KeepsAllBut, KeepsOthers, MakesNoFile, HasNextLog, MayAppend}
use Rattle.bl_logstore.proofs.FolderLemmas.{same_name, there_reads}

pub all_same : (name : Name) (old new : Disk) → new ≡ old → KeepsAllBut name old new
all_same name old new same other ne = ap (λ (d : Disk). d other) same

pub others_same : (old new : Disk) → new ≡ old → KeepsOthers old new
others_same old new same name ne = ap (λ (d : Disk). d name) same

pub others_then : (old mid new : Disk) → KeepsOthers old mid → KeepsOthers mid new → KeepsOthers old new
others_then old mid new first second name ne = second name ne ∙ first name ne

-- a log alone has changed
pub log_alone : (number : ℕ) (old new : Disk) → IsNumber number → KeepsAllBut (log_name number) old new → KeepsOthers old new
log_alone number old new is keeps name ne = keeps name (ne number is)

pub sync_alone : (name : Name) (old new : Disk) → (new ≡ old) ⊎ (Syncs name old new ⊎ Frays name old new) → KeepsAllBut name old new
sync_alone name old new outcome = elim outcome [
  | inl same ↦ all_same name old new same
  | inr more ↦ elim more [ inl s ↦ s.puts.others | inr f ↦ f.puts.others ]
]

pub create_alone : (name : Name) (old new : Disk) → DoneOrNot (Creates name) old new → KeepsAllBut name old new
create_alone name old new outcome = elim outcome [ inl same ↦ all_same name old new same | inr made ↦ made.others ]

pub append_alone : (name : Name) (bytes : List ℕ) (old new : Disk) → MayAppend name bytes old new → KeepsAllBut name old new
append_alone name bytes old new outcome = elim outcome [ inl same ↦ all_same name old new same | inr some ↦ some.appends.puts.others ]

pub same_makes_no_file : (old new : Disk) → new ≡ old → MakesNoFile old new
same_makes_no_file old new same name some = let P : Disk → Type 0 = λ d. IsSome (d name) in subst P same some

pub then_makes_no_file : (old mid new : Disk) → MakesNoFile old mid → MakesNoFile mid new → MakesNoFile old new
then_makes_no_file old mid new first second name some = first name (second name some)

put_makes_no_file : (name : Name) (file was : File) (old new : Disk) → old name ≡ Some was → Puts name file old new → MakesNoFile old new
put_makes_no_file name file was old new there puts other some = elim (same_name other name) [
  | inl same ↦ let P : Option File → Type 0 = IsSome in subst P (sym (ap old same ∙ there)) refl
  | inr ne ↦ let P : Option File → Type 0 = IsSome in subst P (puts.others other ne) some
]

pub sync_makes_no_file : (name : Name) (old new : Disk) → (new ≡ old) ⊎ (Syncs name old new ⊎ Frays name old new) → MakesNoFile old new
sync_makes_no_file name old new outcome = elim outcome [
  | inl same ↦ same_makes_no_file old new same
  | inr more ↦ elim more [ inl s ↦ put_makes_no_file name _ s.file old new s.was s.puts | inr f ↦ put_makes_no_file name _ f.file old new f.was f.puts ]
]

-- so the next log of the folder is not there
pub no_next : {A : Type 0} (folder : Folder) (files : Name → Option A) → ((name : Name) → IsSome (files name) → IsSome (folder name)) → HasNextLog folder files → ⊥
no_next folder files were h = omega (arith, h.next.above h.number h.is_number (were (log_name h.number) h.there))

pub no_file_no_next : (old new : Disk) → MakesNoFile old new → HasNextLog (folder_of old) new → ⊥
no_file_no_next old new none = no_next (folder_of old) new (λ name some. there_reads (old name) (none name some))

pub same_no_next : (folder : Folder) (disk : Disk) → folder ≡ folder_of disk → HasNextLog folder disk → ⊥
same_no_next folder disk same = no_next folder disk (λ name some. let P : Folder → Type 0 = λ f. IsSome (f name) in subst P (sym same) (there_reads (disk name) some))
