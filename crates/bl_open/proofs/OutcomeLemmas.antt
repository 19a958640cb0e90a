-- What calls make of the disk, whatever they answer.
use Rattle.std.proofs.Common.{◌≡◌, ◌⊎◌, inl, inr, ⊎_elim, ℕ, ◌<◌, List, length, get_or, Option, None, Some, IsSome, refl, sym, ◌∙◌, ap, subst, Result, Ok, Err, OnOk, OnErr, IfErr, IsErrOf}
use Rattle.std.specs.Option.{option_map}
use Rattle.bl_site.specs.Disk.{Name, File, Folder, Disk, IsRemnant, folder_of, written_of}
use Rattle.bl_site.specs.Calls.{Creates, AppendsAny, Syncs, Frays, Renames, DoneOrNot}
use Rattle.bl_site.specs.declared.site.SiteErr.{SiteErr}
use Rattle.bl_site.specs.declared.site.SiteErr.TheVariants.{DiskFailed, TellFailed, OutOfMemory}
use Rattle.bl_names.specs.declared.name.FileName.{FileName}
use Rattle.bl_names.specs.declared.name.FileName.TheVariants.{Current, Log, Manifest}
use Rattle.bl_names.specs.Names.{HasNumber, IsNameOf, IsNumber, TextNamesOne, current_text, name_of}
use Rattle.bl_entry.specs.Revisions.{Map}
use Rattle.bl_records.specs.Causes.{IsCause}
use Rattle.bl_records.specs.Chance.{NoChanceMatch}
use Rattle.bl_records.specs.Writing.{MakesPartly, MakesSynced}
use Rattle.bl_wal.specs.LogFile.{log_name}
use Rattle.bl_wal.specs.declared.error.WalErr.{WalErr}
use Rattle.bl_wal.specs.declared.error.WalErr.TheVariants.{Disk as LogFailed, Corrupt, OutOfMemory as NoMemory}
use Rattle.bl_out.specs.Files.{file as file_in}
use Rattle.bl_folder.specs.Settled.{IsSettled, IsSynced}
use Rattle.bl_folder.specs.Laws.{FailedSyncsKeepSettled}
use Rattle.bl_entry.proofs.ItemLemmas.{some_is}
use Rattle.bl_open.specs.SteadyCalls.{IsPastBarrier, KeepsAllBut}
use Rattle.bl_open.specs.SteadyLaws.{SyncsKeepSettled}
use Rattle.bl_open.specs.Barrier.{AreTheLogs}
use Rattle.bl_open.specs.Found.{Found, MayBeMade, RestsAs}
use Rattle.bl_open.specs.OpeningLaws.{NewFilesStay}

-- ---- outcomes of calls

all_same : (name : Name) (old new : Disk) → new ≡ old → KeepsAllBut name old new
all_same name old new same other ne = ap (λ (d : Disk). d other) same

pub made_others : (name : Name) (old new : Disk) → DoneOrNot (Creates name) old new → KeepsAllBut name old new
made_others name old new (inl same) = all_same name old new same
made_others name old new (inr made) = made.others

pub appended_others : (name : Name) (bytes : List ℕ) (old new : Disk) → (new ≡ old) ⊎ AppendsAny name bytes old new → KeepsAllBut name old new
appended_others name bytes old new (inl same) = all_same name old new same
appended_others name bytes old new (inr a) = a.appends.puts.others

pub synced_others : (name : Name) (old new : Disk) → (new ≡ old) ⊎ (Syncs name old new ⊎ Frays name old new) → KeepsAllBut name old new
synced_others name old new (inl same) = all_same name old new same
synced_others name old new (inr (inl s)) = s.puts.others
synced_others name old new (inr (inr f)) = f.puts.others

pub renamed_either : (from to : Name) (old new : Disk) (result : Result (Unit {0}) SiteErr) → OnOk result (Renames from to old new) → (IsErrOf result DiskFailed → DoneOrNot (Renames from to) old new)
    → (IsErrOf result OutOfMemory → new ≡ old) → (IsErrOf result TellFailed → ⊥) → DoneOrNot (Renames from to) old new
renamed_either from to old new (Ok x) done failed memory tell = inr done
renamed_either from to old new (Err DiskFailed) done failed memory tell = failed refl
renamed_either from to old new (Err OutOfMemory) done failed memory tell = inl (memory refl)
renamed_either from to old new (Err TellFailed) done failed memory tell = absurd (tell refl)

pub log_outcome : {T : Type 0} (name : Name) (old new : Disk) (result : Result T WalErr) → OnOk result (Creates name old new) → (IsErrOf result LogFailed → DoneOrNot (Creates name) old new)
    → (IsErrOf result NoMemory → new ≡ old) → IfErr result (IsCause LogFailed NoMemory) → DoneOrNot (Creates name) old new
log_outcome name old new (Ok x) done failed memory causes = inr done
log_outcome name old new (Err LogFailed) done failed memory causes = failed refl
log_outcome name old new (Err NoMemory) done failed memory causes = inl (memory refl)
log_outcome name old new (Err (Corrupt file place)) done failed memory causes = absurd (⊎_elim (λ e. cc e) (λ e. cc e) causes)

pub manifest_others : {T E : Type 0} (name : Name) (bytes : List ℕ) (old new : Disk) (result : Result T E) → OnOk result (MakesSynced name bytes old new) → OnErr result (DoneOrNot (MakesPartly name bytes) old new)
    → KeepsAllBut name old new
manifest_others name bytes old new (Ok x) made left = made.others
manifest_others name bytes old new (Err e) made (inl same) = all_same name old new same
manifest_others name bytes old new (Err e) made (inr m) = m.puts.others

some_of : {A : Type 0} (o : Option A) (x : A) → o ≡ Some x → IsSome o
some_of o x e = subst IsSome (sym e) refl

pub sync_settled : SyncsKeepSettled → FailedSyncsKeepSettled → (f : FileName) (old new : Disk) → HasNumber f → ((other : Name) (x : File) → old other ≡ Some x → IsRemnant x x.read)
    → (new ≡ old) ⊎ (Syncs (name_of f) old new ⊎ Frays (name_of f) old new) → IsSettled old → NoChanceMatch (folder_of new) (written_of new) → IsSettled new
sync_settled syncs fails f old new has remnant (inl same) settled chance = subst IsSettled (sym same) settled
sync_settled syncs fails f old new has remnant (inr (inl s)) settled chance = syncs f old new has s settled
sync_settled syncs fails f old new has remnant (inr (inr s)) settled chance = fails old new (name_of f) remnant settled s chance

-- ---- files at rest

pub files_stay : NewFilesStay → (found : Found) (m : Map) (f : FileName) (name : Name) (old new : Disk) → IsNameOf name f → MayBeMade found old f → Creates name old new → RestsAs found m old → RestsAs found m new
files_stay law found m f name old new is may made r = law found m f old new is.0 may (subst (λ (n : Name). Creates n old new) is.1 made) r

pub files_stay_any : NewFilesStay → (found : Found) (m : Map) (f : FileName) (name : Name) (old new : Disk) → IsNameOf name f → MayBeMade found old f → DoneOrNot (Creates name) old new → RestsAs found m old → RestsAs found m new
files_stay_any law found m f name old new is may (inl same) r = subst (RestsAs found m) (sym same) r
files_stay_any law found m f name old new is may (inr made) r = files_stay law found m f name old new is may made r

-- ---- answers

pub on_ok_of : {T E : Type 0} (result : Result T E) (P Q : Type 0) → OnOk result P → (P → Q) → OnOk result Q
on_ok_of (Ok x) P Q p to = to p
on_ok_of (Err e) P Q p to = tt

-- ---- logs

reads_there : (o : Option File) → IsSome (option_map (λ (x : File). x.read) o) → IsSome o
reads_there None some = absurd (cc some)
reads_there (Some x) some = refl

there_reads : (o : Option File) → IsSome o → IsSome (option_map (λ (x : File). x.read) o)
there_reads None some = absurd (cc some)
there_reads (Some x) some = refl

-- what is there reads, and what reads is there
pub there_still : (name : Name) (old new : Disk) → folder_of new ≡ folder_of old → IsSome (old name) → IsSome (new name)
there_still name old new same some = reads_there (new name) (subst (λ (f : Folder). IsSome (f name)) (sym same) (there_reads (old name) some))

pub all_logs_synced : (numbers : List ℕ) (old new : Disk) → AreTheLogs numbers old → folder_of new ≡ folder_of old → ((k : ℕ) → k < length numbers → IsSynced new (Log (get_or numbers k 0)))
    → (n : ℕ) → IsNumber n → IsSynced new (Log n)
all_logs_synced numbers old new logs same synced n is x at =
    let there : IsSome (old (log_name n)) = there_still (log_name n) new old (sym same) (some_of (new (log_name n)) x at) in
    let p = logs.all n is there in
    subst (λ (k : ℕ). IsSynced new (Log k)) p.2 (synced p.0 p.1) x at

pub logs_still : (numbers : List ℕ) (old new : Disk) → folder_of new ≡ folder_of old → AreTheLogs numbers old → AreTheLogs numbers new
logs_still numbers old new same logs = record {
  each = λ k less. there_still (log_name (get_or numbers k 0)) old new same (logs.each k less);
  all = λ n is some. logs.all n is (there_still (log_name n) new old (sym same) some);
}

pub past_barrier : TextNamesOne → (manifest : ℕ) (old new : Disk) → IsNumber manifest → file_in (folder_of old) Current ≡ Some (current_text manifest) → folder_of new ≡ folder_of old → IsSynced new (Manifest manifest)
    → ((n : ℕ) → IsNumber n → IsSynced new (Log n)) → IsPastBarrier new
past_barrier one manifest old new is current same synced logs other live l =
    let text : Some (current_text other) ≡ Some (current_text manifest) = sym l.current ∙ ap (λ (f : Folder). file_in f Current) same ∙ current in
    let number : manifest ≡ other = one (current_text manifest) manifest other (is, refl) (l.number, sym (some_is text)) in
    (subst (λ (k : ℕ). IsSynced new (Manifest k)) number synced, λ n has le. logs n has)

pub on_ok_4 : {T E : Type 0} (result : Result T E) (A B C F Q : Type 0) → OnOk result A → OnOk result B → OnOk result C → OnOk result F → (A → B → C → F → Q) → OnOk result Q
on_ok_4 (Ok x) A B C F Q a b d f to = to a b d f
on_ok_4 (Err e) A B C F Q a b d f to = tt
