-- A compaction that is done on a steady disk may be installed.
use Rattle.std.proofs.Common.{◌≡◌, ◌≢◌, ℕ, ◌+◌, ◌<◌, ◌≤◌, List, [], ◌∷◌, refl, sym, ◌∙◌, subst, arith, Some, inl, inr}
use Rattle.std.specs.Prelude.{◌⊎◌, map, unwrap_or, Ok}
use Rattle.std.specs.List.{AllByRecursion}
use Rattle.bl_site.specs.Disk.{Disk, written_of}
use Rattle.bl_names.specs.declared.name.FileName.TheVariants.{Table, Blob}
use Rattle.bl_edit.specs.declared.edit.Edit.{Edit}
use Rattle.bl_edit.specs.declared.edit.NewTable.{NewTable}
use Rattle.bl_build.specs.declared.meta.BlobMeta.{BlobMeta}
use Rattle.bl_build.specs.declared.meta.Standing.{Standing}
use Rattle.bl_build.specs.declared.plan.CompactionPlan.{CompactionPlan as Plan}
use Rattle.bl_build.specs.Versions.{apply}
use Rattle.bl_out.specs.Files.{file}
use Rattle.bl_out.specs.Tables.{TableFile, table_entries, table_in}
use Rattle.bl_out.specs.Values.{revision_of}
use Rattle.bl_folder.specs.Entries.{records_by}
use Rattle.bl_folder.specs.Flushes.{IsBelow}
use Rattle.bl_folder.specs.Holding.{BlobFile, Holding, blob_in}
use Rattle.bl_folder.specs.Fronts.{cut_to}
use Rattle.bl_folder.specs.Settled.{IsSynced}
use Rattle.bl_folder.specs.Stands.{IsSound}
use Rattle.bl_compacted.specs.Plans.{IsClosed, inputs_of}
use Rattle.bl_compacted.specs.Compacting.{Compacts, IsHeld}
use Rattle.bl_compacted.specs.Laws.{AreTablesOf, CompactionsInstall, CompactionsKeep, DuePlansAreClosed, FullPlansAreClosed, HeldByFolders, RewritesCompact}
use Rattle.bl_compacted.proofs.AccountLemmas.{all_either, file_from}
use Rattle.bl_compacted.proofs.FolderLemmas.{after_there, blobs_hold, compacts_cut, held_cut, left_spelled, left_there, tables_hold}
use Rattle.bl_compacted.proofs.Jobs.{Job, after, all_number, files, left}
use Rattle.bl_compacted.proofs.LeftLemmas.{after_all, left_all}
use Rattle.bl_compacted.proofs.Lists.{In, all_in, in_all, same}
use Rattle.bl_open.specs.Installations.{TablesMake}
use Rattle.bl_open.specs.Steady.{HasFiles, Maps, Steady, IsSteady}
use Rattle.bl_open.specs.SteadyLaws.{EditsRestore, RewritesInstall, SteadyHoldWritten}
use Rattle.bl_store.specs.Compacted.{AreBetween, AreOut, MayBegin, compacted_by, with_next}
use Rattle.bl_store.specs.CompactionLaws.{CompactedStayBelow, DoneCompactionsInstall, DueMayInstall, JobsAreCompactions, NumbersAreFresh, SnapshotsSeeTheSame, SteadyAreHeld}

-- ---- lists

unmapped : {A B : Type 0} (P : B → Type 0) (g : A → B) (xs : List A) → AllByRecursion P (map g xs) → AllByRecursion (λ x. P (g x)) xs
unmapped P g [] h = tt
unmapped P g (x ∷ xs) h = (h.0, unmapped P g xs h.1)

mapped : {A B : Type 0} (P : B → Type 0) (g : A → B) (xs : List A) → AllByRecursion (λ x. P (g x)) xs → AllByRecursion P (map g xs)
mapped P g [] h = tt
mapped P g (x ∷ xs) h = (h.0, mapped P g xs h.1)

all_to : {A : Type 0} (P Q : A → Type 0) (xs : List A) → ((x : A) → P x → Q x) → AllByRecursion P xs → AllByRecursion Q xs
all_to P Q [] f h = tt
all_to P Q (x ∷ xs) f h = (f x h.0, all_to P Q xs f h.1)

-- ---- what is held

pub held_of : SteadyHoldWritten → HeldByFolders → SteadyAreHeld
held_of written held maps s disk t = held (written_of disk) s.manifest.number s.holding (written maps s disk t) (t.backed.makes 0 (omega arith)).1.tables

pub due_may_install : SteadyAreHeld → DuePlansAreClosed → FullPlansAreClosed → DueMayInstall
due_may_install held_law due_law full_law maps s disk plan tables made t begun fresh = record {
  closed = by begun;
  inputs_are = same (inputs_of plan s.holding.tables);
  reads = all_in (λ x. revision_of (records_by s.holding.blobs) x ≡ revision_of (records_by s.holding.blobs) x) (table_entries (inputs_of plan s.holding.tables)) (λ x i. refl);
  tables_fresh = fresh.tables;
  blobs_fresh = fresh.blobs;
}
  where
    of : AreTablesOf s.holding.live.version s.holding.tables
    of =
        let held : IsHeld s.holding = held_law maps s disk t in
        let none = t.backed.makes 0 (omega arith) in
        record { metas = held.tables; version = held.version; named = none.1.tables; ranged = held.ranged }

    by : MayBegin s.holding.live.version plan → IsClosed plan s.holding.tables
    by (inl d) = due_law s.holding.live.version s.holding.tables d.0 d.1 d.2 plan of d.3
    by (inr f) = (full_law s.holding.live.version s.holding.tables f.0 plan of f.1).0

pub jobs_are_compactions : SteadyAreHeld → RewritesCompact → JobsAreCompactions
jobs_are_compactions held_law law maps s disk plan inputs blobs tables made e t rewrites may = law plan s.holding inputs blobs tables made e (held_law maps s disk t) rewrites may

pub numbers_are_fresh : SteadyAreHeld → NumbersAreFresh
numbers_are_fresh held_law maps s disk from next tables made t below are =
    let h : Holding = s.holding in
    let held : IsHeld h = held_law maps s disk t in
    let old_tables : AllByRecursion (λ (x : TableFile). x.meta.number < from) h.tables = unmapped (λ (m : NewTable). m.number < from) (λ x. x.meta) h.tables (subst (AllByRecursion (λ (m : NewTable). m.number < from)) (sym held.tables) below.tables) in
    let old_blobs : AllByRecursion (λ (x : BlobFile). x.meta.number < from) h.blobs = unmapped (λ (m : BlobMeta). m.number < from) (λ x. x.meta) h.blobs (subst (AllByRecursion (λ (m : BlobMeta). m.number < from)) (sym held.blobs) below.blobs) in
    record {
      tables = all_to (λ (x : TableFile). (from ≤ x.meta.number) × (x.meta.number < next)) (λ x. AllByRecursion (λ u. u.meta.number ≢ x.meta.number) h.tables) tables
          (λ x b. all_to (λ (u : TableFile). u.meta.number < from) (λ u. u.meta.number ≢ x.meta.number) h.tables (λ u less. apart u.meta.number x.meta.number less b.0) old_tables) are.tables;
      blobs = all_to (λ (x : BlobFile). (from ≤ x.meta.number) × (x.meta.number < next)) (λ x. AllByRecursion (λ u. u.meta.number ≢ x.meta.number) h.blobs) made
          (λ x b. all_to (λ (u : BlobFile). u.meta.number < from) (λ u. u.meta.number ≢ x.meta.number) h.blobs (λ u less. apart u.meta.number x.meta.number less b.0) old_blobs) are.blobs;
    }
  where
    apart : (a b : ℕ) → a < from → from ≤ b → a ≢ b
    apart a b less le e = absurd (omega (arith, less, le, e))

-- ---- what is made

-- the next file number does not matter to a compaction
abbrev compacts_next : (next : ℕ) (plan : Plan) (h : Holding) (tables : List TableFile) (made : List BlobFile) (e : Edit) → Compacts plan h tables made e → Compacts plan h tables made (with_next next e)
compacts_next next plan h tables made e c = record {
  closed = c.closed;
  ins = c.ins;
  merged = c.merged;
  ascend = c.ascend;
  handed = c.handed;
  outputs = c.outputs;
  named = c.named;
  blobs = c.blobs;
  edit = record {
    deletes = c.edit.deletes;
    known = c.edit.known;
    adds = c.edit.adds;
    additions = c.edit.additions;
    files = c.edit.files;
    ascend = c.edit.ascend;
    named = c.edit.named;
    garbage = c.edit.garbage;
  };
}

module _ (held_law : SteadyAreHeld) (maps : Maps) (s : Steady) (disk : Disk) (t : IsSteady maps s disk) (plan : Plan) (tables : List TableFile) (made : List BlobFile) (e : Edit) (next : ℕ) (c : Compacts plan s.holding tables made e) where
  held_none : IsHeld (cut_to 0 s.holding)
  held_none = held_cut 0 s.holding (held_law maps s disk t)

  compacts_none : Compacts plan (cut_to 0 s.holding) tables made (with_next next e)
  compacts_none = compacts_cut 0 plan s.holding tables made (with_next next e) (compacts_next next plan s.holding tables made e c)

  makes_of : CompactionsKeep → TablesMake maps s.before (compacted_by e next tables made s.holding)
  makes_of keep =
      let none = t.backed.makes 0 (omega arith) in
      let k = keep plan (cut_to 0 s.holding) none.0 (maps (s.before + 0)) tables made (with_next next e) none.1 held_none compacts_none in
      let here : s.before + 0 ≡ s.before = omega arith in
      (k.now, subst (λ (n : ℕ). IsSound (cut_to 0 (compacted_by e next tables made s.holding)) k.now (maps n)) here k.sound)

  abbrev job : Job
  job =
      let none = t.backed.makes 0 (omega arith) in
      record { plan = plan; h = cut_to 0 s.holding; found = none.0; m = maps (s.before + 0); new = tables; made = made; e = with_next next e; sound = none.1; held = held_none; c = compacts_none }

  -- what holds of the numbers of all files that were there or were made holds of those that are left
  left_numbers : (P : ℕ → Type 0) → AllByRecursion (λ (x : BlobFile). P x.meta.number) made → AllByRecursion (λ (x : BlobFile). P x.meta.number) s.holding.blobs → AllByRecursion (λ (x : BlobFile). P x.meta.number) (left job)
  left_numbers P new old =
      left_all job (λ x. P x.meta.number) (all_in (λ x. P x.meta.number) (files job) (λ x i.
      let f = file_from job x i in
      subst (λ (y : BlobFile). P y.meta.number) f.2 (subst P (sym (all_number (with_next next e).garbage f.0.meta)) (by f.0 (all_either job f.0 f.1)))))
    where
      by : (x : BlobFile) → In x made ⊎ In x s.holding.blobs → P x.meta.number
      by x (inl at) = in_all (λ (y : BlobFile). P y.meta.number) x made new at
      by x (inr at) = in_all (λ (y : BlobFile). P y.meta.number) x s.holding.blobs old at

  files_of : AreOut tables made disk → HasFiles (compacted_by e next tables made s.holding) disk
  files_of out =
      let W = written_of disk in
      let h : Holding = s.holding in
      let held : IsHeld h = held_law maps s disk t in
      let b = t.backed.files in
      let old_tables : AllByRecursion (λ (x : TableFile). table_in W x.meta ≡ Some x) h.tables = tables_hold W W h b.tables (all_in (λ x. file W (Table x.meta.number) ≡ file W (Table x.meta.number)) h.tables (λ x i. refl)) in
      let old_blobs : AllByRecursion (λ (x : BlobFile). blob_in W x.meta ≡ Some x) h.blobs = blobs_hold W W h b.blobs (all_in (λ x. file W (Blob x.meta.number) ≡ file W (Blob x.meta.number)) h.blobs (λ x i. refl)) in
      let synced_tables : AllByRecursion (λ (x : TableFile). IsSynced disk (Table x.meta.number)) h.tables =
      unmapped (λ (m : NewTable). IsSynced disk (Table m.number)) (λ x. x.meta) h.tables (subst (AllByRecursion (λ (m : NewTable). IsSynced disk (Table m.number))) (sym held.tables) b.named.tables) in
      let synced_blobs : AllByRecursion (λ (x : BlobFile). IsSynced disk (Blob x.meta.number)) h.blobs =
      unmapped (λ (m : BlobMeta). IsSynced disk (Blob m.number)) (λ x. x.meta) h.blobs (subst (AllByRecursion (λ (m : BlobMeta). IsSynced disk (Blob m.number))) (sym held.blobs) b.named.blobs) in
      record {
        tables = after_there job W out.tables_there old_tables;
        blobs = left_there job W out.blobs_there old_blobs;
        spelled = left_spelled job W out.spelled b.spelled;
        named = record {
          tables = mapped (λ (m : NewTable). IsSynced disk (Table m.number)) (λ x. x.meta) (after job) (after_all job (λ x. IsSynced disk (Table x.meta.number)) out.tables_synced synced_tables);
          blobs = mapped (λ (m : BlobMeta). IsSynced disk (Blob m.number)) (λ x. x.meta) (left job) (left_numbers (λ n. IsSynced disk (Blob n)) out.blobs_synced synced_blobs);
        };
      }

  below_of : (from : ℕ) → IsBelow from s.holding.live.version → from ≤ next → AreBetween from next tables made → IsBelow next (compacted_by e next tables made s.holding).live.version
  below_of from below le are =
      let h : Holding = s.holding in
      let held : IsHeld h = held_law maps s disk t in
      let old_tables : AllByRecursion (λ (x : TableFile). x.meta.number < next) h.tables =
      unmapped (λ (m : NewTable). m.number < next) (λ x. x.meta) h.tables (subst (AllByRecursion (λ (m : NewTable). m.number < next)) (sym held.tables) (all_to (λ (m : NewTable). m.number < from) (λ m. m.number < next) h.live.version.tables (λ m less. omega (arith, less, le)) below.tables)) in
      let old_blobs : AllByRecursion (λ (x : BlobFile). x.meta.number < next) h.blobs =
      unmapped (λ (m : BlobMeta). m.number < next) (λ x. x.meta) h.blobs (subst (AllByRecursion (λ (m : BlobMeta). m.number < next)) (sym held.blobs) (all_to (λ (m : BlobMeta). m.number < from) (λ m. m.number < next) h.live.version.blobs (λ m less. omega (arith, less, le)) below.blobs)) in
      let new_blobs : AllByRecursion (λ (x : BlobFile). x.meta.number < next) made = all_to (λ (x : BlobFile). (from ≤ x.meta.number) × (x.meta.number < next)) (λ x. x.meta.number < next) made (λ x b. b.1) are.blobs in
      record {
        tables = mapped (λ (m : NewTable). m.number < next) (λ x. x.meta) (after job) (after_all job (λ x. x.meta.number < next) (all_to (λ (x : TableFile). (from ≤ x.meta.number) × (x.meta.number < next)) (λ x. x.meta.number < next) tables (λ x b. b.1) are.tables) old_tables);
        blobs = mapped (λ (m : BlobMeta). m.number < next) (λ x. x.meta) (left job) (left_numbers (λ n. n < next) new_blobs old_blobs);
      }

  applies_of : CompactionsInstall → apply s.holding.live.version (with_next next e) ≡ Ok (compacted_by e next tables made s.holding).live.version
  applies_of law =
      let none = t.backed.makes 0 (omega arith) in
      law plan (cut_to 0 s.holding) none.0 (maps (s.before + 0)) tables made (with_next next e) none.1 held_none compacts_none

-- ---- the laws

pub done_compactions_install : SteadyAreHeld → CompactionsKeep → CompactionsInstall → EditsRestore → RewritesInstall → DoneCompactionsInstall
done_compactions_install held_law keep applies restore install maps s disk plan tables made e next t d =
    let now : Holding = compacted_by e next tables made s.holding in
    let was : Standing = s.holding.live.standing in
    install maps s (with_next next e) now disk t (record {
      restores = restore s.edits (with_next next e) s.holding.live now.live.version t.restores (applies_of held_law maps s disk t plan tables made e next d.compacts applies) d.next_fits
          ∙ (λ i. Some (record {
            version = now.live.version;
            standing = record { log_number = unwrap_or (d.lists.log_number i) was.log_number; next_file = next; last_sequence = unwrap_or (d.lists.last_sequence i) was.last_sequence; options = unwrap_or (d.lists.options i) was.options };
          }));
      files = files_of held_law maps s disk t plan tables made e next d.compacts d.out;
      log_number = refl;
      sequence = refl;
      batches = refl;
      last = refl;
      makes = makes_of held_law maps s disk t plan tables made e next d.compacts keep;
    })

pub compacted_stay_below : SteadyAreHeld → CompactedStayBelow
compacted_stay_below held_law maps s disk plan tables made e from next t c below le are = below_of held_law maps s disk t plan tables made e next c from below le are

pub snapshots_see_the_same : SteadyAreHeld → CompactionsKeep → SnapshotsSeeTheSame
snapshots_see_the_same held_law law maps s disk plan tables made e next found t sound c =
    law plan s.holding found (maps (Rattle.bl_open.specs.Steady.accepted s)) tables made (with_next next e) sound (held_law maps s disk t) (compacts_next next plan s.holding tables made e c)
