-- Files whose numbers are drawn behind those of a version.
use Rattle.std.proofs.Common.{◌≡◌, ◌≢◌, ℕ, zero, suc, ◌+◌, ◌<◌, ◌≤◌, Bool, true, false, cond, List, [], ◌∷◌, map, Option, Some, None, refl, ◌∙◌, ap, arith}
use Rattle.std.specs.Prelude.{◌-◌, ◌^◌, IsNone, unwrap_or}
use Rattle.std.specs.List.{AllByRecursion, range_with_len}
use Rattle.std.specs.Option.{option_map}
use Rattle.bl_site.specs.Disk.{File, Folder, Name, folder_of}
use Rattle.bl_names.specs.declared.name.FileName.{FileName}
use Rattle.bl_names.specs.declared.name.FileName.TheVariants.{Current, Manifest, Log, Table, Blob, Temp}
use Rattle.bl_names.specs.Names.{HasNumber, IsNumber, NamesOne, name_of}
use Rattle.bl_code.proofs.Basics.{all_from}
use Rattle.bl_edit.specs.declared.edit.NewTable.{NewTable}
use Rattle.bl_build.specs.declared.meta.BlobMeta.{BlobMeta}
use Rattle.bl_build.specs.Restoring.{Restored}
use Rattle.bl_out.specs.Quiet.{IsNoneOf}
use Rattle.bl_out.specs.States.{names_of}
use Rattle.bl_folder.specs.Flushes.{IsBelow}
use Rattle.bl_folder.specs.Laws.{CutsOfSynced, Frame, LiveIsOne, LiveIsVersion}
use Rattle.bl_folder.specs.Live.{IsLive}
use Rattle.bl_folder.specs.Needed.{IsNeeded}
use Rattle.bl_folder.specs.Quiet.{NoneIsNeeded, QuietCutsAreLike, QuietCutsKeepNeeded}
use Rattle.bl_edit.specs.Bounds.{is_number}
use Rattle.bl_out.specs.Files.{file}
use Rattle.bl_folder.specs.Files.{log_bytes}
use Rattle.bl_folder.proofs.Finding.{from_test}
use Rattle.bl_entry.proofs.ItemLemmas.{all_of_map}
use Rattle.bl_open.proofs.FrameLemmas.{apart, contains_all, needed_number, synced_same}
use Rattle.bl_open.proofs.RestingLemmas.{left_for, whole_but}
use Rattle.bl_open.specs.Flushing.{CutsBesideRest, DrawnAreUnneeded, IsOther, OthersKeepRest, drawn}

-- the numbers of a range
in_range : (from count : ℕ) → AllByRecursion (λ n. (from ≤ n) × (n < from + count)) (range_with_len from count)
in_range from zero = tt
in_range from (suc count) = (
  (omega arith, omega arith),
  all_from (λ n. (from + 1 ≤ n) × (n < (from + 1) + count)) (λ n. (from ≤ n) × (n < from + suc count)) (range_with_len (from + 1) count) (λ n h. let a = h.0 in let b = h.1 in (omega (arith, a), omega (arith, b))) (in_range (from + 1) count),
)

within : (from next n : ℕ) → from ≤ n → n < from + (next - from) → n < next
within from next n a b = omega (arith, a, b)

-- the file is no table and no blob file from this number on
pub record IsNotDrawn (from : ℕ) (f : FileName) : Type 0 where
  pub table : (n : ℕ) → from ≤ n → Table n ≢ f
  pub blob : (n : ℕ) → from ≤ n → Blob n ≢ f

pub is_other : NamesOne → (from : ℕ) (f : FileName) → HasNumber f → IsNotDrawn from f → IsOther from (name_of f)
is_other names from f has not = record {
  table = λ n is le. apart names (Table n) f is has (not.table n le);
  blob = λ n is le. apart names (Blob n) f is has (not.blob n le);
}

none_in : (from : ℕ) (name : Name) → IsOther from name → (ns : List ℕ) → AllByRecursion (λ n. IsNumber n × (from ≤ n)) ns → IsNoneOf (names_of ns) name
none_in from name other [] h = tt
none_in from name other (n ∷ ns) h = (other.table n h.0.0 h.0.1, (other.blob n h.0.0 h.0.1, none_in from name other ns h.1))

pub none_drawn : (from next : ℕ) (name : Name) → 1 ≤ from → next ≤ 10 ^ 15 → IsOther from name → IsNoneOf (drawn from next) name
none_drawn from next name least most other =
    none_in from name other (range_with_len from (next - from))
    (all_from (λ n. (from ≤ n) × (n < from + (next - from))) (λ n. IsNumber n × (from ≤ n)) (range_with_len from (next - from))
    (λ n h. let a = h.0 in let b = within from next n h.0 h.1 in ((omega (arith, a, least), omega (arith, b, most)), h.0)) (in_range from (next - from)))

-- what has a lower number is not drawn
pub table_below : (from t : ℕ) → t < from → IsNotDrawn from (Table t)
table_below from t less = record {
  table = λ n le e. let is : n ≡ t = cc in omega (arith, is, le, less);
  blob = λ n le e. cc e;
}

pub blob_below : (from b : ℕ) → b < from → IsNotDrawn from (Blob b)
blob_below from b less = record {
  table = λ n le e. cc e;
  blob = λ n le e. let is : n ≡ b = cc in omega (arith, is, le, less);
}

pub log_below : (from n : ℕ) → IsNotDrawn from (Log n)
log_below from n = record { table = λ k le e. cc e; blob = λ k le e. cc e }

needed_below : (from manifest : ℕ) (live : Restored) → IsBelow from live.version → (f : FileName) → IsNeeded manifest live f → IsNotDrawn from f
needed_below from manifest live below Current needed = record { table = λ n le e. cc e; blob = λ n le e. cc e }
needed_below from manifest live below (Manifest m) needed = record { table = λ n le e. cc e; blob = λ n le e. cc e }
needed_below from manifest live below (Log m) needed = log_below from m
needed_below from manifest live below (Table t) needed =
    table_below from t (contains_all (λ n. n < from) (map (λ (x : NewTable). x.number) live.version.tables) t (all_of_map (λ (x : NewTable). x.number) (λ n. n < from) live.version.tables below.tables) needed)
needed_below from manifest live below (Blob b) needed =
    blob_below from b (contains_all (λ n. n < from) (map (λ (x : BlobMeta). x.number) live.version.blobs) b (all_of_map (λ (x : BlobMeta). x.number) (λ n. n < from) live.version.blobs below.blobs) needed)
needed_below from manifest live below (Temp n) needed = absurd needed

-- the name of a needed file is another
needed_other : NamesOne → LiveIsVersion → (folder : Folder) (from manifest : ℕ) (live : Restored) → IsLive folder manifest live → IsBelow from live.version → (f : FileName) → IsNeeded manifest live f → IsOther from (name_of f)
needed_other names versions folder from manifest live is below f needed =
    is_other names from f (needed_number manifest live is.number (versions folder manifest live is) f needed) (needed_below from manifest live below f needed)

pub drawn_are_unneeded : NamesOne → LiveIsVersion → DrawnAreUnneeded
drawn_are_unneeded names versions folder from next manifest live is least most below f needed =
    none_drawn from next (name_of f) least most (needed_other names versions folder from manifest live is below f needed)

none_is : {A : Type 0} (o : Option A) → IsNone o → o ≡ None
none_is None h = refl
none_is (Some x) h = absurd cc

pub others_keep_rest : NamesOne → LiveIsVersion → Frame → OthersKeepRest
others_keep_rest names versions frame from manifest live m old new below others rest =
    let other = needed_other names versions (folder_of old) from manifest live rest.is_live below in
    let same : (f : FileName) → IsNeeded manifest live f → folder_of new (name_of f) ≡ folder_of old (name_of f) = λ f needed. ap (option_map (λ (x : File). x.read)) (others (name_of f) (other f needed)) in
    let framed = frame (folder_of old) (folder_of new) manifest live m rest.is_live rest.stands (record {
      same = λ f needed there. same f needed;
      further = λ n le absent. log n le absent same (is_number n) refl;
    }) in
    record {
      is_live = framed.0;
      stands = framed.1;
      synced = λ f needed. synced_same old new f (others (name_of f) (other f needed)) (rest.synced f needed);
    }
  where
    log : (n : ℕ) → live.standing.log_number ≤ n → IsNone (file (folder_of old) (Log n)) → ((f : FileName) → IsNeeded manifest live f → folder_of new (name_of f) ≡ folder_of old (name_of f))
        → (b : Bool) → is_number n ≡ b → log_bytes (folder_of new) n ≡ []
    log n le absent same false t = ap (λ b. cond b (unwrap_or (file (folder_of new) (Log n)) []) []) t
    log n le absent same true t =
        ap (λ b. cond b (unwrap_or (file (folder_of new) (Log n)) []) []) t
        ∙ ap (λ o. unwrap_or o []) (same (Log n) (from_test n t, le) ∙ none_is (file (folder_of old) (Log n)) absent)

pub cuts_beside_rest : NamesOne → LiveIsOne → LiveIsVersion → Frame → QuietCutsAreLike → QuietCutsKeepNeeded → CutsOfSynced → CutsBesideRest
cuts_beside_rest names one versions frame alike keep synced from next manifest live m disk told c least most below rest cut =
    let none : NoneIsNeeded (drawn from next) manifest live = drawn_are_unneeded names versions (folder_of disk) from next manifest live rest.is_live least most below in
    let like = alike (drawn from next) disk told c cut in
    let left = synced disk told like.cut manifest live m rest.is_live rest.stands rest.synced like.is_cut in
    let framed = frame like.cut.folder c.folder manifest live m left.0 left.1 (keep (drawn from next) disk told c manifest live none like) in
    record {
      told_is = cut.told_is;
      left = left_for one manifest live m c framed.0 framed.1 (whole_but (drawn from next) disk told c manifest live none rest.synced cut);
    }
