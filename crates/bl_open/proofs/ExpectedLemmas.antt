-- All files that a version names, level by level.
use Rattle.std.proofs.Common.{◌≡◌, inl, inr, ℕ, ◌+◌, ◌<◌, ◌≤◌, List, [], ◌∷◌, ◌++◌, Bool, true, false, cond, length, map, take, get_or, All, Contains, IsTrue, refl, sym, subst, arith}
use Rattle.std.specs.Prelude.{◌==◌, filter}
use Rattle.std.proofs.lemmas.Bool.{cases_lt, eq-eqb}
use Rattle.std.proofs.lemmas.List.{take_all}
use Rattle.std.proofs.lemmas.List.Elements.{All-append, All-cons, All-filter, All-from_recursion, All-head, All-map, All-more, All-nil, All-push, All-tail, All-weaker, Contains-append_left, Contains-append_right, Contains-get_or, Contains-push}
use Rattle.bl_names.specs.Names.{HasNumber, IsNumber}
use Rattle.bl_edit.specs.declared.edit.NewTable.{NewTable}
use Rattle.bl_edit.specs.Bounds.{is_number, table_fits}
use Rattle.bl_build.specs.declared.meta.BlobMeta.{BlobMeta}
use Rattle.bl_build.specs.Listing.{Listing, at_level}
use Rattle.bl_build.specs.Versions.{IsVersion}
use Rattle.bl_entry.proofs.ItemLemmas.{contains_map}
use Rattle.bl_open.specs.declared.checks.Expected.{Expected}
use Rattle.bl_open.specs.declared.checks.Expected.TheVariants.{Table, Blob}
use Rattle.bl_open.specs.Checks.{AreAll, files_of, named}
use Rattle.bl_open.proofs.WholeLemmas.{blob_number, table_level, table_number}

abbrev pub table_of : NewTable → Expected
table_of t = Table t.number t.size

abbrev pub blob_of : BlobMeta → Expected
blob_of b = Blob b.number b.total

-- each of these files is one of the version
abbrev pub AreOf : Listing → List Expected → Type 0
AreOf version files = All (λ e. HasNumber (named e) × Contains (files_of version) e) files

-- the tables below a level are among these
abbrev pub HaveBelow : Listing → ℕ → List Expected → Type 0
HaveBelow version level files = All (λ t. t.level < level → Contains files (table_of t)) version.tables

-- these tables are among these files
abbrev pub HaveTables : List NewTable → List Expected → Type 0
HaveTables tables files = All (λ t. Contains files (table_of t)) tables

abbrev pub HaveBlobs : List BlobMeta → List Expected → Type 0
HaveBlobs blobs files = All (λ b. Contains files (blob_of b)) blobs

pub none_of : (version : Listing) → AreOf version []
none_of version = All-nil (λ (e : Expected). HasNumber (named e) × Contains (files_of version) e)

pub none_below : (version : Listing) (files : List Expected) → HaveBelow version 0 files
none_below version files = λ k d lt less. absurd (omega (arith, less))

pub no_tables : (files : List Expected) → HaveTables [] files
no_tables files = All-nil (λ (t : NewTable). Contains files (table_of t))

pub no_blobs : (files : List Expected) → HaveBlobs [] files
no_blobs files = All-nil (λ (b : BlobMeta). Contains files (blob_of b))

module _ (version : Listing) (is : IsVersion version) (files : List Expected) where
  -- a table more, of a level
  pub of_table : (level i : ℕ) (t : NewTable) → i < length (at_level level version.tables) → t ≡ get_or (at_level level version.tables) i t → AreOf version files → AreOf version (files ++ table_of t ∷ [])
  of_table level i t lt at are =
      let P : NewTable → Type 0 = λ u. IsNumber u.number × Contains version.tables u in
      let fits : All (λ u. IsTrue (table_fits u)) version.tables = All-from_recursion (λ (u : NewTable). IsTrue (table_fits u)) version.tables is.tables_fit in
      let whole : All P version.tables = λ k d less. (table_number (get_or version.tables k d) (fits k d less), Contains-get_or version.tables k d less) in
      let p : P t = subst P (sym at) (All-filter (λ (u : NewTable). u.level == level) P version.tables whole i t lt) in
      let there : Contains (files_of version) (table_of t) = Contains-append_left (map table_of version.tables) (map blob_of version.blobs) (table_of t) (contains_map table_of version.tables t p.1) in
      All-push (λ (e : Expected). HasNumber (named e) × Contains (files_of version) e) files (table_of t) are (p.0, there)

  pub of_blob : (i : ℕ) (b : BlobMeta) → i < length version.blobs → b ≡ get_or version.blobs i b → AreOf version files → AreOf version (files ++ blob_of b ∷ [])
  of_blob i b lt at are =
      let P : BlobMeta → Type 0 = λ u. IsNumber u.number × Contains version.blobs u in
      let fits : All (λ u. IsTrue (is_number u.number)) version.blobs = All-from_recursion (λ (u : BlobMeta). IsTrue (is_number u.number)) version.blobs is.blobs_fit in
      let p : P b = subst P (sym at) (blob_number (get_or version.blobs i b).number (fits i b lt), Contains-get_or version.blobs i b lt) in
      let there : Contains (files_of version) (blob_of b) = Contains-append_right (map table_of version.tables) (map blob_of version.blobs) (blob_of b) (contains_map blob_of version.blobs b p.1) in
      All-push (λ (e : Expected). HasNumber (named e) × Contains (files_of version) e) files (blob_of b) are (p.0, there)

pub below_stays : (version : Listing) (level : ℕ) (files : List Expected) (e : Expected) → HaveBelow version level files → HaveBelow version level (files ++ e ∷ [])
below_stays version level files e have =
    All-weaker (λ (t : NewTable). t.level < level → Contains files (table_of t)) (λ (t : NewTable). t.level < level → Contains (files ++ e ∷ []) (table_of t))
    (λ t h lt. Contains-append_left files (e ∷ []) (table_of t) (h lt)) version.tables have

pub tables_more : (tables : List NewTable) (files : List Expected) (i : ℕ) (t : NewTable) → i < length tables → t ≡ get_or tables i t → HaveTables (take i tables) files → HaveTables (take (i + 1) tables) (files ++ table_of t ∷ [])
tables_more tables files i t lt at have =
    let P : NewTable → Type 0 = λ u. Contains (files ++ table_of t ∷ []) (table_of u) in
    All-more P tables i t lt (All-weaker (λ (u : NewTable). Contains files (table_of u)) P (λ u w. Contains-append_left files (table_of t ∷ []) (table_of u) w) (take i tables) have)
    (subst P at (Contains-push files (table_of t)))

pub tables_stay : (tables : List NewTable) (files : List Expected) (e : Expected) → HaveTables tables files → HaveTables tables (files ++ e ∷ [])
tables_stay tables files e have =
    All-weaker (λ (t : NewTable). Contains files (table_of t)) (λ (t : NewTable). Contains (files ++ e ∷ []) (table_of t)) (λ t w. Contains-append_left files (e ∷ []) (table_of t) w) tables have

pub blobs_more : (blobs : List BlobMeta) (files : List Expected) (i : ℕ) (b : BlobMeta) → i < length blobs → b ≡ get_or blobs i b → HaveBlobs (take i blobs) files → HaveBlobs (take (i + 1) blobs) (files ++ blob_of b ∷ [])
blobs_more blobs files i b lt at have =
    let P : BlobMeta → Type 0 = λ u. Contains (files ++ blob_of b ∷ []) (blob_of u) in
    All-more P blobs i b lt (All-weaker (λ (u : BlobMeta). Contains files (blob_of u)) P (λ u w. Contains-append_left files (blob_of b ∷ []) (blob_of u) w) (take i blobs) have)
    (subst P at (Contains-push files (blob_of b)))

-- what holds of those that pass
from_filter : {A : Type 0} (p : A → Bool) (P : A → Type 0) (xs : List A) → All P (filter p xs) → All (λ x. p x ≡ true → P x) xs
from_filter p P [] h = All-nil (λ x. p x ≡ true → P x)
from_filter p P (x ∷ xs) h = by_test (λ all. from_filter p P xs all) (p x) refl h
  where
    by_test : (All P (filter p xs) → All (λ y. p y ≡ true → P y) xs) → (b : Bool) → p x ≡ b → All P (cond b (x ∷ filter p xs) (filter p xs)) → All (λ y. p y ≡ true → P y) (x ∷ xs)
    by_test go true t all = All-cons (λ y. p y ≡ true → P y) x xs (λ _. All-head P x (filter p xs) all) (go (All-tail P x (filter p xs) all))
    by_test go false t all = All-cons (λ y. p y ≡ true → P y) x xs (λ e. cc (t, e)) (go all)

-- a level more
pub level_more : (version : Listing) (level i : ℕ) (files : List Expected) → length (at_level level version.tables) ≤ i → HaveBelow version level files → HaveTables (take i (at_level level version.tables)) files
    → HaveBelow version (level + 1) files
level_more version level i files le below here =
    let P : NewTable → Type 0 = λ t. Contains files (table_of t) in
    let whole : HaveTables (at_level level version.tables) files = subst (λ (ts : List NewTable). HaveTables ts files) (take_all i (at_level level version.tables) le) here in
    let same = from_filter (λ (t : NewTable). t.level == level) P version.tables whole in
    λ k d lt less. elim (cases_lt (get_or version.tables k d).level level) [
      | inl lower ↦ below k d lt lower
      | inr upper ↦ same k d lt (eq-eqb (get_or version.tables k d).level level (omega (arith, less, upper)))
    ]

pub all_below : (version : Listing) (level : ℕ) (files : List Expected) → IsVersion version → 7 ≤ level → HaveBelow version level files → HaveTables version.tables files
all_below version level files is le below =
    let fits : All (λ u. IsTrue (table_fits u)) version.tables = All-from_recursion (λ (u : NewTable). IsTrue (table_fits u)) version.tables is.tables_fit in
    λ k d lt. below k d lt (omega (arith, le, table_level (get_or version.tables k d) (fits k d lt)))

pub are_all : (version : Listing) (files : List Expected) (i : ℕ) → length version.blobs ≤ i → AreOf version files → HaveTables version.tables files → HaveBlobs (take i version.blobs) files → AreAll version files
are_all version files i le are tables blobs =
    let whole : HaveBlobs version.blobs files = subst (λ (bs : List BlobMeta). HaveBlobs bs files) (take_all i version.blobs le) blobs in
    record {
      each = are;
      all = All-append (Contains files) (map table_of version.tables) (map blob_of version.blobs) (All-map (Contains files) table_of version.tables tables) (All-map (Contains files) blob_of version.blobs whole);
    }
