-- Damage is one, and a sound folder has none.
use Rattle.std.proofs.Common.{◌≡◌, ◌⊎◌, inl, inr, ℕ, zero, suc, ◌<◌, List, [], ◌∷◌, Bool, true, false, map, Contains, None, Some, Result, Ok, Err, refl, sym, ◌∙◌, ap, subst, arith}
use Rattle.std.specs.List.{IsDistinct}
use Rattle.std.specs.Ordering.{is_lt, ordering_reverse}
use Rattle.std.specs.FinMap.{slice_cmp-IsAntisymmetric, nat_cmp-IsAntisymmetric}
use Rattle.std.specs.Cmp.Lexicographic.{nat_list_cmp_total}
use Rattle.std.specs.declared.cmp.Ordering.{Ordering}
use Rattle.std.specs.declared.cmp.Ordering.TheVariants.{Less, Equal, Greater}
use Rattle.std.proofs.lemmas.Bool.{cases_order, eq-eqb, eqb-true}
use Rattle.std.proofs.lemmas.List.Elements.{All-contains, All-from_recursion, Contains-append_cases}
use Rattle.bl_code.specs.Order.{bytes_cmp, bytes_lt}
use Rattle.bl_site.specs.Disk.{Folder, Name}
use Rattle.bl_names.specs.declared.name.FileName.{FileName}
use Rattle.bl_names.specs.declared.name.FileName.TheVariants as file_name
use Rattle.bl_names.specs.Names.{HasNumber, TextNamesOne, current_text, manifest_name, name_of}
use Rattle.bl_edit.specs.declared.edit.NewTable.{NewTable}
use Rattle.bl_build.specs.declared.meta.BlobMeta.{BlobMeta}
use Rattle.bl_build.specs.Listing.{Listing, Ascends, blob_number}
use Rattle.bl_build.specs.Restoring.{Restored}
use Rattle.bl_build.specs.Versions.{IsVersion, has_same_number}
use Rattle.bl_entry.specs.Records.{BatchesJoin}
use Rattle.bl_entry.proofs.ItemLemmas.{some_is}
use Rattle.bl_manifest.specs.Restores.{IsFaulty}
use Rattle.bl_manifest.specs.Laws.{FaultsHaveOnePlace, FaultyDoNotRestore}
use Rattle.bl_out.specs.Files.{file}
use Rattle.bl_folder.specs.Laws.{LiveIsOne, LiveIsVersion}
use Rattle.bl_folder.specs.Live.{IsFresh, IsLive}
use Rattle.bl_open.specs.declared.checks.Expected.{Expected}
use Rattle.bl_open.specs.declared.checks.Expected.TheVariants.{Table, Blob}
use Rattle.bl_open.specs.Checks.{FilesFail, check_in, files_of, named, place_of}
use Rattle.bl_open.specs.Damage.{FilesOrLogsFail, LacksLive, NamesManifest, NamesNone}
use Rattle.bl_open.specs.DamageLaws.{DamageIsOne, FailingDoNotPass, FailureIsOne, LackingAreNotFresh, LackingAreNotLive}
use Rattle.bl_open.specs.Listing.{IsFirstStray, IsStrayFile}
use Rattle.bl_open.proofs.BreakLemmas.{PlacedAreRecords, log_is, logs_fail_once}

-- ---- files that fail

pub fail_or_pass : FailingDoNotPass
fail_or_pass folder version name place f pass =
    let ok : check_in folder f.found ≡ Ok tt = All-contains (λ (e : Expected). check_in folder e ≡ Ok tt) (files_of version) f.found pass f.among in
    cc (ok, f.fails)

-- the element of which one of a list was made
pub from_map : {A B : Type 0} (f : A → B) (xs : List A) (y : B) → Contains (map f xs) y → (x : A) × Contains xs x × (f x ≡ y)
from_map f [] y (k, lt, e) = absurd (omega (arith, lt))
from_map f (x ∷ xs) y (zero, lt, e) = (x, (zero, omega arith, refl), e)
from_map f (x ∷ xs) y (suc k, lt, e) =
    let p = from_map f xs y (k, omega (arith, lt), e) in
    (p.0, (suc p.1.0, omega (arith, p.1.1), p.1.2), p.2)

distinct_one : {A : Type 0} (same : A → A → Bool) (back : (x y : A) → same x y ≡ true → same y x ≡ true) (xs : List A) → IsDistinct same xs → (a b : A) → Contains xs a → Contains xs b → same a b ≡ true → a ≡ b
unfolding IsDistinct
distinct_one same back [] d a b (k, lt, e) v t = absurd (omega (arith, lt))
distinct_one same back (x ∷ xs) d a b (zero, lt, e) (zero, lt', e') t = sym e ∙ e'
distinct_one same back (x ∷ xs) d a b (zero, lt, e) (suc j, lt', e') t =
    let not : same x b ≡ false = All-contains (λ y. same x y ≡ false) xs b (All-from_recursion (λ y. same x y ≡ false) xs d.0) (j, omega (arith, lt'), e') in
    let yes : same x b ≡ true = ap (λ y. same y b) e ∙ t in
    cc (not, yes)
distinct_one same back (x ∷ xs) d a b (suc k, lt, e) (zero, lt', e') t =
    let not : same x a ≡ false = All-contains (λ y. same x y ≡ false) xs a (All-from_recursion (λ y. same x y ≡ false) xs d.0) (k, omega (arith, lt), e) in
    let yes : same x a ≡ true = ap (λ y. same y a) e' ∙ back a b t in
    cc (not, yes)
distinct_one same back (x ∷ xs) d a b (suc k, lt, e) (suc j, lt', e') t =
    distinct_one same back xs d.1 a b (k, omega (arith, lt), e) (j, omega (arith, lt'), e') t

ascending_one : {A : Type 0} (key : A → ℕ) (xs : List A) → Ascends key xs → (a b : A) → Contains xs a → Contains xs b → key a ≡ key b → a ≡ b
ascending_one key [] up a b (k, lt, e) v t = absurd (omega (arith, lt))
ascending_one key (x ∷ xs) up a b (zero, lt, e) (zero, lt', e') t = sym e ∙ e'
ascending_one key (x ∷ xs) up a b (zero, lt, e) (suc j, lt', e') t =
    let less : key x < key b = All-contains (λ y. key x < key y) xs b (All-from_recursion (λ y. key x < key y) xs up.0) (j, omega (arith, lt'), e') in
    absurd (omega (arith, less, ap key e, t))
ascending_one key (x ∷ xs) up a b (suc k, lt, e) (zero, lt', e') t =
    let less : key x < key a = All-contains (λ y. key x < key y) xs a (All-from_recursion (λ y. key x < key y) xs up.0) (k, omega (arith, lt), e) in
    absurd (omega (arith, less, ap key e', t))
ascending_one key (x ∷ xs) up a b (suc k, lt, e) (suc j, lt', e') t =
    ascending_one key xs up.1 a b (k, omega (arith, lt), e) (j, omega (arith, lt'), e') t

table_of : NewTable → Expected
table_of t = Table t.number t.size

blob_of : BlobMeta → Expected
blob_of b = Blob b.number b.total

-- a file of a version is one of its tables, or of its blob files
pub data Source (version : Listing) (e : Expected) : Type 0 where
  is_table : (t : NewTable) → Contains version.tables t → Table t.number t.size ≡ e → Source version e
  is_blob : (b : BlobMeta) → Contains version.blobs b → Blob b.number b.total ≡ e → Source version e

pub source : (version : Listing) (e : Expected) → Contains (files_of version) e → Source version e
source version e w = elim (Contains-append_cases (map (λ (t : NewTable). Table t.number t.size) version.tables) (map (λ (b : BlobMeta). Blob b.number b.total) version.blobs) e w) [
  | inl there ↦ let p = from_map (λ (t : NewTable). Table t.number t.size) version.tables e there in is_table p.0 p.1 p.2
  | inr there ↦ let p = from_map (λ (b : BlobMeta). Blob b.number b.total) version.blobs e there in is_blob p.0 p.1 p.2
]

same_back : (t u : NewTable) → has_same_number t u ≡ true → has_same_number u t ≡ true
same_back t u e = eq-eqb u.number t.number (sym (eqb-true t.number u.number e))

same_file : (version : Listing) → IsVersion version → (a b : Expected) → Source version a → Source version b → place_of a ≡ place_of b → a ≡ b
same_file version is a b (is_table t w e) (is_table u v d) at =
    let number : t.number ≡ u.number = omega (arith, at, ap place_of e, ap place_of d) in
    let same : t ≡ u = distinct_one has_same_number same_back version.tables is.tables_once t u w v (eq-eqb t.number u.number number) in
    sym e ∙ ap (λ (x : NewTable). Table x.number x.size) same ∙ d
same_file version is a b (is_table t w e) (is_blob u v d) at = absurd (omega (arith, at, ap place_of e, ap place_of d))
same_file version is a b (is_blob t w e) (is_table u v d) at = absurd (omega (arith, at, ap place_of e, ap place_of d))
same_file version is a b (is_blob t w e) (is_blob u v d) at =
    let number : t.number ≡ u.number = omega (arith, at, ap place_of e, ap place_of d) in
    let same : t ≡ u = ascending_one blob_number version.blobs is.blobs_ascend t u w v number in
    sym e ∙ ap (λ (x : BlobMeta). Blob x.number x.total) same ∙ d

not_before : (folder : Folder) (version : Listing) (name other : Name) (place at : ℕ) (f : FilesFail folder version name place) (g : FilesFail folder version other at)
    → place_of f.found < place_of g.found → ⊥
not_before folder version name other place at f g lt =
    let ok : check_in folder f.found ≡ Ok tt = All-contains (λ (e : Expected). place_of e < place_of g.found → check_in folder e ≡ Ok tt) (files_of version) f.found g.first f.among lt in
    cc (ok, f.fails)

pub failure_one : FailureIsOne
failure_one folder version name other place at is f g =
    let same : f.found ≡ g.found = elim (cases_order (place_of f.found) (place_of g.found)) [
      | inl here ↦ same_file version is f.found g.found (source version f.found f.among) (source version g.found g.among) here
      | inr apart ↦ absurd (elim apart [ inl lt ↦ not_before folder version name other place at f g lt | inr gt ↦ not_before folder version other name at place g f gt ])
    ] in (
      f.name_is ∙ ap (λ e. name_of (named e)) same ∙ sym g.name_is,
      let e : ◌≡◌ {A = Result (Unit {0}) ℕ} (Err place) (Err at) = sym f.fails ∙ ap (check_in folder) same ∙ g.fails in cc e,
    )

-- ---- folders without a live part

stale : (folder : Folder) → IsFresh folder → (f : FileName) → HasNumber f → (bytes : List ℕ) → file folder f ≡ Some bytes → IsStrayFile f bytes → ⊥
stale folder fresh file_name.Current number bytes there s = s
stale folder fresh (file_name.Manifest n) number bytes there s = s
stale folder fresh (file_name.Log n) number bytes there s = s (sym (log_is folder n bytes number there) ∙ fresh.logs n)
stale folder fresh (file_name.Table n) number bytes there s = cc (there, fresh.tables n number)
stale folder fresh (file_name.Blob n) number bytes there s = cc (there, fresh.blobs n number)
stale folder fresh (file_name.Temp n) number bytes there s = s

pub lacking_not_fresh : LackingAreNotFresh
lacking_not_fresh folder name place (inl stray) fresh = stale folder fresh stray.0.found stray.0.stray.number stray.0.stray.bytes stray.0.stray.there stray.0.stray.stray
lacking_not_fresh folder name place (inr (inl none)) fresh = cc (none.0.there, fresh.current)
lacking_not_fresh folder name place (inr (inr named)) fresh = cc (named.1.current, fresh.current)

-- a folder whose CURRENT names two manifests names one
names_one : TextNamesOne → (folder : Folder) (m n : ℕ) → NamesManifest folder m → NamesManifest folder n → m ≡ n
names_one law folder m n a b = law (current_text m) m n (a.number, refl) (b.number, some_is (sym a.current ∙ b.current))

live_names : (folder : Folder) (manifest : ℕ) (live : Restored) → IsLive folder manifest live → NamesManifest folder manifest
live_names folder manifest live l = record { number = l.number; current = l.current }

none_named : (folder : Folder) (manifest : ℕ) → NamesNone folder → NamesManifest folder manifest → ⊥
none_named folder manifest a b = a.no_text manifest (b.number, some_is (sym a.there ∙ b.current))

abbrev ManifestIsDamaged : Folder → ℕ → ℕ → Type 0
ManifestIsDamaged folder number place =
    ((folder (manifest_name number) ≡ None) × (place ≡ 0))
    ⊎ ((bytes : List ℕ) × (folder (manifest_name number) ≡ Some bytes) × IsFaulty bytes place)

damaged_restores_none : FaultyDoNotRestore → (folder : Folder) (manifest place : ℕ) (live : Restored) → ManifestIsDamaged folder manifest place → IsLive folder manifest live → ⊥
damaged_restores_none law folder manifest place live (inl absent) l = cc (absent.0, l.there)
damaged_restores_none law folder manifest place live (inr faulty) l =
    let bytes : faulty.0 ≡ l.bytes = some_is (sym faulty.1 ∙ l.there) in
    law l.bytes live place l.restores (subst (λ (bs : List ℕ). IsFaulty bs place) bytes faulty.2)

damaged_once : FaultsHaveOnePlace → (folder : Folder) (manifest place at : ℕ) → ManifestIsDamaged folder manifest place → ManifestIsDamaged folder manifest at → place ≡ at
damaged_once law folder manifest place at (inl a) (inl b) = a.1 ∙ sym b.1
damaged_once law folder manifest place at (inl a) (inr b) = cc (a.0, b.1)
damaged_once law folder manifest place at (inr a) (inl b) = cc (a.1, b.0)
damaged_once law folder manifest place at (inr a) (inr b) = law a.0 place at a.2 (subst (λ (bs : List ℕ). IsFaulty bs at) (some_is (sym b.1 ∙ a.1)) b.2)

pub lacking_not_live : TextNamesOne → FaultyDoNotRestore → LackingAreNotLive
lacking_not_live names law folder name place manifest live (inl stray) l = cc (stray.0.no_current, l.current)
lacking_not_live names law folder name place manifest live (inr (inl none)) l = none_named folder manifest none.0 (live_names folder manifest live l)
lacking_not_live names law folder name place manifest live (inr (inr damaged)) l =
    let same : damaged.0 ≡ manifest = names_one names folder damaged.0 manifest damaged.1 (live_names folder manifest live l) in
    damaged_restores_none law folder manifest place live (subst (λ m. ManifestIsDamaged folder m place) same damaged.3) l

-- ---- two damages

not_less_is_same : (a b : List ℕ) → bytes_lt a b ≡ false → bytes_lt b a ≡ false → a ≡ b
not_less_is_same a b f g = by_order (bytes_cmp a b) (bytes_cmp b a) refl refl
  where
    by_order : (o p : Ordering) → bytes_cmp a b ≡ o → bytes_cmp b a ≡ p → a ≡ b
    by_order Less p e d = let less : bytes_lt a b ≡ true = ap is_lt e in cc (less, f)
    by_order Equal p e d = slice_cmp-IsAntisymmetric nat_cmp-IsAntisymmetric a b e
    by_order Greater p e d = let less : bytes_cmp b a ≡ Less = nat_list_cmp_total.antisymm b a ∙ ap (λ o. ordering_reverse o) e in let less' : bytes_lt b a ≡ true = ap is_lt less in cc (less', g)

stray_once : (folder : Folder) (name other : Name) → IsFirstStray folder name → IsFirstStray folder other → name ≡ other
stray_once folder name other a b =
    not_less_is_same name other
    (ap (λ n. bytes_lt n other) a.name_is ∙ b.first a.found a.stray)
    (ap (λ n. bytes_lt n name) b.name_is ∙ a.first b.found b.stray)

lacking_once : TextNamesOne → FaultsHaveOnePlace → (folder : Folder) (name other : Name) (place at : ℕ) → LacksLive folder name place → LacksLive folder other at → (name ≡ other) × (place ≡ at)
lacking_once names law folder name other place at (inl a) (inl b) = (stray_once folder name other a.0 b.0, a.1 ∙ sym b.1)
lacking_once names law folder name other place at (inl a) (inr (inl b)) = cc (a.0.no_current, b.0.there)
lacking_once names law folder name other place at (inl a) (inr (inr b)) = cc (a.0.no_current, b.1.current)
lacking_once names law folder name other place at (inr (inl a)) (inl b) = cc (b.0.no_current, a.0.there)
lacking_once names law folder name other place at (inr (inl a)) (inr (inl b)) = (a.1 ∙ sym b.1, a.2 ∙ sym b.2)
lacking_once names law folder name other place at (inr (inl a)) (inr (inr b)) = absurd (none_named folder b.0 a.0 b.1)
lacking_once names law folder name other place at (inr (inr a)) (inl b) = cc (b.0.no_current, a.1.current)
lacking_once names law folder name other place at (inr (inr a)) (inr (inl b)) = absurd (none_named folder a.0 b.0 a.1)
lacking_once names law folder name other place at (inr (inr a)) (inr (inr b)) =
    let same : a.0 ≡ b.0 = names_one names folder a.0 b.0 a.1 b.1 in
    (a.2 ∙ ap manifest_name same ∙ sym b.2, damaged_once law folder b.0 place at (subst (λ m. ManifestIsDamaged folder m place) same a.3) b.3)

holding_once : BatchesJoin → PlacedAreRecords → (folder : Folder) (live : Restored) → IsVersion live.version → (name other : Name) (place at : ℕ) → FilesOrLogsFail folder live name place → FilesOrLogsFail folder live other at
    → (name ≡ other) × (place ≡ at)
holding_once join placed folder live is name other place at (inl a) (inl b) = failure_one folder live.version name other place at is a b
holding_once join placed folder live is name other place at (inl a) (inr b) = absurd (fail_or_pass folder live.version name place a b.0)
holding_once join placed folder live is name other place at (inr a) (inl b) = absurd (fail_or_pass folder live.version other at b a.0)
holding_once join placed folder live is name other place at (inr a) (inr b) = logs_fail_once join placed folder live.standing.log_number live.standing.last_sequence name other place at a.1 b.1

pub damage_one : BatchesJoin → PlacedAreRecords → TextNamesOne → FaultsHaveOnePlace → FaultyDoNotRestore → LiveIsOne → LiveIsVersion → DamageIsOne
damage_one join placed names places faulty one version folder name other place at (inl a) (inl b) = lacking_once names places folder name other place at a b
damage_one join placed names places faulty one version folder name other place at (inl a) (inr b) = absurd (lacking_not_live names faulty folder name place b.0 b.1.0 a b.1.1)
damage_one join placed names places faulty one version folder name other place at (inr a) (inl b) = absurd (lacking_not_live names faulty folder other at a.0 a.1.0 b a.1.1)
damage_one join placed names places faulty one version folder name other place at (inr a) (inr b) =
    let same : a.1.0 ≡ b.1.0 = (one folder a.0 b.0 a.1.0 b.1.0 a.1.1 b.1.1).1 in
    holding_once join placed folder a.1.0 (version folder a.0 a.1.0 a.1.1) name other place at a.1.2 (subst (λ (l : Restored). FilesOrLogsFail folder l other at) (sym same) b.1.2)
