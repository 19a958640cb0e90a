-- The checks of files: what is read of a file's ends, and the order of files.
use Rattle.std.proofs.Common.{◌≡◌, inl, inr, ℕ, ◌+◌, ◌-◌, ◌<◌, ◌≤◌, List, [], Bool, true, false, cond, length, take, drop, get_or, Contains, Option, None, Some, Result, Ok, Err, refl, sym, ◌∙◌, ap, subst, arith}
use Rattle.std.specs.Prelude.{◌==◌, ◌&&◌, nat_le, not, unwrap_or, is_some}
use Rattle.std.specs.List.{AllWithin}
use Rattle.std.specs.List.Sorted.{IsPermutation, IsNonDecreasingBy}
use Rattle.std.specs.Result.{result_err}
use Rattle.std.proofs.lemmas.Bool.{and_right, cases_lt, eq-eqb, lt-leb, ne_eqb}
use Rattle.std.proofs.lemmas.List.{get_or_read, take_all, length-drop}
use Rattle.std.proofs.lemmas.List.Elements.{All-contains, All-weaker}
use Rattle.std.proofs.lemmas.List.Sorted.{All-permutation, Contains-permutation}
use Rattle.bl_code.specs.Reading.{from_start, need, ◌>>=◌}
use Rattle.bl_site.specs.Disk.{Folder, Name}
use Rattle.bl_names.specs.Names.{HasNumber, name_of}
use Rattle.bl_blob.specs.declared.blob.BadBlob.{BadBlob}
use Rattle.bl_blob.specs.declared.blob.BadBlob.TheVariants.{At}
use Rattle.bl_blob.specs.declared.blob.BlobRule.{BlobRule}
use Rattle.bl_blob.specs.declared.blob.BlobRule.TheVariants as blob_rule
use Rattle.bl_blob.specs.declared.blob.Totals.{Totals}
use Rattle.bl_blob.specs.Reading.{read_header, read_footer, footer_in, masked, fixed32_at, fixed64_at}
use Rattle.bl_blob.specs.BlobFile.{magic}
use Rattle.bl_table.specs.declared.fault.TableRule.TheVariants as rule
use Rattle.bl_table.specs.Table as table
use Rattle.bl_build.specs.Listing.{Listing}
use Rattle.bl_open.specs.declared.checks.Expected.{Expected}
use Rattle.bl_open.specs.Checks.{AllPass, AreAll, FilesFail, check_blob, check_footer, check_header, check_in, check_table, files_of, from_place, if_there, named, passed, place_of}

-- ---- the order of files

pub all_sorted : (version : Listing) (files sorted : List Expected) → IsPermutation files sorted → AreAll version files → AreAll version sorted
all_sorted version files sorted p a = record {
  each = All-permutation (λ (e : Expected). HasNumber (named e) × Contains (files_of version) e) files sorted p a.each;
  all = All-weaker (Contains files) (Contains sorted) (λ e w. Contains-permutation files sorted e p w) (files_of version) a.all;
}

module _ (folder : Folder) (version : Listing) (files : List Expected) where
  abbrev Passes : Expected → Type 0
  Passes e = check_in folder e ≡ Ok tt

  pub all_pass : (n : ℕ) → length files ≤ n → AreAll version files → AllWithin Passes files 0 n → AllPass folder version
  all_pass n le a within = All-weaker (Contains files) Passes (λ e w. subst Passes w.2 (within w.0 e (omega arith) (omega (arith, w.1, le)))) (files_of version) a.all

  -- the first that fails
  pub one_fails : (i : ℕ) (found : Expected) (name : Name) (place : ℕ) → i < length files → found ≡ get_or files i found → AreAll version files → IsNonDecreasingBy place_of files → AllWithin Passes files 0 i
      → name ≡ name_of (named found) → check_in folder found ≡ Err place → FilesFail folder version name place
  one_fails i found name place lt at a sorted within is fails = record {
    found = found;
    among = (All-contains (λ (e : Expected). HasNumber (named e) × Contains (files_of version) e) files found a.each (i, lt, sym at)).1;
    fails = fails;
    name_is = is;
    first = All-weaker (Contains files) (λ (e : Expected). place_of e < place_of found → Passes e) (λ e w less. elim (cases_lt w.0 i) [
      | inl before ↦ subst Passes w.2 (within w.0 e (omega arith) before)
      | inr behind ↦
          let here : found ≡ get_or files i e = get_or_read files i found lt at e in
          let le : place_of (get_or files i e) ≤ place_of (get_or files w.0 e) = sorted i w.0 e behind w.1 in
          absurd (omega (arith, less, subst (λ (x : Expected). place_of (get_or files i e) ≤ place_of x) w.2 le, ap place_of here))
    ]) (files_of version) a.all;
  }

-- ---- what is read of a file's ends

-- a check that goes on behind a first one
behind_fault : (r s : Result (Unit {0}) ℕ) (fault : Option ℕ) → fault ≡ result_err r → is_some fault ≡ true → fault ≡ result_err (r >>= λ _. s)
behind_fault (Ok x) s fault is some = let none : is_some fault ≡ false = ap is_some is in cc (some, none)
behind_fault (Err place) s fault is some = is

behind_none : (r s : Result (Unit {0}) ℕ) (fault : Option ℕ) → fault ≡ result_err r → is_some fault ≡ false → result_err s ≡ result_err (r >>= λ _. s)
behind_none (Ok x) s fault is none = refl
behind_none (Err place) s fault is none = let some : is_some fault ≡ true = ap is_some is in cc (some, none)

pub no_fault : (r : Result (Unit {0}) ℕ) → None ≡ result_err r → r ≡ Ok tt
no_fault (Ok tt) e = refl
no_fault (Err place) e = cc e

pub one_fault : (r : Result (Unit {0}) ℕ) (place : ℕ) → Some place ≡ result_err r → r ≡ Err place
one_fault (Ok x) place e = cc e
one_fault (Err at) place e = let same : place ≡ at = cc e in ap (λ n. Err n) (sym same)

-- the bytes from a place on are as many as are left
rest_taken : (n start : ℕ) (bytes : List ℕ) → length bytes - start ≤ n → take n (drop start bytes) ≡ drop start bytes
rest_taken n start bytes le = take_all n (drop start bytes) (omega (arith, le, length-drop start bytes))

-- a table of another length
pub table_length : (size n : ℕ) (f : Option (List ℕ)) → n ≡ length (unwrap_or f []) → (n ≡ size → ⊥) → Some 0 ≡ result_err (if_there (check_table size) f)
unfolding check_table
table_length size n None is other = refl
table_length size n (Some bytes) is other =
    let t : (length bytes == size) ≡ false = ne_eqb (length bytes) size (λ e. other (is ∙ e)) in
    ap (λ b. result_err (need b 0 >>= λ _. passed (table.read_footer (drop (size - 48) bytes) size))) (sym t)

no_footer : (part : List ℕ) (size : ℕ) → size < 48 → result_err (passed (table.read_footer part size)) ≡ Some 0
no_footer part size small = of_test (nat_le 48 size) (lt-leb 48 size small)
  where
    of_test : (b : Bool) → b ≡ false → result_err (passed (cond (not ((length part == 48) && b)) (Err (rule.Length, 0)) (table.with_index size part (table.inside size (size - 48) (table.handle_at (from_start (take 40 part))))))) ≡ Some 0
    of_test b f = ap (λ t. result_err (passed (cond (not t) (Err (rule.Length, 0)) (table.with_index size part (table.inside size (size - 48) (table.handle_at (from_start (take 40 part)))))))) (and_right (length part == 48) b f)

-- one of this length, of whose end this is read
pub table_footer : (size n : ℕ) (f : Option (List ℕ)) (part : List ℕ) → n ≡ length (unwrap_or f []) → n ≡ size → ((bytes : List ℕ) → f ≡ Some bytes → part ≡ take 48 (drop (size - 48) bytes))
    → result_err (passed (table.read_footer part size)) ≡ result_err (if_there (check_table size) f)
unfolding check_table
table_footer size n None part is same reads = no_footer part size (omega (arith, is, same))
table_footer size n (Some bytes) part is same reads =
    let t : (length bytes == size) ≡ true = eq-eqb (length bytes) size (sym is ∙ same) in
    let rest : part ≡ drop (size - 48) bytes = reads bytes refl ∙ rest_taken 48 (size - 48) bytes (omega (arith, is, same)) in
    ap (λ p. result_err (passed (table.read_footer p size))) rest
    ∙ ap (λ b. result_err (need b 0 >>= λ _. passed (table.read_footer (drop (size - 48) bytes) size))) (sym t)

-- the header of a blob file
pub header_read : (bytes part : List ℕ) → part ≡ take 30 bytes → result_err (from_place 0 (read_header part)) ≡ result_err (check_header bytes)
unfolding check_header
header_read bytes part is = ap (λ p. result_err (from_place 0 (read_header p))) is

-- and its footer
pub footer_is : (size count : ℕ) (bytes part : List ℕ) → length bytes ≡ size → part ≡ take 32 (drop (size - 32) bytes)
    → (from_place (size - 32) (read_footer part) >>= λ found. need (found == count) (size - 28)) ≡ check_footer count bytes
unfolding check_footer
footer_is size count bytes part long is =
    let rest : part ≡ drop (size - 32) bytes = is ∙ rest_taken 32 (size - 32) bytes (omega (arith, long)) in
    ap (λ p. from_place (size - 32) (read_footer p) >>= λ found. need (found == count) (size - 28)) rest
    ∙ ap (λ n. from_place (n - 32) (read_footer (drop (n - 32) bytes)) >>= λ found. need (found == count) (n - 28)) (sym long)

-- so the count there is this one, or another, or the footer is at fault
pub footer_counts : (size count found : ℕ) (bytes part : List ℕ) → length bytes ≡ size → part ≡ take 32 (drop (size - 32) bytes) → read_footer part ≡ Ok found → found ≡ count
    → None ≡ result_err (check_footer count bytes)
footer_counts size count found bytes part long is reads same =
    let t : (found == count) ≡ true = eq-eqb found count same in
    ap (λ b. result_err (need b (size - 28))) (sym t)
    ∙ ap (λ r. result_err (from_place (size - 32) r >>= λ n. need (n == count) (size - 28))) (sym reads) ∙ ap result_err (footer_is size count bytes part long is)

pub footer_other : (size count found : ℕ) (bytes part : List ℕ) → 62 ≤ size → length bytes ≡ size → part ≡ take 32 (drop (size - 32) bytes) → read_footer part ≡ Ok found → (found ≡ count → ⊥)
    → Some (size - 32 + 4) ≡ result_err (check_footer count bytes)
footer_other size count found bytes part some long is reads other =
    let t : (found == count) ≡ false = ne_eqb found count other in
    let at : size - 32 + 4 ≡ size - 28 = omega (arith, some) in
    ap Some at ∙ ap (λ b. result_err (need b (size - 28))) (sym t)
    ∙ ap (λ r. result_err (from_place (size - 32) r >>= λ n. need (n == count) (size - 28))) (sym reads) ∙ ap result_err (footer_is size count bytes part long is)

pub footer_bad : (size count place : ℕ) (rule : BlobRule) (bytes part : List ℕ) → length bytes ≡ size → part ≡ take 32 (drop (size - 32) bytes) → read_footer part ≡ Err (At rule place)
    → Some (size - 32 + place) ≡ result_err (check_footer count bytes)
footer_bad size count place rule bytes part long is reads =
    ap (λ r. result_err (from_place (size - 32) r >>= λ n. need (n == count) (size - 28))) (sym reads) ∙ ap result_err (footer_is size count bytes part long is)

-- a footer's fault stands in the footer
within_need : (b : Bool) (rule : BlobRule) (p : ℕ) (rest : Result ℕ BadBlob) → p ≤ 28 → ((r : BlobRule) (place : ℕ) → rest ≡ Err (At r place) → place ≤ 28)
    → (r : BlobRule) (place : ℕ) → (need b (At rule p) >>= λ _. rest) ≡ Err (At r place) → place ≤ 28
within_need true rule p rest le more r place e = more r place e
within_need false rule p rest le more r place e = let same : p ≡ place = cc e in omega (arith, le, same)

pub footer_place : (bytes : List ℕ) (rule : BlobRule) (place : ℕ) → read_footer bytes ≡ Err (At rule place) → place ≤ 28
unfolding footer_in
footer_place bytes rule place e =
    within_need (length bytes == 32) blob_rule.Length 0 (footer_in 0 bytes) (omega arith)
    (within_need (fixed32_at 0 bytes == magic) blob_rule.Magic 0 _ (omega arith)
    (within_need (fixed64_at 12 bytes == 0) blob_rule.Ttl (0 + 12) _ (omega arith)
    (within_need (fixed64_at 20 bytes == 0) blob_rule.Ttl (0 + 20) _ (omega arith)
    (within_need (fixed32_at 28 bytes == masked (take 28 bytes)) blob_rule.Crc (0 + 28) (Ok (fixed64_at 4 bytes)) (omega arith) (λ r place wrong. cc wrong)))))
    rule place e

-- a blob file of another length
pub blob_length : (total : Totals) (n : ℕ) (f : Option (List ℕ)) → n ≡ length (unwrap_or f []) → (n ≡ 62 + total.bytes → ⊥) → Some 0 ≡ result_err (if_there (check_blob total) f)
unfolding check_blob
blob_length total n None is other = refl
blob_length total n (Some bytes) is other =
    let t : (length bytes == 62 + total.bytes) ≡ false = ne_eqb (length bytes) (62 + total.bytes) (λ e. other (is ∙ e)) in
    ap (λ b. result_err (need b 0 >>= λ _. check_header bytes >>= λ _. check_footer total.count bytes)) (sym t)

-- one of this length, whose header is at fault
pub blob_header : (total : Totals) (n : ℕ) (f : Option (List ℕ)) (fault : Option ℕ) → n ≡ length (unwrap_or f []) → n ≡ 62 + total.bytes
    → ((bytes : List ℕ) → f ≡ Some bytes → fault ≡ result_err (check_header bytes)) → is_some fault ≡ true → fault ≡ result_err (if_there (check_blob total) f)
unfolding check_blob
blob_header total n None fault is same reads some = absurd (omega (arith, is, same))
blob_header total n (Some bytes) fault is same reads some =
    let t : (length bytes == 62 + total.bytes) ≡ true = eq-eqb (length bytes) (62 + total.bytes) (sym is ∙ same) in
    behind_fault (check_header bytes) (check_footer total.count bytes) fault (reads bytes refl) some
    ∙ ap (λ b. result_err (need b 0 >>= λ _. check_header bytes >>= λ _. check_footer total.count bytes)) (sym t)

-- one whose header is none
pub blob_footer : (total : Totals) (n : ℕ) (f : Option (List ℕ)) (bytes : List ℕ) (first fault : Option ℕ) → f ≡ Some bytes → length bytes ≡ n → n ≡ 62 + total.bytes
    → first ≡ result_err (check_header bytes) → is_some first ≡ false → fault ≡ result_err (check_footer total.count bytes) → fault ≡ result_err (if_there (check_blob total) f)
unfolding check_blob
blob_footer total n f bytes first fault there long same reads none ends =
    let t : (length bytes == 62 + total.bytes) ≡ true = eq-eqb (length bytes) (62 + total.bytes) (long ∙ same) in
    ends
    ∙ behind_none (check_header bytes) (check_footer total.count bytes) first reads none
    ∙ ap (λ b. result_err (need b 0 >>= λ _. check_header bytes >>= λ _. check_footer total.count bytes)) (sym t)
    ∙ ap (λ o. result_err (if_there (check_blob total) o)) (sym there)

-- a file of so many bytes is there
pub long_there : (f : Option (List ℕ)) (n : ℕ) → n ≡ length (unwrap_or f []) → 62 ≤ n → (bytes : List ℕ) × (f ≡ Some bytes) × (length bytes ≡ n)
long_there None n is some = absurd (omega (arith, is, some))
long_there (Some bytes) n is some = (bytes, refl, sym is)
