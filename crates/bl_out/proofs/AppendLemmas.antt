-- Bytes that follow in a file.
use Rattle.std.proofs.Common.{◌≡◌, ℕ, Bool, false, List, [], ◌∷◌, ◌++◌, length, refl, sym, ◌∙◌, ap, subst, arith, suc, append_assoc, append-nil, Option, None, Some, Result, Ok, Err, OnOk}
use Rattle.std.specs.Prelude.{IsSome, ◌==◌, flat_map, if◌then◌else◌}
use Rattle.std.specs.Option.{is_some}
use Rattle.std.proofs.lemmas.Bool.{false≢true}
use Rattle.std.proofs.lemmas.Bool.Decides.{nat_tests}
use Rattle.std.proofs.lemmas.Grind.{flat_map-append}
use Rattle.bl_site.specs.Disk.{Disk, File, Name}
use Rattle.bl_site.specs.Calls.{Appends}
use Rattle.bl_blob.specs.BlobFile.{Record, given, header, record_bytes, record_head, totals_of}
use Rattle.bl_blob.specs.declared.blob.Totals.{Totals}
use Rattle.bl_entry.proofs.ItemLemmas.{some_is}
use Rattle.bl_out.specs.Making.{Follows}

-- the file is still there
pub there_behind : (name : Name) (bytes : List ℕ) (old new : Disk) → Appends name bytes bytes old new → IsSome (new name)
there_behind name bytes old new appends = ap is_some appends.puts.at

-- one piece behind another
pub appends_join : (name : Name) (a b : List ℕ) (old mid new : Disk) → Appends name a a old mid → Appends name b b mid new → Appends name (a ++ b) (a ++ b) old new
appends_join name a b old mid new first second =
    let same : second.file ≡ record { read = first.file.read ++ a; front = first.file.front; handed = first.file.handed ++ a } = some_is (sym second.was ∙ first.puts.at) in
    record {
      file = first.file;
      was = first.was;
      puts = record {
        at = second.puts.at ∙ ap (λ (x : File). Some (record { read = x.read ++ b; front = x.front; handed = x.handed ++ b })) same
            ∙ (λ i. Some (record { read = append_assoc first.file.read a b i; front = first.file.front; handed = append_assoc first.file.handed a b i }));
        others = λ other n. second.puts.others other n ∙ first.puts.others other n;
      };
    }

nothing_of : (name : Name) (disk : Disk) (o : Option File) → disk name ≡ o → IsSome o → Appends name [] [] disk disk
nothing_of name disk None is some = absurd (false≢true some)
nothing_of name disk (Some file) is some = record {
  file = file;
  was = is;
  puts = record { at = is ∙ (λ i. Some (record { read = sym (append-nil file.read) i; front = file.front; handed = sym (append-nil file.handed) i })); others = λ other n. refl };
}

-- no bytes follow
pub nothing_appended : (name : Name) (bytes : List ℕ) (disk : Disk) → bytes ≡ [] → IsSome (disk name) → Appends name bytes bytes disk disk
nothing_appended name bytes disk none there = subst (λ (bs : List ℕ). Appends name bs bs disk disk) (sym none) (nothing_of name disk (disk name) refl there)

-- ---- records

-- the head of a record, and then its key and its value
pub record_appended : (name : Name) (before head bytes : List ℕ) (r : Record) (old mid new : Disk) → head ≡ record_head r → bytes ≡ before ++ record_bytes r
    → Appends name (before ++ head) (before ++ head) old mid → Appends name (r.key ++ r.value) (r.key ++ r.value) mid new → Appends name bytes bytes old new
record_appended name before head bytes r old mid new is are first second =
    subst (λ (bs : List ℕ). Appends name bs bs old new) (append_assoc before head (r.key ++ r.value) ∙ ap (λ h. before ++ (h ++ (r.key ++ r.value))) is ∙ sym are)
    (appends_join name (before ++ head) (r.key ++ r.value) old mid new first second)

some_records : (n : ℕ) → (suc n == 0) ≡ false
some_records n = grind (arith, nat_tests)

-- the bytes of a record, behind the header where it is the first
abbrev pub piece : Bool → Record → List ℕ
piece first r = (if first then header else []) ++ record_bytes r

-- what is given with one record more
given_more : (rs : List Record) (r : Record) → given (rs ++ r ∷ []) ≡ given rs ++ piece (length rs == 0) r
given_more [] r = ap (λ bs. header ++ bs) (append-nil (record_bytes r))
given_more (x ∷ rs) r =
    ap (λ bs. header ++ bs) (flat_map-append record_bytes (x ∷ rs) (r ∷ []) ∙ ap (λ bs. flat_map record_bytes (x ∷ rs) ++ bs) (append-nil (record_bytes r)))
    ∙ sym (append_assoc header (flat_map record_bytes (x ∷ rs)) (record_bytes r))
    ∙ ap (λ b. given (x ∷ rs) ++ piece b r) (sym (some_records (length rs)))

pub record_follows : (name called : Name) (rs : List Record) (r : Record) (totals : Totals) (old new : Disk) → called ≡ name → totals ≡ totals_of rs
    → Appends called (piece (totals.count == 0) r) (piece (totals.count == 0) r) old new → Follows name (given rs) (given (rs ++ r ∷ [])) old new
record_follows name called rs r totals old new same are appends =
    let bytes : List ℕ = piece (totals.count == 0) r in
    record {
      bytes = bytes;
      behind = given_more rs r ∙ ap (λ (t : Totals). given rs ++ piece (t.count == 0) r) (sym are);
      appends = subst (λ n. Appends n bytes bytes old new) same appends;
    }

pub ok_map : {T E : Type 0} (result : Result T E) {P Q : Type 0} → (P → Q) → OnOk result P → OnOk result Q
ok_map (Ok x) f p = f p
ok_map (Err e) f p = tt
