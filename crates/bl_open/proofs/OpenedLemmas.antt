-- An opening as a whole.
use Rattle.std.proofs.Common.{◌≡◌, ◌⊎◌, ◌+◌, ◌<◌, ◌≤◌, nat_lt, inl, inr, ⊎_elim, ℕ, zero, suc, Bool, true, false, List, [], ◌∷◌, length, get_or, Option, None, Some, IsSome, Result, Ok, Err, refl, sym, ◌∙◌, subst, arith}
use Rattle.std.specs.Prelude.{◌^◌, IfErr, IfOk}
use Rattle.std.proofs.lemmas.Bool.{ltb-false, ltb-true}
use Rattle.bl_site.specs.Calls.{LeavesOnly}
use Rattle.std.specs.FinMap.{empty}
use Rattle.std.specs.Option.{option_map}
use Rattle.bl_site.specs.Disk.{Cut, Disk, File, Folder, Name, folder_of}
use Rattle.bl_site.specs.declared.site.Site.{Ghosts}
use Rattle.bl_entry.specs.Revisions.{Map}
use Rattle.bl_build.specs.Listing.{Listing, nothing}
use Rattle.bl_entry.specs.declared.key.Entry.{Entry}
use Rattle.bl_folder.specs.Numbers.{IsFirstNumber}
use Rattle.bl_folder.specs.Live.{IsFresh}
use Rattle.bl_folder.specs.Stands.{Stands}
use Rattle.bl_records.specs.Causes.{IsCause}
use Rattle.bl_open.proofs.MomentLemmas.{AreRemnants, CountsNow, OnlyNow, files_or, none_found, then_found, then_or}
use Rattle.bl_open.proofs.ReadLemmas.{nothing_side, nothing_then_side}
use Rattle.bl_wal.specs.LogFile.{log_name}
use Rattle.bl_open.specs.Barrier.{AreTheLogs, FindsOrLeaves, IsNewFile, IsOnEitherSide, LeavesFound, MakesNothing, SyncsSome}
use Rattle.bl_open.specs.SteadyCuts.{LeavesStanding}
use Rattle.bl_site.proofs.Moments.{widened}
use Rattle.bl_open.specs.Beginning.{first_file, first_made}
use Rattle.bl_open.specs.Causes.{IsWriting}
use Rattle.bl_open.specs.Checks.{AllPass}
use Rattle.bl_open.specs.Listing.{AreLogs}
use Rattle.bl_open.specs.Options.{Words}
use Rattle.bl_open.specs.Recovering.{AnswersAsRefused, CutsAtBarrier, IsRefusal}
use Rattle.bl_open.specs.declared.error.OpenErr.{OpenErr}
use Rattle.bl_open.specs.declared.error.OpenErr.TheVariants.{Disk as DiskFailed, Full, OutOfMemory}

pub each_ok : {T : Type 0} (r : Result T OpenErr) (P Q : T → Type 0) → ((x : T) → P x → Q x) → IfOk r P → IfOk r Q
each_ok (Ok x) P Q f p = f x p
each_ok (Err e) P Q f p = tt

pub each_and : {T : Type 0} (r : Result T OpenErr) (P Q : T → Type 0) → IfOk r P → IfOk r Q → IfOk r (λ x. P x × Q x)
each_and (Ok x) P Q p q = (p, q)
each_and (Err e) P Q p q = tt

module _ {D : Type 0} (g : Ghosts D) (shown : g.shows) (only_now : (site : D) → OnlyNow g site) (counts_now : (site : D) → CountsNow g site)
    (only : (site : D) (other : Disk) → g.certain site → g.may_be site other → other ≡ g.disk site) (remnants : (site : D) → AreRemnants g site) where
  -- no name call was made
  pub nothing_cuts : (stood : Cut → Type 0) (old new : D) → MakesNothing g old new → CutsAtBarrier g stood old new
  nothing_cuts stood old new n = record {
    first = [];
    is_new = inr n.found;
    sides = nothing_side g shown only_now counts_now only remnants [] stood old new n;
    finds = λ sure. files_or g stood old new (n.finds sure);
  }

  pub then_cuts : (stood : Cut → Type 0) (old mid new : D) → SyncsSome (g.disk old) (g.disk mid) → MakesNothing g old mid → folder_of (g.disk mid) ≡ folder_of (g.disk old) → CutsAtBarrier g stood mid new → CutsAtBarrier g stood old new
  then_cuts stood old mid new some n same c = record {
    first = c.first;
    is_new = elim c.is_new [
      | inl file ↦ inl (subst (λ (f : Folder). IsNewFile f c.first) same file)
      | inr found ↦ inr (then_found g old mid new (counts_now mid) n.told n.found found)
    ];
    sides = nothing_then_side g shown only_now counts_now only remnants c.first stood old mid new n c.sides;
    finds = λ sure. then_or g stood old mid new (remnants old) some n.told (n.finds sure) (c.finds (n.certain sure));
  }

-- what stands so stands in another way
pub cuts_so : {D : Type 0} (g : Ghosts D) (one two : Cut → Type 0) (old new : D) → ((c : Cut) → one c → two c) → CutsAtBarrier g one old new → CutsAtBarrier g two old new
cuts_so g one two old new to b = record {
  first = b.first;
  is_new = b.is_new;
  sides =
      widened g.clock g.left_since old new (IsOnEitherSide b.first (g.may_be old) one (g.told old)) (IsOnEitherSide b.first (g.may_be old) two (g.told old))
      (λ c. ⊎_elim (λ before. inl before) (λ s. inr (stands_so c s))) b.sides;
  finds = λ sure.
      widened g.clock g.left_since old new (FindsOrLeaves (g.disk old) one (g.told old)) (FindsOrLeaves (g.disk old) two (g.told old))
      (λ c. ⊎_elim (λ finds. inl finds) (λ s. inr (stands_so c s))) (b.finds sure);
}
  where
    stands_so : (c : Cut) → LeavesStanding one (g.told old) c → LeavesStanding two (g.told old) c
    stands_so c s = record { told_is = s.told_is; left = to c s.left }

-- the first file has a number above those of all files
first_is_new : (folder : Folder) (version : Listing) (next first : ℕ) (memory : List Entry) → IsFirstNumber folder version next first → first_made memory first < 10 ^ 15 → IsNewFile folder (first_file memory first)
first_is_new folder version next first [] is less = record {
  number = first + 1;
  valid = (omega arith, less);
  kind = inl refl;
  behind = λ f has some. let lower = is.above.names f has some in omega (arith, lower);
}
first_is_new folder version next first (e ∷ es) is less = record {
  number = first + 2;
  valid = (omega arith, less);
  kind = inr refl;
  behind = λ f has some. let lower = is.above.names f has some in omega (arith, lower);
}

-- or it is none
pub new_or_found : {D : Type 0} (g : Ghosts D) (folder : Folder) (version : Listing) (next first : ℕ) (memory : List Entry) (old new : D) → OnlyNow g old → IsFirstNumber folder version next first
    → (10 ^ 15 ≤ first_made memory first → new ≡ old) → IsNewFile folder (first_file memory first) ⊎ LeavesOnly g.clock g.left_since old new (LeavesFound (g.may_be old) (g.told old))
new_or_found {D} g folder version next first memory old new now is unmade = by (nat_lt (first_made memory first) (10 ^ 15)) refl
  where
    by : (b : Bool) → nat_lt (first_made memory first) (10 ^ 15) ≡ b → IsNewFile folder (first_file memory first) ⊎ LeavesOnly g.clock g.left_since old new (LeavesFound (g.may_be old) (g.told old))
    by true e = inl (first_is_new folder version next first memory is (ltb-true (first_made memory first) (10 ^ 15) e))
    by false e =
        inr (subst (λ (site : D). LeavesOnly g.clock g.left_since old site (LeavesFound (g.may_be old) (g.told old))) (sym (unmade (ltb-false (first_made memory first) (10 ^ 15) e))) (none_found g old now))

-- a version of no file passes
pub nothing_passes : (folder : Folder) → AllPass folder nothing
nothing_passes folder k d lt = absurd (omega (arith, lt))

-- a fresh folder stands for the empty map alone
pub fresh_is_empty : (folder : Folder) (m : Map) → IsFresh folder → Stands folder m → m ≡ empty
fresh_is_empty folder m fresh (inl stands) = stands.1
fresh_is_empty folder m fresh (inr live) = let a = fresh.current in let b = live.holds.live.current in absurd (cc (a, b))

-- what fails by the folder, or for want of memory, tells nothing
pub cause_silent : (e : OpenErr) → IsCause DiskFailed OutOfMemory e → IsRefusal e → ⊥
cause_silent e (inl is) tells = subst IsRefusal is tells
cause_silent e (inr is) tells = subst IsRefusal is tells

pub cause_not_full : (e : OpenErr) (n : ℕ) → IsCause DiskFailed OutOfMemory e → e ≡ Full n → ⊥
cause_not_full e n (inl is) full = cc (is, full)
cause_not_full e n (inr is) full = cc (is, full)

pub writing_silent : (e : OpenErr) → IsWriting e → IsRefusal e → ⊥
writing_silent e (inl is) tells = subst IsRefusal is tells
writing_silent e (inr (inl is)) tells = subst IsRefusal is tells
writing_silent e (inr (inr is)) tells = subst IsRefusal is tells

-- an answer that is none of an error
pub no_telling : {T : Type 0} (r : Result T OpenErr) → IfErr r IsWriting → (e : OpenErr) → r ≡ Err e → IsRefusal e → ⊥
no_telling r causes e is tells = writing_silent e (subst (λ x. IfErr x IsWriting) is causes) tells

pub silent_same : {T : Type 0} (P : Type 0) (r : Result T OpenErr) → IfErr r IsWriting → IfErr r (λ e. IsRefusal e → P)
silent_same P (Ok x) causes = tt
silent_same P (Err e) causes = λ tells. absurd (writing_silent e causes tells)

-- of the folder as it was
pub answers_before : {T : Type 0} (folder old : Folder) (words : Words) (r : Result T OpenErr) → folder ≡ old → AnswersAsRefused folder words r → AnswersAsRefused old words r
answers_before folder old words r same a = subst (λ (f : Folder). AnswersAsRefused f words r) same a

-- ---- files of a folder, and of its disk

some_read : (o : Option File) → IsSome (option_map (λ (x : File). x.read) o) → IsSome o
some_read None some = some
some_read (Some x) some = refl

pub some_in : (disk : Disk) (name : Name) → IsSome (folder_of disk name) → IsSome (disk name)
some_in disk name some = some_read (disk name) some

some_reads : (o : Option File) → IsSome o → IsSome (option_map (λ (x : File). x.read) o)
some_reads None some = some
some_reads (Some x) some = refl

same_default : (xs : List ℕ) (k a b : ℕ) → k < length xs → get_or xs k a ≡ get_or xs k b
same_default [] k a b lt = absurd (omega (arith, lt))
same_default (x ∷ xs) zero a b lt = refl
same_default (x ∷ xs) (suc k) a b lt = same_default xs k a b (omega (arith, lt))

pub the_logs : (disk : Disk) (numbers : List ℕ) → AreLogs (folder_of disk) numbers → AreTheLogs numbers disk
the_logs disk numbers logs = record {
  each = λ k lt. some_in disk (log_name (get_or numbers k 0)) (logs.each k 0 lt).1;
  all = λ n is some.
      let c = logs.all n is (some_reads (disk (log_name n)) some) in
      (c.0, c.1, same_default numbers c.0 0 n c.1 ∙ c.2);
}

pub none_if : {A : Type 0} (o : Option A) → (IsSome o → ⊥) → o ≡ None
none_if None h = refl
none_if (Some x) h = absurd (h refl)
