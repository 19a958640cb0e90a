-- Folders, as the calls of a site change them.
use Rattle.std.proofs.Common.{◌≡◌, ◌≢◌, ℕ, zero, suc, ◌<◌, List, [], ◌∷◌, length, get_or, Bool, true, false, Option, None, Some, refl, sym, ◌∙◌, ap, subst, arith, IsSome, ◌⊎◌, inl, inr}
use Rattle.std.specs.Prelude.{◌||◌}
use Rattle.std.specs.Option.{option_map}
use Rattle.std.specs.Cmp.{tied_itself}
use Rattle.std.specs.Cmp.Lexicographic.{nat_list_cmp_total}
use Rattle.std.specs.List.{AllByRecursion}
use Rattle.std.specs.declared.cmp.Ordering.TheVariants.{Less, Equal, Greater}
use Rattle.bl_code.specs.Order.{bytes_cmp}
use Rattle.bl_site.specs.Disk.{Name, File, Folder, Disk, folder_of}
use Rattle.bl_site.specs.Calls.{Syncs, Creates}
use Rattle.bl_names.specs.Names.{IsNumber}
use Rattle.bl_wal.specs.LogFile.{log_name}
use Rattle.bl_logstore.specs.Listing.{is_in, AreLogsAbove}
use Rattle.bl_logstore.specs.Stored.{IsSynced, Makes}
use Rattle.bl_logstore.proofs.MapLemmas.{exact_bytes}
use Rattle.bl_logstore.proofs.NumberLemmas.{same_number}

abbrev read_of : Option File → Option (List ℕ)
read_of o = option_map (λ file. file.read) o

-- two names are one, or they differ
pub same_name : (a b : Name) → (a ≡ b) ⊎ (a ≢ b)
same_name a b = elim (bytes_cmp a b) as (λ o. bytes_cmp a b ≡ o → (a ≡ b) ⊎ (a ≢ b)) [
  | Less ↦ λ e. inr (λ same. cc (e, ap (bytes_cmp a) (sym same), tied_itself nat_list_cmp_total a))
  | Equal ↦ λ e. inl (exact_bytes a b e)
  | Greater ↦ λ e. inr (λ same. cc (e, ap (bytes_cmp a) (sym same), tied_itself nat_list_cmp_total a))
] refl

-- folders that have the same under each name are one
pub same_folder : (f g : Folder) → ((name : Name) → f name ≡ g name) → f ≡ g
same_folder f g h = λ i name. h name i

-- a sync leaves the folder as it reads
pub sync_keeps : (name : Name) (old new : Disk) → Syncs name old new → folder_of new ≡ folder_of old
sync_keeps name old new s = same_folder (folder_of new) (folder_of old) (λ other. elim (same_name other name) [
  | inl same ↦
      let P : Name → Type 0 = λ n. folder_of new n ≡ folder_of old n in
      subst P (sym same) (ap (option_map (λ (file : File). file.read)) s.puts.at ∙ sym (ap (option_map (λ (file : File). file.read)) s.was))
  | inr ne ↦ ap (option_map (λ (file : File). file.read)) (s.puts.others other ne)
])

-- it has synced this one, and leaves the others as they are
pub sync_syncs : (name other : Name) (old new : Disk) → Syncs name old new → (other ≡ name) ⊎ IsSynced (old other) → IsSynced (new other)
sync_syncs name other old new s is = elim (same_name other name) [
  | inl same ↦ subst (λ (n : Name). IsSynced (new n)) (sym same) (subst IsSynced (sym s.puts.at) (refl, refl))
  | inr ne ↦ elim is [ inl same ↦ absurd (ne same) | inr was ↦ subst IsSynced (sym (s.puts.others other ne)) was ]
]

pub was_some : {A B : Type 0} (f : A → B) (o : Option A) → IsSome (option_map f o) → IsSome o
was_some f None some = absurd (cc some)
was_some f (Some a) some = refl

pub there_reads : (o : Option File) → IsSome o → IsSome (option_map (λ (file : File). file.read) o)
there_reads None some = absurd (cc some)
there_reads (Some file) some = refl

pub not_there : (o : Option File) → option_map (λ (file : File). file.read) o ≡ None → o ≡ None
not_there None e = refl
not_there (Some file) e = cc e

-- the element at a place
pub at_place : (P : ℕ → Type 0) (xs : List ℕ) (k : ℕ) → k < length xs → AllByRecursion P xs → P (get_or xs k 0)
at_place P [] k lt all = absurd (omega (arith, lt))
at_place P (x ∷ xs) zero lt all = all.0
at_place P (x ∷ xs) (suc k) lt all = at_place P xs k (omega (arith, lt)) all.1

-- the place of an element
pub place_of : (n : ℕ) (xs : List ℕ) → is_in n xs ≡ true → (k : ℕ) × (k < length xs) × (get_or xs k 0 ≡ n)
place_of n [] t = cc t
place_of n (x ∷ xs) t = elim (same_number n x) [
  | inl same ↦ (0, omega arith, sym same)
  | inr other ↦ let rest : is_in n xs ≡ true = ap (λ b. b || is_in n xs) (sym other) ∙ t in let p = place_of n xs rest in (suc p.0, omega (arith, p.1), p.2)
]

-- each log of the folder is among those that were synced
pub all_synced : (numbers : List ℕ) (old new : Disk) → AreLogsAbove 0 numbers (folder_of old) → folder_of new ≡ folder_of old
    → ((k : ℕ) → k < length numbers → IsSynced (new (log_name (get_or numbers k 0)))) → (n : ℕ) → IsNumber n → IsSynced (new (log_name n))
all_synced numbers old new logs same synced n is = elim (new (log_name n)) as (λ o. new (log_name n) ≡ o → IsSynced o) [
  | None ↦ λ e. tt
  | Some file ↦ λ e.
      let some : IsSome (folder_of old (log_name n)) = subst (λ (f : Folder). IsSome (f (log_name n))) same (ap (λ o. is_some_of (read_of o)) e) in
      let p = place_of n numbers (logs.all n (omega (arith, is.0)) is some) in
      subst IsSynced e (subst (λ m. IsSynced (new (log_name m))) p.2 (synced p.0 p.1))
] refl
  where
    is_some_of : Option (List ℕ) → Bool
    is_some_of None = false
    is_some_of (Some bytes) = true

-- a file more
pub makes : (name : Name) (old new : Disk) → Creates name old new → Makes name (folder_of old) (folder_of new)
makes name old new c = record {
  made = ap (option_map (λ (file : File). file.read)) c.at;
  others = λ other ne. ap (option_map (λ (file : File). file.read)) (c.others other ne);
}
