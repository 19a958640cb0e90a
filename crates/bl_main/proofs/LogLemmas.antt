-- The logs among some names, and one name more.
use Rattle.std.proofs.Common.{◌≡◌, ◌∙◌, ◌↔◌, ℕ, zero, suc, arith, List, [], ◌∷◌, ◌++◌, true, false, cond, Option, None, Some, String, Global, string_bytes, map, refl, sym, ap, subst, ◌⊎◌, inl, inr, IsSome}
use Rattle.std.specs.Prelude.{MatchOption}
use Rattle.std.specs.List.{Contains}
use Rattle.std.specs.List.Sorted.{IsStrictlySortedBy}
use Rattle.std.specs.Option.{option_map}
use Rattle.std.proofs.lemmas.List.{map-append}
use Rattle.std.proofs.lemmas.List.Elements.{Contains-append_cases, Contains-append_left, Contains-append_right}
use Rattle.std.specs.Cmp.{ranked}
use Rattle.std.specs.Ordering.{is_eq, nat_cmp}
use Rattle.std.specs.declared.cmp.Ordering.TheVariants.{Less, Equal, Greater}
use Rattle.std.specs.BTreeMap.{BTreeMap, IsOrdered, get, is_at}
use Rattle.std.specs.Map.{keys_of, lookup}
use Rattle.bl_site.specs.Disk.{Name, Disk, File, folder_of}
use Rattle.bl_names.specs.declared.name.FileName.{FileName}
use Rattle.bl_names.specs.declared.name.FileName.TheVariants.{Current, Manifest, Log, Table, Blob, Temp}
use Rattle.bl_names.specs.Names.{IsNumber, IsNameOf, NamesOne, name_of}
use Rattle.bl_main.specs.Logs.{HasLogs, TakesLog}

number_of : FileName → ℕ
number_of (Log n) = n
number_of Current = 0
number_of (Manifest n) = 0
number_of (Table n) = 0
number_of (Blob n) = 0
number_of (Temp n) = 0

-- logs of one name have one number
one_number : NamesOne → (name : Name) (m n : ℕ) → IsNameOf name (Log m) → IsNameOf name (Log n) → m ≡ n
unfolding number_of
one_number law name m n a b = ap number_of (law name (Log m) (Log n) a b)

-- a number is this one, or compares as another
same_number : (n q : ℕ) → (n ≡ q) ⊎ (is_at (nat_cmp n) q ≡ false)
same_number n q = elim (nat_cmp n q) as (λ o. nat_cmp n q ≡ o → (n ≡ q) ⊎ (is_eq o ≡ false)) [
  | Less ↦ λ e. inr refl
  | Equal ↦ λ e. inl (ranked n q Equal (sym e))
  | Greater ↦ λ e. inr refl
] refl

itself : (n : ℕ) → is_at (nat_cmp n) n ≡ true
itself n = elim (nat_cmp n n) as (λ o. nat_cmp n n ≡ o → is_eq o ≡ true) [
  | Less ↦ λ e. absurd (omega (arith, ranked n n Less (sym e)))
  | Equal ↦ λ e. refl
  | Greater ↦ λ e. absurd (omega (arith, ranked n n Greater (sym e)))
] refl

-- what is kept under a number
abbrev IsKeptAt : (Name → Type 0) → ℕ → Option (String Global) → Type 0
IsKeptAt there number kept = MatchOption kept (IsNumber number → there (name_of (Log number)) → ⊥) (λ name. IsNameOf (string_bytes name) (Log number) × there (string_bytes name))

-- one name more, which is not the name of this number's log
kept_on : (was now : Name → Type 0) (name : Name) (q : ℕ) (kept : Option (String Global)) → ((x : Name) → now x ↔ (was x ⊎ (name ≡ x))) → (IsNameOf name (Log q) → ⊥)
    → IsKeptAt was q kept → IsKeptAt now q kept
kept_on was now name q None more other k = λ number there. elim ((more (name_of (Log q))).0 there) [ inl t ↦ k number t | inr e ↦ other (number, e) ]
kept_on was now name q (Some s) more other k = (k.0, (more (string_bytes s)).1 (inl k.1))

pub taken : NamesOne → (was now : Name → Type 0) (name : String Global) (old new : BTreeMap ℕ (String Global)) → ((x : Name) → now x ↔ (was x ⊎ (string_bytes name ≡ x)))
    → TakesLog name old new → HasLogs was old → HasLogs now new
taken law was now name old new more takes logs = λ q. elim takes [
  | inl t ↦ elim (same_number t.0 q) [
    | inl same ↦
        let here : get nat_cmp new q ≡ Some name = t.2 q ∙ ap (λ b. cond b (Some name) (get nat_cmp old q)) (ap (λ n. is_at (nat_cmp n) q) same ∙ itself q) in
        let named : IsNameOf (string_bytes name) (Log q) = subst (λ n. IsNameOf (string_bytes name) (Log n)) same t.1 in
        subst (IsKeptAt now q) (sym here) (named, (more (string_bytes name)).1 (inr refl))
    | inr other ↦
        let here : get nat_cmp new q ≡ get nat_cmp old q = t.2 q ∙ ap (λ b. cond b (Some name) (get nat_cmp old q)) other in
        let not : IsNameOf (string_bytes name) (Log q) → ⊥ =
        λ named. let same : t.0 ≡ q = one_number law (string_bytes name) t.0 q t.1 named in
        let at : is_at (nat_cmp t.0) q ≡ true = ap (λ n. is_at (nat_cmp n) q) same ∙ itself q in
        cc (at, other) in
        subst (IsKeptAt now q) (sym here) (kept_on was now (string_bytes name) q (get nat_cmp old q) more not (logs q))
  ]
  | inr t ↦
      let here : get nat_cmp new q ≡ get nat_cmp old q = ap (λ es. lookup (is_at (nat_cmp q)) es) t.1 in
      subst (IsKeptAt now q) (sym here) (kept_on was now (string_bytes name) q (get nat_cmp old q) more (t.0 q) (logs q))
]

-- the names, and one more
pub one_more_name : (names : List (String Global)) (name : String Global) (x : Name)
    → Contains (map string_bytes (names ++ name ∷ [])) x ↔ (Contains (map string_bytes names) x ⊎ (string_bytes name ≡ x))
one_more_name names name x =
    let joined : map string_bytes (names ++ name ∷ []) ≡ map string_bytes names ++ string_bytes name ∷ [] = map-append string_bytes names (name ∷ []) in (
      λ t. elim (Contains-append_cases (map string_bytes names) (string_bytes name ∷ []) x (subst (λ (l : List Name). Contains l x) joined t)) [ inl a ↦ inl a | inr b ↦ inr (only b) ],
      λ t. subst (λ (l : List Name). Contains l x) (sym joined) (elim t [
        | inl a ↦ Contains-append_left (map string_bytes names) (string_bytes name ∷ []) x a
        | inr e ↦ Contains-append_right (map string_bytes names) (string_bytes name ∷ []) x (0, omega arith, e)
      ]),
    )
  where
    only : Contains (string_bytes name ∷ []) x → string_bytes name ≡ x
    only (zero, lt, e) = e
    only (suc k, lt, e) = absurd (omega (arith, lt))

-- there is no log yet
pub no_log : (logs : BTreeMap ℕ (String Global)) → logs.entries ≡ [] → HasLogs (λ x. Contains [] x) logs
no_log logs empty = λ q. subst (λ es. IsKeptAt (λ (x : Name). Contains [] x) q (lookup (is_at (nat_cmp q)) es)) (sym empty) (λ number there. absurd (omega (arith, there.1)))

pub none_ascend : (logs : BTreeMap ℕ (String Global)) → logs.entries ≡ [] → IsOrdered nat_cmp logs
unfolding IsStrictlySortedBy
none_ascend logs empty = subst (λ es. IsStrictlySortedBy nat_cmp (keys_of es)) (sym empty) tt

-- the names listed are those of the files that are there
pub listed : (disk : Disk) (names : List (String Global)) (logs : BTreeMap ℕ (String Global)) → ((x : Name) → Contains (map string_bytes names) x ↔ IsSome (disk x))
    → HasLogs (λ x. Contains (map string_bytes names) x) logs → HasLogs (λ x. IsSome (folder_of disk x)) logs
listed disk names logs there has = λ q. elim (get nat_cmp logs q) as (λ o. IsKeptAt (λ x. Contains (map string_bytes names) x) q o → IsKeptAt (λ x. IsSome (folder_of disk x)) q o) [
  | None ↦ λ kept number some. kept number ((there (name_of (Log q))).1 (was_there (disk (name_of (Log q))) some))
  | Some s ↦ λ kept. (kept.0, reads (disk (string_bytes s)) ((there (string_bytes s)).0 kept.1))
] (has q)
  where
    reads : (o : Option File) → IsSome o → IsSome (option_map (λ (file : File). file.read) o)
    reads None t = cc t
    reads (Some file) t = refl

    was_there : (o : Option File) → IsSome (option_map (λ (file : File). file.read) o) → IsSome o
    was_there None t = cc t
    was_there (Some file) t = refl
