-- The names of a folder, one after another.
use Rattle.std.proofs.Common.{◌≡◌, ◌↔◌, ℕ, ◌+◌, ◌<◌, List, [], Bool, true, false, cond, length, map, get_or, Option, None, Some, refl, sym, ◌∙◌, ap, subst, arith, IsSome, ◌⊎◌, inl, inr}
use Rattle.std.proofs.lemmas.Bool.{cases_lt}
use Rattle.std.proofs.lemmas.List.{get_or-map}
use Rattle.std.specs.Prelude.{MatchOption}
use Rattle.std.specs.Option.{option_map}
use Rattle.std.specs.Ordering.{is_lt, nat_cmp}
use Rattle.std.specs.Cmp.{tied_itself}
use Rattle.std.specs.Cmp.Lexicographic.{nat_list_cmp_total}
use Rattle.std.specs.BTreeMap.{is_at}
use Rattle.std.specs.declared.cmp.Ordering.TheVariants.{Less, Equal, Greater}
use Rattle.bl_code.specs.Order.{bytes_cmp, bytes_lt}
use Rattle.bl_code.proofs.Basics.{less_is}
use Rattle.bl_site.specs.Disk.{Name, Folder}
use Rattle.bl_names.specs.declared.name.FileName.{FileName}
use Rattle.bl_names.specs.declared.name.FileName.TheVariants.{Current, Manifest, Log, Table, Blob, Temp}
use Rattle.bl_names.specs.Names.{IsNumber, IsNameOf, NamesOne}
use Rattle.bl_wal.specs.LogFile.{log_name}
use Rattle.bl_logstore.specs.Folders.{is_log, IsOther, HasOnlyLogs, IsFirstOther}
use Rattle.bl_logstore.specs.Listing.{IsWithin, IsLeastOther, is_in, AreLogNumbers, TakesName}
use Rattle.bl_logstore.proofs.NumberLemmas.{itself, same_number}

number_of : FileName → ℕ
number_of (Log n) = n
number_of Current = 0
number_of (Manifest n) = 0
number_of (Table n) = 0
number_of (Blob n) = 0
number_of (Temp n) = 0

-- logs of one name have one number
pub one_number : NamesOne → (m n : ℕ) → IsNumber m → IsNumber n → log_name m ≡ log_name n → m ≡ n
unfolding number_of
one_number law m n im in_ e = ap number_of (law (log_name m) (Log m) (Log n) (im, refl) (in_, e))

-- a log's name is no other one
pub log_is_no_other : NamesOne → (n : ℕ) → IsNumber n → IsOther (log_name n) → ⊥
log_is_no_other law n is o = let same : o.file ≡ Log n = law (log_name n) o.file (Log n) o.named (is, refl) in let f : is_log (Log n) ≡ false = ap is_log (sym same) ∙ o.not_log in cc f

-- the next name
pub within_next : (i : ℕ) (names : List Name) (x : Name) → IsWithin (i + 1) names x → IsWithin i names x ⊎ (get_or names i x ≡ x)
within_next i names x (k, lt, e) = elim (cases_lt k i) [
  | inl less ↦ inl (k, less, e)
  | inr le ↦ inr (let same : k ≡ i = omega (arith, lt, le) in ap (λ n. get_or names n x) (sym same) ∙ e)
]

pub within_more : (i : ℕ) (names : List Name) (x : Name) → IsWithin i names x → IsWithin (i + 1) names x
within_more i names x (k, lt, e) = (k, omega (arith, lt), e)

pub within_last : (i : ℕ) (names : List Name) (x : Name) → get_or names i x ≡ x → IsWithin (i + 1) names x
within_last i names x e = (i, omega arith, e)

-- the name at a place
pub record NameAt (i : ℕ) (names : List Name) (name : Name) : Type 0 where
  pub at : (x : Name) → get_or names i x ≡ name

pub name_at : {X : Type 0} (f : X → List ℕ) (xs : List X) (i : ℕ) (x : X) → i < length xs → get_or xs i x ≡ x → NameAt i (map f xs) (f x)
name_at f xs i x lt e = record { at = λ d. get_or-map f xs i x d lt ∙ ap f e }

-- of the names so far, none is another one, or this is the first such
abbrev pub First : ℕ → List Name → Option Name → Type 0
First i names first = MatchOption first ((name : Name) → IsWithin i names name → IsOther name → ⊥) (λ m. IsLeastOther i names m)

pub no_name : (names : List Name) (name : Name) → IsWithin 0 names name → ⊥
no_name names name (k, lt, e) = absurd (omega (arith, lt))

-- the next name is none of the others
pub passed : (i : ℕ) (names : List Name) (name : Name) (first : Option Name) → NameAt i names name → (IsOther name → ⊥) → First i names first → First (i + 1) names first
passed i names name None at not none = λ x within other. elim (within_next i names x within) [
  | inl w ↦ none x w other
  | inr e ↦ not (subst IsOther (sym e ∙ at.at x) other)
]
passed i names name (Some m) at not least = record {
  among = within_more i names m least.among;
  other = least.other;
  least = λ x within other. elim (within_next i names x within) [
    | inl w ↦ least.least x w other
    | inr e ↦ absurd (not (subst IsOther (sym e ∙ at.at x) other))
  ];
}

irreflexive : (a : List ℕ) → bytes_lt a a ≡ false
irreflexive a = ap is_lt (tied_itself nat_list_cmp_total a)

less_then : (a b c : List ℕ) → bytes_lt a b ≡ true → bytes_lt c b ≡ false → bytes_lt c a ≡ false
less_then a b c t f = elim (bytes_cmp c a) as (λ o. bytes_cmp c a ≡ o → is_lt o ≡ false) [
  | Less ↦ λ e. let less : bytes_lt c b ≡ true = ap is_lt (nat_list_cmp_total.trans c a b e (less_is (bytes_cmp a b) t)) in cc (less, f)
  | Equal ↦ λ e. refl
  | Greater ↦ λ e. refl
] refl

-- the next name is one of the others
pub taken : (i : ℕ) (names : List Name) (name result : Name) (first : Option Name) → NameAt i names name → IsOther name
    → MatchOption first (result ≡ name) (λ f. ((result ≡ f) × (bytes_lt name f ≡ false)) ⊎ ((result ≡ name) × (bytes_lt name f ≡ true)))
    → First i names first → IsLeastOther (i + 1) names result
taken i names name result None at other is none =
    let P : Name → Type 0 = λ r. IsLeastOther (i + 1) names r in
    subst P (sym is) (record {
      among = within_last i names name (at.at name);
      other = other;
      least = λ x within also. elim (within_next i names x within) [
        | inl w ↦ absurd (none x w also)
        | inr e ↦ subst (λ y. bytes_lt y name ≡ false) (sym (at.at x) ∙ e) (irreflexive name)
      ];
    })
taken i names name result (Some f) at other is least =
    let P : Name → Type 0 = λ r. IsLeastOther (i + 1) names r in
    elim is [
      | inl kept ↦ subst P (sym kept.0) (record {
        among = within_more i names f least.among;
        other = least.other;
        least = λ x within also. elim (within_next i names x within) [
          | inl w ↦ least.least x w also
          | inr e ↦ subst (λ y. bytes_lt y f ≡ false) (sym (at.at x) ∙ e) kept.1
        ];
      })
      | inr new ↦ subst P (sym new.0) (record {
        among = within_last i names name (at.at name);
        other = other;
        least = λ x within also. elim (within_next i names x within) [
          | inl w ↦ less_then name f x new.1 (least.least x w also)
          | inr e ↦ subst (λ y. bytes_lt y name ≡ false) (sym (at.at x) ∙ e) (irreflexive name)
        ];
      })
    ]

-- the first of the names listed is the first in the folder
pub first_there : (folder : Folder) (count : ℕ) (names : List Name) (name : Name) → ((x : Name) → IsWithin count names x ↔ IsSome (folder x)) → IsLeastOther count names name → IsFirstOther name folder
first_there folder count names name listed least = record {
  there = (listed name).0 least.among;
  other = least.other;
  first = λ x some other. least.least x ((listed x).1 some) other;
}

pub none_other : (folder : Folder) (count : ℕ) (names : List Name) → ((x : Name) → IsWithin count names x ↔ IsSome (folder x))
    → ((name : Name) → IsWithin count names name → IsOther name → ⊥) → HasOnlyLogs folder
none_other folder count names listed none = λ name some other. none name ((listed name).1 some) other

-- the numbers of the logs so far
pub no_numbers : (names : List Name) → AreLogNumbers 0 names []
no_numbers names = λ n. ((λ t. cc t), (λ p. absurd (no_name names (log_name n) p.1)))

pub number_taken : NamesOne → (i : ℕ) (names : List Name) (name : Name) (n : ℕ) (keys next : List ℕ) → NameAt i names name → IsNameOf name (Log n)
    → ((q : ℕ) → is_in q next ≡ cond (is_at (nat_cmp n) q) true (is_in q keys)) → AreLogNumbers i names keys → AreLogNumbers (i + 1) names next
number_taken law i names name n keys next at named updates logs = λ q. (
  λ t. elim (same_number n q) [
    | inl same ↦ (subst IsNumber same named.0, within_last i names (log_name q) (at.at (log_name q) ∙ named.1 ∙ ap log_name same))
    | inr other ↦
        let old : is_in q keys ≡ true = ap (λ b. cond b true (is_in q keys)) (sym other) ∙ sym (updates q) ∙ t in
        let p = (logs q).0 old in (p.0, within_more i names (log_name q) p.1)
  ],
  λ p. updates q ∙ elim (within_next i names (log_name q) p.1) [
    | inl w ↦ either (is_at (nat_cmp n) q) (is_in q keys) ((logs q).1 (p.0, w))
    | inr e ↦
        let same : n ≡ q = one_number law n q named.0 p.0 (sym named.1 ∙ sym (at.at (log_name q)) ∙ e) in
        ap (λ b. cond b true (is_in q keys)) (ap (λ m. is_at (nat_cmp n) m) (sym same) ∙ itself n)
  ],
)
  where
    either : (a b : Bool) → b ≡ true → cond a true b ≡ true
    either true b t = refl
    either false b t = t

pub number_passed : (i : ℕ) (names : List Name) (name : Name) (keys : List ℕ) → NameAt i names name → ((n : ℕ) → IsNameOf name (Log n) → ⊥)
    → AreLogNumbers i names keys → AreLogNumbers (i + 1) names keys
number_passed i names name keys at not logs = λ q. (
  λ t. let p = (logs q).0 t in (p.0, within_more i names (log_name q) p.1),
  λ p. elim (within_next i names (log_name q) p.1) [
    | inl w ↦ (logs q).1 (p.0, w)
    | inr e ↦ absurd (not q (p.0, sym (at.at (log_name q)) ∙ e))
  ],
)

-- the same of references to the names
module _ {X S : Type 0} (now : X → S) (f : S → Name) where
  pub one_taken : (i : ℕ) (names : List Name) (x : S) (r : X) (first : Option X) → NameAt i names (f x) → IsOther (f x)
      → MatchOption first (now r ≡ x) (λ y. ((now r ≡ now y) × (bytes_lt (f x) (f (now y)) ≡ false)) ⊎ ((now r ≡ x) × (bytes_lt (f x) (f (now y)) ≡ true)))
      → First i names (option_map (λ y. f (now y)) first) → First (i + 1) names (Some (f (now r)))
  one_taken i names x r None at other is none = taken i names (f x) (f (now r)) None at other (ap f is) none
  one_taken i names x r (Some y) at other is least = taken i names (f x) (f (now r)) (Some (f (now y))) at other
      (elim is [ inl k ↦ inl (ap f k.0, k.1) | inr k ↦ inr (ap f k.0, k.1) ]) least

  pub one_passed : (i : ℕ) (names : List Name) (x : S) (first : Option X) → NameAt i names (f x) → (IsOther (f x) → ⊥)
      → First i names (option_map (λ y. f (now y)) first) → First (i + 1) names (option_map (λ y. f (now y)) first)
  one_passed i names x first at not so_far = passed i names (f x) (option_map (λ y. f (now y)) first) at not so_far

  pub none_passed : (i n : ℕ) (names : List Name) (first : Option X) → i ≡ n → first ≡ None → First i names (option_map (λ y. f (now y)) first)
      → (name : Name) → IsWithin n names name → IsOther name → ⊥
  none_passed i n names first same is so_far =
      let P : Option X → Type 0 = λ o. First i names (option_map (λ y. f (now y)) o) in
      let Q : ℕ → Type 0 = λ k. (name : Name) → IsWithin k names name → IsOther name → ⊥ in
      subst Q same (subst P is so_far)

  pub least_passed : (i n : ℕ) (names : List Name) (first : Option X) (m : X) → i ≡ n → first ≡ Some m → First i names (option_map (λ y. f (now y)) first) → IsLeastOther n names (f (now m))
  least_passed i n names first m same is so_far =
      let P : Option X → Type 0 = λ o. First i names (option_map (λ y. f (now y)) o) in
      let Q : ℕ → Type 0 = λ k. IsLeastOther k names (f (now m)) in
      subst Q same (subst P is so_far)

pub number_next : NamesOne → (i : ℕ) (names : List Name) (name : Name) (keys next : List ℕ) → NameAt i names name → TakesName name keys next → AreLogNumbers i names keys → AreLogNumbers (i + 1) names next
number_next law i names name keys next at takes logs = elim takes [
  | inl t ↦ number_taken law i names name t.0 keys next at t.1 t.2 logs
  | inr t ↦ let P : List ℕ → Type 0 = λ ks. AreLogNumbers (i + 1) names ks in subst P (sym t.1) (number_passed i names name keys at t.0 logs)
]

pub log_is_none_else : NamesOne → (name : Name) (file : FileName) → is_log file ≡ false → IsNameOf name file → (n : ℕ) → IsNameOf name (Log n) → ⊥
log_is_none_else law name file not named n is = let same : file ≡ Log n = law name file (Log n) named is in let f : is_log (Log n) ≡ false = ap is_log (sym same) ∙ not in cc f
