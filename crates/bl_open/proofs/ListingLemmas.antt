-- The files of a folder, by their names.
use Rattle.std.proofs.Common.{◌≡◌, ◌↔◌, ◌⊎◌, inl, inr, ℕ, suc, ◌+◌, ◌<◌, ◌≤◌, ◌^◌, List, [], ◌∷◌, ◌++◌, Bool, true, false, cond, length, map, take, get_or, All, Contains, Option, None, Some, IsSome, IsTrue, refl, sym, ◌∙◌, ap, subst, arith}
use Rattle.std.specs.Prelude.{MatchOption, max, ◌||◌, ◌==◌, unwrap_or, is_some}
use Rattle.std.specs.List.{AllByRecursion, list_any}
use Rattle.std.specs.List.Sorted.{IsStrictlySortedBy}
use Rattle.std.specs.Option.{option_map}
use Rattle.std.specs.BTreeMap.{is_at}
use Rattle.std.specs.Ordering.{is_lt, is_eq, nat_cmp, ord_max}
use Rattle.std.specs.Cmp.{ranked, tied_itself}
use Rattle.std.specs.Cmp.Lexicographic.{nat_list_cmp_total}
use Rattle.std.specs.declared.cmp.Ordering.TheVariants.{Less, Equal, Greater}
use Rattle.std.proofs.lemmas.Bool.{and_parts, cases_lt, le-ltb, leb-true, lt-ltb, or_right}
use Rattle.std.proofs.lemmas.List.{get_or-map, length-map, take_more}
use Rattle.std.proofs.lemmas.List.Elements.{All-from_recursion, All-nil, All-push, All-weaker, All-contains, Contains-append_left, Contains-push, Contains-push_cases}
use Rattle.bl_code.specs.Order.{bytes_cmp, bytes_lt}
use Rattle.bl_code.proofs.Basics.{less_is, nat_cmp_equal, nat_cmp_less}
use Rattle.bl_site.specs.Disk.{Disk, File, Folder, Name, folder_of}
use Rattle.bl_names.specs.declared.name.FileName.{FileName}
use Rattle.bl_names.specs.declared.name.FileName.TheVariants.{Current, Manifest, Log, Table, Blob, Temp}
use Rattle.bl_names.specs.Names.{HasNumber, IsNameOf, IsNumber, name_of}
use Rattle.bl_out.specs.Files.{file}
use Rattle.bl_edit.specs.Bounds.{is_number}
use Rattle.bl_folder.specs.Files.{log_bytes}
use Rattle.bl_folder.specs.Live.{IsFresh}
use Rattle.bl_folder.specs.Numbers.{number_of}
use Rattle.bl_open.specs.Listing.{AreListed, AreLogs, AreNamed, IsFirstStray, IsGreatest, IsStray, IsStrayFile}

-- ---- the files among names

pub no_names : AreNamed [] []
no_names = record {
  each = All-nil (λ (f : FileName). HasNumber f × Contains [] (name_of f));
  all = All-nil (λ (name : Name). (f : FileName) → IsNameOf name f → Contains [] f);
}

-- a foreign name more
pub foreign_more : (names : List Name) (files : List FileName) (name : Name) → ((f : FileName) → IsNameOf name f → ⊥) → AreNamed names files → AreNamed (names ++ name ∷ []) files
foreign_more names files name not a = record {
  each = All-weaker (λ (f : FileName). HasNumber f × Contains names (name_of f)) (λ (f : FileName). HasNumber f × Contains (names ++ name ∷ []) (name_of f)) (λ f p. (p.0, Contains-append_left names (name ∷ []) (name_of f) p.1)) files a.each;
  all = All-push (λ (n : Name). (f : FileName) → IsNameOf n f → Contains files f) names name a.all (λ f is. absurd (not f is));
}

-- the name of a file more
pub named_more : (names : List Name) (files : List FileName) (name : Name) (f : FileName) → IsNameOf name f → ((g : FileName) → IsNameOf name g → g ≡ f) → AreNamed names files
    → AreNamed (names ++ name ∷ []) (files ++ f ∷ [])
named_more names files name f is one a =
    let P : FileName → Type 0 = λ g. HasNumber g × Contains (names ++ name ∷ []) (name_of g) in
    let Q : Name → Type 0 = λ n. (g : FileName) → IsNameOf n g → Contains (files ++ f ∷ []) g in
    record {
      each = All-push P files f (All-weaker (λ (g : FileName). HasNumber g × Contains names (name_of g)) P (λ g p. (p.0, Contains-append_left names (name ∷ []) (name_of g) p.1)) files a.each)
          (is.0, subst (λ (n : Name). Contains (names ++ name ∷ []) n) is.1 (Contains-push names name));
      all = All-push Q names name (All-weaker (λ (n : Name). (g : FileName) → IsNameOf n g → Contains files g) Q (λ n p g h. Contains-append_left files (f ∷ []) g (p g h)) names a.all)
          (λ g h. subst (λ (x : FileName). Contains (files ++ f ∷ []) x) (sym (one g h)) (Contains-push files f));
    }

there_reads : (o : Option File) → IsSome o → IsSome (option_map (λ (x : File). x.read) o)
there_reads None some = absurd (cc some)
there_reads (Some x) some = refl

was_some : (o : Option File) → IsSome (option_map (λ (x : File). x.read) o) → IsSome o
was_some None some = absurd (cc some)
was_some (Some x) some = refl

-- the next name
pub name_next : {X : Type 0} (f : X → Name) (xs : List X) (i : ℕ) (x : X) → i < length xs → x ≡ get_or xs i x → take (i + 1) (map f xs) ≡ take i (map f xs) ++ f x ∷ []
name_next f xs i x lt at = take_more (map f xs) i (f x) (omega (arith, lt, length-map xs f)) ∙ ap (λ n. take i (map f xs) ++ n ∷ []) (get_or-map f xs i x (f x) lt ∙ ap f (sym at))

-- where the names are those of a disk
pub listed : (disk : Disk) (names : List Name) (files : List FileName) → ((name : Name) → Contains names name ↔ IsSome (disk name)) → AreNamed names files → AreListed (folder_of disk) files
listed disk names files value a = record {
  each = All-weaker (λ (f : FileName). HasNumber f × Contains names (name_of f)) (λ (f : FileName). HasNumber f × IsSome (file (folder_of disk) f)) (λ f p. (p.0, there_reads (disk (name_of f)) ((value (name_of f)).0 p.1))) files a.each;
  all = λ f number some. All-contains (λ (n : Name). (g : FileName) → IsNameOf n g → Contains files g) names (name_of f) a.all ((value (name_of f)).1 (was_some (disk (name_of f)) some)) f (number, refl);
}

pub numbers_of : (names : List Name) (files : List FileName) → AreNamed names files → All HasNumber files
numbers_of names files a = All-weaker (λ (f : FileName). HasNumber f × Contains names (name_of f)) HasNumber (λ f p. p.0) files a.each

-- whether a file is there
pub is_listed : (folder : Folder) (files : List FileName) (f : FileName) (b : Bool) → AreListed folder files → HasNumber f → (IsTrue b ↔ Contains files f) → IsTrue b ↔ IsSome (file folder f)
is_listed folder files f b l number is = ((λ t. (All-contains (λ (x : FileName). HasNumber x × IsSome (file folder x)) files f l.each (is.0 t)).1), (λ some. is.1 (l.all f number some)))

pub not_listed : (o : Option (List ℕ)) (b : Bool) → b ≡ false → (IsTrue b ↔ IsSome o) → o ≡ None
not_listed None b f is = refl
not_listed (Some bytes) b f is = let t : b ≡ true = is.1 refl in cc (t, f)

-- ---- the greatest number

pub record GreatestOf (files : List FileName) (n : ℕ) : Type 0 where
  pub above : All (λ f. number_of f ≤ n) files
  pub one : (n ≡ 0) ⊎ ((f : FileName) × Contains files f × (number_of f ≡ n))

pub none_greatest : GreatestOf [] 0
none_greatest = record { above = All-nil (λ (f : FileName). number_of f ≤ 0); one = inl refl }

pub greatest_more : (files : List FileName) (f : FileName) (n m : ℕ) → m ≡ max n (number_of f) → GreatestOf files n → GreatestOf (files ++ f ∷ []) m
greatest_more files f n m is g = record {
  above = All-push (λ (x : FileName). number_of x ≤ m) files f (All-weaker (λ (x : FileName). number_of x ≤ n) (λ (x : FileName). number_of x ≤ m) (λ x le. omega (arith, le, is)) files g.above) (omega (arith, is));
  one = elim (cases_lt n (number_of f)) [
    | inl lt ↦ inr (f, Contains-push files f, omega (arith, is, lt))
    | inr le ↦
        let same : n ≡ m = omega (arith, is, le) in
        elim g.one [ inl zero ↦ inl (sym same ∙ zero) | inr w ↦ inr (w.0, Contains-append_left files (f ∷ []) w.0 w.1, w.2 ∙ same) ]
  ];
}

-- the greater of two numbers
pub max_is : (a b : ℕ) → ord_max nat_cmp a b ≡ max a b
max_is a b = elim (cases_lt b a) [
  | inl lt ↦ let is : a ≡ max a b = omega (arith, lt) in ap (λ t. cond (is_lt (cond t Less (cond (b == a) Equal Greater))) a b) (lt-ltb b a lt) ∙ is
  | inr le ↦ let is : b ≡ max a b = omega (arith, le) in ap (λ t. cond (is_lt (cond t Less (cond (b == a) Equal Greater))) a b) (le-ltb b a le) ∙ ap (λ t. cond t a b) (not_less (b == a)) ∙ is
]
  where
    not_less : (t : Bool) → is_lt (cond t Equal Greater) ≡ false
    not_less true = refl
    not_less false = refl

small_number : (f : FileName) → HasNumber f → number_of f < 10 ^ 15
small_number Current h = omega arith
small_number (Manifest n) h = h.1
small_number (Log n) h = h.1
small_number (Table n) h = h.1
small_number (Blob n) h = h.1
small_number (Temp n) h = h.1

pub greatest_small : (files : List FileName) (n : ℕ) → All HasNumber files → GreatestOf files n → n < 10 ^ 15
greatest_small files n numbers g = elim g.one [
  | inl zero ↦ omega (arith, zero)
  | inr w ↦ omega (arith, small_number w.0 (All-contains HasNumber files w.0 numbers w.1), w.2)
]

pub greatest_there : (folder : Folder) (files : List FileName) (n : ℕ) → AreListed folder files → GreatestOf files n → IsGreatest folder n
greatest_there folder files n l g = record {
  above = λ f number some. All-contains (λ (x : FileName). number_of x ≤ n) files f g.above (l.all f number some);
  one = elim g.one [
    | inl zero ↦ inl zero
    | inr w ↦ let p = All-contains (λ (x : FileName). HasNumber x × IsSome (file folder x)) files w.0 l.each w.1 in inr (w.0, p.0, p.1, w.2)
  ];
}

-- ---- the numbers of logs

abbrev pub is_in : ℕ → List ℕ → Bool
is_in n ns = list_any (is_at (nat_cmp n)) ns

abbrev pub LogsOf : List FileName → List ℕ → Type 0
LogsOf files keys = (n : ℕ) → IsTrue (is_in n keys) ↔ Contains files (Log n)

nothing_in : (x : FileName) → Contains [] x → ⊥
nothing_in x (k, lt, e) = absurd (omega (arith, lt))

pub no_logs : LogsOf [] []
no_logs = λ n. ((λ t. cc t), (λ w. absurd (nothing_in (Log n) w)))

itself : (n : ℕ) → is_at (nat_cmp n) n ≡ true
itself n = elim (nat_cmp n n) as (λ o. nat_cmp n n ≡ o → is_eq o ≡ true) [
  | Less ↦ λ e. absurd (omega (arith, nat_cmp_less n n e))
  | Equal ↦ λ e. refl
  | Greater ↦ λ e. absurd (omega (arith, ranked n n Greater (sym e)))
] refl

same_number : (n q : ℕ) → (n ≡ q) ⊎ (is_at (nat_cmp n) q ≡ false)
same_number n q = elim (nat_cmp n q) as (λ o. nat_cmp n q ≡ o → (n ≡ q) ⊎ (is_eq o ≡ false)) [
  | Less ↦ λ e. inr refl
  | Equal ↦ λ e. inl (nat_cmp_equal n q e)
  | Greater ↦ λ e. inr refl
] refl

log_number : FileName → ℕ → ℕ
log_number (Log n) d = n
log_number Current d = d
log_number (Manifest n) d = d
log_number (Table n) d = d
log_number (Blob n) d = d
log_number (Temp n) d = d

same_log : (m n : ℕ) → Log m ≡ Log n → m ≡ n
unfolding log_number
same_log m n e = ap (λ f. log_number f 0) e

-- a log more
pub log_more : (files : List FileName) (f : FileName) (number : ℕ) (keys next : List ℕ) → f ≡ Log number → ((q : ℕ) → is_in q next ≡ cond (is_at (nat_cmp number) q) true (is_in q keys))
    → LogsOf files keys → LogsOf (files ++ f ∷ []) next
log_more files f number keys next is updates logs = λ q. (
  λ t. elim (same_number number q) [
    | inl same ↦ let named : f ≡ Log q = is ∙ ap (λ n. Log n) same in subst (λ (x : FileName). Contains (files ++ f ∷ []) x) named (Contains-push files f)
    | inr other ↦
        let old : is_in q keys ≡ true = ap (λ b. cond b true (is_in q keys)) (sym other) ∙ sym (updates q) ∙ t in
        Contains-append_left files (f ∷ []) (Log q) ((logs q).0 old)
  ],
  λ w. updates q ∙ elim (Contains-push_cases files f (Log q) w) [
    | inl old ↦ either (is_at (nat_cmp number) q) (is_in q keys) ((logs q).1 old)
    | inr new ↦ let same : number ≡ q = same_log number q (sym is ∙ new) in ap (λ b. cond b true (is_in q keys)) (ap (is_at (nat_cmp number)) (sym same) ∙ itself number)
  ],
)
  where
    either : (a b : Bool) → b ≡ true → cond a true b ≡ true
    either true b t = refl
    either false b t = t

-- another file more
pub log_passed : (files : List FileName) (f : FileName) (keys : List ℕ) → ((n : ℕ) → f ≡ Log n → ⊥) → LogsOf files keys → LogsOf (files ++ f ∷ []) keys
log_passed files f keys not logs = λ q. (
  λ t. Contains-append_left files (f ∷ []) (Log q) ((logs q).0 t),
  λ w. elim (Contains-push_cases files f (Log q) w) [ inl old ↦ (logs q).1 old | inr new ↦ absurd (not q new) ],
)

each_in : (P : ℕ → Type 0) (keys : List ℕ) → ((n : ℕ) → IsTrue (is_in n keys) → P n) → AllByRecursion P keys
each_in P [] h = tt
each_in P (k ∷ keys) h = (
  h k (ap (λ b. b || is_in k keys) (itself k)),
  each_in P keys (λ n t. h n (or_right (is_at (nat_cmp n) k) (is_in n keys) t)),
)

place_in : (n : ℕ) (keys : List ℕ) → is_in n keys ≡ true → Contains keys n
place_in n [] t = cc t
place_in n (k ∷ keys) t = elim (same_number n k) [
  | inl same ↦ (0, omega arith, sym same)
  | inr other ↦ let rest : is_in n keys ≡ true = ap (λ b. b || is_in n keys) (sym other) ∙ t in let p = place_in n keys rest in (p.0 + 1, omega (arith, p.1), at_next p.0 p.2)
]
  where
    at_next : (i : ℕ) → get_or keys i n ≡ n → get_or (k ∷ keys) (i + 1) n ≡ n
    at_next i e = let s : i + 1 ≡ suc i = omega arith in ap (λ j. get_or (k ∷ keys) j n) s ∙ e

logs_in : (files : List FileName) (numbers : List ℕ) → LogsOf files numbers → All (λ n. Contains files (Log n)) numbers
logs_in files numbers logs = All-from_recursion (λ n. Contains files (Log n)) numbers (each_in (λ n. Contains files (Log n)) numbers (λ n t. (logs n).0 t))

pub logs_are : (folder : Folder) (files : List FileName) (keys numbers : List ℕ) → numbers ≡ keys → IsStrictlySortedBy nat_cmp numbers → LogsOf files keys → AreListed folder files → AreLogs folder numbers
logs_are folder files keys numbers same sorted logs l =
    let of_these : LogsOf files numbers = subst (λ (ns : List ℕ). LogsOf files ns) (sym same) logs in
    record {
      ascend = sorted;
      each = All-weaker (λ n. Contains files (Log n)) (λ n. IsNumber n × IsSome (file folder (Log n)))
          (λ n w. All-contains (λ (f : FileName). HasNumber f × IsSome (file folder f)) files (Log n) l.each w) numbers (logs_in files numbers of_these);
      all = λ n number some. place_in n numbers ((of_these n).1 (l.all (Log n) number some));
    }

pub log_numbers_of : (files : List FileName) (keys numbers : List ℕ) → numbers ≡ keys → LogsOf files keys → All HasNumber files → All IsNumber numbers
log_numbers_of files keys numbers same logs all =
    let of_these : LogsOf files numbers = subst (λ (ns : List ℕ). LogsOf files ns) (sym same) logs in
    All-weaker (λ n. Contains files (Log n)) IsNumber (λ n w. All-contains HasNumber files (Log n) all w) numbers (logs_in files numbers of_these)

-- ---- the first stray

-- of the files so far none is stray, or this is the name of the first that is
pub record FirstAmong (folder : Folder) (files : List FileName) (name : Name) : Type 0 where
  pub found : FileName
  pub stray : IsStray folder found
  pub name_is : name ≡ name_of found
  pub first : All (λ f. IsStray folder f → bytes_lt (name_of f) name ≡ false) files

abbrev pub First : Folder → List FileName → Option Name → Type 0
First folder files first = MatchOption first (All (λ f. IsStray folder f → ⊥) files) (FirstAmong folder files)

pub none_first : (folder : Folder) → First folder [] None
none_first folder = All-nil (λ (f : FileName). IsStray folder f → ⊥)

-- a file more that is not stray
pub stray_passed : (folder : Folder) (files : List FileName) (f : FileName) (first : Option Name) → (IsStray folder f → ⊥) → First folder files first → First folder (files ++ f ∷ []) first
stray_passed folder files f None not none = All-push (λ (x : FileName). IsStray folder x → ⊥) files f none not
stray_passed folder files f (Some m) not a = record {
  found = a.found;
  stray = a.stray;
  name_is = a.name_is;
  first = All-push (λ (x : FileName). IsStray folder x → bytes_lt (name_of x) m ≡ false) files f a.first (λ s. absurd (not s));
}

irreflexive : (a : List ℕ) → bytes_lt a a ≡ false
irreflexive a = ap is_lt (tied_itself nat_list_cmp_total a)

less_then : (a b c : List ℕ) → bytes_lt a b ≡ true → bytes_lt c b ≡ false → bytes_lt c a ≡ false
less_then a b c t f = elim (bytes_cmp c a) as (λ o. bytes_cmp c a ≡ o → is_lt o ≡ false) [
  | Less ↦ λ e. let less : bytes_lt c b ≡ true = ap is_lt (nat_list_cmp_total.trans c a b e (less_is (bytes_cmp a b) t)) in cc (less, f)
  | Equal ↦ λ e. refl
  | Greater ↦ λ e. refl
] refl

-- a stray file more
pub stray_taken : (folder : Folder) (files : List FileName) (f : FileName) (name result : Name) (first : Option Name) → name ≡ name_of f → IsStray folder f
    → MatchOption first (result ≡ name) (λ m. ((result ≡ m) × (bytes_lt name m ≡ false)) ⊎ ((result ≡ name) × (bytes_lt name m ≡ true)))
    → First folder files first → FirstAmong folder (files ++ f ∷ []) result
stray_taken folder files f name result None named stray is none =
    let P : FileName → Type 0 = λ x. IsStray folder x → bytes_lt (name_of x) result ≡ false in
    record {
      found = f;
      stray = stray;
      name_is = is ∙ named;
      first = All-push P files f (All-weaker (λ (x : FileName). IsStray folder x → ⊥) P (λ x no s. absurd (no s)) files none) (λ s. ap (λ n. bytes_lt n result) (sym named ∙ sym is) ∙ irreflexive result);
    }
stray_taken folder files f name result (Some m) named stray is a =
    let P : FileName → Type 0 = λ x. IsStray folder x → bytes_lt (name_of x) result ≡ false in
    elim is [
      | inl kept ↦ record {
        found = a.found;
        stray = a.stray;
        name_is = kept.0 ∙ a.name_is;
        first = All-push P files f (All-weaker (λ (x : FileName). IsStray folder x → bytes_lt (name_of x) m ≡ false) P (λ x h s. ap (bytes_lt (name_of x)) kept.0 ∙ h s) files a.first)
            (λ s. ap (λ n. bytes_lt n result) (sym named) ∙ ap (bytes_lt name) kept.0 ∙ kept.1);
      }
      | inr new ↦ record {
        found = f;
        stray = stray;
        name_is = new.0 ∙ named;
        first = All-push P files f
            (All-weaker (λ (x : FileName). IsStray folder x → bytes_lt (name_of x) m ≡ false) P (λ x h s. ap (bytes_lt (name_of x)) new.0 ∙ less_then name m (name_of x) new.1 (h s)) files a.first)
            (λ s. ap (λ n. bytes_lt n result) (sym named ∙ sym new.0) ∙ irreflexive result);
      }
    ]

-- the same of references to names
pub map_match : {X Y : Type 0} (f : X → Y) (o : Option X) (P : Type 0) (Q : Y → Type 0) → MatchOption o P (λ x. Q (f x)) → MatchOption (option_map f o) P Q
map_match f None P Q h = h
map_match f (Some x) P Q h = h

-- the first of all files is the first in the folder
pub first_there : (folder : Folder) (files : List FileName) (name : Name) → file folder Current ≡ None → AreListed folder files → FirstAmong folder files name → IsFirstStray folder name
first_there folder files name no_current l a = record {
  no_current = no_current;
  found = a.found;
  stray = a.stray;
  name_is = a.name_is;
  first = λ f s. All-contains (λ (x : FileName). IsStray folder x → bytes_lt (name_of x) name ≡ false) files f a.first (l.all f s.number (ap is_there s.there)) s;
}
  where
    is_there : Option (List ℕ) → Bool
    is_there None = false
    is_there (Some bytes) = true

not_there : (o : Option (List ℕ)) → ((bytes : List ℕ) → o ≡ Some bytes → ⊥) → o ≡ None
not_there None not = refl
not_there (Some bytes) not = absurd (not bytes refl)

no_byte : (o : Option (List ℕ)) → ((bytes : List ℕ) → o ≡ Some bytes → (bytes ≡ [] → ⊥) → ⊥) → unwrap_or o [] ≡ []
no_byte None not = refl
no_byte (Some []) not = refl
no_byte (Some (b ∷ bytes)) not = absurd (not (b ∷ bytes) refl (λ e. cc e))

number_is : (n : ℕ) → is_number n ≡ true → IsNumber n
number_is n t = let p = and_parts _ _ t in (leb-true 1 n p.0, omega (arith, leb-true n 999999999999999 p.1))

-- without CURRENT and a stray file the folder is fresh
pub fresh_is : (folder : Folder) (files : List FileName) → file folder Current ≡ None → AreListed folder files → All (λ f. IsStray folder f → ⊥) files → IsFresh folder
fresh_is folder files no_current l none = record {
  current = no_current;
  tables = λ n is. not_there (file folder (Table n)) (λ bytes there. no_stray (Table n) is bytes there tt);
  blobs = λ n is. not_there (file folder (Blob n)) (λ bytes there. no_stray (Blob n) is bytes there tt);
  logs = λ n. log n (is_number n) refl;
}
  where
    no_stray : (f : FileName) → HasNumber f → (bytes : List ℕ) → file folder f ≡ Some bytes → IsStrayFile f bytes → ⊥
    no_stray f number bytes there s = All-contains (λ (x : FileName). IsStray folder x → ⊥) files f none (l.all f number (ap is_some there)) (record { number = number; bytes = bytes; there = there; stray = s })

    log : (n : ℕ) (b : Bool) → is_number n ≡ b → log_bytes folder n ≡ []
    log n false t = ap (λ b. cond b (unwrap_or (file folder (Log n)) []) []) t
    log n true t =
        ap (λ b. cond b (unwrap_or (file folder (Log n)) []) []) t
        ∙ no_byte (file folder (Log n)) (λ bytes there some. no_stray (Log n) (number_is n t) bytes there some)
