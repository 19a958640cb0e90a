-- Blob files by their numbers.
use Rattle.std.proofs.Common.{◌≡◌, ◌≢◌, ℕ, zero, suc, ◌+◌, ◌<◌, ◌≤◌, nat_lt, Bool, true, false, cond, List, [], ◌∷◌, ◌++◌, length, take, drop, drop-cons, get_or, set, refl, sym, ◌∙◌, ap, subst, arith, inl, inr, get_or-set_same, get_or-set_other, add-one, append_assoc}
use Rattle.std.specs.Prelude.{◌==◌, ◌&&◌, ◌||◌, not, map, filter, count_by, Some, None}
use Rattle.std.specs.List.{AllByRecursion, list_any}
use Rattle.std.proofs.lemmas.List.{append-nil}
use Rattle.std.proofs.lemmas.Bool.{cases_eq, cases_lt, false≢true, eq-eqb, lt-ltb}
use Rattle.std.proofs.lemmas.List.Sums.{count_by_more_no, count_by_more_yes}
use Rattle.bl_edit.specs.declared.edit.BlobGarbage.{BlobGarbage}
use Rattle.bl_build.specs.declared.meta.BlobMeta.{BlobMeta}
use Rattle.bl_build.specs.Listing.{Ascends, blob_number}
use Rattle.bl_edit.specs.declared.edit.NewTable.{NewTable}
use Rattle.bl_build.specs.Versions.{linked_to, with_links, add_garbage, with_garbage, first_over, is_over, is_spent, from_linked, still_needed}
use Rattle.bl_build.proofs.Levels.{not_eqb}
use Rattle.bl_build.proofs.Placing.{all_from, all_get, strict_at}
use Rattle.bl_build.proofs.Searching.{drop_all, drop_step, present}

-- ---- garbage

pub over_count : (file : BlobMeta) (more : BlobGarbage) → file.number ≡ more.number → file.total.count < file.garbage.count + more.count → is_over (add_garbage more file) ≡ true
over_count file more same lt =
    ap (λ t. is_over (cond t (record file { garbage = record { count = file.garbage.count + more.count; bytes = file.garbage.bytes + more.bytes } }) file)) (eq-eqb file.number more.number same)
    ∙ ap (λ t. t || nat_lt file.total.bytes (file.garbage.bytes + more.bytes)) (lt-ltb file.total.count (file.garbage.count + more.count) lt)

or_true : (a : Bool) → (a || true) ≡ true
or_true true = refl
or_true false = refl

pub over_bytes : (file : BlobMeta) (more : BlobGarbage) → file.number ≡ more.number → file.total.bytes < file.garbage.bytes + more.bytes → is_over (add_garbage more file) ≡ true
over_bytes file more same lt =
    ap (λ t. is_over (cond t (record file { garbage = record { count = file.garbage.count + more.count; bytes = file.garbage.bytes + more.bytes } }) file)) (eq-eqb file.number more.number same)
    ∙ ap (λ t. nat_lt file.total.count (file.garbage.count + more.count) || t) (lt-ltb file.total.bytes (file.garbage.bytes + more.bytes) lt)
    ∙ or_true (nat_lt file.total.count (file.garbage.count + more.count))

pub other_file : (g : BlobGarbage) (b : BlobMeta) → b.number ≢ g.number → add_garbage g b ≡ b
other_file g b n = ap (λ t. cond t (record b { garbage = record { count = b.garbage.count + g.count; bytes = b.garbage.bytes + g.bytes } }) b) (not_eqb b.number g.number n)

pub other_files : (g : BlobGarbage) (bs : List BlobMeta) → AllByRecursion (λ b. b.number ≢ g.number) bs → map (add_garbage g) bs ≡ bs
other_files g [] h = refl
other_files g (b ∷ bs) h = λ i. other_file g b h.0 i ∷ other_files g bs h.1 i

over_by : (t : Bool) (g : BlobGarbage) (b : BlobMeta) → (cond t (record b { garbage = record { count = b.garbage.count + g.count; bytes = b.garbage.bytes + g.bytes } }) b).number ≡ b.number
over_by true g b = refl
over_by false g b = refl

pub same_number : (g : BlobGarbage) (b : BlobMeta) → (add_garbage g b).number ≡ b.number
same_number g b = over_by (b.number == g.number) g b

-- the test of the first file above its totals, where no file has the number, and where one has it
abbrev pub over_in : BlobGarbage → List BlobMeta → Bool
over_in g bs = list_any (λ b. (b.number == g.number) && is_over b) bs

over_none : (g : BlobGarbage) (bs : List BlobMeta) → AllByRecursion (λ b. b.number ≢ g.number) bs → over_in g bs ≡ false
over_none g [] h = refl
over_none g (b ∷ bs) h = λ i. (not_eqb b.number g.number h.0 i && is_over b) || over_none g bs h.1 i

others_behind : (number : ℕ) (b : BlobMeta) (bs : List BlobMeta) → Ascends blob_number (b ∷ bs) → b.number ≡ number → AllByRecursion (λ c. c.number ≢ number) bs
others_behind number b bs h e = all_from (λ c. b.number < c.number) (λ c. c.number ≢ number) bs (λ c lt n. omega (arith, n)) h.0

or_false : (a : Bool) → (a || false) ≡ a
or_false true = refl
or_false false = refl

pub one_file : (g : BlobGarbage) (bs : List BlobMeta) (i : ℕ) (d : BlobMeta) → Ascends blob_number bs → i < length bs → (get_or bs i d).number ≡ g.number
    → (map (add_garbage g) bs ≡ set bs i (add_garbage g (get_or bs i d))) × (over_in g (map (add_garbage g) bs) ≡ is_over (add_garbage g (get_or bs i d)))
one_file g [] i d h lt e = absurd (omega arith)
one_file g (b ∷ bs) zero d h lt e =
    let others = others_behind g.number b bs h e in
    let rest : map (add_garbage g) bs ≡ bs = other_files g bs others in (
      ap (λ xs. add_garbage g b ∷ xs) rest,
      ap (λ xs. over_in g (add_garbage g b ∷ xs)) rest
          ∙ (λ j. (eq-eqb (add_garbage g b).number g.number (same_number g b ∙ e) j && is_over (add_garbage g b)) || over_none g bs others j)
          ∙ or_false (is_over (add_garbage g b)),
    )
one_file g (b ∷ bs) (suc i) d h lt e =
    let less : b.number < (get_or bs i d).number = all_get (λ c. b.number < c.number) bs i d h.0 (omega arith) in
    let other : b.number ≢ g.number = λ n. omega (arith, n, e) in
    let rest = one_file g bs i d h.1 (omega arith) e in (
      (λ j. other_file g b other j ∷ rest.0 j),
      ap (λ c. (((c.number == g.number) && is_over c) || over_in g (map (add_garbage g) bs))) (other_file g b other)
          ∙ (λ j. (not_eqb b.number g.number other j && is_over b) || rest.1 j),
    )

pub or_parts : (a b : Bool) → (a || b) ≡ false → (a ≡ false) × (b ≡ false)
or_parts true b h = absurd cc
or_parts false b h = (refl, h)

pub any_none : (number : ℕ) (bs : List BlobMeta) → list_any (λ b. b.number == number) bs ≡ false → AllByRecursion (λ b. b.number ≢ number) bs
any_none number [] h = tt
any_none number (b ∷ bs) h =
    let t = or_parts (b.number == number) (list_any (λ c. c.number == number) bs) h in
    ((λ e. false≢true (sym t.0 ∙ eq-eqb b.number number e)), any_none number bs t.1)

-- numbers stay as they are
pub ascends_more : (g : BlobGarbage) (bs : List BlobMeta) → Ascends blob_number bs → Ascends blob_number (map (add_garbage g) bs)
ascends_more g [] h = tt
ascends_more g (b ∷ bs) h = (above bs h.0, ascends_more g bs h.1)
  where
    above : (cs : List BlobMeta) → AllByRecursion (λ c. b.number < c.number) cs → AllByRecursion (λ c. (add_garbage g b).number < c.number) (map (add_garbage g) cs)
    above [] k = tt
    above (c ∷ cs) k = (omega (arith, same_number g b, same_number g c, k.0), above cs k.1)

-- what the loop over garbage keeps
pub record Joins (old : List BlobMeta) (garbage : List BlobGarbage) (i : ℕ) (now : List BlobMeta) : Type 0 where
  pub ascends : Ascends blob_number now
  pub over : first_over old garbage ≡ first_over now (drop i garbage)
  pub added : with_garbage garbage old ≡ with_garbage (drop i garbage) now

pub joins_start : (old : List BlobMeta) (garbage : List BlobGarbage) → Ascends blob_number old → Joins old garbage 0 old
joins_start old garbage h = record { ascends = h; over = refl; added = refl }

-- one record more: of a file that is not there, and of one that is
pub joins_none : (old : List BlobMeta) (garbage : List BlobGarbage) (i : ℕ) (now : List BlobMeta) (g e : BlobGarbage) → Joins old garbage i now → i < length garbage → g ≡ get_or garbage i e
    → list_any (λ b. b.number == g.number) now ≡ false → Joins old garbage (i + 1) now
joins_none old garbage i now g e h lt is none =
    let others = any_none g.number now none in
    let same : map (add_garbage g) now ≡ now = other_files g now others in
    let rest : List BlobGarbage = drop (i + 1) garbage in
    record {
      ascends = h.ascends;
      over = h.over ∙ ap (first_over now) (drop_step garbage i g e lt is) ∙ ap (λ bs. cond (over_in g bs) (Some g.number) (first_over bs rest)) same
          ∙ ap (λ t. cond t (Some g.number) (first_over now rest)) (over_none g now others);
      added = h.added ∙ ap (λ gs. with_garbage gs now) (drop_step garbage i g e lt is) ∙ ap (with_garbage rest) same;
    }

pub joins_more : (old : List BlobMeta) (garbage : List BlobGarbage) (i : ℕ) (now next : List BlobMeta) (g e : BlobGarbage) (at : ℕ) (d file : BlobMeta) → Joins old garbage i now → i < length garbage
    → g ≡ get_or garbage i e → at < length now → (get_or now at d).number ≡ g.number → file ≡ add_garbage g (get_or now at d) → is_over file ≡ false → next ≡ set now at file → Joins old garbage (i + 1) next
joins_more old garbage i now next g e at d file h lt is within number more fits written =
    let one = one_file g now at d h.ascends within number in
    let same : map (add_garbage g) now ≡ next = one.0 ∙ ap (set now at) (sym more) ∙ sym written in
    let rest : List BlobGarbage = drop (i + 1) garbage in
    record {
      ascends = subst (Ascends blob_number) same (ascends_more g now h.ascends);
      over = h.over ∙ ap (first_over now) (drop_step garbage i g e lt is) ∙ ap (λ t. cond t (Some g.number) (first_over (map (add_garbage g) now) rest)) (one.1 ∙ ap is_over (sym more) ∙ fits)
          ∙ ap (λ bs. first_over bs rest) same;
      added = h.added ∙ ap (λ gs. with_garbage gs now) (drop_step garbage i g e lt is) ∙ ap (with_garbage rest) same;
    }

pub joins_over : (old : List BlobMeta) (garbage : List BlobGarbage) (i : ℕ) (now : List BlobMeta) (g e : BlobGarbage) (at : ℕ) (d : BlobMeta) → Joins old garbage i now → i < length garbage
    → g ≡ get_or garbage i e → at < length now → (get_or now at d).number ≡ g.number → is_over (add_garbage g (get_or now at d)) ≡ true → first_over old garbage ≡ Some g.number
joins_over old garbage i now g e at d h lt is within number over =
    let one = one_file g now at d h.ascends within number in
    let rest : List BlobGarbage = drop (i + 1) garbage in
    h.over ∙ ap (first_over now) (drop_step garbage i g e lt is) ∙ ap (λ t. cond t (Some g.number) (first_over (map (add_garbage g) now) rest)) (one.1 ∙ over)

pub joins_end : (old : List BlobMeta) (garbage : List BlobGarbage) (i : ℕ) (now : List BlobMeta) → Joins old garbage i now → length garbage ≤ i → (first_over old garbage ≡ None) × (now ≡ with_garbage garbage old)
joins_end old garbage i now h le =
    let none : drop i garbage ≡ [] = drop_all i garbage le in
    (h.over ∙ ap (first_over now) none, sym (h.added ∙ ap (λ gs. with_garbage gs now) none))

-- ---- the files that are kept

abbrev not_spent : BlobMeta → Bool
not_spent b = not (is_spent b)

-- what is left to do, once a linked file was reached and before
abbrev rest_of : Bool → List BlobMeta → List BlobMeta
rest_of reached bs = cond reached (filter not_spent bs) (still_needed bs)

pub record Keeps (all : List BlobMeta) (behind : List BlobMeta) (reached : Bool) (kept : List BlobMeta) : Type 0 where
  pub same : still_needed all ≡ kept ++ rest_of reached behind

-- one file more, with its link
abbrev reached_with : Bool → BlobMeta → Bool
reached_with reached b = reached || not (b.linked == 0)

keep_cond : (t : Bool) (b : BlobMeta) (kept rest : List BlobMeta) → kept ++ cond t (b ∷ rest) rest ≡ cond t (kept ++ b ∷ []) kept ++ rest
keep_cond true b kept rest = sym (append_assoc kept (b ∷ []) rest)
keep_cond false b kept rest = refl

-- a file that is linked is not spent
pub linked_stays : (b : BlobMeta) → (b.linked == 0) ≡ false → not_spent b ≡ true
linked_stays b e = ap (λ t. not (t && (b.garbage.count == b.total.count) && (b.garbage.bytes == b.total.bytes))) e

one_step : (reached first : Bool) (b : BlobMeta) (bs kept : List BlobMeta) → (b.linked == 0) ≡ first
    → kept ++ rest_of reached (b ∷ bs) ≡ cond ((reached || not first) && not_spent b) (kept ++ b ∷ []) kept ++ rest_of (reached || not first) bs
one_step true first b bs kept e = keep_cond (not_spent b) b kept (filter not_spent bs)
one_step false true b bs kept e = ap (λ t. kept ++ filter not_spent (cond t (from_linked bs) (b ∷ bs))) e
one_step false false b bs kept e =
    ap (λ t. kept ++ filter not_spent (cond t (from_linked bs) (b ∷ bs))) e ∙ keep_cond (not_spent b) b kept (filter not_spent bs)

pub keeps_step : (all bs kept : List BlobMeta) (b : BlobMeta) (reached : Bool) → Keeps all (b ∷ bs) reached kept
    → Keeps all bs (reached || not (b.linked == 0)) (cond ((reached || not (b.linked == 0)) && not_spent b) (kept ++ b ∷ []) kept)
keeps_step all bs kept b reached h = record { same = h.same ∙ one_step reached (b.linked == 0) b bs kept refl }

pub keeps_start : (all : List BlobMeta) → Keeps all all false []
keeps_start all = record { same = refl }

pub keeps_end : (all kept : List BlobMeta) (reached : Bool) → Keeps all [] reached kept → kept ≡ still_needed all
keeps_end all kept true h = sym (h.same ∙ append-nil kept)
keeps_end all kept false h = sym (h.same ∙ append-nil kept)

pub keeps_more : (tables : List NewTable) (xs : List BlobMeta) (i : ℕ) (x d b : BlobMeta) (reached next t : Bool) (kept after : List BlobMeta)
    → Keeps (with_links tables xs) (map (linked_to tables) (drop i xs)) reached kept → i < length xs → x ≡ get_or xs i d → b ≡ linked_to tables x → next ≡ (reached || not (b.linked == 0))
    → (next && not_spent b) ≡ t → after ≡ cond t (kept ++ b ∷ []) kept → Keeps (with_links tables xs) (map (linked_to tables) (drop (i + 1) xs)) next after
keeps_more tables xs i x d b reached next t kept after h lt is linked e f g =
    let all : List BlobMeta = with_links tables xs in
    let rest : List BlobMeta = map (linked_to tables) (drop (i + 1) xs) in
    let front : map (linked_to tables) (drop i xs) ≡ b ∷ rest =
    ap (map (linked_to tables)) (drop-cons xs i d lt ∙ (λ j. sym is j ∷ drop (sym (add-one i) j) xs)) ∙ ap (λ y. y ∷ rest) (sym linked) in
    let one = keeps_step all rest kept b reached (record { same = h.same ∙ ap (λ bs. kept ++ rest_of reached bs) front }) in
    let step : (reached || not (b.linked == 0)) ≡ next = sym e in
    let same : cond ((reached || not (b.linked == 0)) && not_spent b) (kept ++ b ∷ []) kept ≡ after = ap (λ r. cond (r && not_spent b) (kept ++ b ∷ []) kept) step ∙ ap (λ u. cond u (kept ++ b ∷ []) kept) f ∙ sym g in
    record { same = one.same ∙ (λ j. same j ++ rest_of (step j) rest) }

-- ---- how many tables are linked to each file, by the files' places

abbrev pub links_at : List NewTable → List BlobMeta → ℕ → BlobMeta → ℕ
links_at tables blobs k d = count_by (λ t. t.oldest_blob == (get_or blobs k d).number) tables

abbrev pub Counts : List NewTable → List BlobMeta → List ℕ → Type 0
Counts tables blobs links = (k : ℕ) (d : BlobMeta) → k < length blobs → get_or links k 0 ≡ links_at tables blobs k d

pub get_any : {A : Type 0} (xs : List A) (i : ℕ) (d e : A) → i < length xs → get_or xs i d ≡ get_or xs i e
get_any [] i d e lt = absurd (omega arith)
get_any (x ∷ xs) zero d e lt = refl
get_any (x ∷ xs) (suc i) d e lt = get_any xs i d e (omega arith)

-- a table that is linked to another file
link_other : (tables : List NewTable) (blobs : List BlobMeta) (i k : ℕ) (t d : NewTable) (e : BlobMeta) → i < length tables → t ≡ get_or tables i d → t.oldest_blob ≢ (get_or blobs k e).number
    → links_at (take (i + 1) tables) blobs k e ≡ links_at (take i tables) blobs k e
link_other tables blobs i k t d e lt is other =
    let n : ℕ = (get_or blobs k e).number in
    count_by_more_no (λ u. u.oldest_blob == n) tables i d lt (ap (λ u. u.oldest_blob == n) (sym is) ∙ not_eqb t.oldest_blob n other)

pub counts_none : (tables : List NewTable) (blobs : List BlobMeta) (links : List ℕ) (i : ℕ) (t d : NewTable) → i < length tables → t ≡ get_or tables i d → list_any (λ b. b.number == t.oldest_blob) blobs ≡ false
    → Counts (take i tables) blobs links → Counts (take (i + 1) tables) blobs links
counts_none tables blobs links i t d lt is none h k e lt2 =
    h k e lt2 ∙ sym (link_other tables blobs i k t d e lt is (λ same. false≢true (sym none ∙ present blob_number t.oldest_blob k blobs e lt2 (sym same))))

pub counts_more : (tables : List NewTable) (blobs : List BlobMeta) (links : List ℕ) (i at v : ℕ) (t d : NewTable) → i < length tables → t ≡ get_or tables i d → Ascends blob_number blobs → length links ≡ length blobs
    → at < length blobs → ((e : BlobMeta) → (get_or blobs at e).number ≡ t.oldest_blob) → v ≡ get_or links at 0 + 1 → Counts (take i tables) blobs links → Counts (take (i + 1) tables) blobs (set links at v)
counts_more tables blobs links i at v t d lt is ascends same within number more h k e lt2 = elim (cases_eq k at) [
  | inl here ↦
      let n : ℕ = (get_or blobs at e).number in
      let one : links_at (take (i + 1) tables) blobs at e ≡ links_at (take i tables) blobs at e + 1 =
      count_by_more_yes (λ u. u.oldest_blob == n) tables i d lt (ap (λ u. u.oldest_blob == n) (sym is) ∙ eq-eqb t.oldest_blob n (sym (number e))) in
      subst (λ (j : ℕ). get_or (set links at v) j 0 ≡ links_at (take (i + 1) tables) blobs j e) (sym here)
      (get_or-set_same links at v 0 (omega arith) ∙ more ∙ ap (λ m. m + 1) (h at e within) ∙ sym one)
  | inr there ↦
      let other : t.oldest_blob ≢ (get_or blobs k e).number = λ q.
      elim (cases_lt k at) [
        | inl less ↦
            let below : (get_or blobs k e).number < (get_or blobs at e).number = strict_at blob_number blobs ascends k at e less within in
            omega (arith, below, number e, q)
        | inr ge ↦
            let after : at < k = omega (arith, there, ge) in
            let above : (get_or blobs at e).number < (get_or blobs k e).number = strict_at blob_number blobs ascends at k e after lt2 in
            omega (arith, above, number e, q)
      ] in
      get_or-set_other links at k v 0 there ∙ h k e lt2 ∙ sym (link_other tables blobs i k t d e lt is other)
]
