-- How many tables and blob files there are at most, and small products.
use Rattle.std.proofs.Common.{◌≡◌, ℕ, suc, ◌+◌, ◌*◌, ◌^◌, ◌<◌, ◌≤◌, ◌==◌, Bool, true, false, cond, List, [], ◌∷◌, length, take, drop, refl, sym, ◌∙◌, ap, subst, arith, lit<, lit≤, add-one}
use Rattle.std.specs.Prelude.{◌&&◌, IsTrue, filter, nat_le}
use Rattle.std.specs.List.{AllByRecursion, take_while}
use Rattle.std.proofs.Math.Nat.{pow-le-pow_left, pow-le-pow_right, one-le-pow, mul-le-mul_left}
use Rattle.std.proofs.lemmas.List.Sums.{take_while-cons}
use Rattle.bl_edit.specs.Bounds.{table_fits, is_number, is_level, is_key, is_seq}
use Rattle.bl_edit.specs.declared.edit.NewTable.{NewTable}
use Rattle.bl_build.specs.declared.meta.BlobMeta.{BlobMeta}
use Rattle.bl_build.specs.Listing.{Ascends, Listing, at_level, blob_number, table_rank}
use Rattle.bl_build.specs.Versions.{IsVersion}
use Rattle.bl_pick.specs.Picking.{oldest_batch}

pub by_test : {C : Type 0} (b : Bool) → (b ≡ true → C) → (b ≡ false → C) → C
by_test true f g = f refl
by_test false f g = g refl

-- ---- numbers that ascend

all_from : {A : Type 0} (P Q : A → Type 0) (xs : List A) → ((x : A) → P x → Q x) → AllByRecursion P xs → AllByRecursion Q xs
all_from P Q [] f h = tt
all_from P Q (x ∷ xs) f h = (f x h.0, all_from P Q xs f h.1)

few : {A : Type 0} (key : A → ℕ) (low high : ℕ) (xs : List A) → low ≤ high → AllByRecursion (λ x. low ≤ key x) xs → AllByRecursion (λ x. key x < high) xs → Ascends key xs → length xs + low ≤ high
few key low high [] le from below up = omega arith
few key low high (x ∷ xs) le from below up =
    let rest : length xs + suc (key x) ≤ high = few key (suc (key x)) high xs (omega (arith, below.0)) (all_from (λ y. key x < key y) (λ y. suc (key x) ≤ key y) xs (λ y h. omega (arith, h)) up.0) below.1 up.1 in
    omega (arith, from.0, rest)

from_zero : {A : Type 0} (key : A → ℕ) (xs : List A) → AllByRecursion (λ x. 0 ≤ key x) xs
from_zero key [] = tt
from_zero key (x ∷ xs) = (omega arith, from_zero key xs)

and_left : (a b : Bool) → (a && b) ≡ true → a ≡ true
and_left true b h = refl
and_left false b h = h

and_right : (a b : Bool) → (a && b) ≡ true → b ≡ true
and_right true b h = h
and_right false b h = absurd (let wrong : false ≡ true = h in cc wrong)

number_small : (n : ℕ) → is_number n ≡ true → n < 1000000000000000
number_small n h = let le : nat_le n 999999999999999 ≡ true = and_right (nat_le 1 n) (nat_le n 999999999999999) h in small n le
  where
    small : (m : ℕ) → nat_le m 999999999999999 ≡ true → m < 1000000000000000
    small m e = grind arith

table_number : (t : NewTable) → table_fits t ≡ true → t.number < 1000000000000000
table_number t h =
    number_small t.number (and_right (is_level t.level) (is_number t.number)
    (and_left (is_level t.level && is_number t.number) (is_key t.smallest)
    (and_left (is_level t.level && is_number t.number && is_key t.smallest) (is_key t.largest)
    (and_left (is_level t.level && is_number t.number && is_key t.smallest && is_key t.largest) (is_seq t.least_seq)
    (and_left (is_level t.level && is_number t.number && is_key t.smallest && is_key t.largest && is_seq t.least_seq) (is_seq t.most_seq)
    (and_left (is_level t.level && is_number t.number && is_key t.smallest && is_key t.largest && is_seq t.least_seq && is_seq t.most_seq) _ h))))))

-- the tables of a level
kept_all : {A : Type 0} (P : A → Type 0) (p : A → Bool) (xs : List A) → AllByRecursion P xs → AllByRecursion P (filter p xs)
kept_all P p [] h = tt
kept_all P p (x ∷ xs) h = elim (p x) as (λ b. AllByRecursion P (cond b (x ∷ filter p xs) (filter p xs))) [ true ↦ (h.0, kept_all P p xs h.1) | false ↦ kept_all P p xs h.1 ]

level_behind : (level : ℕ) (t : NewTable) (ts : List NewTable) → t.level ≡ level → AllByRecursion (λ y. table_rank t < table_rank y) ts → AllByRecursion (λ y. t.number < y.number) (at_level level ts)
level_behind level t [] is h = tt
level_behind level t (y ∷ ts) is h =
    by_test (y.level == level)
    (λ e.
    let same : y.level ≡ level = grind arith in
    let less : t.number < y.number = omega (arith, h.0, ap (λ n. n * 2 ^ 64) (is ∙ sym same)) in
    subst (λ b. AllByRecursion (λ z. t.number < z.number) (cond b (y ∷ at_level level ts) (at_level level ts))) (sym e) (less, level_behind level t ts is h.1))
    (λ e. subst (λ b. AllByRecursion (λ z. t.number < z.number) (cond b (y ∷ at_level level ts) (at_level level ts))) (sym e) (level_behind level t ts is h.1))

level_ascends : (level : ℕ) (ts : List NewTable) → Ascends table_rank ts → Ascends (λ t. t.number) (at_level level ts)
level_ascends level [] h = tt
level_ascends level (t ∷ ts) h =
    by_test (t.level == level)
    (λ e.
    let same : t.level ≡ level = grind arith in
    subst (λ b. Ascends (λ z. z.number) (cond b (t ∷ at_level level ts) (at_level level ts))) (sym e) (level_behind level t ts same h.0, level_ascends level ts h.1))
    (λ e. subst (λ b. Ascends (λ z. z.number) (cond b (t ∷ at_level level ts) (at_level level ts))) (sym e) (level_ascends level ts h.1))

pub few_tables : (v : Listing) (level : ℕ) (tables : List NewTable) → IsVersion v → tables ≡ at_level level v.tables → length tables ≤ 1000000000000000
few_tables v level tables h is =
    let below = kept_all (λ (t : NewTable). t.number < 1000000000000000) (λ t. t.level == level) v.tables
    (all_from (λ t. IsTrue (table_fits t)) (λ t. t.number < 1000000000000000) v.tables (λ t f. table_number t f) h.tables_fit) in
    let most : length (at_level level v.tables) + 0 ≤ 1000000000000000 =
    few (λ (t : NewTable). t.number) 0 1000000000000000 (at_level level v.tables) (lit≤ tt) (from_zero (λ (t : NewTable). t.number) (at_level level v.tables)) below (level_ascends level v.tables h.tables_ascend) in
    omega (arith, most, ap length is)

few_blobs : (v : Listing) → IsVersion v → length v.blobs ≤ 1000000000000000
few_blobs v h =
    let most : length v.blobs + 0 ≤ 1000000000000000 =
    few blob_number 0 1000000000000000 v.blobs (lit≤ tt) (from_zero blob_number v.blobs)
    (all_from (λ (b : BlobMeta). IsTrue (is_number b.number)) (λ b. b.number < 1000000000000000) v.blobs (λ b f. number_small b.number f) h.blobs_fit) h.blobs_ascend in
    omega (arith, most)

-- ---- the oldest batch

front_is : {A : Type 0} (p : A → Bool) (xs : List A) → take (length (take_while p xs)) xs ≡ take_while p xs
front_is p [] = refl
front_is p (x ∷ xs) =
    by_test (p x)
    (λ e.
    let cons : take_while p (x ∷ xs) ≡ x ∷ take_while p xs = take_while-cons p x xs ∙ ap (λ b. cond b (x ∷ take_while p xs) []) e in
    ap (λ ys. take (length ys) (x ∷ xs)) cons ∙ ap (λ ys. x ∷ ys) (front_is p xs) ∙ sym cons)
    (λ e.
    let cons : take_while p (x ∷ xs) ≡ [] = take_while-cons p x xs ∙ ap (λ b. cond b (x ∷ take_while p xs) []) e in
    ap (λ ys. take (length ys) (x ∷ xs)) cons ∙ sym cons)

pub batch_is : (blobs rest : List BlobMeta) (b : BlobMeta) (n : ℕ) → blobs ≡ b ∷ rest → n ≡ length (take_while (λ c. c.linked == 0) rest) → take (n + 1) blobs ≡ oldest_batch blobs
batch_is blobs rest b n is count =
    ap (take (n + 1)) is ∙ ap (λ k. take k (b ∷ rest)) (add-one n) ∙ ap (λ k. b ∷ take k rest) count ∙ ap (λ ys. b ∷ ys) (front_is (λ c. c.linked == 0) rest) ∙ sym (ap oldest_batch is)

pub batch_cut : (blobs : List BlobMeta) (n : ℕ) → (length blobs ≡ 0 → ⊥) → n ≡ length (take_while (λ c. c.linked == 0) (drop 1 blobs)) → take (n + 1) blobs ≡ oldest_batch blobs
batch_cut [] n some count = absurd (some refl)
batch_cut (b ∷ rest) n some count = batch_is (b ∷ rest) rest b n refl count

while_short : {A : Type 0} (p : A → Bool) (xs : List A) → length (take_while p xs) ≤ length xs
while_short p [] = omega arith
while_short p (x ∷ xs) = omega (arith, ap length (take_while-cons p x xs), by (p x) (while_short p xs))
  where
    by : (b : Bool) → length (take_while p xs) ≤ length xs → length (cond b (x ∷ take_while p xs) []) ≤ suc (length xs)
    by true h = omega arith
    by false h = omega arith

batch_short : (blobs : List BlobMeta) → length (oldest_batch blobs) ≤ length blobs
batch_short [] = omega arith
batch_short (b ∷ blobs) = omega (arith, while_short (λ (c : BlobMeta). c.linked == 0) blobs)

pub few_batch : (v : Listing) (blobs batch : List BlobMeta) → IsVersion v → blobs ≡ v.blobs → batch ≡ oldest_batch blobs → length batch ≤ 1000000000000000
few_batch v blobs batch h is own = omega (arith, few_blobs v h, ap length own, batch_short blobs, ap length is)

-- ---- small products

pub pow_small : (f k : ℕ) → f ≤ 20 → k ≤ 4 → f ^ k ≤ 160000
pow_small f k hf hk =
    let a : f ^ k ≤ 20 ^ k = pow-le-pow_left hf k in
    let b : 20 ^ k ≤ 160000 = pow-le-pow_right {n = 20} (lit< tt) hk in
    omega (arith, a, b)

pub product_small : (b p : ℕ) → b ≤ 2 ^ 40 → p ≤ 160000 → b * p ≤ 160000 * 2 ^ 40
product_small b p hb hp = omega (arith, mul-le-mul_left b hp)

pub product_some : (b f k : ℕ) → 1 ≤ b → 2 ≤ f → 0 < b * f ^ k
product_some b f k hb hf =
    let one : 1 ≤ f ^ k = one-le-pow k f (omega (arith, hf)) in
    omega (arith, mul-le-mul_left b one)
