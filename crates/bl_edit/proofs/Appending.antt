-- What is appended, piece by piece, and how long it is.
use Rattle.std.proofs.Common.{take, subst, sym, append_assoc, ◌≡◌, ℕ, zero, suc, ◌+◌, ◌/◌, ◌<◌, ◌≤◌, List, [], ◌∷◌, ◌++◌, length, length-append, append_assoc, ◌∙◌, ap, arith, inl, inr, get_or}
use Rattle.std.specs.List.{AllByRecursion}
use Rattle.std.specs.Prelude.{flat_map}
use Rattle.std.proofs.lemmas.List.{take_more, append-nil}
use Rattle.std.proofs.lemmas.List.Concat.{flat_map-cons}
use Rattle.std.proofs.lemmas.Grind.{flat_map-append}
use Rattle.std.proofs.lemmas.Bool.{cases_lt}
use Rattle.bl_code.specs.Numbers.{varint, varint64}
use Rattle.bl_code.proofs.VarintLemmas.{spelled_last, spelled_more}
use Rattle.bl_edit.specs.Options.{Values}
use Rattle.bl_edit.specs.Spelling.{option_bytes}

pub varint_size : (k n : ℕ) → length (varint k n) ≤ k
unfolding varint
varint_size zero n = omega arith
varint_size (suc k) n = elim (cases_lt n 128) [
  | inl small ↦ let e : length (varint (suc k) n) ≡ 1 = ap length (spelled_last k n small) in omega arith
  | inr large ↦
      let rest : length (varint k (n / 128)) ≤ k = varint_size k (n / 128) in
      let e : length (varint (suc k) n) ≡ suc (length (varint k (n / 128))) = ap length (spelled_more k n large) in
      omega arith
]

more_size : (n m : ℕ) (rest : List ℕ) → length rest ≤ m → length (varint64 n ++ rest) ≤ 10 + m
more_size n m rest h = omega (arith, length-append (varint64 n) rest, varint_size 10 n)

pub options_size : (v : Values) → length (option_bytes v) ≤ 90
options_size v =
    more_size v.min_blob_size 80 _ (more_size v.blob_file_size 70 _ (more_size v.write_buffer 60 _ (more_size v.table_size 50 _ (more_size v.level0_trigger 40 _
    (more_size v.level_base 30 _ (more_size v.level_factor 20 _ (more_size v.age_cutoff 10 _ (varint_size 10 v.force_threshold))))))))

-- the one at a place is like all of them
pub each_at : {A : Type 0} (P : A → Type 0) (xs : List A) (i : ℕ) (d : A) → AllByRecursion P xs → i < length xs → P (get_or xs i d)
each_at P [] i d h lt = absurd (omega arith)
each_at P (x ∷ xs) zero d h lt = h.0
each_at P (x ∷ xs) (suc i) d h lt = each_at P xs i d h.1 (omega arith)

-- one item more of a loop
pub more_bytes : {A : Type 0} (spell : A → List ℕ) (xs : List A) (i : ℕ) (x d : A) (start before after : List ℕ) → i < length xs → x ≡ get_or xs i d
    → before ≡ start ++ flat_map spell (take i xs) → after ≡ before ++ spell x → after ≡ start ++ flat_map spell (take (i + 1) xs)
more_bytes spell xs i x d start before after lt is so_far one =
    let more : flat_map spell (take (i + 1) xs) ≡ flat_map spell (take i xs) ++ spell x =
    ap (flat_map spell) (take_more xs i d lt ∙ ap (λ y. take i xs ++ y ∷ []) (sym is)) ∙ flat_map-append spell (take i xs) (x ∷ []) ∙ ap (λ ys. flat_map spell (take i xs) ++ ys) (flat_map-cons spell x [] ∙ append-nil (spell x)) in
    one ∙ ap (λ ys. ys ++ spell x) so_far ∙ append_assoc start (flat_map spell (take i xs)) (spell x) ∙ ap (λ ys. start ++ ys) (sym more)

all_push : {A : Type 0} (P : A → Type 0) (xs : List A) (x : A) → AllByRecursion P xs → P x → AllByRecursion P (xs ++ x ∷ [])
all_push P [] x h k = (k, tt)
all_push P (y ∷ ys) x h k = (h.0, all_push P ys x h.1 k)

pub more_all : {A : Type 0} (P : A → Type 0) (xs : List A) (i : ℕ) (x d : A) → i < length xs → x ≡ get_or xs i d → AllByRecursion P (take i xs) → P x → AllByRecursion P (take (i + 1) xs)
more_all P xs i x d lt is h k = subst (AllByRecursion P) (sym (take_more xs i d lt ∙ ap (λ y. take i xs ++ y ∷ []) (sym is))) (all_push P (take i xs) x h k)
