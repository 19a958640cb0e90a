-- Small facts that several crates need and std does not have.
use Rattle.std.proofs.Common.{◌≡◌, ℕ, zero, suc, ◌+◌, ◌^◌, ◌<◌, ◌==◌, Bool, true, false, List, [], ◌∷◌, ◌++◌, length, take, get_or, refl, sym, ◌∙◌, ap, subst, arith}
use Rattle.std.specs.Prelude.{Result, Ok, Err, OnErr}
use Rattle.std.specs.List.{AllByRecursion}
use Rattle.std.specs.Ordering.{nat_cmp, is_lt}
use Rattle.std.specs.declared.cmp.Ordering.{Ordering}
use Rattle.std.specs.declared.cmp.Ordering.TheVariants.{Less, Equal, Greater}
use Rattle.std.proofs.lemmas.Cmp.{ranked}
use Rattle.std.proofs.lemmas.Bool.{ne_eqb}
use Rattle.std.proofs.lemmas.List.{take_more}
use Rattle.bl_code.specs.Crc.{mask_of}
use Rattle.bl_code.specs.Reading.{need, ◌>>=◌}

-- ---- orders

pub less_is : (o : Ordering) → is_lt o ≡ true → o ≡ Less
less_is Less t = refl
less_is Equal t = cc t
less_is Greater t = cc t

pub nat_cmp_less : (a b : ℕ) → nat_cmp a b ≡ Less → a < b
nat_cmp_less a b e = ranked a b Less (sym e)

pub nat_cmp_equal : (a b : ℕ) → nat_cmp a b ≡ Equal → a ≡ b
nat_cmp_equal a b e = ranked a b Equal (sym e)

pub not_zero : (n : ℕ) → 0 < n → (n == 0) ≡ false
not_zero n h = ne_eqb n 0 (λ e. omega (arith, e, h))

-- ---- steps that may fail

pub ok_is : {A E : Type 0} {x y : A} → ◌≡◌ {A = Result A E} (Ok x) (Ok y) → x ≡ y
ok_is e = cc

-- what is known once a demand was met, and of what follows
pub need_then : {B E : Type 0} (b : Bool) (e : E) (f : Unit {0} → Result B E) (y : B) → (need b e >>= f) ≡ Ok y → (b ≡ true) × (f tt ≡ Ok y)
need_then true e f y h = (refl, h)
need_then false e f y h = cc

pub on_any_err : {T E : Type 0} (r : Result T E) (P : Type 0) → P → OnErr r P
on_any_err (Ok x) P p = tt
on_any_err (Err e) P p = p

-- ---- what holds of each item

pub all_from : {A : Type 0} (P Q : A → Type 0) (xs : List A) → ((x : A) → P x → Q x) → AllByRecursion P xs → AllByRecursion Q xs
all_from P Q [] k h = tt
all_from P Q (x ∷ xs) k h = (k x h.0, all_from P Q xs k h.1)

pub all_get : {A : Type 0} (P : A → Type 0) (xs : List A) (i : ℕ) (d : A) → AllByRecursion P xs → i < length xs → P (get_or xs i d)
all_get P [] i d h lt = absurd (omega arith)
all_get P (x ∷ xs) zero d h lt = h.0
all_get P (x ∷ xs) (suc i) d h lt = all_get P xs i d h.1 (omega arith)

pub all_push : {A : Type 0} (P : A → Type 0) (xs : List A) (x : A) → AllByRecursion P xs → P x → AllByRecursion P (xs ++ x ∷ [])
all_push P [] x h k = (k, tt)
all_push P (y ∷ ys) x h k = (h.0, all_push P ys x h.1 k)

-- one item more of a loop
pub all_more : {A : Type 0} (P : A → Type 0) (xs : List A) (i : ℕ) (x d : A) → i < length xs → x ≡ get_or xs i d → AllByRecursion P (take i xs) → P x → AllByRecursion P (take (i + 1) xs)
all_more P xs i x d lt is h k = subst (AllByRecursion P) (sym (take_more xs i d lt ∙ ap (λ y. take i xs ++ y ∷ []) (sym is))) (all_push P (take i xs) x h k)

-- ---- checksums

pub mask_fits : (c : ℕ) → mask_of c < 2 ^ 32
unfolding mask_of
mask_fits c = omega arith
