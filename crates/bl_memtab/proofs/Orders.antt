-- The order of places among entries: a user key, and the number of a sequence and a kind.
use Rattle.std.proofs.Common.{◌≡◌, ℕ, Bool, true, false, List, [], ◌∷◌, sym, ◌∙◌, ap, refl, map, rules}
use Rattle.std.specs.Cmp.{IsTotalOrder, alike_right}
use Rattle.std.specs.Cmp.Rules.{comparing}
use Rattle.std.specs.List.{AllByRecursion}
use Rattle.std.specs.List.Sorted.{IsStrictlySortedBy}
use Rattle.std.specs.Ordering.{nat_cmp, is_lt, is_le, on, flip_args, then_cmp}
use Rattle.std.specs.declared.cmp.Ordering.{Ordering}
use Rattle.std.specs.declared.cmp.Ordering.TheVariants.{Less, Equal, Greater}
use Rattle.std.proofs.lemmas.Bool.{false≢true}
use Rattle.bl_code.specs.Order.{bytes_cmp}
use Rattle.bl_entry.specs.Keys.{Key, key_cmp, key_number}
use Rattle.bl_entry.specs.Entries.{IsAscending}
use Rattle.bl_entry.specs.declared.key.Entry.{Entry}
use Rattle.bl_memtab.specs.Rows.{is_before}
use Rattle.bl_memtab.proofs.Cuts.{IsCut}

abbrev pub Place : Type 0
Place = List ℕ × ℕ

abbrev pub place_cmp : Place → Place → Ordering
place_cmp = then_cmp (on (λ p. p.0) bytes_cmp) (flip_args (on (λ p. p.1) nat_cmp))

abbrev pub place_of : Key → Place
place_of k = (k.user, key_number k)

pub place_total : IsTotalOrder place_cmp
place_total = search (comparing, rules)

-- what stands behind an item that is not before a place is not before it
later_lt : (x y p : Place) → place_cmp x y ≡ Less → is_lt (place_cmp x p) ≡ false → is_lt (place_cmp y p) ≡ false
later_lt x y p lt f = by (place_cmp y p) refl
  where
    by : (o : Ordering) → place_cmp y p ≡ o → is_lt o ≡ false
    by Less e = absurd (false≢true (sym f ∙ ap is_lt (place_total.trans x y p lt e)))
    by Equal e = refl
    by Greater e = refl

later_le : (x y p : Place) → place_cmp x y ≡ Less → is_le (place_cmp x p) ≡ false → is_le (place_cmp y p) ≡ false
later_le x y p lt f = by (place_cmp y p) refl
  where
    by : (o : Ordering) → place_cmp y p ≡ o → is_le o ≡ false
    by Less e = absurd (false≢true (sym f ∙ ap is_le (place_total.trans x y p lt e)))
    by Equal e = absurd (false≢true (sym f ∙ ap is_le (sym (alike_right place_total y p x e) ∙ lt)))
    by Greater e = refl

later : (user : List ℕ) (number : ℕ) (strict : Bool) (x y : Entry) → key_cmp x.key y.key ≡ Less → is_before user number strict x ≡ false → is_before user number strict y ≡ false
later user number true x y lt f = later_le (place_of x.key) (place_of y.key) (user, number) lt f
later user number false x y lt f = later_lt (place_of x.key) (place_of y.key) (user, number) lt f

all_later : (user : List ℕ) (number : ℕ) (strict : Bool) (x : Entry) (es : List Entry) → is_before user number strict x ≡ false
    → AllByRecursion (λ k. key_cmp x.key k ≡ Less) (map (λ e. e.key) es) → AllByRecursion (λ e. is_before user number strict e ≡ false) es
all_later user number strict x [] f h = tt
all_later user number strict x (e ∷ es) f h = (later user number strict x e h.0 f, all_later user number strict x es f h.1)

pub before_cut : (user : List ℕ) (number : ℕ) (strict : Bool) (es : List Entry) → IsAscending es → IsCut (is_before user number strict) es
unfolding IsCut IsStrictlySortedBy
before_cut user number strict [] h = tt
before_cut user number strict (e ∷ es) h = ((λ f. all_later user number strict e es f h.0), before_cut user number strict es h.1)
