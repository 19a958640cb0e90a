-- The map that a store's entries make.
use Rattle.std.proofs.Common.{◌≡◌, ℕ, cond, Bool, true, false, map, List, [], ◌∷◌, Some, None, length, arith, refl, sym, ◌∙◌, ap}
use Rattle.std.specs.Cmp.Lexicographic.{nat_list_cmp_total}
use Rattle.std.specs.Cmp.{eq_by_cmp_equiv}
use Rattle.std.specs.FinMap.Entries.{put, by_order}
use Rattle.std.specs.List.{AllByRecursion}
use Rattle.std.specs.List.Sorted.{IsStrictlySortedBy}
use Rattle.std.specs.Prelude.{filter, not, ◌&&◌}
use Rattle.std.specs.Ordering.{is_lt, is_le, is_gt, ordering_reverse}
use Rattle.std.specs.Cmp.{tied_itself}
use Rattle.std.specs.BTreeMap.Comparable.{le_lt_trans}
use Rattle.bl_code.specs.Order.{bytes_lt, bytes_le}
use Rattle.std.specs.declared.cmp.Ordering.{Ordering}
use Rattle.std.specs.declared.cmp.Ordering.TheVariants.{Less, Equal, Greater}
use Rattle.std.specs.FinMap.{empty, entries, entries-insert, len-entries, len-empty, get, insert, remove, find, get-from_entries, get-insert, get-remove, same_map, IsAntisymmetric, slice_cmp-IsAntisymmetric, nat_cmp-IsAntisymmetric}
use Rattle.std.specs.BTreeMap.{is_at}
use Rattle.std.specs.Map.{lookup}
use Rattle.bl_code.specs.Order.{bytes_cmp}
use Rattle.bl_logstore.specs.Stored.{map_in}

pub exact_bytes : IsAntisymmetric bytes_cmp
exact_bytes = slice_cmp-IsAntisymmetric nat_cmp-IsAntisymmetric

find_bytes : (es : List (List ℕ × List ℕ)) (q : List ℕ) → find bytes_cmp q es ≡ lookup (is_at (bytes_cmp q)) es
find_bytes [] q = refl
find_bytes (e ∷ es) q = ap (cond (is_at (bytes_cmp q) e.0) (Some e.1)) (find_bytes es q)

-- what the map that the entries make has at a key
pub get_bytes : (es : List (List ℕ × List ℕ)) (q : List ℕ) → get (map_in es) q ≡ lookup (is_at (bytes_cmp q)) es
get_bytes es q = get-from_entries nat_list_cmp_total es q ∙ find_bytes es q

-- entries that differ at one key make maps that differ there
pub one_given : (es fs : List (List ℕ × List ℕ)) (k v : List ℕ) → ((q : List ℕ) → lookup (is_at (bytes_cmp q)) fs ≡ cond (is_at (bytes_cmp k) q) (Some v) (lookup (is_at (bytes_cmp q)) es))
    → map_in fs ≡ insert (map_in es) k v
one_given es fs k v h = same_map nat_list_cmp_total exact_bytes _ _ (λ q.
    get_bytes fs q ∙ h q ∙ ap (λ b. cond b (Some v) (lookup (is_at (bytes_cmp q)) es)) ((eq_by_cmp_equiv nat_list_cmp_total).symm k q)
    ∙ sym (get-insert nat_list_cmp_total (map_in es) k v q ∙ ap (cond (is_at (bytes_cmp q) k) (Some v)) (get_bytes es q)))

pub one_taken : (es fs : List (List ℕ × List ℕ)) (k : List ℕ) → ((q : List ℕ) → lookup (is_at (bytes_cmp q)) fs ≡ cond (is_at (bytes_cmp k) q) None (lookup (is_at (bytes_cmp q)) es))
    → map_in fs ≡ remove (map_in es) k
one_taken es fs k h = same_map nat_list_cmp_total exact_bytes _ _ (λ q.
    get_bytes fs q ∙ h q ∙ ap (λ b. cond b None (lookup (is_at (bytes_cmp q)) es)) ((eq_by_cmp_equiv nat_list_cmp_total).symm k q)
    ∙ sym (get-remove nat_list_cmp_total (map_in es) k q ∙ ap (cond (is_at (bytes_cmp q) k) None) (get_bytes es q)))

-- the entries of the map, where the keys ascend
sorted_first : (k v : List ℕ) (es : List (List ℕ × List ℕ)) → AllByRecursion (λ q. bytes_cmp k q ≡ Less) (map (λ e. e.0) es) → put bytes_cmp k v es ≡ (k, v) ∷ es
sorted_first k v [] h = refl
sorted_first k v (e ∷ es) h = ap (λ o. by_order o ((k, v) ∷ e ∷ es) ((e.0, v) ∷ es) (e ∷ put bytes_cmp k v es)) h.0

pub entries_in : (es : List (List ℕ × List ℕ)) → IsStrictlySortedBy bytes_cmp (map (λ e. e.0) es) → entries (map_in es) ≡ es
unfolding IsStrictlySortedBy
entries_in [] sorted = no_entries
  where
    none_long : {A : Type 0} (xs : List A) → length xs ≡ 0 → xs ≡ []
    none_long [] e = refl
    none_long (x ∷ xs) e = absurd (omega (arith, e))

    no_entries : entries {R = bytes_cmp} (empty {X = List ℕ}) ≡ []
    no_entries = none_long (entries empty) (sym (len-entries empty) ∙ len-empty bytes_cmp (List ℕ))
entries_in (e ∷ es) sorted = entries-insert nat_list_cmp_total (map_in es) e.0 e.1 ∙ ap (put bytes_cmp e.0 e.1) (entries_in es sorted.1) ∙ sorted_first e.0 e.1 es sorted.0

pub filter_same : {A : Type 0} (p q : A → Bool) (xs : List A) → ((x : A) → p x ≡ q x) → filter p xs ≡ filter q xs
filter_same p q [] h = refl
filter_same p q (x ∷ xs) h = ap (λ b. cond b (x ∷ filter p xs) (filter p xs)) (h x) ∙ ap (λ ys. cond (q x) (x ∷ ys) ys) (filter_same p q xs h)

-- a part of the entries
pub part_is : (p q : List ℕ × List ℕ → Bool) (es part : List (List ℕ × List ℕ)) → IsStrictlySortedBy bytes_cmp (map (λ e. e.0) es) → part ≡ filter p es
    → ((e : List ℕ × List ℕ) → p e ≡ q e) → part ≡ filter q (entries (map_in es))
part_is p q es part sorted is h = is ∙ filter_same p q es h ∙ ap (filter q) (sym (entries_in es sorted))

-- bounds, as a range takes them
pub not_past : (a b : List ℕ) → not (is_le (bytes_cmp b a)) ≡ bytes_lt a b
not_past a b = ap (λ o. not (is_le o)) (nat_list_cmp_total.antisymm b a) ∙ turned (bytes_cmp a b)
  where
    turned : (o : Ordering) → not (is_le (ordering_reverse o)) ≡ is_lt o
    turned Less = refl
    turned Equal = refl
    turned Greater = refl

pub no_greater : (a : List ℕ) → is_gt (bytes_cmp a a) ≡ false
no_greater a = ap is_gt (tied_itself nat_list_cmp_total a)

pub not_less : (a b : List ℕ) → bytes_lt b a ≡ false → is_gt (bytes_cmp a b) ≡ false
not_less a b f = ap is_gt (nat_list_cmp_total.antisymm a b) ∙ turned (bytes_cmp b a) ∙ f
  where
    turned : (o : Ordering) → is_gt (ordering_reverse o) ≡ is_lt o
    turned Less = refl
    turned Equal = refl
    turned Greater = refl

-- nothing lies between a key and itself, nor between it and a lesser one
pub none_between : (from to key : List ℕ) → bytes_lt to from ≡ true → (bytes_le from key && not (is_le (bytes_cmp from key))) ≡ (bytes_le from key && bytes_lt key to)
none_between from to key less = elim (bytes_cmp from key) as (λ o. bytes_cmp from key ≡ o → (is_le o && not (is_le o)) ≡ (is_le o && bytes_lt key to)) [
  | Greater ↦ λ e. refl
  | Less ↦ λ e. sym (apart (ap is_le e))
  | Equal ↦ λ e. sym (apart (ap is_le e))
] refl
  where
    apart : bytes_le from key ≡ true → bytes_lt key to ≡ false
    apart le = elim (bytes_cmp key to) as (λ o. bytes_cmp key to ≡ o → is_lt o ≡ false) [
      | Less ↦ λ e. let t : bytes_cmp from to ≡ Less = le_lt_trans nat_list_cmp_total from key to le e in
          let u : is_lt (bytes_cmp to from) ≡ false = ap is_lt (nat_list_cmp_total.antisymm to from ∙ ap ordering_reverse t) in cc (u, less)
      | Equal ↦ λ e. refl
      | Greater ↦ λ e. refl
    ] refl
