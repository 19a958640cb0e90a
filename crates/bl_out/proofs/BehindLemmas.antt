-- The order of what is written: its keys ascend in each table.
use Rattle.std.proofs.Common.{◌≡◌, ℕ, suc, ◌+◌, ◌<◌, ◌≤◌, true, List, [], ◌∷◌, ◌++◌, length, ◌∙◌, ap, subst, arith, inl, inr, Option, Some, None, refl, length-append}
use Rattle.std.specs.Prelude.{◌⊎◌, map}
use Rattle.std.specs.List.{AllByRecursion}
use Rattle.std.specs.List.Sorted.{IsStrictlySortedBy}
use Rattle.std.specs.Ordering.{is_lt, nat_cmp, ordering_then}
use Rattle.std.specs.declared.cmp.Ordering.TheVariants.{Less, Equal}
use Rattle.std.specs.Cmp.{tied_itself}
use Rattle.std.specs.Cmp.Lexicographic.{nat_list_cmp_total}
use Rattle.std.specs.Option.{option_map}
use Rattle.bl_code.specs.BlobIndex.{IsBlobIndex}
use Rattle.bl_code.specs.Order.{bytes_cmp}
use Rattle.bl_entry.specs.declared.key.Kind.{Kind}
use Rattle.bl_entry.specs.declared.key.Kind.TheVariants.{Deletion, Value, BlobRef}
use Rattle.bl_entry.specs.declared.key.Entry.{Entry}
use Rattle.bl_entry.specs.Entries.{IsAscending, IsProper, IsValueOf}
use Rattle.bl_entry.specs.Keys.{IsKey, Key, OrdersAgree, key_bytes, key_cmp, key_number, kind_number, max_value}
use Rattle.bl_entry.proofs.ItemLemmas.{some_is}
use Rattle.bl_entry.proofs.OrderLemmas.{kind_small}
use Rattle.bl_table.specs.Blocks.{stands_behind}
use Rattle.bl_table.specs.Laws.{Ascend}
use Rattle.bl_out.proofs.AmongLemmas.{all_left, all_right}
use Rattle.bl_out.proofs.SpellLemmas.{length_key}
use Rattle.bl_out.specs.Made.{all_entries}
use Rattle.bl_out.specs.Outputs.{IsBehind, OutTable, items_of}
use Rattle.bl_out.specs.Reads.{AreBehind}
use Rattle.bl_out.specs.Written.{Stored, Writes, nothing, inline, large}

-- ---- what is written has the user keys and sequences of what was given

written_all : (P : List ℕ → ℕ → Type 0) (t : ℕ) (ss : List Stored) (es os : List Entry) → Writes t ss es os → AllByRecursion (λ e. P e.key.user e.key.seq) es → AllByRecursion (λ o. P o.key.user o.key.seq) os
written_all P t ss es os nothing h = tt
written_all P t ss es os (inline {es = ds} {os = qs} s more) h = (h.0, written_all P t ss ds qs more h.1)
written_all P t ss es os (large {records = rs} {es = ds} {os = qs} b k v more) h = (h.0, written_all P t rs ds qs more h.1)

abbrev Behind : List ℕ → ℕ → List ℕ → ℕ → Type 0
Behind user seq u s = (bytes_cmp user u ≡ Less) ⊎ ((user ≡ u) × (s < seq))

pub written_behind : (t : ℕ) (ss : List Stored) (es os : List Entry) → Writes t ss es os → AreBehind es → AreBehind os
written_behind t ss es os nothing h = tt
written_behind t ss es os (inline {e = e} {es = ds} {os = qs} s more) h = (written_all (Behind e.key.user e.key.seq) t ss ds qs more h.0, written_behind t ss ds qs more h.1)
written_behind t ss es os (large {e = e} {records = rs} {es = ds} {os = qs} b k v more) h = (written_all (Behind e.key.user e.key.seq) t rs ds qs more h.0, written_behind t rs ds qs more h.1)

-- ---- each table has a part of it

behind_left : (xs ys : List Entry) → AreBehind (xs ++ ys) → AreBehind xs
behind_left [] ys h = tt
behind_left (x ∷ xs) ys h = (all_left (λ y. IsBehind y x) xs ys h.0, behind_left xs ys h.1)

behind_right : (xs ys : List Entry) → AreBehind (xs ++ ys) → AreBehind ys
behind_right [] ys h = h
behind_right (x ∷ xs) ys h = behind_right xs ys h.1

pub tables_behind : (ts : List OutTable) → AreBehind (all_entries ts) → AllByRecursion (λ t. AreBehind t.entries) ts
tables_behind [] h = tt
tables_behind (t ∷ ts) h = (behind_left t.entries (all_entries ts) h, tables_behind ts (behind_right t.entries (all_entries ts) h))

pub tables_all : (P : Entry → Type 0) (ts : List OutTable) → AllByRecursion P (all_entries ts) → AllByRecursion (λ t. AllByRecursion P t.entries) ts
tables_all P [] h = tt
tables_all P (t ∷ ts) h = (all_left P t.entries (all_entries ts) h, tables_all P ts (all_right P t.entries (all_entries ts) h))

-- ---- so its keys ascend

pub nat_less : (a b : ℕ) → a < b → nat_cmp a b ≡ Less
nat_less a b h = grind arith

cmp_of : (a b : Entry) → IsBehind b a → key_cmp a.key b.key ≡ Less
cmp_of a b (inl e) = ap (λ o. ordering_then o (nat_cmp (key_number b.key) (key_number a.key))) e
cmp_of a b (inr (users, lt)) =
    let same : bytes_cmp a.key.user b.key.user ≡ Equal = ap (λ u. bytes_cmp u b.key.user) users ∙ tied_itself nat_list_cmp_total b.key.user in
    let small_a : kind_number a.key.kind < 256 = kind_small a.key.kind in
    let small_b : kind_number b.key.kind < 256 = kind_small b.key.kind in
    ap (λ o. ordering_then o (nat_cmp (key_number b.key) (key_number a.key))) same ∙ nat_less (key_number b.key) (key_number a.key) (omega arith)

ascending_of : (es : List Entry) → AreBehind es → IsAscending es
unfolding IsStrictlySortedBy
ascending_of [] h = tt
ascending_of (e ∷ es) h = (each es h.0, ascending_of es h.1)
  where
    each : (ys : List Entry) → AllByRecursion (λ y. IsBehind y e) ys → AllByRecursion (λ k. key_cmp e.key k ≡ Less) (map (λ y. y.key) ys)
    each [] k = tt
    each (y ∷ ys) k = (cmp_of e y k.0, each ys k.1)

-- ---- the items of a table ascend

index_short : (bytes : List ℕ) (f o s : ℕ) → IsBlobIndex bytes f o s → length bytes ≤ 32
index_short bytes f o s is =
    let a : length is.file_bytes ≤ 10 = is.file_is.0 in
    let b : length is.offset_bytes ≤ 10 = is.offset_is.0 in
    let c : length is.size_bytes ≤ 10 = is.size_is.0 in
    let whole : length bytes ≡ suc (length (is.file_bytes ++ (is.offset_bytes ++ (is.size_bytes ++ 0 ∷ [])))) = ap length is.spelled in
    let d = length-append is.file_bytes (is.offset_bytes ++ (is.size_bytes ++ 0 ∷ [])) in
    let g = length-append is.offset_bytes (is.size_bytes ++ 0 ∷ []) in
    let i = length-append is.size_bytes (0 ∷ []) in
    omega (arith, d, g, i)

value_short : (k : Kind) (value : List ℕ) → IsValueOf k value → length value ≤ max_value
value_short Deletion value v = let e : length value ≡ 0 = ap length v in omega arith
value_short Value value v = v
value_short BlobRef value v = let le : length value ≤ 32 = index_short value v.0 v.1 v.2 v.3 in omega arith

ascend_from : OrdersAgree → (before : Option Key) (es : List Entry) → AllByRecursion IsProper es → IsAscending es
    → ((k : Key) → before ≡ Some k → IsKey k × AllByRecursion (λ q. key_cmp k q ≡ Less) (map (λ e. e.key) es)) → Ascend (option_map key_bytes before) (items_of es)
unfolding IsStrictlySortedBy
ascend_from agree before [] proper up behind = tt
ascend_from agree before (e ∷ es) proper up behind =
    let long : length (key_bytes e.key) ≡ length e.key.user + 8 = length_key e.key in
    let some : 1 ≤ length e.key.user = proper.0.key.some in
    let short : length e.key.user ≤ 65535 = proper.0.key.no_longer in
    let value : length e.value ≤ 16777216 = value_short e.key.kind e.value proper.0.value in
    (omega arith, omega arith, here before behind, ascend_from agree (Some e.key) es proper.1 up.1 (λ k is. (subst IsKey (some_is is) proper.0.key, subst (λ (q : Key). AllByRecursion (λ r. key_cmp q r ≡ Less) (map (λ y. y.key) es)) (some_is is) up.0)))
  where
    here : (b : Option Key) → ((k : Key) → b ≡ Some k → IsKey k × AllByRecursion (λ q. key_cmp k q ≡ Less) (map (λ y. y.key) (e ∷ es))) → stands_behind (option_map key_bytes b) (key_bytes e.key) ≡ true
    here None f = refl
    here (Some k) f = let h = f k refl in ap is_lt (agree k e.key h.0 proper.0.key ∙ h.1.0)

pub items_ascend : OrdersAgree → (es : List Entry) → AllByRecursion IsProper es → AreBehind es → Ascend None (items_of es)
items_ascend agree es proper h = ascend_from agree None es proper (ascending_of es h) (λ k is. absurd cc)
