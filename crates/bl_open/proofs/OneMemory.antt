-- Some batches have one memory.
use Rattle.std.proofs.Common.{◌≡◌, inl, inr, ℕ, List, [], ◌∷◌, Option, Some, None, refl, sym, ◌∙◌, ap, subst}
use Rattle.std.specs.Prelude.{map, Contains, if◌then◌else◌}
use Rattle.std.specs.List.{AllByRecursion}
use Rattle.std.specs.List.Sorted.{IsStrictlySortedBy}
use Rattle.std.specs.Ordering.{is_lt}
use Rattle.std.specs.declared.cmp.Ordering.TheVariants.{Less}
use Rattle.std.proofs.lemmas.Bool.{false≢true}
use Rattle.bl_entry.specs.declared.key.Kind.{Kind}
use Rattle.bl_entry.specs.declared.key.Kind.TheVariants.{Deletion, Value, BlobRef}
use Rattle.bl_entry.specs.declared.key.Entry.{Entry}
use Rattle.bl_entry.specs.Batches.{Batch}
use Rattle.bl_entry.specs.Entries.{IsAscending, IsProper, IsValueOf, is_deletion}
use Rattle.bl_entry.specs.Keys.{key_cmp}
use Rattle.bl_entry.specs.Latest.{revision_of}
use Rattle.bl_entry.specs.Revisions.{Revision}
use Rattle.bl_entry.proofs.OrderLemmas.{AreBehind, less_not_before}
use Rattle.bl_out.proofs.AmongLemmas.{Among, among_map, among_mapped, from_among, to_among}
use Rattle.bl_out.specs.Written.{IsPlainKind}
use Rattle.bl_folder.specs.Flushes.{IsMemoryOf}

-- ---- a put or a deletion is told by its revision

abbrev put_of : Kind → List ℕ → Option (List ℕ)
put_of k v = if is_deletion k then None else Some v

one_kind : (k j : Kind) (v w : List ℕ) → IsPlainKind k → IsPlainKind j → put_of k v ≡ put_of j w → k ≡ j
one_kind Deletion Deletion v w p q e = refl
one_kind Deletion Value v w p q e = absurd (cc e)
one_kind Value Deletion v w p q e = absurd (cc e)
one_kind Value Value v w p q e = refl
one_kind BlobRef j v w p q e = absurd p
one_kind Deletion BlobRef v w p q e = absurd q
one_kind Value BlobRef v w p q e = absurd q

one_value : (k j : Kind) (v w : List ℕ) → IsPlainKind k → IsPlainKind j → IsValueOf k v → IsValueOf j w → put_of k v ≡ put_of j w → v ≡ w
one_value Deletion Deletion v w p q a b e = a ∙ sym b
one_value Deletion Value v w p q a b e = absurd (cc e)
one_value Value Deletion v w p q a b e = absurd (cc e)
one_value Value Value v w p q a b e = cc e
one_value BlobRef j v w p q a b e = absurd p
one_value Deletion BlobRef v w p q a b e = absurd q
one_value Value BlobRef v w p q a b e = absurd q

record IsPlainPart (e : Entry) : Type 0 where
  proper : IsProper e
  plain : IsPlainKind e.key.kind

one_entry : (x y : Entry) → IsPlainPart x → IsPlainPart y → revision_of x ≡ revision_of y → x ≡ y
one_entry x y a b e =
    let users : x.key.user ≡ y.key.user = ap (λ (r : Revision). r.key) e in
    let seqs : x.key.seq ≡ y.key.seq = ap (λ (r : Revision). r.seq) e in
    let puts : put_of x.key.kind x.value ≡ put_of y.key.kind y.value = ap (λ (r : Revision). r.put) e in
    let kinds : x.key.kind ≡ y.key.kind = one_kind x.key.kind y.key.kind x.value y.value a.plain b.plain puts in
    let values : x.value ≡ y.value = one_value x.key.kind y.key.kind x.value y.value a.plain b.plain a.proper.value b.proper.value puts in
    λ i. record { key = record { user = users i; seq = seqs i; kind = kinds i }; value = values i }

part_of : (es : List Entry) (x : Entry) → AllByRecursion IsProper es → AllByRecursion (λ e. IsPlainKind e.key.kind) es → Among x es → IsPlainPart x
part_of [] x proper plain there = absurd there
part_of (y ∷ es) x proper plain (inl is) = subst IsPlainPart is (record { proper = proper.0; plain = plain.0 })
part_of (y ∷ es) x proper plain (inr there) = part_of es x proper.1 plain.1 there

-- what is in one memory of some batches is in another
moves : (batches : List Batch) (es fs : List Entry) → IsMemoryOf batches es → IsMemoryOf batches fs → (x : Entry) → Among x es → Among x fs
moves batches es fs a b x there =
    let told : Contains (map revision_of fs) (revision_of x) = (b.same (revision_of x)).1 ((a.same (revision_of x)).0 (from_among (map revision_of es) (revision_of x) (among_map revision_of es x there))) in
    let m = among_mapped revision_of fs (revision_of x) (to_among (map revision_of fs) (revision_of x) told) in
    let same : m.from ≡ x = one_entry m.from x (part_of fs m.from b.proper b.plain m.there) (part_of es x a.proper a.plain there) m.is in
    subst (λ (y : Entry). Among y fs) same m.there

-- ---- ascending lists with the same elements

among_less : (x y : Entry) (es : List Entry) → AreBehind x.key es → Among y es → key_cmp x.key y.key ≡ Less
among_less x y [] behind there = absurd there
among_less x y (z ∷ es) behind (inl is) = subst (λ (w : Entry). key_cmp x.key w.key ≡ Less) is behind.0
among_less x y (z ∷ es) behind (inr there) = among_less x y es behind.1 there

no_turn : (x y : Entry) → key_cmp x.key y.key ≡ Less → key_cmp y.key x.key ≡ Less → ⊥
no_turn x y less back = false≢true (sym (less_not_before x y less) ∙ ap is_lt back)

not_itself : (x z : Entry) → x ≡ z → key_cmp x.key z.key ≡ Less → ⊥
not_itself x z same less = let itself = subst (λ (w : Entry). key_cmp x.key w.key ≡ Less) (sym same) less in no_turn x x itself itself

first_same : (x y : Entry) (es fs : List Entry) → AreBehind x.key es → AreBehind y.key fs → Among x (y ∷ fs) → Among y (x ∷ es) → x ≡ y
first_same x y es fs up vp (inl is) there = sym is
first_same x y es fs up vp (inr a) (inl is) = is
first_same x y es fs up vp (inr a) (inr b) = absurd (no_turn x y (among_less x y es up b) (among_less y x fs vp a))

rest_there : (x y : Entry) (es fs : List Entry) → AreBehind x.key es → x ≡ y → ((z : Entry) → Among z (x ∷ es) → Among z (y ∷ fs)) → (z : Entry) → Among z es → Among z fs
rest_there x y es fs up same to z there = elim (to z (inr there)) [
  | inl is ↦ absurd (not_itself x z (same ∙ is) (among_less x z es up there))
  | inr found ↦ found
]

same_list : (es fs : List Entry) → IsAscending es → IsAscending fs → ((x : Entry) → Among x es → Among x fs) → ((x : Entry) → Among x fs → Among x es) → es ≡ fs
unfolding IsStrictlySortedBy
same_list [] [] up vp to back = refl
same_list [] (y ∷ fs) up vp to back = absurd (back y (inl refl))
same_list (x ∷ es) [] up vp to back = absurd (to x (inl refl))
same_list (x ∷ es) (y ∷ fs) up vp to back =
    let head : x ≡ y = first_same x y es fs up.0 vp.0 (to x (inl refl)) (back y (inl refl)) in
    let rest = same_list es fs up.1 vp.1 (rest_there x y es fs up.0 head to) (rest_there y x fs es vp.0 (sym head) back) in
    λ i. head i ∷ rest i

pub one_memory : (batches : List Batch) (es fs : List Entry) → IsMemoryOf batches es → IsMemoryOf batches fs → es ≡ fs
one_memory batches es fs a b = same_list es fs a.ascending b.ascending (moves batches es fs a b) (moves batches fs es b a)
