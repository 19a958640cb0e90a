-- What is kept of a memory with one entry more, and what is added of it.
use Rattle.std.proofs.Common.{◌≡◌, ℕ, ◌+◌, Bool, true, false, cond, List, [], ◌∷◌, ◌++◌, refl, ◌∙◌, ap, append-nil, rules}
use Rattle.std.specs.Prelude.{◌&&◌, ◌||◌, not, filter, map, if◌then◌else◌}
use Rattle.std.specs.List.{AllByRecursion, list_any}
use Rattle.std.specs.List.Sorted.{IsStrictlySortedBy}
use Rattle.std.specs.Ordering.{is_lt, ordering_reverse}
use Rattle.std.specs.declared.cmp.Ordering.TheVariants.{Less}
use Rattle.std.specs.Cmp.{IsTotalOrder}
use Rattle.std.specs.Cmp.Rules.{comparing}
use Rattle.std.proofs.lemmas.List.Elements.{filter-append}
use Rattle.bl_entry.specs.declared.key.Entry.{Entry}
use Rattle.bl_entry.specs.Entries.{IsAscending, last_of, stands_before}
use Rattle.bl_entry.specs.Kept.{NewestStandsFirst, alike, follows_alike, is_newest, kept}
use Rattle.bl_entry.specs.Keys.{key_cmp}
use Rattle.bl_out.specs.Outputs.{Out, added, made_for}
use Rattle.bl_flush.specs.Jobs.{all_added, next_behind}

key_total : IsTotalOrder key_cmp
key_total = search (comparing, rules)

-- ---- adding one more

pub added_behind : (next : ℕ) (o : Out) (es : List Entry) (e : Entry) → all_added next o (es ++ e ∷ []) ≡ added (next_behind next o es) (all_added next o es) e
added_behind next o [] e = refl
added_behind next o (x ∷ es) e = added_behind (next + made_for o x) (added next o x) es e

pub next_more : (next : ℕ) (o : Out) (es : List Entry) (e : Entry) → next_behind next o (es ++ e ∷ []) ≡ next_behind next o es + made_for (all_added next o es) e
next_more next o [] e = refl
next_more next o (x ∷ es) e = next_more (next + made_for o x) (added next o x) es e

-- ---- keeping one more

any_behind : {A : Type 0} (p : A → Bool) (xs : List A) (x : A) → list_any p (xs ++ x ∷ []) ≡ (list_any p xs || p x)
any_behind p [] x = or_false (p x)
  where
    or_false : (b : Bool) → (b || false) ≡ b
    or_false true = refl
    or_false false = refl
any_behind p (y ∷ xs) x = ap (λ b. p y || b) (any_behind p xs x) ∙ or_assoc (p y) (list_any p xs) (p x)
  where
    or_assoc : (a b c : Bool) → (a || (b || c)) ≡ ((a || b) || c)
    or_assoc true b c = refl
    or_assoc false b c = refl

and_no : (b : Bool) → (b && false) ≡ false
and_no true = refl
and_no false = refl

or_no : (b : Bool) → (b || false) ≡ b
or_no true = refl
or_no false = refl

-- what is the newest stays so with an entry more that does not stand before it
newest_stays : (snapshots : List ℕ) (es : List Entry) (e x : Entry) → stands_before e x ≡ false → is_newest snapshots (es ++ e ∷ []) x ≡ is_newest snapshots es x
newest_stays snapshots es e x late =
    ap not (any_behind (λ other. alike snapshots other x && stands_before other x) es e ∙ ap (λ b. list_any (λ other. alike snapshots other x && stands_before other x) es || b) (ap (λ b. alike snapshots e x && b) late ∙ and_no (alike snapshots e x)) ∙ or_no (list_any (λ other. alike snapshots other x && stands_before other x) es))

filter_same : {A : Type 0} (p q : A → Bool) (xs : List A) → AllByRecursion (λ x. p x ≡ q x) xs → filter p xs ≡ filter q xs
filter_same p q [] h = refl
filter_same p q (x ∷ xs) h = λ i. cond (h.0 i) (x ∷ filter_same p q xs h.1 i) (filter_same p q xs h.1 i)

-- none of those in front stands behind the last one
not_before : (es : List Entry) (e : Entry) → IsAscending (es ++ e ∷ []) → AllByRecursion (λ x. stands_before e x ≡ false) es
unfolding IsStrictlySortedBy
not_before [] e up = tt
not_before (x ∷ es) e up = (ap is_lt (key_total.antisymm e.key x.key ∙ ap ordering_reverse (last_one es up.0)), not_before es e up.1)
  where
    last_one : (ys : List Entry) → AllByRecursion (λ k. key_cmp x.key k ≡ Less) (map (λ y. y.key) (ys ++ e ∷ [])) → key_cmp x.key e.key ≡ Less
    last_one [] h = h.0
    last_one (y ∷ ys) h = last_one ys h.1

all_to : {A : Type 0} (P Q : A → Type 0) (xs : List A) → ((x : A) → P x → Q x) → AllByRecursion P xs → AllByRecursion Q xs
all_to P Q [] to h = tt
all_to P Q (x ∷ xs) to h = (to x h.0, all_to P Q xs to h.1)

kept_behind : (snapshots : List ℕ) (es : List Entry) (e : Entry) → IsAscending (es ++ e ∷ []) → kept snapshots false (es ++ e ∷ []) ≡ kept snapshots false es ++ (if is_newest snapshots (es ++ e ∷ []) e && true then e ∷ [] else [])
kept_behind snapshots es e up =
    filter-append (λ x. is_newest snapshots (es ++ e ∷ []) x && true) es (e ∷ [])
    ∙ ap (λ xs. xs ++ (if is_newest snapshots (es ++ e ∷ []) e && true then e ∷ [] else []))
    (filter_same (λ x. is_newest snapshots (es ++ e ∷ []) x && true) (λ x. is_newest snapshots es x && true) es
    (all_to (λ x. stands_before e x ≡ false) (λ x. (is_newest snapshots (es ++ e ∷ []) x && true) ≡ (is_newest snapshots es x && true)) es (λ x late. ap (λ b. b && true) (newest_stays snapshots es e x late)) (not_before es e up)))

-- the entry is kept where the one in front is not like it
pub kept_more : NewestStandsFirst → (snapshots : List ℕ) (es : List Entry) (e : Entry) → IsAscending (es ++ e ∷ []) → follows_alike snapshots (last_of es) e ≡ false → kept snapshots false (es ++ e ∷ []) ≡ kept snapshots false es ++ e ∷ []
kept_more law snapshots es e up other =
    kept_behind snapshots es e up ∙ ap (λ b. kept snapshots false es ++ (if b && true then e ∷ [] else [])) (law snapshots es [] e up ∙ ap not other)

pub kept_same : NewestStandsFirst → (snapshots : List ℕ) (es : List Entry) (e : Entry) → IsAscending (es ++ e ∷ []) → follows_alike snapshots (last_of es) e ≡ true → kept snapshots false (es ++ e ∷ []) ≡ kept snapshots false es
kept_same law snapshots es e up like =
    kept_behind snapshots es e up ∙ ap (λ b. kept snapshots false es ++ (if b && true then e ∷ [] else [])) (law snapshots es [] e up ∙ ap not like) ∙ append-nil (kept snapshots false es)
