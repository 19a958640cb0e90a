-- Keys at a bound and behind it.
use Rattle.std.proofs.Common.{◌≡◌, ℕ, ◌+◌, ◌*◌, ◌≤◌, arith, true, false, List, refl, sym, ◌∙◌, ap, subst}
use Rattle.std.specs.Ordering.{is_le, is_lt, nat_cmp, ordering_reverse, ordering_then}
use Rattle.std.specs.Cmp.{tied_itself}
use Rattle.std.specs.Cmp.Lexicographic.{nat_list_cmp_total}
use Rattle.std.specs.FinMap.{slice_cmp-IsAntisymmetric, nat_cmp-IsAntisymmetric}
use Rattle.std.specs.declared.cmp.Ordering.{Ordering}
use Rattle.std.specs.declared.cmp.Ordering.TheVariants.{Less, Equal, Greater}
use Rattle.std.proofs.lemmas.Bool.{false≢true}
use Rattle.bl_code.specs.Order.{bytes_cmp, bytes_le, bytes_lt}
use Rattle.bl_read.specs.declared.bound.Bound.{Bound}
use Rattle.bl_read.specs.declared.bound.Bound.TheVariants.{First, From, After}
use Rattle.bl_entry.specs.Keys.{IsKey, Key, key_number, kind_number}
use Rattle.bl_entry.specs.declared.key.Kind.{Kind}
use Rattle.bl_entry.specs.declared.key.Kind.TheVariants.{Deletion, Value, BlobRef}
use Rattle.bl_read.specs.Scanning.{IsBefore, IsStartOf, is_reached}

-- ---- the order of byte strings

less_of : (o : Ordering) → is_lt o ≡ true → o ≡ Less
less_of Less h = refl
less_of Equal h = absurd (false≢true h)
less_of Greater h = absurd (false≢true h)

-- two byte strings are one, or one stands before the other
pub data Compared (a b : List ℕ) : Type 0 where
  before : bytes_cmp a b ≡ Less → Compared a b
  same : a ≡ b → Compared a b
  behind : bytes_cmp b a ≡ Less → Compared a b

pub compared : (a b : List ℕ) → Compared a b
compared a b = by (bytes_cmp a b) refl
  where
    by : (o : Ordering) → bytes_cmp a b ≡ o → Compared a b
    by Less e = before e
    by Equal e = same (slice_cmp-IsAntisymmetric nat_cmp-IsAntisymmetric a b e)
    by Greater e = behind (nat_list_cmp_total.antisymm b a ∙ ap ordering_reverse e)

pub itself : (a : List ℕ) → bytes_cmp a a ≡ Equal
itself a = tied_itself nat_list_cmp_total a

pub not_itself : (a : List ℕ) → bytes_cmp a a ≡ Less → ⊥
not_itself a h = false≢true (sym (ap is_lt (itself a)) ∙ ap is_lt h)

pub turned : (a b : List ℕ) → bytes_cmp a b ≡ Less → bytes_cmp b a ≡ Greater
turned a b h = nat_list_cmp_total.antisymm b a ∙ ap ordering_reverse h

pub chain : (a b c : List ℕ) → bytes_cmp a b ≡ Less → bytes_cmp b c ≡ Less → bytes_cmp a c ≡ Less
chain a b c = nat_list_cmp_total.trans a b c

-- ---- what is reached

pub lt_is : (a b : List ℕ) → bytes_lt a b ≡ true → bytes_cmp a b ≡ Less
lt_is a b h = less_of (bytes_cmp a b) h

le_lt : (a b c : List ℕ) → bytes_le a b ≡ true → bytes_cmp b c ≡ Less → bytes_cmp a c ≡ Less
le_lt a b c h l = elim (compared a b) [ before e ↦ chain a b c e l | same e ↦ subst (λ x. bytes_cmp x c ≡ Less) (sym e) l | behind e ↦ absurd (false≢true (sym (ap is_le (turned b a e)) ∙ h)) ]

-- what stands behind a key that is reached is reached
pub reached_behind : (bound : Bound) (k q : List ℕ) → is_reached bound k ≡ true → bytes_cmp k q ≡ Less → is_reached bound q ≡ true
reached_behind First k q h l = refl
reached_behind (From from) k q h l = ap is_le (le_lt from k q h l)
reached_behind (After from) k q h l = ap is_lt (chain from k q (lt_is from k h) l)

-- ---- the key at which a bound begins

kind_small : (k : Kind) → kind_number k ≤ 17
kind_small Deletion = omega arith
kind_small Value = omega arith
kind_small BlobRef = omega arith

number_small : (k : Key) → IsKey k → is_lt (nat_cmp (72057594037927935 * 256 + 17) (key_number k)) ≡ false
number_small k is =
    let most : k.seq ≤ 72057594037927935 = is.seq in
    let small : kind_number k.kind ≤ 17 = kind_small k.kind in
    let most : k.seq * 256 + kind_number k.kind ≤ 72057594037927935 * 256 + 17 = omega arith in
    grind (arith, most)

starts_by : (user : List ℕ) (k : Key) → IsKey k → bytes_le user k.user ≡ true → Compared user k.user
    → is_lt (ordering_then (bytes_cmp k.user user) (nat_cmp (72057594037927935 * 256 + 17) (key_number k))) ≡ false
starts_by user k is h (before e) = ap (λ o. is_lt (ordering_then o (nat_cmp (72057594037927935 * 256 + 17) (key_number k)))) (turned user k.user e)
starts_by user k is h (same e) = ap (λ o. is_lt (ordering_then o (nat_cmp (72057594037927935 * 256 + 17) (key_number k)))) (ap (bytes_cmp k.user) e ∙ itself k.user) ∙ number_small k is
starts_by user k is h (behind e) = absurd (false≢true (sym (ap is_le (turned k.user user e)) ∙ h))

pub starts : (bound : Bound) (user : List ℕ) → IsBefore bound user → IsStartOf bound (record { user = user; seq = 72057594037927935; kind = BlobRef })
starts bound user least k is reached = starts_by user k is (least k.user is.some reached) (compared user k.user)
