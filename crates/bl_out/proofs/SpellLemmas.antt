-- The keys of an edit are spelled in its bounds.
use Rattle.std.proofs.Common.{◌≡◌, ℕ, ◌+◌, ◌%◌, ◌<◌, ◌≤◌, length, true, ◌∙◌, ap, arith, refl, length-append}
use Rattle.std.specs.Prelude.{nat_le, IsTrue}
use Rattle.std.proofs.lemmas.Bool.{and_from, le-leb}
use Rattle.bl_code.specs.Numbers.{fixed64}
use Rattle.bl_code.specs.Order.{number_part}
use Rattle.bl_entry.specs.declared.key.Kind.{Kind}
use Rattle.bl_entry.specs.declared.key.Kind.TheVariants.{Deletion, Value, BlobRef}
use Rattle.bl_entry.specs.Keys.{Key, IsKey, key_number, key_bytes, kind_number}
use Rattle.bl_entry.proofs.KeyLemmas.{length-fixed64, number_fits, number_part_is}
use Rattle.bl_entry.proofs.OrderLemmas.{kind_small}
use Rattle.bl_edit.specs.Bounds.{is_key, is_kind}

pub length_key : (k : Key) → length (key_bytes k) ≡ length k.user + 8
length_key k = length-append k.user (fixed64 (key_number k)) ∙ ap (λ n. length k.user + n) (length-fixed64 (key_number k))

kind_part : (k : Key) → IsKey k → number_part (key_bytes k) % 256 ≡ kind_number k.kind
kind_part k h = let small : kind_number k.kind < 256 = kind_small k.kind in ap (λ m. m % 256) (number_part_is k.user (key_number k) (number_fits k h)) ∙ omega arith

kind_is : (k : Kind) → is_kind (kind_number k) ≡ true
kind_is Deletion = refl
kind_is Value = refl
kind_is BlobRef = refl

pub key_fits : (k : Key) → IsKey k → IsTrue (is_key (key_bytes k))
key_fits k h =
    let n : ℕ = length (key_bytes k) in
    let total : n ≡ length k.user + 8 = length_key k in
    let some : 1 ≤ length k.user = h.some in
    let longest : length k.user ≤ 65535 = h.no_longer in
    and_from _ _ (and_from (nat_le 9 n) (nat_le n 65543) (le-leb 9 n (omega arith)) (le-leb n 65543 (omega arith))) (ap is_kind (kind_part k h) ∙ kind_is k.kind)
