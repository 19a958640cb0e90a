-- The order of keys is total.
use Rattle.std.proofs.Common.{◌≡◌, true, false, List, ℕ, ap}
use Rattle.std.specs.Ordering.{is_lt}
use Rattle.std.specs.declared.cmp.Ordering.{Ordering}
use Rattle.std.specs.declared.cmp.Ordering.TheVariants.{Less, Equal, Greater}
use Rattle.std.specs.Cmp.{IsTotalOrder}
use Rattle.std.proofs.lemmas.Cmp.{then_total, on_total, back_total, nat_cmp_total, nat_list_cmp_total, tied_itself}
use Rattle.bl_code.specs.Order.{key_order, user_part, number_part}

keys_total : IsTotalOrder key_order
keys_total = then_total (on_total user_part nat_list_cmp_total) (back_total (on_total number_part nat_cmp_total))

less_is : (o : Ordering) → is_lt o ≡ true → o ≡ Less
less_is Less e = cc
less_is Equal e = cc
less_is Greater e = cc

pub not_before_itself : (key : List ℕ) → is_lt (key_order key key) ≡ false
not_before_itself key = ap is_lt (tied_itself keys_total key)

pub before_trans : (a b c : List ℕ) → is_lt (key_order a b) ≡ true → is_lt (key_order b c) ≡ true → is_lt (key_order a c) ≡ true
before_trans a b c e f = ap is_lt (keys_total.trans a b c (less_is (key_order a b) e) (less_is (key_order b c) f))
