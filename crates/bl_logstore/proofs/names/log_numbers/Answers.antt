use Rattle.std.proofs.Common.{map, string_bytes, length, sym, subst, arith, ◌≡◌, List, ℕ, true, inl, inr}
use Rattle.std.proofs.lemmas.Result.{IfOk-weaker}
use Rattle.bl_site.specs.Disk.{Name}
use Rattle.bl_logstore.specs.Folders.{IsOther}
use Rattle.bl_logstore.specs.Listing.{AreLogNumbers, IsLeastOther, TakesName}
use Rattle.bl_logstore.specs.declared.error.StoreErr.TheVariants.{Corrupt}
use Rattle.bl_logstore.proofs.NameLemmas.{no_name, no_numbers, name_at, number_next, one_taken, one_passed, none_passed, least_passed}
use Rattle.bl_logstore.proofs.names.log_numbers.Goals as goal
use Rattle.bl_logstore.proofs.names.log_numbers.Goals.{then-is_other, else-is_other}

pub loop-name-init : goal.loop-name-init
loop-name-init c =
    let names = map string_bytes c.args.names.now in
    let P : List ℕ → Type 0 = λ ks. AreLogNumbers 0 names ks in
    record { logs = subst P (sym c.new-numbers.ensures.empty) (no_numbers names); first = λ name within other. no_name names name within }

pub loop-name-preserved : goal.loop-name-preserved
loop-name-preserved c =
    let names = map string_bytes c.args.names.now in
    let name = c.name-item.result in
    let i = c.loop-name.invariant in
    let at = name_at string_bytes c.args.names.now c.loop-name.name-index name (omega (arith, c.loop-name-test.true)) (sym c.name-item.is) in
    let P : Name → Type 0 = λ n. TakesName n c.loop-name.numbers.keys c.put_name.new.numbers.keys in
    let is = c.in_ok-is_other.ensures in
    record {
      logs = number_next c.names_one.ensures c.loop-name.name-index names (string_bytes name) c.loop-name.numbers.keys c.put_name.new.numbers.keys at (subst P c.as_str.ensures.value is.put) i.logs;
      first = elim c.if-is_other.branch [
        | then-is_other w ↦
            let other : IsOther (string_bytes name) = subst IsOther c.as_str.ensures.value (is.other.0 w.if-is_other.true) in
            rw w.first-is (one_taken (λ m. m.now) string_bytes c.loop-name.name-index names name w.first_of.result c.loop-name.first at other w.first_of.ensures i.first)
        | else-is_other w ↦
            let not : IsOther (string_bytes name) → ⊥ =
            λ other. let yes : c.in_ok-is_other.is_other ≡ true = is.other.1 (subst IsOther (sym c.as_str.ensures.value) other) in cc (yes, w.if-is_other.false) in
            rw w.first-is (one_passed (λ m. m.now) string_bytes c.loop-name.name-index names name c.loop-name.first at not i.first)
      ];
    }

pub returns-in-None-clause-logs : goal.returns-in-None-clause-logs
returns-in-None-clause-logs c = IfOk-weaker c.in_order.result _ _ (λ v ordered.
    let names = map string_bytes c.args.names.now in
    let same : c.loop-name.name-index ≡ length c.args.names.now = omega (arith, c.loop-name-test.false, c.loop-name.auto.name-index-end) in
    let P : List ℕ → Type 0 = λ ks. AreLogNumbers (length c.args.names.now) names ks in
    let Q : ℕ → Type 0 = λ n. AreLogNumbers n names c.loop-name.numbers.keys in
    record {
      sorted = ordered.1;
      logs = subst P (sym ordered.0) (subst Q same c.loop-name.invariant.logs);
      no_other = none_passed (λ m. m.now) string_bytes c.loop-name.name-index (length c.args.names.now) names c.loop-name.first same c.in-None.is c.loop-name.invariant.first;
    }) c.in_order.ensures.ordered

pub returns-in-Some-clause-corrupt : goal.returns-in-Some-clause-corrupt
returns-in-Some-clause-corrupt c = λ name place is.
    let names = map string_bytes c.args.names.now in
    let same : c.loop-name.name-index ≡ length c.args.names.now = omega (arith, c.loop-name-test.false, c.loop-name.auto.name-index-end) in
    let least = least_passed (λ m. m.now) string_bytes c.loop-name.name-index (length c.args.names.now) names c.loop-name.first c.in-Some.name same c.in-Some.is c.loop-name.invariant.first in
    elim c.refusal.ensures [
      | inl memory ↦ cc (is, memory)
      | inr corrupt ↦
          let e : Corrupt (string_bytes c.in-Some.name.now) 0 ≡ Corrupt name place = cc (is, corrupt) in
          let P : List ℕ → Type 0 = λ n. IsLeastOther (length c.args.names.now) names n in
          (subst P (cc e) least, cc e)
    ]
