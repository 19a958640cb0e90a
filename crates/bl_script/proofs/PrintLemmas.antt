-- What is escaped.
use Rattle.std.proofs.Common.{◌≡◌, ℕ, zero, suc, ◌<◌, ◌≤◌, inl, inr, Bool, true, false, not, cond, List, [], ◌∷◌, ◌++◌, refl, ◌∙◌, ap, arith}
use Rattle.std.proofs.lemmas.Bool.{cases_lt}
use Rattle.percent_encoding.specs.declared.ascii_set.AsciiSet.{AsciiSet}
use Rattle.percent_encoding.specs.AsciiSet.{should_percent_encode}
use Rattle.percent_encoding.specs.Percent.{percent_encode, percent_encode_byte}
use Rattle.percent_encoding.proofs.PercentLemmas.{percent_encode-nil, percent_encode_escaped, percent_encode_kept}
use Rattle.bl_script.specs.Printing.{is_plain, escaped}

unfoldable pub same : Bool → Bool → Bool
same true true = true
same false false = true
same true false = false
same false true = false

same_is : (a b : Bool) → same a b ≡ true → a ≡ b
unfolding same
same_is true true e = refl
same_is false false e = refl
same_is true false e = cc e
same_is false true e = cc e

-- the set has each byte below this one that does not stand for itself, and no other
unfoldable pub agrees : AsciiSet → ℕ → Bool
agrees set zero = true
agrees set (suc n) = cond (same (should_percent_encode set n) (not (is_plain n))) (agrees set n) false

both : (a b : Bool) → cond a b false ≡ true → (a ≡ true) × (b ≡ true)
both true b e = (refl, e)
both false b e = cc e

below : (set : AsciiSet) (n k : ℕ) → agrees set n ≡ true → k < n → should_percent_encode set k ≡ not (is_plain k)
unfolding agrees
below set zero k e lt = absurd (omega arith)
below set (suc n) k e lt =
    let p = both (same (should_percent_encode set n) (not (is_plain n))) (agrees set n) e in
    elim (cases_lt k n) [
      | inl less ↦ below set n k p.1 less
      | inr more ↦ let at : k ≡ n = omega arith in rw at (same_is _ _ p.0)
    ]

above : (set : AsciiSet) (k : ℕ) → 128 ≤ k → should_percent_encode set k ≡ not (is_plain k)
unfolding should_percent_encode
above set k le = grind arith

pub escapes : (set : AsciiSet) (k : ℕ) → agrees set 128 ≡ true → should_percent_encode set k ≡ not (is_plain k)
escapes set k e = elim (cases_lt k 128) [ inl less ↦ below set 128 k e less | inr more ↦ above set k more ]

one : (set : AsciiSet) (b : ℕ) (bs : List ℕ) (plain : Bool) → should_percent_encode set b ≡ not plain → percent_encode set (b ∷ bs) ≡ cond plain (b ∷ []) (percent_encode_byte b) ++ percent_encode set bs
one set b bs true e = percent_encode_kept set b bs e
one set b bs false e = percent_encode_escaped set b bs e

pub escaped_is : (set : AsciiSet) (bytes : List ℕ) → agrees set 128 ≡ true → percent_encode set bytes ≡ escaped bytes
escaped_is set [] e = percent_encode-nil set
escaped_is set (b ∷ bs) e = one set b bs (is_plain b) (escapes set b e) ∙ ap (λ r. cond (is_plain b) (b ∷ []) (percent_encode_byte b) ++ r) (escaped_is set bs e)
