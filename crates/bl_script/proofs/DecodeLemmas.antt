-- What lies between the escapes of a word stands for itself.
use Rattle.std.proofs.Common.{◌≡◌, ◌≢◌, ℕ, zero, suc, ◌≤◌, List, ◌++◌, length, take, drop, get_or, refl, sym, ◌∙◌, ap, subst, arith, append-nil, add-one, add-zero}
use Rattle.std.proofs.lemmas.Bool.{eq-eqb}
use Rattle.std.proofs.lemmas.List.{get_or-drop, drop_all, take_all}
use Rattle.memchr.specs.Find.{Nowhere, Passes, is_byte}
use Rattle.percent_encoding.specs.Percent.{percent_decode, KeepsFirst}
use Rattle.percent_encoding.proofs.PercentLemmas.{KeepsFirst_from_no_escape, percent_decode_kept_more, percent_decode-nil}

first_stays : (bs : List ℕ) (i : ℕ) → get_or bs i 0 ≢ 37 → KeepsFirst (drop i bs)
first_stays bs i other =
    KeepsFirst_from_no_escape (drop i bs)
    (λ _ percent _ _. other (ap (λ k. get_or bs k 0) (sym (add-zero i)) ∙ sym (get_or-drop i bs 0 0) ∙ percent))

-- a front without `%`
pub front_stays : (bs : List ℕ) (n : ℕ) → n ≤ length bs → Nowhere (Passes (is_byte 37) bs) 0 n → percent_decode bs ≡ take n bs ++ percent_decode (drop n bs)
front_stays bs zero le none = refl
front_stays bs (suc n) le none =
    let P : ℕ → Type 0 = λ k. percent_decode bs ≡ take k bs ++ percent_decode (drop k bs) in
    let before : n ≤ length bs = omega arith in
    subst P (add-one n)
    (percent_decode_kept_more bs n (omega arith)
    (first_stays bs n (λ is. none n (omega arith) (omega arith) (eq-eqb (get_or bs n 0) 37 is)))
    (front_stays bs n before (λ k from lt. none k from (omega (arith, lt)))))

pub all_stays : (bs : List ℕ) → Nowhere (Passes (is_byte 37) bs) 0 (length bs) → percent_decode bs ≡ bs
all_stays bs none =
    front_stays bs (length bs) (omega arith) none
    ∙ ap (λ r. take (length bs) bs ++ percent_decode r) (drop_all (length bs) bs (omega arith))
    ∙ ap (λ r. take (length bs) bs ++ r) percent_decode-nil
    ∙ append-nil (take (length bs) bs) ∙ take_all (length bs) bs (omega arith)
