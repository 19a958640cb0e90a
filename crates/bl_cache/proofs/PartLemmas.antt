-- Parts of a file that is there.
use Rattle.std.proofs.Common.{◌≡◌, ℕ, ◌-◌, ◌==◌, Bool, true, false, List, length, drop, take, min, Vec, Global, Option, Some, None, Result, refl, sym, ◌∙◌, ap}
use Rattle.std.specs.Prelude.{IfOk, not}
use Rattle.std.specs.Option.{option_eq, option_map}
use Rattle.std.proofs.lemmas.Bool.{true≢false, eqb-true}
use Rattle.std.proofs.lemmas.List.{length-drop, take_min}
use Rattle.std.proofs.lemmas.Result.{IfOk-weaker}
use Rattle.std.proofs.Math.Seq.{take-length}
use Rattle.bl_cache.specs.declared.fault.Unread.{Unread}
use Rattle.bl_cache.specs.Reading.{Holds, part_at}

-- as many bytes as there are
part_there : (bytes : List ℕ) (start count there : ℕ) → there ≡ min count (length bytes - start) → part_at start there bytes ≡ part_at start count bytes
part_there bytes start count there is =
    ap (λ n. take n (drop start bytes)) (is ∙ ap (min count) (sym (length-drop start bytes))) ∙ take_min count (drop start bytes)

pub part_found : (file : Option (List ℕ)) (found : Option ℕ) (n start count there : ℕ) (r : Result (Vec ℕ Global) Unread) → found ≡ option_map length file → found ≡ Some n → there ≡ min count (n - start)
    → ((bytes : List ℕ) → file ≡ Some bytes → IfOk r (λ p. p.items ≡ part_at start there bytes)) → IfOk r (λ p. Holds file (λ bytes. p.items ≡ part_at start count bytes))
part_found None found n start count there r is some at h = absurd (let wrong : None ≡ Some n = sym is ∙ some in cc wrong)
part_found (Some bytes) found n start count there r is some at h =
    let size : Some (length bytes) ≡ Some n = sym is ∙ some in
    let own : length bytes ≡ n = cc size in
    IfOk-weaker r (λ p. p.items ≡ part_at start there bytes) (λ p. p.items ≡ part_at start count bytes)
    (λ p e. e ∙ part_there bytes start count there (at ∙ ap (λ k. min count (k - start)) (sym own))) (h bytes refl)

-- the number found is this one
same_number : (found : Option ℕ) (n : ℕ) → false ≡ not (option_eq (λ a b. a == b) found (Some n)) → found ≡ Some n
same_number None n h = absurd (true≢false (sym h))
same_number (Some m) n h = by (m == n) refl h
  where
    by : (b : Bool) → (m == n) ≡ b → false ≡ not b → Some m ≡ Some n
    by true e k = ap Some (eqb-true m n e)
    by false e k = absurd (true≢false (sym k))

pub whole_found : (file : Option (List ℕ)) (found : Option ℕ) (size : ℕ) (r : Result (Vec ℕ Global) Unread) → found ≡ option_map length file → false ≡ not (option_eq (λ a b. a == b) found (Some size))
    → ((bytes : List ℕ) → file ≡ Some bytes → IfOk r (λ p. p.items ≡ part_at 0 size bytes)) → IfOk r (λ p. (file ≡ Some p.items) × (length p.items ≡ size))
whole_found None found size r is same h = absurd (let wrong : None ≡ Some size = sym is ∙ same_number found size same in cc wrong)
whole_found (Some bytes) found size r is same h =
    let both : Some (length bytes) ≡ Some size = sym is ∙ same_number found size same in
    let own : length bytes ≡ size = cc both in
    let all : part_at 0 size bytes ≡ bytes = ap (λ n. take n bytes) (sym own) ∙ take-length bytes in
    IfOk-weaker r (λ p. p.items ≡ part_at 0 size bytes) (λ p. (Some bytes ≡ Some p.items) × (length p.items ≡ size))
    (λ p e. (sym (ap Some (e ∙ all)), ap length (e ∙ all) ∙ own)) (h bytes refl)
