-- The counts of a record, with an entry more.
use Rattle.std.proofs.Common.{◌≡◌, ℕ, ◌+◌, ◌-◌, ◌^◌, min, not, Bool, false, true, cond, length, refl, length-append, List, [], ◌∷◌, ◌++◌, ◌∙◌, ap, arith}
use Rattle.std.proofs.lemmas.List.Sums.{length-filter}
use Rattle.std.proofs.lemmas.List.Elements.{filter-append}
use Rattle.std.specs.List.{count_by, filter}
use Rattle.bl_site_mem.specs.Record.{Entry, is_put, calls_in}

one_counted : (p : Entry → Bool) (e : Entry) → length (filter p (e ∷ [])) ≡ cond (p e) 1 0
one_counted p e = either (p e)
  where
    either : (b : Bool) → length (cond b (e ∷ []) []) ≡ cond b 1 0
    either true = refl
    either false = refl

count_pushed : (p : Entry → Bool) (entries : List Entry) (e : Entry) → count_by p (entries ++ e ∷ []) ≡ count_by p entries + cond (p e) 1 0
count_pushed p entries e = omega (
  arith,
  length-filter p (entries ++ e ∷ []),
  ap length (filter-append p entries (e ∷ [])),
  length-append (filter p entries) (filter p (e ∷ [])),
  length-filter p entries,
  one_counted p e,
)

calls_pushed : (entries new : List Entry) (e : Entry) (put : Bool) → is_put e.call ≡ put → new ≡ entries ++ e ∷ [] → calls_in new ≡ calls_in entries + cond (not put) 1 0
calls_pushed entries new e put is added =
    ap calls_in added ∙ count_pushed (λ (x : Entry). not (is_put x.call)) entries e
    ∙ ap (λ (b : Bool). calls_in entries + cond (not b) 1 0) is

-- the counter of calls
pub calls_after_call : (entries new : List Entry) (e : Entry) (calls number : ℕ) → is_put e.call ≡ false → new ≡ entries ++ e ∷ [] → calls ≡ min (calls_in entries) (2 ^ 64 - 1) → number ≡ min (calls + 1) (2 ^ 64 - 1) → number ≡ min (calls_in new) (2 ^ 64 - 1)
calls_after_call entries new e calls number is added kept next = omega (arith, calls_pushed entries new e false is added, kept, next)

pub calls_after_put : (entries new : List Entry) (e : Entry) (calls : ℕ) → is_put e.call ≡ true → new ≡ entries ++ e ∷ [] → calls ≡ min (calls_in entries) (2 ^ 64 - 1) → calls ≡ min (calls_in new) (2 ^ 64 - 1)
calls_after_put entries new e calls is added kept = omega (arith, calls_pushed entries new e true is added, kept)
