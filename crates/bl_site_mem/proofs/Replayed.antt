-- A record that is replayed.
use Rattle.std.proofs.Common.{◌≡◌, ◌≢◌, ◌⊎◌, ⊎_elim, ℕ, suc, ◌+◌, ◌-◌, ◌<◌, ◌≤◌, ◌==◌, true, false, cond, List, [], ◌∷◌, ◌++◌, length, take, drop, get_or, sym, ◌∙◌, ap, arith, append_assoc, drop-cons, add-one}
use Rattle.std.proofs.lemmas.List.{take_more, get_or-map, length-map, append-nil, drop_all}
use Rattle.std.proofs.lemmas.Bool.Decides.{nat_tests}
use Rattle.bl_site_mem.specs.declared.record.KeptEntry.{KeptEntry}
use Rattle.bl_site_mem.specs.Record.{Entry, is_put, start, run, disk_after, disk_failed}
use Rattle.bl_site_mem.specs.Bytes.{entry_of, entries_of}
use Rattle.bl_site_mem.specs.Moments.{until}
use Rattle.bl_site_mem.proofs.Times.{disk_pushed}

-- one entry more
until_put : (left : ℕ) (e : Entry) (rest : List Entry) → is_put e.call ≡ true → until left (e ∷ rest) ≡ e ∷ until left rest
until_put left e rest is = ap (λ b. cond b (e ∷ until left rest) (cond (left == 0) [] (e ∷ until (left - 1) rest))) is

until_call : (left : ℕ) (e : Entry) (rest : List Entry) → is_put e.call ≡ false → (left == 0) ≡ false → until left (e ∷ rest) ≡ e ∷ until (left - 1) rest
until_call left e rest is some = ap (λ b. cond b (e ∷ until left rest) (cond (left == 0) [] (e ∷ until (left - 1) rest))) is ∙ ap (λ b. cond b [] (e ∷ until (left - 1) rest)) some

not_zero : (n : ℕ) → n ≢ 0 → (n == 0) ≡ false
not_zero n some = grind (arith, nat_tests)

module _ (kept : List KeptEntry) (i : ℕ) (one : KeptEntry) (lt : i < length kept) (is : one ≡ get_or kept i one) where
  abbrev es : List Entry
  es = entries_of kept

  abbrev e : Entry
  e = entry_of one

  within : i < length es
  within = omega (arith, lt, length-map kept entry_of)

  e_is : e ≡ get_or es i e
  e_is = ap entry_of is ∙ sym (get_or-map entry_of kept i one e lt)

  taken : take (i + 1) es ≡ take i es ++ e ∷ []
  taken = take_more es i e within ∙ ap (λ (x : Entry). take i es ++ x ∷ []) (sym e_is)

  dropped : drop i es ≡ e ∷ drop (i + 1) es
  dropped = drop-cons es i e within ∙ ap (λ (x : Entry). x ∷ drop (suc i) es) (sym e_is) ∙ ap (λ (n : ℕ). e ∷ drop n es) (sym (add-one i))

  pub disk_more : (run (take (i + 1) es) start).disk ≡ cond e.failed (disk_failed e.call (run (take i es) start).disk) (disk_after e.call (run (take i es) start).disk)
  disk_more = disk_pushed (take i es) (take (i + 1) es) e taken

  pub same_more : (at left next : ℕ) → until at es ≡ take i es ++ until left (drop i es) → ((is_put e.call ≡ true) × (next ≡ left)) ⊎ ((is_put e.call ≡ false) × (left ≢ 0) × (next ≡ left - 1)) → until at es ≡ take (i + 1) es ++ until next (drop (i + 1) es)
  same_more at left next so_far how =
      let one : until left (e ∷ drop (i + 1) es) ≡ e ∷ until next (drop (i + 1) es) = ⊎_elim
      (λ put. until_put left e (drop (i + 1) es) put.0 ∙ ap (λ (n : ℕ). e ∷ until n (drop (i + 1) es)) (sym put.1))
      (λ call. until_call left e (drop (i + 1) es) call.0 (not_zero left call.1) ∙ ap (λ (n : ℕ). e ∷ until n (drop (i + 1) es)) (sym call.2)) how in
      so_far ∙ ap (λ (l : List Entry). take i es ++ until left l) dropped ∙ ap (λ (l : List Entry). take i es ++ l) one
      ∙ sym (append_assoc (take i es) (e ∷ []) (until next (drop (i + 1) es))) ∙ ap (λ (l : List Entry). l ++ until next (drop (i + 1) es)) (sym taken)

  -- where no call is left the rest of the record is not taken
  pub stopped : (at left : ℕ) → until at es ≡ take i es ++ until left (drop i es) → is_put e.call ≡ false → left ≡ 0 → until at es ≡ take i es
  stopped at left so_far call none =
      let zero_is : (left == 0) ≡ true = grind (arith, nat_tests, none) in
      let nothing : until left (e ∷ drop (i + 1) es) ≡ [] = ap (λ b. cond b (e ∷ until left (drop (i + 1) es)) (cond (left == 0) [] (e ∷ until (left - 1) (drop (i + 1) es)))) call ∙ ap (λ b. cond b [] (e ∷ until (left - 1) (drop (i + 1) es))) zero_is in
      so_far ∙ ap (λ (l : List Entry). take i es ++ until left l) dropped ∙ ap (λ (l : List Entry). take i es ++ l) nothing ∙ append-nil (take i es)

-- at the end of the record all of it is taken
pub ended : (kept : List KeptEntry) (i at left : ℕ) → length kept ≤ i → until at (entries_of kept) ≡ take i (entries_of kept) ++ until left (drop i (entries_of kept)) → until at (entries_of kept) ≡ take i (entries_of kept)
ended kept i at left past so_far =
    so_far ∙ ap (λ (l : List Entry). take i (entries_of kept) ++ until left l) (drop_all i (entries_of kept) (omega (arith, past, length-map kept entry_of))) ∙ append-nil (take i (entries_of kept))
