-- A block that a writer spells is read again, with its trailer.
use Rattle.std.proofs.Common.{◌≡◌, ℕ, ◌+◌, ◌-◌, ◌*◌, ◌^◌, ◌<◌, ◌≤◌, ◌==◌, List, [], ◌∷◌, ◌++◌, length, length-append, take, drop, flat_map, None, refl, sym, ◌∙◌, ap, arith, append_assoc}
use Rattle.std.proofs.lemmas.Bool.{eq-eqb}
use Rattle.std.proofs.Math.Seq.{take-append_seam, drop-append_seam}
use Rattle.std.specs.List.{AllByRecursion}
use Rattle.std.specs.Int.{w32, from_le_bytes}
use Rattle.bl_code.specs.Numbers.{fixed32}
use Rattle.bl_code.specs.Crc.{crc32c, mask_of}
use Rattle.bl_code.proofs.ReadingLemmas.{both32}
use Rattle.bl_table.specs.declared.handle.Handle.{Handle}
use Rattle.bl_table.specs.Faults.{◌or◌}
use Rattle.bl_table.specs.Blocks.{Contents, Cells, cells_in, number_at, numbers_in, contents, block_in, block_at, trailer_fault, entry_fault, stop_fault, restart_fault}
use Rattle.bl_table.specs.Spelling.{Item, entries_from, restarts_from, or_zero, closed, block, with_trailer}
use Rattle.bl_table.proofs.SpellLemmas.{length-fixed}
use Rattle.bl_table.proofs.BlockLemmas.{block_contents, block_whole}
use Rattle.bl_table.proofs.AgainLemmas.{AreWritten, cells_from, cells_again, entries_good, restarts_good, restarts_small, restarts_few, numbers_again}

some_restarts : (rs : List ℕ) → 0 < length (or_zero rs)
some_restarts [] = omega arith
some_restarts (r ∷ rs) = omega arith

few_restarts : (rs : List ℕ) → 3 * length rs ≤ 2 ^ 32 + 2 → length (or_zero rs) < 2 ^ 32
few_restarts [] h = omega arith
few_restarts (r ∷ rs) h = omega arith

small_restarts : (rs : List ℕ) → AllByRecursion (λ r. r < 2 ^ 32) rs → AllByRecursion (λ r. r < 2 ^ 32) (or_zero rs)
small_restarts [] h = (omega arith, tt)
small_restarts (r ∷ rs) h = h

fixed_size : (n : ℕ) → length (fixed32 n) ≡ 4
unfolding fixed32
fixed_size n = refl

take_four : (n : ℕ) → take 4 (fixed32 n) ≡ fixed32 n
unfolding fixed32
take_four n = refl

-- entries with restarts and their count behind
abbrev closed_in : List ℕ → List ℕ → List ℕ
closed_in e rs = closed e rs

closed_size : (e rs : List ℕ) → length (closed_in e rs) ≡ length e + 4 * length rs + 4
closed_size e rs =
    let a = length-append e (flat_map fixed32 rs ++ fixed32 (length rs)) in
    let b = length-append (flat_map fixed32 rs) (fixed32 (length rs)) in
    let c = length-fixed rs in
    let d = fixed_size (length rs) in
    omega arith

count_again : (e rs : List ℕ) → length rs < 2 ^ 32 → length rs ≡ number_at (closed_in e rs) (length (closed_in e rs) - 4)
count_again e rs small =
    let front = e ++ flat_map fixed32 rs in
    let is : closed_in e rs ≡ front ++ fixed32 (length rs) = sym (append_assoc e (flat_map fixed32 rs) (fixed32 (length rs))) in
    let n : length (closed_in e rs) - 4 ≡ length front = let a = length-append e (flat_map fixed32 rs) in let b = closed_size e rs in let c = length-fixed rs in omega arith in
    let there : drop (length (closed_in e rs) - 4) (closed_in e rs) ≡ fixed32 (length rs) = ap (λ k. drop k (closed_in e rs)) n ∙ ap (drop (length front)) is ∙ drop-append_seam front (fixed32 (length rs)) in
    sym (ap (λ bs. from_le_bytes w32 (take 4 bs)) there ∙ ap (from_le_bytes w32) (take_four (length rs)) ∙ both32.read (length rs) small)

contents_again : (items : List Item) (offset : ℕ) → AreWritten None items
    → contents offset (closed_in (entries_from 0 0 [] items) (or_zero (restarts_from 0 0 [] items))) (length (entries_from 0 0 [] items)) (length (or_zero (restarts_from 0 0 [] items)))
    ≡ record { cells = cells_from 0 0 [] items; bare = length (entries_from 0 0 [] items) == 0; fault = None }
contents_again items offset written =
    let e = entries_from 0 0 [] items in
    let rs = or_zero (restarts_from 0 0 [] items) in
    let bytes = closed_in e rs in
    let front : take (length e) bytes ≡ e = take-append_seam e (flat_map fixed32 rs ++ fixed32 (length rs)) in
    let behind : drop (length e) bytes ≡ flat_map fixed32 rs ++ fixed32 (length rs) = drop-append_seam e (flat_map fixed32 rs ++ fixed32 (length rs)) in
    let read : cells_in (take (length e) bytes) ≡ record { cells = cells_from 0 0 [] items; stop = None } = ap cells_in front ∙ cells_again items 0 0 (length e) [] None written (omega arith) in
    let numbers : numbers_in (length rs) (drop (length e) bytes) ≡ rs = ap (numbers_in (length rs)) behind ∙ numbers_again rs (fixed32 (length rs)) (small_restarts (restarts_from 0 0 [] items) (restarts_small items 0 0 [])) in
    let F : Cells → List ℕ → Contents = λ cells ns. record {
      cells = cells.cells;
      bare = length e == 0;
      fault = entry_fault offset None cells.cells or stop_fault offset cells.stop or restart_fault (offset + length e) (length rs) cells.cells ns;
    } in
    let fault : (entry_fault offset None (cells_from 0 0 [] items) or None or restart_fault (offset + length e) (length rs) (cells_from 0 0 [] items) rs) ≡ None =
    ap (λ f. f or None or restart_fault (offset + length e) (length rs) (cells_from 0 0 [] items) rs) (entries_good items 0 0 offset [] None written) ∙ restarts_good items (offset + length e) (length rs) in
    ap (λ c. F c (numbers_in (length rs) (drop (length e) bytes))) read
    ∙ ap (F (record { cells = cells_from 0 0 [] items; stop = None })) numbers
    ∙ ap (λ f. record { cells = cells_from 0 0 [] items; bare = length e == 0; fault = f }) fault

pub block_in_again : (items : List Item) (offset : ℕ) → AreWritten None items → block_in offset (block items) ≡ record { cells = cells_from 0 0 [] items; bare = length (entries_from 0 0 [] items) == 0; fault = None }
unfolding block
block_in_again items offset written =
    let e = entries_from 0 0 [] items in
    let rs = or_zero (restarts_from 0 0 [] items) in
    let few = restarts_few items 0 0 [] in
    let size = closed_size e rs in
    let limit : length (closed_in e rs) - 4 - 4 * length rs ≡ length e = omega arith in
    block_contents offset (length (closed_in e rs) - 4) (length rs) (closed_in e rs) (omega arith) refl (count_again e rs (few_restarts (restarts_from 0 0 [] items) few)) (some_restarts (restarts_from 0 0 [] items)) (omega arith)
    ∙ ap (λ l. contents offset (closed_in e rs) l (length rs)) limit
    ∙ contents_again items offset written

-- the trailer
mask_small : (c : ℕ) → mask_of c < 2 ^ 32
unfolding mask_of
mask_small c = omega arith

trailer_again : (place : ℕ) (bytes : List ℕ) → trailer_fault place bytes (0 ∷ fixed32 (mask_of (crc32c (bytes ++ 0 ∷ [])))) ≡ None
trailer_again place bytes =
    let sum = mask_of (crc32c (bytes ++ 0 ∷ [])) in
    let same : from_le_bytes w32 (take 4 (fixed32 sum)) ≡ sum = ap (from_le_bytes w32) (take_four sum) ∙ both32.read sum (mask_small (crc32c (bytes ++ 0 ∷ []))) in
    rw (eq-eqb (from_le_bytes w32 (take 4 (fixed32 sum))) sum same) refl

pub trailed_size : (bytes : List ℕ) → length (with_trailer bytes) ≡ length bytes + 5
unfolding with_trailer
trailed_size bytes = let a = length-append bytes (0 ∷ fixed32 (mask_of (crc32c (bytes ++ 0 ∷ [])))) in let b = fixed_size (mask_of (crc32c (bytes ++ 0 ∷ []))) in omega arith

pub block_at_again : (items : List Item) (h : Handle) → AreWritten None items → h.size ≡ length (block items) → h.offset + h.size + 5 < 2 ^ 64
    → block_at h (with_trailer (block items)) ≡ record { cells = cells_from 0 0 [] items; bare = length (entries_from 0 0 [] items) == 0; fault = None }
unfolding with_trailer
block_at_again items h written es fits =
    let bytes = block items in
    let trailer = 0 ∷ fixed32 (mask_of (crc32c (bytes ++ 0 ∷ []))) in
    let front : take h.size (bytes ++ trailer) ≡ bytes = ap (λ k. take k (bytes ++ trailer)) es ∙ take-append_seam bytes trailer in
    let behind : drop h.size (bytes ++ trailer) ≡ trailer = ap (λ k. drop k (bytes ++ trailer)) es ∙ drop-append_seam bytes trailer in
    let is : Contents = record { cells = cells_from 0 0 [] items; bare = length (entries_from 0 0 [] items) == 0; fault = None } in
    block_whole (bytes ++ trailer) h is (trailed_size bytes ∙ (omega arith)) fits (ap (block_in h.offset) front ∙ block_in_again items h.offset written)
    ∙ ap (λ f. record is { fault = f }) (ap (λ b. trailer_fault (h.offset + h.size) b (drop h.size (bytes ++ trailer))) front ∙ ap (trailer_fault (h.offset + h.size) bytes) behind ∙ trailer_again (h.offset + h.size) bytes)
