-- What a writer of blocks spells is read again.
use Rattle.std.proofs.Common.{◌≡◌, ℕ, suc, ◌+◌, ◌-◌, ◌*◌, ◌^◌, ◌<◌, ◌≤◌, nat_eq, Bool, true, false, cond, List, [], ◌∷◌, ◌++◌, length, length-append, length-drop, take, drop, flat_map, Option, None, Some, refl, sym, ◌∙◌, ap, arith, append_assoc, ◌⊎◌, inl, inr}
use Rattle.std.specs.Prelude.{option_and_then}
use Rattle.std.proofs.lemmas.Bool.{le-leb, eqb-true, ne_eqb}
use Rattle.std.proofs.lemmas.List.{take-append-drop}
use Rattle.std.proofs.Math.Seq.{take-append_seam, drop-append_seam}
use Rattle.std.specs.List.{AllByRecursion}
use Rattle.bl_code.specs.Numbers.{varint32, fixed32}
use Rattle.bl_code.specs.Reading.{Input, Read, take_varint32}
use Rattle.bl_code.proofs.ReadingLemmas.{varint32_again, both32}
use Rattle.bl_code.proofs.TakeLemmas.{taken}
use Rattle.bl_table.specs.Blocks.{Head, Cell, head_at, cell_at, cells_at, and_cell, stands_behind, entry_fault, restarts_left, restart_fault, numbers_in}
use Rattle.bl_table.specs.Spelling.{Item, common, entry, is_restart, shared_at, entry_at, entries_from, restarts_from, or_zero}
use Rattle.bl_table.proofs.CellLemmas.{a_cell}
use Rattle.bl_table.proofs.SpellLemmas.{entry_long, restart_below}
use Rattle.bl_table.proofs.ContentsLemmas.{cells_end, cells_more, no_restarts, passes_restart, other_entry}
use Rattle.bl_table.proofs.ScanLemmas.{first_passed}

-- the three lengths of an entry
abbrev third : ℕ → ℕ → Input → Read Head
third a b input = option_and_then (λ (size : ℕ × Input). Some (record { shared = a; unshared = b; size = size.0 }, size.1)) (take_varint32 input)

abbrev second : ℕ → Input → Read Head
second a input = option_and_then (λ (unshared : ℕ × Input). third a unshared.0 unshared.1) (take_varint32 input)

head_again : (place a b c : ℕ) (rest : List ℕ) → a < 2 ^ 32 → b < 2 ^ 32 → c < 2 ^ 32
    → head_at (record { place = place; left = varint32 a ++ (varint32 b ++ (varint32 c ++ rest)) })
    ≡ Some (record { shared = a; unshared = b; size = c }, record { place = place + length (varint32 a) + length (varint32 b) + length (varint32 c); left = rest })
head_again place a b c rest fa fb fc =
    ap (option_and_then (λ (shared : ℕ × Input). second shared.0 shared.1)) (varint32_again a place (varint32 b ++ (varint32 c ++ rest)) fa)
    ∙ ap (option_and_then (λ (unshared : ℕ × Input). third a unshared.0 unshared.1)) (varint32_again b (place + length (varint32 a)) (varint32 c ++ rest) fb)
    ∙ ap (option_and_then (λ (size : ℕ × Input). Some (record { shared = a; unshared = b; size = size.0 }, size.1))) (varint32_again c (place + length (varint32 a) + length (varint32 b)) rest fc)

-- an entry that shares what its key and the key before it have in common
pub cell_again : (shared place : ℕ) (before : List ℕ) (i : Item) (rest : List ℕ) → length i.key < 2 ^ 32 → length i.value < 2 ^ 32 → shared ≤ length before → shared ≤ length i.key → take shared before ≡ take shared i.key
    → cell_at before (record { place = place; left = entry shared i.key i.value ++ rest }) ≡ Some (record { place = place; shared = shared; key = i.key; value = i.value }, record { place = place + length (entry shared i.key i.value); left = rest })
unfolding entry
cell_again shared place before i rest fk fv sb sk same =
    let suffix = drop shared i.key in
    let a = length (varint32 shared) in
    let b = length (varint32 (length i.key - shared)) in
    let c = length (varint32 (length i.value)) in
    let n : length suffix ≡ length i.key - shared = length-drop shared i.key in
    let spelled : entry shared i.key i.value ++ rest ≡ varint32 shared ++ (varint32 (length i.key - shared) ++ (varint32 (length i.value) ++ (suffix ++ (i.value ++ rest)))) = simp append_assoc in
    let size : length (entry shared i.key i.value) ≡ a + (b + (c + (length suffix + length i.value))) = simp length-append in
    let input : Input = record { place = place; left = entry shared i.key i.value ++ rest } in
    let i1 : Input = record { place = place + a + b + c; left = suffix ++ (i.value ++ rest) } in
    let i2 : Input = record { place = place + a + b + c + (length i.key - shared); left = i.value ++ rest } in
    let i3 : Input = record { place = place + length (entry shared i.key i.value); left = rest } in
    let seam : drop (length i.key - shared) (suffix ++ (i.value ++ rest)) ≡ i.value ++ rest = ap (λ k. drop k (suffix ++ (i.value ++ rest))) (sym n) ∙ drop-append_seam suffix (i.value ++ rest) in
    let front : take (length i.key - shared) (suffix ++ (i.value ++ rest)) ≡ suffix = ap (λ k. take k (suffix ++ (i.value ++ rest))) (sym n) ∙ take-append_seam suffix (i.value ++ rest) in
    a_cell before suffix i.value i.key input i1 i2 i3 (record { shared = shared; unshared = length i.key - shared; size = length i.value })
    (ap (λ l. head_at (record { place = place; left = l })) spelled ∙ head_again place shared (length i.key - shared) (length i.value) (suffix ++ (i.value ++ rest)) (omega arith) (omega arith) fv)
    (taken (length i.key - shared) i1 i2 suffix (omega (arith, length-append suffix (i.value ++ rest))) (sym front) refl (sym seam))
    (taken (length i.value) i2 i3 i.value (omega (arith, length-append i.value rest)) (sym (take-append_seam i.value rest)) (omega arith) (sym (drop-append_seam i.value rest)))
    sb
    (sym (take-append-drop shared i.key) ∙ ap (λ t. t ++ suffix) (sym same))

-- what two keys have in common
abbrev Shares : ℕ → List ℕ → List ℕ → Type 0
Shares n a b = (n ≤ length a) × (n ≤ length b) × (take n a ≡ take n b)

shares_more : (x y : ℕ) (a b : List ℕ) (n : ℕ) (t : Bool) → nat_eq x y ≡ t → Shares n a b → Shares (cond t (suc n) 0) (x ∷ a) (y ∷ b)
shares_more x y a b n true e s = let same : x ≡ y = eqb-true x y e in (omega (arith, s.0), omega (arith, s.1), λ i. same i ∷ s.2 i)
shares_more x y a b n false e s = (omega arith, omega arith, refl)

shares_common : (a b : List ℕ) → Shares (common a b) a b
shares_common [] b = (omega arith, omega arith, refl)
shares_common (x ∷ a) [] = (omega arith, omega arith, refl)
shares_common (x ∷ a) (y ∷ b) = shares_more x y a b (common a b) (nat_eq x y) refl (shares_common a b)

shares_if : (t : Bool) (a b : List ℕ) → Shares (cond t 0 (common a b)) a b
shares_if true a b = (omega arith, omega arith, refl)
shares_if false a b = shares_common a b

pub shares_at : (n at : ℕ) (before key : List ℕ) → Shares (shared_at n at before key) before key
shares_at n at before key = shares_if (is_restart n at) before key

-- Entries that can be written: keys of nine bytes at least that ascend, behind one that may be before them.
abbrev pub AreWritten : Option (List ℕ) → List Item → Type 0
AreWritten before [] = Unit {0}
AreWritten before (i ∷ items) = (9 ≤ length i.key) × (length i.key < 2 ^ 32) × (length i.value < 2 ^ 32) × (stands_behind before i.key ≡ true) × AreWritten (Some i.key) items

-- what is read of them
abbrev pub cell_from : ℕ → ℕ → List ℕ → Item → Cell
cell_from n at before i = record { place = at; shared = shared_at n at before i.key; key = i.key; value = i.value }

unfoldable pub cells_from : ℕ → ℕ → List ℕ → List Item → List Cell
cells_from n at before [] = []
cells_from n at before (i ∷ items) = cell_from n at before i ∷ cells_from (suc n) (at + length (entry_at n at before i)) i.key items

pub cells_again : (items : List Item) (n at fuel : ℕ) (before : List ℕ) (behind : Option (List ℕ)) → AreWritten behind items → length (entries_from n at before items) ≤ fuel
    → cells_at fuel before (record { place = at; left = entries_from n at before items }) ≡ record { cells = cells_from n at before items; stop = None }
unfolding entries_from cells_from
cells_again [] n at fuel before behind written fits = cells_end fuel before (record { place = at; left = [] }) refl
cells_again (i ∷ items) n at fuel before behind written fits =
    let more = entries_from (suc n) (at + length (entry_at n at before i)) i.key items in
    let long : 3 ≤ length (entry_at n at before i) = entry_long (shared_at n at before i.key) i.key i.value in
    let size : length (entry_at n at before i ++ more) ≡ length (entry_at n at before i) + length more = length-append (entry_at n at before i) more in
    let shares = shares_at n at before i.key in
    cells_more fuel before (record { place = at; left = entry_at n at before i ++ more }) (record { place = at + length (entry_at n at before i); left = more }) (cell_from n at before i) (omega arith) fits
    (cell_again (shared_at n at before i.key) at before i more written.1 written.2 shares.0 shares.1 shares.2)
    ∙ ap (and_cell (cell_from n at before i)) (cells_again items (suc n) (at + length (entry_at n at before i)) (fuel - 1) i.key (Some i.key) written.4 (omega arith))

-- they have no fault
pub entries_good : (items : List Item) (n at offset : ℕ) (before : List ℕ) (behind : Option (List ℕ)) → AreWritten behind items → entry_fault offset behind (cells_from n at before items) ≡ None
unfolding entry_fault cells_from
entries_good [] n at offset before behind written = refl
entries_good (i ∷ items) n at offset before behind written =
    rw (le-leb 9 (length i.key) written.0, written.3) (entries_good items (suc n) (at + length (entry_at n at before i)) offset i.key (Some i.key) written.4)

-- Restarts: each is where an entry begins that shares nothing.
if_here : (t : Bool) (at r : ℕ) (rs more : List ℕ) → cond t (at ∷ []) [] ++ more ≡ r ∷ rs → ((t ≡ true) × (r ≡ at)) ⊎ ((t ≡ false) × (more ≡ r ∷ rs))
if_here true at r rs more e = inl (refl, sym (ap (λ (l : List ℕ). elim l [ [] ↦ 0 | x ∷ xs ↦ x ]) e))
if_here false at r rs more e = inr (refl, e)

restarts_later : (items : List Item) (n at : ℕ) (before : List ℕ) (r : ℕ) (rs : List ℕ) → restarts_from n at before items ≡ r ∷ rs → at ≤ r
unfolding restarts_from
restarts_later [] n at before r rs e = absurd (cc)
restarts_later (i ∷ items) n at before r rs e =
    elim (if_here (is_restart n at) at r rs (restarts_from (suc n) (at + length (entry_at n at before i)) i.key items) e) [
      | inl h ↦ let same = h.1 in omega arith
      | inr h ↦ let later = restarts_later items (suc n) (at + length (entry_at n at before i)) i.key r rs h.1 in omega arith
    ]

not_here : (c : Cell) (cells : List Cell) (rs : List ℕ) → ((r : ℕ) (more : List ℕ) → rs ≡ r ∷ more → c.place < r) → restarts_left (c ∷ cells) rs ≡ restarts_left cells rs
not_here c cells [] later = no_restarts c cells
not_here c cells (r ∷ more) later = let less = later r more refl in other_entry c cells r more (inr (inl (ne_eqb c.place r (λ e. omega arith))))

one_gone : (t : Bool) (c : Cell) (cells : List Cell) (at : ℕ) (key before : List ℕ) (rs : List ℕ) → c.place ≡ at → c.shared ≡ cond t 0 (common before key) → 0 < at → ((r : ℕ) (more : List ℕ) → rs ≡ r ∷ more → at < r)
    → restarts_left (c ∷ cells) (cond t (at ∷ []) [] ++ rs) ≡ restarts_left cells rs
one_gone true c cells at key before rs ep es some later = passes_restart c cells at rs (omega arith) ep es
one_gone false c cells at key before rs ep es some later = not_here c cells rs (λ r more e. let less = later r more e in omega arith)

restarts_gone : (items : List Item) (n at : ℕ) (before : List ℕ) → 0 < at → restarts_left (cells_from n at before items) (restarts_from n at before items) ≡ []
unfolding restarts_from cells_from restarts_left
restarts_gone [] n at before some = refl
restarts_gone (i ∷ items) n at before some =
    let long : 3 ≤ length (entry_at n at before i) = entry_long (shared_at n at before i.key) i.key i.value in
    let next = at + length (entry_at n at before i) in
    one_gone (is_restart n at) (cell_from n at before i) (cells_from (suc n) next i.key items) at i.key before (restarts_from (suc n) next i.key items) refl refl some
    (λ r more e. let later = restarts_later items (suc n) next i.key r more e in omega arith)
    ∙ restarts_gone items (suc n) next i.key (omega arith)

-- they begin below 2 ^ 32, so that there are few
if_small : (t : Bool) (at : ℕ) (more : List ℕ) → (t ≡ true → at < 2 ^ 32) → AllByRecursion (λ r. r < 2 ^ 32) more → AllByRecursion (λ r. r < 2 ^ 32) (cond t (at ∷ []) [] ++ more)
if_small true at more below h = (below refl, h)
if_small false at more below h = h

pub restarts_small : (items : List Item) (n at : ℕ) (before : List ℕ) → AllByRecursion (λ r. r < 2 ^ 32) (restarts_from n at before items)
unfolding restarts_from
restarts_small [] n at before = tt
restarts_small (i ∷ items) n at before =
    if_small (is_restart n at) at (restarts_from (suc n) (at + length (entry_at n at before i)) i.key items) (restart_below n at) (restarts_small items (suc n) (at + length (entry_at n at before i)) i.key)

if_few : (t : Bool) (at next : ℕ) (more : List ℕ) → (t ≡ true → at < 2 ^ 32) → at + 3 ≤ next → 3 * length more ≤ 2 ^ 32 + 2 - next → 3 * length (cond t (at ∷ []) [] ++ more) ≤ 2 ^ 32 + 2 - at
if_few true at next more below long h = let b = below refl in omega arith
if_few false at next more below long h = omega arith

pub restarts_few : (items : List Item) (n at : ℕ) (before : List ℕ) → 3 * length (restarts_from n at before items) ≤ 2 ^ 32 + 2 - at
unfolding restarts_from
restarts_few [] n at before = omega arith
restarts_few (i ∷ items) n at before =
    let long : 3 ≤ length (entry_at n at before i) = entry_long (shared_at n at before i.key) i.key i.value in
    if_few (is_restart n at) at (at + length (entry_at n at before i)) (restarts_from (suc n) (at + length (entry_at n at before i)) i.key items) (restart_below n at) (omega arith)
    (restarts_few items (suc n) (at + length (entry_at n at before i)) i.key)

-- numbers of four bytes
pub numbers_again : (rs tail : List ℕ) → AllByRecursion (λ r. r < 2 ^ 32) rs → numbers_in (length rs) (flat_map fixed32 rs ++ tail) ≡ rs
unfolding numbers_in fixed32
numbers_again [] tail small = refl
numbers_again (r ∷ rs) tail small = λ i. (both32.read r small.0) i ∷ numbers_again rs tail small.1 i

-- The restarts of a block: the first is 0, and no other is left.
pub restarts_good : (items : List Item) (place n : ℕ) → restart_fault place n (cells_from 0 0 [] items) (or_zero (restarts_from 0 0 [] items)) ≡ None
unfolding restarts_from cells_from restarts_left
restarts_good [] place n = refl
restarts_good (i ∷ items) place n =
    let next = 0 + length (entry_at 0 0 [] i) in
    let long : 3 ≤ length (entry_at 0 0 [] i) = entry_long 0 i.key i.value in
    let gone : restarts_left (cell_from 0 0 [] i ∷ cells_from 1 next i.key items) (restarts_from 1 next i.key items) ≡ [] =
    first_passed (cell_from 0 0 [] i) (cells_from 1 next i.key items) (restarts_from 1 next i.key items) 0 refl (omega arith) ∙ restarts_gone items 1 next i.key (omega arith) in
    rw gone refl
