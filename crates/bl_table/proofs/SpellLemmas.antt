-- What the calls that write a block leave.
use Rattle.std.proofs.Common.{◌≡◌, ℕ, suc, ◌+◌, ◌-◌, ◌*◌, ◌/◌, ◌%◌, ◌^◌, ◌<◌, ◌≤◌, ◌&&◌, nat_lt, nat_eq, Bool, true, false, cond, List, [], ◌∷◌, ◌++◌, length, length-append, drop, flat_map, refl, sym, ◌∙◌, ap, subst, arith, append_assoc, append-nil, ◌⊎◌, inl, inr}
use Rattle.std.proofs.lemmas.Bool.{ltb-true}
use Rattle.std.proofs.lemmas.List.{drop_all}
use Rattle.std.proofs.Math.Seq.{drop-append_seam}
use Rattle.bl_code.specs.Numbers.{varint, varint32, fixed32}
use Rattle.bl_code.specs.Crc.{crc32c, mask_of}
use Rattle.bl_table.specs.Spelling.{Item, last_key, block, common, entry, entry_at, entries_from, restarts_from, restart_here, is_restart, shared_at, or_zero, closed, with_trailer}
use Rattle.bl_table.specs.Building.{Writing, Holds, written, block_of}

common_none : (a : List ℕ) → common a [] ≡ 0
common_none [] = refl
common_none (x ∷ a) = refl

pub common_ends : (a b : List ℕ) (n : ℕ) → common a b ≡ n + common (drop n a) (drop n b) → length b ≤ n → n ≡ common a b
common_ends a b n same few =
    let none : common (drop n a) (drop n b) ≡ 0 = ap (common (drop n a)) (drop_all n b few) ∙ common_none (drop n a) in
    omega arith

pub spelled_entry : (out a b c d e tail key value : List ℕ) (shared : ℕ) → a ≡ out ++ varint32 shared → b ≡ a ++ varint32 (length key - shared) → c ≡ b ++ varint32 (length value) → d ≡ c ++ tail → tail ≡ drop shared key → e ≡ d ++ value
    → e ≡ out ++ entry shared key value
unfolding entry
spelled_entry out a b c d e tail key value shared ea eb ec ed et ee =
    let ed' : d ≡ c ++ drop shared key = ed ∙ ap (λ t. c ++ t) et in
    ee ∙ rw (ed', ec, eb, ea) (simp append_assoc)

pub trailed : (old front block slice a b : List ℕ) (sum from : ℕ) → length front ≡ from → old ≡ front ++ block → slice ≡ drop from old → sum ≡ mask_of (crc32c (slice ++ 0 ∷ [])) → a ≡ old ++ 0 ∷ [] → b ≡ a ++ fixed32 sum → b ≡ front ++ with_trailer block
unfolding with_trailer
trailed old front block slice a b sum from n e es esum ea eb =
    let slice_is : slice ≡ block = es ∙ ap (drop from) e ∙ ap (λ k. drop k (front ++ block)) (sym n) ∙ drop-append_seam front block in
    let sum_is : sum ≡ mask_of (crc32c (block ++ 0 ∷ [])) = esum ∙ ap (λ s. mask_of (crc32c (s ++ 0 ∷ []))) slice_is in
    eb ∙ ap (λ x. x ++ fixed32 sum) (ea ∙ ap (λ x. x ++ 0 ∷ []) e) ∙ ap (λ s. ((front ++ block) ++ 0 ∷ []) ++ fixed32 s) sum_is ∙ simp append_assoc

-- a block with one more entry
pub holds_none : Holds [] (record { bytes = []; restarts = []; count = 0; last = [] })
holds_none = record { number = 0; count = refl; last = refl; entries = λ more. refl; restarts = λ more. refl }

same_restart : (n at : ℕ) → is_restart (n % 16) at ≡ is_restart n at
same_restart n at = let e : (n % 16) % 16 ≡ n % 16 = omega arith in ap (λ k. (nat_eq k 0) && nat_lt at (2 ^ 32)) e

same_entry : (n at : ℕ) (before : List ℕ) (i : Item) → entry_at (n % 16) at before i ≡ entry_at n at before i
same_entry n at before i = ap (λ (b : Bool). entry (cond b 0 (common before i.key)) i.key i.value) (same_restart n at)

same_here : (n at : ℕ) → restart_here (n % 16) at ≡ restart_here n at
same_here n at = ap (λ (b : Bool). cond b (at ∷ []) []) (same_restart n at)

pub last_key-push : (items : List Item) (i : Item) → last_key (items ++ i ∷ []) ≡ i.key
last_key-push [] i = refl
last_key-push (x ∷ []) i = refl
last_key-push (x ∷ y ∷ items) i = last_key-push (y ∷ items) i

pub holds_more : (items : List Item) (w : Writing) (i : Item) → Holds items w → Holds (items ++ i ∷ []) (written w i)
unfolding entries_from restarts_from
holds_more items w i h =
    let n = h.number in
    let at = length w.bytes in
    let e : entry_at n at w.last i ≡ entry_at w.count at w.last i = sym (same_entry n at w.last i) ∙ ap (λ k. entry_at k at w.last i) (sym h.count) in
    let r : restart_here n at ≡ restart_here w.count at = sym (same_here n at) ∙ ap (λ k. restart_here k at) (sym h.count) in
    let m : at + length (entry_at n at w.last i) ≡ length (w.bytes ++ entry_at w.count at w.last i) = ap (λ x. at + length x) e ∙ sym (length-append w.bytes (entry_at w.count at w.last i)) in
    record {
      number = suc n;
      count = ap (λ k. (k + 1) % 16) h.count ∙ (omega arith);
      last = sym (last_key-push items i);
      entries = λ more.
          ap (entries_from 0 0 []) (append_assoc items (i ∷ []) more) ∙ h.entries (i ∷ more)
          ∙ ap (λ x. w.bytes ++ (x ++ entries_from (suc n) (at + length (entry_at n at w.last i)) i.key more)) e
          ∙ ap (λ k. w.bytes ++ (entry_at w.count at w.last i ++ entries_from (suc n) k i.key more)) m
          ∙ sym (append_assoc w.bytes (entry_at w.count at w.last i) (entries_from (suc n) (length (w.bytes ++ entry_at w.count at w.last i)) i.key more));
      restarts = λ more.
          ap (restarts_from 0 0 []) (append_assoc items (i ∷ []) more) ∙ h.restarts (i ∷ more)
          ∙ ap (λ x. w.restarts ++ (x ++ restarts_from (suc n) (at + length (entry_at n at w.last i)) i.key more)) r
          ∙ ap (λ k. w.restarts ++ (restart_here w.count at ++ restarts_from (suc n) k i.key more)) m
          ∙ sym (append_assoc w.restarts (restart_here w.count at) (restarts_from (suc n) (length (w.bytes ++ entry_at w.count at w.last i)) i.key more));
    }

-- an entry has three bytes at least
one_byte : (b : Bool) (n : ℕ) (x : ℕ) (more : List ℕ) → 1 ≤ length (cond b (n ∷ []) (x ∷ more))
one_byte true n x more = omega arith
one_byte false n x more = omega arith

varint_long : (n : ℕ) → 1 ≤ length (varint32 n)
unfolding varint
varint_long n = one_byte (nat_lt n 128) n (128 + n % 128) (varint 4 (n / 128))

pub entry_long : (shared : ℕ) (key value : List ℕ) → 3 ≤ length (entry shared key value)
unfolding entry
entry_long shared key value =
    let a = varint_long shared in
    let b = varint_long (length key - shared) in
    let c = varint_long (length value) in
    simp length-append (omega arith)

both_true : (a b : Bool) → (a && b) ≡ true → b ≡ true
both_true true b e = e
both_true false b e = absurd cc

pub restart_below : (n at : ℕ) → is_restart n at ≡ true → at < 2 ^ 32
restart_below n at e = ltb-true at (2 ^ 32) (both_true (nat_eq (n % 16) 0) (nat_lt at (2 ^ 32)) e)

-- what a block in the making keeps of its restarts
pub keeps_restarts : (bytes after restarts next key value : List ℕ) (count at shared : ℕ) (restart : Bool) → at ≡ length bytes → 3 * length restarts ≤ length bytes → length restarts < 2 ^ 32 → restart ≡ is_restart count at
    → ((restart ≡ true) × (next ≡ restarts ++ at ∷ [])) ⊎ ((restart ≡ false) × (next ≡ restarts)) → after ≡ bytes ++ entry shared key value → (3 * length next ≤ length after) × (length next < 2 ^ 32)
keeps_restarts bytes after restarts next key value count at shared restart ea few small er which eb =
    let n : length after ≡ length bytes + length (entry shared key value) = ap length eb ∙ length-append bytes (entry shared key value) in
    let long = entry_long shared key value in
    elim which [
      | inl yes_ ↦
          let m : length next ≡ length restarts + 1 = ap length yes_.1 ∙ length-append restarts (at ∷ []) in
          let below = restart_below count at (sym er ∙ yes_.0) in
          (omega arith, omega arith)
      | inr no_ ↦ let m : length next ≡ length restarts = ap length no_.1 in (omega arith, omega arith)
    ]

-- the block of what is held
pub block_is : (items : List Item) (w : Writing) → Holds items w → block items ≡ block_of w
unfolding block entries_from restarts_from
block_is items w h =
    let e : entries_from 0 0 [] items ≡ w.bytes = ap (entries_from 0 0 []) (sym (append-nil items)) ∙ h.entries [] ∙ append-nil w.bytes in
    let r : restarts_from 0 0 [] items ≡ w.restarts = ap (restarts_from 0 0 []) (sym (append-nil items)) ∙ h.restarts [] ∙ append-nil w.restarts in
    ap (λ x. closed x (or_zero (restarts_from 0 0 [] items))) e ∙ ap (λ x. closed w.bytes (or_zero x)) r

pub some_bytes : (items : List Item) (w : Writing) → Holds items w → entries_from 0 0 [] items ≡ w.bytes
unfolding entries_from
some_bytes items w h = ap (entries_from 0 0 []) (sym (append-nil items)) ∙ h.entries [] ∙ append-nil w.bytes

-- a block without bytes has no item
pub holds_nothing : (items : List Item) (w : Writing) → Holds items w → w.bytes ≡ [] → items ≡ []
unfolding entries_from
holds_nothing [] w h none = refl
holds_nothing (i ∷ items) w h none =
    let e = ap length (some_bytes (i ∷ items) w h ∙ none) in
    let long = entry_long (shared_at 0 0 [] i.key) i.key i.value in
    let n = length-append (entry_at 0 0 [] i) (entries_from 1 (0 + length (entry_at 0 0 [] i)) i.key items) in
    absurd (omega arith)

pub no_bytes : (w : Writing) → Holds [] w → w.bytes ≡ []
unfolding entries_from
no_bytes w h = sym (some_bytes [] w h)

pub length-fixed : (restarts : List ℕ) → length (flat_map fixed32 restarts) ≡ 4 * length restarts
unfolding fixed32
length-fixed [] = refl
length-fixed (r ∷ rs) = let e = length-fixed rs in let n = length-append (fixed32 r) (flat_map fixed32 rs) in omega arith

closed_size : (bytes : List ℕ) (r : ℕ) (rs : List ℕ) → length (closed bytes (r ∷ rs)) ≡ length bytes + 4 * length (r ∷ rs) + 4
unfolding fixed32
closed_size bytes r rs =
    let a = length-append bytes (flat_map fixed32 (r ∷ rs) ++ fixed32 (length (r ∷ rs))) in
    let b = length-append (flat_map fixed32 (r ∷ rs)) (fixed32 (length (r ∷ rs))) in
    let c = length-fixed (r ∷ rs) in
    omega arith

first_restart : (items : List Item) (w : Writing) (i : Item) (more : List Item) → Holds items w → items ≡ i ∷ more → (r : ℕ) × (rs : List ℕ) × (w.restarts ≡ r ∷ rs)
unfolding restarts_from
first_restart items w i more h e =
    (0, restarts_from 1 (0 + length (entry_at 0 0 [] i)) i.key more, sym (ap (restarts_from 0 0 []) (sym (append-nil items)) ∙ h.restarts [] ∙ append-nil w.restarts) ∙ ap (restarts_from 0 0 []) e)

not_none : (items : List Item) (i : Item) → (j : Item) × (more : List Item) × (items ++ i ∷ [] ≡ j ∷ more)
not_none [] i = (i, [], refl)
not_none (x ∷ items) i = (x, items ++ i ∷ [], refl)

some_restart : (items : List Item) (i : Item) (w : Writing) → Holds (items ++ i ∷ []) w → length (block_of w) ≡ length w.bytes + 4 * length w.restarts + 4
some_restart items i w h =
    let n = not_none items i in
    let r = first_restart (items ++ i ∷ []) w n.0 n.1 h n.2 in
    let P : List ℕ → Type 0 = λ rs. length (closed w.bytes (or_zero rs)) ≡ length w.bytes + 4 * length rs + 4 in
    subst P (sym r.2) (closed_size w.bytes r.0 r.1)

pub block_size : (items : List Item) (i : Item) (w : Writing) → Holds (items ++ i ∷ []) w → length (block (items ++ i ∷ [])) ≡ length w.bytes + 4 * length w.restarts + 4
block_size items i w h = ap length (block_is (items ++ i ∷ []) w h) ∙ some_restart items i w h
