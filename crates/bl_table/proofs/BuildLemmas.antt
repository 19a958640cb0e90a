-- A table that grows by an entry, and its end.
use Rattle.std.proofs.Common.{◌≡◌, ℕ, zero, suc, ◌+◌, ◌-◌, ◌*◌, ◌/◌, ◌%◌, ◌^◌, ◌<◌, ◌≤◌, nat_lt, Bool, true, false, cond, List, [], ◌∷◌, ◌++◌, length, length-append, refl, sym, ◌∙◌, ap, subst, arith, append_assoc, append-nil, add-zero}
use Rattle.std.proofs.lemmas.Bool.{le-leb, lt-leb}
use Rattle.bl_code.specs.Numbers.{varint, varint64}
use Rattle.bl_table.specs.Spelling.{Item, Cuts, cut, behind, and_last, blocks_of, data_bytes, handle, index_item, index_from, closing, footer, is_complete, block, with_trailer, closed, entries_from, restarts_from, table}
use Rattle.bl_table.specs.Building.{Writing, Holds, written, block_of, Building, HasAdded, item, nothing}
use Rattle.bl_table.proofs.SpellLemmas.{holds_none, holds_more, block_is, block_size, some_bytes, holds_nothing, no_bytes}

pub starts : (b i : Writing) → b ≡ nothing → i ≡ nothing → HasAdded [] [] (record { block = b; index = i; offset = 0 })
unfolding index_from
starts b i eb ei =
    let P : Writing → Type 0 = λ w. Holds [] w in
    record { blocks = []; hand = []; cuts = λ more. refl; given_is = refl; block = subst P (sym eb) holds_none; index = subst P (sym ei) holds_none; offset = refl }

pub size_is : (items : List Item) (given : List ℕ) (b : Building) (offset size : ℕ) (added : HasAdded items given b) → offset ≡ b.offset → size ≡ length b.block.bytes → (offset + size) % 2 ^ 64 ≡ (length given + length (entries_from 0 0 [] added.hand)) % 2 ^ 64
size_is items given b offset size added eo es =
    let n = ap length (some_bytes added.hand b.block added.block) in
    let o = added.offset in
    omega arith

pub cut_some : (hand : List Item) (i : Item) (more : List Item) (b : Bool) → is_complete (hand ++ i ∷ []) ≡ b → cut hand (i ∷ more) ≡ elim b as (λ x. Cuts) [ true ↦ behind ((hand ++ i ∷ []) ∷ []) (cut [] more) | false ↦ cut (hand ++ i ∷ []) more ]
unfolding cut
cut_some hand i more b e = ap (λ (t : Bool). elim t as (λ x. Cuts) [ true ↦ behind ((hand ++ i ∷ []) ∷ []) (cut [] more) | false ↦ cut (hand ++ i ∷ []) more ]) e

-- the size tells whether the block is complete
size_tells : (hand : List Item) (i : Item) (w : Writing) (size : ℕ) → Holds hand w → size ≡ length (written w i).bytes + 4 * length (written w i).restarts + 4 → length (block (hand ++ i ∷ [])) ≡ size
size_tells hand i w size h e = block_size hand i (written w i) (holds_more hand w i h) ∙ sym e

pub adds_hand : (items : List Item) (given bytes : List ℕ) (b new : Building) (i : Item) (size : ℕ) → size ≡ length (written b.block i).bytes + 4 * length (written b.block i).restarts + 4 → size < 4096 → bytes ≡ []
    → new ≡ record b { block = written b.block i } → HasAdded items given b → HasAdded (items ++ i ∷ []) (given ++ bytes) new
adds_hand items given bytes b new i size es small none en h =
    let n = size_tells h.hand i b.block size h.block es in
    let incomplete : is_complete (h.hand ++ i ∷ []) ≡ false = lt-leb 4096 (length (block (h.hand ++ i ∷ []))) (omega arith) in
    let P : Building → Type 0 = λ x. HasAdded (items ++ i ∷ []) (given ++ bytes) x in
    let same : given ++ bytes ≡ given = ap (λ x. given ++ x) none ∙ append-nil given in
    subst P (sym en) (record {
      blocks = h.blocks;
      hand = h.hand ++ i ∷ [];
      cuts = λ more. ap (cut []) (append_assoc items (i ∷ []) more) ∙ h.cuts (i ∷ more) ∙ ap (behind h.blocks) (cut_some h.hand i more false incomplete);
      given_is = same ∙ h.given_is;
      block = holds_more h.hand b.block i h.block;
      index = h.index;
      offset = h.offset ∙ ap (λ x. length x % 2 ^ 64) (sym same);
    })

data_bytes-append : (a b : List (List Item)) → data_bytes (a ++ b) ≡ data_bytes a ++ data_bytes b
data_bytes-append [] b = refl
data_bytes-append (x ∷ a) b = ap (λ r. with_trailer (block x) ++ r) (data_bytes-append a b) ∙ sym (append_assoc (with_trailer (block x)) (data_bytes a) (data_bytes b))

pub index_from-push : (a : List (List Item)) (at : ℕ) (items : List Item) → index_from at (a ++ items ∷ []) ≡ index_from at a ++ index_item (at + length (data_bytes a)) items ∷ []
unfolding index_from
index_from-push [] at items = ap (λ k. index_item k items ∷ []) (sym (add-zero at))
index_from-push (x ∷ a) at items =
    let n : at + length (with_trailer (block x)) + length (data_bytes a) ≡ at + length (with_trailer (block x) ++ data_bytes a) = simp length-append (omega arith) in
    ap (λ r. index_item at x ∷ r) (index_from-push a (at + length (with_trailer (block x))) items ∙ ap (λ k. index_from (at + length (with_trailer (block x))) a ++ index_item k items ∷ []) n)

-- the index has an entry for the block in hand
pub index_more : (blocks : List (List Item)) (hand : List Item) (w index : Writing) (given key : List ℕ) (offset : ℕ) → Holds hand w → Holds (index_from 0 blocks) index → given ≡ data_bytes blocks → offset ≡ length given % 2 ^ 64 → key ≡ w.last
    → Holds (index_from 0 (blocks ++ hand ∷ [])) (written index (item key (handle offset (length (block_of w)))))
index_more blocks hand w index given key offset held h eg eo ek =
    let place : offset ≡ (0 + length (data_bytes blocks)) % 2 ^ 64 = let e = ap length eg in omega arith in
    let same : index_item (0 + length (data_bytes blocks)) hand ≡ item key (handle offset (length (block_of w))) =
    ap (λ k. item k (handle ((0 + length (data_bytes blocks)) % 2 ^ 64) (length (block hand)))) (sym (ek ∙ held.last))
    ∙ ap (λ p. item key (handle p (length (block hand)))) (sym place)
    ∙ ap (λ b. item key (handle offset (length b))) (block_is hand w held) in
    let list : index_from 0 (blocks ++ hand ∷ []) ≡ index_from 0 blocks ++ item key (handle offset (length (block_of w))) ∷ [] =
    index_from-push blocks 0 hand ∙ ap (λ i. index_from 0 blocks ++ i ∷ []) same in
    let P : List Item → Type 0 = λ items. Holds items (written index (item key (handle offset (length (block_of w))))) in
    subst P (sym list) (holds_more (index_from 0 blocks) index (item key (handle offset (length (block_of w)))) h)

behind_twice : (a : List (List Item)) (x : List Item) (c : Cuts) → behind a (behind (x ∷ []) c) ≡ behind (a ++ x ∷ []) c
behind_twice a x c = ap (λ (bs : List (List Item)). record c { blocks = bs }) (sym (append_assoc a (x ∷ []) c.blocks))

pub adds_block : (items : List Item) (given bytes : List ℕ) (b new : Building) (i : Item) (size offset : ℕ) (index block' : Writing) → size ≡ length (written b.block i).bytes + 4 * length (written b.block i).restarts + 4 → 4096 ≤ size
    → bytes ≡ with_trailer (block_of (written b.block i)) → index ≡ written b.index (item i.key (handle b.offset (length (block_of (written b.block i))))) → block' ≡ nothing → offset ≡ (b.offset + length bytes) % 2 ^ 64
    → new ≡ record { block = block'; index = index; offset = offset } → HasAdded items given b → HasAdded (items ++ i ∷ []) (given ++ bytes) new
adds_block items given bytes b new i size offset index block' es large ey ei eb eo en h =
    let n = size_tells h.hand i b.block size h.block es in
    let complete : is_complete (h.hand ++ i ∷ []) ≡ true = le-leb 4096 (length (block (h.hand ++ i ∷ []))) (omega arith) in
    let held = holds_more h.hand b.block i h.block in
    let P : Building → Type 0 = λ x. HasAdded (items ++ i ∷ []) (given ++ bytes) x in
    let B : Writing → Type 0 = λ w. Holds [] w in
    let I : Writing → Type 0 = λ w. Holds (index_from 0 (h.blocks ++ (h.hand ++ i ∷ []) ∷ [])) w in
    let bytes_is : bytes ≡ with_trailer (block (h.hand ++ i ∷ [])) = ey ∙ ap with_trailer (sym (block_is (h.hand ++ i ∷ []) (written b.block i) held)) in
    let more_length : length (given ++ bytes) ≡ length given + length bytes = length-append given bytes in
    let before = h.offset in
    subst P (sym en) (record {
      blocks = h.blocks ++ (h.hand ++ i ∷ []) ∷ [];
      hand = [];
      cuts = λ more.
          ap (cut []) (append_assoc items (i ∷ []) more) ∙ h.cuts (i ∷ more) ∙ ap (behind h.blocks) (cut_some h.hand i more true complete)
          ∙ behind_twice h.blocks (h.hand ++ i ∷ []) (cut [] more);
      given_is = ap (λ g. g ++ bytes) h.given_is ∙ ap (λ x. data_bytes h.blocks ++ x) (bytes_is ∙ sym (append-nil (with_trailer (block (h.hand ++ i ∷ [])))))
          ∙ sym (data_bytes-append h.blocks ((h.hand ++ i ∷ []) ∷ []));
      block = subst B (sym eb) holds_none;
      index = subst I (sym ei) (index_more h.blocks (h.hand ++ i ∷ []) (written b.block i) b.index given i.key b.offset held h.index h.given_is h.offset refl);
      offset = eo ∙ (omega arith);
    })

-- the varints of a handle
if_short : (b : Bool) (k n x : ℕ) (more : List ℕ) → length more ≤ k → length (cond b (n ∷ []) (x ∷ more)) ≤ suc k
if_short true k n x more h = omega arith
if_short false k n x more h = omega arith

varint_short : (k n : ℕ) → length (varint k n) ≤ k
unfolding varint
varint_short zero n = omega arith
varint_short (suc k) n = if_short (nat_lt n 128) k n (128 + n % 128) (varint k (n / 128)) (varint_short k (n / 128))

pub handle_short : (offset size : ℕ) → length (handle offset size) ≤ 20
handle_short offset size =
    let a = varint_short 10 offset in
    let b = varint_short 10 size in
    let n = length-append (varint64 offset) (varint64 size) in
    omega arith

-- what follows the data blocks
pub closes : (out a b c d e index : List ℕ) (at after size : ℕ) → a ≡ closed out (0 ∷ []) → at < 2 ^ 64 → b ≡ out ++ with_trailer (block []) → c ≡ b ++ index → d ≡ b ++ with_trailer index → after ≡ (at + 13) % 2 ^ 64 → size ≡ length c - length b
    → e ≡ d ++ footer at after size → e ≡ out ++ closing at index
closes out a b c d e index at after size ea within eb ec ed eh es ee =
    let n : size ≡ length index = es ∙ ap (λ x. length x - length b) ec ∙ ap (λ k. k - length b) (length-append b index) ∙ (omega arith) in
    let place : at ≡ at % 2 ^ 64 = omega arith in
    ee ∙ ap (λ x. x ++ footer at after size) (ed ∙ ap (λ x. x ++ with_trailer index) eb)
    ∙ ap (λ s. ((out ++ with_trailer (block [])) ++ with_trailer index) ++ footer at after s) n
    ∙ ap (λ h. ((out ++ with_trailer (block [])) ++ with_trailer index) ++ footer at h (length index)) eh
    ∙ ap (λ p. ((out ++ with_trailer (block [])) ++ with_trailer index) ++ footer p ((at + 13) % 2 ^ 64) (length index)) place
    ∙ append_assoc (out ++ with_trailer (block [])) (with_trailer index) (footer (at % 2 ^ 64) ((at + 13) % 2 ^ 64) (length index))
    ∙ append_assoc out (with_trailer (block [])) (with_trailer index ++ footer (at % 2 ^ 64) ((at + 13) % 2 ^ 64) (length index))

pub empty_block : (out : List ℕ) → closed out (0 ∷ []) ≡ out ++ block []
unfolding block entries_from restarts_from
empty_block out = refl

-- the whole of a table
same_closing : (at n : ℕ) (index : List ℕ) → at ≡ n % 2 ^ 64 → closing at index ≡ closing n index
same_closing at n index e =
    let a : at % 2 ^ 64 ≡ n % 2 ^ 64 = omega arith in
    let b : (at + 13) % 2 ^ 64 ≡ (n + 13) % 2 ^ 64 = omega arith in
    ap (λ m. with_trailer (block []) ++ (with_trailer index ++ footer m ((at + 13) % 2 ^ 64) (length index))) a
    ∙ ap (λ m. with_trailer (block []) ++ (with_trailer index ++ footer (n % 2 ^ 64) m (length index))) b

cut_all : (hand : List Item) → cut hand [] ≡ record { blocks = []; hand = hand }
unfolding cut
cut_all hand = refl

blocks_are : (items : List Item) (given : List ℕ) (b : Building) → (h : HasAdded items given b) → blocks_of items ≡ h.blocks ++ and_last h.hand
blocks_are items given b h =
    let e : cut [] items ≡ record { blocks = h.blocks ++ []; hand = h.hand } = ap (cut []) (sym (append-nil items)) ∙ h.cuts [] ∙ ap (behind h.blocks) (cut_all h.hand) in
    ap (λ (c : Cuts). c.blocks ++ and_last c.hand) e ∙ ap (λ x. x ++ and_last h.hand) (append-nil h.blocks)

whole : (items : List Item) (given bytes index rest : List ℕ) (blocks : List (List Item)) (at : ℕ) → blocks_of items ≡ blocks → given ++ bytes ≡ data_bytes blocks → index ≡ block (index_from 0 blocks) → at ≡ length (given ++ bytes) % 2 ^ 64
    → rest ≡ bytes ++ closing at index → given ++ rest ≡ table items
unfolding table
whole items given bytes index rest blocks at eb eg ei ea er =
    ap (λ r. given ++ r) (er ∙ ap (λ c. bytes ++ c) (same_closing at (length (given ++ bytes)) index ea)) ∙ sym (append_assoc given bytes (closing (length (given ++ bytes)) index))
    ∙ ap (λ g. g ++ closing (length g) index) eg
    ∙ ap (λ i. data_bytes blocks ++ closing (length (data_bytes blocks)) i) ei
    ∙ ap (λ bs. data_bytes bs ++ closing (length (data_bytes bs)) (block (index_from 0 bs))) (sym eb)

pub ends_empty : (items : List Item) (given rest : List ℕ) (b : Building) → HasAdded items given b → b.block.bytes ≡ [] → rest ≡ closing b.offset (block_of b.index) → given ++ rest ≡ table items
ends_empty items given rest b h none er =
    let hand : h.hand ≡ [] = holds_nothing h.hand b.block h.block none in
    let blocks : blocks_of items ≡ h.blocks = blocks_are items given b h ∙ ap (λ x. h.blocks ++ and_last x) hand ∙ append-nil h.blocks in
    let all : given ++ [] ≡ given = append-nil given in
    whole items given [] (block_of b.index) rest h.blocks b.offset blocks (all ∙ h.given_is) (sym (block_is (index_from 0 h.blocks) b.index h.index)) (h.offset ∙ ap (λ x. length x % 2 ^ 64) (sym all)) er

last_block : (hand : List Item) → (hand ≡ [] → ⊥) → and_last hand ≡ hand ∷ []
last_block [] some = absurd (some refl)
last_block (i ∷ hand) some = refl

pub ends_block : (items : List Item) (given rest bytes key : List ℕ) (b : Building) (index : Writing) (at : ℕ) → HasAdded items given b → (b.block.bytes ≡ [] → ⊥) → bytes ≡ with_trailer (block_of b.block) → key ≡ b.block.last
    → index ≡ written b.index (item key (handle b.offset (length (block_of b.block)))) → at ≡ (b.offset + length bytes) % 2 ^ 64 → rest ≡ bytes ++ closing at (block_of index) → given ++ rest ≡ table items
ends_block items given rest bytes key b index at h some ey ek ei ea er =
    let P : List Item → Type 0 = λ hand. Holds hand b.block in
    let hand : h.hand ≡ [] → ⊥ = λ e. some (no_bytes b.block (subst P e h.block)) in
    let blocks : blocks_of items ≡ h.blocks ++ h.hand ∷ [] = blocks_are items given b h ∙ ap (λ x. h.blocks ++ x) (last_block h.hand hand) in
    let I : Writing → Type 0 = λ w. Holds (index_from 0 (h.blocks ++ h.hand ∷ [])) w in
    let indexed : Holds (index_from 0 (h.blocks ++ h.hand ∷ [])) index = subst I (sym ei) (index_more h.blocks h.hand b.block b.index given key b.offset h.block h.index h.given_is h.offset ek) in
    let bytes_are : bytes ≡ data_bytes (h.hand ∷ []) = ey ∙ ap with_trailer (sym (block_is h.hand b.block h.block)) ∙ sym (append-nil (with_trailer (block h.hand))) in
    let n = length-append given bytes in
    let o = h.offset in
    whole items given bytes (block_of index) rest (h.blocks ++ h.hand ∷ []) at blocks
    (ap (λ g. g ++ bytes) h.given_is ∙ ap (λ x. data_bytes h.blocks ++ x) bytes_are ∙ sym (data_bytes-append h.blocks (h.hand ∷ [])))
    (sym (block_is (index_from 0 (h.blocks ++ h.hand ∷ [])) index indexed)) (ea ∙ (omega arith)) er
