-- A table that a builder spells is read again.
use Rattle.std.proofs.Common.{◌≡◌, ℕ, suc, ◌+◌, ◌-◌, ◌%◌, ◌^◌, ◌<◌, ◌≤◌, ◌==◌, ◌&&◌, ◌||◌, Bool, true, false, cond, List, [], ◌∷◌, ◌++◌, length, length-append, map, take, drop, flat_map, Option, None, Some, refl, sym, ◌∙◌, ap, subst, arith, lit<, append_assoc, append-nil}
use Rattle.std.specs.Prelude.{option_and_then, not, is_some, replicate, Result, Ok}
use Rattle.std.specs.Ordering.{is_lt}
use Rattle.std.specs.Int.{w64, from_le_bytes}
use Rattle.std.proofs.lemmas.Bool.{ne_eqb, le-leb, cond-true}
use Rattle.std.proofs.lemmas.List.{length-replicate}
use Rattle.std.proofs.Math.Seq.{take-append_seam, drop-append_seam}
use Rattle.bl_code.specs.Order.{key_order}
use Rattle.bl_code.specs.Numbers.{fixed32, varint64, fixed64}
use Rattle.bl_code.specs.Reading.{Input, Read, take_varint64, from_start}
use Rattle.bl_code.proofs.ReadingLemmas.{varint64_again}
use Rattle.bl_table.specs.declared.handle.Handle.{Handle}
use Rattle.bl_table.specs.declared.entry.BlockEntry.{BlockEntry}
use Rattle.bl_table.specs.declared.fault.TableRule.TheVariants as rule
use Rattle.bl_table.specs.Faults.{Fault, ◌or◌, ◌and◌, expect, unless}
use Rattle.bl_table.specs.Blocks.{Contents, block_at, entry_of, head_entry, stands_behind}
use Rattle.bl_table.specs.Spelling.{Item, Cuts, cut, behind, and_last, blocks_of, data_bytes, handle, last_key, index_item, index_from, footer, is_complete, block, with_trailer, entries_from, restarts_from, entry_at, table}
use Rattle.bl_table.specs.Table.{handle_at}
use Rattle.bl_table.specs.Whole.{Data, no_entry, Footer, footer_in, named, second_fault, block_of, data_handle, block_entries, block_fault, data_at, data_of, have_order, ascend, descend, last_entry, order_fault, last_fault, next_fault, data_fault, meta_fault, index_fault, entries_with, read_table}
use Rattle.bl_table.specs.Laws.{Ascend, item_of, HasItems}
use Rattle.bl_table.proofs.OrderLemmas.{not_before_itself, before_trans}
use Rattle.bl_table.proofs.BuildLemmas.{cut_some, handle_short}
use Rattle.bl_table.proofs.SpellLemmas.{entry_long}
use Rattle.bl_table.proofs.AgainLemmas.{AreWritten, cells_from, cell_from}
use Rattle.bl_table.proofs.BlockAgainLemmas.{block_at_again, trailed_size}
use Rattle.bl_table.proofs.ReadLemmas.{entries_in, whole_long}

abbrev pub joined : List (List Item) → List Item
joined blocks = flat_map (λ (b : List Item). b) blocks

-- each block has an entry
abbrev pub AllSome : List (List Item) → Type 0
AllSome [] = Unit {0}
AllSome ([] ∷ blocks) = ⊥
AllSome ((i ∷ items) ∷ blocks) = AllSome blocks

joined-append : (a b : List (List Item)) → joined (a ++ b) ≡ joined a ++ joined b
joined-append [] b = refl
joined-append (x ∷ a) b = ap (λ r. x ++ r) (joined-append a b) ∙ sym (append_assoc x (joined a) (joined b))

some-append : (a b : List (List Item)) → AllSome a → AllSome b → AllSome (a ++ b)
some-append [] b ha hb = hb
some-append ([] ∷ a) b ha hb = absurd ha
some-append ((i ∷ x) ∷ a) b ha hb = some-append a b ha hb

some_pushed : (hand : List Item) (i : Item) (blocks : List (List Item)) → AllSome blocks → AllSome ((hand ++ i ∷ []) ∷ blocks)
some_pushed [] i blocks h = h
some_pushed (x ∷ hand) i blocks h = h

-- the blocks of a table are its entries, cut
abbrev IsCut : List Item → List Item → Cuts → Type 0
IsCut hand items c = (joined c.blocks ++ c.hand ≡ hand ++ items) × AllSome c.blocks

cut_on : (hand items : List Item) (i : Item) (b : Bool) → is_complete (hand ++ i ∷ []) ≡ b → IsCut [] items (cut [] items) → IsCut (hand ++ i ∷ []) items (cut (hand ++ i ∷ []) items) → IsCut hand (i ∷ items) (cut hand (i ∷ items))
cut_on hand items i true e h g =
    let P : Cuts → Type 0 = λ c. IsCut hand (i ∷ items) c in
    subst P (sym (cut_some hand i items true e)) (
      append_assoc (hand ++ i ∷ []) (joined (cut [] items).blocks) (cut [] items).hand ∙ ap (λ r. (hand ++ i ∷ []) ++ r) h.0 ∙ append_assoc hand (i ∷ []) items,
      some_pushed hand i (cut [] items).blocks h.1,
    )
cut_on hand items i false e h g =
    let P : Cuts → Type 0 = λ c. IsCut hand (i ∷ items) c in
    subst P (sym (cut_some hand i items false e)) (g.0 ∙ append_assoc hand (i ∷ []) items, g.1)

cut_is : (items hand : List Item) → IsCut hand items (cut hand items)
unfolding cut
cut_is [] hand = (sym (append-nil hand), tt)
cut_is (i ∷ items) hand = cut_on hand items i (is_complete (hand ++ i ∷ [])) refl (cut_is items []) (cut_is items (hand ++ i ∷ []))

joined_last : (hand : List Item) → joined (and_last hand) ≡ hand
joined_last [] = refl
joined_last (i ∷ hand) = append-nil (i ∷ hand)

some_last : (hand : List Item) → AllSome (and_last hand)
some_last [] = tt
some_last (i ∷ hand) = tt

blocks_join : (items : List Item) → joined (blocks_of items) ≡ items
blocks_join items =
    let c = cut [] items in
    joined-append c.blocks (and_last c.hand) ∙ ap (λ h. joined c.blocks ++ h) (joined_last c.hand) ∙ (cut_is items []).0

blocks_some : (items : List Item) → AllSome (blocks_of items)
blocks_some items = some-append (cut [] items).blocks (and_last (cut [] items).hand) (cut_is items []).1 (some_last (cut [] items).hand)

-- what is written, cut in two
written_front : (a b : List Item) (before : Option (List ℕ)) → AreWritten before (a ++ b) → AreWritten before a
written_front [] b before w = tt
written_front (i ∷ a) b before w = (w.0, w.1, w.2, w.3, written_front a b (Some i.key) w.4)

written_back : (i : Item) (a b : List Item) (before : Option (List ℕ)) → AreWritten before ((i ∷ a) ++ b) → AreWritten (Some (last_key (i ∷ a))) b
written_back i [] b before w = w.4
written_back i (j ∷ a) b before w = written_back j a b (Some i.key) w.4

behind_trans : (before : Option (List ℕ)) (a b : List ℕ) → stands_behind before a ≡ true → is_lt (key_order a b) ≡ true → stands_behind before b ≡ true
behind_trans None a b h g = refl
behind_trans (Some x) a b h g = before_trans x a b h g

-- the last key of a block
last_fits : (i : Item) (items : List Item) (before : Option (List ℕ)) → AreWritten before (i ∷ items) → (9 ≤ length (last_key (i ∷ items))) × (length (last_key (i ∷ items)) < 2 ^ 32) × (stands_behind before (last_key (i ∷ items)) ≡ true)
last_fits i [] before w = (w.0, w.1, w.3)
last_fits i (j ∷ items) before w =
    let more = last_fits j items (Some i.key) w.4 in
    (more.0, more.1, behind_trans before i.key (last_key (j ∷ items)) w.3 more.2)

-- the index can be written
index_written : (blocks : List (List Item)) (at : ℕ) (before : Option (List ℕ)) → AllSome blocks → AreWritten before (joined blocks) → AreWritten before (index_from at blocks)
unfolding index_from
index_written [] at before some w = tt
index_written ([] ∷ blocks) at before some w = absurd some
index_written ((i ∷ items) ∷ blocks) at before some w =
    let last = last_fits i items before (written_front (i ∷ items) (joined blocks) before w) in
    let short = handle_short (at % 2 ^ 64) (length (block (i ∷ items))) in
    (last.0, last.1, omega arith, last.2, index_written blocks (at + length (with_trailer (block (i ∷ items)))) (Some (last_key (i ∷ items))) some (written_back i items (joined blocks) before w))

-- handles
handle_again : (place o s : ℕ) (rest : List ℕ) → o < 2 ^ 64 → s < 2 ^ 64
    → handle_at (record { place = place; left = handle o s ++ rest }) ≡ Some (record { offset = o; size = s }, record { place = place + length (varint64 o) + length (varint64 s); left = rest })
handle_again place o s rest fo fs =
    ap (λ l. handle_at (record { place = place; left = l })) (append_assoc (varint64 o) (varint64 s) rest)
    ∙ ap (option_and_then (λ (offset : ℕ × Input). option_and_then (λ (size : ℕ × Input). Some (record { offset = offset.0; size = size.0 }, size.1)) (take_varint64 offset.1))) (varint64_again o place (varint64 s ++ rest) fo)
    ∙ ap (option_and_then (λ (size : ℕ × Input). Some (record { offset = o; size = size.0 }, size.1))) (varint64_again s (place + length (varint64 o)) rest fs)

named_inside : (size : ℕ) (h : Handle) (behind : Input) → h.offset + h.size + 5 ≤ size - 48 → named size (Some (h, behind)) ≡ Some h
named_inside size h behind inside = cond-true _ _ _ (le-leb _ _ inside)

data_handle_again : (size o s : ℕ) → o < 2 ^ 64 → s < 2 ^ 64 → o + s + 5 ≤ size - 48 → data_handle size (handle o s) ≡ Some (record { offset = o; size = s })
data_handle_again size o s fo fs inside =
    let h : Handle = record { offset = o; size = s } in
    let there : Input = record { place = 0 + length (varint64 o) + length (varint64 s); left = [] } in
    let read : handle_at (from_start (handle o s)) ≡ Some (h, there) = ap (λ l. handle_at (from_start l)) (sym (append-nil (handle o s))) ∙ handle_again 0 o s [] fo fs in
    ap (λ r. named size (option_and_then (λ (q : Handle × Input). cond (length q.1.left == 0) (Some q) None) r)) read ∙ named_inside size h there inside

-- a block that stands somewhere in a table
block_there : (bytes front rest : List ℕ) (items : List Item) (h : Handle) → bytes ≡ front ++ (with_trailer (block items) ++ rest) → h.offset ≡ length front → h.size ≡ length (block items) → length bytes < 2 ^ 64 → AreWritten None items
    → block_of bytes h ≡ record { cells = cells_from 0 0 [] items; bare = length (entries_from 0 0 [] items) == 0; fault = None }
block_there bytes front rest items h eb eo es small written =
    let trailed = with_trailer (block items) in
    let n : h.size + 5 ≡ length trailed = sym (trailed_size (block items) ∙ ap (λ k. k + 5) (sym es)) in
    let there : drop h.offset bytes ≡ trailed ++ rest = ap (λ k. drop k bytes) eo ∙ ap (drop (length front)) eb ∙ drop-append_seam front (trailed ++ rest) in
    let is : take (h.size + 5) (drop h.offset bytes) ≡ trailed = ap (take (h.size + 5)) there ∙ ap (λ k. take k (trailed ++ rest)) n ∙ take-append_seam trailed rest in
    let size : length bytes ≡ length front + (length trailed + length rest) = ap length eb ∙ simp length-append in
    ap (block_at h) is ∙ block_at_again items h written es (omega (arith, n, size, eo))

not_bare : (i : Item) (items : List Item) → (length (entries_from 0 0 [] (i ∷ items)) == 0) ≡ false
unfolding entries_from
not_bare i items =
    let long : 3 ≤ length (entry_at 0 0 [] i) = entry_long 0 i.key i.value in
    ne_eqb _ 0 (λ e. let n = length-append (entry_at 0 0 [] i) (entries_from 1 (0 + length (entry_at 0 0 [] i)) i.key items) in omega arith)

-- the data blocks that an index names, from a place on
abbrev data_from : ℕ → ℕ → ℕ → List Item → Data
data_from offset at place items = record { place = offset + at; key = last_key items; entries = map (entry_of place) (cells_from 0 0 [] items); fault = None }

unfoldable datas_from : ℕ → ℕ → ℕ → List ℕ → ℕ → List (List Item) → List Data
datas_from offset n at before place [] = []
datas_from offset n at before place (items ∷ blocks) =
    data_from offset at place items ∷ datas_from offset (suc n) (at + length (entry_at n at before (index_item place items))) (last_key items) (place + length (with_trailer (block items))) blocks

restart_none : (i : Item) (items : List Item) (before : Option (List ℕ)) → AreWritten before (i ∷ items) → AreWritten None (i ∷ items)
restart_none i items before w = (w.0, w.1, w.2, refl, w.4)

one_data : (bytes front rest : List ℕ) (offset n at : ℕ) (before : List ℕ) (i : Item) (items : List Item) → bytes ≡ front ++ (with_trailer (block (i ∷ items)) ++ rest) → 48 ≤ length rest → length bytes < 2 ^ 64 → AreWritten None (i ∷ items)
    → data_at bytes offset (cell_from n at before (index_item (length front) (i ∷ items))) ≡ data_from offset at (length front) (i ∷ items)
one_data bytes front rest offset n at before i items eb long small written =
    let size : length bytes ≡ length front + (length (with_trailer (block (i ∷ items))) + length rest) = ap length eb ∙ simp length-append in
    let trailed = trailed_size (block (i ∷ items)) in
    let h : Handle = record { offset = length front % 2 ^ 64; size = length (block (i ∷ items)) } in
    let place : length front % 2 ^ 64 ≡ length front = omega arith in
    let is : data_handle (length bytes) (handle (length front % 2 ^ 64) (length (block (i ∷ items)))) ≡ Some h =
    data_handle_again (length bytes) (length front % 2 ^ 64) (length (block (i ∷ items))) (omega arith) (omega arith) (omega arith) in
    let found = block_there bytes front rest (i ∷ items) h eb place refl small written in
    let F : Option Handle → Data = λ o. record { place = offset + at; key = last_key (i ∷ items); entries = block_entries bytes o; fault = block_fault bytes (offset + at) o } in
    let G : Contents → ℕ → Data = λ b p. record { place = offset + at; key = last_key (i ∷ items); entries = map (entry_of p) b.cells; fault = b.fault and expect (not b.bare) rule.Entry p } in
    ap F is ∙ ap (λ b. G b (length front % 2 ^ 64)) found
    ∙ ap (λ p. G (record { cells = cells_from 0 0 [] (i ∷ items); bare = length (entries_from 0 0 [] (i ∷ items)) == 0; fault = None }) p) place
    ∙ ap (λ t. G (record { cells = cells_from 0 0 [] (i ∷ items); bare = t; fault = None }) (length front)) (not_bare i items)

datas_are : (blocks : List (List Item)) (bytes front rest : List ℕ) (offset n at : ℕ) (before : List ℕ) (behind : Option (List ℕ)) → bytes ≡ front ++ (data_bytes blocks ++ rest) → 48 ≤ length rest → length bytes < 2 ^ 64 → AllSome blocks
    → AreWritten behind (joined blocks) → map (data_at bytes offset) (cells_from n at before (index_from (length front) blocks)) ≡ datas_from offset n at before (length front) blocks
unfolding index_from cells_from datas_from
datas_are [] bytes front rest offset n at before behind eb long small some w = refl
datas_are ([] ∷ blocks) bytes front rest offset n at before behind eb long small some w = absurd some
datas_are ((i ∷ items) ∷ blocks) bytes front rest offset n at before behind eb long small some w =
    let trailed = with_trailer (block (i ∷ items)) in
    let step = at + length (entry_at n at before (index_item (length front) (i ∷ items))) in
    let here : bytes ≡ front ++ (trailed ++ (data_bytes blocks ++ rest)) = eb ∙ ap (λ r. front ++ r) (append_assoc trailed (data_bytes blocks) rest) in
    let there : bytes ≡ (front ++ trailed) ++ (data_bytes blocks ++ rest) = here ∙ sym (append_assoc front trailed (data_bytes blocks ++ rest)) in
    let place : length (front ++ trailed) ≡ length front + length trailed = length-append front trailed in
    let first = one_data bytes front (data_bytes blocks ++ rest) offset n at before i items here (omega (arith, length-append (data_bytes blocks) rest)) small (restart_none i items behind (written_front (i ∷ items) (joined blocks) behind w)) in
    let more : map (data_at bytes offset) (cells_from (suc n) step (last_key (i ∷ items)) (index_from (length front + length trailed) blocks)) ≡ datas_from offset (suc n) step (last_key (i ∷ items)) (length front + length trailed) blocks =
    ap (λ p. map (data_at bytes offset) (cells_from (suc n) step (last_key (i ∷ items)) (index_from p blocks))) (sym place)
    ∙ datas_are blocks bytes (front ++ trailed) rest offset (suc n) step (last_key (i ∷ items)) (Some (last_key (i ∷ items))) there long small some (written_back i items (joined blocks) behind w)
    ∙ ap (λ p. datas_from offset (suc n) step (last_key (i ∷ items)) p blocks) place in
    λ j. first j ∷ more j

-- Their faults: none. The last entry before them is behind a key, if there is one.
abbrev key_of : Option BlockEntry → Option (List ℕ)
key_of None = None
key_of (Some e) = Some e.key

any_or : (a b : Bool) → b ≡ true → (a || b) ≡ true
any_or true b e = refl
any_or false b e = e

any_and : (a b : Bool) → b ≡ false → (a && b) ≡ false
any_and true b e = e
any_and false b e = refl

ascends : (a b : List ℕ) → is_lt (key_order a b) ≡ true → ascend a b ≡ true
ascends a b e = any_or (not (have_order a b)) (is_lt (key_order a b)) e

no_descent : (a b : List ℕ) → a ≡ b → descend a b ≡ false
no_descent a b e = any_and (have_order a b) (is_lt (key_order b a)) (ap (λ k. is_lt (key_order b k)) e ∙ not_before_itself b)

order_good : (last : Option BlockEntry) (before : Option (List ℕ)) (first : BlockEntry) → key_of last ≡ before → stands_behind before first.key ≡ true → order_fault last (Some first) ≡ None
order_good None before first e h = refl
order_good (Some l) before first e h = cond-true _ _ _ (ascends l.key first.key (ap (λ b. stands_behind b first.key) e ∙ h))

last_good : (place : ℕ) (key : List ℕ) (last : Option BlockEntry) → key_of last ≡ Some key → last_fault place key last ≡ None
last_good place key None e = refl
last_good place key (Some l) e =
    let same : l.key ≡ key = cc in
    cond-true _ _ _ (ap not (no_descent l.key key same))

last_from : (i : Item) (items : List Item) (n at place : ℕ) (before : List ℕ) (last : Option BlockEntry) → key_of (last_entry last (map (entry_of place) (cells_from n at before (i ∷ items)))) ≡ Some (last_key (i ∷ items))
unfolding cells_from
last_from i [] n at place before last = refl
last_from i (j ∷ items) n at place before last = last_from j items (suc n) (at + length (entry_at n at before i)) place i.key (Some (entry_of place (cell_from n at before i)))

next_good : (blocks : List (List Item)) (at : ℕ) (key : List ℕ) (offset n next place : ℕ) (before : List ℕ) → AllSome blocks → AreWritten (Some key) (joined blocks) → next_fault at key (datas_from offset n next before place blocks) ≡ None
unfolding datas_from cells_from
next_good [] at key offset n next place before some w = refl
next_good ([] ∷ blocks) at key offset n next place before some w = absurd some
next_good ((j ∷ items) ∷ blocks) at key offset n next place before some w = cond-true _ _ _ (ascends key j.key w.3)

order_first : (i : Item) (items : List Item) (place : ℕ) (last : Option BlockEntry) (before : Option (List ℕ)) → key_of last ≡ before → stands_behind before i.key ≡ true → order_fault last (head_entry (map (entry_of place) (cells_from 0 0 [] (i ∷ items)))) ≡ None
unfolding cells_from
order_first i items place last before e h = order_good last before (entry_of place (cell_from 0 0 [] i)) e h

datas_good : (blocks : List (List Item)) (offset n at place : ℕ) (before : List ℕ) (last : Option BlockEntry) (behind : Option (List ℕ)) → AllSome blocks → AreWritten behind (joined blocks) → key_of last ≡ behind
    → data_fault last (datas_from offset n at before place blocks) ≡ None
unfolding datas_from data_fault
datas_good [] offset n at place before last behind some w e = refl
datas_good ([] ∷ blocks) offset n at place before last behind some w e = absurd some
datas_good ((i ∷ items) ∷ blocks) offset n at place before last behind some w e =
    let key = last_key (i ∷ items) in
    let cells = cells_from 0 0 [] (i ∷ items) in
    let entries = map (entry_of place) cells in
    let step = at + length (entry_at n at before (index_item place (i ∷ items))) in
    let there = place + length (with_trailer (block (i ∷ items))) in
    let more = datas_from offset (suc n) step key there blocks in
    let back = written_back i items (joined blocks) behind w in
    ap (λ o. o and (last_fault (offset + at) key (last_entry None entries) and (None and (next_fault (offset + at) key more and data_fault (last_entry last entries) more)))) (order_first i items place last behind e w.3)
    ∙ ap (λ o. o and (None and (next_fault (offset + at) key more and data_fault (last_entry last entries) more))) (last_good (offset + at) key (last_entry None entries) (last_from i items 0 0 place [] None))
    ∙ ap (λ o. o and data_fault (last_entry last entries) more) (next_good blocks (offset + at) key offset (suc n) step there key some back)
    ∙ datas_good blocks offset (suc n) step there key (last_entry last entries) (Some key) some back (last_from i items 0 0 place [] last)

-- their entries
items_again : (items : List Item) (n at place : ℕ) (before : List ℕ) → map item_of (map (entry_of place) (cells_from n at before items)) ≡ items
unfolding cells_from
items_again [] n at place before = refl
items_again (i ∷ items) n at place before = ap (λ more. i ∷ more) (items_again items (suc n) (at + length (entry_at n at before i)) place i.key)

map-append : (a b : List BlockEntry) → map item_of (a ++ b) ≡ map item_of a ++ map item_of b
map-append [] b = refl
map-append (e ∷ a) b = ap (λ more. item_of e ∷ more) (map-append a b)

entries_again : (blocks : List (List Item)) (offset n at place : ℕ) (before : List ℕ) → map item_of (entries_in (datas_from offset n at before place blocks)) ≡ joined blocks
unfolding datas_from
entries_again [] offset n at place before = refl
entries_again (items ∷ blocks) offset n at place before =
    let step = at + length (entry_at n at before (index_item place items)) in
    let there = place + length (with_trailer (block items)) in
    map-append (map (entry_of place) (cells_from 0 0 [] items)) (entries_in (datas_from offset (suc n) step (last_key items) there blocks))
    ∙ ap (λ l. l ++ map item_of (entries_in (datas_from offset (suc n) step (last_key items) there blocks))) (items_again items 0 0 place [])
    ∙ ap (λ l. items ++ l) (entries_again blocks offset (suc n) step there (last_key items))

-- the footer
handles_short : (meta index size : ℕ) → length (handle meta 8 ++ handle index size) ≤ 40
handles_short meta index size =
    let a = handle_short meta 8 in
    let b = handle_short index size in
    let n = length-append (handle meta 8) (handle index size) in
    omega arith

magic_size : length (fixed64 0xDB4775248B80FB57) ≡ 8
unfolding fixed64
magic_size = refl

magic_again : (from_le_bytes w64 (fixed64 0xDB4775248B80FB57) == 0xDB4775248B80FB57) ≡ true
unfolding fixed64
magic_again = refl

padded : (handles : List ℕ) → length handles ≤ 40 → length (handles ++ replicate (40 - length handles) 0) ≡ 40
padded handles short =
    let zeros : List ℕ = replicate (40 - length handles) 0 in
    let n : length (handles ++ zeros) ≡ length handles + length zeros = length-append handles zeros in
    let m : length zeros ≡ 40 - length handles = length-replicate (40 - length handles) 0 in
    omega arith

footer_size : (meta index size : ℕ) → length (footer meta index size) ≡ 48
footer_size meta index size =
    let handles = handle meta 8 ++ handle index size in
    let zeros = replicate (40 - length handles) 0 in
    let n = padded handles (handles_short meta index size) in
    ap length (sym (append_assoc handles zeros (fixed64 0xDB4775248B80FB57))) ∙ length-append (handles ++ zeros) (fixed64 0xDB4775248B80FB57) ∙ (omega (arith, magic_size, n))

footer_again : (meta index size total : ℕ) → meta < 2 ^ 64 → index < 2 ^ 64 → size < 2 ^ 64 → meta + 8 + 5 ≤ total - 48 → index + size + 5 ≤ total - 48
    → footer_in total (footer meta index size) ≡ record { meta = Some (record { offset = meta; size = 8 }); index = Some (record { offset = index; size = size }); fault = None }
footer_again meta index size total fm fi fs im ii =
    let handles = handle meta 8 ++ handle index size in
    let zeros = replicate (40 - length handles) 0 in
    let magic = fixed64 0xDB4775248B80FB57 in
    let n = padded handles (handles_short meta index size) in
    let whole : footer meta index size ≡ (handles ++ zeros) ++ magic = sym (append_assoc handles zeros magic) in
    let front : take 40 (footer meta index size) ≡ handles ++ zeros = ap (take 40) whole ∙ ap (λ k. take k ((handles ++ zeros) ++ magic)) (sym n) ∙ take-append_seam (handles ++ zeros) magic in
    let behind : drop 40 (footer meta index size) ≡ magic = ap (drop 40) whole ∙ ap (λ k. drop k ((handles ++ zeros) ++ magic)) (sym n) ∙ drop-append_seam (handles ++ zeros) magic in
    let m : Handle = record { offset = meta; size = 8 } in
    let h : Handle = record { offset = index; size = size } in
    let i1 : Input = record { place = 0 + length (varint64 meta) + length (varint64 8); left = handle index size ++ zeros } in
    let i2 : Input = record { place = 0 + length (varint64 meta) + length (varint64 8) + length (varint64 index) + length (varint64 size); left = zeros } in
    let first : handle_at (from_start (take 40 (footer meta index size))) ≡ Some (m, i1) = ap (λ l. handle_at (from_start l)) (front ∙ append_assoc (handle meta 8) (handle index size) zeros) ∙ handle_again 0 meta 8 (handle index size ++ zeros) fm (lit< tt) in
    let second : handle_at i1 ≡ Some (h, i2) = handle_again (0 + length (varint64 meta) + length (varint64 8)) index size zeros fi fs in
    let F : Read Handle → List ℕ → Footer = λ read tail. record {
      meta = named total read;
      index = named total (option_and_then (λ (q : Handle × Input). handle_at q.1) read);
      fault = expect (is_some (named total read)) rule.Handle (total - 48) or second_fault total read or expect (from_le_bytes w64 tail == 0xDB4775248B80FB57) rule.Magic (total - 8);
    } in
    let G : Option Handle → Option Handle → Bool → Footer = λ a b c. record {
      meta = a;
      index = b;
      fault = expect (is_some a) rule.Handle (total - 48) or expect (is_some b) rule.Handle (total - 48 + i1.place) or expect c rule.Magic (total - 8);
    } in
    ap (λ read. F read (drop 40 (footer meta index size))) first ∙ ap (F (Some (m, i1))) behind
    ∙ ap (λ r. G (named total (Some (m, i1))) (named total r) (from_le_bytes w64 magic == 0xDB4775248B80FB57)) second
    ∙ ap (λ a. G a (named total (Some (h, i2))) (from_le_bytes w64 magic == 0xDB4775248B80FB57)) (named_inside total m i1 im)
    ∙ ap (λ b. G (Some m) b (from_le_bytes w64 magic == 0xDB4775248B80FB57)) (named_inside total h i2 ii)
    ∙ ap (G (Some m) (Some h)) magic_again

-- the entries, by the parts of a table
ascending_written : (items : List Item) (before : Option (List ℕ)) → Ascend before items → AreWritten before items
ascending_written [] before a = tt
ascending_written (i ∷ items) before a = let both = a.1 in (a.0, omega arith, omega arith, a.2, ascending_written items (Some i.key) a.3)

empty_size : length (with_trailer (block [])) ≡ 13
unfolding block entries_from restarts_from fixed32
empty_size = trailed_size (block []) ∙ refl

-- a table's parts: data blocks, metaindex block, index block and footer
record Parts (bytes : List ℕ) (blocks : List (List Item)) : Type 0 where
  whole : bytes ≡ data_bytes blocks ++ (with_trailer (block []) ++ (with_trailer (block (index_from 0 blocks)) ++ footer (length (data_bytes blocks)) (length (data_bytes blocks) + 13) (length (block (index_from 0 blocks)))))
  size : length bytes ≡ length (data_bytes blocks) + 13 + length (block (index_from 0 blocks)) + 5 + 48
  small : length bytes < 2 ^ 64

table_parts : (items : List Item) → length (table items) < 2 ^ 64 → Parts (table items) (blocks_of items)
unfolding table
table_parts items small =
    let blocks = blocks_of items in
    let at : ℕ = length (data_bytes blocks) in
    let index = block (index_from 0 blocks) in
    let size : (meta second : ℕ) → length (data_bytes blocks ++ (with_trailer (block []) ++ (with_trailer index ++ footer meta second (length index)))) ≡ at + 13 + length index + 5 + 48 = λ meta second.
    length-append (data_bytes blocks) (with_trailer (block []) ++ (with_trailer index ++ footer meta second (length index)))
    ∙ ap (λ n. at + n) (length-append (with_trailer (block [])) (with_trailer index ++ footer meta second (length index)) ∙ ap (λ n. length (with_trailer (block [])) + n) (length-append (with_trailer index) (footer meta second (length index))))
    ∙ (omega (arith, empty_size, trailed_size index, footer_size meta second (length index))) in
    let total = size (at % 2 ^ 64) ((at + 13) % 2 ^ 64) in
    let meta : at % 2 ^ 64 ≡ at = omega arith in
    let second : (at + 13) % 2 ^ 64 ≡ at + 13 = omega arith in
    record {
      whole = ap (λ m. data_bytes blocks ++ (with_trailer (block []) ++ (with_trailer index ++ footer m ((at + 13) % 2 ^ 64) (length index)))) meta
          ∙ ap (λ s. data_bytes blocks ++ (with_trailer (block []) ++ (with_trailer index ++ footer at s (length index)))) second;
      size = total;
      small = small;
    }

empty_block : length (block []) ≡ 8
unfolding block entries_from restarts_from fixed32
empty_block = refl

no_meta : (bytes : List ℕ) (m : Handle) → block_of bytes m ≡ record { cells = cells_from 0 0 [] []; bare = length (entries_from 0 0 [] []) == 0; fault = None } → meta_fault bytes (Some m) ≡ None
unfolding cells_from
no_meta bytes m e = ap (λ (b : Contents). b.fault and no_entry m.offset b.cells) e

good_with : (bytes : List ℕ) (m h : Handle) (ds : List Data) → meta_fault bytes (Some m) ≡ None → index_fault bytes (Some h) ≡ None → data_of bytes (Some h) ≡ ds → data_fault None ds ≡ None
    → entries_with bytes (record { meta = Some m; index = Some h; fault = None }) ≡ Ok (entries_in ds)
good_with bytes m h ds em ei ed ef =
    ap (λ o. unless (o and (index_fault bytes (Some h) and data_fault None (data_of bytes (Some h)))) (entries_in (data_of bytes (Some h)))) em
    ∙ ap (λ o. unless (o and data_fault None (data_of bytes (Some h))) (entries_in (data_of bytes (Some h)))) ei
    ∙ ap (λ l. unless (data_fault None l) (entries_in l)) ed
    ∙ ap (λ o. unless o (entries_in ds)) ef

parts_read : (bytes : List ℕ) (blocks : List (List Item)) → Parts bytes blocks → AllSome blocks → AreWritten None (joined blocks) → read_table bytes ≡ Ok (entries_in (datas_from (length (data_bytes blocks) + 13) 0 0 [] 0 blocks))
parts_read bytes blocks p some written =
    let data_ : List ℕ = data_bytes blocks in
    let at : ℕ = length (data_bytes blocks) in
    let empty : List ℕ = with_trailer (block []) in
    let index : List ℕ = block (index_from 0 blocks) in
    let trailed : List ℕ = with_trailer index in
    let foot : List ℕ = footer at (at + 13) (length index) in
    let m : Handle = record { offset = at; size = 8 } in
    let h : Handle = record { offset = at + 13; size = length index } in
    let size = p.size in
    let small = p.small in
    let long : 48 ≤ length bytes = omega arith in
    let rest_long : 48 ≤ length (empty ++ (trailed ++ foot)) = let n : length bytes ≡ length data_ + length (empty ++ (trailed ++ foot)) = ap length p.whole ∙ length-append data_ (empty ++ (trailed ++ foot)) in omega arith in
    let foot_size : length foot ≡ 48 = footer_size at (at + 13) (length index) in
    let front : bytes ≡ (data_ ++ (empty ++ trailed)) ++ foot = p.whole ∙ ap (λ r. data_ ++ r) (sym (append_assoc empty trailed foot)) ∙ sym (append_assoc data_ (empty ++ trailed) foot) in
    let front_size : length bytes - 48 ≡ length (data_ ++ (empty ++ trailed)) = let n : length bytes ≡ length (data_ ++ (empty ++ trailed)) + length foot = ap length front ∙ length-append (data_ ++ (empty ++ trailed)) foot in omega arith in
    let tail : drop (length bytes - 48) bytes ≡ foot = ap (λ k. drop k bytes) front_size ∙ ap (drop (length (data_ ++ (empty ++ trailed)))) front ∙ drop-append_seam (data_ ++ (empty ++ trailed)) foot in
    let read : footer_in (length bytes) (drop (length bytes - 48) bytes) ≡ record { meta = Some m; index = Some h; fault = None } =
    ap (footer_in (length bytes)) tail ∙ footer_again at (at + 13) (length index) (length bytes) (omega arith) (omega arith) (omega arith) (omega arith) (omega arith) in
    let meta_is = block_there bytes data_ (trailed ++ foot) [] m p.whole refl (sym empty_block) small tt in
    let placed : bytes ≡ (data_ ++ empty) ++ (trailed ++ foot) = p.whole ∙ sym (append_assoc data_ empty (trailed ++ foot)) in
    let index_written' = index_written blocks 0 None some written in
    let index_is = block_there bytes (data_ ++ empty) foot (index_from 0 blocks) h placed (sym (length-append data_ empty ∙ ap (λ n. at + n) empty_size)) refl small index_written' in
    let datas : data_of bytes (Some h) ≡ datas_from (at + 13) 0 0 [] 0 blocks =
    ap (λ (b : Contents). map (data_at bytes (at + 13)) b.cells) index_is
    ∙ datas_are blocks bytes [] (empty ++ (trailed ++ foot)) (at + 13) 0 0 [] None p.whole rest_long small some written in
    whole_long bytes long ∙ ap (entries_with bytes) read
    ∙ good_with bytes m h (datas_from (at + 13) 0 0 [] 0 blocks) (no_meta bytes m meta_is) (ap (λ (b : Contents). b.fault) index_is) datas (datas_good blocks (at + 13) 0 0 0 [] None None some written refl)

-- the law
pub reads_built : (items : List Item) → Ascend None items → length (table items) < 2 ^ 64 → HasItems items (read_table (table items))
reads_built items ascending small =
    let blocks : List (List Item) = blocks_of items in
    let written : AreWritten None (joined blocks) = let P : List Item → Type 0 = λ l. AreWritten None l in subst P (sym (blocks_join items)) (ascending_written items None ascending) in
    let read = parts_read (table items) blocks (table_parts items small) (blocks_some items) written in
    let Q : Result (List BlockEntry) Fault → Type 0 = λ r. HasItems items r in
    subst Q (sym read) (entries_again blocks (length (data_bytes blocks) + 13) 0 0 0 [] ∙ blocks_join items)
