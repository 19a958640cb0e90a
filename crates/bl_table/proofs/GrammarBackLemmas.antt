-- The bytes of a table are read as its entries.
use Rattle.std.proofs.Common.{◌≡◌, ℕ, ◌+◌, ◌-◌, ◌≤◌, ◌==◌, ◌&&◌, ◌||◌, nat_le, not, Bool, true, false, cond, List, [], ◌∷◌, ◌++◌, length, map, take, drop, flat_map, Option, None, Some, Ok, Err, refl, sym, ◌∙◌, ap, subst}
use Rattle.std.specs.Prelude.{is_some, option_and_then, Result}
use Rattle.std.specs.Ordering.{is_lt}
use Rattle.std.specs.Int.{w64, from_le_bytes}
use Rattle.std.proofs.lemmas.Bool.{leb-true, cond-true}
use Rattle.bl_code.specs.Order.{key_order}
use Rattle.bl_code.specs.Reading.{Input, Read, from_start}
use Rattle.bl_table.specs.declared.entry.BlockEntry.{BlockEntry}
use Rattle.bl_table.specs.declared.handle.Handle.{Handle}
use Rattle.bl_table.specs.declared.fault.TableRule.TheVariants as rule
use Rattle.bl_table.specs.Faults.{Fault, expect, unless, ◌or◌, ◌and◌}
use Rattle.bl_table.specs.Blocks.{Cell, entry_of, stands_behind, head_entry, read_block}
use Rattle.bl_table.specs.Table.{handle_at, ends_before, inside, with_magic, with_index, read_footer}
use Rattle.bl_table.specs.Whole.{Data, Footer, named, second_fault, footer_in, block_of, no_entry, meta_fault, index_fault, data_handle, block_entries, block_fault, data_at, data_of, have_order, descend, last_entry, order_fault, last_fault, first_fault, next_fault, data_fault, read_table}
use Rattle.bl_table.specs.Grammar.{bytes_of, last_of, IsBelow, AreBlocks, KeysAscend, IsTable}
use Rattle.bl_table.proofs.ReadLemmas.{whole_long, entries_in}
use Rattle.bl_table.proofs.GrammarLemmas.{accepted, not_bare, blocks_in, joined_are, last_some, key_of}

-- the footer
record FooterGood (size : ℕ) (tail : List ℕ) (meta index : Handle) : Type 0 where
  long : 48 ≤ size
  meta_is : (footer_in size tail).meta ≡ Some meta
  index_is : (footer_in size tail).index ≡ Some index
  fault : (footer_in size tail).fault ≡ None

if_ok : {A : Type 0} (t : Bool) (e : Fault) (r : Result A Fault) (x : A) → cond {A = Result A Fault} (not t) (Err e) r ≡ Ok x → (t ≡ true) × (r ≡ Ok x)
if_ok true e r x h = (refl, h)
if_ok false e r x h = absurd cc

then_ok : {A : Type 0} (t : Bool) (e : Fault) (x y : A) → cond {A = Result A Fault} t (Ok x) (Err e) ≡ Ok y → (t ≡ true) × (x ≡ y)
then_ok true e x y h = (refl, cc)
then_ok false e x y h = absurd cc

both_hold : (a b : Bool) → (a && b) ≡ true → b ≡ true
both_hold true b e = e
both_hold false b e = absurd cc

record First (size : ℕ) (tail : List ℕ) (r : Read Handle) (y : Handle × Handle) : Type 0 where
  read : Handle × Input
  is : r ≡ Some read
  ends : ends_before (size - 48) read.0 ≡ true
  rest : with_magic size tail read.0 (inside size (size - 48 + read.1.place) (handle_at read.1)) ≡ Ok y

first_if : (t : Bool) (size : ℕ) (tail : List ℕ) (q : Handle × Input) (y : Handle × Handle) → ends_before (size - 48) q.0 ≡ t → with_index size tail (cond t (Ok q) (Err (rule.Handle, size - 48))) ≡ Ok y → First size tail (Some q) y
first_if true size tail q y e f = record { read = q; is = refl; ends = e; rest = f }
first_if false size tail q y e f = absurd cc

first_is : (size : ℕ) (tail : List ℕ) (r : Read Handle) (y : Handle × Handle) → with_index size tail (inside size (size - 48) r) ≡ Ok y → First size tail r y
first_is size tail None y e = absurd cc
first_is size tail (Some q) y e = first_if (ends_before (size - 48) q.0) size tail q y refl e

record Second (size : ℕ) (tail : List ℕ) (meta : Handle) (r : Read Handle) (y : Handle × Handle) : Type 0 where
  read : Handle × Input
  is : r ≡ Some read
  ends : ends_before (size - 48) read.0 ≡ true
  magic : (from_le_bytes w64 (drop 40 tail) == 0xDB4775248B80FB57) ≡ true
  same : (meta, read.0) ≡ y

second_if : (t : Bool) (size place : ℕ) (tail : List ℕ) (meta : Handle) (q : Handle × Input) (y : Handle × Handle) → ends_before (size - 48) q.0 ≡ t → with_magic size tail meta (cond t (Ok q) (Err (rule.Handle, place))) ≡ Ok y
    → Second size tail meta (Some q) y
second_if true size place tail meta q y e f =
    let m = then_ok (from_le_bytes w64 (drop 40 tail) == 0xDB4775248B80FB57) (rule.Magic, size - 8) (meta, q.0) y f in
    record { read = q; is = refl; ends = e; magic = m.0; same = m.1 }
second_if false size place tail meta q y e f = absurd cc

second_is : (size place : ℕ) (tail : List ℕ) (meta : Handle) (r : Read Handle) (y : Handle × Handle) → with_magic size tail meta (inside size place r) ≡ Ok y → Second size tail meta r y
second_is size place tail meta None y e = absurd cc
second_is size place tail meta (Some q) y e = second_if (ends_before (size - 48) q.0) size place tail meta q y refl e

footer_good : (size : ℕ) (tail : List ℕ) (meta index : Handle) → read_footer tail size ≡ Ok (meta, index) → FooterGood size tail meta index
footer_good size tail meta index e =
    let r : Read Handle = handle_at (from_start (take 40 tail)) in
    let start = if_ok ((length tail == 48) && nat_le 48 size) (rule.Length, 0) (with_index size tail (inside size (size - 48) r)) (meta, index) e in
    let a = first_is size tail r (meta, index) start.1 in
    let b = second_is size (size - 48 + a.read.1.place) tail a.read.0 (handle_at a.read.1) (meta, index) a.rest in
    let am : a.read.0 ≡ meta = ap (λ (p : Handle × Handle). p.0) b.same in
    let bi : b.read.0 ≡ index = ap (λ (p : Handle × Handle). p.1) b.same in
    let m : named size r ≡ Some a.read.0 = ap (named size) a.is ∙ cond-true _ _ _ a.ends in
    let i : named size (handle_at a.read.1) ≡ Some b.read.0 = ap (named size) b.is ∙ cond-true _ _ _ b.ends in
    record {
      long = leb-true 48 size (both_hold (length tail == 48) (nat_le 48 size) start.0);
      meta_is = m ∙ ap Some am;
      index_is = ap (λ (q : Read Handle). named size (option_and_then (λ (h : Handle × Input). handle_at h.1) q)) a.is ∙ i ∙ ap Some bi;
      fault =
          ap (λ (o : Option Handle). expect (is_some o) rule.Handle (size - 48) or second_fault size r or expect (from_le_bytes w64 (drop 40 tail) == 0xDB4775248B80FB57) rule.Magic (size - 8)) m
          ∙ ap (λ (q : Read Handle). second_fault size q or expect (from_le_bytes w64 (drop 40 tail) == 0xDB4775248B80FB57) rule.Magic (size - 8)) a.is
          ∙ ap (λ (o : Option Handle). expect (is_some o) rule.Handle (size - 48 + a.read.1.place) or expect (from_le_bytes w64 (drop 40 tail) == 0xDB4775248B80FB57) rule.Magic (size - 8)) i
          ∙ ap (λ t. expect t rule.Magic (size - 8)) b.magic;
    }

-- a block that is read has no fault
block_good : (bytes : List ℕ) (h : Handle) (entries : List BlockEntry) → read_block (bytes_of bytes h) h ≡ Ok entries → ((block_of bytes h).fault ≡ None) × (map (entry_of h.offset) (block_of bytes h).cells ≡ entries)
block_good bytes h entries e = accepted (block_of bytes h).fault (map (entry_of h.offset) (block_of bytes h).cells) entries e

no_cells : (offset : ℕ) (cells : List Cell) → map (entry_of offset) cells ≡ [] → no_entry offset cells ≡ None
no_cells offset [] e = refl
no_cells offset (c ∷ cells) e = absurd cc

meta_good : (bytes : List ℕ) (m : Handle) → read_block (bytes_of bytes m) m ≡ Ok [] → meta_fault bytes (Some m) ≡ None
meta_good bytes m e =
    let both = block_good bytes m [] e in
    ap (λ o. o and no_entry m.offset (block_of bytes m).cells) both.0 ∙ no_cells m.offset (block_of bytes m).cells both.1

bare_of : (bytes : List ℕ) (h : Handle) (e : BlockEntry) (entries : List BlockEntry) (cells : List Cell) → (block_of bytes h).fault ≡ None → (block_of bytes h).cells ≡ cells → map (entry_of h.offset) cells ≡ e ∷ entries → (block_of bytes h).bare ≡ false
bare_of bytes h e entries [] good is f = absurd cc
bare_of bytes h e entries (c ∷ cells) good is f = not_bare bytes h c cells good is

-- a data block
data_good : (bytes : List ℕ) (place : ℕ) (o : Option Handle) (h : Handle) (e : BlockEntry) (entries : List BlockEntry) → o ≡ Some h → read_block (bytes_of bytes h) h ≡ Ok (e ∷ entries) → (block_fault bytes place o ≡ None) × (block_entries bytes o ≡ e ∷ entries)
data_good bytes place o h e entries is read =
    let both = block_good bytes h (e ∷ entries) read in
    let bare : (block_of bytes h).bare ≡ false = bare_of bytes h e entries (block_of bytes h).cells both.0 refl both.1 in (
      ap (block_fault bytes place) is ∙ ap (λ f. f and expect (not (block_of bytes h).bare) rule.Entry h.offset) both.0 ∙ ap (λ t. expect (not t) rule.Entry h.offset) bare,
      ap (block_entries bytes) is ∙ both.1,
    )

any_or : (a b : Bool) → b ≡ true → (not a || b) ≡ true
any_or true b e = e
any_or false b e = refl

order_holds : (last : Option BlockEntry) (e : BlockEntry) → stands_behind (key_of last) e.key ≡ true → order_fault last (Some e) ≡ None
order_holds None e h = refl
order_holds (Some l) e h = cond-true _ _ _ (any_or (have_order l.key e.key) (is_lt (key_order l.key e.key)) h)

last_none : (place : ℕ) (key : List ℕ) (e : BlockEntry) (entries : List BlockEntry) → descend (last_of e entries).key key ≡ false → last_fault place key (last_entry None (e ∷ entries)) ≡ None
last_none place key e entries h = ap (last_fault place key) (last_some e entries) ∙ cond-true _ _ _ (ap not h)

below_none : (place : ℕ) (key : List ℕ) (b : List BlockEntry) (bs : List (List BlockEntry)) → IsBelow key (b ∷ bs) → first_fault place key (head_entry b) ≡ None
below_none place key [] bs h = refl
below_none place key (e ∷ entries) bs h = cond-true _ _ _ h

next_none : (place : ℕ) (key : List ℕ) (ds : List Data) → IsBelow key (blocks_in ds) → next_fault place key ds ≡ None
next_none place key [] h = refl
next_none place key (d ∷ ds) h = below_none place key d.entries (blocks_in ds) h

chain : (last : Option BlockEntry) (d : Data) (ds : List Data) (e : BlockEntry) (entries : List BlockEntry) → d.entries ≡ e ∷ entries → order_fault last (Some e) ≡ None → last_fault d.place d.key (last_entry None (e ∷ entries)) ≡ None → d.fault ≡ None
    → next_fault d.place d.key ds ≡ None → data_fault (last_entry last (e ∷ entries)) ds ≡ None → data_fault last (d ∷ ds) ≡ None
unfolding data_fault
chain last d ds e entries is fo fl fd fn fr =
    ap (λ l. order_fault last (head_entry l) and (last_fault d.place d.key (last_entry None l) and (d.fault and (next_fault d.place d.key ds and data_fault (last_entry last l) ds)))) is
    ∙ ap (λ o. o and (last_fault d.place d.key (last_entry None (e ∷ entries)) and (d.fault and (next_fault d.place d.key ds and data_fault (last_entry last (e ∷ entries)) ds)))) fo
    ∙ ap (λ o. o and (d.fault and (next_fault d.place d.key ds and data_fault (last_entry last (e ∷ entries)) ds))) fl
    ∙ ap (λ o. o and (next_fault d.place d.key ds and data_fault (last_entry last (e ∷ entries)) ds)) fd
    ∙ ap (λ o. o and data_fault (last_entry last (e ∷ entries)) ds) fn
    ∙ fr

ascend_on : (e : BlockEntry) (entries rest : List BlockEntry) (before : Option (List ℕ)) (last : Option BlockEntry) → KeysAscend before ((e ∷ entries) ++ rest) → KeysAscend (key_of (last_entry last (e ∷ entries))) rest
ascend_on e [] rest before last k = k.2
ascend_on e (x ∷ entries) rest before last k = ascend_on x entries rest (Some e.key) (Some e) k.2

abbrev joined : List (List BlockEntry) → List BlockEntry
joined bs = flat_map (λ (b : List BlockEntry). b) bs

datas_good : (bytes : List ℕ) (offset : ℕ) (cells : List Cell) (bs : List (List BlockEntry)) (last : Option BlockEntry) → AreBlocks bytes (map (entry_of offset) cells) bs → KeysAscend (key_of last) (joined bs)
    → (data_fault last (map (data_at bytes offset) cells) ≡ None) × (blocks_in (map (data_at bytes offset) cells) ≡ bs)
unfolding data_fault
datas_good bytes offset [] [] last are k = (refl, refl)
datas_good bytes offset [] (b ∷ bs) last are k = absurd are
datas_good bytes offset (c ∷ cells) [] last are k = absurd are
datas_good bytes offset (c ∷ cells) ([] ∷ bs) last are k = absurd are
datas_good bytes offset (c ∷ cells) ((e ∷ entries) ∷ bs) last are k =
    let place = offset + c.place in
    let d = data_good bytes place (data_handle (length bytes) c.value) are.0.0 e entries are.0.1 are.0.2 in
    let more = datas_good bytes offset cells bs (last_entry last (e ∷ entries)) are.3 (ascend_on e entries (joined bs) (key_of last) last k) in
    let P : List (List BlockEntry) → Type 0 = λ l. IsBelow c.key l in (
      chain last (data_at bytes offset c) (map (data_at bytes offset) cells) e entries d.1 (order_holds last e k.1) (last_none place c.key e entries are.1) d.0 (next_none place c.key (map (data_at bytes offset) cells) (subst P (sym more.1) are.2)) more.0,
      λ i. d.1 i ∷ more.1 i,
    )

-- the whole
table_is_read' : (bytes : List ℕ) (entries : List BlockEntry) (t : IsTable bytes entries) → FooterGood (length bytes) (drop (length bytes - 48) bytes) t.meta t.index → read_table bytes ≡ Ok entries
table_is_read' bytes entries t g =
    let tail : List ℕ = drop (length bytes - 48) bytes in
    let footer : Footer = footer_in (length bytes) tail in
    let index = block_good bytes t.index t.names t.names_are in
    let cells : List Cell = (block_of bytes t.index).cells in
    let Q : List BlockEntry → Type 0 = λ l. AreBlocks bytes l t.blocks in
    let K : List BlockEntry → Type 0 = λ l. KeysAscend None l in
    let d = datas_good bytes t.index.offset cells t.blocks None (subst Q (sym index.1) t.blocks_are) (subst K (sym t.entries_are) t.ascending) in
    let all : entries_in (map (data_at bytes t.index.offset) cells) ≡ entries = sym (joined_are (map (data_at bytes t.index.offset) cells)) ∙ ap joined d.1 ∙ t.entries_are in
    let m : meta_fault bytes footer.meta ≡ None = ap (meta_fault bytes) g.meta_is ∙ meta_good bytes t.meta t.empty in
    let i : index_fault bytes footer.index ≡ None = ap (index_fault bytes) g.index_is ∙ index.0 in
    whole_long bytes g.long
    ∙ ap (λ o. unless (o and (meta_fault bytes footer.meta and (index_fault bytes footer.index and data_fault None (data_of bytes footer.index)))) (entries_in (data_of bytes footer.index))) g.fault
    ∙ ap (λ o. unless (o and (index_fault bytes footer.index and data_fault None (data_of bytes footer.index))) (entries_in (data_of bytes footer.index))) m
    ∙ ap (λ o. unless (o and data_fault None (data_of bytes footer.index)) (entries_in (data_of bytes footer.index))) i
    ∙ ap (λ h. unless (data_fault None (data_of bytes h)) (entries_in (data_of bytes h))) g.index_is
    ∙ ap (λ o. unless o (entries_in (map (data_at bytes t.index.offset) cells))) d.0
    ∙ ap Ok all

pub table_is_read : (bytes : List ℕ) (entries : List BlockEntry) → IsTable bytes entries → read_table bytes ≡ Ok entries
table_is_read bytes entries t = table_is_read' bytes entries t (footer_good (length bytes) (drop (length bytes - 48) bytes) t.meta t.index t.footer)
