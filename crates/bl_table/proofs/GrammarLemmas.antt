-- A table that is read is one by the relation, and the other way round.
use Rattle.std.proofs.Common.{◌≡◌, ℕ, ◌+◌, ◌-◌, ◌*◌, ◌<◌, ◌≤◌, ◌==◌, ◌&&◌, ◌||◌, nat_le, not, Bool, true, false, cond, List, [], ◌∷◌, ◌++◌, length, length-drop, length-take-le, map, take, drop, flat_map, Option, None, Some, Ok, Err, refl, sym, ◌∙◌, ap, subst, arith, inl, inr}
use Rattle.std.specs.Prelude.{is_some, option_and_then}
use Rattle.std.specs.Ordering.{is_lt}
use Rattle.std.specs.Int.{w64, from_le_bytes}
use Rattle.std.proofs.lemmas.Bool.{cases_lt, eq-eqb, eqb-true, le-leb, cond-true, cond-false}
use Rattle.bl_code.specs.Order.{key_order}
use Rattle.bl_code.specs.Reading.{Input, Read, from_start}
use Rattle.bl_table.specs.declared.entry.BlockEntry.{BlockEntry}
use Rattle.bl_table.specs.declared.handle.Handle.{Handle}
use Rattle.bl_table.specs.declared.fault.TableRule.{TableRule}
use Rattle.bl_table.specs.declared.fault.TableRule.TheVariants as rule
use Rattle.bl_table.specs.Faults.{Fault, expect, unless, ◌and◌, comes_first}
use Rattle.bl_table.specs.Blocks.{Cell, Cells, Contents, cell_at, cells_at, cells_in, block_in, block_at, trailer_fault, number_at, entry_of, entry_fault, stop_fault, stands_behind, head_entry, read_block}
use Rattle.bl_table.specs.Table.{handle_at, ends_before, inside, with_magic, with_index, read_footer}
use Rattle.bl_table.specs.Whole.{Data, Footer, named, second_fault, footer_in, block_of, no_entry, meta_fault, index_fault, data_handle, block_entries, block_fault, data_at, data_of, have_order, ascend, descend, last_entry, order_fault, last_fault, first_fault, next_fault, data_fault, table_fault, read_table}
use Rattle.bl_table.specs.Grammar.{bytes_of, last_of, IsBelow, AreBlocks, KeysAscend, IsTable}
use Rattle.bl_table.proofs.BlockLemmas.{is_good, good_limit, block_whole}
use Rattle.bl_table.proofs.ContentsLemmas.{cells_stop, cells_more}
use Rattle.bl_table.proofs.WalkLemmas.{or_none, first_is_good}
use Rattle.bl_table.proofs.RestartLemmas.{second_none, stands_on}
use Rattle.bl_table.proofs.ReadLemmas.{whole_short, whole_long, entries_in}

pub accepted : {A : Type 0} (fault : Option Fault) (x y : A) → unless fault x ≡ Ok y → (fault ≡ None) × (x ≡ y)
accepted None x y e = (refl, cc)
accepted (Some f) x y e = absurd cc

never : (t : Bool) (a b : Fault) → cond {A = Option Fault} t (Some b) (Some a) ≡ None → ⊥
never true a b e = cc
never false a b e = cc

and_both : (a b : Option Fault) → (a and b) ≡ None → (a ≡ None) × (b ≡ None)
and_both None b e = (refl, e)
and_both (Some a) None e = absurd cc
and_both (Some a) (Some b) e = absurd (never (comes_first b a) a b e)

expected : (b : Bool) (r : TableRule) (place : ℕ) → expect b r place ≡ None → b ≡ true
expected true r place e = refl
expected false r place e = absurd cc

-- a handle that is named
record Named (size : ℕ) (r : Read Handle) : Type 0 where
  read : Handle × Input
  is : r ≡ Some read
  ends : ends_before (size - 48) read.0 ≡ true
  handle : named size r ≡ Some read.0

named_if : (t : Bool) (size : ℕ) (q : Handle × Input) → ends_before (size - 48) q.0 ≡ t → is_some (cond {A = Option Handle} t (Some q.0) None) ≡ true → Named size (Some q)
named_if true size q e f = record { read = q; is = refl; ends = e; handle = cond-true _ _ _ e }
named_if false size q e f = absurd cc

is_named : (size : ℕ) (r : Read Handle) → is_some (named size r) ≡ true → Named size r
is_named size None e = absurd cc
is_named size (Some q) e = named_if (ends_before (size - 48) q.0) size q refl e

-- the footer
footer_ok : (size : ℕ) (tail : List ℕ) (q p : Handle × Input) → length tail ≡ 48 → 48 ≤ size → handle_at (from_start (take 40 tail)) ≡ Some q → ends_before (size - 48) q.0 ≡ true → handle_at q.1 ≡ Some p → ends_before (size - 48) p.0 ≡ true
    → (from_le_bytes w64 (drop 40 tail) == 0xDB4775248B80FB57) ≡ true → read_footer tail size ≡ Ok (q.0, p.0)
footer_ok size tail q p n long e1 e2 e3 e4 e5 =
    let fits : ((length tail == 48) && nat_le 48 size) ≡ true = rw (eq-eqb (length tail) 48 n, le-leb 48 size long) refl in
    cond-false _ _ _ (ap not fits)
    ∙ ap (λ r. with_index size tail (inside size (size - 48) r)) e1
    ∙ ap (λ (t : Bool). with_index size tail (cond t (Ok q) (Err (rule.Handle, size - 48)))) e2
    ∙ ap (λ r. with_magic size tail q.0 (inside size (size - 48 + q.1.place) r)) e3
    ∙ ap (λ (t : Bool). with_magic size tail q.0 (cond t (Ok p) (Err (rule.Handle, size - 48 + q.1.place)))) e4
    ∙ ap (λ (t : Bool). cond t (Ok (q.0, p.0)) (Err (rule.Magic, size - 8))) e5

record FooterRead (size : ℕ) (tail : List ℕ) : Type 0 where
  meta : Handle
  index : Handle
  read : read_footer tail size ≡ Ok (meta, index)
  meta_is : (footer_in size tail).meta ≡ Some meta
  index_is : (footer_in size tail).index ≡ Some index

footer_read : (size : ℕ) (tail : List ℕ) → length tail ≡ 48 → 48 ≤ size → (footer_in size tail).fault ≡ None → FooterRead size tail
footer_read size tail n long e =
    let r : Read Handle = handle_at (from_start (take 40 tail)) in
    let magic = expected _ rule.Magic (size - 8) (second_none _ _ e) in
    let both = or_none _ _ e in
    let m = is_named size r (expected _ rule.Handle (size - 48) (or_none _ _ both)) in
    let second : second_fault size (Some m.read) ≡ None = ap (second_fault size) (sym m.is) ∙ second_none _ _ both in
    let i = is_named size (handle_at m.read.1) (expected _ rule.Handle (size - 48 + m.read.1.place) second) in
    record {
      meta = m.read.0;
      index = i.read.0;
      read = footer_ok size tail m.read i.read n long m.is m.ends i.is i.ends magic;
      meta_is = m.handle;
      index_is = ap (λ (q : Read Handle). named size (option_and_then (λ (h : Handle × Input). handle_at h.1) q)) m.is ∙ i.handle;
    }

-- a block without a fault is read
block_read : (bytes : List ℕ) (h : Handle) → (block_of bytes h).fault ≡ None → read_block (bytes_of bytes h) h ≡ Ok (map (entry_of h.offset) (block_of bytes h).cells)
block_read bytes h e = ap (λ f. unless f (map (entry_of h.offset) (block_of bytes h).cells)) e

-- what a block without a fault holds
record Good (bytes : List ℕ) (h : Handle) : Type 0 where
  limit : ℕ
  block : List ℕ
  fits : limit ≤ length block
  cells : (block_of bytes h).cells ≡ (cells_in (take limit block)).cells
  bare : (block_of bytes h).bare ≡ (limit == 0)
  stop : stop_fault h.offset (cells_in (take limit block)).stop ≡ None
  good : entry_fault h.offset None (block_of bytes h).cells ≡ None

good_block : (bytes : List ℕ) (h : Handle) → (block_of bytes h).fault ≡ None → Good bytes h
good_block bytes h e =
    let slice : List ℕ = bytes_of bytes h in
    let g = is_good slice h (sym e) in
    let block : List ℕ = take h.size slice in
    let count : ℕ = number_at block (length block - 4) in
    let limit : ℕ = length block - 4 - 4 * count in
    let l = good_limit h.offset (length block - 4) count block g.good refl refl in
    let is : block_at h slice ≡ record (block_in h.offset block) { fault = (block_in h.offset block).fault and trailer_fault (h.offset + h.size) block (drop h.size slice) } = block_whole slice h (block_in h.offset block) g.whole g.fits refl in
    let cells : (block_at h slice).cells ≡ (cells_in (take limit block)).cells = ap (λ (b : Contents). b.cells) is ∙ ap (λ (b : Contents). b.cells) l.0 in
    let P : List Cell → Type 0 = λ l. entry_fault h.offset None l ≡ None in
    record {
      limit = limit;
      block = block;
      fits = omega arith;
      cells = cells;
      bare = ap (λ (b : Contents). b.bare) is ∙ ap (λ (b : Contents). b.bare) l.0;
      stop = second_none _ _ (or_none _ _ l.1);
      good = subst P (sym cells) (or_none _ _ (or_none _ _ l.1));
    }

cells_good : (bytes : List ℕ) (h : Handle) → (block_of bytes h).fault ≡ None → entry_fault h.offset None (block_of bytes h).cells ≡ None
cells_good bytes h e = (good_block bytes h e).good

-- it has an entry exactly where its restarts leave a byte for one
some_read : (offset : ℕ) (bytes : List ℕ) (r : Read Cell) → cell_at [] (from_start bytes) ≡ r → 0 < length bytes → stop_fault offset (cells_in bytes).stop ≡ None → (c : Cell) × (more : List Cell) × ((cells_in bytes).cells ≡ c ∷ more)
some_read offset bytes None e some stop =
    absurd (let f = ap (λ (x : Cells). stop_fault offset x.stop) (sym (cells_stop (length bytes) [] (from_start bytes) some (omega arith) e)) ∙ stop in cc)
some_read offset bytes (Some q) e some stop =
    (q.0, (cells_at (length bytes - 1) q.0.key q.1).cells, ap (λ (x : Cells). x.cells) (cells_more (length bytes) [] (from_start bytes) q.1 q.0 some (omega arith) e))

wide_taken : (limit : ℕ) (bytes : List ℕ) → 0 < limit → length bytes ≡ limit → 0 < length bytes
wide_taken limit bytes wide n = omega arith

some_cells : (bytes : List ℕ) (h : Handle) → (block_of bytes h).fault ≡ None → (block_of bytes h).bare ≡ false → (c : Cell) × (more : List Cell) × ((block_of bytes h).cells ≡ c ∷ more)
some_cells bytes h e bare =
    let g = good_block bytes h e in
    let wide : 0 < g.limit = elim (cases_lt 0 g.limit) [ inl some ↦ some | inr none ↦ absurd (let f = sym (eq-eqb g.limit 0 (omega arith)) ∙ sym g.bare ∙ bare in cc) ] in
    let long : length (take g.limit g.block) ≡ g.limit = length-take-le g.limit g.block g.fits in
    let read = some_read h.offset (take g.limit g.block) (cell_at [] (from_start (take g.limit g.block))) refl (wide_taken g.limit (take g.limit g.block) wide long) g.stop in
    (read.0, read.1, g.cells ∙ read.2)

no_bytes : (limit : ℕ) (block : List ℕ) → limit ≡ 0 → (cells_in (take limit block)).cells ≡ []
unfolding cells_at
no_bytes limit block e = ap (λ n. (cells_in (take n block)).cells) e

bare_if : (t : Bool) (limit : ℕ) (block : List ℕ) (c : Cell) (more : List Cell) → (limit == 0) ≡ t → (cells_in (take limit block)).cells ≡ c ∷ more → t ≡ false
bare_if true limit block c more e f = absurd (let g = sym (no_bytes limit block (eqb-true limit 0 e)) ∙ f in cc)
bare_if false limit block c more e f = refl

pub not_bare : (bytes : List ℕ) (h : Handle) (c : Cell) (more : List Cell) → (block_of bytes h).fault ≡ None → (block_of bytes h).cells ≡ c ∷ more → (block_of bytes h).bare ≡ false
not_bare bytes h c more e f = let g = good_block bytes h e in g.bare ∙ bare_if (g.limit == 0) g.limit g.block c more refl (sym g.cells ∙ f)

-- the metaindex block
no_cells : (offset : ℕ) (cells : List Cell) → no_entry offset cells ≡ None → cells ≡ []
no_cells offset [] e = refl
no_cells offset (c ∷ cells) e = absurd cc

meta_read : (bytes : List ℕ) (m : Handle) → meta_fault bytes (Some m) ≡ None → read_block (bytes_of bytes m) m ≡ Ok []
meta_read bytes m e =
    let both = and_both (block_of bytes m).fault (no_entry m.offset (block_of bytes m).cells) e in
    block_read bytes m both.0 ∙ ap (λ l. Ok (map (entry_of m.offset) l)) (no_cells m.offset (block_of bytes m).cells both.1)

-- the data blocks
record DataRead (bytes : List ℕ) (h : Option Handle) : Type 0 where
  handle : Handle
  is : h ≡ Some handle
  fault : (block_of bytes handle).fault ≡ None
  bare : (block_of bytes handle).bare ≡ false

not_true : (b : Bool) → not b ≡ true → b ≡ false
not_true true e = absurd cc
not_true false e = refl

data_read : (bytes : List ℕ) (place : ℕ) (h : Option Handle) → block_fault bytes place h ≡ None → DataRead bytes h
data_read bytes place None e = absurd cc
data_read bytes place (Some h) e =
    let both = and_both (block_of bytes h).fault (expect (not (block_of bytes h).bare) rule.Entry h.offset) e in
    record { handle = h; is = refl; fault = both.0; bare = not_true (block_of bytes h).bare (expected (not (block_of bytes h).bare) rule.Entry h.offset both.1) }

parts_none : (a b c d f : Option Fault) → (a and (b and (c and (d and f)))) ≡ None → (a ≡ None) × (b ≡ None) × (c ≡ None) × (d ≡ None) × (f ≡ None)
parts_none a b c d f e =
    let one = and_both a (b and (c and (d and f))) e in
    let two = and_both b (c and (d and f)) one.1 in
    let three = and_both c (d and f) two.1 in
    let four = and_both d f three.1 in
    (one.0, two.0, three.0, four.0, four.1)

pub last_some : (e : BlockEntry) (entries : List BlockEntry) → last_entry (Some e) entries ≡ Some (last_of e entries)
last_some e [] = refl
last_some e (x ∷ entries) = last_some x entries

last_holds : (place : ℕ) (key : List ℕ) (e : BlockEntry) (entries : List BlockEntry) → last_fault place key (last_entry None (e ∷ entries)) ≡ None → descend (last_of e entries).key key ≡ false
last_holds place key e entries f =
    not_true (descend (last_of e entries).key key) (expected (not (descend (last_of e entries).key key)) rule.Order place (ap (last_fault place key) (sym (last_some e entries)) ∙ f))

below_holds : (place : ℕ) (key : List ℕ) (b : List BlockEntry) (bs : List (List BlockEntry)) → first_fault place key (head_entry b) ≡ None → IsBelow key (b ∷ bs)
below_holds place key [] bs f = tt
below_holds place key (e ∷ entries) bs f = expected (ascend key e.key) rule.Order place f

abbrev pub blocks_in : List Data → List (List BlockEntry)
blocks_in ds = map (λ (d : Data). d.entries) ds

next_holds : (place : ℕ) (key : List ℕ) (ds : List Data) → next_fault place key ds ≡ None → IsBelow key (blocks_in ds)
next_holds place key [] f = tt
next_holds place key (d ∷ ds) f = below_holds place key d.entries (blocks_in ds) f

blocks_read : (bytes : List ℕ) (offset : ℕ) (cells : List Cell) (last : Option BlockEntry) → data_fault last (map (data_at bytes offset) cells) ≡ None → AreBlocks bytes (map (entry_of offset) cells) (blocks_in (map (data_at bytes offset) cells))
unfolding data_fault
blocks_read bytes offset [] last e = tt
blocks_read bytes offset (c ∷ cells) last e =
    let place = offset + c.place in
    let o = data_handle (length bytes) c.value in
    let ds = map (data_at bytes offset) cells in
    let parts = parts_none _ _ _ _ _ e in
    let r = data_read bytes place o parts.2 in
    let some = some_cells bytes r.handle r.fault r.bare in
    let x = entry_of r.handle.offset some.0 in
    let xs = map (entry_of r.handle.offset) some.1 in
    let is : block_entries bytes o ≡ x ∷ xs = ap (block_entries bytes) r.is ∙ ap (map (entry_of r.handle.offset)) some.2 in
    let P : List BlockEntry → Type 0 = λ b. AreBlocks bytes (entry_of offset c ∷ map (entry_of offset) cells) (b ∷ blocks_in ds) in
    subst P (sym is) (
      (r.handle, r.is, block_read bytes r.handle r.fault ∙ ap (λ l. Ok (map (entry_of r.handle.offset) l)) some.2),
      last_holds place c.key x xs (ap (λ l. last_fault place c.key (last_entry None l)) (sym is) ∙ parts.1),
      next_holds place c.key ds parts.3,
      blocks_read bytes offset cells (last_entry last (block_entries bytes o)) parts.4,
    )

pub joined_are : (ds : List Data) → flat_map (λ (b : List BlockEntry). b) (map (λ (d : Data). d.entries) ds) ≡ entries_in ds
joined_are [] = refl
joined_are (d ∷ ds) = ap (λ more. d.entries ++ more) (joined_are ds)

-- their keys ascend
abbrev pub key_of : Option BlockEntry → Option (List ℕ)
key_of None = None
key_of (Some e) = Some e.key

abbrev IsLong : Option BlockEntry → Type 0
IsLong None = Unit {0}
IsLong (Some e) = 9 ≤ length e.key

or_right : (a b : Bool) → a ≡ true → (not a || b) ≡ true → b ≡ true
or_right true b e f = f
or_right false b e f = absurd cc

stands_after : (last : Option BlockEntry) (e : BlockEntry) → IsLong last → 9 ≤ length e.key → order_fault last (Some e) ≡ None → stands_behind (key_of last) e.key ≡ true
stands_after None e long more f = refl
stands_after (Some l) e long more f =
    let order : have_order l.key e.key ≡ true = rw (le-leb 8 (length l.key) (omega arith), le-leb 8 (length e.key) (omega arith)) refl in
    or_right (have_order l.key e.key) (is_lt (key_order l.key e.key)) order (expected (ascend l.key e.key) rule.Order e.place f)

in_block : (offset : ℕ) (behind : Option (List ℕ)) (cells : List Cell) (last : Option BlockEntry) (rest : List BlockEntry) → entry_fault offset behind cells ≡ None → key_of last ≡ behind
    → KeysAscend (key_of (last_entry last (map (entry_of offset) cells))) rest → KeysAscend (key_of last) (map (entry_of offset) cells ++ rest)
in_block offset behind [] last rest e same more = more
in_block offset behind (c ∷ cells) last rest e same more =
    let good = first_is_good offset behind c cells e in
    (good.0, ap (λ b. stands_behind b c.key) same ∙ stands_on offset behind c cells e, in_block offset (Some c.key) cells (Some (entry_of offset c)) rest good.1 refl more)

block_on : (offset : ℕ) (cells : List Cell) (last : Option BlockEntry) (rest : List BlockEntry) → entry_fault offset None cells ≡ None → order_fault last (head_entry (map (entry_of offset) cells)) ≡ None → IsLong last
    → KeysAscend (key_of (last_entry last (map (entry_of offset) cells))) rest → KeysAscend (key_of last) (map (entry_of offset) cells ++ rest)
block_on offset [] last rest e order long more = more
block_on offset (c ∷ cells) last rest e order long more =
    let good = first_is_good offset None c cells e in
    (good.0, stands_after last (entry_of offset c) long good.0 order, in_block offset (Some c.key) cells (Some (entry_of offset c)) rest good.1 refl more)

long_last : (offset : ℕ) (behind : Option (List ℕ)) (cells : List Cell) (last : Option BlockEntry) → entry_fault offset behind cells ≡ None → IsLong last → IsLong (last_entry last (map (entry_of offset) cells))
long_last offset behind [] last e long = long
long_last offset behind (c ∷ cells) last e long = let good = first_is_good offset behind c cells e in long_last offset (Some c.key) cells (Some (entry_of offset c)) good.1 good.0

all_ascend : (bytes : List ℕ) (offset : ℕ) (cells : List Cell) (last : Option BlockEntry) → data_fault last (map (data_at bytes offset) cells) ≡ None → IsLong last → KeysAscend (key_of last) (entries_in (map (data_at bytes offset) cells))
unfolding data_fault
all_ascend bytes offset [] last e long = tt
all_ascend bytes offset (c ∷ cells) last e long =
    let parts = parts_none _ _ _ _ _ e in
    let r = data_read bytes (offset + c.place) (data_handle (length bytes) c.value) parts.2 in
    let ds = map (data_at bytes offset) cells in
    let P : Option Handle → Type 0 = λ h. order_fault last (head_entry (block_entries bytes h)) ≡ None → data_fault (last_entry last (block_entries bytes h)) ds ≡ None → KeysAscend (key_of last) (block_entries bytes h ++ entries_in ds) in
    let good = cells_good bytes r.handle r.fault in
    let on : P (Some r.handle) = λ order rest.
    block_on r.handle.offset (block_of bytes r.handle).cells last (entries_in ds) good order long
    (all_ascend bytes offset cells (last_entry last (block_entries bytes (Some r.handle))) rest (long_last r.handle.offset None (block_of bytes r.handle).cells last good long)) in
    subst P (sym r.is) on parts.0 parts.4

-- the whole
with_footer : (bytes : List ℕ) (entries : List BlockEntry) (footer : Footer) (meta index : Handle) → footer.meta ≡ Some meta → footer.index ≡ Some index → read_footer (drop (length bytes - 48) bytes) (length bytes) ≡ Ok (meta, index)
    → meta_fault bytes footer.meta ≡ None → index_fault bytes footer.index ≡ None → data_fault None (data_of bytes footer.index) ≡ None → entries_in (data_of bytes footer.index) ≡ entries → IsTable bytes entries
with_footer bytes entries footer meta index em ei read fm fi fd es =
    let m : meta_fault bytes (Some meta) ≡ None = ap (meta_fault bytes) (sym em) ∙ fm in
    let i : (block_of bytes index).fault ≡ None = ap (index_fault bytes) (sym ei) ∙ fi in
    let cells : List Cell = (block_of bytes index).cells in
    let d : data_fault None (map (data_at bytes index.offset) cells) ≡ None = ap (λ h. data_fault None (data_of bytes h)) (sym ei) ∙ fd in
    let all : entries_in (map (data_at bytes index.offset) cells) ≡ entries = ap (λ h. entries_in (data_of bytes h)) (sym ei) ∙ es in
    let P : List BlockEntry → Type 0 = λ l. KeysAscend None l in
    record {
      meta = meta;
      index = index;
      footer = read;
      empty = meta_read bytes meta m;
      names = map (entry_of index.offset) cells;
      names_are = block_read bytes index i;
      blocks = map (λ (x : Data). x.entries) (map (data_at bytes index.offset) cells);
      blocks_are = blocks_read bytes index.offset cells None d;
      entries_are = joined_are (map (data_at bytes index.offset) cells) ∙ all;
      ascending = subst P all (all_ascend bytes index.offset cells None d tt);
    }

pub read_is_table : (bytes : List ℕ) (entries : List BlockEntry) → read_table bytes ≡ Ok entries → IsTable bytes entries
read_is_table bytes entries e = elim (cases_lt (length bytes) 48) [
  | inl short ↦ absurd (let f = sym (whole_short bytes short) ∙ e in cc)
  | inr long ↦
      let tail : List ℕ = drop (length bytes - 48) bytes in
      let footer : Footer = footer_in (length bytes) tail in
      let ok = accepted (table_fault bytes footer) (entries_in (data_of bytes footer.index)) entries (sym (whole_long bytes long) ∙ e) in
      let one = and_both footer.fault (meta_fault bytes footer.meta and (index_fault bytes footer.index and data_fault None (data_of bytes footer.index))) ok.0 in
      let two = and_both (meta_fault bytes footer.meta) (index_fault bytes footer.index and data_fault None (data_of bytes footer.index)) one.1 in
      let three = and_both (index_fault bytes footer.index) (data_fault None (data_of bytes footer.index)) two.1 in
      let n : length tail ≡ 48 = length-drop (length bytes - 48) bytes ∙ (omega arith) in
      let f = footer_read (length bytes) tail n long one.0 in
      with_footer bytes entries footer f.meta f.index f.meta_is f.index_is f.read two.0 three.0 three.1 ok.1
]
