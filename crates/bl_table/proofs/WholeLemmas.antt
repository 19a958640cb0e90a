-- Going over the entries of a block, whatever they are; and the first of two faults.
use Rattle.std.proofs.Common.{◌≡◌, ℕ, suc, ◌+◌, ◌-◌, ◌^◌, ◌<◌, ◌≤◌, ◌==◌, ◌&&◌, ◌||◌, nat_lt, Bool, true, false, cond, List, [], ◌∷◌, ◌++◌, length, length-drop, length-take-le, map, take, drop, Option, None, Some, refl, sym, ◌∙◌, ap, subst, arith, append_assoc, append-nil, inl, inr}
use Rattle.std.proofs.lemmas.Bool.{cases_lt}
use Rattle.std.proofs.lemmas.Bool.Decides.{nat_tests}
use Rattle.bl_code.specs.Reading.{Input, from_start}
use Rattle.bl_table.specs.declared.entry.BlockEntry.{BlockEntry}
use Rattle.std.specs.Prelude.{slice_get, not}
use Rattle.bl_table.specs.declared.fault.TableRule.TheVariants.{Entry, Order}
use Rattle.bl_table.specs.declared.handle.Handle.{Handle}
use Rattle.bl_table.specs.declared.whole.Named.{Named}
use Rattle.bl_table.specs.Faults.{Fault, ◌and◌, rank, comes_first, expect}
use Rattle.bl_table.specs.Blocks.{Contents, block_in, block_at, trailer_fault, Cell, Cells, cell_at, cells_at, cells_in, entry_of, head_entry}
use Rattle.bl_table.specs.Whole.{block_of, no_entry, meta_fault, last_entry, ascend, descend, first_fault, order_fault, last_fault}
use Rattle.bl_table.specs.Wholes.{IsFound, orders}
use Rattle.bl_table.specs.Steps.{Moves, fault_of}
use Rattle.bl_table.proofs.ContentsLemmas.{cells_end, cells_stop, cells_more}
use Rattle.bl_table.proofs.BlockLemmas.{block_whole}

-- these entries are left, behind one of this key
pub record Leaves (taker : Input) (before : List ℕ) (left : List Cell) : Type 0 where
  pub fuel : ℕ
  pub enough : length taker.left ≤ fuel
  pub cells : (cells_at fuel before taker).cells ≡ left

pub all_leave : (bytes before : List ℕ) (taker : Input) → taker ≡ from_start bytes → before ≡ [] → Leaves taker before (cells_in bytes).cells
all_leave bytes before taker et eb =
    let P : Input → Type 0 = λ t. Leaves t before (cells_in bytes).cells in
    let Q : List ℕ → Type 0 = λ b. Leaves (from_start bytes) b (cells_in bytes).cells in
    subst P (sym et) (subst Q (sym eb) (record { fuel = length bytes; enough = omega arith; cells = refl }))

pub none_leave : (taker : Input) (before : List ℕ) (left : List Cell) → Leaves taker before left → length taker.left ≡ 0 → left ≡ []
none_leave taker before left w none = sym w.cells ∙ ap (λ (c : Cells). c.cells) (cells_end w.fuel before taker none)

pub stop_leaves : (taker : Input) (before : List ℕ) (left : List Cell) → Leaves taker before left → 0 < length taker.left → cell_at before taker ≡ None → left ≡ []
stop_leaves taker before left w some e = sym w.cells ∙ ap (λ (c : Cells). c.cells) (cells_stop w.fuel before taker some w.enough e)

-- the next of them
pub record LeavesOn (behind : Input) (c : Cell) (left : List Cell) : Type 0 where
  pub more : List Cell
  pub is : left ≡ c ∷ more
  pub leaves : Leaves behind c.key more

pub one_leaves : (taker behind : Input) (before : List ℕ) (c : Cell) (left : List Cell) → Leaves taker before left → 0 < length taker.left → cell_at before taker ≡ Some (c, behind) → Moves 3 taker behind → LeavesOn behind c left
one_leaves taker behind before c left w some e moves =
    let n : length behind.left ≡ length taker.left - moves.taken = ap length moves.left ∙ length-drop moves.taken taker.left in
    let m = moves.enough in
    let v = moves.within in
    let f = w.enough in
    record {
      more = (cells_at (w.fuel - 1) c.key behind).cells;
      is = sym w.cells ∙ ap (λ (cells : Cells). cells.cells) (cells_more w.fuel before taker behind c some w.enough e);
      leaves = record { fuel = w.fuel - 1; enough = omega arith; cells = refl };
    }

-- the first of two faults
pub and_none : (a : Option Fault) → (a and None) ≡ a
and_none None = refl
and_none (Some a) = refl

-- places p q r, and ranks i j k there
less_trans : (p i q j r k : ℕ) → (nat_lt p q || ((p == q) && nat_lt i j)) ≡ true → (nat_lt q r || ((q == r) && nat_lt j k)) ≡ true → (nat_lt p r || ((p == r) && nat_lt i k)) ≡ true
less_trans p i q j r k f g = grind (arith, nat_tests)

less_not : (p i q j r k : ℕ) → (nat_lt p q || ((p == q) && nat_lt i j)) ≡ false → (nat_lt q r || ((q == r) && nat_lt j k)) ≡ false → (nat_lt p r || ((p == r) && nat_lt i k)) ≡ false
less_not p i q j r k f g = grind (arith, nat_tests)

pick : (a b : Fault) (x : Bool) → comes_first b a ≡ x → (Some a and Some b) ≡ cond x (Some b) (Some a)
pick a b x e = ap (λ t. cond t (Some b) (Some a)) e

three : (a b c : Fault) (x y : Bool) → comes_first c b ≡ x → comes_first b a ≡ y → (Some a and (Some b and Some c)) ≡ ((Some a and Some b) and Some c)
three a b c true true f g =
    ap (λ o. Some a and o) (pick b c true f) ∙ pick a c true (less_trans c.1 (rank c.0) b.1 (rank b.0) a.1 (rank a.0) f g) ∙ sym (pick b c true f) ∙ ap (λ o. o and Some c) (sym (pick a b true g))
three a b c true false f g = ap (λ o. Some a and o) (pick b c true f) ∙ ap (λ o. o and Some c) (sym (pick a b false g))
three a b c false true f g = ap (λ o. Some a and o) (pick b c false f) ∙ pick a b true g ∙ sym (pick b c false f) ∙ ap (λ o. o and Some c) (sym (pick a b true g))
three a b c false false f g =
    ap (λ o. Some a and o) (pick b c false f) ∙ pick a b false g ∙ sym (pick a c false (less_not c.1 (rank c.0) b.1 (rank b.0) a.1 (rank a.0) f g)) ∙ ap (λ o. o and Some c) (sym (pick a b false g))

pub and_assoc : (a b c : Option Fault) → (a and (b and c)) ≡ ((a and b) and c)
and_assoc None b c = refl
and_assoc (Some a) None c = refl
and_assoc (Some a) (Some b) None = sym (and_none (Some a and Some b))
and_assoc (Some a) (Some b) (Some c) = three a b c (comes_first c b) (comes_first b a) refl refl

-- the entries of a block, one after another
pub none_collected : (offset : ℕ) (entries r : List BlockEntry) (left : List Cell) → entries ++ map (entry_of offset) left ≡ r → left ≡ [] → entries ≡ r
none_collected offset entries r left e none = sym (append-nil entries) ∙ ap (λ l. entries ++ map (entry_of offset) l) (sym none) ∙ e

pub one_collected : (offset : ℕ) (entries new r : List BlockEntry) (x : BlockEntry) (c : Cell) (left more : List Cell) → entries ++ map (entry_of offset) left ≡ r → left ≡ c ∷ more → x ≡ entry_of offset c → new ≡ entries ++ x ∷ []
    → new ++ map (entry_of offset) more ≡ r
one_collected offset entries new r x c left more e is ex en =
    ap (λ n. n ++ map (entry_of offset) more) en ∙ append_assoc entries (x ∷ []) (map (entry_of offset) more)
    ∙ ap (λ y. entries ++ (y ∷ map (entry_of offset) more)) ex ∙ ap (λ l. entries ++ map (entry_of offset) l) (sym is) ∙ e

-- the entries at the ends of a list
pub head_is : (entries : List BlockEntry) → slice_get entries 0 ≡ head_entry entries
head_is [] = refl
head_is (e ∷ entries) = refl

last_behind : (e : BlockEntry) (entries : List BlockEntry) → slice_get (e ∷ entries) (length entries) ≡ last_entry (Some e) entries
last_behind e [] = refl
last_behind e (x ∷ entries) = last_behind x entries

pub last_is : (entries : List BlockEntry) → slice_get entries (length entries - 1) ≡ last_entry None entries
last_is [] = refl
last_is (e ∷ entries) = let n : suc (length entries) - 1 ≡ length entries = omega arith in ap (slice_get (e ∷ entries)) n ∙ last_behind e entries

-- the faults of order, where a data block has entries
pub orders_are : (at : ℕ) (before : List ℕ) (place : ℕ) (key : List ℕ) (old new : List BlockEntry) (first last : BlockEntry) (a b c : Option Fault) → Some first ≡ head_entry new → Some last ≡ last_entry None new
    → a ≡ expect (ascend before first.key) Order at → b ≡ order_fault (last_entry None old) (Some first) → c ≡ expect (not (descend last.key key)) Order place → (a and (b and c)) ≡ orders at before place key old new
orders_are at before place key old new first last a b c eh el ea eb ec =
    let x = expect (ascend before first.key) Order at in
    let y = order_fault (last_entry None old) (Some first) in
    ap (λ o. o and (b and c)) ea ∙ ap (λ o. x and (o and c)) eb ∙ ap (λ o. x and (y and o)) ec
    ∙ ap (λ h. first_fault at before h and (order_fault (last_entry None old) h and last_fault place key (Some last))) eh
    ∙ ap (λ l. first_fault at before (head_entry new) and (order_fault (last_entry None old) (head_entry new) and last_fault place key l)) el

pub behind_one : (old : List BlockEntry) (first e : BlockEntry) (a k : List ℕ) (x : Bool) (b : Option Fault) → Some e ≡ last_entry None old → a ≡ e.key → k ≡ first.key → x ≡ ascend a k → b ≡ expect x Order first.place
    → b ≡ order_fault (last_entry None old) (Some first)
behind_one old first e a k x b el ea ek ex eb =
    eb ∙ ap (λ t. expect t Order first.place) (ex ∙ ap (λ y. ascend y k) ea ∙ ap (λ y. ascend e.key y) ek) ∙ ap (λ l. order_fault l (Some first)) el

pub behind_none : (old : List BlockEntry) (first : BlockEntry) (b : Option Fault) → None ≡ last_entry None old → b ≡ None → b ≡ order_fault (last_entry None old) (Some first)
behind_none old first b el eb = eb ∙ ap (λ l. order_fault l (Some first)) el

-- a block that was found, from what was found in its bytes
pub found : (table slice : List ℕ) (h : Handle) (n : Named) → h.offset + h.size + 5 ≤ length table → length table < 2 ^ 64 → slice ≡ take (h.size + 5) (drop h.offset table) → fault_of n.fault ≡ (block_at h slice).fault
    → n.bare ≡ (block_in h.offset (take h.size slice)).bare → (cells_in n.entries.now).cells ≡ (block_in h.offset (take h.size slice)).cells → IsFound n (block_of table h)
found table slice h n within small es ef eb ec =
    let size : length (take (h.size + 5) (drop h.offset table)) ≡ h.size + 5 = length-take-le (h.size + 5) (drop h.offset table) (omega (arith, length-drop h.offset table)) in
    let is : block_at h (take (h.size + 5) (drop h.offset table)) ≡ record (block_in h.offset (take h.size (take (h.size + 5) (drop h.offset table)))) { fault = (block_in h.offset (take h.size (take (h.size + 5) (drop h.offset table)))).fault and trailer_fault (h.offset + h.size) (take h.size (take (h.size + 5) (drop h.offset table))) (drop h.size (take (h.size + 5) (drop h.offset table))) } =
    block_whole (take (h.size + 5) (drop h.offset table)) h (block_in h.offset (take h.size (take (h.size + 5) (drop h.offset table)))) size (omega arith) refl in
    record {
      fault = ef ∙ ap (λ s. (block_at h s).fault) es;
      bare = eb ∙ ap (λ s. (block_in h.offset (take h.size s)).bare) es ∙ ap (λ (b : Contents). b.bare) (sym is);
      cells = ec ∙ ap (λ s. (block_in h.offset (take h.size s)).cells) es ∙ ap (λ (b : Contents). b.cells) (sym is);
    }

-- the first entry of a block
pub no_first : (bytes : List ℕ) (taker : Input) → taker ≡ from_start bytes → cell_at [] taker ≡ None → (cells_in bytes).cells ≡ []
no_first bytes taker et none =
    let P : Input → Type 0 = λ t. cell_at [] t ≡ None in
    elim (cases_lt 0 (length bytes)) [
      | inl some ↦ ap (λ (c : Cells). c.cells) (cells_stop (length bytes) [] (from_start bytes) some (omega arith) (subst P et none))
      | inr empty ↦ ap (λ (c : Cells). c.cells) (cells_end (length bytes) [] (from_start bytes) (omega arith))
    ]

pub some_first : (bytes : List ℕ) (taker behind : Input) (c : Cell) → taker ≡ from_start bytes → cell_at [] taker ≡ Some (c, behind) → Moves 3 taker behind → (more : List Cell) × ((cells_in bytes).cells ≡ c ∷ more)
some_first bytes taker behind c et e moves =
    let P : Input → Type 0 = λ t. cell_at [] t ≡ Some (c, behind) in
    let m = moves.enough in
    let w = moves.within in
    let n : length taker.left ≡ length bytes = ap (λ (i : Input). length i.left) et in
    ((cells_at (length bytes - 1) c.key behind).cells, ap (λ (x : Cells). x.cells) (cells_more (length bytes) [] (from_start bytes) behind c (omega arith) (omega arith) (subst P et e)))

-- a metaindex block, without and with an entry
pub meta_without : (table : List ℕ) (h : Handle) (meta : Option Handle) (n : Named) → meta ≡ Some h → IsFound n (block_of table h) → (cells_in n.entries.now).cells ≡ [] → fault_of n.fault ≡ meta_fault table meta
meta_without table h meta n em f none =
    f.fault ∙ sym (and_none _) ∙ ap (λ cells. (block_of table h).fault and no_entry h.offset cells) (sym none ∙ f.cells) ∙ ap (meta_fault table) (sym em)

pub meta_with : (table : List ℕ) (h : Handle) (meta : Option Handle) (n : Named) (c : Cell) (more : List Cell) (fault : Option Fault) → meta ≡ Some h → IsFound n (block_of table h) → (cells_in n.entries.now).cells ≡ c ∷ more
    → fault ≡ (fault_of n.fault and Some (Entry, h.offset + c.place)) → fault ≡ meta_fault table meta
meta_with table h meta n c more fault em f some e =
    e ∙ ap (λ o. o and Some (Entry, h.offset + c.place)) f.fault ∙ ap (λ cells. (block_of table h).fault and no_entry h.offset cells) (sym some ∙ f.cells) ∙ ap (meta_fault table) (sym em)
