-- How far the reading of a table's data blocks has come.
use Rattle.std.proofs.Common.{◌≡◌, ℕ, ◌-◌, ◌<◌, ◌≤◌, List, [], ◌∷◌, ◌++◌, length, take, drop, flat_map, Option, None, Some, Ok, Err, refl, arith, length-drop, sym, ◌∙◌, ap, subst, append_assoc, append-nil}
use Rattle.std.proofs.Math.Seq.{take-append_seam, drop-append_seam}
use Rattle.bl_table.specs.declared.entry.BlockEntry.{BlockEntry}
use Rattle.std.proofs.lemmas.List.{take_all}
use Rattle.std.proofs.lemmas.Bool.{le-ltb, lt-ltb, cond-true, cond-false}
use Rattle.bl_table.specs.declared.handle.Handle.{Handle}
use Rattle.bl_table.specs.declared.fault.TableRule.TheVariants.{Length}
use Rattle.bl_table.specs.Faults.{Fault, ◌and◌, unless}
use Rattle.bl_table.specs.Blocks.{head_entry}
use Rattle.bl_table.specs.Whole.{Data, last_entry, first_fault, next_fault, order_fault, last_fault, data_fault, Footer, footer_in, meta_fault, index_fault, data_of, table_fault, entries_with, read_table}
use Rattle.bl_table.specs.Wholes.{orders}
use Rattle.bl_table.proofs.BlockLemmas.{left_none}
use Rattle.bl_table.proofs.WholeLemmas.{and_none, and_assoc}

pub last_entry-append : (last : Option BlockEntry) (a b : List BlockEntry) → last_entry last (a ++ b) ≡ last_entry (last_entry last a) b
last_entry-append last [] b = refl
last_entry-append last (e ∷ a) b = last_entry-append (Some e) a b

abbrev pub entries_in : List Data → List BlockEntry
entries_in ds = flat_map (λ (d : Data). d.entries) ds

-- The first fault so far, the index entry before, and the entries so far, or the last of them where there is a fault. What is left decides the fault and the entries.
pub record Reading (least : Option Fault) (at : ℕ) (before : List ℕ) (entries : List BlockEntry) (ds : List Data) (fault : Option Fault) (all : List BlockEntry) : Type 0 where
  pub fault_is : (least and (next_fault at before ds and data_fault (last_entry None entries) ds)) ≡ fault
  pub all_is : least ≡ None → (entries ++ entries_in ds) ≡ all

none_before : (e : Option BlockEntry) → first_fault 0 [] e ≡ None
none_before None = refl
none_before (Some e) = refl

no_next : (ds : List Data) → next_fault 0 [] ds ≡ None
no_next [] = refl
no_next (d ∷ ds) = none_before (head_entry d.entries)

pub reading_begins : (before : List ℕ) (entries : List BlockEntry) (ds : List Data) → before ≡ [] → entries ≡ [] → Reading None 0 before entries ds (data_fault None ds) (entries_in ds)
reading_begins before entries ds eb ee =
    let P : List ℕ → Type 0 = λ b. Reading None 0 b entries ds (data_fault None ds) (entries_in ds) in
    let Q : List BlockEntry → Type 0 = λ es. Reading None 0 [] es ds (data_fault None ds) (entries_in ds) in
    subst P (sym eb) (subst Q (sym ee) (record { fault_is = ap (λ o. o and data_fault None ds) (no_next ds); all_is = λ good. refl }))

pub reading_ends : (least : Option Fault) (at : ℕ) (before : List ℕ) (entries : List BlockEntry) (ds : List Data) (fault : Option Fault) (all : List BlockEntry) → ds ≡ [] → Reading least at before entries ds fault all
    → (least ≡ fault) × (least ≡ None → entries ≡ all)
unfolding data_fault
reading_ends least at before entries ds fault all none r = (
  sym (and_none least) ∙ ap (λ l. least and (next_fault at before l and data_fault (last_entry None entries) l)) (sym none) ∙ r.fault_is,
  λ good. sym (append-nil entries) ∙ ap (λ l. entries ++ entries_in l) (sym none) ∙ r.all_is good,
)

-- a data block and its index entry, behind others
data_behind : (least a b c f x : Option Fault) → ((least and ((a and (b and c)) and f)) and x) ≡ (least and (a and (b and (c and (f and x)))))
data_behind least a b c f x =
    sym (and_assoc least ((a and (b and c)) and f) x)
    ∙ ap (λ o. least and o) (sym (and_assoc (a and (b and c)) f x) ∙ sym (and_assoc a (b and c) (f and x)) ∙ ap (λ o. a and o) (sym (and_assoc b c (f and x))))

pub reading_goes_on : (least next order found : Option Fault) (at : ℕ) (before : List ℕ) (entries new kept : List BlockEntry) (d : Data) (ds more : List Data) (fault : Option Fault) (all : List BlockEntry) → Reading least at before entries ds fault all → ds ≡ d ∷ more
    → new ≡ entries ++ d.entries → order ≡ orders at before d.place d.key (take (length entries) new) (drop (length entries) new) → found ≡ d.fault → next ≡ (least and (order and found))
    → (next ≡ None → kept ≡ new) → last_entry None kept ≡ last_entry None new → Reading next d.place d.key kept more fault all
unfolding data_fault
reading_goes_on least next order found at before entries new kept d ds more fault all r is en eo ef el whole last =
    let old_is : take (length entries) new ≡ entries = ap (take (length entries)) en ∙ take-append_seam entries d.entries in
    let new_is : drop (length entries) new ≡ d.entries = ap (drop (length entries)) en ∙ drop-append_seam entries d.entries in
    let order_is : order ≡ orders at before d.place d.key entries d.entries = eo ∙ ap (λ o. orders at before d.place d.key o (drop (length entries) new)) old_is ∙ ap (orders at before d.place d.key entries) new_is in
    let last_is : last_entry None kept ≡ last_entry (last_entry None entries) d.entries = last ∙ ap (last_entry None) en ∙ last_entry-append None entries d.entries in
    let least_is : next ≡ (least and (orders at before d.place d.key entries d.entries and d.fault)) = el ∙ ap (λ o. least and (o and found)) order_is ∙ ap (λ o. least and (orders at before d.place d.key entries d.entries and o)) ef in
    record {
      fault_is = ap (λ o. o and (next_fault d.place d.key more and data_fault (last_entry None kept) more)) least_is
          ∙ ap (λ l. (least and (orders at before d.place d.key entries d.entries and d.fault)) and (next_fault d.place d.key more and data_fault l more)) last_is
          ∙ data_behind least (first_fault at before (head_entry d.entries)) (order_fault (last_entry None entries) (head_entry d.entries)) (last_fault d.place d.key (last_entry None d.entries)) d.fault
          (next_fault d.place d.key more and data_fault (last_entry (last_entry None entries) d.entries) more)
          ∙ ap (λ l. least and (next_fault at before l and data_fault (last_entry None entries) l)) (sym is)
          ∙ r.fault_is;
      all_is = λ good. ap (λ n. n ++ entries_in more) (whole good ∙ en) ∙ append_assoc entries d.entries (entries_in more) ∙ ap (λ l. entries ++ entries_in l) (sym is)
          ∙ r.all_is (sym (left_none least (order and found) (sym good ∙ el)));
    }

-- entries matter where there is no fault
unless_good : (fault : Option Fault) (xs ys : List BlockEntry) → (fault ≡ None → xs ≡ ys) → unless fault xs ≡ unless fault ys
unless_good None xs ys same = ap (λ l. Ok l) (same refl)
unless_good (Some f) xs ys same = refl

right_none : (a b : Option Fault) → (a and b) ≡ None → b ≡ None
right_none None b e = e
right_none (Some f) None e = refl
right_none (Some f) (Some g) e = absurd (let no = left_none (Some f) (Some g) (sym e) in cc)

-- the whole
pub whole_short : (bytes : List ℕ) → length bytes < 48 → read_table bytes ≡ Err (Length, 0)
unfolding read_table
whole_short bytes short = cond-true _ _ _ (lt-ltb _ _ short)

pub whole_long : (bytes : List ℕ) → 48 ≤ length bytes → read_table bytes ≡ entries_with bytes (footer_in (length bytes) (drop (length bytes - 48) bytes))
unfolding read_table
whole_long bytes long = cond-false _ _ _ (le-ltb _ _ long)

with_footer : (bytes : List ℕ) (footer : Footer) (meta index : Option Handle) (f m i fault : Option Fault) (entries : List BlockEntry) → meta ≡ footer.meta → index ≡ footer.index → f ≡ footer.fault → m ≡ meta_fault bytes meta
    → i ≡ (index_fault bytes index and data_fault None (data_of bytes index)) → (i ≡ None → entries ≡ entries_in (data_of bytes index)) → fault ≡ (f and (m and i)) → entries_with bytes footer ≡ unless fault entries
with_footer bytes footer meta index f m i fault entries em ei ef fm fi es e =
    let all : fault ≡ table_fault bytes footer =
    e ∙ ap (λ o. o and (m and i)) ef ∙ ap (λ o. footer.fault and (o and i)) (fm ∙ ap (meta_fault bytes) em)
    ∙ ap (λ o. footer.fault and (meta_fault bytes footer.meta and o)) (fi ∙ ap (λ h. index_fault bytes h and data_fault None (data_of bytes h)) ei) in
    ap (λ o. unless o (entries_in (data_of bytes footer.index))) (sym all)
    ∙ unless_good fault _ _ (λ good. ap (λ h. entries_in (data_of bytes h)) (sym ei) ∙ sym (es (right_none m i (right_none f (m and i) (sym e ∙ good)))))

pub whole_read : (bytes tail : List ℕ) (meta index : Option Handle) (f m i fault : Option Fault) (entries : List BlockEntry) → 48 ≤ length bytes → tail ≡ drop (length bytes - 48) bytes → meta ≡ (footer_in (length bytes) tail).meta
    → index ≡ (footer_in (length bytes) tail).index → f ≡ (footer_in (length bytes) tail).fault → m ≡ meta_fault bytes meta
    → i ≡ (index_fault bytes index and data_fault None (data_of bytes index)) → (i ≡ None → entries ≡ entries_in (data_of bytes index)) → fault ≡ (f and (m and i)) → read_table bytes ≡ unless fault entries
whole_read bytes tail meta index f m i fault entries long et em ei ef fm fi es e =
    whole_long bytes long ∙ ap (λ t. entries_with bytes (footer_in (length bytes) t)) (sym et) ∙ with_footer bytes (footer_in (length bytes) tail) meta index f m i fault entries em ei ef fm fi es e

pub tail_is : (bytes : List ℕ) → take (length bytes - (length bytes - 48)) (drop (length bytes - 48) bytes) ≡ drop (length bytes - 48) bytes
tail_is bytes = take_all (length bytes - (length bytes - 48)) (drop (length bytes - 48) bytes) (omega (arith, length-drop (length bytes - 48) bytes))
