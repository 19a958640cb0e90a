-- What is kept of the entries of a table, with one entry more.
use Rattle.std.proofs.Common.{◌≡◌, ◌≢◌, Decides, ℕ, suc, ◌+◌, ◌≤◌, ◌<◌, arith, length-append, Bool, true, false, List, [], ◌∷◌, ◌++◌, length, refl, sym, ◌∙◌, ap, subst, Option, Some, None, append-nil}
use Rattle.std.specs.Prelude.{MatchOption, nat_eq, not, take, drop, map, min, max, flat_map, unwrap_or, ◌%◌, ◌^◌}
use Rattle.std.proofs.lemmas.Bool.{eq-eqb, eqb-true, leb-false}
use Rattle.std.proofs.lemmas.Bool.Decides.{Decides-eqb, same_from_decides}
use Rattle.std.proofs.lemmas.Map.Text.{is_eq-slice_cmp}
use Rattle.std.proofs.lemmas.Slice.Eq.{bytes_eq-Decides, starts_is}
use Rattle.std.proofs.Math.Seq.{take-append_seam}
use Rattle.std.specs.Cmp.Lexicographic.{pointwise}
use Rattle.std.specs.List.{fold, cons_option}
use Rattle.std.specs.Option.{option_map}
use Rattle.std.proofs.lemmas.List.{map-append}
use Rattle.std.proofs.lemmas.List.Sums.{fold-append}
use Rattle.std.proofs.lemmas.List.Elements.{filter_map-append}
use Rattle.bl_table.specs.Building.{Building, HasAdded}
use Rattle.bl_table.specs.Spelling.{Cuts, Item, block, cut, behind, data_bytes, entries_from, is_complete, or_zero, restarts_from, table}
use Rattle.bl_entry.specs.declared.key.Entry.{Entry}
use Rattle.bl_entry.specs.Keys.{IsKey, Key, key_bytes, key_number}
use Rattle.bl_entry.specs.declared.key.Kind.{Kind}
use Rattle.bl_entry.specs.declared.key.Kind.TheVariants.{Deletion, Value, BlobRef}
use Rattle.bl_entry.specs.Entries.{IsProper, IsValueOf, last_of}
use Rattle.bl_code.specs.Numbers.{fixed32, fixed64}
use Rattle.bl_code.specs.Order.{same_bytes}
use Rattle.bl_code.specs.BlobIndex.{IsBlobIndex}
use Rattle.bl_edit.specs.declared.edit.NewTable.{NewTable}
use Rattle.bl_entry.proofs.ItemLemmas.{some_is}
use Rattle.bl_out.specs.References.{Reference, reference_of, references}
use Rattle.bl_out.specs.Tables.{IsAsNamed, least_of}
use Rattle.bl_out.specs.Outputs.{OutTable, close_table, item_of, is_of_other, items_of, open_bytes, open_size, passes}
use Rattle.bl_out.specs.States.{Ends, Hand, IsClosedAs, IsHandOf, Spans, ends_at, ends_of, oldest_in, widened}

-- the lesser of two numbers, where there are both
abbrev pub lesser_of : Option ℕ → Option ℕ → Option ℕ
lesser_of None b = b
lesser_of (Some a) None = Some a
lesser_of (Some a) (Some b) = Some (min a b)

lesser_is : (a b : Option ℕ) → least_of (cons_option a (cons_option b [])) ≡ lesser_of a b
lesser_is None None = refl
lesser_is None (Some b) = refl
lesser_is (Some a) None = refl
lesser_is (Some a) (Some b) = refl

lesser_more : (ns : List ℕ) (o : Option ℕ) → least_of (ns ++ cons_option o []) ≡ lesser_of (least_of ns) (least_of (cons_option o []))
lesser_more [] None = refl
lesser_more [] (Some n) = refl
lesser_more (k ∷ ns) None = ap least_of (append-nil (k ∷ ns))
lesser_more (k ∷ ns) (Some n) = ap Some (fold-append min k ns (n ∷ []))

numbers_of_one : (o : Option Reference) → map (λ r. r.index.file) (cons_option o []) ≡ cons_option (option_map (λ r. r.index.file) o) []
numbers_of_one None = refl
numbers_of_one (Some r) = refl

-- the least blob file, with an entry more
pub oldest_more : (es : List Entry) (e : Entry) → oldest_in (es ++ e ∷ []) ≡ lesser_of (oldest_in es) (oldest_in (e ∷ []))
oldest_more es e =
    let files : List Reference → List ℕ = map (λ r. r.index.file) in
    let here : Option ℕ = option_map (λ r. r.index.file) (reference_of e) in
    let one : files (references (e ∷ [])) ≡ cons_option here [] = numbers_of_one (reference_of e) in
    ap (λ rs. least_of (files rs)) (filter_map-append reference_of es (e ∷ []))
    ∙ ap least_of (map-append (λ (r : Reference). r.index.file) (references es) (references (e ∷ [])))
    ∙ ap (λ ns. least_of (files (references es) ++ ns)) one
    ∙ lesser_more (files (references es)) here
    ∙ ap (λ ns. lesser_of (oldest_in es) (least_of ns)) (sym one)

-- the ends, with an entry more
abbrev pub widened_by : Entry → Option Ends → Ends
widened_by e None = ends_at e
widened_by e (Some x) = widened x e

ends_more : (es : List Entry) (e : Entry) → ends_of (es ++ e ∷ []) ≡ Some (widened_by e (ends_of es))
ends_more [] e = refl
ends_more (x ∷ es) e = ap Some (fold-append widened (ends_at x) es (e ∷ []))

-- what a table in the making has given are the bytes of its complete blocks
pub given_are : (items : List Item) (given : List ℕ) (b : Building) → HasAdded items given b → given ≡ data_bytes (cut [] items).blocks
unfolding cut
given_are items given b h =
    h.given_is ∙ ap data_bytes (sym (append-nil h.blocks)) ∙ ap (λ c. data_bytes c.blocks) (sym (h.cuts [])) ∙ ap (λ is. data_bytes (cut [] is).blocks) (append-nil items)

-- what was added, as the entry's item
added_item : (es : List Entry) (e : Entry) (b : Building) (given k v : List ℕ) → k ≡ key_bytes e.key → v ≡ e.value
    → HasAdded (items_of es ++ record { key = k; value = v } ∷ []) given b → HasAdded (items_of (es ++ e ∷ [])) given b
added_item es e b given k v key value added =
    let items : items_of es ++ record { key = k; value = v } ∷ [] ≡ items_of (es ++ e ∷ []) =
    (λ i. items_of es ++ record { key = key i; value = value i } ∷ []) ∙ sym (map-append item_of es (e ∷ [])) in
    subst (λ is. HasAdded is given b) items added

-- no entry
pub spans_none : (number : ℕ) (b : Building) → HasAdded [] [] b → Spans [] (record { number = number; builder = b; written = 0; ends = None; oldest = None })
unfolding cut
spans_none number b added = record { added = added; written = refl; ends = refl; oldest = refl }

-- what `widen` answers
pub ends_widened : (es : List Entry) (e : Entry) (so_far first result : Option Ends) (key : List ℕ) (seq : ℕ) → so_far ≡ ends_of es → key ≡ key_bytes e.key → seq ≡ e.key.seq
    → (so_far ≡ None → first ≡ Some (record { smallest = key; largest = key; least = seq; most = seq }))
    → MatchOption so_far (result ≡ first) (λ ends. result ≡ Some (record { smallest = ends.smallest; largest = key; least = min ends.least seq; most = max ends.most seq }))
    → result ≡ ends_of (es ++ e ∷ [])
ends_widened es e None first result key seq are is number begins widens =
    widens ∙ begins refl ∙ (λ i. Some (record { smallest = is i; largest = is i; least = number i; most = number i })) ∙ ap (λ o. Some (widened_by e o)) are ∙ sym (ends_more es e)
ends_widened es e (Some x) first result key seq are is number begins widens =
    widens ∙ (λ i. Some (record { smallest = x.smallest; largest = is i; least = min x.least (number i); most = max x.most (number i) })) ∙ ap (λ o. Some (widened_by e o)) are ∙ sym (ends_more es e)

-- what `lesser` answers
pub oldest_lesser : (es : List Entry) (e : Entry) (so_far here result : Option ℕ) → so_far ≡ oldest_in es → here ≡ oldest_in (e ∷ []) → result ≡ least_of (cons_option so_far (cons_option here [])) → result ≡ oldest_in (es ++ e ∷ [])
oldest_lesser es e so_far here result are is less = less ∙ lesser_is so_far here ∙ (λ i. lesser_of (are i) (is i)) ∙ sym (oldest_more es e)

-- with an entry more
pub spans_more : (es : List Entry) (e : Entry) (h : Hand) (b : Building) (bytes k v : List ℕ) (ends : Option Ends) (oldest : Option ℕ) (number written : ℕ) → Spans es h → written ≡ h.written + length bytes → k ≡ key_bytes e.key → v ≡ e.value
    → ends ≡ ends_of (es ++ e ∷ []) → oldest ≡ oldest_in (es ++ e ∷ [])
    → HasAdded (items_of es ++ record { key = k; value = v } ∷ []) (open_bytes es ++ bytes) b
    → Spans (es ++ e ∷ []) (record { number = number; builder = b; written = written; ends = ends; oldest = oldest })
spans_more es e h b bytes k v ends oldest number written s grown key value are least added =
    let there : HasAdded (items_of (es ++ e ∷ [])) (open_bytes es ++ bytes) b = added_item es e b (open_bytes es ++ bytes) k v key value added in
    let same : open_bytes es ++ bytes ≡ open_bytes (es ++ e ∷ []) = given_are (items_of (es ++ e ∷ [])) (open_bytes es ++ bytes) b there in
    record {
      added = subst (λ g. HasAdded (items_of (es ++ e ∷ [])) g b) same there;
      written = grown ∙ ap (λ n. n + length bytes) s.written ∙ sym (length-append (open_bytes es) bytes) ∙ ap length same;
      ends = are;
      oldest = least;
    }

-- the bytes that follow
pub bytes_more : (es : List Entry) (e : Entry) (b : Building) (bytes k v : List ℕ) → k ≡ key_bytes e.key → v ≡ e.value
    → HasAdded (items_of es ++ record { key = k; value = v } ∷ []) (open_bytes es ++ bytes) b → open_bytes (es ++ e ∷ []) ≡ open_bytes es ++ bytes
bytes_more es e b bytes k v key value added = sym (given_are (items_of (es ++ e ∷ [])) (open_bytes es ++ bytes) b (added_item es e b (open_bytes es ++ bytes) k v key value added))

-- ---- bounds

index_short : (v : List ℕ) (file offset size : ℕ) → IsBlobIndex v file offset size → length v ≤ 32
index_short v file offset size i =
    let a = length-append i.file_bytes (i.offset_bytes ++ (i.size_bytes ++ 0 ∷ [])) in
    let b = length-append i.offset_bytes (i.size_bytes ++ 0 ∷ []) in
    let d = length-append i.size_bytes (0 ∷ []) in
    let total : length (i.file_bytes ++ (i.offset_bytes ++ (i.size_bytes ++ 0 ∷ []))) ≤ 31 = omega (arith, a, b, d, i.file_is.0, i.offset_is.0, i.size_is.0) in
    let whole : length v ≡ suc (length (i.file_bytes ++ (i.offset_bytes ++ (i.size_bytes ++ 0 ∷ [])))) = ap length i.spelled in
    omega (arith, total, whole)

value_short : (k : Kind) (v : List ℕ) → IsValueOf k v → length v ≤ 16777216
value_short Deletion v e = let none : length v ≡ 0 = ap length e in omega (arith, none)
value_short Value v le = le
value_short BlobRef v i = let short = index_short v i.0 i.1 i.2 i.3 in omega (arith, short)

length-fixed64 : (n : ℕ) → length (fixed64 n) ≡ 8
unfolding fixed64
length-fixed64 n = refl

key_short : (k : Key) → IsKey k → length (key_bytes k) ≤ 65543
key_short k h =
    let total = length-append k.user (fixed64 (key_number k)) in
    let eight = length-fixed64 (key_number k) in
    omega (arith, total, eight, h.no_longer)

pub entry_short : (e : Entry) (k v : List ℕ) → IsProper e → k ≡ key_bytes e.key → v ≡ e.value → length k + length v < 2147483648
entry_short e k v proper key value =
    let a = key_short e.key proper.key in
    let b = value_short e.key.kind e.value proper.value in
    let p : length k ≡ length (key_bytes e.key) = ap length key in
    let q : length v ≡ length e.value = ap length value in
    omega (arith, a, b, p, q)

-- ---- the size of a table in hand

none_small : is_complete [] ≡ false
unfolding block entries_from restarts_from fixed32
none_small = refl

-- the cuts behind an item, by whether it completes the block
abbrev cuts_by : List Item → Item → List Item → Bool → Cuts
cuts_by hand i items b = elim b [ true ↦ behind ((hand ++ i ∷ []) ∷ []) (cut [] items) | false ↦ cut (hand ++ i ∷ []) items ]

-- a block in hand is not complete
cut_step : (hand : List Item) (i : Item) (items : List Item) (b : Bool) → is_complete (hand ++ i ∷ []) ≡ b → is_complete (cut [] items).hand ≡ false
    → (is_complete (hand ++ i ∷ []) ≡ false → is_complete (cut (hand ++ i ∷ []) items).hand ≡ false)
    → is_complete (cuts_by hand i items b).hand ≡ false
cut_step hand i items true is full less = full
cut_step hand i items false is full less = less is

cut_small : (hand items : List Item) → is_complete hand ≡ false → is_complete (cut hand items).hand ≡ false
unfolding cut
cut_small hand [] small = small
cut_small hand (i ∷ items) small = cut_step hand i items (is_complete (hand ++ i ∷ [])) refl (cut_small [] items none_small) (λ less. cut_small (hand ++ i ∷ []) items less)

-- so its entries have fewer than 4096 bytes
entries_small : (hand : List Item) → is_complete hand ≡ false → length (entries_from 0 0 [] hand) < 4096
unfolding block
entries_small hand small =
    let less : length (block hand) < 4096 = leb-false 4096 (length (block hand)) small in
    let whole : length (block hand) ≡ length (entries_from 0 0 [] hand) + length (flat_map fixed32 (or_zero (restarts_from 0 0 [] hand)) ++ fixed32 (length (or_zero (restarts_from 0 0 [] hand)))) = length-append (entries_from 0 0 [] hand) _ in
    omega (arith, less, whole)

hand_are : (items : List Item) (given : List ℕ) (b : Building) (h : HasAdded items given b) → h.hand ≡ (cut [] items).hand
unfolding cut
hand_are items given b h = ap (λ c. c.hand) (sym (h.cuts [])) ∙ ap (λ is. (cut [] is).hand) (append-nil items)

pub size_is : (es : List Entry) (h : Hand) (n : ℕ) (s : Spans es h) → h.written ≤ 2 ^ 62 + 2 ^ 63 → n ≡ (length (open_bytes es) + length (entries_from 0 0 [] s.added.hand)) % 2 ^ 64 → n ≡ open_size es
size_is es h n s bound is =
    let hand : s.added.hand ≡ (cut [] (items_of es)).hand = hand_are (items_of es) (open_bytes es) h.builder s.added in
    let small : length (entries_from 0 0 [] (cut [] (items_of es)).hand) < 4096 = entries_small (cut [] (items_of es)).hand (cut_small [] (items_of es) none_small) in
    let same : n ≡ open_size es % 2 ^ 64 = is ∙ ap (λ x. (length (open_bytes es) + length (entries_from 0 0 [] x)) % 2 ^ 64) hand in
    let was = s.written in
    let fits : open_size es < 2 ^ 64 = omega (arith, small, was, bound) in
    omega (arith, same, fits)

-- ---- whether the last key is of a user key

same_decides : (a b : List ℕ) → Decides (same_bytes a b) (a ≡ b)
same_decides a b = (λ e. (bytes_eq-Decides a b).0 (sym (is_eq-slice_cmp a b) ∙ e), λ p. is_eq-slice_cmp a b ∙ (bytes_eq-Decides a b).1 p)

length-key : (k : Key) → length (key_bytes k) ≡ length k.user + 8
length-key k =
    let total = length-append k.user (fixed64 (key_number k)) in
    let eight = length-fixed64 (key_number k) in
    omega (arith, total, eight)

user_of : (key user rest : List ℕ) (k : Key) → key ≡ key_bytes k → length key ≡ length user + 8 → key ≡ user ++ rest → k.user ≡ user
user_of key user rest k is long begins =
    let lengths : length k.user ≡ length user = let total : length key ≡ length k.user + 8 = ap length is ∙ length-key k in omega (arith, total, long) in
    sym (take-append_seam k.user (fixed64 (key_number k))) ∙ (λ i. take (lengths i) (sym is i)) ∙ ap (take (length user)) begins ∙ take-append_seam user rest

-- of a key that is as long as one of this user key
pub long_enough : (key user : List ℕ) (k : Key) (r : Bool) → key ≡ key_bytes k → length key ≡ length user + 8 → r ≡ pointwise nat_eq user (take (length user) key) → r ≡ same_bytes k.user user
long_enough key user k r is long value =
    let starts = starts_is Decides-eqb key user r value in
    same_from_decides r (same_bytes k.user user)
    (λ yes. user_of key user (drop (length user) key) k is long (starts.0 yes), λ same. starts.1 (fixed64 (key_number k)) (is ∙ ap (λ u. u ++ fixed64 (key_number k)) same))
    (same_decides k.user user)

-- and of one that is not
pub other_length : (key user : List ℕ) (k : Key) → key ≡ key_bytes k → length key ≢ length user + 8 → nat_eq (length key) (length user + 8) ≡ same_bytes k.user user
other_length key user k is other =
    same_from_decides (nat_eq (length key) (length user + 8)) (same_bytes k.user user)
    (λ yes. absurd (other (eqb-true (length key) (length user + 8) yes)), λ same. eq-eqb (length key) (length user + 8) (ap length is ∙ length-key k ∙ ap (λ u. length u + 8) same))
    (same_decides k.user user)

-- ---- what a table is named as, once it is finished

smallest_stays : (x : Ends) (es : List Entry) → (fold widened x es).smallest ≡ x.smallest
smallest_stays x [] = refl
smallest_stays x (e ∷ es) = smallest_stays (widened x e) es

least_is : (x : Ends) (es : List Entry) → fold min x.least (map (λ e. e.key.seq) es) ≡ (fold widened x es).least
least_is x [] = refl
least_is x (e ∷ es) = least_is (widened x e) es

most_is : (x : Ends) (es : List Entry) → fold max x.most (map (λ e. e.key.seq) es) ≡ (fold widened x es).most
most_is x [] = refl
most_is x (e ∷ es) = most_is (widened x e) es

largest_is : (x : Ends) (e : Entry) (es : List Entry) → x.largest ≡ key_bytes e.key → option_map (λ l. key_bytes l.key) (last_of (e ∷ es)) ≡ Some (fold widened x es).largest
largest_is x e [] is = ap Some (sym is)
largest_is x e (f ∷ es) is = largest_is (widened x f) f es refl

-- the last entry has the largest key
pub largest_of : (es : List Entry) (x : Ends) → ends_of es ≡ Some x → option_map (λ l. key_bytes l.key) (last_of es) ≡ Some x.largest
largest_of [] x are = absurd cc
largest_of (e ∷ es) x are = largest_is (ends_at e) e es refl ∙ ap (λ (y : Ends). Some y.largest) (some_is are)

by_last : (o : Option Entry) (e : Entry) (largest : List ℕ) (r : Bool) → option_map (λ l. key_bytes l.key) o ≡ Some largest → ((k : Key) → largest ≡ key_bytes k → r ≡ same_bytes k.user e.key.user)
    → not r ≡ passes (λ l. not (same_bytes l.key.user e.key.user)) o
by_last None e largest r is h = absurd cc
by_last (Some l) e largest r is h = ap not (h l.key (sym (some_is is)))

-- whether the last entry has another user key, by the largest key
pub other_than_last : (es : List Entry) (e : Entry) (x : Ends) (r : Bool) → ends_of es ≡ Some x → ((k : Key) → x.largest ≡ key_bytes k → r ≡ same_bytes k.user e.key.user) → not r ≡ is_of_other e es
other_than_last es e x r are h = by_last (last_of es) e x.largest r (largest_of es x are) h

-- a table that has these ends
as_named : (es : List Entry) (x : Ends) (named : NewTable) → ends_of es ≡ Some x → named.smallest ≡ x.smallest → named.largest ≡ x.largest → named.least_seq ≡ x.least → named.most_seq ≡ x.most
    → named.oldest_blob ≡ unwrap_or (oldest_in es) 0 → IsAsNamed (record { meta = named; entries = es })
as_named [] x named are first last lower upper oldest = absurd cc
as_named (e ∷ es) x named are first last lower upper oldest = record {
  smallest = ap Some (sym (smallest_stays (ends_at e) es) ∙ ap (λ (y : Ends). y.smallest) (some_is are) ∙ sym first);
  largest = largest_of (e ∷ es) x are ∙ ap Some (sym last);
  least = ap Some (least_is (ends_at e) es ∙ ap (λ (y : Ends). y.least) (some_is are) ∙ sym lower);
  most = ap Some (most_is (ends_at e) es ∙ ap (λ (y : Ends). y.most) (some_is are) ∙ sym upper);
  oldest = sym oldest;
}

abbrev pub no_ends : Ends
no_ends = record { smallest = []; largest = []; least = 0; most = 0 }

copied : (es : List Entry) (o : Option Ends) (copy : Ends) → 1 ≤ length es → o ≡ ends_of es → MatchOption o (copy ≡ no_ends) (λ x. copy ≡ x) → ends_of es ≡ Some copy
copied [] o copy some are same = absurd (omega (arith, some))
copied (e ∷ es) None copy some are same = absurd cc
copied (e ∷ es) (Some x) copy some are same = sym are ∙ ap Some (sym same)

pub finished_closed : (t : OutTable) (h : Hand) (rest : List ℕ) (size oldest : ℕ) (ends : Ends) → IsHandOf t h → ((es : List Entry) → Spans es h → table (items_of es) ≡ open_bytes es ++ rest)
    → size ≡ h.written + length rest → MatchOption h.ends (ends ≡ no_ends) (λ x. ends ≡ x) → oldest ≡ unwrap_or h.oldest 0
    → IsClosedAs (close_table t) (record { level = 0; number = h.number; size = size; smallest = ends.smallest; largest = ends.largest; least_seq = ends.least; most_seq = ends.most; oldest_blob = oldest })
finished_closed t h rest size oldest ends is whole sum same file =
    let spans = is.spans in
    let was = spans.written in
    let total : length (table (items_of t.entries)) ≡ length (open_bytes t.entries) + length rest = ap length (whole t.entries spans) ∙ length-append (open_bytes t.entries) rest in
    record {
      closed = refl;
      number = is.number;
      names = λ some. record {
        level = refl;
        number = sym is.number;
        size = omega (arith, was, total, sum);
        as_named = as_named t.entries ends _ (copied t.entries h.ends ends some spans.ends same) refl refl refl refl (file ∙ ap (λ (o : Option ℕ). unwrap_or o 0) spans.oldest);
      };
    }
