-- The parts of which taking an entry is made are, together, an entry more.
use Rattle.std.proofs.Common.{◌≡◌, ◌⊎◌, inl, inr, ℕ, ◌+◌, ◌<◌, Bool, true, false, List, [], ◌∷◌, ◌++◌, length, refl, sym, ◌∙◌, ap, subst, ⊎_elim, arith, Option, Some, None, append_assoc, append-nil, length-append}
use Rattle.std.specs.Prelude.{◌^◌, ◌&&◌, ◌||◌, not, nat_le, if◌then◌else◌, is_some, IsSome, IsSomeAnd, Result, Ok, Err, IfErr}
use Rattle.std.specs.Result.{IsErrAnd}
use Rattle.std.specs.List.{range_with_len}
use Rattle.std.proofs.lemmas.Bool.{false≢true}
use Rattle.std.proofs.lemmas.List.FromFn.{length-range_with_len}
use Rattle.bl_site.specs.Causes.{Rose}
use Rattle.bl_code.proofs.ReadingLemmas.{blob_index_spelled}
use Rattle.bl_index.specs.declared.index.BlobIndex.{BlobIndex}
use Rattle.bl_names.specs.Names.{IsNumber}
use Rattle.bl_entry.specs.Entries.{IsProper}
use Rattle.bl_out.specs.Causes.{IsSealCause}
use Rattle.bl_site.specs.declared.site.Site.{Ghosts}
use Rattle.bl_entry.specs.declared.key.Entry.{Entry}
use Rattle.bl_entry.specs.Entries.{last_of}
use Rattle.bl_blob.specs.BlobFile.{totals_of}
use Rattle.bl_edit.specs.Options.{Values}
use Rattle.bl_out.specs.Outputs.{Out, OutBlob, OutTable, added, begins_table, blob_size, close_blob, close_table, entry_behind, goes_on, is_of_other, made_for, new_blob, new_table, on_last, open_size, passes, put_entry, put_record, record_of}
use Rattle.bl_out.specs.States.{Draws, IsOrdered, Spans, AreBlobs, AreTables, Becomes, BlobHand, Hand, IsBlobHandOf, IsOut, State}
use Rattle.bl_out.specs.Steps.{Acts, closed_blob, has_blob, index_at, store_value, with_blob_room, with_entry, with_large, with_room, with_table, with_value, with_written, closed_last}
use Rattle.bl_out.specs.Written.{is_large, reference_to}
use Rattle.bl_out.specs.declared.error.JobErr.{JobErr}
use Rattle.bl_out.specs.declared.error.JobErr.TheVariants.{Full}
use Rattle.bl_out.proofs.BecomeLemmas.{ordered_blob, ordered_closed, ordered_later, ordered_table}
use Rattle.bl_out.proofs.HandLemmas.{ends_in_blob, ends_in_table, none_goes_on, last_behind, no_blob, on_last_behind}

-- ---- the blob file in hand

pub has_blob_is : (o : Out) (s : State) → IsOut o s → has_blob o ≡ is_some s.blob
has_blob_is o s is = by s.blob refl
  where
    by : (b : Option BlobHand) → s.blob ≡ b → has_blob o ≡ is_some s.blob
    by None e = no_blob o.blobs s.blobs (subst (AreBlobs o.blobs s.blobs) e is.blobs) ∙ sym (ap is_some e)
    by (Some h) e =
        let r = ends_in_blob o.blobs s.blobs h (subst (AreBlobs o.blobs s.blobs) e is.blobs) in
        ap (λ (bs : List OutBlob). passes (λ b. not b.closed) (last_of bs)) r.is ∙ ap (passes (λ (b : OutBlob). not b.closed)) (last_behind r.front r.last) ∙ ap not r.hand.closed ∙ sym (ap is_some e)

-- the output by whether there is one
with_large_by : Bool → ℕ → Entry → Out → Out
with_large_by held next e o =
    let p = with_blob_room held next o in
    record p { tables = on_last (put_entry (entry_behind (last_of p.blobs) e)) p.tables; blobs = on_last (put_record o.options e) p.blobs }

blobs_as : (options : Values) (e : Entry) (due : Bool) (bs front : List OutBlob) (b : OutBlob) → bs ≡ front ++ b ∷ [] → b.closed ≡ false → due ≡ nat_le options.blob_file_size (blob_size (b.records ++ record_of e ∷ []))
    → (if due then on_last close_blob (on_last (store_value e) bs) else on_last (store_value e) bs) ≡ on_last (put_record options e) bs
blobs_as options e due bs front b is unclosed test = by due test
  where
    stored : on_last (store_value e) bs ≡ front ++ store_value e b ∷ []
    stored = ap (on_last (store_value e)) is ∙ on_last_behind (store_value e) front b

    put : on_last (put_record options e) bs ≡ front ++ put_record options e b ∷ []
    put = ap (on_last (put_record options e)) is ∙ on_last_behind (put_record options e) front b

    by : (d : Bool) → d ≡ nat_le options.blob_file_size (blob_size (b.records ++ record_of e ∷ [])) → (if d then on_last close_blob (on_last (store_value e) bs) else on_last (store_value e) bs) ≡ on_last (put_record options e) bs
    by true t = ap (on_last close_blob) stored ∙ on_last_behind close_blob front (store_value e b)
        ∙ ap (λ (c : Bool). front ++ record { number = b.number; records = b.records ++ record_of e ∷ []; closed = c } ∷ []) t ∙ sym put
    by false t = stored ∙ ap (λ (c : Bool). front ++ record { number = b.number; records = b.records ++ record_of e ∷ []; closed = c } ∷ []) (unclosed ∙ t) ∙ sym put

closing_as : (due : Bool) (q : Out) → (if due then closed_blob q else q) ≡ record q { blobs = if due then on_last close_blob q.blobs else q.blobs }
closing_as true q = refl
closing_as false q = refl

-- the parts behind the first one
large_behind : (p : Out) (options : Values) (e w : Entry) (due : Bool) (front : List OutBlob) (b : OutBlob) (h : BlobHand) → p.blobs ≡ front ++ b ∷ [] → IsBlobHandOf b h → w ≡ reference_to (index_at h e) e
    → due ≡ nat_le options.blob_file_size (blob_size (b.records ++ record_of e ∷ []))
    → record (if due then closed_blob (with_entry w (with_value e p)) else with_entry w (with_value e p)) { given = p.given }
    ≡ record p { tables = on_last (put_entry (entry_behind (last_of p.blobs) e)) p.tables; blobs = on_last (put_record options e) p.blobs }
large_behind p options e w due front b h is hand reference test =
    let q : Out = with_entry w (with_value e p) in
    let last : last_of p.blobs ≡ Some b = ap last_of is ∙ last_behind front b in
    let index : reference_to (index_at h e) e ≡ entry_behind (Some b) e = λ i. reference_to (record { file = sym hand.number i; offset = 30 + (sym hand.totals i).bytes + 32 + length e.key.user; size = length e.value }) e in
    let written : w ≡ entry_behind (last_of p.blobs) e = reference ∙ index ∙ ap (λ (o : Option OutBlob). entry_behind o e) (sym last) in
    let blobs = blobs_as options e due p.blobs front b is hand.closed test in
    ap (λ (r : Out). record r { given = p.given }) (closing_as due q)
    ∙ (λ i. record p { tables = on_last (put_entry (written i)) p.tables; blobs = blobs i })

-- An entry whose value is large: a blob file is in hand at last, of this memory, and closed where it has its size then.
pub large_as : (next : ℕ) (e w : Entry) (held due : Bool) (o : Out) (s t : State) (h k : BlobHand) → has_blob o ≡ held → IsOut (with_blob_room held next o) s → s.blob ≡ Some h → w ≡ reference_to (index_at h e) e
    → IsOut (with_entry w (with_value e (with_blob_room held next o))) t → t.blob ≡ Some k → due ≡ nat_le o.options.blob_file_size (30 + k.totals.bytes)
    → record (if due then closed_blob (with_entry w (with_value e (with_blob_room held next o))) else with_entry w (with_value e (with_blob_room held next o))) { given = (with_large next e o).given } ≡ with_large next e o
unfolding with_large_by
large_as next e w held due o s t h k has is hand reference later hand_later test =
    let p : Out = with_blob_room held next o in
    let r = ends_in_blob p.blobs s.blobs h (subst (AreBlobs p.blobs s.blobs) hand is.blobs) in
    let bs : List OutBlob = on_last (store_value e) p.blobs in
    let stored : bs ≡ r.front ++ store_value e r.last ∷ [] = ap (on_last (store_value e)) r.is ∙ on_last_behind (store_value e) r.front r.last in
    let q = ends_in_blob bs t.blobs k (subst (AreBlobs bs t.blobs) hand_later later.blobs) in
    let same : Some (store_value e r.last) ≡ Some q.last = sym (last_behind r.front (store_value e r.last)) ∙ ap last_of (sym stored ∙ q.is) ∙ last_behind q.front q.last in
    let one : store_value e r.last ≡ q.last = some_one same in
    let total : totals_of (r.last.records ++ record_of e ∷ []) ≡ k.totals = ap (λ (b : OutBlob). totals_of b.records) one ∙ q.hand.totals in
    let size : due ≡ nat_le o.options.blob_file_size (blob_size (r.last.records ++ record_of e ∷ [])) = test ∙ (λ i. nat_le o.options.blob_file_size (30 + (sym total i).bytes)) in
    subst (λ (b : Bool). record (if due then closed_blob (with_entry w (with_value e p)) else with_entry w (with_value e p)) { given = (with_large_by b next e o).given } ≡ with_large_by b next e o) (sym has)
    (large_behind p o.options e w due r.front r.last h r.is r.hand reference size)
  where
    some_one : {x y : OutBlob} → Some x ≡ Some y → x ≡ y
    some_one e = cc

-- ---- an entry more, by the tests

by_tests : ℕ → Out → Entry → Bool → Bool → Bool → Out
by_tests next o e b l held =
    let c : Bool = l && not held in
    let n : ℕ = if b then next + 1 else next in
    let bs : List OutBlob = if c then o.blobs ++ new_blob n ∷ [] else o.blobs in
    record o {
      given = o.given ++ e ∷ [];
      tables = on_last (put_entry (if l then entry_behind (last_of bs) e else e)) (if b then on_last close_table o.tables ++ new_table next ∷ [] else o.tables);
      blobs = if l then on_last (put_record o.options e) bs else o.blobs;
      drawn = o.drawn ++ range_with_len next ((if b then 1 else 0) + (if c then 1 else 0));
    }

is_by_tests : (next : ℕ) (o : Out) (e : Entry) → added next o e ≡ by_tests next o e (begins_table o e) (is_large o.options.min_blob_size e) (has_blob o)
unfolding by_tests
is_by_tests next o e = refl

small_by : (next : ℕ) (o : Out) (e : Entry) (b held : Bool) → record (with_entry e (with_room b next o)) { given = o.given ++ e ∷ [] } ≡ by_tests next o e b false held
unfolding by_tests
small_by next o e true held = refl
small_by next o e false held = λ i. record o { given = o.given ++ e ∷ []; tables = on_last (put_entry e) o.tables; drawn = sym (append-nil o.drawn) i }

large_by : (next : ℕ) (o : Out) (e : Entry) (b held : Bool) → record (with_large_by held (if b then next + 1 else next) e (with_room b next o)) { given = o.given ++ e ∷ [] } ≡ by_tests next o e b true held
unfolding by_tests with_large_by
large_by next o e true true = refl
large_by next o e true false = λ i. record (by_tests next o e true true false) { drawn = append_assoc o.drawn (next ∷ []) ((next + 1) ∷ []) i }
large_by next o e false true = λ i. record (by_tests next o e false true true) { drawn = sym (append-nil o.drawn) i }
large_by next o e false false = refl

-- an entry that is not large
pub small_added : (next : ℕ) (o : Out) (e : Entry) (b : Bool) → begins_table o e ≡ b → is_large o.options.min_blob_size e ≡ false → record (with_entry e (with_room b next o)) { given = (added next o e).given } ≡ added next o e
small_added next o e b begins small = small_by next o e b (has_blob o) ∙ (λ i. by_tests next o e (sym begins i) (sym small i) (has_blob o)) ∙ sym (is_by_tests next o e)

room_keeps : (b : Bool) (next : ℕ) (o : Out) → has_blob (with_room b next o) ≡ has_blob o
room_keeps true next o = refl
room_keeps false next o = refl

pub large_added : (next later : ℕ) (o : Out) (e : Entry) (b : Bool) → begins_table o e ≡ b → is_large o.options.min_blob_size e ≡ true → later ≡ (if b then next + 1 else next)
    → record (with_large later e (with_room b next o)) { given = (added next o e).given } ≡ added next o e
unfolding with_large_by
large_added next later o e b begins big after =
    (λ i. record (with_large_by (room_keeps b next o i) (after i) e (with_room b next o)) { given = o.given ++ e ∷ [] })
    ∙ large_by next o e b (has_blob o) ∙ (λ i. by_tests next o e (sym begins i) (sym big i) (has_blob o)) ∙ sym (is_by_tests next o e)

-- one or the other
pub written_added : (next later : ℕ) (o : Out) (e : Entry) (b l : Bool) → begins_table o e ≡ b → is_large o.options.min_blob_size e ≡ l → later ≡ (if b then next + 1 else next)
    → record (with_written l later e (with_room b next o)) { given = (added next o e).given } ≡ added next o e
written_added next later o e b true begins big after = large_added next later o e b begins big after
written_added next later o e b false begins small after = small_added next o e b begins small

-- ---- how many files are made

made_by : (b l held : Bool) → ℕ
made_by b l held = (if b then 1 else 0) + (if (l && not held) then 1 else 0)

pub made_is : (o : Out) (e : Entry) (b l held : Bool) → begins_table o e ≡ b → is_large o.options.min_blob_size e ≡ l → has_blob o ≡ held → (if b then 1 else 0) + (if (l && not held) then 1 else 0) ≡ made_for o e
unfolding made_by
made_is o e b l held begins large has = λ i. made_by (sym begins i) (sym large i) (sym has i)

-- more files were to be made than numbers were left
pub too_many : (b c : Bool) (next later : ℕ) → later ≡ (if b then next + 1 else next) → later ≡ 10 ^ 15 → c ≡ true → 10 ^ 15 < next + ((if b then 1 else 0) + (if c then 1 else 0))
too_many true c next later is end test = subst (λ (x : Bool). 10 ^ 15 < next + (1 + (if x then 1 else 0))) (sym test) (omega arith)
too_many false c next later is end test = subst (λ (x : Bool). 10 ^ 15 < next + (0 + (if x then 1 else 0))) (sym test) (omega arith)

pub ordered_blob_room : (held : Bool) (next : ℕ) (o : Out) → IsOrdered next o → IsOrdered (next + 1) (with_blob_room held next o)
ordered_blob_room true next o up = ordered_later next o up
ordered_blob_room false next o up = ordered_blob next o up

pub ordered_room : (begins : Bool) (next later : ℕ) (o : Out) → later ≡ (if begins then next + 1 else next) → IsOrdered next o → IsOrdered later (with_room begins next o)
ordered_room true next later o is up = subst (λ (n : ℕ). IsOrdered n (with_table next (closed_last o))) (sym is) (ordered_table next (closed_last o) (ordered_closed next o up))
ordered_room false next later o is up = subst (λ (n : ℕ). IsOrdered n o) (sym is) up

-- ---- whether a table begins

pub begins_without : (o : Out) (e : Entry) (s : State) → IsOut o s → s.table ≡ None → true ≡ begins_table o e
begins_without o e s is none = sym (ap not (none_goes_on o e o.tables s.tables (subst (AreTables o.tables s.tables) none is.tables)))

opposite : (one : Bool) (x : Bool) → not (not false && (one || not x)) ≡ not one && x
opposite true x = refl
opposite false true = refl
opposite false false = refl

pub begins_behind : (o : Out) (e : Entry) (s : State) (h : Hand) (size : ℕ) (other : Bool) → IsOut o s → s.table ≡ Some h → ((es : List Entry) → Spans es h → size ≡ open_size es) → ((es : List Entry) → Spans es h → other ≡ is_of_other e es)
    → not s.one_table && (nat_le s.options.table_size size && other) ≡ begins_table o e
begins_behind o e s h size other is hand sized differs =
    let r = ends_in_table o.tables s.tables h (subst (AreTables o.tables s.tables) hand is.tables) in
    let t = r.last in
    let last : last_of o.tables ≡ Some t = ap last_of r.is ∙ last_behind r.front t in
    let goes : begins_table o e ≡ not (goes_on o e t) = ap (λ (x : Option OutTable). not (passes (goes_on o e) x)) last in
    let same : not (goes_on o e t) ≡ not (not false && (s.one_table || not (nat_le s.options.table_size size && other))) =
    λ i. not (not (r.hand.closed i) && (is.one i || not (nat_le (is.options i).table_size (sym (sized t.entries r.hand.spans) i) && sym (differs t.entries r.hand.spans) i))) in
    sym (goes ∙ same ∙ opposite s.one_table (nat_le s.options.table_size size && other))

-- ---- causes

pub no_full : {T : Type 0} (r : Result T JobErr) (n : ℕ) → IfErr r IsSealCause → r ≡ Err (Full n) → ⊥
no_full (Ok x) n c is = absurd cc
no_full (Err e) n c is = let full : e ≡ Full n = cc in ⊎_elim (λ disk. absurd cc) (λ memory. absurd cc) c

pub not_full : {T : Type 0} (r : Result T JobErr) (e : JobErr) (n : ℕ) → IsErrAnd r (λ y. y ≡ e) → IsSealCause e → r ≡ Err (Full n) → ⊥
not_full (Ok x) e n a c is = absurd a
not_full (Err y) e n a c is = let full : e ≡ Full n = cc in ⊎_elim (λ disk. absurd cc) (λ memory. absurd cc) c

pub some_from : {A : Type 0} (o : Option A) → IsSome o → (x : A) × (o ≡ Some x)
some_from None is = absurd (false≢true is)
some_from (Some x) is = (x, refl)

pub some_and : {A : Type 0} (o : Option A) (P : A → Type 0) → IsSomeAnd o P → (x : A) × (o ≡ Some x)
some_and None P is = absurd is
some_and (Some x) P is = (x, refl)

-- the entry with its index in the place of its value
pub proper_reference : (index : BlobIndex) (e : Entry) → IsProper e → IsNumber index.file → index.offset < 2 ^ 63 → index.size < 2 ^ 63 → IsProper (reference_to index e)
proper_reference index e proper number offset size = record {
  key = record { some = proper.key.some; no_longer = proper.key.no_longer; seq = proper.key.seq };
  value = (index.file, index.offset, index.size, blob_index_spelled index.file index.offset index.size (omega (arith, number.1)) (omega (arith, offset)) (omega (arith, size)), number.0, number.1);
}

-- ---- the whole call

module _ {S : Type 0} (g : Ghosts S) where
  -- the memory says no more that a call has failed
  pub becomes_usable : (next : ℕ) (f : Out → Out) (a b : State) (s t : S) (set : Bool) → Becomes g next f a b s t → Becomes g next f a (record b { failed = set }) s t
  becomes_usable next f a b s t set first = record {
    out = λ o is. let r = first.out o is in record { options = r.options; one = r.one; tables = r.tables; blobs = r.blobs; drawn = r.drawn; sealed = r.sealed };
    holds = first.holds;
    there = first.there;
    certain = first.certain;
  }

-- ---- whether the folder was asked

-- nothing more is drawn than the list of numbers shows
drawn_none : (ns : List ℕ) (next made : ℕ) → ns ≡ ns ++ range_with_len next made → made ≡ 0
drawn_none ns next made e =
    let a = ap length e in
    let b = length-append ns (range_with_len next made) in
    let c = length-range_with_len next made in
    omega (arith, a, b, c)

pub was_asked : {S T : Type 0} (g : Ghosts S) (x : T) (files : ℕ) (a b : State) (next later : ℕ) (s t : S) → a.failed ≡ false → Acts g (Ok x) a b s t → Draws files a b next later → Rose (g.changes s) (g.changes t) ⊎ ((t ≡ s) × (later ≡ next))
was_asked g x files a b next later s t usable acts d = by b.failed refl
  where
    by : (c : Bool) → b.failed ≡ c → Rose (g.changes s) (g.changes t) ⊎ ((t ≡ s) × (later ≡ next))
    by true set = elim (acts.asked set) [
      | inl was ↦ absurd (false≢true (sym usable ∙ was))
      | inr how ↦ elim how [ inl rose ↦ inl rose | inr full ↦ absurd cc ]
    ]
    by false unset =
        let still = acts.still unset in
        let none : d.made ≡ 0 = drawn_none a.drawn next d.made (sym still.1 ∙ d.drawn) in
        let same : later ≡ next = let e = d.next in omega (arith, e, none) in
        inr (still.0, same)
