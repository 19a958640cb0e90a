-- What becomes of an output by each part of a call.
use Rattle.std.proofs.Common.{◌≡◌, ◌≢◌, ℕ, ◌+◌, ◌-◌, ◌≤◌, Bool, true, false, List, [], ◌∷◌, ◌++◌, length, drop, refl, sym, ◌∙◌, ap, subst, arith, Option, Some, None, length-append}
use Rattle.std.specs.Prelude.{IfSome, IsSome, is_some, Contains, if◌then◌else◌, Result, Ok, Err, IfErr, OnErr, OnOk}
use Rattle.std.specs.Result.{IsErrAnd}
use Rattle.std.specs.List.{AllByRecursion}
use Rattle.std.proofs.lemmas.List.{drop-append-le}
use Rattle.std.proofs.lemmas.List.Elements.{Contains-append_left, Contains-push}
use Rattle.std.proofs.lemmas.Bool.{false≢true}
use Rattle.bl_site.specs.Disk.{Disk, File, Name}
use Rattle.bl_site.specs.Calls.{Appends, Creates, Puts}
use Rattle.bl_site.specs.declared.site.Site.{Ghosts}
use Rattle.bl_names.specs.Names.{IsNumber, NamesOne, name_of}
use Rattle.bl_names.specs.declared.name.FileName.TheVariants.{Table, Blob}
use Rattle.bl_entry.specs.declared.key.Entry.{Entry}
use Rattle.bl_blob.specs.BlobFile.{Record, given, blob_file, totals_of}
use Rattle.bl_edit.specs.declared.edit.NewTable.{NewTable}
use Rattle.bl_edit.specs.declared.edit.BlobAddition.{BlobAddition}
use Rattle.bl_table.specs.Spelling.{table}
use Rattle.bl_out.specs.Held.{HoldsOut}
use Rattle.bl_out.specs.Making.{Follows}
use Rattle.bl_out.specs.Outputs.{Out, OutBlob, OutTable, addition_of, blob_bytes, close_blob, close_table, items_of, new_blob, new_table, on_last, open_bytes, put_entry, record_of, table_bytes}
use Rattle.bl_out.specs.Quiet.{IsNoneOf}
use Rattle.bl_out.specs.declared.error.JobErr.{JobErr}
use Rattle.bl_out.specs.declared.error.JobErr.TheVariants.{OutOfMemory}
use Rattle.bl_out.proofs.BecomeLemmas.{not_blob, not_table}
use Rattle.bl_out.specs.States.{names_of, AreBlobs, AreDrawn, AreTables, Becomes, BlobHand, Hand, IsBlobHandOf, IsClosedAs, IsHandOf, IsOut, Spans, State}
use Rattle.bl_out.specs.Steps.{closed_blob, closed_last, store_value, with_blob, with_entry, with_table, with_value}
use Rattle.bl_out.proofs.FileLemmas.{all_both, all_to, still_there}
use Rattle.bl_out.proofs.HandLemmas.{blobs_begin, blobs_close, ends_in_blob, ends_in_table, on_last_behind, tables_begin, tables_close, tables_closed}
use Rattle.bl_out.proofs.StepLemmas.{last_blob_holds, last_table_holds, new_blob_holds, new_table_holds, some_of, there_on}

open_table : (t : OutTable) → t.closed ≡ false → table_bytes t ≡ open_bytes t.entries
open_table t unclosed = ap (λ (c : Bool). if c then table (items_of t.entries) else open_bytes t.entries) unclosed

open_blob : (b : OutBlob) → b.closed ≡ false → blob_bytes b ≡ given b.records
open_blob b unclosed = ap (λ (c : Bool). if c then blob_file b.records else given b.records) unclosed

drop_behind : {A : Type 0} (P : A → Type 0) (n : ℕ) (xs ys : List A) → n ≤ length xs → AllByRecursion P (drop n xs) → AllByRecursion P ys → AllByRecursion P (drop n (xs ++ ys))
drop_behind P n xs ys le p q = subst (AllByRecursion P) (sym (drop-append-le n xs ys le)) (all_both P (drop n xs) ys p q)

put_is : (name : Name) (file : File) (old new : Disk) → Puts name file old new → IsSome (new name)
put_is name file old new puts = ap is_some puts.at

module _ {S : Type 0} (g : Ghosts S) (one : NamesOne) (s : State) (d : AreDrawn s) (next : ℕ) (old new : S) where
  -- no table is in hand
  pub nothing_closes : s.table ≡ None → Becomes g next closed_last s s old old
  nothing_closes none =
      let same : (o : Out) → IsOut o s → closed_last o ≡ o = λ o is. let ts = tables_closed o.tables s.tables (subst (AreTables o.tables s.tables) none is.tables) in λ i. record o { tables = ts i } in
      record {
        out = λ o is. subst (λ (p : Out). IsOut p s) (sym (same o is)) is;
        holds = λ shown o is up held. subst (HoldsOut (g.disk old)) (sym (same o is)) held;
        there = λ shown there. there;
        certain = λ shown sure. sure;
      }

  pub table_closes : (h : Hand) → s.table ≡ Some h → s.sealed ≤ length s.tables → (n : NewTable) → n.number ≡ h.number → ((t : OutTable) → IsHandOf t h → IsClosedAs (close_table t) n)
      → (bytes : List ℕ) → ((es : List Entry) → Spans es h → table (items_of es) ≡ open_bytes es ++ bytes)
      → (g.shows → Appends (name_of (Table h.number)) bytes bytes (g.disk old) (g.disk new)) → (g.shows → g.certain old → g.certain new)
      → Becomes g next closed_last s (record s { tables = s.tables ++ n ∷ []; table = None; failed = true }) old new
  table_closes h hand sealed n number closed bytes rest appended certain = record {
    out = λ o is.
        let e = ends_in_table o.tables s.tables h (subst (AreTables o.tables s.tables) hand is.tables) in
        let last : on_last close_table o.tables ≡ e.front ++ close_table e.last ∷ [] = ap (on_last close_table) e.is ∙ on_last_behind close_table e.front e.last in
        record {
          options = is.options;
          one = is.one;
          tables = subst (λ (ts : List OutTable). AreTables ts (s.tables ++ n ∷ []) None) (sym last) (tables_close e.front s.tables (close_table e.last) n e.closed (closed e.last e.hand));
          blobs = is.blobs;
          drawn = is.drawn;
          sealed = is.sealed;
        };
    holds = λ shown o is up held. last_table_holds one s d (g.disk old) (g.disk new) next o is up h hand sealed close_table (λ t. refl)
        (λ t hand_of. record { bytes = bytes; behind = rest t.entries hand_of.spans ∙ ap (λ (bs : List ℕ). bs ++ bytes) (sym (open_table t hand_of.closed)); appends = appended shown }) held;
    there = λ shown there.
        let on = there_on (g.disk old) (g.disk new) s (still_there (name_of (Table h.number)) _ (g.disk old) (g.disk new) (appended shown).puts) there in
        let last : IsSome (g.disk new (name_of (Table n.number))) = subst (λ (m : ℕ). IsSome (g.disk new (name_of (Table m)))) (sym number) (put_is (name_of (Table h.number)) _ (g.disk old) (g.disk new) (appended shown).puts) in
        let before : s.sealed - length s.tables ≡ 0 = omega arith in
        let after : s.sealed - length (s.tables ++ n ∷ []) ≡ 0 = omega (arith, length-append s.tables (n ∷ [])) in (
          tt,
          on.1,
          drop_behind (λ (t : NewTable). IsSome (g.disk new (name_of (Table t.number)))) s.sealed s.tables (n ∷ []) sealed on.2 (last, tt),
          subst (λ (k : ℕ). AllByRecursion (λ (b : BlobAddition). IsSome (g.disk new (name_of (Blob b.number)))) (drop k s.blobs)) (before ∙ sym after) on.3,
        );
    certain = certain;
  }

  pub entry_goes : (w : Entry) (h k : Hand) → s.table ≡ Some h → s.sealed ≤ length s.tables → ((es : List Entry) → Spans es h → Spans (es ++ w ∷ []) k) → k.number ≡ h.number
      → (g.shows → (es : List Entry) → Spans es h → Follows (name_of (Table h.number)) (open_bytes es) (open_bytes (es ++ w ∷ [])) (g.disk old) (g.disk new))
      → (g.shows → g.certain old → g.certain new) → (g.shows → (name : Name) → IsSome (g.disk old name) → IsSome (g.disk new name)) → (set : Bool)
      → Becomes g next (with_entry w) s (record s { table = Some k; failed = set }) old new
  entry_goes w h k hand sealed more number follows certain still set = record {
    out = λ o is.
        let e = ends_in_table o.tables s.tables h (subst (AreTables o.tables s.tables) hand is.tables) in
        let last : on_last (put_entry w) o.tables ≡ e.front ++ put_entry w e.last ∷ [] = ap (on_last (put_entry w)) e.is ∙ on_last_behind (put_entry w) e.front e.last in
        let hand_is : IsHandOf (put_entry w e.last) k = record { number = e.hand.number ∙ sym number; closed = e.hand.closed; spans = more e.last.entries e.hand.spans } in
        record {
          options = is.options;
          one = is.one;
          tables = subst (λ (ts : List OutTable). AreTables ts s.tables (Some k)) (sym last) (tables_begin e.front s.tables (put_entry w e.last) k e.closed hand_is);
          blobs = is.blobs;
          drawn = is.drawn;
          sealed = is.sealed;
        };
    holds = λ shown o is up held. last_table_holds one s d (g.disk old) (g.disk new) next o is up h hand sealed (put_entry w) (λ t. refl)
        (λ t hand_of.
        let f = follows shown t.entries hand_of.spans in
        record { bytes = f.bytes; behind = open_table (put_entry w t) hand_of.closed ∙ f.behind ∙ ap (λ (bs : List ℕ). bs ++ f.bytes) (sym (open_table t hand_of.closed)); appends = f.appends }) held;
    there = λ shown there.
        let on = there_on (g.disk old) (g.disk new) s (still shown) there in
        let here : IsSome (g.disk new (name_of (Table k.number))) = subst (λ (m : ℕ). IsSome (g.disk new (name_of (Table m)))) (sym number) (some_of s.table h (λ (x : Hand). IsSome (g.disk new (name_of (Table x.number)))) hand on.0) in
        (here, on.1, on.2, on.3);
    certain = certain;
  }

  pub table_starts : (k : Hand) → s.table ≡ None → s.sealed ≤ length s.tables → IsNumber next → k.number ≡ next → Spans [] k → (g.shows → Creates (name_of (Table next)) (g.disk old) (g.disk new)) → (g.shows → g.certain new)
      → Becomes g next (with_table next) s (record s { table = Some k; drawn = s.drawn ++ next ∷ []; failed = true }) old new
  table_starts k none sealed is_next number spans made certain = record {
    out = λ o is. record {
      options = is.options;
      one = is.one;
      tables = tables_begin o.tables s.tables (new_table next) k (subst (AreTables o.tables s.tables) none is.tables) (record { number = sym number; closed = refl; spans = spans });
      blobs = is.blobs;
      drawn = ap (λ (ns : List ℕ). ns ++ next ∷ []) is.drawn;
      sealed = is.sealed;
    };
    holds = λ shown o is up held. new_table_holds one s d (g.disk old) (g.disk new) next o is up is_next sealed (made shown) held;
    there = λ shown there.
        let on = there_on (g.disk old) (g.disk new) s (still_there (name_of (Table next)) _ (g.disk old) (g.disk new) (made shown)) there in
        let here : IsSome (g.disk new (name_of (Table k.number))) = subst (λ (m : ℕ). IsSome (g.disk new (name_of (Table m)))) (sym number) (put_is (name_of (Table next)) _ (g.disk old) (g.disk new) (made shown)) in
        (here, on.1, on.2, on.3);
    certain = λ shown sure. certain shown;
  }

  pub blob_starts : (k : BlobHand) → s.blob ≡ None → s.sealed ≤ length s.tables + length s.blobs → IsNumber next → k ≡ record { number = next; totals = totals_of [] } → (g.shows → Creates (name_of (Blob next)) (g.disk old) (g.disk new)) → (g.shows → g.certain new)
      → Becomes g next (with_blob next) s (record s { blob = Some k; drawn = s.drawn ++ next ∷ []; failed = true }) old new
  blob_starts k none sealed is_next is_k made certain =
      let number : k.number ≡ next = ap (λ (x : BlobHand). x.number) is_k in record {
        out = λ o is. record {
          options = is.options;
          one = is.one;
          tables = is.tables;
          blobs = blobs_begin o.blobs s.blobs (new_blob next) k (subst (AreBlobs o.blobs s.blobs) none is.blobs) (record { number = sym number; closed = refl; totals = sym (ap (λ (x : BlobHand). x.totals) is_k) });
          drawn = ap (λ (ns : List ℕ). ns ++ next ∷ []) is.drawn;
          sealed = is.sealed;
        };
        holds = λ shown o is up held. new_blob_holds one s d (g.disk old) (g.disk new) next o is up is_next sealed none (made shown) held;
        there = λ shown there.
            let on = there_on (g.disk old) (g.disk new) s (still_there (name_of (Blob next)) _ (g.disk old) (g.disk new) (made shown)) there in
            let here : IsSome (g.disk new (name_of (Blob k.number))) = subst (λ (m : ℕ). IsSome (g.disk new (name_of (Blob m)))) (sym number) (put_is (name_of (Blob next)) _ (g.disk old) (g.disk new) (made shown)) in
            (on.0, here, on.2, on.3);
        certain = λ shown sure. certain shown;
      }

  pub value_goes : (e : Entry) (h k : BlobHand) → s.blob ≡ Some h → s.sealed ≤ length s.tables + length s.blobs → k.number ≡ h.number → ((rs : List Record) → h.totals ≡ totals_of rs → k.totals ≡ totals_of (rs ++ record_of e ∷ []))
      → (g.shows → (rs : List Record) → h.totals ≡ totals_of rs → Follows (name_of (Blob h.number)) (given rs) (given (rs ++ record_of e ∷ [])) (g.disk old) (g.disk new))
      → (g.shows → g.certain old → g.certain new) → (g.shows → (name : Name) → IsSome (g.disk old name) → IsSome (g.disk new name))
      → Becomes g next (with_value e) s (record s { blob = Some k; failed = true }) old new
  value_goes e h k hand sealed number more follows certain still = record {
    out = λ o is.
        let r = ends_in_blob o.blobs s.blobs h (subst (AreBlobs o.blobs s.blobs) hand is.blobs) in
        let last : on_last (store_value e) o.blobs ≡ r.front ++ store_value e r.last ∷ [] = ap (on_last (store_value e)) r.is ∙ on_last_behind (store_value e) r.front r.last in
        let hand_is : IsBlobHandOf (store_value e r.last) k = record { number = r.hand.number ∙ sym number; closed = r.hand.closed; totals = sym (more r.last.records (sym r.hand.totals)) } in
        record {
          options = is.options;
          one = is.one;
          tables = is.tables;
          blobs = subst (λ (bs : List OutBlob). AreBlobs bs s.blobs (Some k)) (sym last) (blobs_begin r.front s.blobs (store_value e r.last) k r.closed hand_is);
          drawn = is.drawn;
          sealed = is.sealed;
        };
    holds = λ shown o is up held. last_blob_holds one s d (g.disk old) (g.disk new) next o is up h hand sealed (store_value e) (λ b. refl)
        (λ b hand_of.
        let f = follows shown b.records (sym hand_of.totals) in
        record { bytes = f.bytes; behind = open_blob (store_value e b) hand_of.closed ∙ f.behind ∙ ap (λ (bs : List ℕ). bs ++ f.bytes) (sym (open_blob b hand_of.closed)); appends = f.appends }) held;
    there = λ shown there.
        let on = there_on (g.disk old) (g.disk new) s (still shown) there in
        let here : IsSome (g.disk new (name_of (Blob k.number))) = subst (λ (m : ℕ). IsSome (g.disk new (name_of (Blob m)))) (sym number) (some_of s.blob h (λ (x : BlobHand). IsSome (g.disk new (name_of (Blob x.number)))) hand on.1) in
        (on.0, here, on.2, on.3);
    certain = certain;
  }

  pub blob_closes : (h : BlobHand) → s.blob ≡ Some h → s.sealed ≤ length s.tables + length s.blobs → (n : BlobAddition) → n.number ≡ h.number
      → ((rs : List Record) → h.totals ≡ totals_of rs → n ≡ addition_of (record { number = h.number; records = rs; closed = true }))
      → (bytes : List ℕ) → ((rs : List Record) → h.totals ≡ totals_of rs → blob_file rs ≡ given rs ++ bytes)
      → (g.shows → Appends (name_of (Blob h.number)) bytes bytes (g.disk old) (g.disk new)) → (g.shows → g.certain old → g.certain new)
      → Becomes g next closed_blob s (record s { blobs = s.blobs ++ n ∷ []; blob = None; failed = true }) old new
  blob_closes h hand sealed n number named bytes rest appended certain = record {
    out = λ o is.
        let r = ends_in_blob o.blobs s.blobs h (subst (AreBlobs o.blobs s.blobs) hand is.blobs) in
        let last : on_last close_blob o.blobs ≡ r.front ++ close_blob r.last ∷ [] = ap (on_last close_blob) r.is ∙ on_last_behind close_blob r.front r.last in
        let names : n ≡ addition_of (close_blob r.last) = named r.last.records (sym r.hand.totals) ∙ ap (λ (m : ℕ). addition_of (record { number = m; records = r.last.records; closed = true })) (sym r.hand.number) in
        record {
          options = is.options;
          one = is.one;
          tables = is.tables;
          blobs = subst (λ (bs : List OutBlob). AreBlobs bs (s.blobs ++ n ∷ []) None) (sym last) (blobs_close r.front s.blobs (close_blob r.last) n r.closed (record { closed = refl; names = names }));
          drawn = is.drawn;
          sealed = is.sealed;
        };
    holds = λ shown o is up held. last_blob_holds one s d (g.disk old) (g.disk new) next o is up h hand sealed close_blob (λ b. refl)
        (λ b hand_of. record { bytes = bytes; behind = rest b.records (sym hand_of.totals) ∙ ap (λ (bs : List ℕ). bs ++ bytes) (sym (open_blob b hand_of.closed)); appends = appended shown }) held;
    there = λ shown there.
        let on = there_on (g.disk old) (g.disk new) s (still_there (name_of (Blob h.number)) _ (g.disk old) (g.disk new) (appended shown).puts) there in
        let last : IsSome (g.disk new (name_of (Blob n.number))) = subst (λ (m : ℕ). IsSome (g.disk new (name_of (Blob m)))) (sym number) (put_is (name_of (Blob h.number)) _ (g.disk old) (g.disk new) (appended shown).puts) in
        (on.0, tt, on.2, drop_behind (λ (b : BlobAddition). IsSome (g.disk new (name_of (Blob b.number)))) (s.sealed - length s.tables) s.blobs (n ∷ []) (omega arith) on.3 (last, tt));
    certain = certain;
  }

-- ---- the files in hand are among those drawn

pub table_among : (s : State) (h : Hand) → s.table ≡ Some h → AreDrawn s → (name : Name) → name ≡ name_of (Table h.number) → (other : Name) → IsNoneOf (names_of s.drawn) other → IsNoneOf (name ∷ []) other
table_among s h hand d name same other none = subst (λ (n : Name). IsNoneOf (n ∷ []) other) (sym same) (not_table s.drawn h.number (some_of s.table h (λ (x : Hand). Contains s.drawn x.number) hand d.table) other none)

pub blob_among : (s : State) (h : BlobHand) → s.blob ≡ Some h → AreDrawn s → (name : Name) → name ≡ name_of (Blob h.number) → (other : Name) → IsNoneOf (names_of s.drawn) other → IsNoneOf (name ∷ []) other
blob_among s h hand d name same other none = subst (λ (n : Name). IsNoneOf (n ∷ []) other) (sym same) (not_blob s.drawn h.number (some_of s.blob h (λ (x : BlobHand). Contains s.drawn x.number) hand d.blob) other none)

-- the error of a `?`
pub memory_of : {T : Type 0} (r : Result T JobErr) → IsErrAnd r (λ y. y ≡ OutOfMemory) → IfErr r (λ e. e ≡ OutOfMemory)
memory_of (Ok x) a = absurd a
memory_of (Err e) a = a

-- ---- a number more is drawn

more_among : {A : Type 0} (number : A → ℕ) (ns : List ℕ) (n : ℕ) (xs : List A) → AllByRecursion (λ x. Contains ns (number x)) xs → AllByRecursion (λ x. Contains (ns ++ n ∷ []) (number x)) xs
more_among number ns n xs all = all_to (λ x. Contains ns (number x)) (λ x. Contains (ns ++ n ∷ []) (number x)) xs (λ x is. Contains-append_left ns (n ∷ []) (number x) is) all

more_in : {A : Type 0} (number : A → ℕ) (ns : List ℕ) (n : ℕ) (o : Option A) → IfSome o (λ x. Contains ns (number x)) → IfSome o (λ x. Contains (ns ++ n ∷ []) (number x))
more_in number ns n None is = tt
more_in number ns n (Some x) is = Contains-append_left ns (n ∷ []) (number x) is

pub drawn_more : (s : State) (n : ℕ) (set : Bool) → AreDrawn s → IsNumber n → AreDrawn (record s { drawn = s.drawn ++ n ∷ []; failed = set })
drawn_more s n set d is = record {
  numbers = all_both IsNumber s.drawn (n ∷ []) d.numbers (is, tt);
  table = more_in (λ (h : Hand). h.number) s.drawn n s.table d.table;
  blob = more_in (λ (h : BlobHand). h.number) s.drawn n s.blob d.blob;
  tables = more_among (λ (t : NewTable). t.number) s.drawn n s.tables d.tables;
  blobs = more_among (λ (b : BlobAddition). b.number) s.drawn n s.blobs d.blobs;
}

pub drawn_table : (s : State) (n : ℕ) (set : Bool) (k : Hand) → k.number ≡ n → AreDrawn s → IsNumber n → AreDrawn (record s { table = Some k; drawn = s.drawn ++ n ∷ []; failed = set })
drawn_table s n set k same d is = let more = drawn_more s n set d is in
    record { numbers = more.numbers; table = subst (Contains (s.drawn ++ n ∷ [])) (sym same) (Contains-push s.drawn n); blob = more.blob; tables = more.tables; blobs = more.blobs }

pub drawn_blob : (s : State) (n : ℕ) (set : Bool) (k : BlobHand) → k.number ≡ n → AreDrawn s → IsNumber n → AreDrawn (record s { blob = Some k; drawn = s.drawn ++ n ∷ []; failed = set })
drawn_blob s n set k same d is = let more = drawn_more s n set d is in
    record { numbers = more.numbers; table = more.table; blob = subst (Contains (s.drawn ++ n ∷ [])) (sym same) (Contains-push s.drawn n); tables = more.tables; blobs = more.blobs }

pub new_table_among : (ns : List ℕ) (n : ℕ) (name : Name) → name ≡ name_of (Table n) → (other : Name) → IsNoneOf (names_of (ns ++ n ∷ [])) other → IsNoneOf (name ∷ []) other
new_table_among ns n name same other none = subst (λ (m : Name). IsNoneOf (m ∷ []) other) (sym same) (not_table (ns ++ n ∷ []) n (Contains-push ns n) other none)

pub new_blob_among : (ns : List ℕ) (n : ℕ) (name : Name) → name ≡ name_of (Blob n) → (other : Name) → IsNoneOf (names_of (ns ++ n ∷ [])) other → IsNoneOf (name ∷ []) other
new_blob_among ns n name same other none = subst (λ (m : Name). IsNoneOf (m ∷ []) other) (sym same) (not_blob (ns ++ n ∷ []) n (Contains-push ns n) other none)

pub not_set : {P : Type 0} → true ≡ false → P
not_set e = absurd (false≢true (sym e))

pub none_is : {A : Type 0} (o : Option A) → is_some o ≡ false → o ≡ None
none_is None e = refl
none_is (Some x) e = not_set e

-- where no file is sealed
pub none_sealed : (n m : ℕ) → n ≡ 0 → n ≤ m
none_sealed n m e = omega arith

-- the file that was written is there, and so is what was there
pub still_with : (name : Name) (old new : Disk) → ((other : Name) → IsNoneOf (name ∷ []) other → new other ≡ old other) → IsSome (new name) → (other : Name) → IsSome (old other) → IsSome (new other)
still_with name old new others here other was = by (new other) refl
  where
    by : (o : Option File) → new other ≡ o → IsSome (new other)
    by (Some x) e = ap is_some e
    by None e =
        let differs : name ≢ other = λ (same : name ≡ other). let gone : new name ≡ None = ap new same ∙ e in false≢true (sym (ap is_some gone) ∙ here) in
        let gone : old other ≡ None = sym (others other (differs, tt)) ∙ e in
        absurd (false≢true (sym (ap is_some gone) ∙ was))

-- the same blob file is in hand
pub drawn_same_blob : (s : State) (h k : BlobHand) (set : Bool) → s.blob ≡ Some h → k.number ≡ h.number → AreDrawn s → AreDrawn (record s { blob = Some k; failed = set })
drawn_same_blob s h k set hand same d = record { numbers = d.numbers; table = d.table; blob = subst (Contains s.drawn) (sym same) (some_of s.blob h (λ (x : BlobHand). Contains s.drawn x.number) hand d.blob); tables = d.tables; blobs = d.blobs }

-- what holds at Ok
pub on_ok : {T E P : Type 0} (r : Result T E) → ((x : T) → r ≡ Ok x → P) → OnOk r P
on_ok (Ok x) f = f x refl
on_ok (Err e) f = tt

pub at_ok : {T E P : Type 0} (r : Result T E) (x : T) → r ≡ Ok x → OnOk r P → P
at_ok (Ok y) x e p = p
at_ok (Err y) x e p = absurd cc

pub on_err : {T E P : Type 0} (r : Result T E) → P → OnErr r P
on_err (Ok x) p = tt
on_err (Err e) p = p
