-- How many numbers a flush draws: one for each file that it makes.
use Rattle.std.proofs.Common.{◌≡◌, ℕ, suc, ◌+◌, Bool, true, false, cond, List, [], ◌∷◌, ◌++◌, length, map, refl, ◌∙◌, ap, arith, length-append}
use Rattle.std.specs.Prelude.{◌&&◌, not}
use Rattle.std.proofs.lemmas.List.{length-map}
use Rattle.bl_edit.specs.declared.edit.Edit.{Edit}
use Rattle.bl_edit.specs.declared.edit.NewTable.{NewTable}
use Rattle.bl_edit.specs.Options.{Values}
use Rattle.bl_entry.specs.declared.key.Entry.{Entry}
use Rattle.bl_entry.specs.Entries.{last_of}
use Rattle.bl_entry.specs.Kept.{kept}
use Rattle.bl_flush.specs.Jobs.{all_added, flushed, next_behind, next_of}
use Rattle.bl_out.specs.Outputs.{AreNamed, IsEditOf, Out, OutTable, added, addition_of, begins_table, blob_number, begun, close_blob, close_table, made_for, new_blob, new_table, on_last, passes, put_entry, put_record, written_for}
use Rattle.bl_out.specs.Written.{is_large}
use Rattle.bl_open.specs.Flushing.{DrawsFor}

-- ---- files of an output

abbrev count : Out → ℕ
count o = length o.tables + length o.blobs

same_length : {A : Type 0} (f : A → A) (xs : List A) → length (on_last f xs) ≡ length xs
same_length f [] = refl
same_length f (x ∷ []) = refl
same_length f (x ∷ y ∷ ys) = ap suc (same_length f (y ∷ ys))

-- one more, where a file begins
one_more : {A : Type 0} (f g : A → A) (begins : Bool) (xs : List A) (x : A) → length (on_last f (cond begins (on_last g xs ++ x ∷ []) xs)) ≡ length xs + cond begins 1 0
one_more f g true xs x = same_length f (on_last g xs ++ x ∷ []) ∙ length-append (on_last g xs) (x ∷ []) ∙ ap (λ n. n + 1) (same_length g xs)
one_more f g false xs x = let none : length xs ≡ length xs + 0 = omega arith in same_length f xs ∙ none

one_more_large : {A : Type 0} (f : A → A) (large begins : Bool) (xs : List A) (x : A)
    → length (cond large (on_last f (cond (large && begins) (xs ++ x ∷ []) xs)) xs) ≡ length xs + cond (large && begins) 1 0
one_more_large f true true xs x = same_length f (xs ++ x ∷ []) ∙ length-append xs (x ∷ [])
one_more_large f true false xs x = let none : length xs ≡ length xs + 0 = omega arith in same_length f xs ∙ none
one_more_large f false begins xs x = omega arith

added_count : (next : ℕ) (o : Out) (e : Entry) → count (added next o e) ≡ count o + made_for o e
added_count next o e =
    let tables = one_more (put_entry (written_for next o e)) close_table (begins_table o e) o.tables (new_table next) in
    let blobs = one_more_large (put_record o.options e) (is_large o.options.min_blob_size e) (not (passes (λ b. not b.closed) (last_of o.blobs))) o.blobs (new_blob (blob_number next o e)) in
    omega (arith, tables, blobs)

all_count : (next : ℕ) (o : Out) (es : List Entry) → next + count (all_added next o es) ≡ next_behind next o es + count o
all_count next o [] = refl
all_count next o (e ∷ es) =
    let rest = all_count (next + made_for o e) (added next o e) es in
    let one = added_count next o e in
    omega (arith, rest, one)

named_count : (ts : List OutTable) (ns : List NewTable) → AreNamed ts ns → length ns ≡ length ts
named_count [] [] h = refl
named_count [] (n ∷ ns) h = absurd h
named_count (t ∷ ts) [] h = absurd h
named_count (t ∷ ts) (n ∷ ns) h = ap suc (named_count ts ns h.1)

pub draws_for : (options : Values) (memory : List Entry) (from next : ℕ) (e : Edit) → IsEditOf (flushed options [] from memory) e → next ≡ next_of options [] from memory → DrawsFor options memory from next e
draws_for options memory from next e is wanted =
    let o : Out = all_added from (begun options true) (kept [] false memory) in
    let all = all_count from (begun options true) (kept [] false memory) in
    let tables : length e.added ≡ length o.tables = ap (λ (x : Edit). length x.added) is.is ∙ named_count (map close_table o.tables) is.tables is.named ∙ length-map o.tables close_table in
    let blobs : length e.blobs ≡ length o.blobs = ap (λ (x : Edit). length x.blobs) is.is ∙ length-map (map close_blob o.blobs) addition_of ∙ length-map o.blobs close_blob in
    record { files = omega (arith, all, tables, blobs, wanted); wanted = wanted }
