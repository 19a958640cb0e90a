-- What is written of entries: their revisions, references, bounds and places.
use Rattle.std.proofs.Common.{◌≡◌, ℕ, ◌<◌, ◌≤◌, ◌^◌, true, false, List, ◌∷◌, length, refl, sym, ◌∙◌, ap, subst, arith, Option, Some, None}
use Rattle.std.specs.Prelude.{map, option_and_then, IfSome, Ok, if◌then◌else◌}
use Rattle.std.specs.List.{AllByRecursion, cons_option}
use Rattle.std.specs.Option.{option_map}
use Rattle.std.specs.Result.{result_ok}
use Rattle.std.proofs.lemmas.Bool.{leb-true, leb-false}
use Rattle.bl_code.specs.BlobIndex.{IsBlobIndex, blob_index}
use Rattle.bl_index.specs.declared.index.BlobIndex.{BlobIndex}
use Rattle.bl_index.specs.Index.{read_index}
use Rattle.bl_entry.specs.declared.key.Kind.{Kind}
use Rattle.bl_entry.specs.declared.key.Kind.TheVariants.{Deletion, Value, BlobRef}
use Rattle.bl_entry.specs.declared.key.Entry.{Entry}
use Rattle.bl_entry.specs.Entries.{IsProper, is_deletion}
use Rattle.bl_entry.specs.Revisions.{Revision}
use Rattle.bl_entry.specs.Items.{each_of}
use Rattle.bl_entry.specs.Latest.{revision_of}
use Rattle.bl_out.proofs.AmongLemmas.{each_more}
use Rattle.bl_out.specs.Finding.{◌then◌}
use Rattle.bl_out.specs.References.{Reference, index_in, reference_of, references}
use Rattle.bl_out.specs.Tables.{IsPlaced}
use Rattle.bl_out.specs.Values.{Records, put_of, resolved, revision_of as revision_in}
use Rattle.bl_out.specs.Written.{IsPlainKind, Stored, Writes, inline, is_large, is_large_in, large, nothing, reference_to}

-- an index that is spelled is read again
abbrev pub IndexIsRead : Type 0
IndexIsRead = (index : BlobIndex) → index.file < 2 ^ 64 → index.offset < 2 ^ 64 → index.size < 2 ^ 64 → read_index (blob_index index.file index.offset index.size) ≡ Ok index

-- a record in bounds, whose index is read again
pub record IsStored (s : Stored) : Type 0 where
  pub reads : read_index (blob_index s.index.file s.index.offset s.index.size) ≡ Ok s.index
  pub spells : IsBlobIndex (blob_index s.index.file s.index.offset s.index.size) s.index.file s.index.offset s.index.size
  pub some : 1 ≤ s.index.file
  pub number : s.index.file < 10 ^ 15
  pub size : s.index.size ≡ length s.value

abbrev pub Resolves : Records → Stored → Type 0
Resolves held s = resolved held s.key s.index ≡ Some s.value

abbrev pub IsPlain : Entry → Type 0
IsPlain e = IsPlainKind e.key.kind

abbrev pub reference_for : Stored → Reference
reference_for s = record { key = s.key; index = s.index }

-- ---- one entry

abbrev made : Entry → Option (List ℕ) → Revision
made e put = record { key = e.key.user; seq = e.key.seq; put = put }

plain_put : (held : Records) (e : Entry) (k : Kind) → IsPlainKind k → option_and_then (λ put. Some (made e put)) (put_of held k e) ≡ Some (made e (if is_deletion k then None else Some e.value))
plain_put held e Deletion p = refl
plain_put held e Value p = refl
plain_put held e BlobRef p = absurd p

large_put : (threshold : ℕ) (e : Entry) (k : Kind) → is_large_in threshold k e.value ≡ true → made e (Some e.value) ≡ made e (if is_deletion k then None else Some e.value)
large_put threshold e Deletion h = cc
large_put threshold e Value h = refl
large_put threshold e BlobRef h = cc

plain_index : (k : Kind) (value : List ℕ) → IsPlainKind k → index_in k value ≡ None
plain_index Deletion value p = refl
plain_index Value value p = refl
plain_index BlobRef value p = absurd p

large_size : (threshold : ℕ) (k : Kind) (value : List ℕ) → is_large_in threshold k value ≡ true → threshold ≤ length value
large_size threshold Deletion value h = cc
large_size threshold Value value h = leb-true threshold (length value) h
large_size threshold BlobRef value h = cc

small_placed : (threshold : ℕ) (k : Kind) (e : Entry) → is_large_in threshold k e.value ≡ false → IsPlainKind k → IsPlaced threshold k e
small_placed threshold Deletion e h p = tt
small_placed threshold Value e h p = leb-false threshold (length e.value) h
small_placed threshold BlobRef e h p = absurd p

module _ (threshold : ℕ) (held : Records) (e : Entry) (s : Stored) (is : IsStored s) where
  put_at : resolved held s.key s.index ≡ Some s.value → s.key ≡ e.key.user → s.value ≡ e.value → is_large threshold e ≡ true
      → revision_in held (reference_to s.index e) ≡ Some (revision_of e)
  put_at resolves key value big =
      ap (λ o. option_and_then (λ put. Some (made e put)) (option_and_then (λ index. option_and_then (λ v. Some (Some v)) (resolved held e.key.user index)) (result_ok o))) is.reads
      ∙ ap (λ o. option_and_then (λ put. Some (made e put)) (option_and_then (λ v. Some (Some v)) o)) (ap (λ k. resolved held k s.index) (sym key) ∙ resolves)
      ∙ ap (λ v. Some (made e (Some v))) value
      ∙ ap Some (large_put threshold e e.key.kind big)

  reference_at : s.key ≡ e.key.user → reference_of (reference_to s.index e) ≡ Some (reference_for s)
  reference_at key =
      ap (λ o. option_map (λ index. record { key = e.key.user; index = index }) (result_ok o)) is.reads
      ∙ ap (λ k. Some (record { key = k; index = s.index })) (sym key)

  proper_at : IsProper e → IsProper (reference_to s.index e)
  proper_at p = record {
    key = record { some = p.key.some; no_longer = p.key.no_longer; seq = p.key.seq };
    value = (s.index.file, s.index.offset, s.index.size, is.spells, is.some, is.number);
  }

  placed_at : s.value ≡ e.value → is_large threshold e ≡ true → IsPlaced threshold BlobRef (reference_to s.index e)
  placed_at value big =
      let least : threshold ≤ length e.value = large_size threshold e.key.kind e.value big in
      let size : s.index.size ≡ length s.value = is.size in
      let same : length s.value ≡ length e.value = ap length value in
      let le : threshold ≤ s.index.size = omega arith in
      subst (λ o. IfSome (result_ok o) (λ index. threshold ≤ index.size)) (sym is.reads) le

-- ---- all of them

pub written_revisions : (threshold : ℕ) (held : Records) (ss : List Stored) (es os : List Entry) → Writes threshold ss es os → AllByRecursion IsPlain es → AllByRecursion IsStored ss → AllByRecursion (Resolves held) ss
    → each_of (revision_in held) os ≡ Some (map revision_of es)
written_revisions threshold held ss es os nothing plain stored resolves = refl
written_revisions threshold held ss es os (inline {e = e} {es = ds} {os = qs} small more) plain stored resolves =
    each_more (revision_in held) e qs (revision_of e) (map revision_of ds) (plain_put held e e.key.kind plain.0) (written_revisions threshold held ss ds qs more plain.1 stored resolves)
written_revisions threshold held ss es os (large {e = e} {s = s} {records = rs} {es = ds} {os = qs} big key value more) plain stored resolves =
    each_more (revision_in held) (reference_to s.index e) qs (revision_of e) (map revision_of ds) (put_at threshold held e s stored.0 resolves.0 key value big)
    (written_revisions threshold held rs ds qs more plain.1 stored.1 resolves.1)

pub written_references : (threshold : ℕ) (ss : List Stored) (es os : List Entry) → Writes threshold ss es os → AllByRecursion IsPlain es → AllByRecursion IsStored ss → references os ≡ map reference_for ss
written_references threshold ss es os nothing plain stored = refl
written_references threshold ss es os (inline {e = e} {es = ds} {os = qs} small more) plain stored =
    ap (λ o. cons_option (option_map (λ index. record { key = e.key.user; index = index }) o) (references qs)) (plain_index e.key.kind e.value plain.0) ∙ written_references threshold ss ds qs more plain.1 stored
written_references threshold ss es os (large {e = e} {s = s} {records = rs} {es = ds} {os = qs} big key value more) plain stored =
    ap (λ o. cons_option o (references qs)) (reference_at threshold (λ n. None) e s stored.0 key) ∙ ap (λ more. reference_for s ∷ more) (written_references threshold rs ds qs more plain.1 stored.1)

pub written_proper : (threshold : ℕ) (ss : List Stored) (es os : List Entry) → Writes threshold ss es os → AllByRecursion IsProper es → AllByRecursion IsStored ss → AllByRecursion IsProper os
written_proper threshold ss es os nothing proper stored = tt
written_proper threshold ss es os (inline {e = e} {es = ds} {os = qs} small more) proper stored = (proper.0, written_proper threshold ss ds qs more proper.1 stored)
written_proper threshold ss es os (large {e = e} {s = s} {records = rs} {es = ds} {os = qs} big key value more) proper stored =
    (proper_at threshold (λ n. None) e s stored.0 proper.0, written_proper threshold rs ds qs more proper.1 stored.1)

pub written_placed : (threshold : ℕ) (ss : List Stored) (es os : List Entry) → Writes threshold ss es os → AllByRecursion IsPlain es → AllByRecursion IsStored ss → AllByRecursion (λ o. IsPlaced threshold o.key.kind o) os
written_placed threshold ss es os nothing plain stored = tt
written_placed threshold ss es os (inline {e = e} {es = ds} {os = qs} small more) plain stored = (small_placed threshold e.key.kind e small plain.0, written_placed threshold ss ds qs more plain.1 stored)
written_placed threshold ss es os (large {e = e} {s = s} {records = rs} {es = ds} {os = qs} big key value more) plain stored =
    (placed_at threshold (λ n. None) e s stored.0 value big, written_placed threshold rs ds qs more plain.1 stored.1)

-- what holds of the sequences of the entries holds of those that are written
pub written_seqs : (P : ℕ → Type 0) (threshold : ℕ) (ss : List Stored) (es os : List Entry) → Writes threshold ss es os → AllByRecursion (λ e. P e.key.seq) es → AllByRecursion (λ o. P o.key.seq) os
written_seqs P threshold ss es os nothing h = tt
written_seqs P threshold ss es os (inline {e = e} {es = ds} {os = qs} small more) h = (h.0, written_seqs P threshold ss ds qs more h.1)
written_seqs P threshold ss es os (large {e = e} {s = s} {records = rs} {es = ds} {os = qs} big key value more) h = (h.0, written_seqs P threshold rs ds qs more h.1)
