-- Numbers go on.
use Rattle.std.proofs.Common.{◌≡◌, ℕ, ◌+◌, ◌<◌, ◌≤◌, true, false, List, [], ◌∷◌, arith, Result, Ok}
use Rattle.bl_code.proofs.Basics.{all_from}
use Rattle.bl_edit.specs.declared.edit.NewTable.{NewTable}
use Rattle.bl_build.specs.declared.meta.BlobMeta.{BlobMeta}
use Rattle.bl_build.specs.Listing.{Listing}
use Rattle.bl_edit.specs.Options.{Values}
use Rattle.bl_entry.specs.Kept.{kept}
use Rattle.bl_entry.specs.declared.key.Entry.{Entry}
use Rattle.bl_out.specs.Outputs.{Out, added, begun, made_for}
use Rattle.bl_flush.specs.Jobs.{next_behind, next_of}
use Rattle.bl_folder.specs.Flushes.{IsBelow}
use Rattle.bl_store.specs.Calls.{next_emptied, next_flushed}
use Rattle.bl_store.specs.Stored.{Stored}

pub below_later : (from next : ℕ) (v : Listing) → from ≤ next → IsBelow from v → IsBelow next v
below_later from next v le b = record {
  tables = all_from (λ (t : NewTable). t.number < from) (λ t. t.number < next) v.tables (λ t less. omega (arith, le, less)) b.tables;
  blobs = all_from (λ (x : BlobMeta). x.number < from) (λ x. x.number < next) v.blobs (λ x less. omega (arith, le, less)) b.blobs;
}

pub below_next : (number : ℕ) (v : Listing) → IsBelow number v → IsBelow (number + 1) v
below_next number v b = below_later number (number + 1) v (omega arith) b

abbrev pub as_ok : {E : Type 0} → Listing → Result Listing E
as_ok v = Ok v

pub same_ok : {E : Type 0} (a b : Listing) → Ok a ≡ as_ok {E = E} b → a ≡ b
same_ok a b e = cc e

-- ---- a flush draws upwards

next_up : (next : ℕ) (o : Out) (es : List Entry) → next ≤ next_behind next o es
next_up next o [] = omega arith
next_up next o (e ∷ es) = let more = next_up (next + made_for o e) (added next o e) es in omega (arith, more)

pub flush_up : (options : Values) (next : ℕ) (memory : List Entry) → next ≤ next_of options [] next memory
flush_up options next memory = next_up next (begun options true) (kept [] false memory)

-- so where none is left to switch the memory in use, a flush of it takes more
pub switch_within : (store : Stored) → next_flushed store ≤ next_emptied store
switch_within store = by store.memory
  where
    by : (memory : List Entry) → next_flushed store ≤ next_emptied (record store { memory = memory })
    by [] = omega arith
    by (e ∷ es) = let more = flush_up store.standing.options (next_flushed store + 1) (e ∷ es) in omega (arith, more)
