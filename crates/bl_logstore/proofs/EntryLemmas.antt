-- Entries of batches, written to a map.
use Rattle.std.proofs.Common.{◌≡◌, ℕ, ◌+◌, List, [], ◌∷◌, ◌++◌, Option, Some, None, refl, ◌∙◌, ap}
use Rattle.std.proofs.lemmas.List.Concat.{flat_map-cons}
use Rattle.bl_entry.specs.Batches.{Batch}
use Rattle.bl_entry.specs.Revisions.{Map, after_put, after_operations}
use Rattle.bl_entry.specs.declared.batch.Operation.{Operation}
use Rattle.bl_entry.specs.declared.key.Entry.{Entry}
use Rattle.bl_entry.specs.Written.{entry, entries_from, entries_of}
use Rattle.bl_logstore.specs.Logs.{after_batches}
use Rattle.bl_logstore.specs.Replaying.{after_kind, after_entries}

pub entries_more : (xs ys : List Entry) (m : Map) → after_entries (xs ++ ys) m ≡ after_entries ys (after_entries xs m)
unfolding after_entries
entries_more [] ys m = refl
entries_more (x ∷ xs) ys m = entries_more xs ys (after_kind x.key.kind x.key.user x.value m)

pub one_entry : (e : Entry) (m : Map) → after_entries (e ∷ []) m ≡ after_kind e.key.kind e.key.user e.value m
unfolding after_entries
one_entry e m = refl

does_put : (key : List ℕ) (seq : ℕ) (put : Option (List ℕ)) (m : Map) → after_kind (entry key seq put).key.kind (entry key seq put).key.user (entry key seq put).value m ≡ after_put key put m
does_put key seq None m = refl
does_put key seq (Some value) m = refl

from_operations : (seq : ℕ) (operations : List Operation) (m : Map) → after_entries (entries_from seq operations) m ≡ after_operations operations m
unfolding after_entries entries_from
from_operations seq [] m = refl
from_operations seq (o ∷ more) m = ap (λ n. after_entries (entries_from (seq + 1) more) n) (does_put o.key seq o.put m) ∙ from_operations (seq + 1) more (after_put o.key o.put m)

pub from_batches : (batches : List Batch) (m : Map) → after_entries (entries_of batches) m ≡ after_batches batches m
unfolding after_entries after_batches
from_batches [] m = refl
from_batches (b ∷ batches) m =
    ap (λ es. after_entries es m) (flat_map-cons (λ (c : Batch). entries_from c.first c.operations) b batches)
    ∙ entries_more (entries_from b.first b.operations) (entries_of batches) m
    ∙ ap (after_entries (entries_of batches)) (from_operations b.first b.operations m)
    ∙ from_batches batches (after_operations b.operations m)
