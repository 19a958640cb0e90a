-- The entries that batches write tell what the batches tell.
use Rattle.std.proofs.Common.{◌≡◌, ℕ, ◌+◌, List, [], ◌∷◌, ◌++◌, map, refl, sym, ◌∙◌, ap}
use Rattle.std.specs.Prelude.{Option, Some, None}
use Rattle.std.proofs.lemmas.List.{map-append}
use Rattle.std.proofs.lemmas.List.Concat.{flat_map-cons}
use Rattle.bl_entry.specs.Batches.{Batch}
use Rattle.bl_entry.specs.Latest.{revision_of}
use Rattle.bl_entry.specs.Revisions.{revisions_from}
use Rattle.bl_entry.specs.Written.{EntriesAreRevisions, entries_from, entries_of, entry}
use Rattle.bl_entry.specs.declared.batch.Operation.{Operation}

revision_is : (user : List ℕ) (seq : ℕ) (put : Option (List ℕ)) → revision_of (entry user seq put) ≡ record { key = user; seq = seq; put = put }
revision_is user seq None = refl
revision_is user seq (Some value) = refl

revisions_of_operations : (seq : ℕ) (os : List Operation) → map revision_of (entries_from seq os) ≡ revisions_from seq os
unfolding entries_from revisions_from
revisions_of_operations seq [] = refl
revisions_of_operations seq (o ∷ more) = λ i. revision_is o.key seq o.put i ∷ revisions_of_operations (seq + 1) more i

pub entries_are_revisions : EntriesAreRevisions
entries_are_revisions [] = refl
entries_are_revisions (b ∷ more) =
    ap (map revision_of) (flat_map-cons (λ (c : Batch). entries_from c.first c.operations) b more)
    ∙ map-append revision_of (entries_from b.first b.operations) (entries_of more)
    ∙ (λ i. revisions_of_operations b.first b.operations i ++ entries_are_revisions more i)
    ∙ sym (flat_map-cons (λ (c : Batch). revisions_from c.first c.operations) b more)
