use Rattle.std.proofs.Common.{◌≡◌, ◌∙◌, sym, subst}
use Rattle.bl_edit.specs.declared.edit.Edit.{Edit}
use Rattle.bl_build.specs.Listing.{Ascends, Listing, blob_number, table_rank}
use Rattle.bl_build.specs.Versions.{IsVersion, addition_numbers, after, blob_numbers, first_over, first_overlap, first_twice, first_unknown, first_unknown_blob, still_needed, table_numbers, with_blobs, with_garbage, with_links, with_tables, without}
use Rattle.bl_build.proofs.Placing.{ascends_at}
use Rattle.bl_build.proofs.Stepping.{IsNew, after_is_version, files_ascend, garbage_ascends, left_ascends, step_1, step_2, step_3, step_4, step_5, step_6, step_7}
use Rattle.bl_build.proofs.step.advance.Goals as goal

pub returns-in-Some : goal.returns-in-Some
returns-in-Some c =
    let base : Listing = c.args.base in
    let edit : Edit = c.args.edit.now in
    let tables : c.as_slice-tables.result.now ≡ base.tables = c.as_slice-tables.ensures.value ∙ c.into_parts-base_tables.ensures.tables in
    let deleted : c.as_slice-deleted.result.now ≡ edit.deleted = c.as_slice-deleted.ensures in
    let known : first_unknown base.tables edit.deleted ≡ c.first_unknown.result = sym (c.first_unknown.ensures ∙ (λ i. first_unknown (tables i) (deleted i))) in
    step_1 base edit c.in-Some.number (known ∙ c.in-Some.is)

pub returns-in-Some-2 : goal.returns-in-Some-2
returns-in-Some-2 c =
    let base : Listing = c.args.base in
    let edit : Edit = c.args.edit.now in
    let tables : c.as_slice-tables.result.now ≡ base.tables = c.as_slice-tables.ensures.value ∙ c.into_parts-base_tables.ensures.tables in
    let deleted : c.as_slice-deleted.result.now ≡ edit.deleted = c.as_slice-deleted.ensures in
    let known : first_unknown base.tables edit.deleted ≡ c.first_unknown.result = sym (c.first_unknown.ensures ∙ (λ i. first_unknown (tables i) (deleted i))) in
    let left : c.in_ok-left.left.items ≡ without edit.deleted base.tables = c.in_ok-left.ensures ∙ (λ i. without (deleted i) (c.into_parts-base_tables.ensures.tables i)) in
    let added : c.as_slice-added.result.now ≡ edit.added = c.as_slice-added.ensures in
    let twice : first_twice (table_numbers (without edit.deleted base.tables)) (table_numbers edit.added) ≡ c.in_ok-number.field-0 =
    sym (c.in_ok-number.ensures ∙ (λ i. first_twice (table_numbers ((c.deref.ensures.value ∙ left) i)) (table_numbers (added i)))) in
    step_2 base edit c.in-Some-2.number (known ∙ c.in_default.is) (twice ∙ c.in-Some-2.is)

pub returns-in-Some-3 : goal.returns-in-Some-3
returns-in-Some-3 c =
    let base : Listing = c.args.base in
    let edit : Edit = c.args.edit.now in
    let tables : c.as_slice-tables.result.now ≡ base.tables = c.as_slice-tables.ensures.value ∙ c.into_parts-base_tables.ensures.tables in
    let deleted : c.as_slice-deleted.result.now ≡ edit.deleted = c.as_slice-deleted.ensures in
    let known : first_unknown base.tables edit.deleted ≡ c.first_unknown.result = sym (c.first_unknown.ensures ∙ (λ i. first_unknown (tables i) (deleted i))) in
    let left : c.in_ok-left.left.items ≡ without edit.deleted base.tables = c.in_ok-left.ensures ∙ (λ i. without (deleted i) (c.into_parts-base_tables.ensures.tables i)) in
    let added : c.as_slice-added.result.now ≡ edit.added = c.as_slice-added.ensures in
    let twice : first_twice (table_numbers (without edit.deleted base.tables)) (table_numbers edit.added) ≡ c.in_ok-number.field-0 =
    sym (c.in_ok-number.ensures ∙ (λ i. first_twice (table_numbers ((c.deref.ensures.value ∙ left) i)) (table_numbers (added i)))) in
    let files : first_twice (blob_numbers base.blobs) (addition_numbers edit.blobs) ≡ c.in_ok-number-2.field-0 =
    sym (c.in_ok-number-2.ensures ∙ (λ i. first_twice (blob_numbers ((c.as_slice-old_blobs.ensures.value ∙ c.into_parts-base_tables.ensures.blobs) i)) (addition_numbers (c.as_slice-new_blobs.ensures i)))) in
    step_3 base edit c.in-Some-3.number (known ∙ c.in_default.is) (twice ∙ c.in_default-2.is) (files ∙ c.in-Some-3.is)

pub returns-in-Some-4 : goal.returns-in-Some-4
returns-in-Some-4 c =
    let base : Listing = c.args.base in
    let edit : Edit = c.args.edit.now in
    let tables : c.as_slice-tables.result.now ≡ base.tables = c.as_slice-tables.ensures.value ∙ c.into_parts-base_tables.ensures.tables in
    let deleted : c.as_slice-deleted.result.now ≡ edit.deleted = c.as_slice-deleted.ensures in
    let known : first_unknown base.tables edit.deleted ≡ c.first_unknown.result = sym (c.first_unknown.ensures ∙ (λ i. first_unknown (tables i) (deleted i))) in
    let left : c.in_ok-left.left.items ≡ without edit.deleted base.tables = c.in_ok-left.ensures ∙ (λ i. without (deleted i) (c.into_parts-base_tables.ensures.tables i)) in
    let added : c.as_slice-added.result.now ≡ edit.added = c.as_slice-added.ensures in
    let twice : first_twice (table_numbers (without edit.deleted base.tables)) (table_numbers edit.added) ≡ c.in_ok-number.field-0 =
    sym (c.in_ok-number.ensures ∙ (λ i. first_twice (table_numbers ((c.deref.ensures.value ∙ left) i)) (table_numbers (added i)))) in
    let files : first_twice (blob_numbers base.blobs) (addition_numbers edit.blobs) ≡ c.in_ok-number-2.field-0 =
    sym (c.in_ok-number-2.ensures ∙ (λ i. first_twice (blob_numbers ((c.as_slice-old_blobs.ensures.value ∙ c.into_parts-base_tables.ensures.blobs) i)) (addition_numbers (c.as_slice-new_blobs.ensures i)))) in
    let new : IsNew base edit = record { known = known ∙ c.in_default.is; tables = twice ∙ c.in_default-2.is; blobs = files ∙ c.in_default-3.is } in
    let overlap : first_overlap (without edit.deleted base.tables) edit.added ≡ c.in_ok-number-3.field-0 =
    sym (c.in_ok-number-3.ensures ∙ (λ i. first_overlap ((c.deref-2.ensures.value ∙ left) i) (added i))) in
    step_4 base edit c.in-Some-4.number new (overlap ∙ c.in-Some-4.is)

pub with_blobs-requires : goal.with_blobs-requires
with_blobs-requires c =
    ascends_at blob_number c.as_slice-old_blobs.result.now (subst (Ascends blob_number) (sym (c.as_slice-old_blobs.ensures.value ∙ c.into_parts-base_tables.ensures.blobs)) c.into_parts-base_tables.ensures.version.blobs_ascend)

pub first_unknown_blob-requires : goal.first_unknown_blob-requires
first_unknown_blob-requires c =
    let base : Listing = c.args.base in
    let edit : Edit = c.args.edit.now in
    let tables : c.as_slice-tables.result.now ≡ base.tables = c.as_slice-tables.ensures.value ∙ c.into_parts-base_tables.ensures.tables in
    let deleted : c.as_slice-deleted.result.now ≡ edit.deleted = c.as_slice-deleted.ensures in
    let known : first_unknown base.tables edit.deleted ≡ c.first_unknown.result = sym (c.first_unknown.ensures ∙ (λ i. first_unknown (tables i) (deleted i))) in
    let left : c.in_ok-left.left.items ≡ without edit.deleted base.tables = c.in_ok-left.ensures ∙ (λ i. without (deleted i) (c.into_parts-base_tables.ensures.tables i)) in
    let added : c.as_slice-added.result.now ≡ edit.added = c.as_slice-added.ensures in
    let twice : first_twice (table_numbers (without edit.deleted base.tables)) (table_numbers edit.added) ≡ c.in_ok-number.field-0 =
    sym (c.in_ok-number.ensures ∙ (λ i. first_twice (table_numbers ((c.deref.ensures.value ∙ left) i)) (table_numbers (added i)))) in
    let files : first_twice (blob_numbers base.blobs) (addition_numbers edit.blobs) ≡ c.in_ok-number-2.field-0 =
    sym (c.in_ok-number-2.ensures ∙ (λ i. first_twice (blob_numbers ((c.as_slice-old_blobs.ensures.value ∙ c.into_parts-base_tables.ensures.blobs) i)) (addition_numbers (c.as_slice-new_blobs.ensures i)))) in
    let new : IsNew base edit = record { known = known ∙ c.in_default.is; tables = twice ∙ c.in_default-2.is; blobs = files ∙ c.in_default-3.is } in
    let blobs : c.in_ok-blobs.blobs.items ≡ with_blobs edit.blobs base.blobs = c.in_ok-blobs.ensures ∙ (λ i. with_blobs (c.as_slice-new_blobs.ensures i) ((c.as_slice-old_blobs.ensures.value ∙ c.into_parts-base_tables.ensures.blobs) i)) in
    subst (Ascends blob_number) (sym (c.deref-3.ensures.value ∙ blobs)) (files_ascend base edit c.into_parts-base_tables.ensures.version c.requires new)

pub returns-in-Some-first_unknown_blob : goal.returns-in-Some-first_unknown_blob
returns-in-Some-first_unknown_blob c =
    let base : Listing = c.args.base in
    let edit : Edit = c.args.edit.now in
    let tables : c.as_slice-tables.result.now ≡ base.tables = c.as_slice-tables.ensures.value ∙ c.into_parts-base_tables.ensures.tables in
    let deleted : c.as_slice-deleted.result.now ≡ edit.deleted = c.as_slice-deleted.ensures in
    let known : first_unknown base.tables edit.deleted ≡ c.first_unknown.result = sym (c.first_unknown.ensures ∙ (λ i. first_unknown (tables i) (deleted i))) in
    let left : c.in_ok-left.left.items ≡ without edit.deleted base.tables = c.in_ok-left.ensures ∙ (λ i. without (deleted i) (c.into_parts-base_tables.ensures.tables i)) in
    let added : c.as_slice-added.result.now ≡ edit.added = c.as_slice-added.ensures in
    let twice : first_twice (table_numbers (without edit.deleted base.tables)) (table_numbers edit.added) ≡ c.in_ok-number.field-0 =
    sym (c.in_ok-number.ensures ∙ (λ i. first_twice (table_numbers ((c.deref.ensures.value ∙ left) i)) (table_numbers (added i)))) in
    let files : first_twice (blob_numbers base.blobs) (addition_numbers edit.blobs) ≡ c.in_ok-number-2.field-0 =
    sym (c.in_ok-number-2.ensures ∙ (λ i. first_twice (blob_numbers ((c.as_slice-old_blobs.ensures.value ∙ c.into_parts-base_tables.ensures.blobs) i)) (addition_numbers (c.as_slice-new_blobs.ensures i)))) in
    let new : IsNew base edit = record { known = known ∙ c.in_default.is; tables = twice ∙ c.in_default-2.is; blobs = files ∙ c.in_default-3.is } in
    let overlap : first_overlap (without edit.deleted base.tables) edit.added ≡ c.in_ok-number-3.field-0 =
    sym (c.in_ok-number-3.ensures ∙ (λ i. first_overlap ((c.deref-2.ensures.value ∙ left) i) (added i))) in
    let blobs : c.in_ok-blobs.blobs.items ≡ with_blobs edit.blobs base.blobs = c.in_ok-blobs.ensures ∙ (λ i. with_blobs (c.as_slice-new_blobs.ensures i) ((c.as_slice-old_blobs.ensures.value ∙ c.into_parts-base_tables.ensures.blobs) i)) in
    let unknown : first_unknown_blob (with_blobs edit.blobs base.blobs) edit.garbage ≡ c.first_unknown_blob.result =
    sym (c.first_unknown_blob.ensures ∙ (λ i. first_unknown_blob ((c.deref-3.ensures.value ∙ blobs) i) (c.as_slice-garbage.ensures i))) in
    step_5 base edit c.in-Some-first_unknown_blob.number new (overlap ∙ c.in_default-4.is) (unknown ∙ c.in-Some-first_unknown_blob.is)

pub add_garbage-requires : goal.add_garbage-requires
add_garbage-requires c =
    let base : Listing = c.args.base in
    let edit : Edit = c.args.edit.now in
    let tables : c.as_slice-tables.result.now ≡ base.tables = c.as_slice-tables.ensures.value ∙ c.into_parts-base_tables.ensures.tables in
    let deleted : c.as_slice-deleted.result.now ≡ edit.deleted = c.as_slice-deleted.ensures in
    let known : first_unknown base.tables edit.deleted ≡ c.first_unknown.result = sym (c.first_unknown.ensures ∙ (λ i. first_unknown (tables i) (deleted i))) in
    let left : c.in_ok-left.left.items ≡ without edit.deleted base.tables = c.in_ok-left.ensures ∙ (λ i. without (deleted i) (c.into_parts-base_tables.ensures.tables i)) in
    let added : c.as_slice-added.result.now ≡ edit.added = c.as_slice-added.ensures in
    let twice : first_twice (table_numbers (without edit.deleted base.tables)) (table_numbers edit.added) ≡ c.in_ok-number.field-0 =
    sym (c.in_ok-number.ensures ∙ (λ i. first_twice (table_numbers ((c.deref.ensures.value ∙ left) i)) (table_numbers (added i)))) in
    let files : first_twice (blob_numbers base.blobs) (addition_numbers edit.blobs) ≡ c.in_ok-number-2.field-0 =
    sym (c.in_ok-number-2.ensures ∙ (λ i. first_twice (blob_numbers ((c.as_slice-old_blobs.ensures.value ∙ c.into_parts-base_tables.ensures.blobs) i)) (addition_numbers (c.as_slice-new_blobs.ensures i)))) in
    let new : IsNew base edit = record { known = known ∙ c.in_default.is; tables = twice ∙ c.in_default-2.is; blobs = files ∙ c.in_default-3.is } in
    let blobs : c.in_ok-blobs.blobs.items ≡ with_blobs edit.blobs base.blobs = c.in_ok-blobs.ensures ∙ (λ i. with_blobs (c.as_slice-new_blobs.ensures i) ((c.as_slice-old_blobs.ensures.value ∙ c.into_parts-base_tables.ensures.blobs) i)) in
    subst (Ascends blob_number) (sym blobs) (files_ascend base edit c.into_parts-base_tables.ensures.version c.requires new)

pub returns-in-Some-add_garbage : goal.returns-in-Some-add_garbage
returns-in-Some-add_garbage c =
    let base : Listing = c.args.base in
    let edit : Edit = c.args.edit.now in
    let tables : c.as_slice-tables.result.now ≡ base.tables = c.as_slice-tables.ensures.value ∙ c.into_parts-base_tables.ensures.tables in
    let deleted : c.as_slice-deleted.result.now ≡ edit.deleted = c.as_slice-deleted.ensures in
    let known : first_unknown base.tables edit.deleted ≡ c.first_unknown.result = sym (c.first_unknown.ensures ∙ (λ i. first_unknown (tables i) (deleted i))) in
    let left : c.in_ok-left.left.items ≡ without edit.deleted base.tables = c.in_ok-left.ensures ∙ (λ i. without (deleted i) (c.into_parts-base_tables.ensures.tables i)) in
    let added : c.as_slice-added.result.now ≡ edit.added = c.as_slice-added.ensures in
    let twice : first_twice (table_numbers (without edit.deleted base.tables)) (table_numbers edit.added) ≡ c.in_ok-number.field-0 =
    sym (c.in_ok-number.ensures ∙ (λ i. first_twice (table_numbers ((c.deref.ensures.value ∙ left) i)) (table_numbers (added i)))) in
    let files : first_twice (blob_numbers base.blobs) (addition_numbers edit.blobs) ≡ c.in_ok-number-2.field-0 =
    sym (c.in_ok-number-2.ensures ∙ (λ i. first_twice (blob_numbers ((c.as_slice-old_blobs.ensures.value ∙ c.into_parts-base_tables.ensures.blobs) i)) (addition_numbers (c.as_slice-new_blobs.ensures i)))) in
    let new : IsNew base edit = record { known = known ∙ c.in_default.is; tables = twice ∙ c.in_default-2.is; blobs = files ∙ c.in_default-3.is } in
    let overlap : first_overlap (without edit.deleted base.tables) edit.added ≡ c.in_ok-number-3.field-0 =
    sym (c.in_ok-number-3.ensures ∙ (λ i. first_overlap ((c.deref-2.ensures.value ∙ left) i) (added i))) in
    let blobs : c.in_ok-blobs.blobs.items ≡ with_blobs edit.blobs base.blobs = c.in_ok-blobs.ensures ∙ (λ i. with_blobs (c.as_slice-new_blobs.ensures i) ((c.as_slice-old_blobs.ensures.value ∙ c.into_parts-base_tables.ensures.blobs) i)) in
    let unknown : first_unknown_blob (with_blobs edit.blobs base.blobs) edit.garbage ≡ c.first_unknown_blob.result =
    sym (c.first_unknown_blob.ensures ∙ (λ i. first_unknown_blob ((c.deref-3.ensures.value ∙ blobs) i) (c.as_slice-garbage.ensures i))) in
    let over : first_over (with_blobs edit.blobs base.blobs) edit.garbage ≡ c.add_garbage.result =
    sym (c.add_garbage.ensures.found ∙ (λ i. first_over (blobs i) (c.as_slice-garbage.ensures i))) in
    step_6 base edit c.in-Some-add_garbage.number new (overlap ∙ c.in_default-4.is) (unknown ∙ c.in_default-first_unknown_blob.is) (over ∙ c.in-Some-add_garbage.is)

pub with_tables-requires : goal.with_tables-requires
with_tables-requires c =
    let base : Listing = c.args.base in
    let edit : Edit = c.args.edit.now in
    let tables : c.as_slice-tables.result.now ≡ base.tables = c.as_slice-tables.ensures.value ∙ c.into_parts-base_tables.ensures.tables in
    let deleted : c.as_slice-deleted.result.now ≡ edit.deleted = c.as_slice-deleted.ensures in
    let left : c.in_ok-left.left.items ≡ without edit.deleted base.tables = c.in_ok-left.ensures ∙ (λ i. without (deleted i) (c.into_parts-base_tables.ensures.tables i)) in
    ascends_at table_rank c.in_ok-left.left.items (subst (Ascends table_rank) (sym left) (left_ascends base edit c.into_parts-base_tables.ensures.version))

pub needed-requires : goal.needed-requires
needed-requires c =
    let base : Listing = c.args.base in
    let edit : Edit = c.args.edit.now in
    let tables : c.as_slice-tables.result.now ≡ base.tables = c.as_slice-tables.ensures.value ∙ c.into_parts-base_tables.ensures.tables in
    let deleted : c.as_slice-deleted.result.now ≡ edit.deleted = c.as_slice-deleted.ensures in
    let known : first_unknown base.tables edit.deleted ≡ c.first_unknown.result = sym (c.first_unknown.ensures ∙ (λ i. first_unknown (tables i) (deleted i))) in
    let left : c.in_ok-left.left.items ≡ without edit.deleted base.tables = c.in_ok-left.ensures ∙ (λ i. without (deleted i) (c.into_parts-base_tables.ensures.tables i)) in
    let added : c.as_slice-added.result.now ≡ edit.added = c.as_slice-added.ensures in
    let twice : first_twice (table_numbers (without edit.deleted base.tables)) (table_numbers edit.added) ≡ c.in_ok-number.field-0 =
    sym (c.in_ok-number.ensures ∙ (λ i. first_twice (table_numbers ((c.deref.ensures.value ∙ left) i)) (table_numbers (added i)))) in
    let files : first_twice (blob_numbers base.blobs) (addition_numbers edit.blobs) ≡ c.in_ok-number-2.field-0 =
    sym (c.in_ok-number-2.ensures ∙ (λ i. first_twice (blob_numbers ((c.as_slice-old_blobs.ensures.value ∙ c.into_parts-base_tables.ensures.blobs) i)) (addition_numbers (c.as_slice-new_blobs.ensures i)))) in
    let new : IsNew base edit = record { known = known ∙ c.in_default.is; tables = twice ∙ c.in_default-2.is; blobs = files ∙ c.in_default-3.is } in
    let blobs : c.in_ok-blobs.blobs.items ≡ with_blobs edit.blobs base.blobs = c.in_ok-blobs.ensures ∙ (λ i. with_blobs (c.as_slice-new_blobs.ensures i) ((c.as_slice-old_blobs.ensures.value ∙ c.into_parts-base_tables.ensures.blobs) i)) in
    let garbage : c.add_garbage.new.blobs.items ≡ with_garbage edit.garbage (with_blobs edit.blobs base.blobs) = c.in_default-add_garbage.ensures.added ∙ (λ i. with_garbage (c.as_slice-garbage.ensures i) (blobs i)) in
    subst (Ascends blob_number) (sym (c.deref-5.ensures.value ∙ garbage)) (garbage_ascends edit.garbage (with_blobs edit.blobs base.blobs) (files_ascend base edit c.into_parts-base_tables.ensures.version c.requires new))

pub from_parts-requires : goal.from_parts-requires
from_parts-requires c =
    let base : Listing = c.args.base in
    let edit : Edit = c.args.edit.now in
    let tables : c.as_slice-tables.result.now ≡ base.tables = c.as_slice-tables.ensures.value ∙ c.into_parts-base_tables.ensures.tables in
    let deleted : c.as_slice-deleted.result.now ≡ edit.deleted = c.as_slice-deleted.ensures in
    let known : first_unknown base.tables edit.deleted ≡ c.first_unknown.result = sym (c.first_unknown.ensures ∙ (λ i. first_unknown (tables i) (deleted i))) in
    let left : c.in_ok-left.left.items ≡ without edit.deleted base.tables = c.in_ok-left.ensures ∙ (λ i. without (deleted i) (c.into_parts-base_tables.ensures.tables i)) in
    let added : c.as_slice-added.result.now ≡ edit.added = c.as_slice-added.ensures in
    let twice : first_twice (table_numbers (without edit.deleted base.tables)) (table_numbers edit.added) ≡ c.in_ok-number.field-0 =
    sym (c.in_ok-number.ensures ∙ (λ i. first_twice (table_numbers ((c.deref.ensures.value ∙ left) i)) (table_numbers (added i)))) in
    let files : first_twice (blob_numbers base.blobs) (addition_numbers edit.blobs) ≡ c.in_ok-number-2.field-0 =
    sym (c.in_ok-number-2.ensures ∙ (λ i. first_twice (blob_numbers ((c.as_slice-old_blobs.ensures.value ∙ c.into_parts-base_tables.ensures.blobs) i)) (addition_numbers (c.as_slice-new_blobs.ensures i)))) in
    let new : IsNew base edit = record { known = known ∙ c.in_default.is; tables = twice ∙ c.in_default-2.is; blobs = files ∙ c.in_default-3.is } in
    let blobs : c.in_ok-blobs.blobs.items ≡ with_blobs edit.blobs base.blobs = c.in_ok-blobs.ensures ∙ (λ i. with_blobs (c.as_slice-new_blobs.ensures i) ((c.as_slice-old_blobs.ensures.value ∙ c.into_parts-base_tables.ensures.blobs) i)) in
    let overlap : first_overlap (without edit.deleted base.tables) edit.added ≡ c.in_ok-number-3.field-0 =
    sym (c.in_ok-number-3.ensures ∙ (λ i. first_overlap ((c.deref-2.ensures.value ∙ left) i) (added i))) in
    let over : first_over (with_blobs edit.blobs base.blobs) edit.garbage ≡ c.add_garbage.result =
    sym (c.add_garbage.ensures.found ∙ (λ i. first_over (blobs i) (c.as_slice-garbage.ensures i))) in
    let made : c.in_ok-tables.tables.items ≡ with_tables edit.added (without edit.deleted base.tables) = c.in_ok-tables.ensures ∙ (λ i. with_tables (added i) (left i)) in
    let garbage : c.add_garbage.new.blobs.items ≡ with_garbage edit.garbage (with_blobs edit.blobs base.blobs) = c.in_default-add_garbage.ensures.added ∙ (λ i. with_garbage (c.as_slice-garbage.ensures i) (blobs i)) in
    let kept : c.in_ok-blobs-2.blobs.items ≡ (after base edit).blobs =
    c.in_ok-blobs-2.ensures ∙ (λ i. still_needed (with_links ((c.deref-4.ensures.value ∙ made) i) ((c.deref-5.ensures.value ∙ garbage) i))) in
    let whole : ◌≡◌ {A = Listing} (record { tables = c.in_ok-tables.tables.items; blobs = c.in_ok-blobs-2.blobs.items }) (after base edit) = λ i. record { tables = made i; blobs = kept i } in
    subst IsVersion (sym whole) (after_is_version base edit c.into_parts-base_tables.ensures.version c.requires new (overlap ∙ c.in_default-4.is) (over ∙ c.in_default-add_garbage.is))

pub returns : goal.returns
returns c =
    let base : Listing = c.args.base in
    let edit : Edit = c.args.edit.now in
    let tables : c.as_slice-tables.result.now ≡ base.tables = c.as_slice-tables.ensures.value ∙ c.into_parts-base_tables.ensures.tables in
    let deleted : c.as_slice-deleted.result.now ≡ edit.deleted = c.as_slice-deleted.ensures in
    let known : first_unknown base.tables edit.deleted ≡ c.first_unknown.result = sym (c.first_unknown.ensures ∙ (λ i. first_unknown (tables i) (deleted i))) in
    let left : c.in_ok-left.left.items ≡ without edit.deleted base.tables = c.in_ok-left.ensures ∙ (λ i. without (deleted i) (c.into_parts-base_tables.ensures.tables i)) in
    let added : c.as_slice-added.result.now ≡ edit.added = c.as_slice-added.ensures in
    let twice : first_twice (table_numbers (without edit.deleted base.tables)) (table_numbers edit.added) ≡ c.in_ok-number.field-0 =
    sym (c.in_ok-number.ensures ∙ (λ i. first_twice (table_numbers ((c.deref.ensures.value ∙ left) i)) (table_numbers (added i)))) in
    let files : first_twice (blob_numbers base.blobs) (addition_numbers edit.blobs) ≡ c.in_ok-number-2.field-0 =
    sym (c.in_ok-number-2.ensures ∙ (λ i. first_twice (blob_numbers ((c.as_slice-old_blobs.ensures.value ∙ c.into_parts-base_tables.ensures.blobs) i)) (addition_numbers (c.as_slice-new_blobs.ensures i)))) in
    let new : IsNew base edit = record { known = known ∙ c.in_default.is; tables = twice ∙ c.in_default-2.is; blobs = files ∙ c.in_default-3.is } in
    let overlap : first_overlap (without edit.deleted base.tables) edit.added ≡ c.in_ok-number-3.field-0 =
    sym (c.in_ok-number-3.ensures ∙ (λ i. first_overlap ((c.deref-2.ensures.value ∙ left) i) (added i))) in
    let blobs : c.in_ok-blobs.blobs.items ≡ with_blobs edit.blobs base.blobs = c.in_ok-blobs.ensures ∙ (λ i. with_blobs (c.as_slice-new_blobs.ensures i) ((c.as_slice-old_blobs.ensures.value ∙ c.into_parts-base_tables.ensures.blobs) i)) in
    let unknown : first_unknown_blob (with_blobs edit.blobs base.blobs) edit.garbage ≡ c.first_unknown_blob.result =
    sym (c.first_unknown_blob.ensures ∙ (λ i. first_unknown_blob ((c.deref-3.ensures.value ∙ blobs) i) (c.as_slice-garbage.ensures i))) in
    let over : first_over (with_blobs edit.blobs base.blobs) edit.garbage ≡ c.add_garbage.result =
    sym (c.add_garbage.ensures.found ∙ (λ i. first_over (blobs i) (c.as_slice-garbage.ensures i))) in
    let made : c.in_ok-tables.tables.items ≡ with_tables edit.added (without edit.deleted base.tables) = c.in_ok-tables.ensures ∙ (λ i. with_tables (added i) (left i)) in
    let garbage : c.add_garbage.new.blobs.items ≡ with_garbage edit.garbage (with_blobs edit.blobs base.blobs) = c.in_default-add_garbage.ensures.added ∙ (λ i. with_garbage (c.as_slice-garbage.ensures i) (blobs i)) in
    let kept : c.in_ok-blobs-2.blobs.items ≡ (after base edit).blobs =
    c.in_ok-blobs-2.ensures ∙ (λ i. still_needed (with_links ((c.deref-4.ensures.value ∙ made) i) ((c.deref-5.ensures.value ∙ garbage) i))) in
    let whole : ◌≡◌ {A = Listing} (record { tables = c.in_ok-tables.tables.items; blobs = c.in_ok-blobs-2.blobs.items }) (after base edit) = λ i. record { tables = made i; blobs = kept i } in
    rw (c.from_parts.ensures, whole) (step_7 base edit new (overlap ∙ c.in_default-4.is) (unknown ∙ c.in_default-first_unknown_blob.is) (over ∙ c.in_default-add_garbage.is))
