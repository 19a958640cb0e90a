use Rattle.std.proofs.Common.{◌≡◌, ℕ, Bool, true, false, get_or, refl, sym, ◌∙◌, arith, rules}
use Rattle.std.specs.Prelude.{◌==◌, ◌||◌}
use Rattle.std.specs.List.{list_any}
use Rattle.std.specs.Ordering.{nat_cmp}
use Rattle.std.specs.BTreeSet.{contains}
use Rattle.std.proofs.lemmas.Grind.{common_steps}
use Rattle.bl_edit.specs.declared.edit.BlobAddition.{BlobAddition}
use Rattle.bl_build.specs.Listing.{blob_number}
use Rattle.bl_build.specs.Versions.{blob_numbers}
use Rattle.bl_build.proofs.Searching.{any_mapped, not_false, not_true, seeks_end, seeks_here, seeks_more, seeks_start}
use Rattle.bl_build.proofs.checks.first_blob_twice.Goals as goal

abbrev number_of : BlobAddition → ℕ
number_of a = a.number

abbrev none : BlobAddition
none = record { number = 0; count = 0; bytes = 0 }

or_false : (a b : Bool) → b ≡ false → (a || b) ≡ a
or_false true b e = refl
or_false false b e = e

or_left : (a b : Bool) → a ≡ true → (a || b) ≡ true
or_left true b e = refl
or_left false b e = absurd cc

or_right : (a b : Bool) → b ≡ true → (a || b) ≡ true
or_right true b e = refl
or_right false b e = e

or_neither : (a b : Bool) → a ≡ false → b ≡ false → (a || b) ≡ false
or_neither true b e h = absurd cc
or_neither false b e h = h

swapped : (a n b more : Bool) → more ≡ (n || b) → (a || more) ≡ (n || (a || b))
swapped true true b more e = refl
swapped true false b more e = refl
swapped false n b more e = e

pub loop-blob-init : goal.loop-blob-init
loop-blob-init c =
    let blobs = c.args.blobs.now in
    seeks_start number_of (blob_numbers blobs) c.args.added.now (λ q. list_any (λ b. b.number == q) blobs || contains nat_cmp c.new-before.result q)
    (λ q member.
    let empty : contains nat_cmp c.new-before.result q ≡ false = search rules in
    or_false (list_any (λ b. b.number == q) blobs) (contains nat_cmp c.new-before.result q) empty ∙ sym (any_mapped blob_number blobs q))

pub returns-then-has_blob : goal.returns-then-has_blob
returns-then-has_blob c =
    let item : BlobAddition = get_or c.args.added.now c.loop-blob.blob-index none in
    let blobs = c.args.blobs.now in
    sym (seeks_here number_of (blob_numbers blobs) c.args.added.now c.loop-blob.blob-index (λ q. list_any (λ b. b.number == q) blobs || contains nat_cmp c.loop-blob.before q) item none c.loop-blob.invariant
    c.loop-blob-test.true refl (or_left (list_any (λ b. b.number == item.number) blobs) (contains nat_cmp c.loop-blob.before item.number) (sym c.has_blob.ensures ∙ c.if-has_blob.true)))

pub returns-then-not-branch : goal.returns-then-not-branch
returns-then-not-branch c =
    let item : BlobAddition = get_or c.args.added.now c.loop-blob.blob-index none in
    let blobs = c.args.blobs.now in
    let there : contains nat_cmp c.loop-blob.before item.number ≡ true = not_false (contains nat_cmp c.loop-blob.before item.number) (sym c.in_ok-insert.ensures.added ∙ c.if-not-branch.true) in
    sym (seeks_here number_of (blob_numbers blobs) c.args.added.now c.loop-blob.blob-index (λ q. list_any (λ b. b.number == q) blobs || contains nat_cmp c.loop-blob.before q) item none c.loop-blob.invariant
    c.loop-blob-test.true refl (or_right (list_any (λ b. b.number == item.number) blobs) (contains nat_cmp c.loop-blob.before item.number) there))

pub loop-blob-preserved : goal.loop-blob-preserved
loop-blob-preserved c =
    let item : BlobAddition = get_or c.args.added.now c.loop-blob.blob-index none in
    let blobs = c.args.blobs.now in
    let other : contains nat_cmp c.loop-blob.before item.number ≡ false = not_true (contains nat_cmp c.loop-blob.before item.number) (sym c.in_ok-insert.ensures.added ∙ c.if-not-branch.false) in
    let more : (q : ℕ) → contains nat_cmp c.insert.new.self q ≡ ((item.number == q) || contains nat_cmp c.loop-blob.before q) = λ q. grind (arith, common_steps, c.in_ok-insert.ensures.updates.0 q) in
    seeks_more number_of (blob_numbers blobs) c.args.added.now c.loop-blob.blob-index (λ q. list_any (λ b. b.number == q) blobs || contains nat_cmp c.loop-blob.before q)
    (λ q. list_any (λ b. b.number == q) blobs || contains nat_cmp c.insert.new.self q) item none c.loop-blob.invariant c.loop-blob-test.true refl
    (or_neither (list_any (λ b. b.number == item.number) blobs) (contains nat_cmp c.loop-blob.before item.number) (sym c.has_blob.ensures ∙ c.if-has_blob.false) other)
    (λ q. swapped (list_any (λ b. b.number == q) blobs) (item.number == q) (contains nat_cmp c.loop-blob.before q) (contains nat_cmp c.insert.new.self q) (more q))

pub returns : goal.returns
returns c =
    let blobs = c.args.blobs.now in
    sym (seeks_end number_of (blob_numbers blobs) c.args.added.now c.loop-blob.blob-index (λ q. list_any (λ b. b.number == q) blobs || contains nat_cmp c.loop-blob.before q) c.loop-blob.invariant (omega (arith, c.loop-blob-test.false)))
