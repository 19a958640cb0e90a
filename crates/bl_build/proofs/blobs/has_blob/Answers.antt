use Rattle.std.proofs.Common.{◌≡◌, ◌<◌, ℕ, false, List, length, get_or, sym, ◌∙◌}
use Rattle.std.specs.Prelude.{◌==◌, Option, Some, None, IfSome, IfNone}
use Rattle.std.specs.List.{list_any}
use Rattle.std.specs.Option.{is_some}
use Rattle.bl_build.specs.declared.meta.BlobMeta.{BlobMeta}
use Rattle.bl_build.specs.Listing.{blob_number}
use Rattle.bl_build.proofs.Searching.{present}
use Rattle.bl_build.proofs.blobs.has_blob.Goals as goal

is_there : (number : ℕ) (bs : List BlobMeta) (place : Option ℕ) → IfSome place (λ i. (i < length bs) × ((d : BlobMeta) → (get_or bs i d).number ≡ number))
    → IfNone place (list_any (λ b. b.number == number) bs ≡ false) → is_some place ≡ list_any (λ b. b.number == number) bs
is_there number bs (Some i) some none =
    let zero : BlobMeta = record { number = 0; total = record { count = 0; bytes = 0 }; garbage = record { count = 0; bytes = 0 }; linked = 0 } in
    sym (present blob_number number i bs zero some.0 (some.1 zero))
is_there number bs None some none = sym none

pub returns : goal.returns
returns c = c.is_some.ensures ∙ is_there c.args.number c.args.blobs.now c.place_of.result c.place_of.ensures.some c.place_of.ensures.none
