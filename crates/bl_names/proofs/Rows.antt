-- Worked rows of names.
use Rattle.std.proofs.Common.{◌≡◌, refl}
use Rattle.std.specs.Prelude.{codes}
use Rattle.std.specs.Fmt.{digits}
use Rattle.bl_names.specs.declared.name.FileName.TheVariants.{Manifest, Log, Blob}
use Rattle.bl_names.specs.Names.{name_of, current_text}

manifest : name_of (Manifest 5) ≡ codes "MANIFEST-000005"
unfolding digits
manifest = refl

log : name_of (Log 12) ≡ codes "000012.log"
unfolding digits
log = refl

long : name_of (Blob 1000000) ≡ codes "1000000.blob"
unfolding digits
long = refl

text : current_text 1 ≡ codes "MANIFEST-000001\n"
unfolding digits
text = refl
