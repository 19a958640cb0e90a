use Rattle.std.proofs.Common.{◌++◌, ap, ◌∙◌, sym}
use Rattle.std.specs.Prelude.{codes}
use Rattle.std.specs.Fmt.{styled_decimal}
use Rattle.std.specs.String.{string_bytes}
use Rattle.bl_names.specs.Names.{name_of}
use Rattle.bl_names.proofs.NameLemmas.{padded_six}
use Rattle.bl_names.proofs.name.print_name.Goals as goal
use Rattle.bl_names.proofs.name.print_name.Goals.{in-Current+in_ok-text-in-Current, in-Manifest+in_ok-text-in-Manifest, in-Log+in_ok-text-in-Log, in-Table+in_ok-text-in-Table, in-Blob+in_ok-text-in-Blob, in-Temp+in_ok-text-in-Temp}

pub returns : goal.returns
returns c = elim c.match-name.branch [
  | in-Current+in_ok-text-in-Current w ↦ ap string_bytes w.text-is ∙ w.in_ok-text-in-Current.ensures.ok ∙ ap name_of (sym w.in-Current.is)
  | in-Manifest+in_ok-text-in-Manifest w ↦
      ap string_bytes w.text-is ∙ w.in_ok-text-in-Manifest.ensures.ok
      ∙ ap (λ digits. codes "MANIFEST-" ++ digits) (ap (λ spec. styled_decimal spec w.in-Manifest.number) w.laid_out.ensures ∙ padded_six w.in-Manifest.number)
      ∙ ap name_of (sym w.in-Manifest.is)
  | in-Log+in_ok-text-in-Log w ↦
      ap string_bytes w.text-is ∙ w.in_ok-text-in-Log.ensures.ok
      ∙ ap (λ digits. digits ++ codes ".log") (ap (λ spec. styled_decimal spec w.in-Log.number) w.laid_out-in-Log.ensures ∙ padded_six w.in-Log.number)
      ∙ ap name_of (sym w.in-Log.is)
  | in-Table+in_ok-text-in-Table w ↦
      ap string_bytes w.text-is ∙ w.in_ok-text-in-Table.ensures.ok
      ∙ ap (λ digits. digits ++ codes ".sst") (ap (λ spec. styled_decimal spec w.in-Table.number) w.laid_out-in-Table.ensures ∙ padded_six w.in-Table.number)
      ∙ ap name_of (sym w.in-Table.is)
  | in-Blob+in_ok-text-in-Blob w ↦
      ap string_bytes w.text-is ∙ w.in_ok-text-in-Blob.ensures.ok
      ∙ ap (λ digits. digits ++ codes ".blob") (ap (λ spec. styled_decimal spec w.in-Blob.number) w.laid_out-in-Blob.ensures ∙ padded_six w.in-Blob.number)
      ∙ ap name_of (sym w.in-Blob.is)
  | in-Temp+in_ok-text-in-Temp w ↦
      ap string_bytes w.text-is ∙ w.in_ok-text-in-Temp.ensures.ok
      ∙ ap (λ digits. digits ++ codes ".dbtmp") (ap (λ spec. styled_decimal spec w.in-Temp.number) w.laid_out-in-Temp.ensures ∙ padded_six w.in-Temp.number)
      ∙ ap name_of (sym w.in-Temp.is)
]
