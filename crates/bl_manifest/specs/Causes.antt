-- What a failed call on records is here.
use Rattle.bl_records.specs.declared.error.RecordErr.{RecordErr}
use Rattle.bl_records.specs.declared.error.RecordErr.TheVariants as record_err
use Rattle.bl_manifest.specs.declared.error.ManifestErr.{ManifestErr}
use Rattle.bl_manifest.specs.declared.error.ManifestErr.TheVariants.{Disk, OutOfMemory}

abbrev pub error_of : RecordErr → ManifestErr
error_of record_err.Disk = Disk
error_of record_err.OutOfMemory = OutOfMemory
