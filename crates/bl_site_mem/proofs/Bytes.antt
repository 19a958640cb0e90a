-- The record as it is stored, with an entry more.
use Rattle.std.proofs.Common.{◌≡◌, List, [], ◌∷◌, ◌++◌, ◌∙◌, ap}
use Rattle.std.proofs.lemmas.List.{map-append}
use Rattle.bl_site_mem.specs.declared.record.KeptEntry.{KeptEntry}
use Rattle.bl_site_mem.specs.Bytes.{entry_of, entries_of}

pub entries_pushed : (old new : List KeptEntry) (entry : KeptEntry) → new ≡ old ++ entry ∷ [] → entries_of new ≡ entries_of old ++ entry_of entry ∷ []
entries_pushed old new entry is = ap entries_of is ∙ map-append entry_of old (entry ∷ [])
