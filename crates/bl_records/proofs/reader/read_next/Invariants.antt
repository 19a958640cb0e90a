use Rattle.std.proofs.Common.{◌≡◌, ℕ, List, Some}
use Rattle.bl_site.specs.Disk.{folder_of}
use Rattle.bl_site.specs.Quiet.{OnlyReads}
use Rattle.bl_log.specs.declared.cause.EndCause.{EndCause}
use Rattle.bl_records.specs.FileReading.{reading_at, HasFound}
use Rattle.bl_records.proofs.reader.read_next.Given as goal

abbrev pub invariant-pieces : goal.invariant-pieces
invariant-pieces g l =
    let site = g.S.Site in
    record {
      found : site.shows → (found : List (List ℕ × ℕ)) → HasFound (folder_of (site.disk l.fn.site) l.fn.name) found (reading_at l.fn.name l.fn.offset l.fn.reader)
          → HasFound (folder_of (site.disk l.fn.site) l.fn.name) found (reading_at l.fn.name l.offset l.reader);
      first : l._piece ≡ 0 → (l.reader ≡ l.fn.reader) × (l.offset ≡ l.fn.offset) × (l.site ≡ l.fn.site);
      not_ended : (end : ℕ × EndCause) → l.fn.reader.ended ≡ Some end → l._piece ≡ 0;
      quiet : OnlyReads site l.fn.site l.site;
    }
