-- The folder that a store stands on.
use Rattle.std.proofs.Common.{◌≡◌, false, ◌∙◌, ap, subst, List}
use Rattle.bl_site.specs.Disk.{Disk, Folder, Name, folder_of}
use Rattle.bl_build.specs.Restoring.{Restored}
use Rattle.bl_wal.specs.LogFile.{LogFile}
use Rattle.bl_manifest.specs.ManifestFile.{ManifestFile}
use Rattle.bl_folder.specs.Live.{IsLive}
use Rattle.bl_folder.specs.Stands.{StandsLive}
use Rattle.bl_open.specs.Steady.{IsUsable}
use Rattle.bl_open.specs.SteadyLaws.{SteadyHold, SteadyStand}
use Rattle.bl_store.specs.Held.{Held, maps_of, now_of}
use Rattle.bl_store.specs.Standing.{IsOnDisk, StandsFor}
use Rattle.bl_store.specs.Stored.{IsInOrder, Stored}
use Rattle.bl_open.specs.Synced.{as_synced}
use Rattle.bl_store.proofs.HeldLemmas.{maps_last}
use Rattle.bl_store.proofs.SyncedLemmas.{same_folder}

pub on_disk : SteadyHold → SteadyStand → (names : List Name) (held : Held) (store : Stored) (disk : Disk) → IsInOrder store → store.broken ≡ false → StandsFor names held store disk → IsOnDisk store (now_of held) (folder_of disk)
on_disk hold stand names held store disk order unbroken t =
    let c = t.carries in
    let usable : IsUsable t.steady = record {
      log = ap (λ (l : LogFile). l.failed) c.log ∙ order.log unbroken;
      manifest = ap (λ (m : ManifestFile). m.failed) c.manifest ∙ order.manifest unbroken;
    } in
    let same = same_folder names disk in
    let live : IsLive (folder_of (as_synced names disk)) store.manifest.number t.steady.holding.live =
    subst (λ (m : ManifestFile). IsLive (folder_of (as_synced names disk)) m.number t.steady.holding.live) c.manifest (hold (maps_of held) t.steady (as_synced names disk) t.is_steady usable).live in
    let stands : StandsLive (folder_of (as_synced names disk)) (now_of held) =
    subst (StandsLive (folder_of (as_synced names disk))) (ap (maps_of held) t.writes ∙ maps_last held) (stand (maps_of held) t.steady (as_synced names disk) t.is_steady usable) in
    record {
      live = subst (λ (f : Folder). IsLive f store.manifest.number (record { version = store.version; standing = store.standing })) same (subst (λ (r : Restored). IsLive (folder_of (as_synced names disk)) store.manifest.number r) c.live live);
      stands = subst (λ (f : Folder). StandsLive f (now_of held)) same stands;
    }

-- so it is of a store that is seen so
pub on_disk_as : SteadyHold → SteadyStand → (inside store : Stored) → IsInOrder inside → inside ≡ store → store.broken ≡ false
    → (names : List Name) (held : Held) (disk : Disk) → StandsFor names held store disk → IsOnDisk store (now_of held) (folder_of disk)
on_disk_as hold stand inside store order is unbroken names held disk t = on_disk hold stand names held store disk (subst IsInOrder is order) unbroken t
