-- The first damage of a folder, as it reads: the name of the file, and the place in it, in the order in which an opening looks.
use Rattle.std.specs.Prelude.{◌≡◌, ◌⊎◌, ℕ, List, Some}
use Rattle.bl_site.specs.Disk.{Folder, Name}
use Rattle.bl_names.specs.declared.name.FileName.TheVariants.{Current}
use Rattle.bl_names.specs.Names.{IsCurrentText, IsNumber, current_text, manifest_name, name_of}
use Rattle.bl_build.specs.Restoring.{Restored}
use Rattle.bl_manifest.specs.Restores.{IsDamaged as IsManifestDamaged}
use Rattle.bl_out.specs.Files.{file}
use Rattle.bl_folder.specs.Live.{IsLive}
use Rattle.bl_open.specs.Checks.{AllPass, FilesFail}
use Rattle.bl_open.specs.Listing.{IsFirstStray}
use Rattle.bl_open.specs.Replay.{LogsFail}

-- CURRENT is there, and is the text that names the manifest of this number
pub record NamesManifest (folder : Folder) (manifest : ℕ) : Type 0 where
  pub number : IsNumber manifest
  pub current : file folder Current ≡ Some (current_text manifest)

-- CURRENT is there, and is no such text
pub record NamesNone (folder : Folder) : Type 0 where
  pub bytes : List ℕ
  pub there : file folder Current ≡ Some bytes
  pub no_text : (manifest : ℕ) → IsCurrentText bytes manifest → ⊥

-- What keeps a folder from being fresh and from having a live part. Without CURRENT: the first file that no fresh folder has. With it: that CURRENT is no text that names a manifest,
-- or that this manifest is absent or at fault.
abbrev pub LacksLive : Folder → Name → ℕ → Type 0
LacksLive folder name place =
    (IsFirstStray folder name × (place ≡ 0))
    ⊎ ((NamesNone folder × (name ≡ name_of Current) × (place ≡ 0))
    ⊎ ((manifest : ℕ) × NamesManifest folder manifest × (name ≡ manifest_name manifest) × IsManifestDamaged folder manifest place))

-- What a live part names does not hold: the first of the version's files that fails, or, where all pass, the first log that breaks off.
abbrev pub FilesOrLogsFail : Folder → Restored → Name → ℕ → Type 0
FilesOrLogsFail folder live name place =
    FilesFail folder live.version name place
    ⊎ (AllPass folder live.version × LogsFail folder live.standing.log_number live.standing.last_sequence name place)

-- the folder is damaged, first at this name and place
abbrev pub IsDamaged : Folder → Name → ℕ → Type 0
IsDamaged folder name place =
    LacksLive folder name place
    ⊎ ((manifest : ℕ) × ((live : Restored) × IsLive folder manifest live × FilesOrLogsFail folder live name place))
