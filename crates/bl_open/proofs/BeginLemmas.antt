-- What a store begins with.
use Rattle.std.proofs.Common.{◌≡◌, ◌≢◌, ℕ, ◌<◌, [], ◌∷◌, length, refl, sym, ◌∙◌, ap, subst, arith}
use Rattle.bl_names.specs.declared.name.FileName.{FileName}
use Rattle.bl_names.specs.declared.name.FileName.TheVariants.{Current, Manifest, Log, Table, Blob, Temp}
use Rattle.bl_names.specs.Names.{IsNumber, NamesOne}
use Rattle.bl_wal.specs.LogFile.{log_name}
use Rattle.bl_manifest.specs.Held.{HoldsEdits}
use Rattle.bl_manifest.specs.Laws.{SyncedManifestsAreLeft}
use Rattle.bl_folder.specs.Laws.{LiveIsVersion}
use Rattle.bl_open.proofs.InstallLemmas.{edits_are_version}
use Rattle.bl_open.specs.SteadyCalls.{begun}
use Rattle.bl_open.specs.SteadyLaws.{BackedStay, BeginningsAreBacked, FilesStay}
use Rattle.std.specs.List.{IsDistinct}
use Rattle.std.specs.FinMap.{get, get-empty}
use Rattle.bl_code.specs.Order.{bytes_cmp}
use Rattle.bl_build.specs.Listing.{nothing}
use Rattle.bl_build.specs.Versions.{IsVersion}
use Rattle.bl_open.specs.OpeningLaws.{FreshHasTables, LogsBegin, ManifestsMakeReady}

log_number_of : FileName → ℕ
log_number_of Current = 0
log_number_of (Manifest n) = 0
log_number_of (Log n) = n
log_number_of (Table n) = 0
log_number_of (Blob n) = 0
log_number_of (Temp n) = 0

other_log : NamesOne → (log n : ℕ) → IsNumber log → IsNumber n → log < n → log_name n ≢ log_name log
unfolding log_number_of
other_log names log n is has less e = let same : n ≡ log = ap log_number_of (names (log_name log) (Log n) (Log log) (has, sym e) (is, refl)) in omega (arith, same, less)

pub logs_begin : NamesOne → FilesStay → LogsBegin
logs_begin names stay maps number h old new is t made holds = record {
  files = stay h (Log number) old new t.version is (λ of. of) made.others t.files;
  is_number = is;
  log_number = t.log_number;
  empty = holds;
  behind = λ n has less. made.others (log_name n) (other_log names number n is has less) ∙ t.behind n has (omega (arith, less));
  batches = t.batches;
  last = t.last;
  makes = t.makes;
}

pub manifests_make_ready : NamesOne → SyncedManifestsAreLeft → LiveIsVersion → BackedStay → BeginningsAreBacked → ManifestsMakeReady
manifests_make_ready names left versions stay backed maps number h e manifest old new b has restores keeps holds =
    let one : 1 ≡ length (e ∷ []) = omega arith in
    let held : HoldsEdits new manifest (e ∷ []) (length (e ∷ [])) = subst (λ (k : ℕ). HoldsEdits new manifest (e ∷ []) k) one holds in
    let version = edits_are_version names left versions new manifest (e ∷ []) h.live has held restores in
    record {
      number = has;
      edits = held;
      restores = restores;
      backed = stay maps (begun manifest (e ∷ []) number h 0) (Manifest manifest.number) old new version has (λ x. x) keeps (backed maps 0 number manifest (e ∷ []) h old b);
    }

-- no file is a version
no_version : IsVersion nothing
unfolding IsDistinct
no_version = record { tables_fit = tt; tables_ascend = tt; tables_once = tt; tables_apart = tt; blobs_fit = tt; blobs_ascend = tt; garbage_fits = tt; linked = tt; needed = refl }

pub fresh_has_tables : FreshHasTables
unfolding IsDistinct
fresh_has_tables maps log standing disk number first behind = record {
  files = record { tables = refl; blobs = refl; spelled = tt; named = record { tables = tt; blobs = tt } };
  version = no_version;
  log_number = number;
  behind = behind;
  batches = refl;
  last = refl;
  makes = (
    [],
    record {
      proper = tt;
      resolve = refl;
      tables = tt;
      totals = tt;
      apart = tt;
      accounts = tt;
      disjoint = tt;
      newer = tt;
      once = tt;
      behind = tt;
      placed = tt;
      map_is = λ key. ap (λ m. get m key) first ∙ get-empty bytes_cmp key;
    },
  );
}
