-- A run as its contract sees it: what there was before and after, and what is so of each power cut.
use Rattle.std.specs.Prelude.{ℕ, List}
use Rattle.bl_site.specs.Disk.{Folder, Disk, Cut, folder_of}
use Rattle.bl_site.specs.Calls.{LeavesOnly}
use Rattle.bl_site.specs.declared.site.Site.{Ghosts as SiteGhosts}
use Rattle.bl_site.specs.declared.source.Source.{Ghosts as SourceGhosts}
use Rattle.bl_open.specs.Options.{Words}
use Rattle.bl_promise.specs.Cuts.{FromSomeMoment}

pub record Run : Type 1 where
  -- the given words of the options
  pub words : Words
  pub disk : Disk
  pub disk_after : Disk
  -- the bytes that the source had, and those that were not taken
  pub script : List ℕ
  pub left : List ℕ
  -- the bytes told before the run, and by its end
  pub told : List ℕ
  pub told_after : List ℕ
  -- no name call is in doubt
  pub certain : Type 0
  pub certain_after : Type 0
  -- the disks that a cut might find
  pub may_be : Disk → Type 0
  pub may_be_after : Disk → Type 0
  -- this is so of each cut at a moment of the run
  pub EachCut : (Cut → Type 0) → Type 0
  -- this is so of each cut from some moment of the run on
  pub EachLateCut : (Cut → Type 0) → Type 0
  -- a cut at some moment of the run might have left this
  pub MightBeLeft : Cut → Type 0

abbrev pub run_of : {S R : Type 0} → SiteGhosts S → SourceGhosts R → Words → (script after : R) → (old new : S) → Run
run_of s r words script after old new = record {
  words = words;
  disk = s.disk old;
  disk_after = s.disk new;
  script = r.left script;
  left = r.left after;
  told = s.told old;
  told_after = s.told new;
  certain = s.certain old;
  certain_after = s.certain new;
  may_be = s.may_be old;
  may_be_after = s.may_be new;
  EachCut = LeavesOnly s.clock s.left_since old new;
  EachLateCut = FromSomeMoment s.clock s.left_since old new;
  MightBeLeft = s.left_since new (s.clock old);
}

abbrev pub folder : Run → Folder
folder run = folder_of run.disk

abbrev pub folder_after : Run → Folder
folder_after run = folder_of run.disk_after
