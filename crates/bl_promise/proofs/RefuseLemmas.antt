-- What is refused, and what is left alone.
use Rattle.std.proofs.Common.{◌≡◌, inl, inr, ⊎_elim, ap}
use Rattle.bl_site.specs.Disk.{folder_of}
use Rattle.bl_site.specs.declared.site.Site.{Ghosts as SiteGhosts}
use Rattle.bl_site.specs.declared.source.Source.{Ghosts as SourceGhosts}
use Rattle.bl_names.specs.declared.name.FileName.TheVariants.{Current, Log, Manifest}
use Rattle.bl_open.specs.DamageLaws.{FullAreNotRefused, RefusalIsOne}
use Rattle.bl_open.specs.declared.error.OpenErr.{OpenErr}
use Rattle.bl_open.specs.declared.error.OpenErr.TheVariants as opening
use Rattle.bl_promise.specs.Headline.{IsFailure, status_of}
use Rattle.bl_promise.specs.RefusingLaws.{CorruptRefuse, DifferRefuse, FailuresRefuse, ForeignAreFound, ForeignAreNotOwn, FullRefuse, OpenedRefuse}
use Rattle.bl_promise.specs.declared.status.Status.{Status}
use Rattle.bl_promise.specs.declared.status.Status.TheVariants.{Corrupt, Differ}

no_corrupt : (status : Status) → IsFailure status → status ≡ Corrupt → ⊥
no_corrupt status fails is = ⊎_elim (λ tell. cc (tell, is)) (λ more. ⊎_elim (λ disk. cc (disk, is)) (λ memory. cc (memory, is)) more) fails

no_differ : (status : Status) → IsFailure status → status ≡ Differ → ⊥
no_differ status fails is = ⊎_elim (λ tell. cc (tell, is)) (λ more. ⊎_elim (λ disk. cc (disk, is)) (λ memory. cc (memory, is)) more) fails

module _ {S R : Type 0} (s : SiteGhosts S) (r : SourceGhosts R) where
  pub opened_refuse : OpenedRefuse s r
  opened_refuse words script after start now status not_corrupt not_differ refused full alone = record {
    corrupt = λ is. absurd (not_corrupt is);
    differ = λ is. absurd (not_differ is);
    refused = λ e why. absurd (refused e why);
    full = λ is. absurd (full is);
    before = alone.before;
    others = alone.others;
  }

  pub full_refuse : FullAreNotRefused → FullRefuse s r
  full_refuse law words script after start now status ends full alone = record {
    corrupt = λ is. absurd (⊎_elim (λ at. cc (at, is)) (λ fails. no_corrupt status fails is) ends);
    differ = λ is. absurd (⊎_elim (λ at. cc (at, is)) (λ fails. no_differ status fails is) ends);
    refused = λ e why. absurd (law (folder_of (s.disk start)) words e full why);
    full = λ is. ends;
    before = alone.before;
    others = alone.others;
  }

  pub differ_refuse : RefusalIsOne → FullAreNotRefused → DifferRefuse s r
  differ_refuse one law words script after start now told alone =
      let d = told.ends in
      let is : OpenErr = opening.Differ d.option d.stored d.asked in
      record {
        corrupt = λ e. absurd (cc e);
        differ = λ e. told;
        refused = λ e why. inl (ap status_of (one (folder_of (s.disk start)) words is e d.refused why));
        full = λ full. absurd (law (folder_of (s.disk start)) words is full d.refused);
        before = alone.before;
        others = alone.others;
      }

  pub corrupt_refuse : RefusalIsOne → CorruptRefuse s r
  corrupt_refuse one words script after start now told full alone =
      let d = told.ends in
      record {
        corrupt = λ e. told;
        differ = λ e. absurd (cc e);
        refused = λ e why. ⊎_elim (λ at. inl (ap status_of (one (folder_of (s.disk start)) words (opening.Corrupt d.name d.place) e at.0 why))) (λ none. absurd (none e why)) d.damage;
        full = λ is. absurd (full is);
        before = alone.before;
        others = alone.others;
      }

  pub failures_refuse : FailuresRefuse s r
  failures_refuse words script after start now status fails alone = record {
    corrupt = λ is. absurd (no_corrupt status fails is);
    differ = λ is. absurd (no_differ status fails is);
    refused = λ e why. inr fails;
    full = λ is. inr fails;
    before = alone.before;
    others = alone.others;
  }

-- ---- foreign names

pub foreign_are_found : ForeignAreFound
foreign_are_found folder name foreign = (
  record { no_current = λ is. foreign Current (tt, is); no_new = λ f valid behind is. foreign f (valid, is) },
  λ n valid. ((λ is. foreign (Log n) (valid, is)), (λ is. foreign (Manifest n) (valid, is))),
)

pub foreign_are_not_own : ForeignAreNotOwn
foreign_are_not_own old new name log manifest foreign own =
    ⊎_elim (λ is. foreign (Log old.log.number) (log, is)) (λ more. ⊎_elim (λ is. foreign (Manifest old.manifest.number) (manifest, is)) (λ drawn. foreign drawn.0 drawn.1) more) own
