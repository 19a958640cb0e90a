use Rattle.std.proofs.Common.{inl, sym, subst, Option}
use Rattle.bl_site.specs.Disk.{File}
use Rattle.bl_logstore.specs.Cuts.{HasData}
use Rattle.bl_logstore.specs.Stored.{IsSynced}
use Rattle.bl_logstore.proofs.laws.unsynced_logs_are_not_whole.Goals as goal

pub returns : goal.returns
returns c = λ lower upper below above disk number less limit there unsynced over some whole.
    let P : Option File → Type 0 = λ o. HasData o in
    let Q : Option File → Type 0 = λ o. IsSynced o in
    unsynced (subst Q there (whole lower upper number less limit (subst P (sym over) (inl some)))).1
