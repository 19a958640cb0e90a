use Rattle.std.proofs.Common.{◌≡◌, sym, ◌∙◌, ap, subst}
use Rattle.std.proofs.lemmas.Result.{IfOk-weaker}
use Rattle.bl_site.specs.Disk.{Disk, Folder, MayLeave, folder_of}
use Rattle.bl_wal.specs.LogFile.{log_name}
use Rattle.bl_logstore.specs.Replaying.{HasAll}
use Rattle.bl_logstore.specs.Stored.{map_in, IsSynced}
use Rattle.bl_logstore.specs.Cuts.{LeavesFound, AreReadAsWritten}
use Rattle.bl_logstore.proofs.BehindLemmas.{reads_no_new, then_no_new}
use Rattle.bl_logstore.proofs.CutLemmas.{all_found, then_left, then_found}
use Rattle.bl_logstore.proofs.QuietLemmas.{reads_left, then_reads}
use Rattle.bl_site.proofs.Quiet.{reading_is_silent, silent_on}
use Rattle.bl_logstore.proofs.OtherLemmas.{others_same, others_then, same_makes_no_file, then_makes_no_file}
use Rattle.bl_logstore.proofs.open.read_logs.Goals as goal

pub returns-in_err-sync_logs-clause-others : goal.returns-in_err-sync_logs-clause-others
returns-in_err-sync_logs-clause-others g c = λ shown.
    let disk = g.S.Site.disk in
    others_then (disk c.args.site.now) (disk c.list_logs.new.site) (disk c.sync_logs.new.site) (others_same (disk c.args.site.now) (disk c.list_logs.new.site) (c.list_logs.ensures.quiet.stays shown).same) (c.sync_logs.ensures.others shown)

pub returns-clause-others : goal.returns-clause-others
returns-clause-others g c = λ shown.
    let disk = g.S.Site.disk in
    let synced = others_then (disk c.args.site.now) (disk c.list_logs.new.site) (disk c.sync_logs.new.site) (others_same (disk c.args.site.now) (disk c.list_logs.new.site) (c.list_logs.ensures.quiet.stays shown).same) (c.sync_logs.ensures.others shown) in
    others_then (disk c.args.site.now) (disk c.sync_logs.new.site) (disk c.replay_logs.new.site) synced (others_same (disk c.sync_logs.new.site) (disk c.replay_logs.new.site) (c.replay_logs.ensures.quiet.stays shown).same)

pub returns-clause-before : goal.returns-clause-before
returns-clause-before g c = λ shown.
    let site = g.S.Site in
    let law = g.met.S.Site in
    let old = c.args.site.now in
    let listed = c.list_logs.new.site in
    let synced = c.sync_logs.new.site in
    let first = all_found site old listed (reads_left site shown old listed (law.only_now shown old) c.list_logs.ensures.quiet) in
    let second = then_found site old listed synced (law.counts_now shown listed) (c.list_logs.ensures.quiet.told shown) first (c.sync_logs.ensures.before shown) in
    then_reads site shown old synced c.replay_logs.new.site (LeavesFound (site.may_be old) (site.told old)) (law.counts_now shown synced) second c.replay_logs.ensures.quiet

pub returns-clause-cuts : goal.returns-clause-cuts
returns-clause-cuts g c = λ shown reads.
    let site = g.S.Site in
    let law = g.met.S.Site in
    let old = c.args.site.now in
    let listed = c.list_logs.new.site in
    let synced = c.sync_logs.new.site in
    let P = MayLeave (site.may_be old) (site.told old) in
    let R : Disk → Type 0 = AreReadAsWritten in
    let still = subst R (sym (c.list_logs.ensures.quiet.stays shown).same) reads in
    let second = then_left site old listed synced P (law.counts_now shown listed) (reads_left site shown old listed (law.only_now shown old) c.list_logs.ensures.quiet) (c.sync_logs.ensures.cuts shown still) in
    then_reads site shown old synced c.replay_logs.new.site P (law.counts_now shown synced) second c.replay_logs.ensures.quiet

pub returns-in_err-numbers-clause-no_file : goal.returns-in_err-numbers-clause-no_file
returns-in_err-numbers-clause-no_file g c = λ shown. same_makes_no_file (g.S.Site.disk c.args.site.now) (g.S.Site.disk c.list_logs.new.site) (c.list_logs.ensures.quiet.stays shown).same

pub returns-in_err-sync_logs-clause-no_file : goal.returns-in_err-sync_logs-clause-no_file
returns-in_err-sync_logs-clause-no_file g c = λ shown.
    let disk = g.S.Site.disk in
    then_makes_no_file (disk c.args.site.now) (disk c.list_logs.new.site) (disk c.sync_logs.new.site) (same_makes_no_file (disk c.args.site.now) (disk c.list_logs.new.site) (c.list_logs.ensures.quiet.stays shown).same) (c.sync_logs.ensures.no_file shown)

pub returns-clause-no_file : goal.returns-clause-no_file
returns-clause-no_file g c = λ shown.
    let disk = g.S.Site.disk in
    let synced = then_makes_no_file (disk c.args.site.now) (disk c.list_logs.new.site) (disk c.sync_logs.new.site) (same_makes_no_file (disk c.args.site.now) (disk c.list_logs.new.site) (c.list_logs.ensures.quiet.stays shown).same) (c.sync_logs.ensures.no_file shown) in
    then_makes_no_file (disk c.args.site.now) (disk c.sync_logs.new.site) (disk c.replay_logs.new.site) synced (same_makes_no_file (disk c.sync_logs.new.site) (disk c.replay_logs.new.site) (c.replay_logs.ensures.quiet.stays shown).same)

pub returns-in_err-numbers-clause-no_new : goal.returns-in_err-numbers-clause-no_new
returns-in_err-numbers-clause-no_new g c = λ shown sure.
    let site = g.S.Site in
    let old = c.args.site.now in
    reads_no_new site old c.list_logs.new.site (λ other. g.met.S.Site.only shown old other sure) (reads_left site shown old c.list_logs.new.site (g.met.S.Site.only_now shown old) c.list_logs.ensures.quiet)

pub returns-in_err-sync_logs-clause-no_new : goal.returns-in_err-sync_logs-clause-no_new
returns-in_err-sync_logs-clause-no_new g c = λ shown sure.
    let site = g.S.Site in
    let old = c.args.site.now in
    let listed = c.list_logs.new.site in
    then_no_new site old listed c.sync_logs.new.site (same_makes_no_file (site.disk old) (site.disk listed) (c.list_logs.ensures.quiet.stays shown).same)
    (reads_no_new site old listed (λ other. g.met.S.Site.only shown old other sure) (reads_left site shown old c.list_logs.new.site (g.met.S.Site.only_now shown old) c.list_logs.ensures.quiet))
    (c.sync_logs.ensures.no_new shown ((c.list_logs.ensures.quiet.stays shown).certain_stays sure))

pub returns-clause-no_new : goal.returns-clause-no_new
returns-clause-no_new g c = λ shown sure.
    let site = g.S.Site in
    let old = c.args.site.now in
    let listed = c.list_logs.new.site in
    let synced = c.sync_logs.new.site in
    let same = same_makes_no_file (site.disk old) (site.disk listed) (c.list_logs.ensures.quiet.stays shown).same in
    let sure_listed = (c.list_logs.ensures.quiet.stays shown).certain_stays sure in
    let first = then_no_new site old listed synced same
    (reads_no_new site old listed (λ other. g.met.S.Site.only shown old other sure) (reads_left site shown old c.list_logs.new.site (g.met.S.Site.only_now shown old) c.list_logs.ensures.quiet))
    (c.sync_logs.ensures.no_new shown sure_listed) in
    then_no_new site old synced c.replay_logs.new.site (then_makes_no_file (site.disk old) (site.disk listed) (site.disk synced) same (c.sync_logs.ensures.no_file shown)) first
    (reads_no_new site synced c.replay_logs.new.site (λ other. g.met.S.Site.only shown synced other (c.sync_logs.ensures.certain shown sure_listed)) (reads_left site shown synced c.replay_logs.new.site (g.met.S.Site.only_now shown synced) c.replay_logs.ensures.quiet))

pub returns-in_err-numbers-clause-tells_nothing : goal.returns-in_err-numbers-clause-tells_nothing
returns-in_err-numbers-clause-tells_nothing g c = reading_is_silent g.S.Site c.args.site.now c.list_logs.new.site c.list_logs.ensures.quiet

pub returns-in_err-sync_logs-clause-tells_nothing : goal.returns-in_err-sync_logs-clause-tells_nothing
returns-in_err-sync_logs-clause-tells_nothing g c =
    let site = g.S.Site in
    let listed = c.list_logs.new.site in
    silent_on site c.args.site.now listed c.sync_logs.new.site (reading_is_silent site c.args.site.now listed c.list_logs.ensures.quiet) c.sync_logs.ensures.tells_nothing

pub returns-clause-tells_nothing : goal.returns-clause-tells_nothing
returns-clause-tells_nothing g c =
    let site = g.S.Site in
    let old = c.args.site.now in
    let listed = c.list_logs.new.site in
    let synced = c.sync_logs.new.site in
    let read = c.replay_logs.new.site in
    silent_on site old listed read (reading_is_silent site old listed c.list_logs.ensures.quiet)
    (silent_on site listed synced read c.sync_logs.ensures.tells_nothing (reading_is_silent site synced read c.replay_logs.ensures.quiet))

pub returns-clause-read : goal.returns-clause-read
returns-clause-read g c = λ shown.
    let disk = g.S.Site.disk in
    let synced = disk c.sync_logs.new.site in
    let new = disk c.replay_logs.new.site in
    let same : folder_of synced ≡ folder_of (disk c.args.site.now) = c.in_ok-sync_logs.ensures.same shown ∙ ap folder_of (c.list_logs.ensures.quiet.stays shown).same in
    let read_same : new ≡ synced = (c.replay_logs.ensures.quiet.stays shown).same in
    IfOk-weaker c.replay_logs.result _ _ (λ m all.
    let P : Folder → Type 0 = λ f. HasAll f (map_in m.map.entries) m.last m.greatest in
    record {
      only = c.in_ok-numbers.ensures.only shown;
      same = ap folder_of read_same ∙ same;
      all = subst P same all;
      synced = λ number is. subst (λ (d : Disk). IsSynced (d (log_name number))) (sym read_same) (c.in_ok-sync_logs.ensures.synced shown number is);
    }) (c.replay_logs.ensures.replayed shown)
