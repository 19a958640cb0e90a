use Rattle.std.proofs.Common.{map, string_bytes, length}
use Rattle.std.proofs.lemmas.Result.{IfOk-weaker}
use Rattle.bl_site.specs.Disk.{folder_of}
use Rattle.bl_logstore.proofs.NameLemmas.{first_there, none_other}
use Rattle.bl_logstore.proofs.NumberLemmas.{begins, numbers_of}
use Rattle.bl_logstore.proofs.OpenLemmas.{listed}
use Rattle.bl_logstore.proofs.open.list_logs.Goals as goal

pub returns-clause-corrupt : goal.returns-clause-corrupt
returns-clause-corrupt g c = λ shown name place is.
    let disk = g.S.Site.disk c.args.site.now in
    let names = c.as_slice.result.now in
    let there = listed string_bytes disk c.in_ok-names.names.items names c.as_slice.ensures.value (c.in_ok-names.ensures.value shown) in
    let l = c.log_numbers.ensures.corrupt name place is in
    (first_there (folder_of disk) (length names) (map string_bytes names) name there l.0, l.1)

pub returns-clause-numbers : goal.returns-clause-numbers
returns-clause-numbers g c =
    let names = c.as_slice.result.now in
    IfOk-weaker c.log_numbers.result _ _ (λ v all. numbers_of (map string_bytes names) (length names) v.items all.logs) c.log_numbers.ensures.logs

pub returns-clause-logs : goal.returns-clause-logs
returns-clause-logs g c = λ shown.
    let disk = g.S.Site.disk c.args.site.now in
    let names = c.as_slice.result.now in
    let there = listed string_bytes disk c.in_ok-names.names.items names c.as_slice.ensures.value (c.in_ok-names.ensures.value shown) in
    IfOk-weaker c.log_numbers.result _ _ (λ v all. begins (map string_bytes names) (length names) v.items (folder_of disk) all.sorted all.logs there) c.log_numbers.ensures.logs

pub returns-clause-only : goal.returns-clause-only
returns-clause-only g c = λ shown.
    let disk = g.S.Site.disk c.args.site.now in
    let names = c.as_slice.result.now in
    let there = listed string_bytes disk c.in_ok-names.names.items names c.as_slice.ensures.value (c.in_ok-names.ensures.value shown) in
    IfOk-weaker c.log_numbers.result _ _ (λ v all. none_other (folder_of disk) (length names) (map string_bytes names) there all.no_other) c.log_numbers.ensures.logs
