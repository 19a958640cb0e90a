use Rattle.std.proofs.Common.{◌≡◌, ◌∙◌, sym, ap, ◌+◌, List, [], ◌∷◌, ◌++◌, take, map, string_bytes, String, Global, Option, arith}
use Rattle.std.proofs.lemmas.List.{take_more, map-append, take_all}
use Rattle.std.specs.Map.{update}
use Rattle.std.specs.Str.{bytes_eq}
use Rattle.bl_site.specs.Disk.{Name, File}
use Rattle.bl_site_mem.specs.Record.{start, run, disk_of}
use Rattle.bl_site_mem.specs.Bytes.{entries_of}
use Rattle.bl_site_mem.specs.Moments.{until, disk_left}
use Rattle.bl_site_mem.specs.Files.{contents}
use Rattle.bl_site_mem.proofs.Listed.{some_kept}
use Rattle.bl_site_mem.proofs.Cutting.{left_kept, left_more, left_all}
use Rattle.bl_site_mem.proofs.cuts.cut_of.Goals as goal

pub loop-name-preserved : goal.loop-name-preserved
loop-name-preserved c =
    let i = c.loop-name.name-index in
    let items = c.deref-name-items.result.now in
    let disk = (run (until c.args.at (entries_of c.args.entries.now)) start).disk in
    let name = c.as_str.result.now in
    let old = disk_of c.loop-name.site in
    let kept = c.in_ok-files.ensures in
    let one : map string_bytes (take (i + 1) items) ≡ map string_bytes (take i items) ++ name ∷ [] =
    ap (λ (l : List (String Global)). map string_bytes l) (take_more items i c.name-item.result c.loop-name-test.true)
    ∙ map-append string_bytes (take i items) _
    ∙ ap (λ (s : String Global). map string_bytes (take i items) ++ string_bytes s ∷ []) (sym c.name-item.is)
    ∙ ap (λ (n : Name). map string_bytes (take i items) ++ n ∷ []) (sym c.as_str.ensures.value) in
    record {
      put = left_more c.args.keep c.args.fill disk (map string_bytes (take i items)) (map string_bytes (take (i + 1) items)) name old (disk_of c.put_left.new.site) one c.loop-name.invariant.put
          (λ q. c.in_ok-put_left.ensures.disk q ∙ ap (λ (o : Option File). update bytes_eq old name o q) (left_kept c.args.keep c.args.fill (contents c.in_ok-files.files name) (disk name) (kept name)));
      started = c.in_ok-put_left.ensures.started c.loop-name.invariant.started;
    }

pub returns-clause-left : goal.returns-clause-left
returns-clause-left c q =
    let items = c.deref-name-items.result.now in
    let disk = (run (until c.args.at (entries_of c.args.entries.now)) start).disk in
    let whole : take c.loop-name.name-index items ≡ c.in_ok-names.names.items = take_all c.loop-name.name-index items (omega (arith, c.loop-name-test.false)) ∙ c.deref-name-items.ensures.value in
    c.loop-name.invariant.put q
    ∙ ap (λ (l : List (String Global)). disk_left c.args.keep c.args.fill disk (map string_bytes l) q) whole
    ∙ left_all c.args.keep c.args.fill disk (map string_bytes c.in_ok-names.names.items) (λ name some. (c.in_ok-names.ensures.value name).1 ((some_kept _ (disk name) (c.in_ok-files.ensures name)).1 some)) q
