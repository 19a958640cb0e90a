use Rattle.std.proofs.Common.{[], ◌++◌, List, ℕ, refl}
use Rattle.std.specs.Prelude.{if◌then◌else◌}
use Rattle.bl_blob.specs.BlobFile.{header}
use Rattle.bl_out.proofs.AppendLemmas.{ok_map, record_appended, there_behind}
use Rattle.bl_out.proofs.append.append_record.Goals as goal

pub append_two-requires : goal.append_two-requires
append_two-requires g c = λ shown.
    let s = g.S.Site in
    let bytes : List ℕ = (if c.args.is_first then header else []) ++ c.record_head.result in
    there_behind c.args.name.now bytes (s.disk c.args.site.now) (s.disk c.append_head.new.site) (c.in_ok-append_head.ensures.appended shown bytes refl)

pub returns-clause-appended : goal.returns-clause-appended
returns-clause-appended g c = λ shown bytes are.
    let s = g.S.Site in
    let before : List ℕ = if c.args.is_first then header else [] in
    ok_map c.append_two.result
    (record_appended c.args.name.now before c.record_head.result bytes (record { key = c.args.key.now; value = c.args.value.now }) (s.disk c.args.site.now) (s.disk c.append_head.new.site) (s.disk c.append_two.new.site) c.record_head.ensures are
    (c.in_ok-append_head.ensures.appended shown (before ++ c.record_head.result) refl))
    (c.append_two.ensures.appended shown)
