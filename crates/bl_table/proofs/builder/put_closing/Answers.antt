use Rattle.std.proofs.Common.{◌≡◌, ◌∙◌, refl, arith, ◌-◌, length, []}
use Rattle.std.proofs.lemmas.Result.{on_ok_weaker}
use Rattle.bl_table.specs.Spelling.{block}
use Rattle.bl_table.specs.Building.{block_of}
use Rattle.bl_table.proofs.BuildLemmas.{closes, empty_block}
use Rattle.bl_table.proofs.builder.put_closing.Goals as goal

pub returns : goal.returns
returns c =
    let out = c.args.out.now.items in
    let index = block_of c.args.index.now in
    let meta : length out ≡ c.len-meta.result = omega (arith, c.len-meta.ensures, c.args.out.now.ok) in
    let second = c.in_ok-put_trailer.ensures out (block []) meta (c.in_ok-put_restarts.ensures ∙ empty_block out) in
    let from : length c.put_trailer.new.out.items ≡ c.len-from.result = omega (arith, c.len-from.ensures, c.put_trailer.new.out.ok) in
    let fourth = c.in_ok-put_trailer-2.ensures c.put_trailer.new.out.items index from c.in_ok-put_block.ensures in
    let size : c.len.result - c.len-from.result ≡ length c.put_block.new.out.items - length c.put_trailer.new.out.items = omega (arith, c.len.ensures, c.put_block.new.out.ok) in
    on_ok_weaker c.put_footer.result
    (closes out c.put_restarts.new.out.items c.put_trailer.new.out.items c.put_block.new.out.items c.put_trailer-2.new.out.items c.put_footer.new.out.items index c.args.at _ _ c.in_ok-put_restarts.ensures (omega arith) second c.in_ok-put_block.ensures fourth refl size)
    c.put_footer.ensures
