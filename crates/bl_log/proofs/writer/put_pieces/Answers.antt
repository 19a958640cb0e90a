use Rattle.std.proofs.Common.{◌++◌, refl, arith}
use Rattle.std.proofs.lemmas.Result.{on_ok_weaker}
use Rattle.bl_log.specs.Layout.{pieces, spelled}
use Rattle.bl_log.proofs.LayoutLemmas.{put_more, put_last}
use Rattle.bl_log.proofs.writer.put_pieces.Goals as goal

pub pieces-preserved : goal.pieces-preserved
pieces-preserved c = record {
  all = put_more c.pieces.out.items c.put_fragment.new.out.items c.split_at.result.0.now c.pieces.rest.now c.split_at.result.1.now _ c.pieces.begun c.pieces.room c.kind_of.result
      c.pieces-test.true c.pieces.invariant.all c.in_ok-put_fragment.ensures c.kind_of.ensures c.split_at.ensures.front c.split_at.ensures.back;
  room = omega arith;
  whole = λ _. refl;
}

pub returns : goal.returns
returns c =
    on_ok_weaker c.put_fragment-2.result (put_last c.pieces.out.items c.put_fragment-2.new.out.items c.pieces.rest.now (c.args.out.now.items ++ spelled _ (pieces c.args.space c.args.payload.now)) c.pieces.begun c.pieces.room c.kind_of-2.result
    c.pieces-test.false c.pieces.invariant.all c.kind_of-2.ensures) c.put_fragment-2.ensures
