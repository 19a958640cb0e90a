use Rattle.std.proofs.Common.{◌<◌, ◌∙◌, ap, arith, ◌++◌, length-set}
use Rattle.bl_code.proofs.VarintLemmas.{used_small, fits_on, spelling_ends, spelling_goes_on}
use Rattle.bl_code.proofs.put.put_varint64.Goals as goal

pub loop-rest-preserved : goal.loop-rest-preserved
loop-rest-preserved c =
    let small : c.loop-rest.used < 9 = used_small c.loop-rest.rest c.loop-rest.used c.args.value c.loop-rest.invariant.fits (omega arith) c.loop-rest-test.true in
    record {
      size = length-set _ _ _ ∙ c.loop-rest.invariant.size;
      room = omega arith;
      fits = fits_on _ _ _ c.loop-rest.invariant.fits;
      spelled = spelling_goes_on _ _ _ _ small c.loop-rest-test.true (omega arith) c.loop-rest.invariant.spelled;
    }

pub returns-clause-ok : goal.returns-clause-ok
returns-clause-ok c =
    c.in_ok-extend_from_slice.ensures.items
    ∙ ap (λ xs. c.args.to.now.items ++ xs) (spelling_ends _ _ _ _ c.loop-rest.invariant.room (omega arith) (omega arith) c.loop-rest.invariant.spelled)
