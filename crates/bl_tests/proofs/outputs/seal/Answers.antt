use Rattle.bl_tests.proofs.outputs.seal.Goals as goal

pub returns : goal.returns
returns c = record {
  usable = c.in_ok-sealed.ensures.usable;
  there = (c.in_ok-sealed.ensures.sealed 0).there tt c.requires.there;
}
