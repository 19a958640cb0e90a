use Rattle.std.proofs.Common.{◌∙◌, sym, length}
use Rattle.std.proofs.lemmas.Bool.{eqb-true}
use Rattle.std.proofs.lemmas.List.{nil_from_length}
use Rattle.bl_names.specs.Names.{name_of}
use Rattle.bl_names.specs.declared.name.FileName.TheVariants.{Table}
use Rattle.bl_out.proofs.AppendLemmas.{nothing_appended}
use Rattle.bl_out.proofs.table.TableInHand.write.Goals as goal

pub returns-then-is_empty-clause-appended : goal.returns-then-is_empty-clause-appended
returns-then-is_empty-clause-appended g c = λ shown es s.
    record {
      bytes = c.in_ok-bytes.bytes;
      behind = c.in_ok-bytes.ensures.bytes es s;
      appends = nothing_appended (name_of (Table c.args.self.now.number)) c.in_ok-bytes.bytes (g.S.Site.disk c.args.site.now) (sym c.as_slice.ensures ∙ nil_from_length c.as_slice.result.now (eqb-true (length c.as_slice.result.now) 0 (sym c.if-is_empty.ensures))) (c.requires.there shown);
    }
