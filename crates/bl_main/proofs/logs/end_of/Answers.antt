use Rattle.std.proofs.Common.{◌∙◌, [], refl}
use Rattle.bl_site.proofs.Quiet.{reads_nothing, reads_on}
use Rattle.bl_main.proofs.EndLemmas.{same_file, ends_at, finds_more, found_there}
use Rattle.bl_main.proofs.logs.end_of.Goals as goal

pub records-init : goal.records-init
records-init g c = record {
  quiet = reads_nothing g.S.Site c.args.site.now;
  sees = λ shown. record {
    name = c.in_ok-reader.ensures.name ∙ c.in_ok-from_str.ensures.ok;
    disk = refl;
    found = ([], c.in_ok-reader.ensures.begins _);
  };
}

pub returns-in-End-clause-ends : goal.returns-in-End-clause-ends
returns-in-End-clause-ends g c = λ shown.
    let start = c.records.invariant.sees shown in
    let same = same_file _ _ _ _ start.disk start.name in
    ends_at _ _ _ _ _ _ _ same c.in-End.is (c.in_ok-place.ensures.answers shown start.found.0 (found_there _ _ _ _ same start.found.1))

pub records-preserved : goal.records-preserved
records-preserved g c = record {
  quiet = reads_on g.S.Site c.args.site.now c.records.site c.next.new.site c.records.invariant.quiet c.in_ok-place.ensures.quiet;
  sees = λ shown.
      let start = c.records.invariant.sees shown in
      let same = same_file _ _ _ _ start.disk start.name in
      record {
        name = c.in_ok-place.ensures.name ∙ start.name;
        disk = (c.in_ok-place.ensures.quiet.stays shown).same ∙ start.disk;
        found = finds_more _ _ _ _ _ _ same c.in-Record.is (c.in_ok-place.ensures.answers shown start.found.0 (found_there _ _ _ _ same start.found.1));
      };
}
