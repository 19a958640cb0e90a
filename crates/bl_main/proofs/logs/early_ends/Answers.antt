use Rattle.std.proofs.Common.{◌∙◌, ◌∷◌, ◌++◌, [], ℕ, List, String, Global, refl, sym, ap, subst, string_bytes, append_assoc}
use Rattle.std.proofs.lemmas.List.{map-append}
use Rattle.bl_site.specs.Disk.{Name, folder_of}
use Rattle.bl_site.proofs.Quiet.{reads_nothing, reads_on}
use Rattle.bl_main.specs.Ends.{TellsEach, none}
use Rattle.bl_main.specs.declared.logs.EarlyEnd.{EarlyEnd}
use Rattle.bl_main.proofs.EndLemmas.{nothing_more, one_more}
use Rattle.bl_main.proofs.logs.early_ends.Goals as goal

pub loop-name-init : goal.loop-name-init
loop-name-init g c = record {
  quiet = reads_nothing g.S.Site c.args.site.now;
  sees = λ shown. record {
    disk = refl;
    told = ([], (cc, subst (λ ends. TellsEach (folder_of (g.S.Site.disk c.args.site.now)) [] ends) (sym c.new-found.ensures.items) none));
  };
}

pub loop-name-preserved-in-Continue-branch-3 : goal.loop-name-preserved-in-Continue-branch-3
loop-name-preserved-in-Continue-branch-3 g c = record {
  quiet = reads_on g.S.Site c.args.site.now c.loop-name.site c.early_end.new.site c.loop-name.invariant.quiet c.early_end.ensures.quiet;
  sees = λ shown.
      let i = c.loop-name.invariant.sees shown in
      let disk = g.S.Site.disk in
      let log : ℕ × String Global = (c.in-Some.field-0-0.now, c.in-Some.name.now) in
      let done = i.told.0 in
      let E : List Name → List EarlyEnd → Type 0 = λ names ends. TellsEach (folder_of (disk c.args.site.now)) names ends in
      record {
        disk = c.early_end.ensures.stays shown ∙ i.disk;
        told = (
          done ++ log ∷ [],
          (
            append_assoc done (log ∷ []) c.next.new.self ∙ ap (λ rest. done ++ rest) (sym c.in-Some.ensures.steps) ∙ i.told.1.0,
            subst (λ names. E names c.push.new.self.items) (sym (map-append (λ l. string_bytes l.1) done (log ∷ [])))
                (subst (E _) (sym c.in_ok-push.ensures.items)
                (one_more _ (folder_of (disk c.loop-name.site)) _ _ _ (ap folder_of i.disk) c.as_str.ensures.value i.told.1.1 (c.in_ok-end.ensures.tells shown) _ c.in-Some-2.is)),
          ),
        );
      };
}

pub loop-name-preserved : goal.loop-name-preserved
loop-name-preserved g c = record {
  quiet = reads_on g.S.Site c.args.site.now c.loop-name.site c.early_end.new.site c.loop-name.invariant.quiet c.early_end.ensures.quiet;
  sees = λ shown.
      let i = c.loop-name.invariant.sees shown in
      let disk = g.S.Site.disk in
      let log : ℕ × String Global = (c.in-Some.field-0-0.now, c.in-Some.name.now) in
      let done = i.told.0 in
      record {
        disk = c.early_end.ensures.stays shown ∙ i.disk;
        told = (
          done ++ log ∷ [],
          (
            append_assoc done (log ∷ []) c.next.new.self ∙ ap (λ rest. done ++ rest) (sym c.in-Some.ensures.steps) ∙ i.told.1.0,
            subst (λ names. TellsEach (folder_of (disk c.args.site.now)) names c.loop-name.found.items) (sym (map-append (λ l. string_bytes l.1) done (log ∷ [])))
                (nothing_more _ (folder_of (disk c.loop-name.site)) _ _ _ (ap folder_of i.disk) c.as_str.ensures.value i.told.1.1 (c.in_ok-end.ensures.tells shown) c.in_default.is),
          ),
        );
      };
}
