use Rattle.std.proofs.Common.{◌≡◌, [], ◌∷◌, length, refl, inl, inr, ⊎_elim}
use Rattle.std.proofs.lemmas.Result.{IfErr-weaker}
use Rattle.bl_names.specs.Names.{name_of}
use Rattle.bl_names.specs.declared.name.FileName.TheVariants.{Table}
use Rattle.bl_out.specs.States.{names_of}
use Rattle.bl_out.specs.contracts.writer.Output.{the_view}
use Rattle.bl_out.proofs.BecomeLemmas.{seal_causes}
use Rattle.bl_out.proofs.QuietLemmas.{touches_more}
use Rattle.bl_out.proofs.PartLemmas.{at_ok, entry_goes, none_sealed, on_ok, still_with, table_among}
use Rattle.bl_out.proofs.writer.Output.put.Goals as goal

pub returns-clause-becomes : goal.returns-clause-becomes
returns-clause-becomes g c = λ next.
    let s = the_view c.self.inside in
    let h = c.in-Some.hand in
    let a = c.write.ensures in
    let old = g.S.Site.disk c.args.site.now in
    let new = g.S.Site.disk c.write.new.site in
    let unsealed : s.sealed ≡ 0 = rw (← c.self.view_is) at c.requires.unsealed in
    on_ok c.write.result (λ x is. rw (← c.self.view_is)
    (entry_goes g.S.Site c.names_one.ensures s c.self.invariant.0 next c.args.site.now c.write.new.site c.args.entry.now h c.write.new.self c.in-Some.is (none_sealed s.sealed (length s.tables) unsealed)
    (at_ok c.write.result x is a.spans) a.number (λ shown. at_ok c.write.result x is (a.appended shown)) a.certain
    (λ shown. still_with (name_of (Table h.number)) old new (a.touches.others shown) (at_ok c.write.result x is (a.still shown))) c.write.new.failed))

pub returns-clause-acts : goal.returns-clause-acts
returns-clause-acts g c =
    let s = the_view c.self.inside in
    let h = c.in-Some.hand in
    let a = c.write.ensures in
    let name = name_of (Table h.number) in
    rw (← c.self.view_is) (record {
      touches = touches_more g.S.Site (name ∷ []) (names_of s.drawn) c.args.site.now c.write.new.site (table_among s h c.in-Some.is c.self.invariant.0 name refl) a.touches;
      tells_nothing = a.tells_nothing;
      changes = a.flag.changes;
      was_set = a.flag.was_set;
      asked = λ set. ⊎_elim (λ was. inl was) (λ rose. inr (inl rose)) (a.flag.asked set);
      still = λ unset. (a.flag.still unset, refl);
      memory = IfErr-weaker c.write.result _ _ (λ e stays unset. (stays unset).0) a.stays;
      causes = seal_causes c.write.result a.causes;
      disk = a.disk;
    })
