use Rattle.std.proofs.Common.{◌≡◌, ◌<◌, length, refl, sym, ◌∙◌, ap, subst, Some, slice_get}
use Rattle.std.proofs.lemmas.Option.{slice_get_read}
use Rattle.bl_site.specs.Disk.{Name}
use Rattle.bl_names.specs.Names.{name_of}
use Rattle.bl_names.specs.declared.name.FileName.TheVariants.{Table}
use Rattle.bl_edit.specs.declared.edit.NewTable.{NewTable}
use Rattle.bl_out.specs.Outputs.{IsSealedAs, next_file}
use Rattle.bl_out.specs.Steps.{IsNext}
use Rattle.bl_out.specs.declared.sealed.Sealed.TheVariants as sealed
use Rattle.bl_out.specs.contracts.writer.Output.{the_view}
use Rattle.bl_out.proofs.BecomeLemmas.{acts_still}
use Rattle.bl_out.proofs.PartLemmas.{memory_of}
use Rattle.bl_out.proofs.SealLemmas.{closed_among, table_answers, table_is_next}
use Rattle.bl_out.proofs.writer.Output.sync_table.Goals as goal

pub returns-in_err-name-clause-acts : goal.returns-in_err-name-clause-acts
returns-in_err-name-clause-acts g c =
    rw (← c.self.view_is) (acts_still g.S.Site c.from_residual-in_err-name.result (the_view c.self.inside) c.args.site.now (λ shown other sure may. g.met.S.Site.only shown c.args.site.now other sure may) (λ shown cut left. g.met.S.Site.only_now shown c.args.site.now cut left) (memory_of c.from_residual-in_err-name.result c.from_residual-in_err-name.ensures.1))

pub sync_next-requires-clause-next : goal.sync_next-requires-clause-next
sync_next-requires-clause-next g c =
    let n = c.index.result.now in
    let s = the_view c.self.inside in
    let less : s.sealed < length s.tables = rw (← c.self.view_is) at c.requires.next in
    let at : slice_get s.tables s.sealed ≡ Some n = slice_get_read s.tables (length s.tables) s.sealed n refl less c.index.ensures in
    let name : c.as_str.result.now ≡ name_of (Table n.number) = c.as_str.ensures.value ∙ c.in_ok-name.ensures ∙ ap (λ (t : NewTable). name_of (Table t.number)) c.in_ok-named.ensures.copy in
    rw (← c.self.view_is) (λ o is. subst (λ (m : Name). IsNext m o) (sym name) (table_is_next o s is n at))

pub sync_next-requires-clause-drawn : goal.sync_next-requires-clause-drawn
sync_next-requires-clause-drawn g c =
    let n = c.index.result.now in
    let s = the_view c.self.inside in
    let less : s.sealed < length s.tables = rw (← c.self.view_is) at c.requires.next in
    let name : c.as_str.result.now ≡ name_of (Table n.number) = c.as_str.ensures.value ∙ c.in_ok-name.ensures ∙ ap (λ (t : NewTable). name_of (Table t.number)) c.in_ok-named.ensures.copy in
    rw (← c.self.view_is) (closed_among s n s.sealed c.self.invariant.0 less c.index.ensures c.as_str.result.now name)

pub returns-clause-named : goal.returns-clause-named
returns-clause-named g c =
    let n = c.index.result.now in
    let s = the_view c.self.inside in
    let less : s.sealed < length s.tables = rw (← c.self.view_is) at c.requires.next in
    let at : slice_get s.tables s.sealed ≡ Some n = slice_get_read s.tables (length s.tables) s.sealed n refl less c.index.ensures in
    rw (← c.self.view_is) (λ o is filled. subst (λ (t : NewTable). IsSealedAs (next_file o) (Some (sealed.Table t))) (sym c.in_ok-named.ensures.copy) (table_answers o s is n at filled))
