use Rattle.std.proofs.Common.{◌≡◌, ◌<◌, ◌≤◌, ◌+◌, ◌-◌, length, get_or, ℕ, refl, sym, ◌∙◌, subst, arith, None, Some, slice_get}
use Rattle.std.proofs.lemmas.Option.{slice_get_read}
use Rattle.bl_site.specs.Disk.{Name}
use Rattle.bl_names.specs.Names.{name_of}
use Rattle.bl_names.specs.declared.name.FileName.TheVariants.{Blob}
use Rattle.bl_out.specs.Steps.{IsNext}
use Rattle.bl_out.specs.contracts.writer.Output.{the_view}
use Rattle.bl_out.proofs.SealLemmas.{blob_answers, blob_is_next, closed_blob_among}
use Rattle.bl_out.proofs.writer.Output.sync_blob.Goals as goal

pub sync_next-requires-clause-next : goal.sync_next-requires-clause-next
sync_next-requires-clause-next g c =
    let n = c.index-named.result.now in
    let s = the_view c.self.inside in
    let none : s.table ≡ None = rw (← c.self.view_is) at c.requires.tables.0 in
    let count : c.len.result ≡ length s.tables = omega (arith, c.len.ensures, c.self.inside.tables.ok.0) in
    let value : n ≡ get_or s.blobs (s.sealed - length s.tables) n = subst (λ (k : ℕ). n ≡ get_or s.blobs (s.sealed - k) n) count c.index-named.ensures in
    let le : length s.tables ≤ s.sealed = rw (← c.self.view_is) at c.requires.tables.1 in
    let less : s.sealed < length s.tables + length s.blobs = rw (← c.self.view_is) at c.requires.next in
    let at : slice_get s.blobs (s.sealed - length s.tables) ≡ Some n = slice_get_read s.blobs (length s.blobs) (s.sealed - length s.tables) n refl (omega arith) value in
    let name : c.as_str.result.now ≡ name_of (Blob n.number) = c.as_str.ensures.value ∙ c.in_ok-name.ensures in
    rw (← c.self.view_is) (λ o is. subst (λ (m : Name). IsNext m o) (sym name) (blob_is_next o s is none le n at))

pub sync_next-requires-clause-drawn : goal.sync_next-requires-clause-drawn
sync_next-requires-clause-drawn g c =
    let n = c.index-named.result.now in
    let s = the_view c.self.inside in
    let count : c.len.result ≡ length s.tables = omega (arith, c.len.ensures, c.self.inside.tables.ok.0) in
    let value : n ≡ get_or s.blobs (s.sealed - length s.tables) n = subst (λ (k : ℕ). n ≡ get_or s.blobs (s.sealed - k) n) count c.index-named.ensures in
    let le : length s.tables ≤ s.sealed = rw (← c.self.view_is) at c.requires.tables.1 in
    let less : s.sealed < length s.tables + length s.blobs = rw (← c.self.view_is) at c.requires.next in
    let name : c.as_str.result.now ≡ name_of (Blob n.number) = c.as_str.ensures.value ∙ c.in_ok-name.ensures in
    rw (← c.self.view_is) (closed_blob_among s n (s.sealed - length s.tables) c.self.invariant.0 (omega arith) value c.as_str.result.now name)

pub returns-clause-named : goal.returns-clause-named
returns-clause-named g c =
    let n = c.index-named.result.now in
    let s = the_view c.self.inside in
    let none : s.table ≡ None = rw (← c.self.view_is) at c.requires.tables.0 in
    let count : c.len.result ≡ length s.tables = omega (arith, c.len.ensures, c.self.inside.tables.ok.0) in
    let value : n ≡ get_or s.blobs (s.sealed - length s.tables) n = subst (λ (k : ℕ). n ≡ get_or s.blobs (s.sealed - k) n) count c.index-named.ensures in
    let le : length s.tables ≤ s.sealed = rw (← c.self.view_is) at c.requires.tables.1 in
    let less : s.sealed < length s.tables + length s.blobs = rw (← c.self.view_is) at c.requires.next in
    let at : slice_get s.blobs (s.sealed - length s.tables) ≡ Some n = slice_get_read s.blobs (length s.blobs) (s.sealed - length s.tables) n refl (omega arith) value in
    rw (← c.self.view_is) (λ o is. blob_answers o s is none le n at)
