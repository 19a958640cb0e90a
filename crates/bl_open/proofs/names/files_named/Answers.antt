use Rattle.std.proofs.Common.{◌++◌, ◌∷◌, [], List, ap, map, string_bytes, subst, sym, ◌∙◌, take}
use Rattle.bl_entry.proofs.ItemLemmas.{some_is}
use Rattle.bl_names.specs.declared.name.FileName.{FileName}
use Rattle.bl_names.specs.Names.{IsNameOf}
use Rattle.bl_site.specs.Disk.{Name}
use Rattle.bl_open.specs.Listing.{AreNamed}
use Rattle.bl_open.proofs.ListingLemmas.{foreign_more, name_next, named_more}
use Rattle.bl_open.proofs.names.files_named.Goals as goal
use Rattle.bl_open.proofs.names.files_named.Goals.{in-Some+in_ok-push, in_default}

pub loop-name-preserved : goal.loop-name-preserved
loop-name-preserved c =
    let names = take c.loop-name.name-index (map string_bytes c.args.names.now) in
    let name = string_bytes c.name-item.result in
    let more = name_next string_bytes c.args.names.now c.loop-name.name-index c.name-item.result c.loop-name-test.true c.name-item.is in
    subst (λ (ns : List Name). AreNamed ns c.match-parse_name.files.items) (sym more) (elim c.match-parse_name.branch [
      | in-Some+in_ok-push w ↦
          let found : IsNameOf name w.in-Some.file = subst (λ (n : Name). IsNameOf n w.in-Some.file) c.as_str.ensures.value w.in-Some.ensures.found in
          subst (λ (fs : List FileName). AreNamed (names ++ name ∷ []) fs) (sym (ap (λ v. v.items) w.files-is ∙ w.in_ok-push.ensures.items))
          (named_more names c.loop-name.files.items name w.in-Some.file found
          (λ g is. some_is (sym (c.parse_name.ensures.all g (subst (λ (n : Name). IsNameOf n g) (sym c.as_str.ensures.value) is)) ∙ w.in-Some.is)) c.loop-name.invariant)
      | in_default w ↦
          subst (λ (fs : List FileName). AreNamed (names ++ name ∷ []) fs) (sym (ap (λ v. v.items) w.files-is))
          (foreign_more names c.loop-name.files.items name (λ f is. w.in_default.not-Some f (c.parse_name.ensures.all f (subst (λ (n : Name). IsNameOf n f) (sym c.as_str.ensures.value) is))) c.loop-name.invariant)
    ])
