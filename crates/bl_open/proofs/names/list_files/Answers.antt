use Rattle.std.proofs.Common.{List, String, map, string_bytes, subst}
use Rattle.std.proofs.lemmas.Result.{IfOk-weaker}
use Rattle.std.specs.declared.alloc.Global.{Global}
use Rattle.bl_open.specs.Listing.{AreNamed}
use Rattle.bl_open.proofs.ListingLemmas.{listed}
use Rattle.bl_open.proofs.names.list_files.Goals as goal

pub returns-clause-listed : goal.returns-clause-listed
returns-clause-listed g c = λ shown. IfOk-weaker c.files_named.result _ _ (λ files named.
    listed (g.S.Site.disk c.args.site.now) (map string_bytes c.in_ok-names.names.items) files.items (c.in_ok-names.ensures.value shown)
    (subst (λ (ns : List (String Global)). AreNamed (map string_bytes ns) files.items) c.deref.ensures.value named)) c.files_named.ensures.named
