use Rattle.std.proofs.Common.{◌≡◌, sym, subst, rules}
use Rattle.bl_entry.specs.declared.key.Entry.{Entry}
use Rattle.bl_entry.specs.declared.key.Kind.TheVariants.{BlobRef}
use Rattle.bl_entry.specs.Entries.{IsProper}
use Rattle.bl_out.specs.Written.{reference_to}
use Rattle.bl_out.proofs.AddLemmas.{proper_reference}
use Rattle.bl_out.proofs.writer.referring.Goals as goal

pub returns-clause-proper : goal.returns-clause-proper
returns-clause-proper c =
    let w : Entry = record { key = record { user = c.in_ok-user.user; seq = c.entry.inside.0.0.seq; kind = BlobRef }; value = c.in_ok-value.value } in
    let same : w ≡ reference_to c.args.index.now c.args.entry.now = search rules in
    subst IsProper (sym same) (proper_reference c.args.index.now c.args.entry.now c.requires.proper c.requires.file c.requires.place.0 c.requires.place.1)
