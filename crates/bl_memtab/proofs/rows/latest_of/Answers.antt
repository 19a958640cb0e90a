use Rattle.std.proofs.Common.{◌∙◌, ◌+◌, ◌*◌, arith, ap}
use Rattle.std.specs.Prelude.{option_and_then}
use Rattle.std.specs.Option.{option_copied}
use Rattle.bl_memtab.specs.Rows.{entries_in, if_of_user}
use Rattle.bl_memtab.proofs.PlaceLemmas.{latest_is}
use Rattle.bl_memtab.proofs.rows.latest_of.Goals as goal

pub returns-in_err-first_from : goal.returns-in_err-first_from
returns-in_err-first_from c =
    ap option_copied c.from_residual.ensures ∙ ap (option_and_then (if_of_user c.args.key.now)) c.in_err-first_from.ensures
    ∙ latest_is c.args.key.now c.args.seq (c.from.result * 256 + 255) (entries_in c.args.rows.now) c.requires.ascending (omega (arith, c.from.ensures))

pub returns : goal.returns
returns c =
    c.of_user.ensures ∙ ap (option_and_then (if_of_user c.args.key.now)) c.in_ok-first_from.ensures
    ∙ latest_is c.args.key.now c.args.seq (c.from.result * 256 + 255) (entries_in c.args.rows.now) c.requires.ascending (omega (arith, c.from.ensures))
