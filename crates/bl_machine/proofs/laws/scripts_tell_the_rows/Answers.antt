use Rattle.bl_machine.proofs.RowLemmas.{put_is_read, flushed_is_listed, inline_is_listed, none_are_listed, empty_is_read}
use Rattle.bl_machine.proofs.laws.scripts_tell_the_rows.Goals as goal

pub returns : goal.returns
returns c = record { read = put_is_read; flushed = flushed_is_listed; inline = inline_is_listed; none = none_are_listed; empty = empty_is_read }
