use Rattle.bl_read.proofs.told.told_by_table.Goals as goal

pub returns-in-Err-clause-corrupt : goal.returns-in-Err-clause-corrupt
returns-in-Err-clause-corrupt g c = λ shown name place is. c.in-Err.ensures.corrupt shown name place (cc is)
