use Rattle.bl_open.proofs.names.check_manifest.Goals as goal

pub returns-then-has_file-clause-there : goal.returns-then-has_file-clause-there
returns-then-has_file-clause-there c = λ folder listed. (c.has_file.ensures.there folder listed c.requires).0 c.if-has_file.true
