use Rattle.std.proofs.Common.{List, ℕ, ◌++◌, subst}
use Rattle.std.specs.Prelude.{codes, decimal}
use Rattle.std.specs.Fmt.{HasWritten}
use Rattle.bl_main.proofs.logs.EarlyEndDisplay.fmt.Goals as goal

pub returns-clause-writes : goal.returns-clause-writes
returns-clause-writes g c = λ plain ok.
    let end = c.args.self.now in
    let text : List ℕ → List ℕ = λ name. name ++ (codes ": read up to byte " ++ (decimal end.place ++ (codes " of " ++ (decimal end.length ++ (codes ": " ++ end.reason.now))))) in
    subst (λ name. HasWritten {W = g.row.W.Denot} g.W.Write.write_str_gives c.args.f.now (text name) c.write.new.self) c.as_str-name.ensures.value (c.write.ensures.writes plain ok)
