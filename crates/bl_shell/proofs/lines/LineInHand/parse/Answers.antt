use Rattle.std.proofs.Common.{◌≡◌, ℕ, ◌-◌, ◌<◌, List, length, take, Bool, true, false, cond, sym, ap, arith, length-take}
use Rattle.std.specs.Prelude.{◌==◌, slice_index}
use Rattle.std.proofs.lemmas.Bool.{lt-ltb}
use Rattle.bl_script.specs.Lines.{without_return, words}
use Rattle.bl_script.specs.Parsing.{parsed, ordered}
use Rattle.bl_script.specs.declared.command.Parsed.TheVariants.{Refused}
use Rattle.bl_script.specs.declared.command.Refusal.TheVariants.{Long}
use Rattle.bl_shell.proofs.lines.LineInHand.parse.Goals as goal

one_less : (t : Bool) (line : List ℕ) → 67108865 < length line → 67108864 < length (cond t (take (length line - 1) line) line)
one_less true line lt = omega (arith, lt, length-take (length line - 1) line)
one_less false line lt = omega (arith, lt)

too_long : (line : List ℕ) → 67108864 < length line → Refused Long ≡ parsed line
unfolding parsed
too_long line lt = ap (λ t. cond t (Refused Long) (ordered line (words line))) (sym (lt-ltb 67108864 (length line) lt))

pub returns-then-self-clause-parsed : goal.returns-then-self-clause-parsed
returns-then-self-clause-parsed c = λ front held. too_long (without_return front) (one_less (slice_index front (length front - 1) == 13) front (held.long c.if-self.true))
