use Rattle.std.proofs.Common.{◌≡◌, ◌≤◌, ◌-◌, drop}
use Rattle.bl_script.specs.Lines.{words}
use Rattle.bl_script.proofs.words.word_and_rest.Given as goal

abbrev pub invariant-blanks : goal.invariant-blanks
invariant-blanks l = record { within : l.start ≤ l.n; same : words l.line ≡ words (drop l.start l.line) }

abbrev pub decreases-blanks : goal.decreases-blanks
decreases-blanks l = l.n - l.start
