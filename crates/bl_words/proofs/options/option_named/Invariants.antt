use Rattle.std.proofs.Common.{◌≢◌, ℕ, ◌<◌, ◌≤◌}
use Rattle.bl_words.specs.Options.{name_of}
use Rattle.bl_words.proofs.options.option_named.Given as goal

abbrev pub invariant-loop-option : goal.invariant-loop-option
invariant-loop-option l = (k : ℕ) → 1 ≤ k → k < l.option → l.name ≢ name_of k
