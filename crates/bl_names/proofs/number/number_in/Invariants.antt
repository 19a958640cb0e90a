use Rattle.std.proofs.Common.{◌≡◌, ℕ, ◌^◌, ◌<◌, drop, get_or}
use Rattle.std.specs.Int.{IsInRange}
use Rattle.bl_names.proofs.DigitLemmas.{read_on}
use Rattle.bl_names.proofs.number.number_in.Given as goal

pub record Reads (text : Rattle.std.proofs.Common.List ℕ) (number index : ℕ) : Type 0 where
  pub digits : (k : ℕ) → k < index → IsInRange 48 57 (get_or text k 0)
  pub value : read_on number (drop index text) ≡ read_on 0 text
  pub small : number < 10 ^ index

abbrev pub invariant-loop-digit : goal.invariant-loop-digit
invariant-loop-digit l = Reads l.text l.number l.digit-index
