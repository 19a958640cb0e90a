-- Steps that may give nothing.
use Rattle.std.specs.Prelude.{Option, option_and_then}

infixl 10 ◌then◌
-- the second step, of what the first one gave
abbrev pub ◌then◌ : {A B : Type 0} → Option A → (A → Option B) → Option B
o then f = option_and_then f o
