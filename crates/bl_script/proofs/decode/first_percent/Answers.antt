use Rattle.std.proofs.Common.{◌≡◌, ◌++◌, ◌<◌, Option, None, Some, length, take, drop, arith, ℕ, List}
use Rattle.std.specs.Prelude.{MatchOption}
use Rattle.memchr.specs.Find.{IsFirstByte, is_byte}
use Rattle.percent_encoding.specs.Percent.{percent_decode}
use Rattle.bl_script.proofs.DecodeLemmas.{front_stays, all_stays}
use Rattle.bl_script.proofs.decode.first_percent.Goals as goal

found : (word : List ℕ) (r : Option ℕ) → IsFirstByte (is_byte 37) word r
    → MatchOption r (percent_decode word ≡ word) (λ at. (at < length word) × (percent_decode word ≡ take at word ++ percent_decode (drop at word)))
found word None none = all_stays word none
found word (Some at) first = (first.0.high, front_stays word at (omega (arith, first.0.high)) first.0.before)

pub returns : goal.returns
returns c = found c.args.word.now c.memchr.result c.memchr.ensures
