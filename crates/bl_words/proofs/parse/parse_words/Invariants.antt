use Rattle.std.proofs.Common.{length, ◌-◌, map, string_bytes}
use Rattle.bl_words.proofs.ReadLemmas.{Follows}
use Rattle.bl_words.proofs.parse.parse_words.Given as goal

abbrev pub invariant-words : goal.invariant-words
invariant-words l = Follows (map string_bytes l.words) l.place l.given

abbrev pub decreases-words : goal.decreases-words
decreases-words l = length l.words - l.place
