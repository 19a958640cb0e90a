use Rattle.std.proofs.Common.{map, string_bytes, arith}
use Rattle.std.proofs.lemmas.List.{length-map}
use Rattle.bl_words.proofs.ReadLemmas.{follows_by_one, follows_no_further, follows_on, follows_to_the_end, one_of, two_of}
use Rattle.bl_words.proofs.parse.parse_words.Goals as goal

pub returns-then-words-place-lt2 : goal.returns-then-words-place-lt2
returns-then-words-place-lt2 c =
    follows_by_one (map string_bytes c.args.words.now) c.words.place c.words.given _ c.words.invariant
    (one_of string_bytes c.args.words.now c.words.place (omega (arith, c.words-test.true, c.if-words-place-lt2.true)))

pub returns-in_err-given : goal.returns-in_err-given
returns-in_err-given c =
    rw c.from_residual.ensures (
    follows_no_further (map string_bytes c.args.words.now) c.words.place c.words.given c.as_str.result.now c.as_str-in-words.result.now c.words.invariant
    (two_of string_bytes c.args.words.now c.words.place c.index-words-place.result c.index-words-place-in-words.result c.as_str.result.now c.as_str-in-words.result.now
    (omega (arith, c.if-words-place-lt2.false)) c.index-words-place.is c.index-words-place-in-words.is c.as_str.ensures.value c.as_str-in-words.ensures.value)
    c.in_err-given.ensures)

pub words-preserved : goal.words-preserved
words-preserved c =
    follows_on (map string_bytes c.args.words.now) c.words.place c.words.given c.as_str.result.now c.as_str-in-words.result.now c.in_ok-given.given c.words.invariant
    (two_of string_bytes c.args.words.now c.words.place c.index-words-place.result c.index-words-place-in-words.result c.as_str.result.now c.as_str-in-words.result.now
    (omega (arith, c.if-words-place-lt2.false)) c.index-words-place.is c.index-words-place-in-words.is c.as_str.ensures.value c.as_str-in-words.ensures.value)
    c.in_ok-given.ensures

pub returns : goal.returns
returns c =
    let len = length-map c.args.words.now string_bytes in
    follows_to_the_end (map string_bytes c.args.words.now) c.words.place c.words.given c.asked_of.result c.words.invariant (omega (arith, c.words-test.false)) c.asked_of.ensures
