use Rattle.std.proofs.Common.{◌≡◌, ◌∙◌, ap, arith, inl, inr, sym, drop, length, get_or, ◌⊎◌, ◌≤◌, ◌≢◌, ◌++◌, slice_range}
use Rattle.std.proofs.lemmas.List.{take_rest}
use Rattle.bl_script.specs.Lines.{words, word_of}
use Rattle.bl_script.proofs.WordLemmas.{blank_passes, first_word, no_word}
use Rattle.bl_script.proofs.words.word_and_rest.Goals as goal
use Rattle.bl_script.proofs.words.word_and_rest.Goals.{then-blanks-test+else-line-start-eq32, else-blanks-test}

pub blanks-preserved : goal.blanks-preserved
blanks-preserved c = record {
  within = omega arith;
  same = c.blanks.invariant.same ∙ blank_passes c.args.line.now c.blanks.start c.blanks-test.true c.if-line-start-eq32.true;
}

begins : (c : goal.After-result-2-1) → (length c.args.line.now ≤ c.blanks.start) ⊎ (get_or c.args.line.now c.blanks.start 0 ≢ 32)
begins c = elim c.blanks-test.branch [ then-blanks-test+else-line-start-eq32 w ↦ inr w.if-line-start-eq32.false | else-blanks-test w ↦ inl w.blanks-test.false ]

found : (c : goal.After-result-2-1) → words c.args.line.now ≡ word_of (slice_range c.args.line.now c.blanks.start c.word_end-end.result) ++ words (drop c.word_end-end.result c.args.line.now)
found c = let end = c.word_end-end.ensures in first_word c.args.line.now c.blanks.start c.word_end-end.result c.blanks.invariant.same end.from end.letters end.ends

pub returns-clause-words : goal.returns-clause-words
returns-clause-words c =
    found c ∙ ap (λ r. word_of (slice_range c.args.line.now c.blanks.start c.word_end-end.result) ++ words r) (sym (take_rest c.args.line.now c.word_end-end.result))

pub returns-clause-none : goal.returns-clause-none
returns-clause-none c = let end = c.word_end-end.ensures in no_word c.args.line.now c.blanks.start c.word_end-end.result end.from end.within (begins c) end.ends (found c)
