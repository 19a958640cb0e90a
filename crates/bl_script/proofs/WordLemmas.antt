-- Words, as an index goes over a line.
use Rattle.std.proofs.Common.{◌≡◌, ◌≢◌, ℕ, suc, ◌+◌, ◌-◌, ◌<◌, ◌≤◌, ◌⊎◌, inl, inr, List, [], ◌∷◌, ◌++◌, length, drop, get_or, refl, sym, ◌∙◌, ap, subst, arith, drop-cons, add-one, append-nil, append_assoc, length-take, length-drop, slice_range}
use Rattle.std.proofs.lemmas.Bool.{ne_eqb, cases_lt}
use Rattle.std.proofs.lemmas.List.{drop_all}
use Rattle.std.proofs.lemmas.List.Folds.{drop_split}
use Rattle.bl_script.specs.Lines.{word_of, words, words_in, NoBlank}

-- the list from an index on begins with its item
from_item : (s : List ℕ) (i : ℕ) → i < length s → drop i s ≡ get_or s i 0 ∷ drop (i + 1) s
from_item s i h = drop-cons s i 0 h ∙ ap (λ k. get_or s i 0 ∷ drop k s) (sym (add-one i))

pub blank_passes : (line : List ℕ) (i : ℕ) → i < length line → get_or line i 0 ≡ 32 → words (drop i line) ≡ words (drop (i + 1) line)
unfolding words_in
blank_passes line i h blank = ap words (from_item line i h ∙ ap (λ b. b ∷ drop (i + 1) line) blank)

letter_first : (front rest : List ℕ) (b : ℕ) → b ≢ 32 → words_in front (b ∷ rest) ≡ words_in (front ++ b ∷ []) rest
unfolding words_in
letter_first front rest b letter = rw (ne_eqb b 32 letter) refl

-- bytes that are no blank join the word
letters_join : (chunk front more : List ℕ) → NoBlank chunk → words_in front (chunk ++ more) ≡ words_in (front ++ chunk) more
letters_join [] front more none = ap (λ f. words_in f more) (sym (append-nil front))
letters_join (b ∷ bs) front more none =
    letter_first front (bs ++ more) b (none 0 (omega arith))
    ∙ letters_join bs (front ++ b ∷ []) more (λ k lt. none (suc k) (omega (arith, lt)))
    ∙ ap (λ f. words_in f more) (append_assoc front (b ∷ []) bs)

-- the word is whole at the line's end and at a blank
word_ends : (front line : List ℕ) (i : ℕ) → (length line ≤ i) ⊎ (get_or line i 0 ≡ 32) → words_in front (drop i line) ≡ word_of front ++ words (drop i line)
unfolding words_in
word_ends front line i ends =
    let P : List ℕ → Type 0 = λ rest. words_in front rest ≡ word_of front ++ words rest in
    let past : length line ≤ i → P (drop i line) = λ h. subst P (sym (drop_all i line h)) (sym (append-nil (word_of front))) in
    elim ends [
      | inl h ↦ past h
      | inr blank ↦ elim (cases_lt i (length line)) [
        | inl h ↦ subst P (sym (from_item line i h ∙ ap (λ b. b ∷ drop (i + 1) line) blank)) refl
        | inr h ↦ past h
      ]
    ]

-- a line that begins with a word and ends, or has a blank, behind it
pub first_word : (line : List ℕ) (start end : ℕ) → words line ≡ words (drop start line) → start ≤ end → NoBlank (slice_range line start end)
    → (length line ≤ end) ⊎ (get_or line end 0 ≡ 32) → words line ≡ word_of (slice_range line start end) ++ words (drop end line)
first_word line start end same le letters ends =
    same ∙ ap words (drop_split line start end le) ∙ letters_join (slice_range line start end) [] (drop end line) letters
    ∙ word_ends (slice_range line start end) line end ends

pub no_word : (line : List ℕ) (start end : ℕ) → start ≤ end → end ≤ length line → (length line ≤ start) ⊎ (get_or line start 0 ≢ 32) → (length line ≤ end) ⊎ (get_or line end 0 ≡ 32)
    → words line ≡ word_of (slice_range line start end) ++ words (drop end line) → slice_range line start end ≡ [] → words line ≡ []
unfolding words_in
no_word line start end le within begins ends same none =
    let size : end - start ≡ length (slice_range line start end) = simp (length-take, length-drop) (omega arith) in
    let h : end ≡ start = omega (arith, size, ap length none) in
    let past : length line ≤ end → words line ≡ [] = λ gone. same ∙ ap (λ w. word_of w ++ words (drop end line)) none ∙ ap words (drop_all end line gone) in
    elim ends [
      | inl gone ↦ past gone
      | inr blank ↦ elim begins [
        | inl gone ↦ past (rw h gone)
        | inr letter ↦ absurd (letter (ap (λ k. get_or line k 0) (sym h) ∙ blank))
      ]
    ]
