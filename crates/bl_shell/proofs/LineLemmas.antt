-- Lines of a script, as a front of it is taken off.
use Rattle.std.proofs.Common.{◌≡◌, ◌≢◌, ℕ, suc, List, [], ◌∷◌, ◌++◌, refl, sym, ◌∙◌, ap, append_assoc, append-nil, arith}
use Rattle.std.proofs.lemmas.Bool.{ne_eqb}
use Rattle.bl_script.specs.Lines.{lines_in, whole_lines_in, last_line, without_return}
use Rattle.bl_shell.specs.Carried.{NoLineEnd}

letter_stays : (front more : List ℕ) (b : ℕ) → b ≢ 10 → lines_in front (b ∷ more) ≡ lines_in (front ++ b ∷ []) more
unfolding lines_in
letter_stays front more b other = rw (ne_eqb b 10 other) refl

-- bytes in which no line ends join the front
pub letters_stay : (chunk front more : List ℕ) → NoLineEnd chunk → lines_in front (chunk ++ more) ≡ lines_in (front ++ chunk) more
letters_stay [] front more none = ap (λ f. lines_in f more) (sym (append-nil front))
letters_stay (b ∷ bs) front more none =
    letter_stays front (bs ++ more) b (none 0 (omega arith))
    ∙ letters_stay bs (front ++ b ∷ []) more (λ k lt. none (suc k) (omega (arith, lt)))
    ∙ ap (λ f. lines_in f more) (append_assoc front (b ∷ []) bs)

pub line_ends : (front more : List ℕ) → lines_in front (10 ∷ more) ≡ without_return front ∷ lines_in [] more
unfolding lines_in
line_ends front more = refl

pub lines_end : (front : List ℕ) → lines_in front [] ≡ last_line front
unfolding lines_in
lines_end front = refl

pub last_is : (front : List ℕ) → (front ≡ [] → ⊥) → last_line front ≡ without_return front ∷ []
last_is [] some = absurd (some refl)
last_is (b ∷ bs) some = refl

-- the same of the lines that end
letter_joins : (front more : List ℕ) (b : ℕ) → b ≢ 10 → whole_lines_in front (b ∷ more) ≡ whole_lines_in (front ++ b ∷ []) more
unfolding whole_lines_in
letter_joins front more b other = rw (ne_eqb b 10 other) refl

pub letters_join : (chunk front more : List ℕ) → NoLineEnd chunk → whole_lines_in front (chunk ++ more) ≡ whole_lines_in (front ++ chunk) more
letters_join [] front more none = ap (λ f. whole_lines_in f more) (sym (append-nil front))
letters_join (b ∷ bs) front more none =
    letter_joins front (bs ++ more) b (none 0 (omega arith))
    ∙ letters_join bs (front ++ b ∷ []) more (λ k lt. none (suc k) (omega (arith, lt)))
    ∙ ap (λ f. whole_lines_in f more) (append_assoc front (b ∷ []) bs)

pub whole_ends : (front more : List ℕ) → whole_lines_in front (10 ∷ more) ≡ without_return front ∷ whole_lines_in [] more
unfolding whole_lines_in
whole_ends front more = refl

pub no_whole : (front : List ℕ) → whole_lines_in front [] ≡ []
unfolding whole_lines_in
no_whole front = refl
