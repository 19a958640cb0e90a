-- The laws of options and words.
use Rattle.std.proofs.Common.{◌≡◌, ℕ, suc, ◌+◌, ◌-◌, ◌<◌, List, [], ◌∷◌, refl, sym, ◌∙◌, ap, subst, inl, inr, arith, get_or}
use Rattle.std.specs.Prelude.{Option, None, Some, IfSome, Result, Err, length}
use Rattle.std.proofs.lemmas.Bool.Decides.{eqb_tells}
use Rattle.bl_code.specs.Reading.{need, ◌>>=◌}
use Rattle.bl_open.specs.Options.{AreAsked, Words, check_from, check_options, in_order as compared}
use Rattle.bl_open.specs.declared.error.OpenErr.{OpenErr}
use Rattle.bl_open.specs.declared.error.OpenErr.TheVariants.{Differ}
use Rattle.bl_words.specs.declared.parse.Setting.{Setting}
use Rattle.bl_words.specs.Laws.{AreTheOptions, AskForOne, DifferIsOfAnOption}
use Rattle.bl_words.specs.Options.{AreInRange, IsInRange, IsOption, asked_for, at, in_order}
use Rattle.bl_words.specs.Parsing.{AreSettings, value_of}
use Rattle.bl_words.proofs.OptionLemmas.{each, same_words}
use Rattle.bl_words.proofs.ReadLemmas.{same_setting}

same_settings : (words : List (List ℕ)) (s t : List Setting) → AreSettings words s → AreSettings words t → s ≡ t
same_settings [] [] [] a b = refl
same_settings [] [] (t ∷ ts) a b = absurd b
same_settings [] (s ∷ ss) t a b = absurd a
same_settings (word ∷ []) s t a b = absurd a
same_settings (word ∷ text ∷ more) [] t a b = absurd a
same_settings (word ∷ text ∷ more) (s ∷ ss) [] a b = absurd b
same_settings (word ∷ text ∷ more) (s ∷ ss) (t ∷ ts) a b =
    ap (λ x. x ∷ ss) (same_setting word text s t a.0 b.0) ∙ ap (λ xs. t ∷ xs) (same_settings more ss ts a.1 b.1)

pub one : AskForOne
one words a b x y =
    let same = same_settings words x.settings y.settings x.are_settings y.are_settings in
    same_words a b (λ option h. x.asked_is option h ∙ ap (λ settings. value_of settings option) same ∙ sym (y.asked_is option h))

asked_in_range : (asked : Words) → AreAsked asked → AreInRange (in_order asked)
asked_in_range asked a =
    each (λ option. IfSome (at (in_order asked) option) (IsInRange option)) a.min_blob_size a.blob_file_size a.write_buffer a.table_size a.level0_trigger a.level_base a.level_factor
    a.age_cutoff a.force_threshold

range_asked : (asked : Words) → AreInRange (in_order asked) → AreAsked asked
range_asked asked h = record {
  min_blob_size = h 1 (omega arith, omega arith);
  blob_file_size = h 2 (omega arith, omega arith);
  write_buffer = h 3 (omega arith, omega arith);
  table_size = h 4 (omega arith, omega arith);
  level0_trigger = h 5 (omega arith, omega arith);
  level_base = h 6 (omega arith, omega arith);
  level_factor = h 7 (omega arith, omega arith);
  age_cutoff = h 8 (omega arith, omega arith);
  force_threshold = h 9 (omega arith, omega arith);
}

pub options : AreTheOptions
options = record {
  ranges = λ asked. (asked_in_range asked, range_asked asked);
  compared_are = λ asked. refl;
}

-- the first of some options that is refused is told by its number, and with what is asked for it
abbrev Told : ℕ → List (ℕ × Option ℕ) → ℕ → ℕ → Type 0
Told first list option asked = (place : ℕ) × ((place < length list) × (option ≡ first + place) × ((get_or list place (0, None)).1 ≡ Some asked))

told_later : (first : ℕ) (p : ℕ × Option ℕ) (more : List (ℕ × Option ℕ)) (option asked : ℕ) → Told (first + 1) more option asked → Told first (p ∷ more) option asked
told_later first p more option asked t = (suc t.0, (omega (arith, t.1.0), omega (arith, t.1.1), t.1.2))

told : (first : ℕ) (list : List (ℕ × Option ℕ)) (option value asked : ℕ) → check_from first list ≡ Err (Differ option value asked)
    → Told first list option asked
told first [] option value asked e = cc
told first ((stored, None) ∷ more) option value asked e = told_later first (stored, None) more option asked (told (first + 1) more option value asked e)
told first ((stored, Some word) ∷ more) option value asked e = elim (eqb_tells word stored) [
  | inl same ↦
      let passed : check_from first ((stored, Some word) ∷ more) ≡ check_from (first + 1) more = ap (λ b. need b (Differ first stored word) >>= λ u. check_from (first + 1) more) same.0 in
      told_later first (stored, Some word) more option asked (told (first + 1) more option value asked (sym passed ∙ e))
  | inr other ↦
      let refused : check_from first ((stored, Some word) ∷ more) ≡ Err (Differ first stored word) = ap (λ b. need b (Differ first stored word) >>= λ u. check_from (first + 1) more) other.0 in
      let both : ◌≡◌ {A = Result (Unit {0}) OpenErr} (Err (Differ first stored word)) (Err (Differ option value asked)) = sym refused ∙ e in
      let first_is : first ≡ option = cc in
      let word_is : word ≡ asked = cc in
      (0, (omega arith, omega (arith, first_is), ap Some word_is))
]

-- it is one of the nine
pub differs : DifferIsOfAnOption
unfolding check_options
differs stored words option value asked e =
    let t = told 1 (compared stored words) option value asked e in
    let is : IsOption option = (omega arith, omega arith) in
    let place : t.0 ≡ option - 1 = omega arith in
    let P : ℕ → Type 0 = λ o. (get_or (compared stored words) (o - 1) (0, None)).1 ≡ Some asked → asked_for words o ≡ Some asked in
    let Q : ℕ → Type 0 = λ k. (get_or (compared stored words) k (0, None)).1 ≡ Some asked in
    (is, each P (λ h. h) (λ h. h) (λ h. h) (λ h. h) (λ h. h) (λ h. h) (λ h. h) (λ h. h) (λ h. h) option is (subst Q place t.1.2))
