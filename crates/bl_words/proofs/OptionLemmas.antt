-- The nine options, and what is asked for each.
use Rattle.std.proofs.Common.{◌≡◌, ◌≢◌, ℕ, zero, suc, ◌+◌, ◌-◌, List, [], ◌∷◌, length, codes, refl, sym, ◌∙◌, ap, arith, get_or}
use Rattle.std.specs.Prelude.{Option, None, Some, nat_eq, position, unwrap_or, slice_set}
use Rattle.std.specs.Cmp.Lexicographic.{pointwise}
use Rattle.std.proofs.lemmas.List.{append_cancel_left, get_or-set_same, get_or-set_other}
use Rattle.bl_open.specs.Options.{Words}
use Rattle.bl_words.specs.Options.{IsOption, asked_for, at, in_order, name_of, rows, word_of}

-- what holds of each of the nine
pub each : (P : ℕ → Type 0) → P 1 → P 2 → P 3 → P 4 → P 5 → P 6 → P 7 → P 8 → P 9 → (option : ℕ) → IsOption option → P option
each P a b c d e f g h i zero k = absurd (omega arith)
each P a b c d e f g h i (suc zero) k = a
each P a b c d e f g h i (suc (suc zero)) k = b
each P a b c d e f g h i (suc (suc (suc zero))) k = c
each P a b c d e f g h i (suc (suc (suc (suc zero)))) k = d
each P a b c d e f g h i (suc (suc (suc (suc (suc zero))))) k = e
each P a b c d e f g h i (suc (suc (suc (suc (suc (suc zero)))))) k = f
each P a b c d e f g h i (suc (suc (suc (suc (suc (suc (suc zero))))))) k = g
each P a b c d e f g h i (suc (suc (suc (suc (suc (suc (suc (suc zero)))))))) k = h
each P a b c d e f g h i (suc (suc (suc (suc (suc (suc (suc (suc (suc zero))))))))) k = i
each P a b c d e f g h i (suc (suc (suc (suc (suc (suc (suc (suc (suc (suc n)))))))))) k = absurd (omega arith)

-- the number of the option that is called so, or 10
unfoldable pub number_of : List ℕ → ℕ
number_of name = unwrap_or (position (λ r. pointwise nat_eq r.name name) rows) 9 + 1

pub number_of-name_of : (option : ℕ) → IsOption option → number_of (name_of option) ≡ option
unfolding number_of
number_of-name_of = each (λ option. number_of (name_of option) ≡ option) refl refl refl refl refl refl refl refl refl

-- no two are called the same, and no two have the same word
pub names_differ : (a b : ℕ) → IsOption a → IsOption b → name_of a ≡ name_of b → a ≡ b
names_differ a b h k e = sym (number_of-name_of a h) ∙ ap number_of e ∙ number_of-name_of b k

pub words_differ : (a b : ℕ) → IsOption a → IsOption b → word_of a ≡ word_of b → a ≡ b
words_differ a b h k e = names_differ a b h k (append_cancel_left (codes "--") (name_of a) (name_of b) e)

-- one value is set
pub at_same : (given : List (Option ℕ)) (option value : ℕ) → length given ≡ 9 → IsOption option → at (slice_set given (option - 1) (Some value)) option ≡ Some value
at_same given zero value nine h = absurd (omega arith)
at_same given (suc place) value nine h =
    let e : suc place - 1 ≡ place = omega arith in
    ap (λ k. get_or (slice_set given k (Some value)) place None) e ∙ get_or-set_same given place (Some value) None (omega arith)

pub at_other : (given : List (Option ℕ)) (option other value : ℕ) → IsOption option → other ≢ option → at (slice_set given (option - 1) (Some value)) other ≡ at given other
at_other given option zero value h ne = refl
at_other given option (suc place) value h ne = get_or-set_other given (option - 1) place (Some value) None (omega arith)

-- nine values are these
abbrev nine_of : List (Option ℕ) → List (Option ℕ)
nine_of given =
    get_or given 0 None ∷ get_or given 1 None ∷ get_or given 2 None ∷ get_or given 3 None ∷ get_or given 4 None ∷ get_or given 5 None
    ∷ get_or given 6 None ∷ get_or given 7 None ∷ get_or given 8 None ∷ []

pub nine_are : (given : List (Option ℕ)) → length given ≡ 9 → nine_of given ≡ given
nine_are (a ∷ b ∷ c ∷ d ∷ e ∷ f ∷ g ∷ h ∷ i ∷ []) nine = refl
nine_are _ nine = absurd (omega arith)

-- words that ask the same for each option are the same
words_from : List (Option ℕ) → Words
words_from given = record {
  min_blob_size = get_or given 0 None;
  blob_file_size = get_or given 1 None;
  write_buffer = get_or given 2 None;
  table_size = get_or given 3 None;
  level0_trigger = get_or given 4 None;
  level_base = get_or given 5 None;
  level_factor = get_or given 6 None;
  age_cutoff = get_or given 7 None;
  force_threshold = get_or given 8 None;
}

words_from-in_order : (a : Words) → words_from (in_order a) ≡ a
unfolding words_from
words_from-in_order a = refl

same_order : (a b : Words) → ((option : ℕ) → IsOption option → asked_for a option ≡ asked_for b option) → in_order a ≡ in_order b
same_order a b h =
    let h1 : a.min_blob_size ≡ b.min_blob_size = h 1 (omega arith, omega arith) in
    let h2 : a.blob_file_size ≡ b.blob_file_size = h 2 (omega arith, omega arith) in
    let h3 : a.write_buffer ≡ b.write_buffer = h 3 (omega arith, omega arith) in
    let h4 : a.table_size ≡ b.table_size = h 4 (omega arith, omega arith) in
    let h5 : a.level0_trigger ≡ b.level0_trigger = h 5 (omega arith, omega arith) in
    let h6 : a.level_base ≡ b.level_base = h 6 (omega arith, omega arith) in
    let h7 : a.level_factor ≡ b.level_factor = h 7 (omega arith, omega arith) in
    let h8 : a.age_cutoff ≡ b.age_cutoff = h 8 (omega arith, omega arith) in
    let h9 : a.force_threshold ≡ b.force_threshold = h 9 (omega arith, omega arith) in
    cc

pub same_words : (a b : Words) → ((option : ℕ) → IsOption option → asked_for a option ≡ asked_for b option) → a ≡ b
same_words a b h = sym (words_from-in_order a) ∙ ap words_from (same_order a b h) ∙ words_from-in_order b
