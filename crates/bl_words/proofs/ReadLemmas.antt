-- Words that are read two by two, from values that were asked for before them.
use Rattle.std.proofs.Common.{◌≡◌, ◌≢◌, ℕ, zero, suc, ◌+◌, ◌-◌, ◌<◌, ◌≤◌, List, [], ◌∷◌, length, refl, sym, ◌∙◌, ap, subst, inl, inr, arith, get_or, drop, map, drop-cons, add-one}
use Rattle.std.specs.Prelude.{Option, None, Some, IfSome, slice_set, if◌then◌else◌}
use Rattle.std.proofs.lemmas.Bool.Decides.{eqb_tells}
use Rattle.std.proofs.lemmas.List.{length-map, length-set, drop-map, drop_all}
use Rattle.bl_open.specs.Options.{Words}
use Rattle.bl_words.specs.declared.parse.Setting.{Setting}
use Rattle.bl_words.specs.Options.{AreInRange, IsInRange, IsOption, at, in_order, word_of}
use Rattle.bl_words.specs.Parsing.{AreOnce, AreSettings, AreRefused, AsksFor, IsSetting, Spells, Takes, value_of}
use Rattle.bl_words.proofs.OptionLemmas.{at_same, at_other, words_differ}

-- a text that spells no value in the option's range sets it to none
pub sets_none : (word text : List ℕ) (option : ℕ) → IsOption option → word ≡ word_of option
    → ((value : ℕ) → Spells text value → ¬ IsInRange option value) → (s : Setting) → ¬ IsSetting word text s
sets_none word text option h e none s is =
    let same : s.option ≡ option = words_differ s.option option is.is_option h (sym is.word_is ∙ e) in
    none s.value is.spells (let P : ℕ → Type 0 = λ o. IsInRange o s.value in subst P same is.in_range)

-- two words are one setting at most
pub same_setting : (word text : List ℕ) (s t : Setting) → IsSetting word text s → IsSetting word text t → s ≡ t
same_setting word text s t a b =
    let option : s.option ≡ t.option = words_differ s.option t.option a.is_option b.is_option (sym a.word_is ∙ b.word_is) in
    let value : s.value ≡ t.value = a.spells.value_is ∙ sym b.spells.value_is in
    let setting : ℕ → ℕ → Setting = λ o v. record { option = o; value = v } in
    ap (λ o. setting o s.value) option ∙ ap (λ v. setting t.option v) value

pub takes_one : (given : List (Option ℕ)) (word text : List ℕ) (a b : List (Option ℕ)) → Takes given word text a → Takes given word text b → a ≡ b
takes_one given word text a b x y =
    let same = same_setting word text x.setting y.setting x.is_setting y.is_setting in
    x.after_is ∙ ap (λ s. slice_set given (s.option - 1) (Some s.value)) same ∙ sym y.after_is

-- from some values to others, two words at a time
abbrev pub Reads : List (Option ℕ) → List (List ℕ) → List (Option ℕ) → Type 0
Reads given [] after = given ≡ after
Reads given (word ∷ []) after = ⊥
Reads given (word ∷ text ∷ more) after = (mid : List (Option ℕ)) × (Takes given word text mid × Reads mid more after)

-- the values stay nine, each in its range
set_in_range : (given : List (Option ℕ)) (s : Setting) → length given ≡ 9 → IsOption s.option → IsInRange s.option s.value → AreInRange given → AreInRange (slice_set given (s.option - 1) (Some s.value))
set_in_range given s nine is r h option k = elim (eqb_tells option s.option) [
  | inl same ↦
      let P : ℕ → Type 0 = λ o. IfSome (at (slice_set given (s.option - 1) (Some s.value)) o) (IsInRange o) in
      let Q : Option ℕ → Type 0 = λ v. IfSome v (IsInRange s.option) in
      subst P (sym same.1) (subst Q (sym (at_same given s.option s.value nine is)) r)
  | inr other ↦
      let Q : Option ℕ → Type 0 = λ v. IfSome v (IsInRange option) in
      subst Q (sym (at_other given s.option option s.value is other.1)) (h option k)
]

pub takes_in_range : (given : List (Option ℕ)) (word text : List ℕ) (after : List (Option ℕ)) → length given ≡ 9 → Takes given word text after → AreInRange given → AreInRange after
takes_in_range given word text after nine t h =
    subst AreInRange (sym t.after_is) (set_in_range given t.setting nine t.is_setting.is_option t.is_setting.in_range h)

takes_nine : (given : List (Option ℕ)) (word text : List ℕ) (after : List (Option ℕ)) → Takes given word text after → length given ≡ 9 → length after ≡ 9
takes_nine given word text after t nine = ap length t.after_is ∙ length-set given (t.setting.option - 1) (Some t.setting.value) ∙ nine

-- a list of settings over values: what is then asked for each option
or_else : Option ℕ → Option ℕ → Option ℕ
or_else None old = old
or_else (Some value) old = Some value

or_none : (v old : Option ℕ) → old ≡ None → or_else v old ≡ v
unfolding or_else
or_none None old e = e
or_none (Some value) old e = refl

pub value_here : (s : Setting) (settings : List Setting) (option : ℕ) → s.option ≡ option → value_of (s ∷ settings) option ≡ Some s.value
value_here s settings option e = elim (eqb_tells s.option option) [
  | inl same ↦ ap (λ b. if b then Some s.value else value_of settings option) same.0
  | inr other ↦ absurd (other.1 e)
]

value_there : (s : Setting) (settings : List Setting) (option : ℕ) → s.option ≢ option → value_of (s ∷ settings) option ≡ value_of settings option
value_there s settings option e = elim (eqb_tells s.option option) [
  | inl same ↦ absurd (e same.1)
  | inr other ↦ ap (λ b. if b then Some s.value else value_of settings option) other.0
]

none_of : (v : Option ℕ) → ((value : ℕ) → v ≡ Some value → ⊥) → v ≡ None
none_of None h = refl
none_of (Some value) h = absurd (h value refl)

-- the settings are of options that nothing was asked for, and none stands twice
record Adds (given : List (Option ℕ)) (settings : List Setting) (after : List (Option ℕ)) : Type 0 where
  fresh : (option value : ℕ) → value_of settings option ≡ Some value → at given option ≡ None
  once : AreOnce settings
  all : (option : ℕ) → IsOption option → at after option ≡ or_else (value_of settings option) (at given option)

nothing_adds : (given : List (Option ℕ)) → Adds given [] given
unfolding or_else
nothing_adds given = record {
  fresh = λ option value none. cc;
  once = tt;
  all = λ option h. refl;
}

-- with one setting before them
adds_more : (given : List (Option ℕ)) (word text : List ℕ) (mid after : List (Option ℕ)) (settings : List Setting) → length given ≡ 9 → (t : Takes given word text mid) → Adds mid settings after
    → Adds given (t.setting ∷ settings) after
unfolding or_else
adds_more given word text mid after settings nine t adds =
    let s = t.setting in
    let is = t.is_setting.is_option in
    let now : at mid s.option ≡ Some s.value = ap (λ g. at g s.option) t.after_is ∙ at_same given s.option s.value nine is in
    let others : (option : ℕ) → option ≢ s.option → at mid option ≡ at given option =
    λ option ne. ap (λ g. at g option) t.after_is ∙ at_other given s.option option s.value is ne in
    let once : value_of settings s.option ≡ None = none_of (value_of settings s.option) (λ value e. let f = adds.fresh s.option value e in cc) in
    record {
      fresh = λ option value e. elim (eqb_tells s.option option) [
        | inl same ↦ subst (λ o. at given o ≡ None) same.1 t.had_none
        | inr other ↦ sym (others option (λ k. other.1 (sym k))) ∙ adds.fresh option value (sym (value_there s settings option other.1) ∙ e)
      ];
      once = (once, adds.once);
      all = λ option h. elim (eqb_tells s.option option) [
        | inl same ↦
            subst (λ o. at after o ≡ or_else (value_of (s ∷ settings) o) (at given o)) same.1
            (adds.all s.option is ∙ ap (λ v. or_else v (at mid s.option)) once ∙ now ∙ ap (λ v. or_else v (at given s.option)) (sym (value_here s settings s.option refl)))
        | inr other ↦
            adds.all option h ∙ ap (λ v. or_else (value_of settings option) v) (others option (λ k. other.1 (sym k)))
            ∙ ap (λ v. or_else v (at given option)) (sym (value_there s settings option other.1))
      ];
    }

-- what is read is settings that are added
record AddsSome (given : List (Option ℕ)) (words : List (List ℕ)) (after : List (Option ℕ)) : Type 0 where
  settings : List Setting
  are_settings : AreSettings words settings
  adds : Adds given settings after

reads_settings : (given : List (Option ℕ)) (words : List (List ℕ)) (after : List (Option ℕ)) → length given ≡ 9 → Reads given words after → AddsSome given words after
reads_settings given [] after nine r = record { settings = []; are_settings = tt; adds = subst (Adds given []) r (nothing_adds given) }
reads_settings given (word ∷ []) after nine r = absurd r
reads_settings given (word ∷ text ∷ more) after nine r =
    let mid = r.0 in
    let t : Takes given word text mid = r.1.0 in
    let rest = reads_settings mid more after (takes_nine given word text mid t nine) r.1.1 in
    record { settings = t.setting ∷ rest.settings; are_settings = (t.is_setting, rest.are_settings); adds = adds_more given word text mid after rest.settings nine t rest.adds }

-- and settings of options that nothing was asked for can be read
settings_read : (given : List (Option ℕ)) (words : List (List ℕ)) (settings : List Setting) → length given ≡ 9 → AreSettings words settings → AreOnce settings
    → ((option value : ℕ) → value_of settings option ≡ Some value → at given option ≡ None) → (after : List (Option ℕ)) × Reads given words after
settings_read given [] [] nine are once fresh = (given, refl)
settings_read given [] (s ∷ settings) nine are once fresh = absurd are
settings_read given (word ∷ []) settings nine are once fresh = absurd are
settings_read given (word ∷ text ∷ more) [] nine are once fresh = absurd are
settings_read given (word ∷ text ∷ more) (s ∷ settings) nine are once fresh =
    let mid : List (Option ℕ) = slice_set given (s.option - 1) (Some s.value) in
    let t : Takes given word text mid = record { setting = s; is_setting = are.0; had_none = fresh s.option s.value (value_here s settings s.option refl); after_is = refl } in
    let rest = settings_read mid more settings (takes_nine given word text mid t nine) are.1 once.1 (λ option value e.
    let ne : s.option ≢ option = λ same. let none = ap (value_of settings) same in let first = once.0 in cc in
    at_other given s.option option s.value are.0.is_option (λ k. ne (sym k)) ∙ fresh option value (value_there s settings option ne ∙ e)) in
    (rest.0, (mid, (t, rest.1)))

-- before any word nothing is asked for
abbrev pub nothing : List (Option ℕ)
nothing = None ∷ None ∷ None ∷ None ∷ None ∷ None ∷ None ∷ None ∷ None ∷ []

nothing_is_asked : (option : ℕ) → at nothing option ≡ None
nothing_is_asked zero = refl
nothing_is_asked (suc zero) = refl
nothing_is_asked (suc (suc zero)) = refl
nothing_is_asked (suc (suc (suc zero))) = refl
nothing_is_asked (suc (suc (suc (suc zero)))) = refl
nothing_is_asked (suc (suc (suc (suc (suc zero))))) = refl
nothing_is_asked (suc (suc (suc (suc (suc (suc zero)))))) = refl
nothing_is_asked (suc (suc (suc (suc (suc (suc (suc zero))))))) = refl
nothing_is_asked (suc (suc (suc (suc (suc (suc (suc (suc zero)))))))) = refl
nothing_is_asked (suc (suc (suc (suc (suc (suc (suc (suc (suc zero))))))))) = refl
nothing_is_asked (suc (suc (suc (suc (suc (suc (suc (suc (suc (suc option)))))))))) = refl

pub read_asks : (words : List (List ℕ)) (asked : Words) → Reads nothing words (in_order asked) → AsksFor words asked
unfolding or_else
read_asks words asked r =
    let some = reads_settings nothing words (in_order asked) refl r in
    record {
      settings = some.settings;
      are_settings = some.are_settings;
      once = some.adds.once;
      asked_is = λ option h. some.adds.all option h ∙ or_none (value_of some.settings option) (at nothing option) (nothing_is_asked option);
    }

pub asked_reads : (words : List (List ℕ)) (asked : Words) → AsksFor words asked → (after : List (Option ℕ)) × Reads nothing words after
asked_reads words asked a = settings_read nothing words a.settings refl a.are_settings a.once (λ option value e. nothing_is_asked option)

-- What is read from the first word on is read from this place on, over what was asked for before it.
pub record Follows (words : List (List ℕ)) (place : ℕ) (given : List (Option ℕ)) : Type 0 where
  pub nine : length given ≡ 9
  pub in_range : AreInRange given
  pub there : (after : List (Option ℕ)) → Reads nothing words after → Reads given (drop place words) after
  pub back : (after : List (Option ℕ)) → Reads given (drop place words) after → Reads nothing words after

pub follows_at_first : (words : List (List ℕ)) → Follows words 0 nothing
follows_at_first words = record {
  nine = refl;
  in_range = λ option h. let P : Option ℕ → Type 0 = λ v. IfSome v (IsInRange option) in subst P (sym (nothing_is_asked option)) tt;
  there = λ after r. r;
  back = λ after r. r;
}

pub follows_on : (words : List (List ℕ)) (place : ℕ) (given : List (Option ℕ)) (word text : List ℕ) (mid : List (Option ℕ)) → Follows words place given
    → drop place words ≡ word ∷ text ∷ drop (place + 2) words → Takes given word text mid → Follows words (place + 2) mid
follows_on words place given word text mid f e t = record {
  nine = takes_nine given word text mid t f.nine;
  in_range = takes_in_range given word text mid f.nine t f.in_range;
  there = λ after r.
      let P : List (List ℕ) → Type 0 = λ ws. Reads given ws after in
      let q = subst P e (f.there after r) in
      let Q : List (Option ℕ) → Type 0 = λ g. Reads g (drop (place + 2) words) after in
      subst Q (takes_one given word text q.0 mid q.1.0 t) q.1.1;
  back = λ after r. let P : List (List ℕ) → Type 0 = λ ws. Reads given ws after in f.back after (subst P (sym e) (mid, (t, r)));
}

-- a setting that cannot be taken, and a word with none behind it
pub follows_no_further : (words : List (List ℕ)) (place : ℕ) (given : List (Option ℕ)) (word text : List ℕ) → Follows words place given
    → drop place words ≡ word ∷ text ∷ drop (place + 2) words → ((mid : List (Option ℕ)) → ¬ Takes given word text mid) → AreRefused words
follows_no_further words place given word text f e none asked asks =
    let all = asked_reads words asked asks in
    let P : List (List ℕ) → Type 0 = λ ws. Reads given ws all.0 in
    let q = subst P e (f.there all.0 all.1) in
    none q.0 q.1.0

pub follows_by_one : (words : List (List ℕ)) (place : ℕ) (given : List (Option ℕ)) (word : List ℕ) → Follows words place given → drop place words ≡ word ∷ [] → AreRefused words
follows_by_one words place given word f e asked asks =
    let all = asked_reads words asked asks in
    let P : List (List ℕ) → Type 0 = λ ws. Reads given ws all.0 in
    subst P e (f.there all.0 all.1)

pub follows_to_the_end : (words : List (List ℕ)) (place : ℕ) (given : List (Option ℕ)) (asked : Words) → Follows words place given → length words ≤ place → in_order asked ≡ given → AsksFor words asked
follows_to_the_end words place given asked f end e =
    let P : List (List ℕ) → Type 0 = λ ws. Reads given ws given in
    let Q : List (Option ℕ) → Type 0 = λ g. Reads nothing words g in
    read_asks words asked (subst Q (sym e) (f.back given (subst P (sym (drop_all place words end)) refl)))

-- the words at a place
pub two_of : {X : Type 0} (f : X → List ℕ) (xs : List X) (place : ℕ) (a b : X) (word text : List ℕ) → place + 1 < length xs → a ≡ get_or xs place a → b ≡ get_or xs (place + 1) b → word ≡ f a → text ≡ f b
    → drop place (map f xs) ≡ word ∷ text ∷ drop (place + 2) (map f xs)
two_of f xs place a b word text lt is_a is_b word_is text_is =
    let first : drop place xs ≡ a ∷ drop (place + 1) xs = drop-cons xs place a (omega arith) ∙ ap (λ k. get_or xs place a ∷ drop k xs) (sym (add-one place)) ∙ ap (λ x. x ∷ drop (place + 1) xs) (sym is_a) in
    let e : suc (place + 1) ≡ place + 2 = omega arith in
    let second : drop (place + 1) xs ≡ b ∷ drop (place + 2) xs = drop-cons xs (place + 1) b lt ∙ ap (λ k. get_or xs (place + 1) b ∷ drop k xs) e ∙ ap (λ x. x ∷ drop (place + 2) xs) (sym is_b) in
    drop-map f place xs ∙ ap (map f) (first ∙ ap (λ ys. a ∷ ys) second)
    ∙ ap (λ w. w ∷ f b ∷ map f (drop (place + 2) xs)) (sym word_is)
    ∙ ap (λ t. word ∷ t ∷ map f (drop (place + 2) xs)) (sym text_is)
    ∙ ap (λ ys. word ∷ text ∷ ys) (sym (drop-map f (place + 2) xs))

pub one_of : {X : Type 0} (f : X → List ℕ) (xs : List X) (place : ℕ) → length xs ≡ place + 1 → drop place (map f xs) ≡ get_or (map f xs) place [] ∷ []
one_of f xs place e =
    let len = length-map xs f in
    drop-cons (map f xs) place [] (omega arith) ∙ ap (λ ys. get_or (map f xs) place [] ∷ ys) (drop_all (suc place) (map f xs) (omega arith))
