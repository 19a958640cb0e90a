-- A record in its pieces, wherever the writer stands in a block.
use Rattle.std.proofs.Common.{◌≡◌, ℕ, zero, suc, ◌+◌, ◌-◌, ◌%◌, ◌<◌, ◌≤◌, nat_lt, Bool, true, false, List, [], ◌∷◌, ◌++◌, length, replicate, take, drop, None, Some, refl, sym, ◌∙◌, ap, subst, arith, append_assoc, length-drop, inl, inr, ◌⊎◌, cond}
use Rattle.std.proofs.lemmas.List.{length-replicate, length-take-le, take-append-drop}
use Rattle.std.proofs.lemmas.Bool.{le-ltb, lt-ltb, cases_lt, cond-true, cond-false}
use Rattle.bl_code.specs.Crc.{crc32c, mask_of}
use Rattle.bl_code.specs.Numbers.{fixed16, fixed32}
use Rattle.bl_log.specs.Log.{Full, First, Middle, Last, room, Gives, IsLog}
use Rattle.bl_log.specs.Layout.{fragment, filler, space, onto, pieces, type_of, spelled, layout, written}
use Rattle.bl_log.proofs.WalkLemmas.{filler_gives, fragment_gives, length-fragment, gives_then, gives_none}

-- a payload that has room is one piece
pub pieces_whole : (n : ℕ) (payload : List ℕ) → length payload ≤ n → pieces n payload ≡ payload ∷ []
unfolding pieces
pieces_whole n [] fits = refl
pieces_whole zero (b ∷ bs) fits = absurd (omega arith)
pieces_whole (suc n) (b ∷ bs) fits = ap (onto b) (pieces_whole n bs (omega arith))

-- of a longer one the room is taken
pub pieces_more : (n : ℕ) (payload : List ℕ) → n < length payload → pieces n payload ≡ take n payload ∷ pieces 32761 (drop n payload)
unfolding pieces
pieces_more n [] more = absurd (omega arith)
pieces_more zero (b ∷ bs) more = refl
pieces_more (suc n) (b ∷ bs) more = ap (onto b) (pieces_more n bs (omega arith))

spelled_onto : (begun : Bool) (piece : List ℕ) (b : ℕ) (ps : List (List ℕ)) → spelled begun (piece ∷ onto b ps) ≡ fragment (type_of begun false) piece ++ spelled true (onto b ps)
unfolding spelled
spelled_onto begun piece b [] = refl
spelled_onto begun piece b (p ∷ ps) = refl

spelled_next : (begun : Bool) (piece : List ℕ) (n : ℕ) (rest : List ℕ) → spelled begun (piece ∷ pieces n rest) ≡ fragment (type_of begun false) piece ++ spelled true (pieces n rest)
unfolding pieces spelled
spelled_next begun piece n [] = refl
spelled_next begun piece zero (b ∷ bs) = refl
spelled_next begun piece (suc n) (b ∷ bs) = spelled_onto begun piece b (pieces n bs)

pub spelled_whole : (begun : Bool) (n : ℕ) (payload : List ℕ) → length payload ≤ n → spelled begun (pieces n payload) ≡ fragment (type_of begun true) payload
unfolding spelled
spelled_whole begun n payload fits = ap (spelled begun) (pieces_whole n payload fits)

pub spelled_more : (begun : Bool) (n : ℕ) (payload : List ℕ) → n < length payload
    → spelled begun (pieces n payload) ≡ fragment (type_of begun false) (take n payload) ++ spelled true (pieces 32761 (drop n payload))
spelled_more begun n payload more = ap (spelled begun) (pieces_more n payload more) ∙ spelled_next begun (take n payload) 32761 (drop n payload)

whole_again : (front rest : List ℕ) (n : ℕ) → (front ++ take n rest) ++ drop n rest ≡ front ++ rest
whole_again front rest n = append_assoc front (take n rest) (drop n rest) ∙ ap (λ r. front ++ r) (take-append-drop n rest)

last_gives : (place : ℕ) (front rest : List ℕ) → length rest ≤ 32761 → place % 32768 ≡ 0
    → Gives place (Some front) (spelled true (pieces 32761 rest)) ((front ++ rest) ∷ []) None
last_gives place front rest fits at =
    let P : List ℕ → Type 0 = λ bytes. Gives place (Some front) bytes ((front ++ rest) ∷ []) None in
    subst P (sym (spelled_whole true 32761 rest fits)) (fragment_gives place (Some front) 4 Last rest (Some (front ++ rest)) None refl (omega arith) (omega arith) refl)

-- what is left of a record, from a block's beginning on
rest_gives : (k place : ℕ) (front rest : List ℕ) → length rest ≤ k → place % 32768 ≡ 0
    → Gives place (Some front) (spelled true (pieces 32761 rest)) ((front ++ rest) ∷ []) None
rest_gives zero place front rest few at = last_gives place front rest (omega arith) at
rest_gives (suc k) place front rest few at = elim (cases_lt 32761 (length rest)) [
  | inr fits ↦ last_gives place front rest fits at
  | inl more ↦
      let piece = take 32761 rest in
      let n : length piece ≡ 32761 = length-take-le 32761 rest (omega arith) in
      let long : length (fragment 3 piece) ≡ 32768 = length-fragment 3 piece ∙ ap (λ m. 7 + m) n in
      let less : length (drop 32761 rest) ≤ k = simp length-drop (omega arith) in
      let first : Gives place (Some front) (fragment 3 piece) [] (Some (front ++ piece)) =
      fragment_gives place (Some front) 3 Middle piece None (Some (front ++ piece)) refl (omega arith) (omega arith) refl in
      let then : Gives (place + length (fragment 3 piece)) (Some (front ++ piece)) (spelled true (pieces 32761 (drop 32761 rest))) (((front ++ piece) ++ drop 32761 rest) ∷ []) None =
      rest_gives k (place + length (fragment 3 piece)) (front ++ piece) (drop 32761 rest) less (omega arith) in
      let P : List ℕ → Type 0 = λ bytes. Gives place (Some front) bytes ((front ++ rest) ∷ []) None in
      let Q : List ℕ → Type 0 = λ record_. Gives place (Some front) (fragment 3 piece ++ spelled true (pieces 32761 (drop 32761 rest))) (record_ ∷ []) None in
      subst P (sym (spelled_more true 32761 rest more)) (subst Q (whole_again front rest 32761)
      (gives_then place (Some front) (Some (front ++ piece)) None (fragment 3 piece) (spelled true (pieces 32761 (drop 32761 rest))) [] (((front ++ piece) ++ drop 32761 rest) ∷ []) first then))
]

-- a record, from a place on whose block has room for a head and n bytes
record_gives : (n place : ℕ) (payload : List ℕ) → room place ≡ 7 + n → Gives place None (spelled false (pieces n payload)) (payload ∷ []) None
record_gives n place payload at = elim (cases_lt n (length payload)) [
  | inr fits ↦
      let P : List ℕ → Type 0 = λ bytes. Gives place None bytes (payload ∷ []) None in
      subst P (sym (spelled_whole false n payload fits)) (fragment_gives place None 1 Full payload (Some payload) None refl (omega arith) (omega arith) refl)
  | inl more ↦
      let piece = take n payload in
      let m : length piece ≡ n = length-take-le n payload (omega arith) in
      let long : length (fragment 2 piece) ≡ 7 + n = length-fragment 2 piece ∙ ap (λ k. 7 + k) m in
      let first : Gives place None (fragment 2 piece) [] (Some piece) = fragment_gives place None 2 First piece None (Some piece) refl (omega arith) (omega arith) refl in
      let then : Gives (place + length (fragment 2 piece)) (Some piece) (spelled true (pieces 32761 (drop n payload))) ((piece ++ drop n payload) ∷ []) None =
      rest_gives (length (drop n payload)) (place + length (fragment 2 piece)) piece (drop n payload) (omega arith) (omega arith) in
      let P : List ℕ → Type 0 = λ bytes. Gives place None bytes (payload ∷ []) None in
      let Q : List ℕ → Type 0 = λ record_. Gives place None (fragment 2 piece ++ spelled true (pieces 32761 (drop n payload))) (record_ ∷ []) None in
      subst P (sym (spelled_more false n payload more)) (subst Q (take-append-drop n payload)
      (gives_then place None (Some piece) None (fragment 2 piece) (spelled true (pieces 32761 (drop n payload))) [] ((piece ++ drop n payload) ∷ []) first then))
]

-- the filler, and the room behind it
pub filler_small : (place : ℕ) → room place < 7 → (filler place ≡ replicate (room place) 0) × (space place ≡ 32761)
unfolding filler space
filler_small place small = (cond-true _ _ _ (lt-ltb _ _ small), ap (λ n. n - 7) (cond-true _ _ _ (lt-ltb _ _ small)))

pub filler_none : (place : ℕ) → 7 ≤ room place → (filler place ≡ []) × (space place ≡ room place - 7)
unfolding filler space
filler_none place large = (cond-false _ _ _ (le-ltb _ _ large), ap (λ n. n - 7) (cond-false _ _ _ (le-ltb _ _ large)))

pub layout_gives : (place : ℕ) (payload : List ℕ) → Gives place None (layout place payload) (payload ∷ []) None
unfolding layout
layout_gives place payload = elim (cases_lt (room place) 7) [
  | inl small ↦
      let e = filler_small place small in
      let n : length (replicate (room place) 0) ≡ room place = length-replicate _ _ in
      let P : List ℕ → Type 0 = λ zs. Gives place None (zs ++ spelled false (pieces (space place) payload)) (payload ∷ []) None in
      subst P (sym e.0) (gives_then place None None None (replicate (room place) 0) (spelled false (pieces (space place) payload)) [] (payload ∷ [])
      (filler_gives (replicate (room place) 0) place None small n)
      (record_gives (space place) (place + length (replicate (room place) 0)) payload (omega (arith, e.1, n))))
  | inr large ↦
      let e = filler_none place large in
      let P : List ℕ → Type 0 = λ zs. Gives place None (zs ++ spelled false (pieces (space place) payload)) (payload ∷ []) None in
      subst P (sym e.0) (record_gives (space place) place payload (omega (arith, e.1)))
]

-- a layout depends on the place in its block alone
same_layout : (a b : ℕ) (payload : List ℕ) → room a ≡ room b → layout a payload ≡ layout b payload
unfolding layout filler space
same_layout a b payload e =
    ap (λ r. (cond (nat_lt r 7) (replicate r 0) []) ++ spelled false (pieces ((cond (nat_lt r 7) 32768 r) - 7) payload)) e

pub layout_gives_at : (at place : ℕ) (payload : List ℕ) → at % 32768 ≡ place % 32768 → Gives at None (layout place payload) (payload ∷ []) None
layout_gives_at at place payload e =
    let same : room at ≡ room place = ap (λ n. 32768 - n) e in
    let P : List ℕ → Type 0 = λ bytes. Gives at None bytes (payload ∷ []) None in
    subst P (same_layout at place payload same) (layout_gives at payload)

pub log_adds : (place : ℕ) (before bytes payload : List ℕ) (payloads : List (List ℕ)) → bytes ≡ layout place payload → length before % 32768 ≡ place → IsLog before payloads
    → IsLog (before ++ bytes) (payloads ++ payload ∷ [])
log_adds place before bytes payload payloads e at log =
    let there : (0 + length before) % 32768 ≡ place % 32768 = omega arith in
    let P : List ℕ → Type 0 = λ b. IsLog (before ++ b) (payloads ++ payload ∷ []) in
    subst P (sym e) (gives_then 0 None None None before (layout place payload) payloads (payload ∷ []) log (layout_gives_at (0 + length before) place payload there))

pub written_gives : (payloads : List (List ℕ)) (at place : ℕ) → at % 32768 ≡ place % 32768 → Gives at None (written place payloads) payloads None
unfolding written
written_gives [] at place e = gives_none at None
written_gives (payload ∷ payloads) at place e =
    let there : (at + length (layout place payload)) % 32768 ≡ ((place + length (layout place payload)) % 32768) % 32768 = omega arith in
    gives_then at None None None (layout place payload) (written ((place + length (layout place payload)) % 32768) payloads) (payload ∷ []) payloads
    (layout_gives_at at place payload e) (written_gives payloads (at + length (layout place payload)) ((place + length (layout place payload)) % 32768) there)

-- what the calls that write a fragment leave
pub spelled_fragment : (out a b c d payload : List ℕ) (kind sum : ℕ) → a ≡ out ++ fixed32 sum → b ≡ a ++ fixed16 (length payload) → c ≡ b ++ kind ∷ [] → d ≡ c ++ payload
    → sum ≡ mask_of (crc32c (kind ∷ payload)) → d ≡ out ++ fragment kind payload
unfolding fragment
spelled_fragment out a b c d payload kind sum ea eb ec ed es =
    let ea' : a ≡ out ++ fixed32 (mask_of (crc32c (kind ∷ payload))) = ea ∙ ap (λ s. out ++ fixed32 s) es in
    ed ∙ rw (ec, eb, ea') (simp append_assoc)

-- what the calls that write a record leave
pub is_filler : (place count : ℕ) → place < 32768 → ((32768 - place < 7) × (count ≡ 32768 - place)) ⊎ ((7 ≤ 32768 - place) × (count ≡ 0))
    → (filler place ≡ replicate count 0) × (space place ≡ 32761 - (place + count) % 32768)
is_filler place count within which =
    let same : room place ≡ 32768 - place = omega arith in
    elim which [
      | inl small ↦
          let e = filler_small place (rw same small.0) in
          let n : room place ≡ count = omega arith in
          (e.0 ∙ ap (λ k. replicate k 0) n, omega (arith, e.1))
      | inr large ↦
          let e = filler_none place (rw same large.0) in
          (e.0 ∙ ap (λ k. replicate k 0) (sym large.1), omega (arith, e.1))
    ]

pub laid_out : (place count size : ℕ) (a b c payload : List ℕ) → (filler place ≡ replicate count 0) × (space place ≡ size)
    → a ≡ [] → b ≡ a ++ replicate count 0 → c ≡ b ++ spelled false (pieces size payload) → c ≡ layout place payload
unfolding layout
laid_out place count size a b c payload is ea eb ec =
    ec ∙ ap (λ z. z ++ spelled false (pieces size payload)) (eb ∙ ap (λ z. z ++ replicate count 0) ea ∙ sym is.0) ∙ ap (λ n. filler place ++ spelled false (pieces n payload)) (sym is.1)

-- a turn of the writer's loop, and its last fragment
pub put_more : (out after piece rest behind all : List ℕ) (begun : Bool) (n kind : ℕ) → n < length rest → out ++ spelled begun (pieces n rest) ≡ all
    → after ≡ out ++ fragment kind piece → kind ≡ type_of begun false → piece ≡ take n rest → behind ≡ drop n rest → after ++ spelled true (pieces 32761 behind) ≡ all
put_more out after piece rest behind all begun n kind more so_far ea ek ep eb =
    ap (λ a. a ++ spelled true (pieces 32761 behind)) (ea ∙ ap (λ k. out ++ fragment k piece) ek ∙ ap (λ p. out ++ fragment (type_of begun false) p) ep)
    ∙ append_assoc out (fragment (type_of begun false) (take n rest)) (spelled true (pieces 32761 behind))
    ∙ ap (λ b. out ++ (fragment (type_of begun false) (take n rest) ++ spelled true (pieces 32761 b))) eb
    ∙ ap (λ s. out ++ s) (sym (spelled_more begun n rest more))
    ∙ so_far

pub put_last : (out after rest all : List ℕ) (begun : Bool) (n kind : ℕ) → length rest ≤ n → out ++ spelled begun (pieces n rest) ≡ all
    → kind ≡ type_of begun true → after ≡ out ++ fragment kind rest → after ≡ all
put_last out after rest all begun n kind fits so_far ek ea =
    ea ∙ ap (λ k. out ++ fragment k rest) ek ∙ ap (λ s. out ++ s) (sym (spelled_whole begun n rest fits)) ∙ so_far
