-- How far a reader that holds some bytes of a log can go, whatever follows them.
use Rattle.std.proofs.Common.{not, ◌≡◌, ℕ, zero, suc, ◌+◌, ◌-◌, ◌%◌, ◌^◌, ◌<◌, ◌≤◌, nat_lt, nat_eq, Bool, true, false, cond, List, [], ◌∷◌, ◌++◌, length, map, Option, None, Some, refl, sym, ◌∙◌, ap, subst, arith, take, drop, ◌⊎◌, inl, inr, append_assoc, append-nil, add-zero, length-append, length-drop, length-take-le, is_some}
use Rattle.std.proofs.lemmas.Bool.{le-ltb, lt-ltb, le-leb, lt-leb, cases_lt, cond-true, cond-false}
use Rattle.std.proofs.lemmas.List.{take-take, take_all, drop-drop, take-append-le, drop-append-le, get_or_append_left, take-append-drop}
use Rattle.std.specs.Int.{w16, w32, from_le_bytes}
use Rattle.bl_code.specs.Crc.{crc32c, mask_of}
use Rattle.bl_log.specs.declared.cause.EndCause.{EndCause}
use Rattle.bl_log.specs.declared.cause.EndCause.TheVariants.{Finished, Cut, Length, Kind, Crc, Order}
use Rattle.bl_log.specs.declared.seek.Cursor.{Cursor}
use Rattle.bl_log.specs.declared.seek.Sought.{Sought}
use Rattle.bl_log.specs.declared.seek.Sought.TheVariants as sought
use Rattle.bl_log.specs.Log.{Part, Step, Ends, Skips, Reads, at_end, joined, typed, room, part_of, sum_at, size_at, type_at, payload_at, step_at, behind, go_on, walk, whole_of, size_of, bytes_of, placed_from}
use Rattle.bl_log.specs.Reading.{IsRead, IsBehindFragment}
use Rattle.bl_log.specs.Judge.{Runs, Reaches, Seeks, IsStuck, filler_before, half_of, gathered, read_of}
use Rattle.bl_log.proofs.WalkLemmas.{bytes_of-append, one_step, step_at_end, step_filler}
use Rattle.bl_log.proofs.JudgeLemmas.{ends_short}

-- steps that more bytes don't change
unfoldable pub IsFinal : Step → Type 0
IsFinal (Skips size) = Unit {0}
IsFinal (Reads whole next size) = Unit {0}
IsFinal (Ends Finished) = ⊥
IsFinal (Ends Cut) = ⊥
IsFinal (Ends Length) = Unit {0}
IsFinal (Ends Kind) = Unit {0}
IsFinal (Ends Crc) = Unit {0}
IsFinal (Ends Order) = Unit {0}

pub final_skips : (n : ℕ) → IsFinal (Skips n)
unfolding IsFinal
final_skips n = tt

pub final_reads : (whole next : Option (List ℕ)) (n : ℕ) → IsFinal (Reads whole next n)
unfolding IsFinal
final_reads whole next n = tt

pub at_end_open : (half : Option (List ℕ)) → IsFinal (Ends (at_end half)) → ⊥
unfolding IsFinal
at_end_open None d = d
at_end_open (Some front) d = d

pub size_stays : (bytes more : List ℕ) → 7 ≤ length bytes → size_at (bytes ++ more) ≡ size_at bytes
size_stays bytes more long =
    let n : 2 ≤ length (drop 4 bytes) = simp length-drop (omega arith) in
    ap (from_le_bytes w16) (ap (take 2) (drop-append-le 4 bytes more (omega arith)) ∙ take-append-le 2 (drop 4 bytes) more n)

sum_stays : (bytes more : List ℕ) → 7 ≤ length bytes → sum_at (bytes ++ more) ≡ sum_at bytes
sum_stays bytes more long = ap (from_le_bytes w32) (take-append-le 4 bytes more (omega arith))

type_stays : (bytes more : List ℕ) → 7 ≤ length bytes → type_at (bytes ++ more) ≡ type_at bytes
type_stays bytes more long = get_or_append_left bytes more 0 6 (omega arith)

payload_stays : (bytes more : List ℕ) → 7 + size_at bytes ≤ length bytes → payload_at (bytes ++ more) ≡ payload_at bytes
payload_stays bytes more there =
    let n : size_at bytes ≤ length (drop 7 bytes) = simp length-drop (omega arith) in
    ap (λ k. take k (drop 7 (bytes ++ more))) (size_stays bytes more (omega arith))
    ∙ ap (take (size_at bytes)) (drop-append-le 7 bytes more (omega arith))
    ∙ take-append-le (size_at bytes) (drop 7 bytes) more n

longer : (bytes more : List ℕ) → length (bytes ++ more) ≡ length bytes + length more
longer bytes more = length-append bytes more

typed_stays : (part : Option Part) (half : Option (List ℕ)) (bytes more : List ℕ) → 7 ≤ length bytes → IsFinal (typed part half bytes) → typed part half (bytes ++ more) ≡ typed part half bytes
unfolding IsFinal
typed_stays None half bytes more long d = refl
typed_stays (Some part) half bytes more long d = elim (cases_lt (length bytes) (7 + size_at bytes)) [
  | inl cut ↦ let e : typed (Some part) half bytes ≡ Ends Cut = cond-true _ _ _ (lt-ltb _ _ cut) in absurd (subst IsFinal e d)
  | inr whole ↦
      let n = longer bytes more in
      let size = size_stays bytes more long in
      let here : nat_lt (length bytes) (7 + size_at bytes) ≡ false = le-ltb _ _ whole in
      let there : nat_lt (length (bytes ++ more)) (7 + size_at (bytes ++ more)) ≡ false = le-ltb _ _ (rw size (omega arith)) in
      cond-false _ _ _ there
      ∙ ap (λ s. cond (nat_eq s (mask_of (crc32c (type_at (bytes ++ more) ∷ payload_at (bytes ++ more))))) (joined part half (payload_at (bytes ++ more)) (7 + size_at (bytes ++ more))) (Ends Crc)) (sum_stays bytes more long)
      ∙ ap (λ t. cond (nat_eq (sum_at bytes) (mask_of (crc32c (t ∷ payload_at (bytes ++ more))))) (joined part half (payload_at (bytes ++ more)) (7 + size_at (bytes ++ more))) (Ends Crc)) (type_stays bytes more long)
      ∙ ap (λ p. cond (nat_eq (sum_at bytes) (mask_of (crc32c (type_at bytes ∷ p)))) (joined part half p (7 + size_at (bytes ++ more))) (Ends Crc)) (payload_stays bytes more whole)
      ∙ ap (λ k. cond (nat_eq (sum_at bytes) (mask_of (crc32c (type_at bytes ∷ payload_at bytes)))) (joined part half (payload_at bytes) (7 + k)) (Ends Crc)) size
      ∙ sym (cond-false _ _ _ here)
]

short_open : (place : ℕ) (half : Option (List ℕ)) (bytes : List ℕ) → 7 ≤ room place → length bytes < 7 → IsFinal (step_at place half bytes) → ⊥
unfolding IsFinal
short_open place half [] roomy short d = at_end_open half (subst IsFinal (step_at_end place half) d)
short_open place half (b ∷ bs) roomy short d = let e = ends_short place half (b ∷ bs) roomy (omega arith) short in subst IsFinal e d

-- so a fragment is judged as soon as its bytes are there
pub step_stays : (place : ℕ) (half : Option (List ℕ)) (bytes more : List ℕ) → IsFinal (step_at place half bytes) → step_at place half (bytes ++ more) ≡ step_at place half bytes
unfolding step_at IsFinal
step_stays place half bytes more d = elim (cases_lt (room place) 7) [
  | inl small ↦
      let s : nat_lt (room place) 7 ≡ true = lt-ltb _ _ small in
      elim (cases_lt (length bytes) (room place)) [
        | inl ends ↦
            let e : step_at place half bytes ≡ Ends (at_end half) = cond-true _ _ _ s ∙ cond-true _ _ _ (lt-ltb _ _ ends) in
            absurd (at_end_open half (subst IsFinal e d))
        | inr there ↦
            let n = longer bytes more in
            let l : nat_lt (length (bytes ++ more)) (room place) ≡ false = le-ltb _ _ (omega arith) in
            cond-true _ _ _ s ∙ cond-false _ _ _ l ∙ sym (cond-true _ _ _ s ∙ cond-false _ _ _ (le-ltb _ _ there))
      ]
  | inr roomy ↦
      let s : nat_lt (room place) 7 ≡ false = le-ltb _ _ roomy in
      elim (cases_lt (length bytes) 7) [
        | inl short ↦ absurd (short_open place half bytes roomy short d)
        | inr long ↦
            let n = longer bytes more in
            let size = size_stays bytes more long in
            let one : 1 ≤ length bytes = omega arith in
            let l0 : nat_lt (length bytes) 1 ≡ false = le-ltb _ _ one in
            let m0 : nat_lt (length (bytes ++ more)) 1 ≡ false = le-ltb _ _ (omega arith) in
            let l : nat_lt (length bytes) 7 ≡ false = le-ltb _ _ long in
            let m : nat_lt (length (bytes ++ more)) 7 ≡ false = le-ltb _ _ (omega arith) in
            elim (cases_lt (room place) (7 + size_at bytes)) [
              | inl past ↦
                  let p : nat_lt (room place) (7 + size_at (bytes ++ more)) ≡ true = lt-ltb _ _ (rw size past) in
                  cond-false _ _ _ s ∙ cond-false _ _ _ m0 ∙ cond-false _ _ _ m ∙ cond-true _ _ _ p ∙ sym (cond-false _ _ _ s ∙ cond-false _ _ _ l0 ∙ cond-false _ _ _ l ∙ cond-true _ _ _ (lt-ltb _ _ past))
              | inr fits ↦
                  let p : nat_lt (room place) (7 + size_at (bytes ++ more)) ≡ false = le-ltb _ _ (rw size fits) in
                  let e : step_at place half bytes ≡ typed (part_of (type_at bytes)) half bytes = cond-false _ _ _ s ∙ cond-false _ _ _ l0 ∙ cond-false _ _ _ l ∙ cond-false _ _ _ (le-ltb _ _ fits) in
                  cond-false _ _ _ s ∙ cond-false _ _ _ m0 ∙ cond-false _ _ _ m ∙ cond-false _ _ _ p
                  ∙ ap (λ t. typed (part_of t) half (bytes ++ more)) (type_stays bytes more long)
                  ∙ typed_stays (part_of (type_at bytes)) half bytes more long (subst IsFinal e d)
                  ∙ sym e
            ]
      ]
]

-- where a place stands in its block is all that counts of it
pub same_step : (a b : ℕ) (half : Option (List ℕ)) (bytes : List ℕ) → a % 32768 ≡ b % 32768 → step_at a half bytes ≡ step_at b half bytes
unfolding step_at
same_step a b half bytes e =
    ap (λ p. cond (nat_lt (32768 - p) 7) (cond (nat_lt (length bytes) (32768 - p)) (Ends (at_end half)) (Skips (32768 - p)))
    (cond (nat_lt (length bytes) 1) (Ends (at_end half)) (cond (nat_lt (length bytes) 7) (Ends Cut) (cond (nat_lt (32768 - p) (7 + size_at bytes)) (Ends Length) (typed (part_of (type_at bytes)) half bytes))))) e

same_go_on : (a b : Option (Option (List ℕ) × ℕ)) (f g : Option (List ℕ) → ℕ → List Step) → a ≡ b → ((h : Option (List ℕ)) (n : ℕ) → f h n ≡ g h n) → go_on a f ≡ go_on b g
same_go_on a b f g e same = ap (λ x. go_on x f) e ∙ elim b as (λ x. go_on x f ≡ go_on x g) [ None ↦ refl | Some to ↦ same to.0 to.1 ]

pub same_walk : (skip a b : ℕ) (half : Option (List ℕ)) (bytes : List ℕ) → a % 32768 ≡ b % 32768 → walk skip a half bytes ≡ walk skip b half bytes
unfolding walk
same_walk skip a b half [] e = ap (λ s. s ∷ []) (same_step a b half [] e)
same_walk (suc skip) a b half (x ∷ xs) e = let n : (a + 1) % 32768 ≡ (b + 1) % 32768 = omega arith in same_walk skip (a + 1) (b + 1) half xs n
same_walk zero a b half (x ∷ xs) e =
    let n : (a + 1) % 32768 ≡ (b + 1) % 32768 = omega arith in
    let s = same_step a b half (x ∷ xs) e in
    ap (λ t. t ∷ go_on (behind half (step_at a half (x ∷ xs))) (λ next size. walk (size - 1) (a + 1) next xs)) s
    ∙ ap (λ r. step_at b half (x ∷ xs) ∷ r) (same_go_on _ _ (λ next size. walk (size - 1) (a + 1) next xs) (λ next size. walk (size - 1) (b + 1) next xs) (ap (behind half) s)
    (λ next size. same_walk (size - 1) (a + 1) (b + 1) next xs n))

-- over a step that is fixed the reading goes on, whatever follows
pub goes_on : (place : ℕ) (half next : Option (List ℕ)) (held more : List ℕ) (step : Step) (size : ℕ) → step_at place half held ≡ step → IsFinal step → behind half step ≡ Some (next, size) → 1 ≤ size → size ≤ length held
    → walk 0 place half (held ++ more) ≡ step ∷ walk 0 (place + size) next (drop size held ++ more)
goes_on place half next [] more step size stands fixed to some there = absurd (omega arith)
goes_on place half next (x ∷ xs) more step zero stands fixed to some there = absurd (omega arith)
goes_on place half next (x ∷ xs) more step (suc n) stands fixed to some there =
    let short : n ≤ length xs = omega arith in
    let split : xs ++ more ≡ take n xs ++ (drop n xs ++ more) = ap (λ r. r ++ more) (sym (take-append-drop n xs)) ∙ append_assoc (take n xs) (drop n xs) more in
    let count : suc n ≡ suc (length (take n xs)) = ap suc (sym (length-take-le n xs short)) in
    let stays : step_at place half (x ∷ (xs ++ more)) ≡ step = step_stays place half (x ∷ xs) more (subst IsFinal (sym stands) fixed) ∙ stands in
    let P : List ℕ → Type 0 = λ r. step_at place half (x ∷ r) ≡ step in
    ap (λ r. walk 0 place half (x ∷ r)) split
    ∙ one_step x (take n xs) (drop n xs ++ more) place half next step (suc n) count (subst P split stays) to
    ∙ ap (λ k. step ∷ walk 0 (place + k) next (drop n xs ++ more)) (sym count)

-- and where it ends
pub ends_here : (place : ℕ) (half : Option (List ℕ)) (bytes : List ℕ) (cause : EndCause) → step_at place half bytes ≡ Ends cause → walk 0 place half bytes ≡ Ends cause ∷ []
unfolding walk
ends_here place half [] cause e = ap (λ s. s ∷ []) e
ends_here place half (x ∷ xs) cause e = ap (λ s. s ∷ go_on (behind half s) (λ next size. walk (size - 1) (place + 1) next xs)) e

pub wraps : (n : ℕ) → (n % 2 ^ 64) % 32768 ≡ n % 32768
wraps n = omega arith

pub placed_from-append : (place : ℕ) (a b : List Step) → placed_from place (a ++ b) ≡ placed_from place a ++ placed_from (place + bytes_of a) b
placed_from-append place [] b = ap (λ p. placed_from p b) (sym (add-zero place))
placed_from-append place (s ∷ a) b =
    let n : place + size_of s + bytes_of a ≡ place + (size_of s + bytes_of a) = omega arith in
    ap (λ r. map (λ payload. (payload, place + size_of s)) (whole_of s) ++ r) (placed_from-append (place + size_of s) a b ∙ ap (λ p. placed_from (place + size_of s) a ++ placed_from p b) n)
    ∙ sym (append_assoc (map (λ payload. (payload, place + size_of s)) (whole_of s)) (placed_from (place + size_of s) a) (placed_from (place + (size_of s + bytes_of a)) b))

pub behind-append : (a b : List Step) → IsBehindFragment a → IsBehindFragment b → IsBehindFragment (a ++ b)
behind-append [] b p q = q
behind-append (s ∷ []) [] p q = p
behind-append (s ∷ []) (t ∷ b) p q = q
behind-append (s ∷ t ∷ a) b p q = behind-append (t ∷ a) b p q

behind_read : (a : List Step) (s : Step) → IsRead s → IsBehindFragment (a ++ s ∷ [])
behind_read [] s p = p
behind_read (t ∷ []) s p = p
behind_read (t ∷ u ∷ a) s p = behind_read (u ∷ a) s p

pub runs_then : (from mid to : ℕ) (half next last : Option (List ℕ)) (held rest end : List ℕ) (found : List (List ℕ))
    → Runs from half held mid next rest [] → Runs mid next rest to last end found → Runs from half held to last end found
runs_then from mid to half next last held rest end found a b =
    let n : bytes_of (a.passed ++ b.passed) ≡ bytes_of a.passed + bytes_of b.passed = bytes_of-append a.passed b.passed in
    record {
      passed = a.passed ++ b.passed;
      walks = λ more. a.walks more ∙ ap (λ r. a.passed ++ r) (b.walks more) ∙ sym (append_assoc a.passed b.passed (walk 0 to last (end ++ more)));
      stands = b.stands ∙ let e = a.stands in (omega arith);
      behind = behind-append a.passed b.passed a.behind b.behind;
      finds = λ place.
          let m : place + bytes_of a.passed + bytes_of b.passed ≡ place + bytes_of (a.passed ++ b.passed) = omega arith in
          placed_from-append place a.passed b.passed ∙ ap (λ r. r ++ placed_from (place + bytes_of a.passed) b.passed) (a.finds place) ∙ b.finds (place + bytes_of a.passed)
          ∙ ap (λ k. map (λ payload. (payload, k)) found) m;
    }

pub runs_nowhere : (from : ℕ) (half : Option (List ℕ)) (held : List ℕ) → from < 2 ^ 64 → Runs from half held from half held []
runs_nowhere from half held within = record { passed = []; walks = λ more. refl; stands = omega arith; behind = tt; finds = λ place. refl }

-- over the filler before a fragment, where it is there
pub record SkipsTo (place : ℕ) (half : Option (List ℕ)) (rest : List ℕ) (filler here : ℕ) : Type 0 where
  pub skipped : List Step
  pub walks : (more : List ℕ) → walk 0 place half (rest ++ more) ≡ skipped ++ walk 0 here half (drop filler rest ++ more)
  pub bytes : bytes_of skipped ≡ filler
  pub finds : (from : ℕ) → placed_from from skipped ≡ []
  pub within : filler ≤ length rest
  pub room_there : (7 ≤ room here) ⊎ (length (drop filler rest) < room here)

some_filler : (place n : ℕ) → room place < 7 → room place ≤ n → filler_before place n ≡ room place
some_filler place n small there = rw (lt-ltb _ _ small, le-leb _ _ there) refl

no_room : (place n : ℕ) → room place < 7 → n < room place → filler_before place n ≡ 0
no_room place n small ends = rw (lt-ltb _ _ small, lt-leb _ _ ends) refl

no_filler : (place n : ℕ) → 7 ≤ room place → filler_before place n ≡ 0
no_filler place n roomy = rw (le-ltb _ _ roomy) refl

skips_none : (place : ℕ) (half : Option (List ℕ)) (rest : List ℕ) (filler here : ℕ) → place < 2 ^ 64 → filler ≡ 0 → here ≡ (place + filler) % 2 ^ 64 → (7 ≤ room place) ⊎ (length rest < room place)
    → SkipsTo place half rest filler here
skips_none place half rest filler here within none at room_there =
    let e : place ≡ here = omega arith in
    let P : ℕ → Type 0 = λ h. (7 ≤ room h) ⊎ (length rest < room h) in
    let Q : ℕ → Type 0 = λ n. (7 ≤ room here) ⊎ (length (drop n rest) < room here) in
    record {
      skipped = [];
      walks = λ more. ap (λ h. walk 0 h half (rest ++ more)) e ∙ ap (λ n. walk 0 here half (drop n rest ++ more)) (sym none);
      bytes = sym none;
      finds = λ from. refl;
      within = omega arith;
      room_there = subst Q (sym none) (subst P e room_there);
    }

pub skips : (place : ℕ) (half : Option (List ℕ)) (rest : List ℕ) (filler here : ℕ) → place < 2 ^ 64 → filler ≡ filler_before place (length rest) → here ≡ (place + filler) % 2 ^ 64
    → SkipsTo place half rest filler here
skips place half rest filler here within is at = elim (cases_lt (room place) 7) [
  | inr roomy ↦ skips_none place half rest filler here within (is ∙ no_filler place (length rest) roomy) at (inl roomy)
  | inl small ↦ elim (cases_lt (length rest) (room place)) [
    | inl ends ↦ skips_none place half rest filler here within (is ∙ no_room place (length rest) small ends) at (inr ends)
    | inr there ↦
        let n : filler ≡ room place = is ∙ some_filler place (length rest) small there in
        let m : (place + filler) % 32768 ≡ here % 32768 = sym (ap (λ h. h % 32768) at ∙ wraps (place + filler)) in
        record {
          skipped = Skips filler ∷ [];
          walks = λ more.
              goes_on place half half rest more (Skips filler) filler (step_filler place half rest small there ∙ ap Skips (sym n)) (final_skips filler) refl (omega arith) (omega arith)
              ∙ ap (λ r. Skips filler ∷ r) (same_walk 0 (place + filler) here half (drop filler rest ++ more) m);
          bytes = omega arith;
          finds = λ from. refl;
          within = omega arith;
          room_there = inl (omega arith);
        }
  ]
]

-- over the filler and a fragment behind it
pub fragment_runs : (place here to filler size : ℕ) (half next : Option (List ℕ)) (rest : List ℕ) (step : Step) → SkipsTo place half rest filler here → here ≡ (place + filler) % 2 ^ 64
    → step_at here half (drop filler rest) ≡ step → IsFinal step → behind half step ≡ Some (next, size) → size_of step ≡ size → IsRead step → 1 ≤ size → size ≤ length (drop filler rest) → to ≡ (here + size) % 2 ^ 64
    → Runs place half rest to next (drop size (drop filler rest)) (whole_of step)
fragment_runs place here to filler size half next rest step skip at stands fixed leads long read some there to_is =
    let m : (here + size) % 32768 ≡ to % 32768 = sym (ap (λ h. h % 32768) to_is ∙ wraps (here + size)) in
    let n : bytes_of (skip.skipped ++ step ∷ []) ≡ filler + size = bytes_of-append skip.skipped (step ∷ []) ∙ (let e = skip.bytes in omega arith) in
    record {
      passed = skip.skipped ++ step ∷ [];
      walks = λ more.
          let over : walk 0 here half (drop filler rest ++ more) ≡ step ∷ walk 0 to next (drop size (drop filler rest) ++ more) =
          goes_on here half next (drop filler rest) more step size stands fixed leads some there ∙ ap (λ r. step ∷ r) (same_walk 0 (here + size) to next (drop size (drop filler rest) ++ more) m) in
          skip.walks more ∙ ap (λ r. skip.skipped ++ r) over ∙ sym (append_assoc skip.skipped (step ∷ []) (walk 0 to next (drop size (drop filler rest) ++ more)));
      stands = to_is ∙ (let e = skip.bytes in omega arith);
      behind = behind_read skip.skipped step read;
      finds = λ from.
          let k : from + bytes_of skip.skipped + size_of step ≡ from + bytes_of (skip.skipped ++ step ∷ []) = let e = skip.bytes in omega arith in
          placed_from-append from skip.skipped (step ∷ []) ∙ ap (λ r. r ++ placed_from (from + bytes_of skip.skipped) (step ∷ [])) (skip.finds from)
          ∙ append-nil (map (λ payload. (payload, from + bytes_of skip.skipped + size_of step)) (whole_of step))
          ∙ ap (λ p. map (λ payload. (payload, p)) (whole_of step)) k;
    }

pub stuck : (place here filler : ℕ) (half : Option (List ℕ)) (rest : List ℕ) (cause : EndCause) → SkipsTo place half rest filler here → here ≡ (place + filler) % 2 ^ 64
    → step_at here half (drop filler rest) ≡ Ends cause → IsStuck place half rest here cause
stuck place here filler half rest cause skip at stands = record {
  skipped = skip.skipped;
  rest = drop filler rest;
  walks = skip.walks;
  stands = at ∙ ap (λ n. (place + n) % 2 ^ 64) (sym skip.bytes);
  finds = skip.finds;
  ends = stands;
}

-- a slice to the end of what it is taken of
pub to_end : (n : ℕ) (bytes : List ℕ) → take (length bytes - n) (drop n bytes) ≡ drop n bytes
to_end n bytes = take_all (length bytes - n) (drop n bytes) (simp length-drop (omega arith))

half_is_begun : (begun : Bool) (half : List ℕ) → is_some (half_of begun half) ≡ begun
half_is_begun true half = refl
half_is_begun false half = refl

gathers : (begun : Bool) (half payload : List ℕ) → (begun ≡ false → half ≡ []) → gathered (half_of begun half) payload ≡ half ++ payload
gathers true half payload fresh = refl
gathers false half payload fresh = ap (λ h. h ++ payload) (sym (fresh refl))

-- where the code judges that reading ends
pub step_ends : (place filler here : ℕ) (begun : Bool) (half held rest bytes : List ℕ) (cause : EndCause) → place < 2 ^ 64 → rest ≡ held → bytes ≡ drop filler rest
    → filler ≡ filler_before place (length rest) → here ≡ (place + filler) % 2 ^ 64 → ((h : Option (List ℕ)) → is_some h ≡ begun → step_at here h bytes ≡ Ends cause)
    → IsStuck place (half_of begun half) held here cause
step_ends place filler here begun half held rest bytes cause within er eb ef eh stands =
    let is : filler ≡ filler_before place (length held) = ef ∙ ap (λ r. filler_before place (length r)) er in
    let step : step_at here (half_of begun half) (drop filler held) ≡ Ends cause =
    ap (step_at here (half_of begun half)) (sym (eb ∙ ap (drop filler) er)) ∙ stands (half_of begun half) (half_is_begun begun half) in
    stuck place here filler (half_of begun half) held cause (skips place (half_of begun half) held filler here within is eh) eh step

pub found_of : Bool → List ℕ → List (List ℕ)
found_of true record_ = record_ ∷ []
found_of false record_ = []

-- and where it reads a fragment
read_runs_on : (place filler here to size : ℕ) (last begun : Bool) (half next held bytes payload : List ℕ) → SkipsTo place (half_of begun half) held filler here → here ≡ (place + filler) % 2 ^ 64
    → bytes ≡ drop filler held → step_at here (half_of begun half) bytes ≡ read_of last (half_of begun half) payload (7 + size) → 7 + size ≤ length bytes → to ≡ (here + (7 + size)) % 2 ^ 64
    → gathered (half_of begun half) payload ≡ next
    → Runs place (half_of begun half) held to (half_of (not last) next) (drop (7 + size) bytes) (found_of last next)
unfolding found_of
read_runs_on place filler here to size true begun half next held bytes payload skip eh eb stands there et eg =
    let h = half_of begun half in
    let step : step_at here h (drop filler held) ≡ Reads (Some next) None (7 + size) = ap (step_at here h) (sym eb) ∙ stands ∙ ap (λ g. Reads (Some g) None (7 + size)) eg in
    let P : List ℕ → Type 0 = λ b. Runs place h held to None (drop (7 + size) b) (next ∷ []) in
    subst P (sym eb) (fragment_runs place here to filler (7 + size) h None held (Reads (Some next) None (7 + size)) skip eh step (final_reads (Some next) None (7 + size)) refl refl tt (omega arith) (rw (← eb) there) et)
read_runs_on place filler here to size false begun half next held bytes payload skip eh eb stands there et eg =
    let h = half_of begun half in
    let step : step_at here h (drop filler held) ≡ Reads None (Some next) (7 + size) = ap (step_at here h) (sym eb) ∙ stands ∙ ap (λ g. Reads None (Some g) (7 + size)) eg in
    let P : List ℕ → Type 0 = λ b. Runs place h held to (Some next) (drop (7 + size) b) [] in
    subst P (sym eb) (fragment_runs place here to filler (7 + size) h (Some next) held (Reads None (Some next) (7 + size)) skip eh step (final_reads None (Some next) (7 + size)) refl refl tt (omega arith) (rw (← eb) there) et)

pub step_reads : (place read filler here to size end : ℕ) (last begun : Bool) (half next all rest bytes : List ℕ) → place < 2 ^ 64 → rest ≡ drop read all → bytes ≡ drop filler rest
    → filler ≡ filler_before place (length rest) → here ≡ (place + filler) % 2 ^ 64
    → ((h : Option (List ℕ)) → is_some h ≡ begun → step_at here h bytes ≡ read_of last h (take size (drop 7 bytes)) (7 + size))
    → 7 + size ≤ length bytes → (begun ≡ false → half ≡ []) → next ≡ half ++ take (7 + size - 7) (drop 7 bytes) → to ≡ (here + (7 + size)) % 2 ^ 64 → end ≡ read + (filler + 7 + size)
    → Runs place (half_of begun half) (drop read all) to (half_of (not last) next) (drop end all) (found_of last next)
step_reads place read filler here to size end last begun half next all rest bytes within er eb ef eh stands there fresh en et ee =
    let held = drop read all in
    let is : filler ≡ filler_before place (length held) = ef ∙ ap (λ r. filler_before place (length r)) er in
    let eb' : bytes ≡ drop filler held = eb ∙ ap (drop filler) er in
    let k : 7 + size - 7 ≡ size = omega arith in
    let payload = take size (drop 7 bytes) in
    let eg : gathered (half_of begun half) payload ≡ next = gathers begun half payload fresh ∙ sym (en ∙ ap (λ n. half ++ take n (drop 7 bytes)) k) in
    let n : read + filler + (7 + size) ≡ end = omega arith in
    let behind : drop (7 + size) bytes ≡ drop end all =
    ap (drop (7 + size)) (eb' ∙ drop-drop filler read all) ∙ drop-drop (7 + size) (read + filler) all ∙ ap (λ m. drop m all) n in
    let P : List ℕ → Type 0 = λ b. Runs place (half_of begun half) held to (half_of (not last) next) b (found_of last next) in
    subst P behind (read_runs_on place filler here to size last begun half next held bytes payload (skips place (half_of begun half) held filler here within is eh) eh eb'
    (stands (half_of begun half) (half_is_begun begun half)) there et eg)

pub reads_last : (last : Bool) (place to : ℕ) (half : Option (List ℕ)) (next held rest : List ℕ) → last ≡ true
    → Runs place half held to (half_of (not last) next) rest (found_of last next) → Runs place half held to (half_of (not last) next) rest (next ∷ [])
unfolding found_of
reads_last true place to half next held rest e runs = runs
reads_last false place to half next held rest e runs = absurd cc

pub reads_on : (last : Bool) (place to : ℕ) (half : Option (List ℕ)) (next held rest : List ℕ) → last ≡ false
    → Runs place half held to (half_of (not last) next) rest (found_of last next) → Runs place half held to (half_of (not last) next) rest []
unfolding found_of
reads_on false place to half next held rest e runs = runs
reads_on true place to half next held rest e runs = absurd cc

-- a search that goes on from where another came to
pub seeks_then : (s : Sought) (held : List ℕ) (from mid to : Cursor) (half next last : List ℕ) → Reaches held from half mid next [] → Seeks s held mid next to last → Seeks s held from half to last
seeks_then sought.Record held from mid to half next last a b =
    (runs_then from.place mid.place to.place (half_of from.begun half) (half_of mid.begun next) (half_of to.begun last) (drop from.read held) (drop mid.read held) (drop to.read held) (last ∷ []) a b.0, b.1)
seeks_then (sought.Stands here cause) held from mid to half next last a b =
    (runs_then from.place mid.place to.place (half_of from.begun half) (half_of mid.begun next) (half_of to.begun last) (drop from.read held) (drop mid.read held) (drop to.read held) [] a b.0, b.1, b.2)

pub still_front : (first half next : List ℕ) → length first ≤ length half → take (length first) half ≡ first → length half ≤ length next → take (length half) next ≡ half → take (length first) next ≡ first
still_front first half next few e more f = sym (take-take (length first) (length half) next few) ∙ ap (take (length first)) f ∙ e
