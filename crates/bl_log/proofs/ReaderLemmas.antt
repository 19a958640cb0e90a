-- What a reader has read of the bytes fed.
use Rattle.std.proofs.Common.{take, length-drop, nat_eq, cond, ◌≡◌, ℕ, ◌+◌, ◌-◌, ◌%◌, ◌^◌, ◌≤◌, Bool, true, false, List, [], ◌∷◌, ◌++◌, length, map, replicate, Option, None, Some, refl, sym, ◌∙◌, ap, subst, arith, drop, ◌⊎◌, inl, inr, append_assoc, append-nil, length-append}
use Rattle.std.proofs.lemmas.Bool.{le-ltb, cases_lt, cond-false}
use Rattle.std.proofs.lemmas.List.{length-replicate, take_all, drop-append-le}
use Rattle.std.proofs.lemmas.List.Edits.{take-paste}
use Rattle.std.proofs.Math.Seq.{paste}
use Rattle.std.specs.List.{copy_within}
use Rattle.bl_log.specs.declared.cause.EndCause.{EndCause}
use Rattle.bl_log.specs.declared.cause.EndCause.TheVariants.{Finished, Cut, Length, Kind, Crc, Order}
use Rattle.bl_log.specs.Log.{Part, Full, First, Middle, Last, joined, sum_at, payload_at, Step, Ends, Skips, Reads, at_end, room, size_at, part_of, type_at, typed, step_at, walk, steps, whole_of, size_of, bytes_of, records_of, placed_from, placed_records, cause_of, ending, IsDecided}
use Rattle.bl_log.specs.Reading.{Reading, FindsNext, WantsMore, HasRead, HasEnded, EndsAs}
use Rattle.bl_log.specs.Judge.{Runs, IsStuck, IsOpen, half_of}
use Rattle.bl_code.specs.Crc.{crc32c, mask_of}
use Rattle.bl_log.proofs.WalkLemmas.{bytes_of-append, step_filler}
use Rattle.bl_log.proofs.JudgeLemmas.{ends_past, is_typed}
use Rattle.bl_log.proofs.StepLemmas.{IsFinal, final_skips, placed_from-append, behind-append, step_stays, ends_here, size_stays}

records_of_placed : (place : ℕ) (xs : List (List ℕ)) → map (λ (found : List ℕ × ℕ). found.0) (map (λ payload. (payload, place)) xs) ≡ xs
records_of_placed place [] = refl
records_of_placed place (x ∷ xs) = ap (λ r. x ∷ r) (records_of_placed place xs)

map_append : (f : (List ℕ × ℕ) → List ℕ) (a b : List (List ℕ × ℕ)) → map f (a ++ b) ≡ map f a ++ map f b
map_append f [] b = refl
map_append f (x ∷ a) b = ap (λ r. f x ∷ r) (map_append f a b)

pub placed_are_records : (place : ℕ) (passed : List Step) → map (λ (found : List ℕ × ℕ). found.0) (placed_from place passed) ≡ records_of passed
placed_are_records place [] = refl
placed_are_records place (s ∷ more) =
    map_append (λ (found : List ℕ × ℕ). found.0) (map (λ payload. (payload, place + size_of s)) (whole_of s)) (placed_from (place + size_of s) more)
    ∙ ap (λ r. r ++ map (λ (found : List ℕ × ℕ). found.0) (placed_from (place + size_of s) more)) (records_of_placed (place + size_of s) (whole_of s))
    ∙ ap (λ r. whole_of s ++ r) (placed_are_records (place + size_of s) more)

cause_of-append : (a : List Step) (s : Step) (b : List Step) → cause_of (a ++ s ∷ b) ≡ cause_of (s ∷ b)
cause_of-append [] s b = refl
cause_of-append (Ends cause ∷ []) s b = refl
cause_of-append (Skips n ∷ []) s b = refl
cause_of-append (Reads whole next n ∷ []) s b = refl
cause_of-append (Ends cause ∷ t ∷ a) s b = cause_of-append (t ∷ a) s b
cause_of-append (Skips n ∷ t ∷ a) s b = cause_of-append (t ∷ a) s b
cause_of-append (Reads whole next n ∷ t ∷ a) s b = cause_of-append (t ∷ a) s b

-- where a reader goes on, the whole reading does
pub read_runs : (fed : List ℕ) (found : List (List ℕ × ℕ)) (old new : Reading) (fs : List (List ℕ)) → (reads : HasRead fed found old)
    → (runs : Runs old.place old.half old.held new.place new.half new.held fs) → EndsAs fed (found ++ map (λ payload. (payload, bytes_of (reads.passed ++ runs.passed))) fs) new.closed new.ended
    → HasRead fed (found ++ map (λ payload. (payload, bytes_of (reads.passed ++ runs.passed))) fs) new
read_runs fed found old new fs reads runs ended =
    let n : bytes_of (reads.passed ++ runs.passed) ≡ bytes_of reads.passed + bytes_of runs.passed = bytes_of-append reads.passed runs.passed in
    let m : 0 + bytes_of reads.passed + bytes_of runs.passed ≡ bytes_of (reads.passed ++ runs.passed) = omega arith in
    record {
      passed = reads.passed ++ runs.passed;
      walks = λ more. reads.walks more ∙ ap (λ r. reads.passed ++ r) (runs.walks more) ∙ sym (append_assoc reads.passed runs.passed (walk 0 new.place new.half (new.held ++ more)));
      place = runs.stands ∙ let e = reads.place in (omega arith);
      behind = behind-append reads.passed runs.passed reads.behind runs.behind;
      finds = placed_from-append 0 reads.passed runs.passed ∙ ap (λ r. r ++ placed_from (0 + bytes_of reads.passed) runs.passed) reads.finds
          ∙ ap (λ r. found ++ r) (runs.finds (0 + bytes_of reads.passed) ∙ ap (λ k. map (λ payload. (payload, k)) fs) m);
      ended = ended;
    }

-- all that the bytes fed give, where a reader is stuck
all_steps : (fed : List ℕ) (found : List (List ℕ × ℕ)) (r : Reading) (here : ℕ) (cause : EndCause) → (reads : HasRead fed found r) → (s : IsStuck r.place r.half r.held here cause)
    → steps fed ≡ reads.passed ++ (s.skipped ++ Ends cause ∷ [])
all_steps fed found r here cause reads s =
    ap (walk 0 0 None) (sym (append-nil fed)) ∙ reads.walks [] ∙ ap (λ w. reads.passed ++ w) (s.walks [] ∙ ap (λ w. s.skipped ++ w) (ap (walk 0 here r.half) (append-nil s.rest) ∙ ends_here here r.half s.rest cause s.ends))

pub all_found : (fed : List ℕ) (found : List (List ℕ × ℕ)) (r : Reading) (here : ℕ) (cause : EndCause) → HasRead fed found r → IsStuck r.place r.half r.held here cause → found ≡ placed_records fed
all_found fed found r here cause reads s = sym (
    ap (placed_from 0) (all_steps fed found r here cause reads s)
    ∙ placed_from-append 0 reads.passed (s.skipped ++ Ends cause ∷ [])
    ∙ ap (λ p. placed_from 0 reads.passed ++ p) (placed_from-append (0 + bytes_of reads.passed) s.skipped (Ends cause ∷ []) ∙ append-nil (placed_from (0 + bytes_of reads.passed) s.skipped) ∙ s.finds (0 + bytes_of reads.passed))
    ∙ append-nil (placed_from 0 reads.passed) ∙ reads.finds)

pub its_place : (fed : List ℕ) (found : List (List ℕ × ℕ)) (r : Reading) (here : ℕ) (cause : EndCause) → HasRead fed found r → IsStuck r.place r.half r.held here cause → here ≡ (ending fed).0 % 2 ^ 64
its_place fed found r here cause reads s =
    let n : bytes_of (steps fed) ≡ bytes_of reads.passed + bytes_of s.skipped =
    ap bytes_of (all_steps fed found r here cause reads s) ∙ bytes_of-append reads.passed (s.skipped ++ Ends cause ∷ []) ∙ ap (λ k. bytes_of reads.passed + k) (bytes_of-append s.skipped (Ends cause ∷ []) ∙ (omega arith)) in
    let e = reads.place in
    let f = s.stands in
    omega arith

pub its_cause : (fed : List ℕ) (found : List (List ℕ × ℕ)) (r : Reading) (here : ℕ) (cause : EndCause) → HasRead fed found r → IsStuck r.place r.half r.held here cause → cause ≡ (ending fed).1
its_cause fed found r here cause reads s = sym (
    ap cause_of (all_steps fed found r here cause reads s ∙ sym (append_assoc reads.passed s.skipped (Ends cause ∷ [])))
    ∙ cause_of-append (reads.passed ++ s.skipped) (Ends cause) [])

-- what isn't open is decided
final_of : (cause : EndCause) → (IsOpen cause → ⊥) → IsFinal (Ends cause)
unfolding IsFinal
final_of Finished no_open = no_open (inl refl)
final_of Cut no_open = no_open (inr refl)
final_of Length no_open = tt
final_of Kind no_open = tt
final_of Crc no_open = tt
final_of Order no_open = tt

pub decided : (fed : List ℕ) (found : List (List ℕ × ℕ)) (r : Reading) (here : ℕ) (cause : EndCause) → HasRead fed found r → IsStuck r.place r.half r.held here cause → (IsOpen cause → ⊥) → IsDecided fed
decided fed found r here cause reads s no_open = λ more.
    let final : IsFinal (step_at here r.half s.rest) = subst IsFinal (sym s.ends) (final_of cause no_open) in
    reads.walks more
    ∙ ap (λ w. reads.passed ++ w) (s.walks more ∙ ap (λ w. s.skipped ++ w) (ends_here here r.half (s.rest ++ more) cause (step_stays here r.half s.rest more final ∙ s.ends)))
    ∙ sym (all_steps fed found r here cause reads s)

-- bytes enough for any fragment
enough : List ℕ → List ℕ
enough rest = replicate 7 0 ++ replicate (size_at (rest ++ replicate 7 0)) 0

at_end_is_open : (half : Option (List ℕ)) → IsOpen (at_end half)
at_end_is_open None = inl refl
at_end_is_open (Some front) = inr refl

open_not_final : (cause : EndCause) → IsOpen cause → IsFinal (Ends cause) → ⊥
unfolding IsFinal
open_not_final Finished o f = f
open_not_final Cut o f = f
open_not_final Length (inl e) f = cc
open_not_final Length (inr e) f = cc
open_not_final Kind (inl e) f = cc
open_not_final Kind (inr e) f = cc
open_not_final Crc (inl e) f = cc
open_not_final Crc (inr e) f = cc
open_not_final Order (inl e) f = cc
open_not_final Order (inr e) f = cc

joined_final : (p : Part) (half : Option (List ℕ)) (payload : List ℕ) (n : ℕ) → IsFinal (joined p half payload n)
unfolding IsFinal
joined_final Full None payload n = tt
joined_final First None payload n = tt
joined_final Middle None payload n = tt
joined_final Last None payload n = tt
joined_final Full (Some front) payload n = tt
joined_final First (Some front) payload n = tt
joined_final Middle (Some front) payload n = tt
joined_final Last (Some front) payload n = tt

crc_final : (b : Bool) (step : Step) → IsFinal step → IsFinal (cond b step (Ends Crc))
unfolding IsFinal
crc_final true step f = f
crc_final false step f = tt

typed_final : (p : Option Part) (half : Option (List ℕ)) (bytes : List ℕ) → 7 + size_at bytes ≤ length bytes → IsFinal (typed p half bytes)
unfolding IsFinal
typed_final None half bytes there = tt
typed_final (Some p) half bytes there =
    subst IsFinal (sym (cond-false _ _ _ (le-ltb _ _ there)))
    (crc_final (nat_eq (sum_at bytes) (mask_of (crc32c (type_at bytes ∷ payload_at bytes)))) (joined p half (payload_at bytes) (7 + size_at bytes)) (joined_final p half (payload_at bytes) (7 + size_at bytes)))

length_final : IsFinal (Ends Length)
unfolding IsFinal
length_final = tt

long_final : (place : ℕ) (half : Option (List ℕ)) (bytes : List ℕ) → 7 + size_at bytes ≤ length bytes → IsFinal (step_at place half bytes)
long_final place half bytes there = elim (cases_lt (room place) 7) [
  | inl small ↦ subst IsFinal (sym (step_filler place half bytes small (omega arith))) (final_skips (room place))
  | inr roomy ↦ elim (cases_lt (room place) (7 + size_at bytes)) [
    | inl past ↦ subst IsFinal (sym (ends_past place half bytes roomy (omega arith) past)) length_final
    | inr fits ↦ subst IsFinal (sym (is_typed place half bytes (omega arith) fits)) (typed_final (part_of (type_at bytes)) half bytes there)
  ]
]

walk_head : (place : ℕ) (half : Option (List ℕ)) (bytes : List ℕ) (s : Step) (tail : List Step) → walk 0 place half bytes ≡ s ∷ tail → step_at place half bytes ≡ s
unfolding walk
walk_head place half [] s tail e = cc
walk_head place half (b ∷ bs) s tail e = cc

same_tail : (a b c : List Step) → a ++ b ≡ a ++ c → b ≡ c
same_tail [] b c e = e
same_tail (s ∷ a) b c e = same_tail a b c cc

enough_there : (rest : List ℕ) → 7 + size_at (rest ++ enough rest) ≤ length (rest ++ enough rest)
unfolding enough
enough_there rest =
    let front = rest ++ replicate 7 0 in
    let n : length front ≡ length rest + 7 = length-append rest (replicate 7 0) ∙ ap (λ k. length rest + k) (length-replicate {A = ℕ} 7 0) in
    let split : rest ++ (replicate 7 0 ++ replicate (size_at front) 0) ≡ front ++ replicate (size_at front) 0 = sym (append_assoc rest (replicate 7 0) (replicate (size_at front) 0)) in
    let same : size_at (front ++ replicate (size_at front) 0) ≡ size_at front = size_stays front (replicate (size_at front) 0) (omega arith) in
    let long : length (front ++ replicate (size_at front) 0) ≡ length front + size_at front = length-append front (replicate (size_at front) 0) ∙ ap (λ k. length front + k) (length-replicate {A = ℕ} (size_at front) 0) in
    let P : List ℕ → Type 0 = λ bytes. 7 + size_at bytes ≤ length bytes in
    subst P (sym split) (omega (arith, same, long, n))

-- what is open isn't decided
pub undecided : (fed : List ℕ) (found : List (List ℕ × ℕ)) (r : Reading) (here : ℕ) (cause : EndCause) → HasRead fed found r → IsStuck r.place r.half r.held here cause → IsOpen cause → IsDecided fed → ⊥
undecided fed found r here cause reads s is_open is_decided =
    let more = enough s.rest in
    let far : reads.passed ++ (s.skipped ++ walk 0 here r.half (s.rest ++ more)) ≡ reads.passed ++ (s.skipped ++ Ends cause ∷ []) =
    ap (λ w. reads.passed ++ w) (sym (s.walks more)) ∙ sym (reads.walks more) ∙ is_decided more ∙ all_steps fed found r here cause reads s in
    let end : walk 0 here r.half (s.rest ++ more) ≡ Ends cause ∷ [] = same_tail s.skipped _ _ (same_tail reads.passed _ _ far) in
    let step : step_at here r.half (s.rest ++ more) ≡ Ends cause = walk_head here r.half (s.rest ++ more) (Ends cause) [] end in
    open_not_final cause is_open (subst IsFinal step (long_final here r.half (s.rest ++ more) (enough_there s.rest)))

-- more bytes are fed
decided_more : (fed bytes : List ℕ) → IsDecided fed → IsDecided (fed ++ bytes)
decided_more fed bytes d = λ more. ap (walk 0 0 None) (append_assoc fed bytes more) ∙ d (bytes ++ more) ∙ sym (d bytes)

ended_more : (fed bytes : List ℕ) (found : List (List ℕ × ℕ)) (at : ℕ) (why : EndCause) → HasEnded fed found false at why → HasEnded (fed ++ bytes) found false at why
ended_more fed bytes found at why h = elim h.last [
  | inl no_more ↦ cc
  | inr d ↦ record {
    all_found = h.all_found ∙ ap (placed_from 0) (sym (d bytes));
    place = h.place ∙ ap (λ s. bytes_of s % 2 ^ 64) (sym (d bytes));
    cause = h.cause ∙ ap cause_of (sym (d bytes));
    last = inr (decided_more fed bytes d);
  }
]

ends_more : (fed bytes : List ℕ) (found : List (List ℕ × ℕ)) (end : Option (ℕ × EndCause)) → EndsAs fed found false end → EndsAs (fed ++ bytes) found false end
ends_more fed bytes found None h = tt
ends_more fed bytes found (Some end) h = ended_more fed bytes found end.0 end.1 h

pub fed_more : (fed bytes held : List ℕ) (found : List (List ℕ × ℕ)) (old new : Reading) → old.closed ≡ false → held ≡ old.held ++ bytes
    → new ≡ record old { held = held } → HasRead fed found old → HasRead (fed ++ bytes) found new
fed_more fed bytes held found old new is_open more same reads =
    let E : Bool → Type 0 = λ b. EndsAs fed found b old.ended in
    let F : Bool → Type 0 = λ b. EndsAs (fed ++ bytes) found b old.ended in
    let P : Reading → Type 0 = λ r. HasRead (fed ++ bytes) found r in
    subst P (sym same) (record {
      passed = reads.passed;
      walks = λ m.
          ap (walk 0 0 None) (append_assoc fed bytes m) ∙ reads.walks (bytes ++ m)
          ∙ ap (λ b. reads.passed ++ walk 0 old.place old.half b) (sym (append_assoc old.held bytes m) ∙ ap (λ h. h ++ m) (sym more));
      place = reads.place;
      behind = reads.behind;
      finds = reads.finds;
      ended = subst F (sym is_open) (ends_more fed bytes found old.ended (subst E is_open reads.ended));
    })

-- no more bytes follow
ends_closed : (fed : List ℕ) (found : List (List ℕ × ℕ)) (b : Bool) (end : Option (ℕ × EndCause)) → EndsAs fed found b end → EndsAs fed found true end
ends_closed fed found b None h = tt
ends_closed fed found b (Some end) h = record { all_found = h.all_found; place = h.place; cause = h.cause; last = inl refl }

pub closes : (fed : List ℕ) (found : List (List ℕ × ℕ)) (old : Reading) → HasRead fed found old → HasRead fed found (record old { closed = true })
closes fed found old reads = record {
  passed = reads.passed;
  walks = reads.walks;
  place = reads.place;
  behind = reads.behind;
  finds = reads.finds;
  ended = ends_closed fed found old.closed old.ended reads.ended;
}

-- the next record is found
pub finds_next : (payload fed : List ℕ) (found : List (List ℕ × ℕ)) (old new : Reading) → HasRead fed found old → Runs old.place old.half old.held new.place new.half new.held (payload ∷ []) → new.ended ≡ None
    → FindsNext payload fed found new
finds_next payload fed found old new reads runs none =
    let n : bytes_of (reads.passed ++ runs.passed) ≡ bytes_of reads.passed + bytes_of runs.passed = bytes_of-append reads.passed runs.passed in
    let E : Option (ℕ × EndCause) → Type 0 = λ e. EndsAs fed (found ++ map (λ p. (p, bytes_of (reads.passed ++ runs.passed))) (payload ∷ [])) new.closed e in
    record {
      place = bytes_of (reads.passed ++ runs.passed);
      reads = read_runs fed found old new (payload ∷ []) reads runs (subst E (sym none) tt);
      stands = runs.stands ∙ let e = reads.place in (omega arith);
    }

goes_to : (fed : List ℕ) (found : List (List ℕ × ℕ)) (old new : Reading) → HasRead fed found old → Runs old.place old.half old.held new.place new.half new.held [] → new.ended ≡ None → HasRead fed found new
goes_to fed found old new reads runs none =
    let E : Option (ℕ × EndCause) → Type 0 = λ e. EndsAs fed (found ++ []) new.closed e in
    let H : List (List ℕ × ℕ) → Type 0 = λ f. HasRead fed f new in
    subst H (append-nil found) (read_runs fed found old new [] reads runs (subst E (sym none) tt))

-- more bytes are wanted
pub wants_more : (fed : List ℕ) (found : List (List ℕ × ℕ)) (old new : Reading) (here : ℕ) (cause : EndCause) → HasRead fed found old → Runs old.place old.half old.held new.place new.half new.held [] → new.ended ≡ None
    → IsStuck new.place new.half new.held here cause → new.closed ≡ false → IsOpen cause → WantsMore fed found new
wants_more fed found old new here cause reads runs none s not_closed is_open =
    let now = goes_to fed found old new reads runs none in
    record { reads = now; all_found = all_found fed found new here cause now s; closed = not_closed; undecided = undecided fed found new here cause now s is_open }

-- reading ends
last_word : (fed : List ℕ) (found : List (List ℕ × ℕ)) (r : Reading) (here : ℕ) (cause : EndCause) → HasRead fed found r → IsStuck r.place r.half r.held here cause → (r.closed ≡ true) ⊎ (IsOpen cause → ⊥)
    → (r.closed ≡ true) ⊎ IsDecided fed
last_word fed found r here cause reads s (inl no_more) = inl no_more
last_word fed found r here cause reads s (inr no_open) = inr (decided fed found r here cause reads s no_open)

pub has_ended : (fed : List ℕ) (found : List (List ℕ × ℕ)) (old new : Reading) (here : ℕ) (cause : EndCause) → HasRead fed found old → Runs old.place old.half old.held new.place new.half new.held []
    → IsStuck new.place new.half new.held here cause → new.ended ≡ Some (here, cause) → (new.closed ≡ true) ⊎ (IsOpen cause → ⊥) → HasRead fed found new × HasEnded fed found new.closed here cause
has_ended fed found old new here cause reads runs s some why =
    let mid : Reading = record new { ended = None } in
    let now : HasRead fed found mid = goes_to fed found old mid reads runs refl in
    let end : HasEnded fed found new.closed here cause = record {
      all_found = all_found fed found mid here cause now s;
      place = its_place fed found mid here cause now s;
      cause = its_cause fed found mid here cause now s;
      last = last_word fed found mid here cause now s why;
    } in
    let E : Option (ℕ × EndCause) → Type 0 = λ e. EndsAs fed found new.closed e in
    (record { passed = now.passed; walks = now.walks; place = now.place; behind = now.behind; finds = now.finds; ended = subst E (sym some) end }, end)

-- the record that was gathered is handed out
pub handed_out : (place to : ℕ) (half : Option (List ℕ)) (held rest gathered left payload : List ℕ) (begun : Bool) → begun ≡ false → payload ≡ gathered
    → Runs place half held to (half_of begun gathered) rest (gathered ∷ []) → Runs place half held to (half_of begun left) rest (payload ∷ [])
handed_out place to half held rest gathered left payload false e same runs =
    let P : List ℕ → Type 0 = λ g. Runs place half held to None rest (g ∷ []) in
    subst P (sym same) runs
handed_out place to half held rest gathered left payload true e same runs = absurd cc

-- the bytes that are not yet read move to the front
pub moved_front : (xs ys zs : List ℕ) (read n : ℕ) → n ≡ length xs → read ≤ n → ys ≡ copy_within xs read n 0 → zs ≡ take (n - read) ys → drop 0 zs ≡ drop read xs
moved_front xs ys zs read n long within ey ez =
    let z : 0 + (n - read) ≡ n - read = omega arith in
    let few : n - read ≤ length (drop read xs) = simp length-drop (omega arith) in
    let all : length (drop read xs) ≤ n - read = simp length-drop (omega arith) in
    ez ∙ ap (take (n - read)) ey ∙ ap (λ k. take k (paste xs 0 (drop read xs) (n - read))) (sym z) ∙ take-paste xs 0 (drop read xs) (n - read) (omega arith) few ∙ take_all (n - read) (drop read xs) all

pub drop_more : (xs bytes more : List ℕ) (read : ℕ) → read ≤ length xs → more ≡ xs ++ bytes → drop read more ≡ drop read xs ++ bytes
drop_more xs bytes more read within e = ap (drop read) e ∙ drop-append-le read xs bytes within
