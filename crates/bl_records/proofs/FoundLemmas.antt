-- A file that is read, step by step.
use Rattle.std.proofs.Common.{◌≡◌, inl, inr, ℕ, ◌+◌, ◌-◌, ◌%◌, ◌^◌, ◌<◌, min, Bool, true, false, List, [], ◌∷◌, ◌++◌, length, take, drop, Option, Some, None, Result, Ok, refl, sym, ◌∙◌, ap, subst, arith, append_assoc}
use Rattle.std.proofs.Math.Seq.{take-add}
use Rattle.std.proofs.lemmas.List.{take_all, take-append-drop}
use Rattle.std.specs.Prelude.{MatchOption, unwrap_or}
use Rattle.std.specs.Option.{option_map, IfSome}
use Rattle.std.specs.Result.{OnErr}
use Rattle.bl_site.specs.Disk.{File, Name}
use Rattle.bl_log.specs.Answers.{Answers as Tells}
use Rattle.bl_log.specs.Log.{Step, placed_records, placed_from, steps, walk, step_at, bytes_of, cause_of, IsDecided}
use Rattle.bl_log.specs.Reading.{Reading, HasRead, HasEnded, FindsNext as FindsIn}
use Rattle.bl_log.specs.declared.cause.EndCause.{EndCause}
use Rattle.bl_log.specs.declared.reader.LogNext.{LogNext}
use Rattle.bl_log.specs.declared.writer.LogErr.{LogErr}
use Rattle.bl_log.specs.declared.reader.LogNext.TheVariants.{Found, NeedMore, End}
use Rattle.bl_records.specs.FileReading.{FileReading, reading_at, HasFound, FindsNext, EndsBehind}

pub at_some : (r : Option ℕ) (n : ℕ) (A : Type 0) (B : ℕ → Type 0) → r ≡ Some n → MatchOption r A B → B n
at_some r n A B e m = subst (λ (x : Option ℕ). MatchOption x A B) e m

-- what `read_at` says of a piece
abbrev pub IsPiece : Option File → List ℕ → ℕ → ℕ → Type 0
IsPiece o into offset n = (file : File) × (o ≡ Some file) × (n ≡ min (length into) (length file.read - offset)) × (take n into ≡ take n (drop offset file.read))

abbrev pub reads_of : Option File → Option (List ℕ)
reads_of o = option_map (λ (file : File). file.read) o

-- the bytes that a reader may be fed
abbrev pub all_of : Option (List ℕ) → List ℕ
all_of file = unwrap_or file []

-- what a reader that reads on has found
abbrev pub Keeps : Name → Option (List ℕ) → ℕ → ℕ → Reading → Reading → Type 0
Keeps name file offset next old new = (found : List (List ℕ × ℕ)) → HasFound file found (reading_at name offset old) → HasFound file found (reading_at name next new)

pub begins : (name : Name) (reading : Reading) (file : Option (List ℕ)) → reading.closed ≡ false → HasRead [] [] reading → HasFound file [] (reading_at name 0 reading)
begins name reading file open_ reads = record {
  reads = reads;
  whole = λ closed. absurd (let wrong : false ≡ true = sym open_ ∙ closed in cc wrong);
}

pub closes : (name : Name) (o : Option File) (into : List ℕ) (offset n : ℕ) (old new : Reading) → 0 < length into → n ≡ 0 → IsPiece o into offset n
    → ((fed : List ℕ) (found : List (List ℕ × ℕ)) → HasRead fed found old → HasRead fed found new) → Keeps name (reads_of o) offset offset old new
closes name o into offset n old new some none piece reads found h = record {
  reads = reads (take offset (all_of (reads_of o))) found h.reads;
  whole = λ closed. (piece.0.read, ap reads_of piece.1, omega (arith, piece.2));
}

pub feeds : (name : Name) (o : Option File) (into : List ℕ) (offset next n : ℕ) (old new : Reading) → next ≡ offset + n → IsPiece o into offset n → new.closed ≡ false
    → ((fed : List ℕ) (found : List (List ℕ × ℕ)) → HasRead fed found old → HasRead (fed ++ take n into) found new) → Keeps name (reads_of o) offset next old new
feeds name o into offset next n old new is piece open_ reads found h =
    let bytes = all_of (reads_of o) in
    let same : bytes ≡ piece.0.read = ap (λ (x : Option File). all_of (reads_of x)) piece.1 in
    let P : List ℕ → Type 0 = λ fed. HasRead fed found new in
    let more : take offset bytes ++ take n into ≡ take next bytes =
    ap (λ x. take offset bytes ++ x) (piece.3 ∙ ap (λ b. take n (drop offset b)) (sym same)) ∙ sym (take-add offset n bytes) ∙ ap (λ k. take k bytes) (sym is) in
    record {
      reads = subst P more (reads (take offset bytes) found h.reads);
      whole = λ closed. absurd (let wrong : false ≡ true = sym open_ ∙ closed in cc wrong);
    }

-- a reader that has read the same
pub read_on : (name : Name) (file : Option (List ℕ)) (offset : ℕ) (old new : Reading) → new.closed ≡ old.closed
    → ((fed : List ℕ) (found : List (List ℕ × ℕ)) → HasRead fed found old → HasRead fed found new) → Keeps name file offset offset old new
read_on name file offset old new same reads found h = record {
  reads = reads (take offset (all_of file)) found h.reads;
  whole = λ closed. h.whole (sym same ∙ closed);
}

-- a reader that has read the same, and was then fed a piece
pub piece_fed : (name : Name) (file there : Option (List ℕ)) (begin offset next : ℕ) (first old read new : Reading) → there ≡ file
    → Keeps name file begin offset first old → Keeps name file offset offset old read → Keeps name there offset next read new → Keeps name file begin next first new
piece_fed name file there begin offset next first old read new same so_far here fed found h =
    let P : Option (List ℕ) → Type 0 = λ f. Keeps name f offset next read new in
    subst P same fed found (here found (so_far found h))

pub stays_found : (name : Name) (file : Option (List ℕ)) (begin offset : ℕ) (first old new : Reading) → new ≡ old → Keeps name file begin offset first old → Keeps name file begin offset first new
stays_found name file begin offset first old new same so_far =
    let P : Reading → Type 0 = λ r. Keeps name file begin offset first r in
    subst P (sym same) so_far

-- the same, where the reader is seen as one value
pub seen_whole : {T E : Type 0} (result : Result T E) (file : Name → Option (List ℕ)) (name text : Name) (offset next : ℕ) (old new : Reading) (reader : FileReading) → text ≡ name → reading_at name offset old ≡ reader
    → OnErr result (Keeps text (file text) offset next old new)
    → OnErr result ((found : List (List ℕ × ℕ)) → HasFound (file reader.name) found reader → HasFound (file reader.name) found (reading_at name next new))
seen_whole result file name text offset next old new reader is seen keeps =
    let P : Name → Type 0 = λ n. OnErr result (Keeps n (file n) offset next old new) in
    let Q : FileReading → Type 0 = λ r. OnErr result ((found : List (List ℕ × ℕ)) → HasFound (file r.name) found r → HasFound (file r.name) found (reading_at name next new)) in
    subst Q seen (subst P is keeps)

-- a reader that has ended wants no more
pub wants_none : (n : LogNext) (new old : Reading) (ended : Option (ℕ × EndCause)) (end : ℕ × EndCause) → ended ≡ Some end → n ≡ NeedMore
    → IfSome ended (λ e. (◌≡◌ {A = Result LogNext LogErr} (Ok n) (Ok (End e.0 e.1))) × (new ≡ old)) → ⊥
wants_none n new old ended end some more again =
    let P : Option (ℕ × EndCause) → Type 0 = λ o. IfSome o (λ e. (◌≡◌ {A = Result LogNext LogErr} (Ok n) (Ok (End e.0 e.1))) × (new ≡ old)) in
    let told : ◌≡◌ {A = Result LogNext LogErr} (Ok n) (Ok (End end.0 end.1)) = (subst P some again).0 in
    let same : n ≡ End end.0 end.1 = cc told in
    let wrong : NeedMore ≡ End end.0 end.1 = sym more ∙ same in
    cc wrong

-- what a reader has found are the first records, whatever follows
abbrev pub FoundFirst : Type 0
FoundFirst = (fed : List ℕ) (found : List (List ℕ × ℕ)) (reading : Reading) → HasRead fed found reading → (more : List ℕ) → (rest : List (List ℕ × ℕ)) × (placed_records (fed ++ more) ≡ found ++ rest)

not_nothing : (found : List (List ℕ × ℕ)) (x : List ℕ × ℕ) (rest : List (List ℕ × ℕ)) → placed_records [] ≡ found ++ (x ∷ rest) → ⊥
unfolding walk step_at
not_nothing [] x rest e = cc e
not_nothing (y ∷ more) x rest e = cc e

with_file : (file : Option (List ℕ)) (found : List (List ℕ × ℕ)) (payload : List ℕ) (reader : FileReading) (behind : ℕ) (rest : List (List ℕ × ℕ)) → HasFound file (found ++ (payload, behind) ∷ []) reader
    → reader.reading.place ≡ behind % 2 ^ 64 → placed_records (all_of file) ≡ found ++ ((payload, behind) ∷ rest) → FindsNext file found payload reader
with_file None found payload reader behind rest finds stands split = absurd (not_nothing found (payload, behind) rest split)
with_file (Some bytes) found payload reader behind rest finds stands split = record {
  behind = behind;
  finds = finds;
  stands = stands;
  bytes = bytes;
  there = refl;
  rest = rest;
  split = split;
}

finds_next : FoundFirst → (name : Name) (file : Option (List ℕ)) (offset : ℕ) (old new : Reading) (payload : List ℕ) → new.closed ≡ old.closed
    → ((fed : List ℕ) (found : List (List ℕ × ℕ)) → HasRead fed found old → FindsIn payload fed found new)
    → (found : List (List ℕ × ℕ)) → HasFound file found (reading_at name offset old) → FindsNext file found payload (reading_at name offset new)
finds_next law name file offset old new payload same finds found h =
    let fed = take offset (all_of file) in
    let f = finds fed found h.reads in
    let first = law fed (found ++ (payload, f.place) ∷ []) new f.reads (drop offset (all_of file)) in
    with_file file found payload (reading_at name offset new) f.place first.0 (record { reads = f.reads; whole = λ closed. h.whole (sym same ∙ closed) }) f.stands
    (ap placed_records (sym (take-append-drop offset (all_of file))) ∙ first.1 ∙ append_assoc found ((payload, f.place) ∷ []) first.0)

-- nothing decides where reading ends before a byte is fed
undecided : IsDecided [] → ⊥
unfolding walk step_at
undecided decided = let e : steps (0 ∷ []) ≡ steps [] = decided (0 ∷ []) in cc e

whole_ends : (found : List (List ℕ × ℕ)) (fed bytes : List ℕ) (file : Option (List ℕ)) (closed : Bool) (place : ℕ) (cause : EndCause) → file ≡ Some bytes → steps bytes ≡ steps fed
    → HasEnded fed found closed place cause → EndsBehind file found place cause
whole_ends found fed bytes file closed place cause there same end = record {
  bytes = bytes;
  there = there;
  all_found = end.all_found ∙ ap (placed_from 0) (sym same);
  place_is = end.place ∙ ap (λ (ss : List Step). bytes_of ss % 2 ^ 64) (sym same);
  cause_is = end.cause ∙ ap cause_of (sym same);
}

decided_ends : (file : Option (List ℕ)) (offset : ℕ) (found : List (List ℕ × ℕ)) (closed : Bool) (place : ℕ) (cause : EndCause) → HasEnded (take offset (all_of file)) found closed place cause
    → IsDecided (take offset (all_of file)) → EndsBehind file found place cause
decided_ends None offset found closed place cause end decided =
    let P : List ℕ → Type 0 = λ fed. IsDecided fed in
    let nothing : take offset [] ≡ [] = take_all offset [] (omega arith) in
    absurd (undecided (subst P nothing decided))
decided_ends (Some bytes) offset found closed place cause end decided =
    whole_ends found (take offset bytes) bytes (Some bytes) closed place cause refl (ap steps (sym (take-append-drop offset bytes)) ∙ decided (drop offset bytes)) end

pub ends_behind : (name : Name) (file : Option (List ℕ)) (offset : ℕ) (reading : Reading) (found : List (List ℕ × ℕ)) (place : ℕ) (cause : EndCause) → HasFound file found (reading_at name offset reading)
    → HasEnded (take offset (all_of file)) found reading.closed place cause → EndsBehind file found place cause
ends_behind name file offset reading found place cause h end = elim end.last [
  | inl closed ↦
      (let w = h.whole closed in
      let fed : take offset (all_of file) ≡ w.0 = ap (λ (f : Option (List ℕ)). take offset (all_of f)) w.1 ∙ take_all offset w.0 w.2 in
      whole_ends found (take offset (all_of file)) w.0 file reading.closed place cause w.1 (ap steps (sym fed)) end)
  | inr decided ↦ decided_ends file offset found reading.closed place cause end decided
]

-- what the reader of the log answered
abbrev pub AnswersOf : LogNext → Reading → Reading → Type 0
AnswersOf n old new = (fed : List ℕ) (found : List (List ℕ × ℕ)) → HasRead fed found old → Tells n fed found new

pub next_found : FoundFirst → (name : Name) (file : Option (List ℕ)) (offset : ℕ) (old new : Reading) (n : LogNext) (payload : List ℕ) → n ≡ Found payload → AnswersOf n old new → new.closed ≡ old.closed
    → (found : List (List ℕ × ℕ)) → HasFound file found (reading_at name offset old) → FindsNext file found payload (reading_at name offset new)
next_found law name file offset old new n payload is answers same =
    let P : LogNext → Type 0 = λ m. AnswersOf m old new in
    finds_next law name file offset old new payload same (subst P is answers)

pub more_wanted : (name : Name) (file : Option (List ℕ)) (offset : ℕ) (old new : Reading) (n : LogNext) → n ≡ NeedMore → AnswersOf n old new → new.closed ≡ old.closed → Keeps name file offset offset old new
more_wanted name file offset old new n is answers same =
    let P : LogNext → Type 0 = λ m. AnswersOf m old new in
    let wants = subst P is answers in
    read_on name file offset old new same (λ fed found r. (wants fed found r).reads)

pub end_told : (name : Name) (file : Option (List ℕ)) (offset : ℕ) (old new : Reading) (n : LogNext) (place : ℕ) (cause : EndCause) → n ≡ End place cause → AnswersOf n old new → new.closed ≡ old.closed
    → (found : List (List ℕ × ℕ)) → HasFound file found (reading_at name offset old) → HasFound file found (reading_at name offset new) × EndsBehind file found place cause
end_told name file offset old new n place cause is answers same found h =
    let P : LogNext → Type 0 = λ m. AnswersOf m old new in
    let ends = subst P is answers in
    let kept = read_on name file offset old new same (λ fed found r. (ends fed found r).0) found h in
    (kept, ends_behind name file offset new found place cause kept (ends (take offset (all_of file)) found h.reads).1)
