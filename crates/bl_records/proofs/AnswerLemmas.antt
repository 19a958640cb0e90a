-- What a reader answered of a file, for those that read a file to its end.
use Rattle.std.proofs.Common.{◌≡◌, ℕ, List, Option, subst}
use Rattle.bl_log.specs.declared.cause.EndCause.{EndCause}
use Rattle.bl_records.specs.Answers.{Answers}
use Rattle.bl_records.specs.FileReading.{FileReading, HasFound, FindsNext, EndsBehind}
use Rattle.bl_records.specs.declared.reader.NextRecord.{NextRecord}
use Rattle.bl_records.specs.declared.reader.NextRecord.TheVariants.{Record, End}

abbrev pub AnswersOf : NextRecord → Option (List ℕ) → FileReading → FileReading → Type 0
AnswersOf next file old new = (found : List (List ℕ × ℕ)) → HasFound file found old → Answers next file found new

-- of the file as it was at the call, which is the file that is read
pub record_of : (next : NextRecord) (payload : List ℕ) (there file : Option (List ℕ)) (old new : FileReading) → next ≡ Record payload → there ≡ file → AnswersOf next there old new
    → (found : List (List ℕ × ℕ)) → HasFound file found old → FindsNext file found payload new
record_of next payload there file old new is same answers =
    let P : NextRecord → Type 0 = λ n. AnswersOf n there old new in
    let Q : Option (List ℕ) → Type 0 = λ f. AnswersOf (Record payload) f old new in
    subst Q same (subst P is answers)

pub end_of : (next : NextRecord) (place : ℕ) (cause : EndCause) (there file : Option (List ℕ)) (old new : FileReading) → next ≡ End place cause → there ≡ file → AnswersOf next there old new
    → (found : List (List ℕ × ℕ)) → HasFound file found old → EndsBehind file found place cause
end_of next place cause there file old new is same answers =
    let P : NextRecord → Type 0 = λ n. AnswersOf n there old new in
    let Q : Option (List ℕ) → Type 0 = λ f. AnswersOf (End place cause) f old new in
    let ends = subst Q same (subst P is answers) in
    λ found h. (ends found h).1
