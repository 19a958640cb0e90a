-- What the next record of a log, or its end, says of the log.
use Rattle.std.proofs.Common.{◌≡◌, ◌∙◌, ℕ, List, [], ◌∷◌, ◌++◌, Option, None, Some, sym, subst, ap}
use Rattle.bl_site.specs.Disk.{Name, Disk, Folder, folder_of}
use Rattle.bl_log.specs.declared.cause.EndCause.{EndCause}
use Rattle.bl_records.specs.Answers.{Answers}
use Rattle.bl_records.specs.FileReading.{FileReading, HasFound}
use Rattle.bl_records.specs.declared.reader.NextRecord.{NextRecord}
use Rattle.bl_records.specs.declared.reader.NextRecord.TheVariants.{Record, End}
use Rattle.bl_main.specs.Ends.{EndsAt, Tells, TellsEach, none, passed, told}
use Rattle.bl_main.specs.declared.logs.EarlyEnd.{EarlyEnd}

pub same_file : (disk start : Disk) (name wanted : Name) → disk ≡ start → name ≡ wanted → folder_of disk name ≡ folder_of start wanted
same_file disk start name wanted stays is = ap (λ d. folder_of d name) stays ∙ ap (λ n. folder_of start n) is

pub ends_at : (file wanted : Option (List ℕ)) (found : List (List ℕ × ℕ)) (next : NextRecord) (place : ℕ) (cause : EndCause) (reader : FileReading) → file ≡ wanted → next ≡ End place cause
    → Answers next file found reader → EndsAt wanted place cause
ends_at file wanted found next place cause reader same is h =
    let end : Answers (End place cause) file found reader = subst (λ n. Answers n file found reader) is h in
    record { bytes = end.1.bytes; there = sym same ∙ end.1.there; place_is = end.1.place_is; cause_is = end.1.cause_is }

pub finds_more : (file wanted : Option (List ℕ)) (found : List (List ℕ × ℕ)) (next : NextRecord) (payload : List ℕ) (reader : FileReading) → file ≡ wanted → next ≡ Record payload
    → Answers next file found reader → (more : List (List ℕ × ℕ)) × HasFound wanted more reader
finds_more file wanted found next payload reader same is h =
    let one : Answers (Record payload) file found reader = subst (λ n. Answers n file found reader) is h in
    (found ++ (payload, one.behind) ∷ [], subst (λ f. HasFound f (found ++ (payload, one.behind) ∷ []) reader) same one.finds)

pub found_there : (file wanted : Option (List ℕ)) (found : List (List ℕ × ℕ)) (reader : FileReading) → file ≡ wanted → HasFound wanted found reader → HasFound file found reader
found_there file wanted found reader same h = subst (λ f. HasFound f found reader) (sym same) h

-- one file more, of which nothing is to be said, or this
pub each_passed : {folder : Folder} {names : List Name} {ends : List EarlyEnd} {name : Name} → TellsEach folder names ends → Tells name (folder name) None → TellsEach folder (names ++ name ∷ []) ends
each_passed none t = passed t none
each_passed (passed a more) t = passed a (each_passed more t)
each_passed (told a more) t = told a (each_passed more t)

pub each_told : {folder : Folder} {names : List Name} {ends : List EarlyEnd} {name : Name} (end : EarlyEnd) → TellsEach folder names ends → Tells name (folder name) (Some end) → TellsEach folder (names ++ name ∷ []) (ends ++ end ∷ [])
each_told end none t = told t none
each_told end (passed a more) t = passed a (each_told end more t)
each_told end (told a more) t = told a (each_told end more t)

-- in the words of the code
module _ (folder now : Folder) (name wanted : Name) (said : Option EarlyEnd) (same : now ≡ folder) (is : name ≡ wanted) {names : List Name} {ends : List EarlyEnd} (each : TellsEach folder names ends) (tells : Tells name (now name) said) where
  told_there : Tells wanted (folder wanted) said
  told_there = subst (λ n. Tells n (folder n) said) is (subst (λ (f : Folder). Tells name (f name) said) same tells)

  pub nothing_more : said ≡ None → TellsEach folder (names ++ wanted ∷ []) ends
  nothing_more silent = each_passed each (subst (λ s. Tells wanted (folder wanted) s) silent told_there)

  pub one_more : (end : EarlyEnd) → said ≡ Some end → TellsEach folder (names ++ wanted ∷ []) (ends ++ end ∷ [])
  one_more end some = each_told end each (subst (λ s. Tells wanted (folder wanted) s) some told_there)
