-- What `next` answers of a reader that was fed some bytes and has found some records.
use Rattle.std.specs.Prelude.{ℕ, List}
use Rattle.bl_log.specs.Reading.{Reading, HasRead, WantsMore, FindsNext, HasEnded}
use Rattle.bl_log.specs.declared.reader.LogNext.{LogNext}
use Rattle.bl_log.specs.declared.reader.LogNext.TheVariants.{Found, NeedMore, End}

abbrev pub Answers : LogNext → List ℕ → List (List ℕ × ℕ) → Reading → Type 0
Answers (Found payload) fed found reader = FindsNext payload fed found reader
Answers NeedMore fed found reader = WantsMore fed found reader
Answers (End place cause) fed found reader = HasRead fed found reader × HasEnded fed found reader.closed place cause
