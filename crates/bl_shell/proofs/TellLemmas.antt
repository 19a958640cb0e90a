-- What is told where `tell` fails.
use Rattle.std.proofs.Common.{◌≡◌, ℕ, List, [], ◌++◌, take, drop, Result, Ok, Err, IsErrOf, refl, sym, ◌∙◌, ap, append-nil}
use Rattle.std.proofs.lemmas.List.{take-append-drop}
use Rattle.std.specs.Result.{IfErr}
use Rattle.bl_site.specs.declared.site.SiteErr.{SiteErr}
use Rattle.bl_site.specs.declared.site.SiteErr.TheVariants as failed
use Rattle.bl_site.specs.Causes.{HasTellCause}
use Rattle.bl_shell.specs.Carried.{TellsFront}
use Rattle.bl_shell.specs.Causes.{stop_of}
use Rattle.bl_shell.specs.declared.stop.Stop.TheVariants as stop

-- what is said of each error
pub each_err : {T E : Type 0} (r : Result T E) (P : E → Type 0) → ((e : E) → P e) → IfErr r P
each_err (Ok x) P p = tt
each_err (Err e) P p = p e

-- some first bytes
pub tells_count : (bytes told next : List ℕ) (count : ℕ) → next ≡ told ++ take count bytes → TellsFront bytes told next
tells_count bytes told next count is = record { front = take count bytes; rest = drop count bytes; whole = take-append-drop count bytes; told_is = is }

pub tells_nothing : (bytes told next : List ℕ) → next ≡ told → TellsFront bytes told next
tells_nothing bytes told next same = record { front = []; rest = bytes; whole = refl; told_is = same ∙ sym (append-nil told) }

pub tell_broke : {T : Type 0} (x : SiteErr) (before now : ℕ) (bytes reply told next : List ℕ) → bytes ≡ reply → HasTellCause {T = T} before now (Err x)
    → (IsErrOf {T = T} (Err x) failed.TellFailed → (count : ℕ) × (next ≡ told ++ take count bytes)) → (IsErrOf {T = T} (Err x) failed.OutOfMemory → next ≡ told) → TellsFront reply told next
tell_broke failed.DiskFailed before now bytes reply told next same cause some none = absurd (cause.not_disk refl)
tell_broke failed.TellFailed before now bytes reply told next same cause some none = tells_count reply told next (some refl).0 ((some refl).1 ∙ ap (λ b. told ++ take (some refl).0 b) same)
tell_broke failed.OutOfMemory before now bytes reply told next same cause some none = tells_nothing reply told next (none refl)

-- a failed call of the outside is no limit
pub no_limit : (x : SiteErr) (limit : ℕ) → stop_of x ≡ stop.Full limit → ⊥
no_limit failed.DiskFailed limit is = cc is
no_limit failed.TellFailed limit is = cc is
no_limit failed.OutOfMemory limit is = cc is

pub no_corrupt : (x : SiteErr) (name : List ℕ) (place : ℕ) → stop_of x ≡ stop.Corrupt name place → ⊥
no_corrupt failed.DiskFailed name place is = cc is
no_corrupt failed.TellFailed name place is = cc is
no_corrupt failed.OutOfMemory name place is = cc is
