-- What is made of several entries.
use Rattle.std.proofs.Common.{◌≡◌, ℕ, ◌+◌, ◌≤◌, Bool, true, false, cond, List, [], ◌∷◌, ◌++◌, refl, sym, ◌∙◌, arith, append_assoc, append-nil}
use Rattle.std.specs.Prelude.{◌&&◌, filter}
use Rattle.std.specs.List.{AllByRecursion}
use Rattle.bl_entry.specs.declared.key.Entry.{Entry}
use Rattle.bl_entry.specs.Entries.{IsProper}
use Rattle.bl_entry.specs.Kept.{is_newest, kept}
use Rattle.bl_out.specs.Outputs.{Out, added, begun, made_for}
use Rattle.bl_out.specs.Made.{AddedIsMade, BegunIsMade, IsMade}
use Rattle.bl_out.specs.Written.{IsPlainKind}
use Rattle.bl_flush.specs.Jobs.{all_added, next_behind}
use Rattle.bl_flush.specs.Laws.{FlushesMakeKept}

pub all_filter : {A : Type 0} (P : A → Type 0) (p : A → Bool) (xs : List A) → AllByRecursion P xs → AllByRecursion P (filter p xs)
all_filter P p [] h = tt
all_filter P p (x ∷ xs) h = by (p x) (all_filter P p xs h.1)
  where
    by : (b : Bool) → AllByRecursion P (filter p xs) → AllByRecursion P (cond b (x ∷ filter p xs) (filter p xs))
    by true r = (h.0, r)
    by false r = r

-- an output behind several entries
pub record Makes (from next : ℕ) (old : Out) (es : List Entry) (o : Out) : Type 0 where
  pub made : IsMade from next o
  pub given : o.given ≡ old.given ++ es
  pub one : o.one_table ≡ old.one_table
  pub options : o.options ≡ old.options
  pub above : from ≤ next

pub makes : AddedIsMade → (from next : ℕ) (o : Out) (es : List Entry) → from ≤ next → AllByRecursion (λ e. IsProper e × IsPlainKind e.key.kind) es → IsMade from next o → Makes from (next_behind next o es) o es (all_added next o es)
makes law from next o [] le proper m = record { made = m; given = sym (append-nil o.given); one = refl; options = refl; above = le }
makes law from next o (e ∷ es) le proper m =
    let r = makes law from (next + made_for o e) (added next o e) es (omega arith) proper.1 (law from next o e le proper.0.0 m) in
    record { made = r.made; given = r.given ∙ append_assoc o.given (e ∷ []) es; one = r.one; options = r.options; above = r.above }

pub flushes_make_kept : BegunIsMade → AddedIsMade → FlushesMakeKept
flushes_make_kept begin law options snapshots next memory range written =
    let r = makes law next next (begun options true) (kept snapshots false memory) (omega arith)
    (all_filter (λ e. IsProper e × IsPlainKind e.key.kind) (λ e. is_newest snapshots memory e && true) memory written) (begin options true next range) in
    record { made = r.made; given = r.given; one = r.one; options_are = r.options; above = r.above }
