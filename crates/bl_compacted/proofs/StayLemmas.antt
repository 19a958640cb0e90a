-- A job may be installed after a flush.
use Rattle.std.proofs.Common.{◌≡◌, ◌≢◌, Bool, true, false, cond, List, [], ◌∷◌, ◌++◌, refl, ◌∙◌, ap, subst, inl, inr}
use Rattle.std.specs.Prelude.{◌⊎◌, filter}
use Rattle.std.specs.List.{AllByRecursion}
use Rattle.bl_entry.specs.declared.key.Entry.{Entry}
use Rattle.bl_folder.specs.Entries.{records_by}
use Rattle.bl_out.specs.Tables.{TableFile}
use Rattle.bl_out.specs.Values.{revision_of}
use Rattle.bl_compacted.specs.Shuffles.{Shuffled, join, keep, none, turn}
use Rattle.bl_compacted.specs.Plans.{inputs_of, is_input}
use Rattle.bl_compacted.specs.Laws.{FlushesKeepInstall, IsFlushed}
use Rattle.bl_compacted.proofs.Lists.{In, all_in, back, in_all, in_append, same, shuffled_in}
use Rattle.bl_compacted.proofs.PickLemmas.{flushes_keep}

filter_shuffled : {A : Type 0} (p : A → Bool) {xs ys : List A} → Shuffled xs ys → Shuffled (filter p xs) (filter p ys)
filter_shuffled p none = none
filter_shuffled p (keep {x = x} {xs = xs} {ys = ys} s) = by (p x) (filter_shuffled p s)
  where
    by : (b : Bool) → Shuffled (filter p xs) (filter p ys) → Shuffled (cond b (x ∷ filter p xs) (filter p xs)) (cond b (x ∷ filter p ys) (filter p ys))
    by true s = keep s
    by false s = s
filter_shuffled p (turn {x = x} {y = y} {xs = xs}) = by (p x) (p y)
  where
    by : (a b : Bool) → Shuffled (cond a (x ∷ cond b (y ∷ filter p xs) (filter p xs)) (cond b (y ∷ filter p xs) (filter p xs))) (cond b (y ∷ cond a (x ∷ filter p xs) (filter p xs)) (cond a (x ∷ filter p xs) (filter p xs)))
    by true true = turn
    by true false = same (x ∷ filter p xs)
    by false true = same (y ∷ filter p xs)
    by false false = same (filter p xs)
filter_shuffled p (join s t) = join (filter_shuffled p s) (filter_shuffled p t)

none_pass : {A : Type 0} (p : A → Bool) (xs ys : List A) → AllByRecursion (λ x. p x ≡ false) xs → filter p (xs ++ ys) ≡ filter p ys
none_pass p [] ys h = refl
none_pass p (x ∷ xs) ys h = ap (λ b. cond b (x ∷ filter p (xs ++ ys)) (filter p (xs ++ ys))) h.0 ∙ none_pass p xs ys h.1

pub flushes_keep_install : FlushesKeepInstall
flushes_keep_install plan before after inputs blobs new made flushed at fresh shuffled reads tables_new blobs_new = record {
  closed = flushes_keep plan before.tables flushed after.tables at.closed fresh shuffled;
  inputs_are =
      join (back (subst (λ ts. Shuffled ts (inputs_of plan after.tables)) (none_pass (λ t. is_input plan t.meta) flushed before.tables
      (all_in (λ t. is_input plan t.meta ≡ false) flushed (λ t i. (in_all (IsFlushed plan before.tables) t flushed fresh i).other))) (filter_shuffled (λ t. is_input plan t.meta) shuffled))) at.inputs_are;
  reads = all_in (λ e. revision_of (records_by blobs) e ≡ revision_of (records_by after.blobs) e) _ (λ e i.
      in_all (λ (x : Entry). revision_of (records_by blobs) x ≡ revision_of (records_by before.blobs) x) e _ at.reads i ∙ in_all (λ (x : Entry). revision_of (records_by before.blobs) x ≡ revision_of (records_by after.blobs) x) e _ reads i);
  tables_fresh = all_in (λ t. AllByRecursion (λ u. u.meta.number ≢ t.meta.number) after.tables) new (λ t i.
      all_in (λ u. u.meta.number ≢ t.meta.number) after.tables (λ u k. either t u i (in_append u flushed before.tables (shuffled_in u (back shuffled) k))));
  blobs_fresh = blobs_new;
}
  where
    either : (t u : TableFile) → In t new → In u flushed ⊎ In u before.tables → u.meta.number ≢ t.meta.number
    either t u i (inl k) = in_all (λ (w : TableFile). w.meta.number ≢ t.meta.number) u flushed (in_all (λ (w : TableFile). AllByRecursion (λ x. x.meta.number ≢ w.meta.number) flushed) t new tables_new i) k
    either t u i (inr k) = in_all (λ (w : TableFile). w.meta.number ≢ t.meta.number) u before.tables (in_all (λ (w : TableFile). AllByRecursion (λ x. x.meta.number ≢ w.meta.number) before.tables) t new at.tables_fresh i) k
