-- A memory with an entry more.
use Rattle.std.proofs.Common.{ℕ, ◌≤◌, ◌<◌, Bool, true, false, cond, List, [], ◌∷◌, arith}
use Rattle.std.specs.Prelude.{filter}
use Rattle.std.specs.List.{AllByRecursion}
use Rattle.bl_entry.specs.Entries.{EntriesUpTo, IsProper, stands_before}
use Rattle.bl_entry.specs.declared.key.Entry.{Entry}
use Rattle.bl_entry.proofs.ListLemmas.{all_append}
use Rattle.bl_out.specs.Written.{IsPlainKind}
use Rattle.bl_memtab.specs.Tables.{with_entry}
use Rattle.bl_tests.specs.Filling.{IsFilled, IsWrittenAt}

all_filter : (P : Entry → Type 0) (p : Entry → Bool) (es : List Entry) → AllByRecursion P es → AllByRecursion P (filter p es)
all_filter P p [] h = tt
all_filter P p (x ∷ es) h = by (p x) (all_filter P p es h.1)
  where
    by : (b : Bool) → AllByRecursion P (filter p es) → AllByRecursion P (cond b (x ∷ filter p es) (filter p es))
    by true r = (h.0, r)
    by false r = r

all_with_entry : (P : Entry → Type 0) (e : Entry) (es : List Entry) → P e → AllByRecursion P es → AllByRecursion P (with_entry e es)
all_with_entry P e es here all =
    all_append P (filter (λ x. stands_before x e) es) (e ∷ filter (λ x. stands_before e x) es)
    (all_filter P (λ x. stands_before x e) es all) (here, all_filter P (λ x. stands_before e x) es all)

up_to_later : (last later : ℕ) (es : List Entry) → last < later → EntriesUpTo last es → EntriesUpTo later es
up_to_later last later [] less h = tt
up_to_later last later (x ∷ es) less h = (let here : x.key.seq ≤ last = h.0 in omega (arith, here, less), up_to_later last later es less h.1)

pub fills : (last : ℕ) (e : Entry) (es : List Entry) → IsFilled last es → last < e.key.seq → IsWrittenAt e.key.seq e → IsFilled e.key.seq (with_entry e es)
fills last e es filled less written = record {
  written = all_with_entry (λ x. IsProper x × IsPlainKind x.key.kind) e es (written.proper, written.kind) filled.written;
  up_to = all_with_entry (λ x. x.key.seq ≤ e.key.seq) e es (omega arith) (up_to_later last e.key.seq es less filled.up_to);
}
