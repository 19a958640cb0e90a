-- A memory with an entry more.
use Rattle.std.proofs.Common.{ℕ, ◌≤◌, ◌<◌, Bool, true, false, cond, List, [], ◌∷◌, arith}
use Rattle.std.specs.Prelude.{filter}
use Rattle.std.specs.List.{AllByRecursion}
use Rattle.bl_entry.specs.Entries.{EntriesUpTo, stands_before}
use Rattle.bl_entry.specs.declared.key.Entry.{Entry}
use Rattle.bl_entry.proofs.ListLemmas.{all_append}
use Rattle.bl_memtab.specs.Tables.{with_entry}

all_filter : (P : Entry → Type 0) (p : Entry → Bool) (es : List Entry) → AllByRecursion P es → AllByRecursion P (filter p es)
all_filter P p [] h = tt
all_filter P p (x ∷ es) h = by (p x) (all_filter P p es h.1)
  where
    by : (b : Bool) → AllByRecursion P (filter p es) → AllByRecursion P (cond b (x ∷ filter p es) (filter p es))
    by true r = (h.0, r)
    by false r = r

up_to_later : (last later : ℕ) (es : List Entry) → last < later → EntriesUpTo last es → EntriesUpTo later es
up_to_later last later [] less h = tt
up_to_later last later (x ∷ es) less h = (let here : x.key.seq ≤ last = h.0 in omega (arith, here, less), up_to_later last later es less h.1)

pub fills : (last : ℕ) (e : Entry) (es : List Entry) → EntriesUpTo last es → last < e.key.seq → EntriesUpTo e.key.seq (with_entry e es)
fills last e es filled less =
    let all = up_to_later last e.key.seq es less filled in
    all_append (λ x. x.key.seq ≤ e.key.seq) (filter (λ x. stands_before x e) es) (e ∷ filter (λ x. stands_before e x) es)
    (all_filter (λ x. x.key.seq ≤ e.key.seq) (λ x. stands_before x e) es all)
    (omega arith, all_filter (λ x. x.key.seq ≤ e.key.seq) (λ x. stands_before e x) es all)
