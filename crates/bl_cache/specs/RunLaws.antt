-- What holds of each table as a run.
use Rattle.std.specs.Prelude.{◌≡◌, ℕ, ◌-◌, ◌^◌, ◌≤◌, ◌&&◌, nat_le, Bool, true, false, List, [], ◌∷◌, length, map, refl}
use Rattle.std.specs.List.{AllByRecursion, list_all}
use Rattle.std.specs.List.Sorted.{IsStrictlySortedBy}
use Rattle.std.specs.Ordering.{is_lt}
use Rattle.std.specs.declared.cmp.Ordering.{Ordering}
use Rattle.std.specs.declared.cmp.Ordering.TheVariants.{Less, Equal, Greater}
use Rattle.std.proofs.Common.{sym, ◌∙◌, ap, cond, arith}
use Rattle.std.proofs.lemmas.Bool.{false≢true}
use Rattle.bl_site.specs.Disk.{Folder, Name}
use Rattle.bl_entry.specs.Entries.{IsAscending, stands_before}
use Rattle.bl_entry.specs.Keys.{IsKey, Key, key_cmp}
use Rattle.bl_entry.specs.declared.key.Entry.{Entry}
use Rattle.bl_cache.specs.Reading.{read_run}
use Rattle.bl_cache.specs.Runs.{Keeps, Reads, TableView, as_run, entries_in, is_key, is_run, place_in, table_name}

both : (a b : Bool) → (a && b) ≡ true → (a ≡ true) × (b ≡ true)
both true b h = (refl, h)
both false b h = absurd (false≢true h)

le_of : (a b : ℕ) → nat_le a b ≡ true → a ≤ b
le_of a b h = grind arith

-- ---- the test of a run

pub is_key_true : (k : Key) → is_key k ≡ true → IsKey k
is_key_true k h =
    let p = both (nat_le 1 (length k.user) && nat_le (length k.user) 65535) (nat_le k.seq (2 ^ 56 - 1)) h in
    let q = both (nat_le 1 (length k.user)) (nat_le (length k.user) 65535) p.0 in
    record { some = le_of 1 (length k.user) q.0; no_longer = le_of (length k.user) 65535 q.1; seq = le_of k.seq (2 ^ 56 - 1) p.1 }

less_of : (o : Ordering) → is_lt o ≡ true → o ≡ Less
less_of Less h = refl
less_of Equal h = absurd (false≢true h)
less_of Greater h = absurd (false≢true h)

all_less : (e : Entry) (es : List Entry) → list_all (stands_before e) es ≡ true → AllByRecursion (λ k. key_cmp e.key k ≡ Less) (map (λ x. x.key) es)
all_less e [] h = tt
all_less e (x ∷ es) h = let p = both (stands_before e x) (list_all (stands_before e) es) h in (less_of (key_cmp e.key x.key) p.0, all_less e es p.1)

pub run_keys : (es : List Entry) → is_run es ≡ true → AllByRecursion (λ e. IsKey e.key) es
run_keys [] h = tt
run_keys (e ∷ es) h =
    let p = both (is_key e.key && list_all (stands_before e) es) (is_run es) h in
    let q = both (is_key e.key) (list_all (stands_before e) es) p.0 in
    (is_key_true e.key q.0, run_keys es p.1)

pub run_ascends : (es : List Entry) → is_run es ≡ true → IsAscending es
unfolding IsStrictlySortedBy
run_ascends [] h = tt
run_ascends (e ∷ es) h =
    let p = both (is_key e.key && list_all (stands_before e) es) (is_run es) h in
    let q = both (is_key e.key) (list_all (stands_before e) es) p.0 in
    (all_less e es q.1, run_ascends es p.1)

-- ---- entries as a run has them

pub as_run_is : (es : List Entry) → is_run es ≡ true → as_run es ≡ es
as_run_is es h = ap (λ b. cond b es []) h

pub as_run_ascends : (es : List Entry) → IsAscending (as_run es)
as_run_ascends es = by (is_run es) refl
  where
    by : (b : Bool) → is_run es ≡ b → IsAscending (cond b es [])
    by true h = run_ascends es h
    by false h = run_ascends [] refl

pub as_run_keys : (es : List Entry) → AllByRecursion (λ e. IsKey e.key) (as_run es)
as_run_keys es = by (is_run es) refl
  where
    by : (b : Bool) → is_run es ≡ b → AllByRecursion (λ e. IsKey e.key) (cond b es [])
    by true h = run_keys es h
    by false h = tt

-- ---- the laws

pub ascending : (t : TableView) (folder : Folder) → IsAscending (entries_in t folder)
ascending t folder = as_run_ascends t.kept

pub keys : (t : TableView) (folder : Folder) → AllByRecursion (λ e. IsKey e.key) (entries_in t folder)
keys t folder = as_run_keys t.kept

pub within : (t : TableView) (folder : Folder) → place_in t folder ≤ length (entries_in t folder)
within t folder = omega arith

pub agree : (t : TableView) (f g : Folder) → ((name : Name) → Reads t name → f name ≡ g name)
    → (entries_in t f ≡ entries_in t g) × (place_in t f ≡ place_in t g) × (Keeps t f → Keeps t g)
agree t f g same = (refl, refl, (λ h. sym (ap (read_run t.size) (same (table_name t) refl)) ∙ h))
