-- The records of some logs.
use Rattle.std.proofs.Common.{◌≡◌, ℕ, zero, suc, ◌+◌, ◌-◌, ◌^◌, ◌<◌, ◌≤◌, List, [], ◌++◌, refl, sym, ◌∙◌, ap, append-nil, append_assoc, arith, Option, Some, inl, inr}
use Rattle.std.proofs.lemmas.Bool.{cases_lt}
use Rattle.bl_site.specs.Disk.{Folder}
use Rattle.bl_log.specs.Log.{records, walk, step_at}
use Rattle.bl_entry.specs.Batches.{Batch}
use Rattle.bl_entry.specs.Records.{batches_of}
use Rattle.bl_logstore.specs.Logs.{log_bytes, records_up_to, HaveBatches}
use Rattle.bl_logstore.proofs.BatchLemmas.{some_is}

-- no bytes have no record
pub no_records : records [] ≡ []
unfolding walk step_at
no_records = refl

-- the logs up to a number, where these are the same
pub up_to_same : (n : ℕ) (f g : Folder) → ((k : ℕ) → 1 ≤ k → k ≤ n → log_bytes k f ≡ log_bytes k g) → records_up_to n f ≡ records_up_to n g
unfolding records_up_to
up_to_same zero f g h = refl
up_to_same (suc n) f g h =
    ap (λ r. r ++ records (log_bytes (suc n) f)) (up_to_same n f g (λ k a b. h k a (omega (arith, b)))) ∙ ap (λ b. records_up_to n g ++ records b) (h (suc n) (omega arith) (omega arith))

-- a log more
pub up_to_next : (n : ℕ) (f : Folder) → 1 ≤ n → records_up_to n f ≡ records_up_to (n - 1) f ++ records (log_bytes n f)
unfolding records_up_to
up_to_next zero f some = absurd (omega (arith, some))
up_to_next (suc n) f some = let e : suc n - 1 ≡ n = omega arith in ap (λ k. records_up_to k f ++ records (log_bytes (suc n) f)) (sym e)

empty_next : (m : ℕ) (f : Folder) → log_bytes (suc m) f ≡ [] → records_up_to (suc m) f ≡ records_up_to m f
unfolding records_up_to
empty_next m f none = ap (λ b. records_up_to m f ++ records b) none ∙ ap (λ r. records_up_to m f ++ r) no_records ∙ append-nil (records_up_to m f)

empty_more : (m n : ℕ) (f : Folder) → ((k : ℕ) → m < k → k ≤ m + n → log_bytes k f ≡ []) → records_up_to (m + n) f ≡ records_up_to m f
empty_more m zero f h = let e : m + 0 ≡ m = omega arith in ap (λ k. records_up_to k f) e
empty_more m (suc n) f h =
    let e : m + suc n ≡ suc (m + n) = omega arith in
    ap (λ k. records_up_to k f) e ∙ empty_next (m + n) f (h (suc (m + n)) (omega arith) (omega arith)) ∙ empty_more m n f (λ k a b. h k a (omega (arith, b)))

-- logs without a byte have no record
pub up_to_empty : (m n : ℕ) (f : Folder) → m ≤ n → ((k : ℕ) → m < k → k ≤ n → log_bytes k f ≡ []) → records_up_to n f ≡ records_up_to m f
up_to_empty m n f le h =
    let e : m + (n - m) ≡ n = omega (arith, le) in
    ap (λ k. records_up_to k f) (sym e) ∙ empty_more m (n - m) f (λ k a b. h k a (omega (arith, b, e)))

-- more logs have more records
pub record Splits (m n : ℕ) (f : Folder) : Type 0 where
  pub more : List (List ℕ)
  pub is : records_up_to n f ≡ records_up_to m f ++ more

splits_by : (m n : ℕ) (f : Folder) → Splits m (m + n) f
unfolding records_up_to
splits_by m zero f = let e : m + 0 ≡ m = omega arith in record { more = []; is = ap (λ k. records_up_to k f) e ∙ sym (append-nil (records_up_to m f)) }
splits_by m (suc n) f =
    let e : m + suc n ≡ suc (m + n) = omega arith in
    let s = splits_by m n f in
    record {
      more = s.more ++ records (log_bytes (suc (m + n)) f);
      is = ap (λ k. records_up_to k f) e ∙ ap (λ r. r ++ records (log_bytes (suc (m + n)) f)) s.is ∙ append_assoc (records_up_to m f) s.more (records (log_bytes (suc (m + n)) f));
    }

pub splits : (m n : ℕ) (f : Folder) → m ≤ n → Splits m n f
splits m n f le = let e : m + (n - m) ≡ n = omega (arith, le) in let s = splits_by m (n - m) f in record { more = s.more; is = ap (λ k. records_up_to k f) (sym e) ∙ s.is }

-- the batches of a folder, up to any number behind which there are none
pub have_up_to : (folder : Folder) (batches : List Batch) (last n : ℕ) (h : HaveBatches folder batches last) → h.top ≤ n → n < 10 ^ 15
    → batches_of (records_up_to n folder) 0 ≡ Some (batches, last)
have_up_to folder batches last n h le lt = ap (λ r. batches_of r 0) (up_to_empty h.top n folder le (λ k a b. h.no_more k a (omega (arith, b, lt)))) ∙ h.are

same_pair : (a b : List Batch) (m n : ℕ) → ◌≡◌ {A = Option (List Batch × ℕ)} (Some (a, m)) (Some (b, n)) → (a ≡ b) × (m ≡ n)
same_pair a b m n e = let p : ◌≡◌ {A = List Batch × ℕ} (a, m) (b, n) = some_is e in (ap (λ x. x.0) p, ap (λ x. x.1) p)

pub once : (folder : Folder) (batches others : List Batch) (last other : ℕ) → HaveBatches folder batches last → HaveBatches folder others other → (batches ≡ others) × (last ≡ other)
once folder batches others last other h k = elim (cases_lt h.top k.top) [
  | inl lt ↦ same_pair batches others last other (sym (have_up_to folder batches last k.top h (omega (arith, lt)) k.is_number) ∙ k.are)
  | inr le ↦ same_pair batches others last other (sym h.are ∙ have_up_to folder others other h.top k le h.is_number)
]
