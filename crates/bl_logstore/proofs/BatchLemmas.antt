-- The batches of records, and the map that they make.
use Rattle.std.proofs.Common.{◌≡◌, ℕ, ◌+◌, List, [], ◌∷◌, ◌++◌, length, Bool, true, false, refl, sym, ◌∙◌, ap, subst, append_assoc, append-nil, Option, Some, None}
use Rattle.std.specs.Prelude.{cond, ◌==◌, option_and_then, Ok, Err, Result}
use Rattle.std.specs.Option.{unwrap_or}
use Rattle.std.specs.FinMap.{empty, get-empty}
use Rattle.std.proofs.lemmas.Bool.{eqb-true}
use Rattle.std.proofs.lemmas.List.Concat.{flat_map-cons}
use Rattle.bl_code.specs.Order.{bytes_cmp}
use Rattle.bl_entry.specs.Batches.{Batch}
use Rattle.bl_entry.specs.Reading.{read_batch}
use Rattle.bl_entry.specs.Records.{and_batch, and_batches, batch_behind, batches_of, BatchesJoin}
use Rattle.bl_entry.specs.Revisions.{Revision, Map, revisions_from, revisions_of, IsMapAt, AreUpTo, after_operations, OperationsChangeMap}
use Rattle.bl_entry.specs.declared.decode.BadBatch.{BadBatch}
use Rattle.bl_logstore.specs.Logs.{after_batches}

pub some_is : {A : Type 0} {x y : A} → Some x ≡ Some y → x ≡ y
some_is {x = x} e = ap (λ o. unwrap_or o x) e

-- the first record is the first batch, and the others follow
pub record First (bytes : List ℕ) (records : List (List ℕ)) (before last : ℕ) (batches : List Batch) : Type 0 where
  pub b : Batch
  pub more : List Batch
  pub read : read_batch bytes ≡ Ok b
  pub behind : b.first ≡ before + 1
  pub rest : batches_of records (before + length b.operations) ≡ Some (more, last)
  pub is : batches ≡ b ∷ more

first_rest : (bytes : List ℕ) (records : List (List ℕ)) (before last : ℕ) (batches : List Batch) (b : Batch) (o : Option (List Batch × ℕ)) → read_batch bytes ≡ Ok b → b.first ≡ before + 1
    → batches_of records (before + length b.operations) ≡ o → and_batch b o ≡ Some (batches, last) → First bytes records before last batches
first_rest bytes records before last batches b None r f q e = cc e
first_rest bytes records before last batches b (Some more) r f q e =
    let p : ◌≡◌ {A = List Batch × ℕ} (b ∷ more.0, more.1) (batches, last) = some_is e in
    let l : more.1 ≡ last = ap (λ x. x.1) p in
    record { b = b; more = more.0; read = r; behind = f; rest = q ∙ ap (λ n. Some (more.0, n)) l; is = sym (ap (λ x. x.0) p) }

first_test : (bytes : List ℕ) (records : List (List ℕ)) (before last : ℕ) (batches : List Batch) (b : Batch) (t : Bool) → read_batch bytes ≡ Ok b → (b.first == before + 1) ≡ t
    → cond t (and_batch b (batches_of records (before + length b.operations))) None ≡ Some (batches, last) → First bytes records before last batches
first_test bytes records before last batches b true r t e = first_rest bytes records before last batches b (batches_of records (before + length b.operations)) r (eqb-true b.first (before + 1) t) refl e
first_test bytes records before last batches b false r t e = cc e

first_read : (bytes : List ℕ) (records : List (List ℕ)) (before last : ℕ) (batches : List Batch) (x : Result Batch BadBatch) → read_batch bytes ≡ x
    → batch_behind before x (λ b. and_batch b (batches_of records (before + length b.operations))) ≡ Some (batches, last) → First bytes records before last batches
first_read bytes records before last batches (Err fault) r e = cc e
first_read bytes records before last batches (Ok b) r e = first_test bytes records before last batches b (b.first == before + 1) r refl e

pub first_of : (bytes : List ℕ) (records : List (List ℕ)) (before last : ℕ) (batches : List Batch) → batches_of (bytes ∷ records) before ≡ Some (batches, last) → First bytes records before last batches
unfolding batches_of
first_of bytes records before last batches e = first_read bytes records before last batches (read_batch bytes) refl e

pub none_of : (before last : ℕ) (batches : List Batch) → batches_of [] before ≡ Some (batches, last) → (batches ≡ []) × (last ≡ before)
unfolding batches_of
none_of before last batches e =
    let p : ◌≡◌ {A = List Batch × ℕ} ([], before) (batches, last) = some_is e in
    (sym (ap (λ x. x.0) p), sym (ap (λ x. x.1) p))

-- two lists of records, one behind the other
pub join_some : BatchesJoin → (records more : List (List ℕ)) (before between last : ℕ) (batches others : List Batch) → batches_of records before ≡ Some (batches, between)
    → batches_of more between ≡ Some (others, last) → batches_of (records ++ more) before ≡ Some (batches ++ others, last)
join_some law records more before between last batches others e f = law records more before ∙ ap (option_and_then (λ x. and_batches x.0 (batches_of more x.1))) e ∙ ap (and_batches batches) f

pub join_none : BatchesJoin → (records more : List (List ℕ)) (before between : ℕ) (batches : List Batch) → batches_of records before ≡ Some (batches, between)
    → batches_of more between ≡ None → batches_of (records ++ more) before ≡ None
join_none law records more before between batches e f = law records more before ∙ ap (option_and_then (λ x. and_batches x.0 (batches_of more x.1))) e ∙ ap (and_batches batches) f

pub none_then : BatchesJoin → (records more : List (List ℕ)) (before : ℕ) → batches_of records before ≡ None → batches_of (records ++ more) before ≡ None
none_then law records more before e = law records more before ∙ ap (option_and_then (λ x. and_batches x.0 (batches_of more x.1))) e

-- the map behind more batches
pub after_more : (batches others : List Batch) (m : Map) → after_batches (batches ++ others) m ≡ after_batches others (after_batches batches m)
unfolding after_batches
after_more [] others m = refl
after_more (b ∷ batches) others m = after_more batches others (after_operations b.operations m)

pub after_one : (b : Batch) (m : Map) → after_batches (b ∷ []) m ≡ after_operations b.operations m
unfolding after_batches
after_one b m = refl

-- the map of the revisions
pub change : OperationsChangeMap → (records : List (List ℕ)) (before last : ℕ) (batches : List Batch) (es : List Revision) (m : Map) → batches_of records before ≡ Some (batches, last)
    → AreUpTo before es → IsMapAt es before m → IsMapAt (es ++ revisions_of batches) last (after_batches batches m)
unfolding after_batches
change law [] before last batches es m e up is =
    let n = none_of before last batches e in
    let P : List Batch → Type 0 = λ bs. IsMapAt (es ++ revisions_of bs) last (after_batches bs m) in
    let Q : ℕ → Type 0 = λ l. IsMapAt (es ++ []) l m in
    let R : List Revision → Type 0 = λ rs. IsMapAt rs before m in
    subst P (sym n.0) (subst Q (sym n.1) (subst R (sym (append-nil es)) is))
change law (bytes ∷ records) before last batches es m e up is =
    let f = first_of bytes records before last batches e in
    let one = law es before f.b.operations m up is in
    let rest = change law records (before + length f.b.operations) last f.more (es ++ revisions_from (before + 1) f.b.operations) (after_operations f.b.operations m) f.rest one.1 one.0 in
    let P : List Batch → Type 0 = λ bs. IsMapAt (es ++ revisions_of bs) last (after_batches bs m) in
    let Q : List Revision → Type 0 = λ rs. IsMapAt rs last (after_batches f.more (after_operations f.b.operations m)) in
    let same : (es ++ revisions_from (before + 1) f.b.operations) ++ revisions_of f.more ≡ es ++ revisions_of (f.b ∷ f.more) =
    append_assoc es (revisions_from (before + 1) f.b.operations) (revisions_of f.more)
    ∙ ap (λ n. es ++ (revisions_from n f.b.operations ++ revisions_of f.more)) (sym f.behind)
    ∙ ap (λ rs. es ++ rs) (sym (flat_map-cons (λ (b : Batch). revisions_from b.first b.operations) f.b f.more)) in
    subst P (sym f.is) (subst Q same rest)

pub none_at : IsMapAt [] 0 empty
none_at key = get-empty bytes_cmp key
