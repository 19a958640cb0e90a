-- One edit more.
use Rattle.std.proofs.Common.{◌≡◌, ℕ, ◌≤◌, ◌^◌, Bool, true, false, cond, List, [], ◌∷◌, ◌++◌, Option, Some, None, Result, Ok, Err, refl, ◌∙◌, ap, arith}
use Rattle.std.specs.Prelude.{◌||◌, nat_le, option_and_then, unwrap_or}
use Rattle.std.specs.Result.{result_ok}
use Rattle.bl_code.specs.Reading.{◌>>=◌}
use Rattle.bl_edit.specs.Options.{Values}
use Rattle.bl_edit.specs.Reading.{no_field}
use Rattle.bl_edit.specs.declared.edit.Edit.{Edit}
use Rattle.bl_build.specs.declared.meta.Standing.{Standing}
use Rattle.bl_build.specs.Listing.{Listing, nothing}
use Rattle.bl_build.specs.Snapshots.{snapshot}
use Rattle.bl_build.specs.Restoring.{Restored, restored_by, last_given, or_before, standing_of}
use Rattle.bl_build.specs.Versions.{applied, apply, version}
use Rattle.bl_entry.proofs.ItemLemmas.{ok_of, some_is, went}
use Rattle.bl_folder.specs.Installing.{standing_behind}
use Rattle.bl_open.specs.SteadyLaws.{EditsRestore}

-- ---- versions

then_ok : {A E : Type 0} (r : Result A E) → (r >>= λ x. Ok x) ≡ r
then_ok (Ok x) = refl
then_ok (Err e) = refl

in_turn : {A B C E : Type 0} (r : Result A E) (f : A → Result C E) (g : A → Result B E) (h : B → Result C E) → ((x : A) → f x ≡ (g x >>= h)) → (r >>= f) ≡ ((r >>= g) >>= h)
in_turn (Ok x) f g h each = each x
in_turn (Err e) f g h each = refl

applied_more : (es : List Edit) (base : Listing) (e : Edit) → applied base (es ++ e ∷ []) ≡ (applied base es >>= λ v. apply v e)
unfolding applied
applied_more [] base e = then_ok (apply base e)
applied_more (x ∷ es) base e = in_turn (apply base x) (λ n. applied n (es ++ e ∷ [])) (λ n. applied n es) (λ v. apply v e) (λ n. applied_more es n e)

-- ---- single fields

given_more : (es : List Edit) (known e : Edit) → last_given known (es ++ e ∷ []) ≡ last_given (last_given known es) (e ∷ [])
given_more [] known e = refl
given_more (x ∷ es) known e = given_more es (last_given known (x ∷ [])) e

abbrev stands : Bool → Option ℕ → Option ℕ → Option ℕ → Option Values → Option Standing
stands c l n q o = cond c
    (option_and_then (λ log. option_and_then (λ next. option_and_then (λ last. option_and_then (λ options.
    cond (nat_le next (10 ^ 15)) (Some (record { log_number = log; next_file = next; last_sequence = last; options = options })) None) o) q) n) l)
    None

-- the fields that stand are all known
pub record Known (c : Bool) (l n q : Option ℕ) (o : Option Values) (s : Standing) : Type 0 where
  pub comparator : c ≡ true
  pub log_number : l ≡ Some s.log_number
  pub next_file : n ≡ Some s.next_file
  pub last_sequence : q ≡ Some s.last_sequence
  pub options : o ≡ Some s.options

known_of : (c : Bool) (l n q : Option ℕ) (o : Option Values) (s : Standing) → stands c l n q o ≡ Some s → Known c l n q o s
known_of false l n q o s e = absurd cc
known_of true None n q o s e = absurd cc
known_of true (Some l) None q o s e = absurd cc
known_of true (Some l) (Some n) None o s e = absurd cc
known_of true (Some l) (Some n) (Some q) None s e = absurd cc
known_of true (Some l) (Some n) (Some q) (Some o) s e = by_bound (nat_le n (10 ^ 15)) e
  where
    by_bound : (b : Bool) → cond b (Some (record { log_number = l; next_file = n; last_sequence = q; options = o })) None ≡ Some s → Known true (Some l) (Some n) (Some q) (Some o) s
    by_bound false e = absurd cc
    by_bound true e =
        let is : record { log_number = l; next_file = n; last_sequence = q; options = o } ≡ s = some_is e in
        record {
          comparator = refl;
          log_number = ap (λ (x : Standing). Some x.log_number) is;
          next_file = ap (λ (x : Standing). Some x.next_file) is;
          last_sequence = ap (λ (x : Standing). Some x.last_sequence) is;
          options = ap (λ (x : Standing). Some x.options) is;
        }

later_one : {A : Type 0} (a : A) (o : Option A) → or_before (Some a) o ≡ Some (unwrap_or o a)
later_one a None = refl
later_one a (Some x) = refl

or_true : (b : Bool) → (b || true) ≡ true
or_true true = refl
or_true false = refl

at_most : (n m : ℕ) → n ≤ m → nat_le n m ≡ true
at_most n m le = grind (arith, le)

standing_more : (known e : Edit) (s : Standing) → standing_of known ≡ Some s → unwrap_or e.next_file s.next_file ≤ 10 ^ 15 → standing_of (last_given known (e ∷ [])) ≡ Some (standing_behind s e)
standing_more known e s is le =
    let k = known_of known.comparator known.log_number known.next_file known.last_sequence known.options s is in
    (λ i. stands (e.comparator || k.comparator i) (or_before (k.log_number i) e.log_number) (or_before (k.next_file i) e.next_file) (or_before (k.last_sequence i) e.last_sequence) (or_before (k.options i) e.options))
    ∙ (λ i. stands (or_true e.comparator i) (later_one s.log_number e.log_number i) (later_one s.next_file e.next_file i) (later_one s.last_sequence e.last_sequence i) (later_one s.options e.options i))
    ∙ ap (λ b. cond b (Some (standing_behind s e)) None) (at_most (unwrap_or e.next_file s.next_file) (10 ^ 15) le)

-- ---- both

pub edits_restore : EditsRestore
edits_restore es e r v is applies le =
    let a = went (result_ok (version es)) (λ w. option_and_then (λ s. Some (record { version = w; standing = s })) (standing_of (last_given no_field es))) r is in
    let b = went (standing_of (last_given no_field es)) (λ s. Some (record { version = a.from; standing = s })) r a.makes in
    let whole : record { version = a.from; standing = b.from } ≡ r = some_is b.makes in
    let was : version es ≡ Ok r.version = ok_of (version es) a.from a.gives ∙ ap (λ (x : Restored). Ok x.version) whole in
    let stood : standing_of (last_given no_field es) ≡ Some r.standing = b.gives ∙ ap (λ (x : Restored). Some x.standing) whole in
    let now : version (es ++ e ∷ []) ≡ Ok v = applied_more es nothing e ∙ ap (λ x. x >>= λ w. apply w e) was ∙ applies in
    let stands_now : standing_of (last_given no_field (es ++ e ∷ [])) ≡ Some (standing_behind r.standing e) = ap standing_of (given_more es no_field e) ∙ standing_more (last_given no_field es) e r.standing stood le in
    ap (λ x. option_and_then (λ w. option_and_then (λ s. Some (record { version = w; standing = s })) (standing_of (last_given no_field (es ++ e ∷ [])))) (result_ok x)) now
    ∙ ap (λ x. option_and_then (λ s. Some (record { version = v; standing = s })) x) stands_now

-- ---- a whole version as one edit

version_one : (e : Edit) (v : Listing) → apply nothing e ≡ Ok v → version (e ∷ []) ≡ Ok v
unfolding applied
version_one e v applies = ap (λ r. r >>= λ next. Ok next) applies

pub snapshot_restores : (v : Listing) (s : Standing) → apply nothing (snapshot v s) ≡ Ok v → s.next_file ≤ 10 ^ 15 → restored_by (snapshot v s ∷ []) ≡ Some (record { version = v; standing = s })
snapshot_restores v s applies le =
    ap (λ x. option_and_then (λ w. option_and_then (λ t. Some (record { version = w; standing = t })) (standing_of (last_given no_field (snapshot v s ∷ [])))) (result_ok x)) (version_one (snapshot v s) v applies)
    ∙ ap (λ b. option_and_then (λ t. Some (record { version = v; standing = t })) (cond b (Some s) None)) (at_most s.next_file (10 ^ 15) le)
