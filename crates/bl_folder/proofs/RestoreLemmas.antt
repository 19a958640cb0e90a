-- One edit more.
use Rattle.std.proofs.Common.{◌≡◌, ℕ, ◌≤◌, ◌^◌, nat_le, Bool, true, false, cond, List, [], ◌∷◌, ◌++◌, refl, ◌∙◌, ap, Option, Some, None}
use Rattle.std.specs.Prelude.{◌||◌, option_and_then, unwrap_or, Result, Ok, Err, if◌then◌else◌}
use Rattle.std.specs.Result.{result_ok}
use Rattle.std.proofs.lemmas.Bool.{le-leb}
use Rattle.bl_code.specs.Reading.{◌>>=◌}
use Rattle.bl_edit.specs.declared.edit.Edit.{Edit}
use Rattle.bl_edit.specs.Laws.{ReadsWritten}
use Rattle.bl_edit.specs.Options.{Values}
use Rattle.bl_edit.specs.Reading.{no_field, read_edit}
use Rattle.bl_edit.specs.Spelling.{edit_bytes}
use Rattle.bl_build.specs.declared.error.BadVersion.{BadVersion}
use Rattle.bl_build.specs.declared.meta.Standing.{Standing}
use Rattle.bl_build.specs.Listing.{Listing, nothing}
use Rattle.bl_build.specs.Restoring.{Restored, edits_of, last_given, or_before, restored, restored_by, standing_of}
use Rattle.bl_build.specs.Versions.{after, applied, apply, version}
use Rattle.bl_code.proofs.Basics.{ok_is}
use Rattle.bl_entry.proofs.ItemLemmas.{ok_of, some_is, went}
use Rattle.bl_folder.specs.Flushes.{edit_for}
use Rattle.bl_folder.specs.Installing.{FlushesRestore, OneEditMore, standing_behind}
use Rattle.bl_folder.proofs.FlushLemmas.{applies}
use Rattle.bl_out.proofs.StoredLemmas.{IndexIsSpelled}
use Rattle.bl_out.proofs.WrittenLemmas.{IndexIsRead}

edits_more : (rs : List (List ℕ)) (es : List Edit) (bytes : List ℕ) (e : Edit) → edits_of rs ≡ Some es → read_edit bytes ≡ Ok e → edits_of (rs ++ bytes ∷ []) ≡ Some (es ++ e ∷ [])
edits_more [] es bytes e h r = ap (λ x. option_and_then (λ y. option_and_then (λ ys. Some (y ∷ ys)) (Some [])) (result_ok x)) r ∙ ap (λ xs. Some (xs ++ e ∷ [])) (some_is h)
edits_more (b ∷ rs) es bytes e h r =
    let first = went (result_ok (read_edit b)) (λ x. option_and_then (λ xs. Some (x ∷ xs)) (edits_of rs)) es h in
    let rest = went (edits_of rs) (λ xs. Some (first.from ∷ xs)) es first.makes in
    ap (λ x. option_and_then (λ y. option_and_then (λ ys. Some (y ∷ ys)) (edits_of (rs ++ bytes ∷ []))) x) first.gives
    ∙ ap (λ o. option_and_then (λ ys. Some (first.from ∷ ys)) o) (edits_more rs rest.from bytes e rest.gives r)
    ∙ ap (λ xs. Some (xs ++ e ∷ [])) (some_is rest.makes)

applied_next : (r : Result Listing BadVersion) (es : List Edit) (e : Edit) (v w : Listing) → (r >>= λ next. applied next es) ≡ Ok v → ((b : Listing) → applied b es ≡ Ok v → applied b (es ++ e ∷ []) ≡ Ok w) → (r >>= λ next. applied next (es ++ e ∷ [])) ≡ Ok w
applied_next (Ok b) es e v w h rest = rest b h
applied_next (Err f) es e v w h rest = absurd cc

applied_more : (base : Listing) (es : List Edit) (e : Edit) (v w : Listing) → applied base es ≡ Ok v → apply v e ≡ Ok w → applied base (es ++ e ∷ []) ≡ Ok w
unfolding applied
applied_more base [] e v w h a = ap (λ r. r >>= λ next. Ok next) (ap (λ b. apply b e) (ok_is h) ∙ a)
applied_more base (x ∷ es) e v w h a = applied_next (apply base x) es e v w h (λ b k. applied_more b es e v w k a)

given_more : (known : Edit) (es : List Edit) (e : Edit) → last_given known (es ++ e ∷ []) ≡ last_given (last_given known es) (e ∷ [])
given_more known [] e = refl
given_more known (x ∷ es) e = given_more _ es e

-- ---- the single fields

abbrev of_parts : Bool → Option ℕ → Option ℕ → Option ℕ → Option Values → Option Standing
of_parts c l n q o = if c then
    option_and_then (λ log. option_and_then (λ next. option_and_then (λ last. option_and_then (λ options.
    if nat_le next (10 ^ 15) then Some (record { log_number = log; next_file = next; last_sequence = last; options = options }) else None)
    o) q) n) l
    else None

pub record Parts (c : Bool) (l n q : Option ℕ) (o : Option Values) (s : Standing) : Type 0 where
  pub comparator : c ≡ true
  pub log : l ≡ Some s.log_number
  pub next : n ≡ Some s.next_file
  pub last : q ≡ Some s.last_sequence
  pub options : o ≡ Some s.options

all_parts : (a b d : ℕ) (p : Values) (t : Bool) (s : Standing) → cond t (Some (record { log_number = a; next_file = b; last_sequence = d; options = p })) None ≡ Some s → Parts true (Some a) (Some b) (Some d) (Some p) s
all_parts a b d p false s h = absurd cc
all_parts a b d p true s h =
    let is : record { log_number = a; next_file = b; last_sequence = d; options = p } ≡ s = some_is h in
    record {
      comparator = refl;
      log = ap (λ (x : Standing). Some x.log_number) is;
      next = ap (λ (x : Standing). Some x.next_file) is;
      last = ap (λ (x : Standing). Some x.last_sequence) is;
      options = ap (λ (x : Standing). Some x.options) is;
    }

parts_of : (c : Bool) (l n q : Option ℕ) (o : Option Values) (s : Standing) → of_parts c l n q o ≡ Some s → Parts c l n q o s
parts_of false l n q o s h = absurd cc
parts_of true None n q o s h = absurd cc
parts_of true (Some a) None q o s h = absurd cc
parts_of true (Some a) (Some b) None o s h = absurd cc
parts_of true (Some a) (Some b) (Some d) None s h = absurd cc
parts_of true (Some a) (Some b) (Some d) (Some p) s h = all_parts a b d p (nat_le b (10 ^ 15)) s h

from_parts : (c : Bool) (l n q : Option ℕ) (o : Option Values) (s : Standing) → Parts c l n q o s → s.next_file ≤ 10 ^ 15 → of_parts c l n q o ≡ Some s
from_parts c l n q o s p le =
    (λ i. of_parts (p.comparator i) (p.log i) (p.next i) (p.last i) (p.options i))
    ∙ ap (λ b. cond b (Some (record { log_number = s.log_number; next_file = s.next_file; last_sequence = s.last_sequence; options = s.options })) None) (le-leb s.next_file (10 ^ 15) le)

or_known : {A : Type 0} (o b : Option A) (x : A) → b ≡ Some x → or_before b o ≡ Some (unwrap_or o x)
or_known None b x h = h
or_known (Some y) b x h = refl

comparator_known : (a b : Bool) → b ≡ true → (a || b) ≡ true
comparator_known true b h = refl
comparator_known false b h = h

standing_more : (k e : Edit) (s : Standing) → standing_of k ≡ Some s → (standing_behind s e).next_file ≤ 10 ^ 15 → standing_of (last_given k (e ∷ [])) ≡ Some (standing_behind s e)
standing_more k e s h le =
    let p : Parts k.comparator k.log_number k.next_file k.last_sequence k.options s = parts_of k.comparator k.log_number k.next_file k.last_sequence k.options s h in
    from_parts (e.comparator || k.comparator) (or_before k.log_number e.log_number) (or_before k.next_file e.next_file) (or_before k.last_sequence e.last_sequence) (or_before k.options e.options) (standing_behind s e)
    (record {
      comparator = comparator_known e.comparator k.comparator p.comparator;
      log = or_known e.log_number k.log_number s.log_number p.log;
      next = or_known e.next_file k.next_file s.next_file p.next;
      last = or_known e.last_sequence k.last_sequence s.last_sequence p.last;
      options = or_known e.options k.options s.options p.options;
    }) le

pub one_edit_more : OneEditMore
unfolding restored
one_edit_more rs live bytes e v h r a le =
    let es = went (edits_of rs) restored_by live h in
    let base = went (result_ok (version es.from)) (λ w. option_and_then (λ s. Some (record { version = w; standing = s })) (standing_of (last_given no_field es.from))) live es.makes in
    let standing = went (standing_of (last_given no_field es.from)) (λ s. Some (record { version = base.from; standing = s })) live base.makes in
    let version_is : base.from ≡ live.version = ap (λ (x : Restored). x.version) (some_is standing.makes) in
    let standing_is : standing.from ≡ live.standing = ap (λ (x : Restored). x.standing) (some_is standing.makes) in
    let next : applied nothing (es.from ++ e ∷ []) ≡ Ok v = applied_more nothing es.from e base.from v (ok_of (version es.from) base.from base.gives) (ap (λ w. apply w e) version_is ∙ a) in
    let known : standing_of (last_given no_field (es.from ++ e ∷ [])) ≡ Some (standing_behind live.standing e) =
    ap standing_of (given_more no_field es.from e) ∙ standing_more (last_given no_field es.from) e live.standing (standing.gives ∙ ap Some standing_is) le in
    ap (option_and_then restored_by) (edits_more rs es.from bytes e es.gives r)
    ∙ ap (λ w. option_and_then (λ x. option_and_then (λ s. Some (record { version = x; standing = s })) (standing_of (last_given no_field (es.from ++ e ∷ [])))) (result_ok w)) next
    ∙ ap (option_and_then (λ s. Some (record { version = v; standing = s }))) known

pub flushes_restore : IndexIsRead → IndexIsSpelled → ReadsWritten → FlushesRestore
flushes_restore reads spells written rs h count from log next snapshots memory f live whole o fits words le =
    one_edit_more rs h.live (edit_bytes (edit_for h count log next f)) (edit_for h count log next f) (after h.live.version (edit_for h count log next f)) live
    (written (edit_for h count log next f) fits words) (applies reads spells h count from log next snapshots memory f whole o) le
