-- Maps that follow one another by batches, and what is installed.
use Rattle.std.proofs.Common.{◌≡◌, ℕ, zero, suc, ◌+◌, ◌<◌, List, [], ◌∷◌, ◌++◌, length, take, drop, map, Bool, true, false, refl, sym, ◌∙◌, ap, subst, arith, Option, Some, None, inl, inr, length-append}
use Rattle.std.proofs.lemmas.Bool.{cases_lt}
use Rattle.std.proofs.lemmas.List.{take-append-le, length-map, take-append-drop, append_cancel_left}
use Rattle.std.proofs.lemmas.List.Sums.{sum_by_push}
use Rattle.std.specs.Prelude.{cond, option_and_then, unwrap_or}
use Rattle.std.specs.Option.{option_map}
use Rattle.std.specs.FinMap.{same_map, slice_cmp-IsAntisymmetric, nat_cmp-IsAntisymmetric}
use Rattle.std.specs.Cmp.Lexicographic.{nat_list_cmp_total}
use Rattle.bl_site.specs.Disk.{Folder, Disk, File, written_of}
use Rattle.bl_log.specs.Layout.{written}
use Rattle.bl_log.specs.Log.{records}
use Rattle.bl_names.specs.declared.name.FileName.TheVariants.{Log}
use Rattle.bl_names.specs.Names.{IsNumber}
use Rattle.bl_entry.specs.Batches.{Batch}
use Rattle.bl_entry.specs.Records.{BatchesJoin, LastIsCounted, and_batches, batches_of}
use Rattle.bl_entry.specs.Revisions.{Map, Revision, IsMapAt, OperationsChangeMap, after_operations, revisions_from}
use Rattle.bl_edit.specs.Bounds.{is_number}
use Rattle.bl_wal.specs.LogFile.{log_name}
use Rattle.bl_wal.specs.Held.{record_of, log_of}
use Rattle.bl_wal.specs.Laws.{FrontsAreRead, LogsAreRead}
use Rattle.bl_folder.specs.Files.{log_bytes}
use Rattle.bl_folder.specs.Holding.{Holding}
use Rattle.bl_entry.specs.Items.{each_of}
use Rattle.bl_out.specs.Tables.{table_in}
use Rattle.bl_folder.specs.Logs.{log_records}
use Rattle.bl_folder.specs.Stands.{IsSound}
use Rattle.bl_folder.specs.Fronts.{cut_to, last_after}
use Rattle.bl_folder.specs.Settled.{IsSynced}
use Rattle.bl_folder.proofs.Finding.{from_test}
use Rattle.bl_entry.proofs.ItemLemmas.{some_is}
use Rattle.bl_folder.proofs.LogLemmas.{no_record}
use Rattle.bl_open.specs.Steady.{Maps, Steady, IsBacked, MakesMaps}
use Rattle.bl_open.specs.SteadyCalls.{with_batch}
use Rattle.bl_open.specs.Installations.{MapsFollow, TablesMake, switched_at}
use Rattle.bl_open.specs.SteadyLaws.{BeginningsAreBacked, FlushesInstall, FrontsFollow, RewritesInstall, StepsFollow}
use Rattle.bl_open.proofs.BatchLemmas.{as_many, first_of, take_whole}
use Rattle.bl_open.proofs.LeftLemmas.{log_there, lower, own_written, written_batches}
use Rattle.bl_open.proofs.SoundLemmas.{sound_more, up_to}

-- ---- one batch after another

-- the batch at a place
pub record At (bs : List Batch) (k : ℕ) : Type 0 where
  pub b : Batch
  pub split : take (suc k) bs ≡ take k bs ++ b ∷ []
  pub follows : (maps : Maps) (at : ℕ) → MapsFollow maps at bs → maps (at + suc k) ≡ after_operations b.operations (maps (at + k))

at_place : (bs : List Batch) (k : ℕ) → k < length bs → At bs k
at_place [] k less = absurd (omega (arith, less))
at_place (b ∷ bs) zero less = record {
  b = b;
  split = refl;
  follows = λ maps at f. let none : at + 0 ≡ at = omega arith in let one : at + suc 0 ≡ at + 1 = omega arith in ap maps one ∙ f.0 ∙ ap (λ n. after_operations b.operations (maps n)) (sym none);
}
at_place (b ∷ bs) (suc k) less =
    let p : At bs k = at_place bs k (omega (arith, less)) in
    record {
      b = p.b;
      split = ap (λ r. b ∷ r) p.split;
      follows = λ maps at f.
          let here : at + suc (suc k) ≡ at + 1 + suc k = omega arith in
          let there : at + 1 + k ≡ at + suc k = omega arith in
          ap maps here ∙ p.follows maps (at + 1) f.1 ∙ ap (λ n. after_operations p.b.operations (maps n)) there;
    }

pub follow_drop : (maps : Maps) (k at : ℕ) (bs : List Batch) → MapsFollow maps at bs → MapsFollow maps (at + k) (drop k bs)
follow_drop maps zero at bs f = let same : at ≡ at + 0 = omega arith in subst (λ (n : ℕ). MapsFollow maps n bs) same f
follow_drop maps (suc k) at [] f = tt
follow_drop maps (suc k) at (b ∷ bs) f = let same : at + 1 + k ≡ at + suc k = omega arith in subst (λ (n : ℕ). MapsFollow maps n (drop k bs)) same (follow_drop maps k (at + 1) bs f.1)

-- what each place shows, the whole list shows
follow_each : (maps : Maps) (at : ℕ) (bs : List Batch) → ((k : ℕ) (b : Batch) → k < length bs → take (suc k) bs ≡ take k bs ++ b ∷ [] → maps (at + suc k) ≡ after_operations b.operations (maps (at + k)))
    → MapsFollow maps at bs
follow_each maps at [] each = tt
follow_each maps at (b ∷ bs) each =
    let none : at + 0 ≡ at = omega arith in
    let one : at + 1 ≡ at + suc 0 = omega arith in (
      ap maps one ∙ each zero b (omega arith) refl ∙ ap (λ n. after_operations b.operations (maps n)) none,
      follow_each maps (at + 1) bs (λ k x less split.
          let here : at + 1 + suc k ≡ at + suc (suc k) = omega arith in
          let there : at + suc k ≡ at + 1 + k = omega arith in
          ap maps here ∙ each (suc k) x (omega (arith, less)) (ap (λ r. b ∷ r) split) ∙ ap (λ n. after_operations x.operations (maps n)) there),
    )

-- ---- fronts of what is held

-- with its first batches, and one more
front_more : LastIsCounted → FrontsAreRead → (h : Holding) (rs : List (List ℕ)) → batches_of rs h.live.standing.last_sequence ≡ Some (h.batches, h.last) → (k : ℕ) (b : Batch)
    → take (suc k) h.batches ≡ take k h.batches ++ b ∷ [] → with_batch (cut_to k h) b ≡ cut_to (suc k) h
front_more counted fronts h rs are k b split =
    let base = h.live.standing.last_sequence in
    let last : last_after base (take k h.batches) + length b.operations ≡ last_after base (take k h.batches ++ b ∷ []) =
    (let more = sum_by_push (λ (x : Batch). length x.operations) (take k h.batches) b in omega (arith, more)) in
    ap (λ n. record h { batches = take k h.batches ++ b ∷ []; last = n }) last
    ∙ ap (λ bs. record h { batches = bs; last = last_after base bs }) (sym split)

-- its first records are its first batches
front_are : LastIsCounted → FrontsAreRead → (h : Holding) (rs : List (List ℕ)) → batches_of rs h.live.standing.last_sequence ≡ Some (h.batches, h.last) → (k : ℕ)
    → batches_of (take k rs) h.live.standing.last_sequence ≡ Some (take k h.batches, last_after h.live.standing.last_sequence (take k h.batches))
front_are counted fronts h rs are k =
    let base = h.live.standing.last_sequence in
    let f = fronts rs base h.last k h.batches are in
    f.1 ∙ ap (λ n. Some (take k h.batches, n)) (counted (take k rs) base f.0 (take k h.batches) f.1)

take_next : (rs : List (List ℕ)) (k : ℕ) → k < length rs → (r : List ℕ) × (take (suc k) rs ≡ take k rs ++ r ∷ [])
take_next [] k less = absurd (omega (arith, less))
take_next (r ∷ rs) zero less = (r, refl)
take_next (r ∷ rs) (suc k) less = let n = take_next rs k (omega (arith, less)) in (n.0, ap (λ x. r ∷ x) n.1)

pair_is : {A B : Type 0} {x y : A} {u v : B} → ◌≡◌ {A = Option (A × B)} (Some (x, u)) (Some (y, v)) → (x ≡ y) × (u ≡ v)
pair_is {A} {B} {x} {y} {u} {v} e = let p : ◌≡◌ {A = A × B} (x, u) (y, v) = some_is e in (ap (λ r. r.0) p, ap (λ r. r.1) p)

-- what follows the first batches
pub record Rest (first more : List (List ℕ)) (before last : ℕ) (all : List Batch) (mid : ℕ) (olds : List Batch) : Type 0 where
  pub news : List Batch
  pub are : batches_of more mid ≡ Some (news, last)
  pub split : olds ++ news ≡ all

rest_of : BatchesJoin → (first more : List (List ℕ)) (before last : ℕ) (all : List Batch) (mid : ℕ) (olds : List Batch) → batches_of (first ++ more) before ≡ Some (all, last)
    → batches_of first before ≡ Some (olds, mid) → Rest first more before last all mid olds
rest_of join first more before last all mid olds whole front =
    let e : and_batches olds (batches_of more mid) ≡ Some (all, last) =
    sym (join first more before ∙ ap (option_and_then (λ x. and_batches x.0 (batches_of more x.1))) front) ∙ whole in
    of_some (batches_of more mid) refl e
  where
    of_some : (o : Option (List Batch × ℕ)) → batches_of more mid ≡ o → and_batches olds o ≡ Some (all, last) → Rest first more before last all mid olds
    of_some None is e = absurd cc
    of_some (Some x) is e = let p = pair_is e in record { news = x.0; are = is ∙ ap (λ n. Some (x.0, n)) p.1; split = p.0 }

-- the batch at a place begins behind the last sequence of those before it
begins_behind : BatchesJoin → LastIsCounted → FrontsAreRead → (h : Holding) (rs : List (List ℕ)) → batches_of rs h.live.standing.last_sequence ≡ Some (h.batches, h.last) → (k : ℕ) (b : Batch)
    → k < length h.batches → take (suc k) h.batches ≡ take k h.batches ++ b ∷ [] → b.first ≡ last_after h.live.standing.last_sequence (take k h.batches) + 1
begins_behind join counted fronts h rs are k b less split =
    let base = h.live.standing.last_sequence in
    let many = as_many rs base h.last h.batches are in
    let r = take_next rs k (omega (arith, less, many)) in
    let mid = last_after base (take k h.batches) in
    let two : batches_of (take k rs ++ r.0 ∷ []) base ≡ Some (take (suc k) h.batches, last_after base (take (suc k) h.batches)) = ap (λ x. batches_of x base) (sym r.1) ∙ front_are counted fronts h rs are (suc k) in
    let rest = rest_of join (take k rs) (r.0 ∷ []) base (last_after base (take (suc k) h.batches)) (take (suc k) h.batches) mid (take k h.batches) two (front_are counted fronts h rs are k) in
    let news : rest.news ≡ b ∷ [] = append_cancel_left (take k h.batches) rest.news (b ∷ []) (rest.split ∙ split) in
    let f = first_of r.0 [] mid (last_after base (take (suc k) h.batches)) rest.news rest.are in
    let one : b ∷ [] ≡ f.b ∷ f.more = sym news ∙ f.is in
    let same : b ≡ f.b = some_is (ap head_of one) in
    ap (λ (x : Batch). x.first) same ∙ f.behind
  where
    head_of : List Batch → Option Batch
    head_of [] = None
    head_of (x ∷ xs) = Some x

-- ---- maps

-- what is held makes one map
sound_one : (h : Holding) (es fs : List Revision) (m n : Map) → IsSound h es m → IsSound h fs n → m ≡ n
sound_one h es fs m n s t =
    let found : es ≡ fs = some_is (sym s.resolve ∙ t.resolve) in
    let read : IsMapAt es h.last n = subst (λ (rs : List Revision). IsMapAt rs h.last n) (sym found) t.map_is in
    same_map nat_list_cmp_total (slice_cmp-IsAntisymmetric nat_cmp-IsAntisymmetric) m n (λ key. s.map_is key ∙ sym (read key))

module _ (join : BatchesJoin) (counted : LastIsCounted) (fronts : FrontsAreRead) (change : OperationsChangeMap) (maps : Maps) (before : ℕ) (h : Holding) (folder : Folder) (rs : List (List ℕ))
    (there : each_of (table_in folder) h.live.version.tables ≡ Some h.tables) (are : batches_of rs h.live.standing.last_sequence ≡ Some (h.batches, h.last)) where
  -- a front of the batches, with the next one, is sound for the map behind it
  next_sound : (k : ℕ) (b : Batch) (found : List Revision) → k < length h.batches → take (suc k) h.batches ≡ take k h.batches ++ b ∷ [] → IsSound (cut_to k h) found (maps (before + k))
      → (more : List Revision) × IsSound (cut_to (suc k) h) more (after_operations b.operations (maps (before + k)))
  next_sound k b found less split sound =
      let m = maps (before + k) in
      let low = up_to folder (cut_to k h) found m (take k rs) there (front_are counted fronts h rs are k) sound in
      let next = sound_more change (cut_to k h) found m b low sound (begins_behind join counted fronts h rs are k b less split) in
      let more : List Revision = found ++ revisions_from ((cut_to k h).last + 1) b.operations in
      (more, subst (λ (g : Holding). IsSound g more (after_operations b.operations m)) (front_more counted fronts h rs are k b split) next)

  pub fronts_follow : TablesMake maps before h → MapsFollow maps before h.batches → MakesMaps maps before h
  fronts_follow tables follow zero le = let none : before ≡ before + 0 = omega arith in (tables.0, subst (λ (n : ℕ). IsSound (cut_to 0 h) tables.0 (maps n)) none tables.1)
  fronts_follow tables follow (suc k) le =
      let p = at_place h.batches k (omega (arith, le)) in
      let sofar = fronts_follow tables follow k (omega (arith, le)) in
      let next = next_sound k p.b sofar.0 (omega (arith, le)) p.split sofar.1 in
      (next.0, subst (λ (m : Map). IsSound (cut_to (suc k) h) next.0 m) (sym (p.follows maps before follow)) next.1)

  pub steps_follow : MakesMaps maps before h → MapsFollow maps before h.batches
  steps_follow makes = follow_each maps before h.batches (λ k b less split.
      let here = makes k (omega (arith, less)) in
      let there_ = makes (suc k) (omega (arith, less)) in
      let next = next_sound k b here.0 less split here.1 in
      sound_one (cut_to (suc k) h) there_.0 next.0 (maps (before + suc k)) (after_operations b.operations (maps (before + k))) there_.1 next.1)

-- ---- what is installed

module _ (join : BatchesJoin) (counted : LastIsCounted) (fronts : FrontsAreRead) (change : OperationsChangeMap) (read : LogsAreRead) where
  pub steps_of : StepsFollow
  steps_of maps s disk t =
      let b = t.backed in
      steps_follow join counted fronts change maps s.before s.holding (written_of disk) (lower maps s disk b ++ map record_of s.own) b.files.tables (written_batches maps s disk b read) b.makes

  pub fronts_of : FrontsFollow
  fronts_of maps before h disk files batches tables follow =
      fronts_follow join counted fronts change maps before h (written_of disk) (log_records (written_of disk) h.live.standing.log_number batches.count) files.tables batches.are tables follow

  -- the batches of the log in use, behind those below it
  own_rest : (maps : Maps) (s : Steady) (disk : Disk) (b : IsBacked maps s disk)
      → Rest (lower maps s disk b) (map record_of s.own) s.holding.live.standing.last_sequence s.holding.last s.holding.batches (switched_at s) (take s.below s.holding.batches)
  own_rest maps s disk b =
      let low = lower maps s disk b in
      let all = map record_of s.own in
      let base = s.holding.live.standing.last_sequence in
      let whole = written_batches maps s disk b read in
      let many : length s.holding.batches ≡ length low + length s.own =
      as_many (low ++ all) base s.holding.last s.holding.batches whole ∙ length-append low all ∙ ap (λ n. length low + n) (length-map s.own record_of) in
      let count = b.count in
      let size : s.below ≡ length low = omega (arith, many, count) in
      let front : take s.below (low ++ all) ≡ low = ap (λ n. take n (low ++ all)) size ∙ take-append-le (length low) low all (omega arith) ∙ take_whole low in
      rest_of join low all base s.holding.last s.holding.batches (switched_at s) (take s.below s.holding.batches) whole
      (ap (λ r. batches_of r base) (sym front) ∙ front_are counted fronts s.holding (low ++ all) whole s.below)

  own_is : (maps : Maps) (s : Steady) (disk : Disk) (b : IsBacked maps s disk) → (own_rest maps s disk b).news ≡ drop s.below s.holding.batches
  own_is maps s disk b =
      let r = own_rest maps s disk b in
      append_cancel_left (take s.below s.holding.batches) r.news (drop s.below s.holding.batches) (r.split ∙ sym (take-append-drop s.below s.holding.batches))

  -- those records, behind the sequence of the switch
  own_batches : (maps : Maps) (s : Steady) (disk : Disk) (b : IsBacked maps s disk) → batches_of (map record_of s.own) (switched_at s) ≡ Some (drop s.below s.holding.batches, s.holding.last)
  own_batches maps s disk b = (own_rest maps s disk b).are ∙ ap (λ bs. Some (bs, s.holding.last)) (own_is maps s disk b)

  own_records : (maps : Maps) (s : Steady) (disk : Disk) (b : IsBacked maps s disk) → log_records (written_of disk) s.log.number 1 ≡ map record_of s.own
  unfolding log_records
  own_records maps s disk b =
      let here : s.log.number + 0 ≡ s.log.number = omega arith in
      ap (λ n. records (log_bytes (written_of disk) n)) here ∙ ap records (own_written maps s disk b) ∙ read s.own

  pub flushes_install : FlushesInstall
  flushes_install maps s e h disk t f =
      let b = t.backed in
      let W = written_of disk in
      let log_number = f.log_number in
      let needed = b.needed in
      let are : batches_of (map record_of s.own) h.live.standing.last_sequence ≡ Some (h.batches, h.last) =
      ap (λ n. batches_of (map record_of s.own) n) f.sequence ∙ own_batches maps s disk b ∙ (λ i. Some (sym f.batches i, sym f.last i)) in
      let many : length h.batches ≡ length s.own = as_many (map record_of s.own) h.live.standing.last_sequence h.last h.batches are ∙ length-map s.own record_of in
      let follow : MapsFollow maps (s.before + s.below) h.batches =
      subst (λ (bs : List Batch). MapsFollow maps (s.before + s.below) bs) (sym f.batches) (follow_drop maps s.below s.before s.holding.batches (steps_of maps s disk t)) in
      record {
        restores = f.restores;
        backed = record {
          files = f.files;
          batches = record {
            count = 1;
            no_more = λ n le. ap records (b.last n (omega (arith, le, log_number))) ∙ no_record;
            are = ap (λ n. batches_of (log_records W n 1) h.live.standing.last_sequence) log_number ∙ ap (λ r. batches_of r h.live.standing.last_sequence) (own_records maps s disk b) ∙ are;
          };
          is_number = b.is_number;
          needed = omega (arith, log_number);
          in_use = b.in_use;
          count = omega (arith, many);
          others = λ n is le ne. b.others n is (omega (arith, le, log_number, needed)) ne;
          last = b.last;
          makes = fronts_follow join counted fronts change maps (s.before + s.below) h W (map record_of s.own) f.files.tables are f.makes follow;
        };
        writes = omega arith;
      }

  pub rewrites_install : RewritesInstall
  rewrites_install maps s e h disk t f =
      let b = t.backed in
      let W = written_of disk in
      let log_number = f.log_number in
      let needed = b.needed in
      let count = b.count in
      let many : length h.batches ≡ length s.holding.batches = ap length f.batches in
      let are : batches_of (log_records W h.live.standing.log_number b.batches.count) h.live.standing.last_sequence ≡ Some (h.batches, h.last) =
      (λ i. batches_of (log_records W (log_number i) b.batches.count) (f.sequence i)) ∙ b.batches.are ∙ (λ i. Some (sym f.batches i, sym f.last i)) in
      let follow : MapsFollow maps s.before h.batches = subst (λ (bs : List Batch). MapsFollow maps s.before bs) (sym f.batches) (steps_of maps s disk t) in
      record {
        restores = f.restores;
        backed = record {
          files = f.files;
          batches = record { count = b.batches.count; no_more = λ n le. b.batches.no_more n (omega (arith, le, log_number)); are = are };
          is_number = b.is_number;
          needed = omega (arith, log_number, needed);
          in_use = b.in_use;
          count = omega (arith, many, count);
          others = λ n is le ne. b.others n is (omega (arith, le, log_number)) ne;
          last = b.last;
          makes = fronts_follow join counted fronts change maps s.before h W (log_records W h.live.standing.log_number b.batches.count) f.files.tables are f.makes follow;
        };
        writes = refl;
      }

no_own : log_of [] ≡ []
unfolding written
no_own = refl

no_batches : (base : ℕ) → batches_of [] base ≡ Some ([], base)
unfolding batches_of
no_batches base = refl

no_logs : (folder : Folder) (n : ℕ) → log_records folder n 0 ≡ []
unfolding log_records
no_logs folder n = refl

-- an absent log has no byte
log_absent : (disk : Disk) (n : ℕ) → (IsNumber n → disk (log_name n) ≡ None) → log_bytes (written_of disk) n ≡ []
log_absent disk n none = by_case (is_number n) refl
  where
    by_case : (t : Bool) → is_number n ≡ t → cond t (unwrap_or (written_of disk (log_name n)) []) [] ≡ []
    by_case true e = ap (λ (o : Option File). unwrap_or (option_map (λ (x : File). x.front ++ x.handed) o) []) (none (from_test n e))
    by_case false e = refl

none_of_log : (disk : Disk) (n : ℕ) (o : Option File) → disk (log_name n) ≡ None → IsSynced disk (Log n)
none_of_log disk n o none x at = absurd (let e : None ≡ Some x = sym none ∙ at in cc e)

pub beginnings_are_backed : BeginningsAreBacked
beginnings_are_backed maps before number manifest edits h disk f =
    let log_number = f.log_number in
    let size : length h.batches ≡ 0 = ap length f.batches in
    let here : log_bytes (written_of disk) number ≡ [] =
    log_there (written_of disk) number (log_of []) f.is_number (ap (λ (o : Option File). option_map (λ (x : File). x.front ++ x.handed) o) f.empty.there ∙ ap Some f.empty.all) ∙ no_own in
    let far : (n : ℕ) → number < n → log_bytes (written_of disk) n ≡ [] = λ n less. log_absent disk n (λ is. f.behind n is less) in
    record {
      files = f.files;
      batches = record {
        count = 0;
        no_more = λ n le. ap records (elim (cases_lt number n) [
          | inl less ↦ far n less
          | inr within ↦ let same : n ≡ number = omega (arith, le, within, log_number) in ap (log_bytes (written_of disk)) same ∙ here
        ]) ∙ no_record;
        are = ap (λ r. batches_of r h.live.standing.last_sequence) (no_logs (written_of disk) h.live.standing.log_number) ∙ no_batches h.live.standing.last_sequence ∙ (λ i. Some (sym f.batches i, sym f.last i));
      };
      is_number = f.is_number;
      needed = omega (arith, log_number);
      in_use = f.empty;
      count = omega (arith, size);
      others = λ n is le ne. none_of_log disk n None (f.behind n is (elim (cases_lt number n) [
        | inl less ↦ less
        | inr within ↦ absurd (ne (omega (arith, le, within, log_number)))
      ]));
      last = far;
      makes = λ count le.
          let none : before ≡ before + count = omega (arith, le, size) in
          let zero_ : 0 ≡ count = omega (arith, le, size) in
          (f.makes.0, subst (λ (n : ℕ). IsSound (cut_to n h) f.makes.0 (maps (before + count))) zero_ (subst (λ (n : ℕ). IsSound (cut_to 0 h) f.makes.0 (maps n)) none f.makes.1));
    }
