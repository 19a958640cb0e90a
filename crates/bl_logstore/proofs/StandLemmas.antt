-- Folders that stand, and those that do not.
use Rattle.std.proofs.Common.{◌≡◌, ℕ, zero, suc, length, take, IsSome, append-nil, ◌-◌, ◌^◌, ◌<◌, ◌≤◌, List, [], ◌∷◌, ◌++◌, map, Option, None, Some, refl, sym, ◌∙◌, ap, arith, inl, inr}
use Rattle.std.proofs.lemmas.Bool.{cases_lt}
use Rattle.std.proofs.lemmas.List.{map-append}
use Rattle.std.specs.Option.{option_map}
use Rattle.bl_site.specs.Disk.{Name, File, Folder, Disk, Cut, folder_of, IsLeft, IsCut}
use Rattle.bl_names.specs.Names.{IsNumber}
use Rattle.bl_wal.specs.Held.{record_of, log_of}
use Rattle.bl_wal.specs.Laws.{LogsAreRead, CutLogsReadAsFronts, SyncedLogsAreLeft, FrontsAreRead}
use Rattle.bl_log.specs.Log.{records, placed_records, walk, step_at}
use Rattle.bl_entry.specs.Batches.{Batch}
use Rattle.bl_entry.specs.Records.{batches_of, BatchesJoin}
use Rattle.bl_wal.specs.LogFile.{LogFile, log_name}
use Rattle.bl_logstore.specs.Logs.{bytes_in, log_bytes, records_up_to}
use Rattle.bl_logstore.specs.Folders.{HasOnlyLogs, Stands}
use Rattle.bl_logstore.specs.Laws.{StoresStand, CutsStand, SyncedStoresAreLeft, OlderLogsAreSynced}
use Rattle.bl_logstore.specs.Stored.{IsSynced, StandsOn}
use Rattle.bl_logstore.specs.Cuts.{HasData, HasBytes, AreLeftWhole}
use Rattle.bl_logstore.specs.Damage.{BreaksAt, IsDamaged}
use Rattle.bl_logstore.proofs.BatchLemmas.{join_none, join_some, none_then}
use Rattle.bl_logstore.proofs.LogLemmas.{up_to_next, up_to_same, splits}

abbrev pub PlacedAreRecords : Type 0
PlacedAreRecords = (bytes : List ℕ) → map (λ (found : List ℕ × ℕ). found.0) (placed_records bytes) ≡ records bytes

no_places : placed_records [] ≡ []
unfolding walk step_at
no_places = refl

-- the records of a log that breaks off
split : PlacedAreRecords → (bytes : List ℕ) (passed rest : List (List ℕ × ℕ)) (payload : List ℕ) (behind : ℕ) → placed_records bytes ≡ passed ++ ((payload, behind) ∷ rest)
    → records bytes ≡ map (λ (found : List ℕ × ℕ). found.0) passed ++ (payload ∷ map (λ (found : List ℕ × ℕ). found.0) rest)
split law bytes passed rest payload behind e = sym (law bytes) ∙ ap (map (λ (found : List ℕ × ℕ). found.0)) e ∙ map-append (λ (found : List ℕ × ℕ). found.0) passed ((payload, behind) ∷ rest)

none_up_to : BatchesJoin → PlacedAreRecords → (folder : Folder) (number place : ℕ) (b : BreaksAt folder number place) → batches_of (records_up_to number folder) 0 ≡ None
none_up_to join placed folder number place b =
    let firsts = map (λ (found : List ℕ × ℕ). found.0) in
    let same : log_bytes number folder ≡ b.bytes = ap bytes_in b.there in
    let are : records b.bytes ≡ firsts b.breaks.passed ++ (b.breaks.payload ∷ firsts b.breaks.rest) = split placed b.bytes b.breaks.passed b.breaks.rest b.breaks.payload b.breaks.behind b.breaks.split in
    let one : batches_of (b.breaks.payload ∷ firsts b.breaks.rest) b.breaks.last ≡ None = none_then join (b.breaks.payload ∷ []) (firsts b.breaks.rest) b.breaks.last b.breaks.stops in
    let here : batches_of (firsts b.breaks.passed ++ (b.breaks.payload ∷ firsts b.breaks.rest)) b.last ≡ None =
    join_none join (firsts b.breaks.passed) (b.breaks.payload ∷ firsts b.breaks.rest) b.last b.breaks.last b.breaks.batches b.breaks.are one in
    ap (λ r. batches_of r 0) (up_to_next number folder b.is_number.0 ∙ ap (λ x. records_up_to (number - 1) folder ++ records x) same ∙ ap (λ x. records_up_to (number - 1) folder ++ x) are)
    ∙ join_none join (records_up_to (number - 1) folder) (firsts b.breaks.passed ++ (b.breaks.payload ∷ firsts b.breaks.rest)) 0 b.last b.batches b.below here

some_place : (passed rest : List (List ℕ × ℕ)) (x : List ℕ × ℕ) → ◌≡◌ {A = List (List ℕ × ℕ)} [] (passed ++ (x ∷ rest)) → ⊥
some_place [] rest x e = cc e
some_place (p ∷ passed) rest x e = cc e

pub damaged : BatchesJoin → PlacedAreRecords → (folder : Folder) (name : Name) (place : ℕ) (batches : List Batch) (last : ℕ) → IsDamaged folder name place → Stands folder batches last → ⊥
damaged join placed folder name place batches last d s = elim d [
  | inl o ↦ s.only name o.0.there o.0.other
  | inr logs ↦
      let number = logs.1.0 in
      let b : BreaksAt folder number place = logs.1.2 in
      elim (cases_lt s.have.top number) [
        | inl lt ↦
            let empty : b.bytes ≡ [] = sym (ap bytes_in b.there) ∙ s.have.no_more number lt b.is_number.1 in
            some_place b.breaks.passed b.breaks.rest (b.breaks.payload, b.breaks.behind) (sym no_places ∙ ap placed_records (sym empty) ∙ b.breaks.split)
        | inr le ↦
            let t = splits number s.have.top folder le in
            let none : batches_of (records_up_to s.have.top folder) 0 ≡ None = ap (λ r. batches_of r 0) t.is ∙ none_then join (records_up_to number folder) t.more 0 (none_up_to join placed folder number place b) in
            cc (none, s.have.are)
      ]
]

-- the batches of a folder whose log in use has these records, behind those of the logs below it
stands_with : BatchesJoin → (folder : Folder) (number between last : ℕ) (older own : List Batch) (bytes : List ℕ) (payloads : List (List ℕ)) → HasOnlyLogs folder → IsNumber number
    → ((k : ℕ) → number < k → k < 10 ^ 15 → folder (log_name k) ≡ None) → batches_of (records_up_to (number - 1) folder) 0 ≡ Some (older, between)
    → folder (log_name number) ≡ Some bytes → records bytes ≡ payloads → batches_of payloads between ≡ Some (own, last) → Stands folder (older ++ own) last
stands_with join folder number between last older own bytes payloads only is newest below there are follow = record {
  only = only;
  have = record {
    top = number;
    is_number = is.1;
    no_more = λ k lt less. ap bytes_in (newest k lt less);
    are =
        let here : records (log_bytes number folder) ≡ payloads = ap (λ o. records (bytes_in o)) there ∙ are in
        ap (λ r. batches_of r 0) (up_to_next number folder is.0 ∙ ap (λ r. records_up_to (number - 1) folder ++ r) here)
        ∙ join_some join (records_up_to (number - 1) folder) payloads 0 between last older own below follow;
  };
}

pub stores_stand : BatchesJoin → LogsAreRead → StoresStand
stores_stand join read log older own synced last disk whole s =
    let reads = λ (o : Option File). option_map (λ (file : File). file.read) o in
    stands_with join (folder_of disk) log.number s.between last older own (log_of own) (map record_of own) s.only s.is_number (λ k lt less. ap reads (s.newest k lt less)) s.below
    (ap reads s.holds.there ∙ ap Some (s.holds.reads whole)) (read own) s.follow

-- what a cut leaves under a name
none_left : (o : Option File) (l : Option (List ℕ)) → IsLeft o l → o ≡ None → l ≡ None
none_left None None left e = refl
none_left None (Some bytes) left e = absurd left
none_left (Some file) l left e = cc e

some_was : (o : Option File) (l : Option (List ℕ)) → IsLeft o l → IsSome l → IsSome (option_map (λ (file : File). file.read) o)
some_was None None left some = cc some
some_was None (Some bytes) left some = absurd left
some_was (Some file) l left some = refl

no_tail : (tail handed : List ℕ) → length tail ≤ length handed → handed ≡ [] → tail ≡ []
no_tail [] handed le e = refl
no_tail (b ∷ tail) handed le e = absurd (omega (arith, le, ap length e))

-- a synced file is left as it reads
pub synced_left : (o : Option File) (l : Option (List ℕ)) → IsLeft o l → IsSynced o → l ≡ option_map (λ (file : File). file.read) o
synced_left None None left synced = refl
synced_left None (Some bytes) left synced = absurd left
synced_left (Some file) None left synced = absurd left
synced_left (Some file) (Some bytes) left synced =
    let none : left.tail ≡ [] = no_tail left.tail file.handed left.no_longer synced.1 in
    ap Some (left.split ∙ ap (λ t. file.front ++ t) none ∙ append-nil file.front ∙ synced.0)

map_take : (f : Batch → List ℕ) (n : ℕ) (bs : List Batch) → take n (map f bs) ≡ map f (take n bs)
map_take f zero bs = refl
map_take f (suc n) [] = refl
map_take f (suc n) (b ∷ bs) = ap (λ r. f b ∷ r) (map_take f n bs)

-- What a cut leaves, where these records are left of the log in use.
left_stands : BatchesJoin → (log : LogFile) (older own : List Batch) (synced last : ℕ) (disk : Disk) (told : List ℕ) (c : Cut) (s : StandsOn log older own synced last disk) → IsCut disk told c
    → (own_left : List Batch) (left : ℕ) (bytes : List ℕ) (payloads : List (List ℕ)) → c.folder (log_name log.number) ≡ Some bytes → records bytes ≡ payloads
    → batches_of payloads s.between ≡ Some (own_left, left) → Stands c.folder (older ++ own_left) left
left_stands join log older own synced last disk told c s is own_left left bytes payloads there are follow =
    let at : (number : ℕ) → IsLeft (disk (log_name number)) (c.folder (log_name number)) = λ number. is.image (log_name number) in
    stands_with join c.folder log.number s.between left older own_left bytes payloads
    (λ name some other. s.only name (some_was (disk name) (c.folder name) (is.image name) some) other) s.is_number
    (λ k lt less. none_left (disk (log_name k)) (c.folder (log_name k)) (at k) (s.newest k lt less))
    (ap (λ x. batches_of x 0) (up_to_same (log.number - 1) c.folder (folder_of disk)
    (λ k some le. ap bytes_in (synced_left (disk (log_name k)) (c.folder (log_name k)) (at k)
    (s.below_synced k (some, omega (arith, le, s.is_number.1)) (omega (arith, le, some)))))) ∙ s.below)
    there are follow

-- a synced file is left as it was written
abbrev written_in : Option File → Option (List ℕ)
written_in o = option_map (λ (file : File). file.front ++ file.handed) o

synced_written : (o : Option File) → IsSynced o → written_in o ≡ option_map (λ (file : File). file.read) o
synced_written None synced = refl
synced_written (Some file) synced = ap Some (ap (λ (h : List ℕ). file.front ++ h) synced.1 ∙ append-nil file.front ∙ synced.0)

no_bytes : (o : Option (List ℕ)) → o ≡ None → HasBytes o → ⊥
no_bytes None e has = has
no_bytes (Some bytes) e has = cc e

-- the logs below one that has data are below the log in use, and synced
left_whole : (log : LogFile) (older own : List Batch) (synced last : ℕ) (disk : Disk) (told : List ℕ) (c : Cut) → StandsOn log older own synced last disk → IsCut disk told c → AreLeftWhole c
left_whole log older own synced last disk told c s is lower upper number lt less has = elim (cases_lt log.number upper) [
  | inl behind ↦
      let gone = s.newest upper behind less in
      elim has [
        | inl left ↦ absurd (no_bytes (c.folder (log_name upper)) (none_left (disk (log_name upper)) (c.folder (log_name upper)) (is.image (log_name upper)) gone) left)
        | inr wrote ↦ absurd (no_bytes (c.written (log_name upper)) (is.written_is (log_name upper) ∙ ap written_in gone) wrote)
      ]
  | inr le ↦
      let here = s.below_synced lower number (omega (arith, lt, le)) in
      synced_left (disk (log_name lower)) (c.folder (log_name lower)) (is.image (log_name lower)) here ∙ sym (synced_written (disk (log_name lower)) here) ∙ sym (is.written_is (log_name lower))
]

pub cuts_stand : BatchesJoin → CutLogsReadAsFronts → FrontsAreRead → CutsStand
cuts_stand join cut fronts log older own synced last disk told c s is = record {
  told_is = is.told_is;
  whole = left_whole log older own synced last disk told c s is;
  stands = λ chance.
      let r = cut disk log own synced told c s.is_number s.holds is chance in
      let f = fronts (map record_of own) s.between last r.count own s.follow in (
        r.count,
        r.at_least,
        r.at_most,
        (
          f.0,
          left_stands join log older own synced last disk told c s is (take r.count own) f.0 r.bytes (take r.count (map record_of own)) r.there (r.reads ∙ sym (map_take record_of r.count own)) f.1,
        ),
      );
}

pub synced_stores : BatchesJoin → LogsAreRead → SyncedLogsAreLeft → SyncedStoresAreLeft
synced_stores join read leaves log older own last disk told c s is =
    left_stands join log older own (length own) last disk told c s is own last (log_of own) (map record_of own) (leaves disk log own told c s.holds is) (read own) s.follow

no_data : (o : Option File) → o ≡ None → HasData o → ⊥
no_data None e has = has
no_data (Some file) e has = cc e

-- the logs below one that has data are below the log in use
pub older_synced : OlderLogsAreSynced
older_synced log older own synced last disk s lower upper is lt less has = elim (cases_lt log.number upper) [
  | inl behind ↦ absurd (no_data (disk (log_name upper)) (s.newest upper behind less) has)
  | inr le ↦ s.below_synced lower is (omega (arith, lt, le))
]
