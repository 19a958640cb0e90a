-- What a file holds after each call.
use Rattle.std.proofs.Common.{◌≡◌, inr, ℕ, ◌+◌, ◌%◌, ◌<◌, ◌≤◌, Bool, true, false, List, [], ◌∷◌, ◌++◌, length, map, Option, Some, Result, Ok, Err, refl, sym, ◌∙◌, ap, subst, arith, append_assoc, append-nil, length-append}
use Rattle.std.proofs.lemmas.List.{take-append-le, take_all, length-map}
use Rattle.std.specs.Prelude.{OnOk, OnErr}
use Rattle.std.specs.Result.{is_err}
use Rattle.bl_site.specs.Disk.{Name, Disk, File}
use Rattle.bl_site.specs.Calls.{Creates, Appends, AppendsAny, Syncs, Frays}
use Rattle.bl_site.specs.declared.site.SiteErr.{SiteErr}
use Rattle.bl_site.specs.declared.site.SiteErr.TheVariants as site
use Rattle.bl_log.specs.Layout.{layout, written}
use Rattle.bl_records.specs.declared.error.RecordErr.{RecordErr}
use Rattle.bl_records.specs.declared.error.RecordErr.TheVariants.{Disk as DiskFailed, OutOfMemory}
use Rattle.bl_records.specs.Causes.{error_of}
use Rattle.bl_records.specs.WrittenFile.{WrittenFile, new_file, behind}
use Rattle.bl_records.specs.Held.{HasWritten, HoldsRecords, HoldsOneMore, HoldsAllSynced, HoldsOneMoreSynced}

-- a log of one record more
written_more : (place : ℕ) (payloads : List (List ℕ)) (payload : List ℕ) → place < 32768
    → written place (payloads ++ payload ∷ []) ≡ written place payloads ++ layout ((place + length (written place payloads)) % 32768) payload
unfolding written
written_more place [] payload small =
    let here : place ≡ (place + 0) % 32768 = omega arith in
    append-nil (layout place payload) ∙ ap (λ p. layout p payload) here
written_more place (first ∷ more) payload small =
    let mid = (place + length (layout place first)) % 32768 in
    let there : (mid + length (written mid more)) % 32768 ≡ (place + length (layout place first ++ written mid more)) % 32768 = simp length-append (omega arith) in
    ap (λ r. layout place first ++ r) (written_more mid more payload (omega arith))
    ∙ sym (append_assoc (layout place first) (written mid more) _)
    ∙ ap (λ p. (layout place first ++ written mid more) ++ layout p payload) there

file_more : (payloads : List (List ℕ)) (payload : List ℕ) (place : ℕ) → place ≡ length (written 0 payloads) % 32768 → written 0 (payloads ++ payload ∷ []) ≡ written 0 payloads ++ layout place payload
file_more payloads payload place at =
    let here : (0 + length (written 0 payloads)) % 32768 ≡ place = omega arith in
    written_more 0 payloads payload (omega arith) ∙ ap (λ p. written 0 payloads ++ layout p payload) here

pub file_of : (o : Option File) (a b : File) → o ≡ Some a → o ≡ Some b → a ≡ b
file_of o a b first second = let e : Some a ≡ Some b = sym first ∙ second in cc e

-- items of any kind, of which each is written as a record
pub within_of : {X : Type 0} (bytes_of : X → List ℕ) (items : List X) (synced : ℕ) → synced ≤ length (map bytes_of items) → synced ≤ length items
within_of bytes_of items synced within = omega (arith, within, length-map items bytes_of)

-- a new file holds none
pub created_holds : (name : Name) (old new : Disk) → Creates name old new → HoldsRecords new (new_file name) [] 0
unfolding written
created_holds name old new made = record {
  file = record { read = []; front = []; handed = [] };
  there = made.at;
  within = omega arith;
  front = refl;
  all = refl;
  reads = λ open_. refl;
  place = λ open_. refl;
}

-- a file that is as it was
pub same_holds : (old new : Disk) (writer after : WrittenFile) (payloads : List (List ℕ)) (synced : ℕ) → new ≡ old → after.name ≡ writer.name → (after.failed ≡ false → after ≡ writer)
    → HoldsRecords old writer payloads synced → HoldsRecords new after payloads synced
same_holds old new writer after payloads synced same name open_ h =
    let was = λ (still : after.failed ≡ false). sym (ap (λ (w : WrittenFile). w.failed) (open_ still)) ∙ still in
    record {
      file = h.file;
      there = ap (λ (d : Disk). d after.name) same ∙ ap old name ∙ h.there;
      within = h.within;
      front = h.front;
      all = h.all;
      reads = λ still. h.reads (was still);
      place = λ still. ap (λ (w : WrittenFile). w.place) (open_ still) ∙ h.place (was still);
    }

-- one record more was handed over
pub handed_written : (old : Disk) (writer : WrittenFile) (payloads : List (List ℕ)) (payload : List ℕ) (synced : ℕ) (file now : File) → writer.failed ≡ false → old writer.name ≡ Some file
    → now.front ≡ file.front → now.handed ≡ file.handed ++ layout writer.place payload → HoldsRecords old writer payloads synced → HasWritten now (payloads ++ payload ∷ []) synced
handed_written old writer payloads payload synced file now open_ was front handed h =
    let same : file ≡ h.file = file_of (old writer.name) file h.file was h.there in
    let added = layout writer.place payload in
    let more : written 0 (payloads ++ payload ∷ []) ≡ written 0 payloads ++ added = file_more payloads payload writer.place (h.place open_) in
    record {
      within = simp length-append (omega (arith, h.within));
      front = front ∙ ap (λ (f : File). f.front) same ∙ h.front ∙ ap (written 0) (sym (take-append-le synced payloads (payload ∷ []) h.within));
      all = ap (λ f. f ++ now.handed) front ∙ ap (λ l. file.front ++ l) handed ∙ sym (append_assoc file.front file.handed added)
          ∙ ap (λ x. x ++ added) (ap (λ (f : File). f.front ++ f.handed) same ∙ h.all) ∙ sym more;
    }

-- one record more, and all of the file is on the disk
pub synced_written : (old : Disk) (writer : WrittenFile) (payloads : List (List ℕ)) (payload : List ℕ) (synced : ℕ) (file now : File) → writer.failed ≡ false → old writer.name ≡ Some file
    → now.front ≡ file.read ++ layout writer.place payload → now.handed ≡ [] → HoldsRecords old writer payloads synced → HasWritten now (payloads ++ payload ∷ []) (length (payloads ++ payload ∷ []))
synced_written old writer payloads payload synced file now open_ was front handed h =
    let same : file ≡ h.file = file_of (old writer.name) file h.file was h.there in
    let added = layout writer.place payload in
    let reads : file.read ++ added ≡ written 0 (payloads ++ payload ∷ []) =
    ap (λ (f : File). f.read ++ added) same ∙ ap (λ r. r ++ added) (h.reads open_) ∙ sym (file_more payloads payload writer.place (h.place open_)) in
    record {
      within = omega arith;
      front = front ∙ reads ∙ ap (written 0) (sym (take_all (length (payloads ++ payload ∷ [])) (payloads ++ payload ∷ []) (omega arith)));
      all = ap (λ l. now.front ++ l) handed ∙ append-nil now.front ∙ front ∙ reads;
    }

-- all of the record is written, though perhaps not all of it reads
appended_holds : (old new : Disk) (writer after : WrittenFile) (payloads : List (List ℕ)) (payload : List ℕ) (synced : ℕ) (bytes : List ℕ) → writer.failed ≡ false
    → Appends writer.name bytes (layout writer.place payload) old new → after.name ≡ writer.name
    → (after.failed ≡ false → (bytes ≡ layout writer.place payload) × (after ≡ behind writer (layout writer.place payload)))
    → HoldsRecords old writer payloads synced → HoldsRecords new after (payloads ++ payload ∷ []) synced
appended_holds old new writer after payloads payload synced bytes open_ a name moved h =
    let same : a.file ≡ h.file = file_of (old writer.name) a.file h.file a.was h.there in
    let added = layout writer.place payload in
    let now : File = record { read = a.file.read ++ bytes; front = a.file.front; handed = a.file.handed ++ added } in
    let more : written 0 (payloads ++ payload ∷ []) ≡ written 0 payloads ++ added = file_more payloads payload writer.place (h.place open_) in
    let w = handed_written old writer payloads payload synced a.file now open_ a.was refl refl h in
    record {
      file = now;
      there = ap new name ∙ a.puts.at;
      within = w.within;
      front = w.front;
      all = w.all;
      reads = λ still. ap (λ (f : File). f.read ++ bytes) same ∙ ap (λ x. x ++ bytes) (h.reads open_) ∙ ap (λ x. written 0 payloads ++ x) (moved still).0 ∙ sym more;
      place = λ still.
          let at : after.place ≡ (writer.place + length added) % 32768 = ap (λ (w : WrittenFile). w.place) (moved still).1 in
          let was : writer.place ≡ length (written 0 payloads) % 32768 = h.place open_ in
          let long : length (written 0 (payloads ++ payload ∷ [])) ≡ length (written 0 payloads) + length added = ap length more ∙ length-append (written 0 payloads) added in
          omega arith;
    }

-- all that is written is synced
synced_holds : (old new : Disk) (writer after : WrittenFile) (payloads : List (List ℕ)) (synced : ℕ) → writer.failed ≡ false → after ≡ writer → Syncs writer.name old new
    → HoldsRecords old writer payloads synced → HoldsRecords new after payloads (length payloads)
synced_holds old new writer after payloads synced open_ same_writer s h =
    let same : s.file ≡ h.file = file_of (old writer.name) s.file h.file s.was h.there in
    let reads : s.file.read ≡ written 0 payloads = ap (λ (f : File). f.read) same ∙ h.reads open_ in
    record {
      file = record { read = s.file.read; front = s.file.read; handed = [] };
      there = ap (λ (w : WrittenFile). new w.name) same_writer ∙ s.puts.at;
      within = omega arith;
      front = reads ∙ ap (written 0) (sym (take_all (length payloads) payloads (omega arith)));
      all = append-nil s.file.read ∙ reads;
      reads = λ still. reads;
      place = λ still. ap (λ (w : WrittenFile). w.place) same_writer ∙ h.place open_;
    }

-- what is written stays, also where it does not read any more
frayed_holds : (old new : Disk) (writer after : WrittenFile) (payloads : List (List ℕ)) (synced : ℕ) → Frays writer.name old new → after.name ≡ writer.name → after.failed ≡ true
    → HoldsRecords old writer payloads synced → HoldsRecords new after payloads synced
frayed_holds old new writer after payloads synced f name failed h =
    let same : f.file ≡ h.file = file_of (old writer.name) f.file h.file f.was h.there in
    record {
      file = record { read = f.file.front ++ f.tail; front = f.file.front; handed = f.file.handed };
      there = ap new name ∙ f.puts.at;
      within = h.within;
      front = ap (λ (x : File). x.front) same ∙ h.front;
      all = ap (λ (x : File). x.front ++ x.handed) same ∙ h.all;
      reads = λ still. absurd (let wrong : true ≡ false = sym failed ∙ still in cc wrong);
      place = λ still. absurd (let wrong : true ≡ false = sym failed ∙ still in cc wrong);
    }

-- ---- in the words of the code

abbrev pub file_at : List ℕ → ℕ → Bool → WrittenFile
file_at name place failed = record { name = name; place = place; failed = failed }

-- what is known where a call did not fail
pub ok_of : {E : Type 0} (r : Result (Unit {0}) E) (P : Type 0) → is_err r ≡ false → OnOk r P → P
ok_of (Ok x) P done p = p
ok_of (Err e) P done p = absurd (cc done)

-- what a site was asked for, about which writer
pub record Asked (writer : WrittenFile) (asked name : List ℕ) (place : ℕ) (failed : Bool) : Type 0 where
  pub writer_is : file_at name place failed ≡ writer
  pub usable : writer.failed ≡ false
  pub asked_is : asked ≡ name

asked_name : (writer : WrittenFile) (asked name : List ℕ) (place : ℕ) (failed : Bool) → Asked writer asked name place failed → asked ≡ writer.name
asked_name writer asked name place failed a = a.asked_is ∙ ap (λ (w : WrittenFile). w.name) a.writer_is

-- after an append
pub append_failed : (old new : Disk) (writer : WrittenFile) (asked name : List ℕ) (place after : ℕ) (failed failed_after : Bool) (payloads : List (List ℕ)) (payload bytes : List ℕ) (synced : ℕ) (error : SiteErr)
    → Asked writer asked name place failed → bytes ≡ layout place payload → failed_after ≡ true → (error ≡ site.DiskFailed → AppendsAny asked bytes old new) → (error ≡ site.OutOfMemory → new ≡ old) → (error ≡ site.TellFailed → ⊥)
    → HoldsRecords old writer payloads synced → HoldsOneMore (Err (error_of error)) new (file_at name after failed_after) payloads payload synced
append_failed old new writer asked name place after failed failed_after payloads payload bytes synced site.DiskFailed a are is torn kept not_tell h =
    let t = torn refl in
    let whole : bytes ≡ layout writer.place payload = are ∙ ap (λ (w : WrittenFile). layout w.place payload) a.writer_is in
    let Q : Name → Type 0 = λ n. Appends n t.bytes bytes old new in
    let R : List ℕ → Type 0 = λ handed. Appends writer.name t.bytes handed old new in
    appended_holds old new writer (file_at name after failed_after) payloads payload synced t.bytes a.usable (subst R whole (subst Q (asked_name writer asked name place failed a) t.appends))
    (ap (λ (w : WrittenFile). w.name) a.writer_is) (λ still. absurd (let wrong : true ≡ false = sym is ∙ still in cc wrong)) h
append_failed old new writer asked name place after failed failed_after payloads payload bytes synced site.OutOfMemory a are is torn kept not_tell h =
    same_holds old new writer (file_at name after failed_after) payloads synced (kept refl) (ap (λ (w : WrittenFile). w.name) a.writer_is) (λ still. absurd (let wrong : true ≡ false = sym is ∙ still in cc wrong)) h
append_failed old new writer asked name place after failed failed_after payloads payload bytes synced site.TellFailed a are is torn kept not_tell h = absurd (not_tell refl)

pub append_done : (old new : Disk) (writer : WrittenFile) (asked name : List ℕ) (place after : ℕ) (failed failed_after : Bool) (payloads : List (List ℕ)) (payload bytes : List ℕ) (synced : ℕ)
    → Asked writer asked name place failed → bytes ≡ layout place payload → after ≡ (place + length bytes) % 32768 → failed_after ≡ false → Appends asked bytes bytes old new
    → HoldsRecords old writer payloads synced → HoldsRecords new (file_at name after failed_after) (payloads ++ payload ∷ []) synced
append_done old new writer asked name place after failed failed_after payloads payload bytes synced a are moved still done h =
    let is : bytes ≡ layout writer.place payload = are ∙ ap (λ (w : WrittenFile). layout w.place payload) a.writer_is in
    let P : Name → Type 0 = λ n. Appends n bytes bytes old new in
    let Q : List ℕ → Type 0 = λ handed. Appends writer.name bytes handed old new in
    let open_ : failed ≡ false = ap (λ (w : WrittenFile). w.failed) a.writer_is ∙ a.usable in
    let behind_is : file_at name after failed_after ≡ behind writer (layout writer.place payload) =
    ap (λ p. file_at name p failed_after) (moved ∙ ap (λ bs. (place + length bs) % 32768) is) ∙ ap (λ b. file_at name ((place + length (layout writer.place payload)) % 32768) b) (still ∙ sym open_)
    ∙ ap (λ (w : WrittenFile). behind w (layout writer.place payload)) a.writer_is in
    appended_holds old new writer (file_at name after failed_after) payloads payload synced bytes a.usable (subst Q is (subst P (asked_name writer asked name place failed a) done))
    (ap (λ (w : WrittenFile). w.name) a.writer_is) (λ s. (is, behind_is)) h

-- after a sync
pub sync_failed : (old new : Disk) (writer : WrittenFile) (asked name : List ℕ) (place : ℕ) (failed failed_after : Bool) (payloads : List (List ℕ)) (synced : ℕ) (error : SiteErr)
    → Asked writer asked name place failed → failed_after ≡ true → (error ≡ site.DiskFailed → Frays asked old new) → (error ≡ site.OutOfMemory → new ≡ old) → (error ≡ site.TellFailed → ⊥)
    → HoldsRecords old writer payloads synced → HoldsRecords new (file_at name place failed_after) payloads synced
sync_failed old new writer asked name place failed failed_after payloads synced site.DiskFailed a is frayed kept not_tell h =
    let P : Name → Type 0 = λ n. Frays n old new in
    frayed_holds old new writer (file_at name place failed_after) payloads synced (subst P (asked_name writer asked name place failed a) (frayed refl)) (ap (λ (w : WrittenFile). w.name) a.writer_is) is h
sync_failed old new writer asked name place failed failed_after payloads synced site.OutOfMemory a is frayed kept not_tell h =
    same_holds old new writer (file_at name place failed_after) payloads synced (kept refl) (ap (λ (w : WrittenFile). w.name) a.writer_is) (λ still. absurd (let wrong : true ≡ false = sym is ∙ still in cc wrong)) h
sync_failed old new writer asked name place failed failed_after payloads synced site.TellFailed a is frayed kept not_tell h = absurd (not_tell refl)

pub sync_done : (old new : Disk) (writer : WrittenFile) (asked name : List ℕ) (place : ℕ) (failed failed_after : Bool) (payloads : List (List ℕ)) (synced : ℕ)
    → Asked writer asked name place failed → failed_after ≡ false → Syncs asked old new → HoldsRecords old writer payloads synced → HoldsRecords new (file_at name place failed_after) payloads (length payloads)
sync_done old new writer asked name place failed failed_after payloads synced a is done h =
    let P : Name → Type 0 = λ n. Syncs n old new in
    let open_ : failed ≡ false = ap (λ (w : WrittenFile). w.failed) a.writer_is ∙ a.usable in
    synced_holds old new writer (file_at name place failed_after) payloads synced a.usable (ap (file_at name place) (is ∙ sym open_) ∙ a.writer_is) (subst P (asked_name writer asked name place failed a) done) h

-- after an append that was done, and a sync
pub synced_more : (result : Result (Unit {0}) RecordErr) (disk : Disk) (writer : WrittenFile) (payloads : List (List ℕ)) (payload : List ℕ) (synced : ℕ)
    → OnErr result (writer.failed ≡ true) → HoldsAllSynced result disk writer (payloads ++ payload ∷ []) synced → HoldsOneMoreSynced result disk writer payloads payload synced
synced_more (Ok x) disk writer payloads payload synced fails h = let P : ℕ → Type 0 = λ n. HoldsRecords disk writer (payloads ++ payload ∷ []) n in subst P (length-append payloads (payload ∷ [])) h
synced_more (Err DiskFailed) disk writer payloads payload synced fails h = h
synced_more (Err OutOfMemory) disk writer payloads payload synced fails h = inr (fails, h)
