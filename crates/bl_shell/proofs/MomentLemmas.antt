-- What the cuts of a moment leave, and those since an earlier one.
use Rattle.std.proofs.Common.{◌≡◌, ℕ, ◌+◌, ◌≤◌, cond, List, [], ◌++◌, length, take, drop, append-nil, refl, sym, ◌∙◌, subst}
use Rattle.std.proofs.lemmas.List.{take-append-drop}
use Rattle.bl_site.specs.Disk.{Disk, Cut, IsCut, MayLeave}
use Rattle.bl_site.specs.Calls.{Elapses, LeavesOnly, Tells}
use Rattle.bl_site.proofs.Moments.{started, goes_on, cut_of_only}
use Rattle.bl_entry.specs.Batches.{Batch}
use Rattle.bl_script.specs.declared.command.Parsed.{Parsed}
use Rattle.bl_logstore.specs.Laws.{CutsStand}
use Rattle.bl_logstore.specs.Stored.{Stored}
use Rattle.bl_shell.specs.Machine.{reply_of, writes_of, numbered}
use Rattle.bl_shell.specs.Synced.{syncs}
use Rattle.bl_shell.specs.Carried.{IsServable, CutTelling, CutIn}
use Rattle.bl_shell.proofs.CutLemmas.{cut_now, cut_told}

module _ {D : Type 0} (clock : D → ℕ) (left_since : D → ℕ → Cut → Type 0) (disk : D → Disk) (told : D → List ℕ) (may_be : D → Disk → Type 0) where
  -- no call was made: `only` and `now` are the laws at the value
  pub still : (site : D) (P : Cut → Type 0) → ((other : Disk) → may_be site other → other ≡ disk site) → ((c : Cut) → left_since site (clock site) c → MayLeave (may_be site) (told site) c)
      → ((c : Cut) → IsCut (disk site) (told site) c → P c) → LeavesOnly clock left_since site site P
  still site P only now here = started clock left_since site P (λ c left. here c (cut_of_only (may_be site) (disk site) (told site) c only (now c left)))

  -- some bytes more are told
  pub tells_on : (old mid new : D) (P : Cut → Type 0) (bytes : List ℕ) → LeavesOnly clock left_since old mid P
      → Elapses (clock mid) (clock new) (left_since mid) (left_since new) (Tells (may_be mid) (told mid) bytes)
      → ((other : Disk) → may_be mid other → other ≡ disk mid) → ((c : Cut) → CutTelling (disk mid) bytes (told mid) c → P c) → LeavesOnly clock left_since old new P
  tells_on old mid new P bytes so_far time only here = goes_on clock left_since old mid new P _ so_far time
      (λ c t. let is = cut_of_only (may_be mid) (disk mid) (told mid ++ take t.count bytes) c only t.leaves in
      here c (record {
        tells = record { front = take t.count bytes; rest = drop t.count bytes; whole = take-append-drop t.count bytes; told_is = is.told_is };
        is_cut = record { image = is.image; told_is = refl; written_is = is.written_is };
      }))

  -- nothing of these bytes is told
  pub quiet_telling : (site : D) (bytes : List ℕ) → ((other : Disk) → may_be site other → other ≡ disk site) → ((c : Cut) → left_since site (clock site) c → MayLeave (may_be site) (told site) c)
      → LeavesOnly clock left_since site site (CutTelling (disk site) bytes (told site))
  quiet_telling site bytes only now = still site (CutTelling (disk site) bytes (told site)) only now
      (λ c is. record {
        tells = record { front = []; rest = bytes; whole = refl; told_is = is.told_is ∙ sym (append-nil (told site)) };
        is_cut = record { image = is.image; told_is = refl; written_is = is.written_is };
      })

  -- only these bytes are told
  pub telling : (old new : D) (bytes : List ℕ) → Elapses (clock old) (clock new) (left_since old) (left_since new) (Tells (may_be old) (told old) bytes)
      → ((other : Disk) → may_be old other → other ≡ disk old) → ((c : Cut) → left_since old (clock old) c → MayLeave (may_be old) (told old) c)
      → LeavesOnly clock left_since old new (CutTelling (disk old) bytes (told old))
  telling old new bytes time only now = tells_on old old new (CutTelling (disk old) bytes (told old)) bytes (quiet_telling old bytes only now) time only (λ c t. t)

  -- while memory runs out before an order is begun
  pub unbegun : CutsStand → (order : Parsed) (store : Stored) (batches : List Batch) (least : ℕ) (site : D) → ((other : Disk) → may_be site other → other ≡ disk site)
      → ((c : Cut) → left_since site (clock site) c → MayLeave (may_be site) (told site) c) → IsServable store batches least (disk site)
      → LeavesOnly clock left_since site site (CutIn order store batches least (told site))
  unbegun law order store batches least site only now s =
      still site (CutIn order store batches least (told site)) only now (λ c is. cut_now law order store batches least (disk site) (told site) c s is)

  -- an order is done, and its reply told
  pub replied : CutsStand → (order : Parsed) (store next : Stored) (batches : List Batch) (least : ℕ) (reply : List ℕ) (old mid new : D)
      → LeavesOnly clock left_since old mid (CutIn order store batches least (told old)) → Elapses (clock mid) (clock new) (left_since mid) (left_since new) (Tells (may_be mid) (told mid) reply)
      → ((other : Disk) → may_be mid other → other ≡ disk mid) → reply ≡ reply_of order store.now → told mid ≡ told old → least ≤ length batches
      → IsServable next (batches ++ numbered (store.last + 1) (writes_of order)) (cond (syncs order) (length batches) least) (disk mid)
      → LeavesOnly clock left_since old new (CutIn order store batches least (told old))
  replied law order store next batches least reply old mid new so_far time only says same le s =
      let P : List ℕ → List ℕ → Cut → Type 0 = λ r t c. CutTelling (disk mid) r t c in
      tells_on old mid new (CutIn order store batches least (told old)) reply so_far time only
      (λ c t. let Q : List ℕ → Type 0 = λ r. P r (told mid) c in
      let R : List ℕ → Type 0 = λ b. P (reply_of order store.now) b c in
      cut_told law order store next batches least (disk mid) (told old) c le s (subst R same (subst Q says t)))
