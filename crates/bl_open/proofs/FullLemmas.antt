-- How far numbers are drawn, and when they do not suffice.
use Rattle.std.proofs.Common.{◌≡◌, ◌+◌, ◌<◌, ◌≤◌, inl, inr, ℕ, Bool, true, false, cond, List, [], ◌∷◌, length, Result, Ok, Err, sym, ◌∙◌, ap, subst, arith}
use Rattle.std.specs.Prelude.{◌^◌, ◌&&◌, filter, IfOk, OnOk}
use Rattle.bl_site.specs.Disk.{Folder}
use Rattle.bl_entry.specs.declared.key.Entry.{Entry}
use Rattle.bl_entry.specs.Batches.{Batch}
use Rattle.bl_entry.specs.Entries.{IsAscending}
use Rattle.bl_entry.specs.Kept.{NewestStandsFirst, is_newest, kept}
use Rattle.bl_edit.specs.Options.{Values}
use Rattle.bl_build.specs.Listing.{Listing, nothing}
use Rattle.bl_build.specs.Restoring.{Restored}
use Rattle.bl_out.specs.Outputs.{Out, added, begun, made_for}
use Rattle.bl_flush.specs.Jobs.{next_behind, next_of}
use Rattle.bl_folder.specs.Flushes.{IsMemoryOf}
use Rattle.bl_folder.specs.Laws.{BatchesAreOne, LiveIsOne}
use Rattle.bl_folder.specs.Live.{IsFresh, IsLive}
use Rattle.bl_folder.specs.Logs.{HaveBatches}
use Rattle.bl_folder.specs.Memories.{HeldIsMemory}
use Rattle.bl_folder.specs.Numbers.{IsFirstNumber}
use Rattle.bl_open.specs.Beginning.{IsNumbered}
use Rattle.bl_open.specs.Options.{Words, defaults, given_or}
use Rattle.bl_open.specs.Recovering.{HasLoaded, IsFull, IsFullFresh, IsFullLive, TakesFresh, TakesLive, TakesOver}
use Rattle.bl_open.specs.declared.begin.Loaded.{Loaded}
use Rattle.bl_open.specs.declared.begin.Opened.{Opened}
use Rattle.bl_open.specs.declared.error.OpenErr.{OpenErr}
use Rattle.bl_open.proofs.OneMemory.{one_memory}

-- ---- numbers are drawn upwards

drawn_up : (next : ℕ) (o : Out) (es : List Entry) → next ≤ next_behind next o es
drawn_up next o [] = omega arith
drawn_up next o (e ∷ es) = let rest = drawn_up (next + made_for o e) (added next o e) es in omega (arith, rest)

pub wanted_up : (options : Values) (next : ℕ) (memory : List Entry) → next ≤ next_of options [] next memory
wanted_up options next memory = drawn_up next (begun options true) (kept [] false memory)

-- with the first of some entries a table is made
first_drawn : (options : Values) (next : ℕ) (e : Entry) (es : List Entry) → next < next_behind next (begun options true) (e ∷ es)
first_drawn options next e es =
    let rest = drawn_up (next + made_for (begun options true) e) (added next (begun options true) e) es in
    omega (arith, rest)

-- the first entry is kept
first_kept : NewestStandsFirst → (e : Entry) (es : List Entry) → IsAscending (e ∷ es) → kept [] false (e ∷ es) ≡ e ∷ filter (λ x. is_newest [] (e ∷ es) x && true) es
first_kept law e es up =
    ap (λ (b : Bool). cond (b && true) (e ∷ filter (λ x. is_newest [] (e ∷ es) x && true) es) (filter (λ x. is_newest [] (e ∷ es) x && true) es)) (law [] [] es e up)

pub some_wanted : NewestStandsFirst → (options : Values) (next : ℕ) (memory : List Entry) → IsAscending memory → 1 ≤ length memory → next < next_of options [] next memory
some_wanted law options next [] up some = absurd (omega (arith, some))
some_wanted law options next (e ∷ es) up some =
    let first = first_drawn options next e (filter (λ x. is_newest [] (e ∷ es) x && true) es) in
    let same = ap (next_behind next (begun options true)) (first_kept law e es up) in
    omega (arith, first, same)

-- ---- where they do not suffice

-- what was loaded is more than there are numbers for
pub full_loaded : HeldIsMemory → (folder : Folder) (manifest : ℕ) (words : Words) (l : Loaded) → HasLoaded folder manifest words l → 10 ^ 15 < next_of l.options [] (l.first + 2) l.memory → IsFullLive folder words
full_loaded law folder manifest words l h past = record {
  manifest = manifest;
  live = h.live;
  is_live = h.is_live;
  agree = h.agree;
  pass = h.pass;
  batches = h.logs.batches;
  last = l.last;
  have = h.logs.have;
  memory = l.memory;
  memory_of = law h.logs.batches l.memory l.last h.logs.fit h.logs.holds;
  first = l.first;
  is_first = h.first;
  past = subst (λ (v : Values). 10 ^ 15 < next_of v [] (l.first + 2) l.memory) (sym h.options_are) past;
}

one_first : (folder : Folder) (version : Listing) (next a b : ℕ) → IsFirstNumber folder version next a → IsFirstNumber folder version next b → a ≡ b
one_first folder version next a b p q = let low = p.least b q.above in let high = q.least a p.above in omega (arith, low, high)

pub fresh_enough : (folder : Folder) (options : Values) (l : Loaded) (o : Opened) → TakesFresh folder options o → IsNumbered l o → IsFullFresh folder → ⊥
fresh_enough folder options l o t n full =
    let first : o.manifest.number ≡ full.first = one_first folder nothing 1 o.manifest.number full.first t.first full.is_first in
    let next = t.next in
    let log = n.log in
    let manifest = n.manifest in
    let most = n.within.most in
    let past = full.past in
    omega (arith, first, next, log, manifest, most, past)

live_enough : LiveIsOne → BatchesAreOne → (folder : Folder) (words : Words) (l : Loaded) (o : Opened) → TakesLive folder o → IsNumbered l o → IsFullLive folder words → ⊥
live_enough one batches_one folder words l o t n full =
    let live : t.live ≡ full.live = (one folder t.manifest full.manifest t.live full.live t.is_live full.is_live).1 in
    let first : o.manifest.number ≡ full.first =
    one_first folder full.live.version full.live.standing.next_file o.manifest.number full.first
    (subst (λ (r : Restored). IsFirstNumber folder r.version r.standing.next_file o.manifest.number) live t.first) full.is_first in
    let have = subst (λ (r : Restored). HaveBatches folder r.standing.log_number r.standing.last_sequence t.batches o.standing.last_sequence) live t.have in
    let batches : t.batches ≡ full.batches =
    (batches_one folder full.live.standing.log_number full.live.standing.last_sequence t.batches full.batches o.standing.last_sequence full.last have full.have).0 in
    let memory : t.memory ≡ full.memory = one_memory full.batches t.memory full.memory (subst (λ (bs : List Batch). IsMemoryOf bs t.memory) batches t.memory_of) full.memory_of in
    let options : o.standing.options ≡ full.live.standing.options = t.options_are ∙ ap (λ (r : Restored). r.standing.options) live in
    let log = n.log in
    let manifest = n.manifest in
    let from : o.standing.log_number + 1 ≡ full.first + 2 = omega (arith, first, log, manifest) in
    let wanted : o.standing.next_file ≡ next_of full.live.standing.options [] (full.first + 2) full.memory =
    t.adds.wanted ∙ (λ i. next_of (options i) [] (from i) (memory i)) in
    let most = n.within.most in
    let past = full.past in
    omega (arith, wanted, most, past)

fresh_is_not_live : (folder : Folder) (manifest : ℕ) (live : Restored) → IsFresh folder → IsLive folder manifest live → ⊥
fresh_is_not_live folder manifest live fresh is = cc (fresh.current, is.current)

pub taken_enough : LiveIsOne → BatchesAreOne → (folder : Folder) (words : Words) (l : Loaded) (o : Opened) → TakesOver folder words o → IsNumbered l o → IsFull folder words → ⊥
taken_enough one batches folder words l o (inl t) n (inl full) = fresh_enough folder (given_or defaults words) l o t n full
taken_enough one batches folder words l o (inl t) n (inr full) = fresh_is_not_live folder full.manifest full.live t.fresh full.is_live
taken_enough one batches folder words l o (inr t) n (inl full) = fresh_is_not_live folder t.manifest t.live full.fresh t.is_live
taken_enough one batches folder words l o (inr t) n (inr full) = live_enough one batches folder words l o t n full

-- in a fresh folder it is by the numbers alone
pub fresh_only : (folder : Folder) (words : Words) → IsFresh folder → (IsFullFresh folder → ⊥) → IsFull folder words → ⊥
fresh_only folder words fresh enough (inl full) = enough full
fresh_only folder words fresh enough (inr full) = fresh_is_not_live folder full.manifest full.live fresh full.is_live

pub on_ok : {T : Type 0} (r : Result T OpenErr) (P : T → Type 0) (Q : Type 0) → ((x : T) → P x → Q) → IfOk r P → OnOk r Q
on_ok (Ok x) P Q f p = f x p
on_ok (Err e) P Q f p = tt

pub on_ok_too : {T : Type 0} (r : Result T OpenErr) (P Q : Type 0) → (P → Q) → OnOk r P → OnOk r Q
on_ok_too (Ok x) P Q f p = f p
on_ok_too (Err e) P Q f p = tt
