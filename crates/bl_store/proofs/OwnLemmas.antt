-- Calls of a store change its own files alone.
use Rattle.std.proofs.Common.{◌≡◌, ◌≢◌, ◌⊎◌, inl, inr, ℕ, ◌+◌, ◌<◌, ◌≤◌, refl, sym, ◌∙◌, ap, subst, arith, zero, suc, IsSome, Result, Ok, OnOk}
use Rattle.bl_site.specs.Disk.{Disk, Name}
use Rattle.bl_site.specs.Calls.{Creates, DoneOrNot}
use Rattle.bl_site.specs.Quiet.{TellsNothing}
use Rattle.bl_site.specs.declared.site.Site.{Ghosts}
use Rattle.std.specs.Prelude.{◌-◌, ◌^◌}
use Rattle.std.specs.List.{range_with_len}
use Rattle.bl_out.specs.Quiet.{IsNoneOf}
use Rattle.bl_out.specs.States.{names_of}
use Rattle.bl_open.specs.Flushing.{drawn}
use Rattle.bl_names.specs.declared.name.FileName.TheVariants.{Blob, Log, Manifest, Table}
use Rattle.bl_names.specs.Names.{IsNumber, NamesOne, manifest_name, name_of}
use Rattle.bl_code.specs.Order.{same_bytes}
use Rattle.bl_wal.specs.LogFile.{log_name}
use Rattle.bl_open.proofs.FrameLemmas.{apart}
use Rattle.bl_site.proofs.Quiet.{silent_on}
use Rattle.bl_store.specs.Stored.{Stored}
use Rattle.bl_store.specs.Standing.{IsThere}
use Rattle.bl_store.specs.Calls.{IsOwn, WritesOwn}
use Rattle.bl_store.specs.declared.error.StoreErr.{StoreErr}
use Rattle.bl_store.proofs.SyncedLemmas.{eq_of_bytes, not_same, of_test}

-- a file that is there stays while one is made
pub still_there : (name other : Name) (old new : Disk) → Creates name old new → IsSome (old other) → IsSome (new other)
still_there name other old new made there =
    of_test (same_bytes other name)
    (λ same. let is : other ≡ name = eq_of_bytes other name same in subst (λ n. IsSome (new n)) (sym is) (subst IsSome (sym made.at) refl))
    (λ differs. subst IsSome (sym (made.others other (not_same other name differs))) there)

pub still_there_or : (name other : Name) (old new : Disk) → DoneOrNot (Creates name) old new → IsSome (old other) → IsSome (new other)
still_there_or name other old new (inl same) there = subst (λ (d : Disk). IsSome (d other)) (sym same) there
still_there_or name other old new (inr made) there = still_there name other old new made there

others_or : (name other : Name) (old new : Disk) → DoneOrNot (Creates name) old new → other ≢ name → new other ≡ old other
others_or name other old new (inl same) ne = ap (λ (d : Disk). d other) same
others_or name other old new (inr made) ne = made.others other ne

-- the log of a drawn number is made, or not
module _ {S T : Type 0} (g : Ghosts S) (result : Result T StoreErr) (old new : Stored) (number : ℕ) (site after : S) (silent : TellsNothing g site after) (is : IsNumber number)
    (here : old.next ≡ number) (there_next : new.next ≡ number + 1) (either : g.shows → DoneOrNot (Creates (log_name number)) (g.disk site) (g.disk after)) where
  is_own : (name : Name) → name ≡ log_name number → IsOwn old new name
  is_own name e = inr (inr (Log number, (is, e), omega (arith, here), omega (arith, there_next)))

  pub log_made : (g.shows → IsThere new (g.disk after)) → (g.shows → g.certain site → OnOk result (g.certain after)) → WritesOwn g result old new site after
  log_made there certain = record {
    tells_nothing = silent;
    others = λ shown name own. others_or (log_name number) name (g.disk site) (g.disk after) (either shown) (λ e. own (is_own name e));
    there = there;
    certain = certain;
  }

-- ---- one part of a call after another

-- the log in use is the same, or one of a number that was drawn
abbrev pub HasLogOf : Stored → Stored → Type 0
HasLogOf old mid = (mid.log.number ≡ old.log.number) ⊎ (IsNumber mid.log.number × (old.next ≤ mid.log.number) × (mid.log.number < mid.next))

module _ (old mid new : Stored) (up : old.next ≤ mid.next) (up_more : mid.next ≤ new.next) (log : HasLogOf old mid) (manifest : mid.manifest.number ≡ old.manifest.number) where
  first_own : (name : Name) → IsOwn old mid name → IsOwn old new name
  first_own name own = elim own [
    | inl is ↦ inl is
    | inr rest ↦ elim rest [
      | inl is ↦ inr (inl is)
      | inr drawn ↦ (let above = drawn.2 in let less = drawn.3 in inr (inr (drawn.0, drawn.1, omega (arith, above), omega (arith, less, up_more))))
    ]
  ]

  second_own : (name : Name) → IsOwn mid new name → IsOwn old new name
  second_own name own = elim own [
    | inl is ↦ elim log [
      | inl same ↦ inl (is ∙ ap log_name same)
      | inr l ↦ (let above = l.1 in let less = l.2 in inr (inr (Log mid.log.number, (l.0, is), omega (arith, above), omega (arith, less, up_more))))
    ]
    | inr rest ↦ elim rest [
      | inl is ↦ inr (inl (is ∙ ap manifest_name manifest))
      | inr drawn ↦ (let above = drawn.2 in let less = drawn.3 in inr (inr (drawn.0, drawn.1, omega (arith, above, up), omega (arith, less))))
    ]
  ]

  pub own_join : {S T U : Type 0} (g : Ghosts S) (result : Result T StoreErr) (x : U) (site between after : S) → WritesOwn g (Ok x) old mid site between → WritesOwn g result mid new between after → WritesOwn g result old new site after
  own_join g result x site between after first second = record {
    tells_nothing = silent_on g site between after first.tells_nothing second.tells_nothing;
    others = λ shown name own. second.others shown name (λ is. own (second_own name is)) ∙ first.others shown name (λ is. own (first_own name is));
    there = second.there;
    certain = λ shown sure. second.certain shown (first.certain shown sure);
  }

-- ---- files whose numbers are drawn

none_range : (name : Name) (from count : ℕ) → ((n : ℕ) → from ≤ n → n < from + count → (name_of (Table n) ≢ name) × (name_of (Blob n) ≢ name)) → IsNoneOf (names_of (range_with_len from count)) name
none_range name from zero h = tt
none_range name from (suc count) h =
    let here = h from (omega arith) (omega arith) in
    (here.0, (here.1, none_range name (from + 1) count (λ n le less. h n (omega (arith, le)) (omega (arith, less)))))

-- a name that the store does not write is none of them
pub none_own : (old new : Stored) (name : Name) → 1 ≤ old.next → new.next ≤ 10 ^ 15 → (IsOwn old new name → ⊥) → IsNoneOf (drawn old.next new.next) name
none_own old new name least most own =
    none_range name old.next (new.next - old.next)
    (λ n le less. (
      (λ e. own (inr (inr (Table n, ((omega (arith, least, le), omega (arith, le, less, most)), sym e), le, omega (arith, le, less))))),
      (λ e. own (inr (inr (Blob n, ((omega (arith, least, le), omega (arith, le, less, most)), sym e), le, omega (arith, le, less))))),
    ))

-- nor is a log or a manifest
pub none_log : NamesOne → (from next n : ℕ) → 1 ≤ from → next ≤ 10 ^ 15 → IsNumber n → IsNoneOf (drawn from next) (log_name n)
none_log one from next n least most is =
    none_range (log_name n) from (next - from)
    (λ k le less. (apart one (Table k) (Log n) (omega (arith, least, le), omega (arith, le, less, most)) is (λ e. cc e), apart one (Blob k) (Log n) (omega (arith, least, le), omega (arith, le, less, most)) is (λ e. cc e)))

pub none_manifest : NamesOne → (from next n : ℕ) → 1 ≤ from → next ≤ 10 ^ 15 → IsNumber n → IsNoneOf (drawn from next) (manifest_name n)
none_manifest one from next n least most is =
    none_range (manifest_name n) from (next - from)
    (λ k le less. (apart one (Table k) (Manifest n) (omega (arith, least, le), omega (arith, le, less, most)) is (λ e. cc e), apart one (Blob k) (Manifest n) (omega (arith, least, le), omega (arith, le, less, most)) is (λ e. cc e)))
