-- What a cut leaves during a call of a store.
use Rattle.std.proofs.Common.{◌≡◌, ◌⊎◌, inl, inr, ⊎_elim, ℕ, ◌+◌, ◌≤◌, List, [], ◌∷◌, ◌++◌, length, refl, sym, ◌∙◌, ap, subst, arith}
use Rattle.bl_site.specs.Disk.{Cut, Disk, IsCut, MayLeave}
use Rattle.bl_site.specs.Calls.{Elapses, LeavesOnly, MayDuring}
use Rattle.bl_site.specs.declared.site.Site.{Ghosts}
use Rattle.bl_site.proofs.Moments.{certain_call, cut_of_only, joins, name_call, started}
use Rattle.bl_entry.specs.declared.batch.Operation.{Operation}
use Rattle.bl_folder.specs.Settled.{IsSettled}
use Rattle.bl_manifest.specs.ManifestFile.{ManifestFile}
use Rattle.bl_open.specs.SteadyCuts.{LeavesMap}
use Rattle.bl_open.specs.SteadyLaws.{CutsOfSteady, SteadyAreSettled}
use Rattle.bl_store.specs.Stored.{Stored}
use Rattle.bl_store.specs.Held.{Held, maps_of, with_write}
use Rattle.bl_store.specs.Standing.{StandsFor}
use Rattle.bl_store.proofs.HeldLemmas.{leaves_agree, leaves_within, maps_more}

-- what a cut leaves of a store that stands
pub cut_of : CutsOfSteady → (held : Held) (store : Stored) (disk : Disk) (told : List ℕ) (c : Cut) → StandsFor [] held store disk → IsCut disk told c → LeavesMap (maps_of held) held.durable (length held.writes) told c
cut_of law held store disk told c t cut =
    let writes = t.writes in
    leaves_within (maps_of held) _ held.durable _ (length held.writes) told c t.durable (omega (arith, writes)) (law (maps_of held) t.steady disk told c t.is_steady cut)

-- a store that stands is on a settled disk
pub settled_of : SteadyAreSettled → (held : Held) (store : Stored) (disk : Disk) → StandsFor [] held store disk → store.manifest.failed ≡ Rattle.std.proofs.Common.false → IsSettled disk
settled_of law held store disk t usable = law (maps_of held) t.steady disk t.is_steady (ap (λ (m : ManifestFile). m.failed) t.carries.manifest ∙ usable)

-- a cut for what is held is one for it with a write more
pub cut_more : (held : Held) (w : List Operation) (least : ℕ) (told : List ℕ) (c : Cut) → LeavesMap (maps_of held) least (length held.writes) told c → LeavesMap (maps_of (with_write w held)) least (length held.writes + 1) told c
cut_more held w least told c l =
    leaves_within (maps_of (with_write w held)) least least (length held.writes) (length held.writes + 1) told c (omega arith) (omega arith)
    (leaves_agree (maps_of held) (maps_of (with_write w held)) least (length held.writes) told c (λ n le. maps_more held w n le) l)

module _ {S : Type 0} (g : Ghosts S) where
  abbrev pub IsOnly : S → Type 0
  IsOnly site = (other : Disk) → g.may_be site other → other ≡ g.disk site

  abbrev pub IsNow : S → Type 0
  IsNow site = (c : Cut) → g.left_since site (g.clock site) c → MayLeave (g.may_be site) (g.told site) c

  -- no call was made
  pub no_call : (old : S) (P : List ℕ → Cut → Type 0) → IsOnly old → IsNow old → ((c : Cut) → IsCut (g.disk old) (g.told old) c → P (g.told old) c) → LeavesOnly g.clock g.left_since old old (P (g.told old))
  no_call old P only now here =
      started g.clock g.left_since old (P (g.told old)) (λ c left. here c (cut_of_only (g.may_be old) (g.disk old) (g.told old) c only (now c left)))

  -- one call, behind which no name call is in doubt
  pub one_call : (old new : S) (P : List ℕ → Cut → Type 0) → IsOnly old → IsNow old → IsOnly new → g.told new ≡ g.told old
      → Elapses (g.clock old) (g.clock new) (g.left_since old) (g.left_since new) (MayLeave (g.may_be new) (g.told new))
      → ((c : Cut) → IsCut (g.disk old) (g.told old) c → P (g.told old) c) → ((c : Cut) → IsCut (g.disk new) (g.told new) c → P (g.told new) c) → LeavesOnly g.clock g.left_since old new (P (g.told old))
  one_call old new P only now only_new same time before after =
      certain_call g.clock g.left_since g.disk g.told g.may_be old old new (P (g.told old)) (no_call old P only now before) time only_new
      (λ c cut. subst (λ (t : List ℕ). P t c) same (after c cut))

  -- one name call
  pub one_name_call : (call : Disk → Disk → Type 0) (old new : S) (P : List ℕ → Cut → Type 0) → IsOnly old → IsNow old
      → Elapses (g.clock old) (g.clock new) (g.left_since old) (g.left_since new) (MayLeave (MayDuring call (g.may_be old)) (g.told old))
      → ((c : Cut) → IsCut (g.disk old) (g.told old) c → P (g.told old) c) → ((after : Disk) (c : Cut) → call (g.disk old) after → IsCut after (g.told old) c → P (g.told old) c) → LeavesOnly g.clock g.left_since old new (P (g.told old))
  one_name_call call old new P only now time before after =
      name_call g.clock g.left_since g.disk g.told g.may_be call old old new (P (g.told old)) (no_call old P only now before) time only before after

  -- one part of a call after another
  pub both_parts : (old mid new : S) (P : List ℕ → Cut → Type 0) → g.told mid ≡ g.told old → LeavesOnly g.clock g.left_since old mid (P (g.told old)) → LeavesOnly g.clock g.left_since mid new (P (g.told mid)) → LeavesOnly g.clock g.left_since old new (P (g.told old))
  both_parts old mid new P same first second =
      joins g.clock g.left_since old mid new (P (g.told old)) first (subst (λ (t : List ℕ). LeavesOnly g.clock g.left_since mid new (P t)) same second)
