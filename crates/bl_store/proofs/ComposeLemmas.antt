-- One part of a call after another.
use Rattle.std.proofs.Common.{◌≡◌, ◌⊎◌, inl, inr, ℕ, ◌≤◌, List, length, Bool, false, sym, subst, arith, Result, Ok, Err, IsErr}
use Rattle.bl_site.specs.Causes.{Rose}
use Rattle.bl_site.specs.Disk.{Disk, Name}
use Rattle.bl_site.specs.declared.site.Site.{Ghosts}
use Rattle.bl_site.proofs.Moments.{widened}
use Rattle.bl_entry.specs.declared.batch.Operation.{Operation}
use Rattle.bl_open.specs.SteadyCuts.{LeavesMap}
use Rattle.bl_store.specs.Stored.{Stored}
use Rattle.bl_store.specs.Held.{Held, all_durable, maps_of, with_write}
use Rattle.bl_store.specs.Standing.{StandsFor}
use Rattle.bl_store.specs.Calls.{CutsOfCall, LeavesStore, WritesOwn}
use Rattle.bl_store.specs.declared.error.StoreErr.{StoreErr}
use Rattle.bl_store.proofs.BreakLemmas.{rose_then}
use Rattle.bl_store.proofs.HeldLemmas.{leaves_agree, leaves_within}
use Rattle.bl_store.proofs.MomentLemmas.{both_parts}

-- a second part, where what it was known to hold is held too
pub leaves_second : {T : Type 0} (names : List Name) (held mid done later : Held) (result : Result T StoreErr) (new : Stored) (disk : Disk) → (StandsFor names mid new disk → StandsFor names held new disk) → (StandsFor names later new disk → StandsFor names done new disk)
    → LeavesStore names mid later result new disk → LeavesStore names held done result new disk
leaves_second names held mid done later (Ok x) new disk less more l = record { ok = more l.ok; err = tt; settled = l.settled }
leaves_second names held mid done later (Err e) new disk less more l = record { ok = tt; err = λ no_. less (l.err no_); settled = l.settled }

pub leaves_result : {T U : Type 0} (names : List Name) (held mid done : Held) (e : StoreErr) (r : Result U StoreErr) (new : Stored) (disk : Disk) → IsErr r → LeavesStore {T = T} names held mid (Err e) new disk → LeavesStore {T = U} names held done r new disk
leaves_result names held mid done e (Ok x) new disk is l = cc is
leaves_result names held mid done e (Err f) new disk is l = record { ok = tt; err = l.err; settled = l.settled }

-- a write of which fewer writes before it are known to be durable
pub less_durable_write : (names : List Name) (held : Held) (w : List Operation) (store : Stored) (disk : Disk) → held.durable ≤ length held.writes → StandsFor names (with_write w (all_durable held)) store disk → StandsFor names (with_write w held) store disk
less_durable_write names held w store disk le t = let durable_ = t.durable in record {
  steady = t.steady;
  is_steady = t.is_steady;
  carries = t.carries;
  writes = t.writes;
  durable = omega (arith, durable_, le);
  found = t.found;
}

-- cuts of both
pub cuts_second : {S : Type 0} (g : Ghosts S) (held mid done : Held) (old between new : S) → g.told between ≡ g.told old → held.durable ≤ mid.durable → length mid.writes ≤ length done.writes → ((n : ℕ) → n ≤ length mid.writes → maps_of done n ≡ maps_of mid n)
    → CutsOfCall g held mid old between → CutsOfCall g mid done between new → CutsOfCall g held done old new
cuts_second g held mid done old between new told up longer same first second =
    both_parts g old between new (LeavesMap (maps_of done) held.durable (length done.writes)) told
    (widened g.clock g.left_since old between (LeavesMap (maps_of mid) held.durable (length mid.writes) (g.told old)) (LeavesMap (maps_of done) held.durable (length done.writes) (g.told old))
    (λ c l. leaves_within (maps_of done) held.durable held.durable (length mid.writes) (length done.writes) (g.told old) c (omega arith) longer (leaves_agree (maps_of mid) (maps_of done) held.durable (length mid.writes) (g.told old) c same l)) first)
    (widened g.clock g.left_since between new (LeavesMap (maps_of done) mid.durable (length done.writes) (g.told between)) (LeavesMap (maps_of done) held.durable (length done.writes) (g.told between))
    (λ c l. leaves_within (maps_of done) mid.durable held.durable (length done.writes) (length done.writes) (g.told between) c up (omega arith) l) second)

-- the folder was asked by one of both
pub rose_or : (a b c : ℕ) → Rose a b ⊎ (b ≡ a) → Rose b c → Rose a c
rose_or a b c (inl rose) more = rose_then a b c rose more
rose_or a b c (inr same) more = subst (λ n. Rose n c) same more

pub or_rose : (a b c : ℕ) → Rose a b → Rose b c ⊎ (c ≡ b) → Rose a c
or_rose a b c rose (inl more) = rose_then a b c rose more
or_rose a b c rose (inr same) = subst (Rose a) (sym same) rose

-- a part that failed, of which the caller says anew whether it breaks the store: whether it is broken does not matter to how a store stands
stands_marked : (names : List Name) (held : Held) (store : Stored) (mark : Bool) (disk : Disk) → StandsFor names held store disk → StandsFor names held (record store { broken = mark }) disk
stands_marked names held store mark disk t = record {
  steady = t.steady;
  is_steady = t.is_steady;
  carries = record {
    live = t.carries.live;
    manifest = t.carries.manifest;
    log = t.carries.log;
    last = t.carries.last;
    waiting = t.carries.waiting;
    memory = t.carries.memory;
    fit = t.carries.fit;
    ahead = record { version = t.carries.ahead.version; manifest = t.carries.ahead.manifest; log = t.carries.ahead.log };
  };
  writes = t.writes;
  durable = t.durable;
  found = t.found;
}

pub leaves_marked : {T : Type 0} (names : List Name) (held done : Held) (e : StoreErr) (new : Stored) (mark : Bool) (disk : Disk) → (mark ≡ false → new.broken ≡ false) → LeavesStore {T = T} names held done (Err e) new disk
    → LeavesStore {T = T} names held done (Err e) (record new { broken = mark }) disk
leaves_marked names held done e new mark disk only l = record { ok = tt; err = λ no_. stands_marked names held new mark disk (l.err (only no_)); settled = l.settled }

pub own_marked : {S T : Type 0} (g : Ghosts S) (result : Result T StoreErr) (old new : Stored) (mark : Bool) (site after : S) → WritesOwn g result old new site after → WritesOwn g result old (record new { broken = mark }) site after
own_marked g result old new mark site after w = record {
  tells_nothing = w.tells_nothing;
  others = w.others;
  there = λ shown. record { manifest = (w.there shown).manifest; log = (w.there shown).log };
  certain = w.certain;
}
