-- When a call breaks the store.
use Rattle.std.proofs.Common.{◌≡◌, ◌^◌, Bool, inl, inr, ℕ, true, false, arith, sym, ◌∙◌, subst, Result, Ok, Err, OnOk, OnErr, IfErr}
use Rattle.bl_site.specs.Causes.{Rose}
use Rattle.bl_site.specs.declared.site.Site.{Ghosts}
use Rattle.bl_store.specs.Stored.{Stored}
use Rattle.bl_store.specs.Calls.{Breaks}
use Rattle.bl_store.specs.Causes.{IsMaking, IsSyncing}
use Rattle.bl_store.specs.declared.error.StoreErr.{StoreErr}
use Rattle.bl_store.specs.declared.error.StoreErr.TheVariants.{Disk, OutOfMemory, Full}

pub true_false : true ≡ false → ⊥
true_false e = cc e

not_full : (n : ℕ) → IsSyncing (Full n) → ⊥
not_full n (inl e) = cc e
not_full n (inr e) = cc e

-- a part that breaks the store at each failure, of a call that has asked the folder
pub always_breaks : {S T : Type 0} (g : Ghosts S) (result : Result T StoreErr) (old new : Stored) (site after : S) → OnErr result (new.broken ≡ true) → OnOk result (new.broken ≡ false) → IfErr result IsSyncing
    → Rose (g.changes site) (g.changes after) → Breaks g result old new site after
always_breaks g (Ok x) old new site after broken usable causes rose = record {
  disk = λ e. cc e;
  asked = λ e. cc e;
  unasked = λ e. cc e;
  full = λ n e. cc e;
  ok = usable;
}
always_breaks g (Err e) old new site after broken usable causes rose = record {
  disk = λ is. broken;
  asked = λ is b. rose;
  unasked = λ is b. absurd (true_false (sym broken ∙ b));
  full = λ n is. absurd (not_full n (subst IsSyncing (let same : e ≡ Full n = cc is in same) causes));
  ok = tt;
}

pub on_err : {T P Q : Type 0} (result : Result T StoreErr) → (P → Q) → OnErr result P → OnErr result Q
on_err (Ok x) f h = tt
on_err (Err e) f h = f h

pub on_ok : {T P Q : Type 0} (result : Result T StoreErr) → (P → Q) → OnOk result P → OnOk result Q
on_ok (Ok x) f h = f h
on_ok (Err e) f h = tt

pub rose_then : (a b c : ℕ) → Rose a b → Rose b c → Rose a c
rose_then a b c first second = omega (arith, first, second)

-- a failure that leaves a call unbroken is that no number is left
pub unbroken_is_full : (e : StoreErr) (mark broken : Bool) → IsMaking e → (e ≡ Disk → mark ≡ true) → (e ≡ OutOfMemory → mark ≡ true) → (e ≡ Full (10 ^ 15) → broken ≡ false) → mark ≡ false → broken ≡ false
unbroken_is_full e mark broken (inl is) disk memory full unmarked = absurd (true_false (sym (disk is) ∙ unmarked))
unbroken_is_full e mark broken (inr (inl is)) disk memory full unmarked = absurd (true_false (sym (memory is) ∙ unmarked))
unbroken_is_full e mark broken (inr (inr is)) disk memory full unmarked = full is
