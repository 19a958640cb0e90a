-- How a run of a site's calls goes on.
use Rattle.std.proofs.Common.{◌≡◌, ◌⊎◌, inl, inr, ⊎_elim, ℕ, List, subst, arith}
use Rattle.bl_site.specs.Disk.{Disk, Cut, IsCut, MayLeave}
use Rattle.bl_site.specs.Calls.{Elapses, LeavesOnly, MayDuring}

module _ {D : Type 0} (clock : D → ℕ) (left_since : D → ℕ → Cut → Type 0) where
  -- before the first call
  pub started : (old : D) (P : Cut → Type 0) → ((c : Cut) → left_since old (clock old) c → P c) → LeavesOnly clock left_since old old P
  started old P here = record { later = omega arith; each = here; before = λ t c le left. inl left }

  -- one call more, during which a cut leaves what has P
  pub goes_on : (old mid new : D) (P during : Cut → Type 0) → LeavesOnly clock left_since old mid P → Elapses (clock mid) (clock new) (left_since mid) (left_since new) during
      → ((c : Cut) → during c → P c) → LeavesOnly clock left_since old new P
  goes_on old mid new P during so_far time here = record {
    later = omega (arith, so_far.later, time.later);
    each = λ c left. ⊎_elim (so_far.each c) (here c) (time.nothing_else (clock old) c so_far.later left);
    before = λ t c le left. ⊎_elim (so_far.before t c le) (λ now. inr (here c now)) (time.nothing_else t c (omega (arith, le, so_far.later)) left);
  }

  -- one run after another
  pub joins : (old mid new : D) (P : Cut → Type 0) → LeavesOnly clock left_since old mid P → LeavesOnly clock left_since mid new P → LeavesOnly clock left_since old new P
  joins old mid new P first second = record {
    later = omega (arith, first.later, second.later);
    each = λ c left. ⊎_elim (first.each c) (λ p. p) (second.before (clock old) c first.later left);
    before = λ t c le left. ⊎_elim (first.before t c le) (λ p. inr p) (second.before t c (omega (arith, le, first.later)) left);
  }

  -- what has P has Q
  pub widened : (old new : D) (P Q : Cut → Type 0) → ((c : Cut) → P c → Q c) → LeavesOnly clock left_since old new P → LeavesOnly clock left_since old new Q
  widened old new P Q wider leaves = record {
    later = leaves.later;
    each = λ c left. wider c (leaves.each c left);
    before = λ t c le left. ⊎_elim (λ was. inl was) (λ p. inr (wider c p)) (leaves.before t c le left);
  }

-- where the disk that reads is the only one, a cut is a cut of it
pub cut_of_only : (may_be : Disk → Type 0) (disk : Disk) (told : List ℕ) (c : Cut) → ((other : Disk) → may_be other → other ≡ disk) → MayLeave may_be told c → IsCut disk told c
cut_of_only may_be disk told c only leaves = subst (λ (d : Disk). IsCut d told c) (only leaves.disk leaves.possible) leaves.is_cut

-- a cut during a name call, where none was in doubt: of the disk before it, or of one after it
pub cut_of_call : (call : Disk → Disk → Type 0) (may_be : Disk → Type 0) (disk : Disk) (told : List ℕ) (c : Cut) → ((other : Disk) → may_be other → other ≡ disk)
    → MayLeave (MayDuring call may_be) told c → IsCut disk told c ⊎ ((after : Disk) × call disk after × IsCut after told c)
cut_of_call call may_be disk told c only leaves =
    ⊎_elim
    (λ was. inl (subst (λ (d : Disk). IsCut d told c) (only leaves.disk was) leaves.is_cut))
    (λ from. inr (leaves.disk, subst (λ (d : Disk). call d leaves.disk) (only from.0 from.1) from.2, leaves.is_cut))
    leaves.possible

module _ {D : Type 0} (clock : D → ℕ) (left_since : D → ℕ → Cut → Type 0) (disk : D → Disk) (told : D → List ℕ) (may_be : D → Disk → Type 0) where
  -- one call more, after which no name call is in doubt: `only` is the law at the new value
  pub certain_call : (old mid new : D) (P : Cut → Type 0) → LeavesOnly clock left_since old mid P
      → Elapses (clock mid) (clock new) (left_since mid) (left_since new) (MayLeave (may_be new) (told new))
      → ((other : Disk) → may_be new other → other ≡ disk new)
      → ((c : Cut) → IsCut (disk new) (told new) c → P c) → LeavesOnly clock left_since old new P
  certain_call old mid new P so_far time only here = goes_on clock left_since old mid new P _ so_far time (λ c leaves. here c (cut_of_only (may_be new) (disk new) (told new) c only leaves))

  -- one name call more, whatever was answered, where none was in doubt: `only` is the law at the value before
  pub name_call : (call : Disk → Disk → Type 0) (old mid new : D) (P : Cut → Type 0) → LeavesOnly clock left_since old mid P
      → Elapses (clock mid) (clock new) (left_since mid) (left_since new) (MayLeave (MayDuring call (may_be mid)) (told mid))
      → ((other : Disk) → may_be mid other → other ≡ disk mid)
      → ((c : Cut) → IsCut (disk mid) (told mid) c → P c)
      → ((after : Disk) (c : Cut) → call (disk mid) after → IsCut after (told mid) c → P c) → LeavesOnly clock left_since old new P
  name_call call old mid new P so_far time only before done = goes_on clock left_since old mid new P _ so_far time
      (λ c leaves. ⊎_elim (before c) (λ did. done did.0 c did.1 did.2) (cut_of_call call (may_be mid) (disk mid) (told mid) c only leaves))

-- what holds of the disks before a name call, and of those that it makes of them, holds of all during it
pub all_during : (call : Disk → Disk → Type 0) (may_be P : Disk → Type 0) → ((disk : Disk) → may_be disk → P disk) → ((before after : Disk) → P before → call before after → P after)
    → (disk : Disk) → MayDuring call may_be disk → P disk
all_during call may_be P here done disk may = ⊎_elim (here disk) (λ from. done from.0 disk (here from.0 from.1) from.2) may
