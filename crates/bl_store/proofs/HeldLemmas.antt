-- The maps of what a store holds.
use Rattle.std.proofs.Common.{◌≡◌, ℕ, ◌+◌, ◌≤◌, List, [], ◌∷◌, ◌++◌, length, take, refl, sym, ◌∙◌, ap, subst, arith, length-append}
use Rattle.std.proofs.lemmas.List.{take-append-le}
use Rattle.bl_site.specs.Disk.{Cut, Disk}
use Rattle.bl_entry.specs.Revisions.{Map, after_operations}
use Rattle.bl_entry.specs.declared.batch.Operation.{Operation}
use Rattle.bl_folder.specs.Fronts.{cut_to}
use Rattle.bl_folder.specs.Stands.{IsSound}
use Rattle.bl_open.specs.Steady.{IsBacked, IsSteady, MakesMaps, Maps, Steady, accepted}
use Rattle.bl_open.specs.SteadyCuts.{IsLeftFor, LeavesMap}
use Rattle.bl_store.specs.Held.{Held, Writes, after_writes, maps_of, now_of, with_write}

pub take_all : {A : Type 0} (xs : List A) → take (length xs) xs ≡ xs
take_all [] = refl
take_all (x ∷ xs) = ap (λ ys. x ∷ ys) (take_all xs)

-- ---- one write more

after_more : (ws : Writes) (w : List Operation) (m : Map) → after_writes (ws ++ w ∷ []) m ≡ after_operations w (after_writes ws m)
after_more [] w m = refl
after_more (v ∷ ws) w m = after_more ws w (after_operations v m)

pub maps_more : (held : Held) (w : List Operation) (n : ℕ) → n ≤ length held.writes → maps_of (with_write w held) n ≡ maps_of held n
maps_more held w n le = ap (λ ws. after_writes ws held.before) (take-append-le n held.writes (w ∷ []) le)

pub one_longer : (held : Held) (w : List Operation) → length (held.writes ++ w ∷ []) ≡ length held.writes + 1
one_longer held w = length-append held.writes (w ∷ [])

pub maps_next : (held : Held) (w : List Operation) → maps_of (with_write w held) (length held.writes + 1) ≡ after_operations w (maps_of held (length held.writes))
maps_next held w =
    ap (λ n. after_writes (take n (held.writes ++ w ∷ [])) held.before) (sym (one_longer held w))
    ∙ ap (λ ws. after_writes ws held.before) (take_all (held.writes ++ w ∷ []))
    ∙ after_more held.writes w held.before
    ∙ ap (λ ws. after_operations w (after_writes ws held.before)) (sym (take_all held.writes))

pub maps_last : (held : Held) → maps_of held (length held.writes) ≡ now_of held
maps_last held = ap (λ ws. after_writes ws held.before) (take_all held.writes)

-- ---- other maps, the same up to the last write

pub steady_agrees : (maps other : Maps) (s : Steady) (disk : Disk) → ((n : ℕ) → n ≤ accepted s → other n ≡ maps n) → IsSteady maps s disk → IsSteady other s disk
steady_agrees maps other s disk same t =
    let b = t.backed in
    let makes : MakesMaps other s.before s.holding = λ count le. let m = b.makes count le in (m.0, subst (IsSound (cut_to count s.holding) m.0) (sym (same (s.before + count) (omega (arith, le)))) m.1) in
    let backed : IsBacked other s disk = record {
      files = b.files;
      batches = b.batches;
      is_number = b.is_number;
      needed = b.needed;
      in_use = b.in_use;
      count = b.count;
      others = b.others;
      last = b.last;
      makes = makes;
    } in
    record { number = t.number; current = t.current; current_synced = t.current_synced; edits = t.edits; restores = t.restores; backed = backed }

pub leaves_agree : (maps other : Maps) (least most : ℕ) (told : List ℕ) (c : Cut) → ((n : ℕ) → n ≤ most → other n ≡ maps n) → LeavesMap maps least most told c → LeavesMap other least most told c
leaves_agree maps other least most told c same l = record {
  told_is = l.told_is;
  stands = λ chance. let s = l.stands chance in (s.0, s.1, s.2, subst (λ (m : Map). IsLeftFor m c) (sym (same s.0 s.2)) s.3);
}

pub leaves_within : (maps : Maps) (least fewer most more : ℕ) (told : List ℕ) (c : Cut) → fewer ≤ least → most ≤ more → LeavesMap maps least most told c → LeavesMap maps fewer more told c
leaves_within maps least fewer most more told c less le l = record {
  told_is = l.told_is;
  stands = λ chance. let s = l.stands chance in (s.0, omega (arith, less, s.1), omega (arith, le, s.2), s.3);
}
