-- What each call leaves sound.
use Rattle.std.proofs.Common.{◌≡◌, ◌≢◌, ℕ, ◌+◌, ◌<◌, ◌≤◌, arith, List, ◌∷◌, ◌++◌, length, take, drop, set, All, slice_index_or, Option, None, Some, IfSome, Bool, true, Result, Ok, Err, is_ok, IsErr, OnOk, MatchResult, sym, subst, refl, inl, inr}
use Rattle.std.proofs.lemmas.List.Elements.{All-append, All-take, All-drop, All-set}
use Rattle.std.specs.String.{string_bytes}
use Rattle.bl_site.specs.Disk.{Name}
use Rattle.bl_site_host.specs.Events.{Event, Looked, Listing, ListingBroke, Opened, Made, Read, Wrote, SyncedFile, SyncedFolder, Renamed, Removed, SawNoOther, StandsUnder, IsOn}
use Rattle.bl_site_host.specs.Stops.{GoesThrough}
use Rattle.bl_site_host.specs.Handles.{AllStand, IsSound, IsPlaceOf}
use Rattle.std.specs.declared.io.Error.{Error}
use Rattle.bl_site_host.specs.declared.faults.Fault.{Fault}
use Rattle.bl_site_host.specs.declared.faults.Fault.TheVariants.{Disk}
use Rattle.bl_site_host.specs.declared.handles.Handle.{Handle}

-- neither opens nor makes a file, nor changes a name
abbrev pub IsPlain : Event → Type 0
IsPlain (Opened _ _) = ⊥
IsPlain (Made _ _) = ⊥
IsPlain (Renamed _ _ _) = ⊥
IsPlain (Removed _ _) = ⊥
IsPlain _ = Unit {0}

plain : {F : Type 0} (id : F → ℕ) (was : List Event) (call : Event) (handles : List (Handle F)) → IsPlain call → IsSound id was handles → IsSound id (call ∷ was) handles
plain id was (Looked _ _) handles p h = record { careful = h.careful; stand = h.stand }
plain id was (Listing _) handles p h = record { careful = h.careful; stand = h.stand }
plain id was ListingBroke handles p h = record { careful = h.careful; stand = h.stand }
plain id was (Opened _ _) handles p h = absurd p
plain id was (Made _ _) handles p h = absurd p
plain id was (Read _ _ _ _) handles p h = record { careful = h.careful; stand = h.stand }
plain id was (Wrote _ _ _) handles p h = record { careful = h.careful; stand = h.stand }
plain id was (SyncedFile _ _) handles p h = record { careful = h.careful; stand = h.stand }
plain id was (SyncedFolder _) handles p h = record { careful = h.careful; stand = h.stand }
plain id was (Renamed _ _ _) handles p h = absurd p
plain id was (Removed _ _) handles p h = absurd p

pub sound_plain : {F : Type 0} (id : F → ℕ) (was now : List Event) (call : Event) (handles : List (Handle F)) → IsPlain call → now ≡ call ∷ was → IsSound id was handles → IsSound id now handles
sound_plain id was now call handles p is h = subst (λ calls. IsSound id calls handles) (sym is) (plain id was call handles p h)

-- a list that is gone through leaves what is sound
pub sound_through : {F : Type 0} (id : F → ℕ) (was now : List Event) (handles : List (Handle F)) → GoesThrough was now → IsSound id was handles → IsSound id now handles
sound_through id was now handles (inl is) h = subst (λ calls. IsSound id calls handles) (sym is) h
sound_through id was now handles (inr is) h = sound_plain id was now ListingBroke handles tt is h

opened_stands : (name under : Name) (opened : Option ℕ) (file : ℕ) (was : List Event) → StandsUnder under file was → StandsUnder under file (Opened name opened ∷ was)
opened_stands name under None file was h = h
opened_stands name under (Some new) file was h = inr h

pub sound_opened : {F : Type 0} (id : F → ℕ) (name : Name) (opened : Option ℕ) (was now : List Event) (handles : List (Handle F)) → SawNoOther name was → now ≡ Opened name opened ∷ was → IsSound id was handles → IsSound id now handles
sound_opened id name opened was now handles saw is h = subst (λ calls. IsSound id calls handles) (sym is) (record {
  careful = (saw, h.careful);
  stand = λ i d lt. opened_stands name _ opened _ was (h.stand i d lt);
})

pub sound_made : {F : Type 0} (id : F → ℕ) (name : Name) (made : Option ℕ) (was now : List Event) (handles : List (Handle F)) → SawNoOther name was → All (λ handle. name ≢ string_bytes handle.name) handles
    → now ≡ Made name made ∷ was → IsSound id was handles → IsSound id now handles
sound_made id name made was now handles saw gone is h = subst (λ calls. IsSound id calls handles) (sym is) (record {
  careful = (saw, h.careful);
  stand = λ i d lt. (gone i d lt, h.stand i d lt);
})

pub sound_renamed : {F : Type 0} (id : F → ℕ) (from to : Name) (ok : Bool) (was now : List Event) (handles : List (Handle F)) → All (λ handle. from ≢ string_bytes handle.name) handles
    → All (λ handle. to ≢ string_bytes handle.name) handles → now ≡ Renamed from to ok ∷ was → IsSound id was handles → IsSound id now handles
sound_renamed id from to ok was now handles gone replaced is h = subst (λ calls. IsSound id calls handles) (sym is) (record {
  careful = h.careful;
  stand = λ i d lt. (gone i d lt, replaced i d lt, h.stand i d lt);
})

pub sound_removed : {F : Type 0} (id : F → ℕ) (name : Name) (ok : Bool) (was now : List Event) (handles : List (Handle F)) → All (λ handle. name ≢ string_bytes handle.name) handles
    → now ≡ Removed name ok ∷ was → IsSound id was handles → IsSound id now handles
sound_removed id name ok was now handles gone is h = subst (λ calls. IsSound id calls handles) (sym is) (record {
  careful = h.careful;
  stand = λ i d lt. (gone i d lt, h.stand i d lt);
})

-- a file that is closed takes nothing from the others
pub all_without : {X : Type 0} (P : X → Type 0) (xs ys : List X) (i : ℕ) → ys ≡ take i xs ++ drop (i + 1) xs → All P xs → All P ys
all_without P xs ys i is h = subst (All P) (sym is) (All-append P (take i xs) (drop (i + 1) xs) (All-take P i xs h) (All-drop P (i + 1) xs h))

pub sound_closed : {F : Type 0} (id : F → ℕ) (calls : List Event) (old new : List (Handle F)) → (AllStand id calls old → AllStand id calls new) → IsSound id calls old → IsSound id calls new
sound_closed id calls old new stand h = record { careful = h.careful; stand = stand h.stand }

-- a file that is read, written or synced stands as before
pub sound_used : {F : Type 0} (id : F → ℕ) (calls : List Event) (handles : List (Handle F)) (at : ℕ) (handle new : Handle F) → at < length handles → handle ≡ slice_index_or handles at handle
    → new.name ≡ handle.name → id new.file ≡ id handle.file → IsSound id calls handles → IsSound id calls (set handles at new)
sound_used id calls handles at handle new within is name file h =
    let was : StandsUnder (string_bytes handle.name) (id handle.file) calls = subst (λ it. StandsUnder (string_bytes it.name) (id it.file) calls) (sym is) (h.stand at handle within) in
    record {
      careful = h.careful;
      stand = All-set (λ it. StandsUnder (string_bytes it.name) (id it.file) calls) handles at new
          (subst (λ n. StandsUnder (string_bytes n) (id new.file) calls) (sym name) (subst (λ f. StandsUnder (string_bytes handle.name) f calls) (sym file) was)) h.stand;
    }

-- a file that was just opened is kept
pub sound_kept : {F : Type 0} (id : F → ℕ) (name key : Name) (file : F) (was now : List Event) (old new : List (Handle F)) → key ≡ name → SawNoOther name was → now ≡ Opened name (Some (id file)) ∷ was
    → ((calls : List Event) → StandsUnder key (id file) calls → AllStand id calls old → AllStand id calls new) → IsSound id was old → IsSound id now new
sound_kept id name key file was now old new spelled saw is keeps h =
    let opened = sound_opened id name (Some (id file)) was now old saw is h in
    record { careful = opened.careful; stand = keeps now (subst (λ calls. StandsUnder key (id file) calls) (sym is) (inl (sym spelled, refl))) opened.stand }

-- the file at this place stands under the name that it is kept under
pub stands_at : {F : Type 0} (id : F → ℕ) (name : Name) (calls : List Event) (handles : List (Handle F)) (at : ℕ) (handle : Handle F) → IsPlaceOf name handles at → handle ≡ slice_index_or handles at handle
    → IsSound id calls handles → StandsUnder name (id handle.file) calls
stands_at id name calls handles at handle place is h =
    subst (λ it. StandsUnder name (id it.file) calls) (sym is) (subst (λ n. StandsUnder n (id (slice_index_or handles at handle).file) calls) (place.1 handle) (h.stand at handle place.0))

pub at_some : {X : Type 0} (P : X → Type 0) (found : Option X) (x : X) → found ≡ Some x → IfSome found P → P x
at_some P found x is h = subst (λ o. IfSome o P) is h

-- one call more
pub more : (was now older : List Event) (call : Event) → now ≡ call ∷ older → length was ≤ length older → length was < length now
more was now older call is grows = subst (λ (calls : List Event). length was < length calls) (sym is) (omega (arith, grows))

-- the newest call, which did not fail, was on a file that stands under the name
pub is_on : (name : Name) (call : ℕ → Bool → Event) (file : ℕ) (ok : Bool) (was now older : List Event) → now ≡ call file ok ∷ older → length was ≤ length older → StandsUnder name file older → ok ≡ true → IsOn name (λ f. call f true) was now
is_on name call file ok was now older is grows stands good = record {
  file = file;
  older = older;
  newest = subst (λ b. now ≡ call file b ∷ older) good is;
  since = more was now older (call file ok) is grows;
  stands = stands;
}

-- what holds where the system did not fail holds where the call was answered Ok
pub on_changed : {T : Type 0} (done : Result T Error) (result : Result T Fault) (P : Type 0) → MatchResult done (λ v. result ≡ Ok v) (λ e. result ≡ Err (Disk e)) → (is_ok done ≡ true → P) → OnOk result P
on_changed (Ok v) result P is f = subst (λ r. OnOk r P) (sym is) (f refl)
on_changed (Err e) result P is f = subst (λ r. OnOk r P) (sym is) tt

pub on_synced : (done : Result (Unit {0}) Error) (result : Result (Unit {0}) Fault) (P : Type 0) → (IsErr done → IsErr result) → (is_ok done ≡ true → P) → OnOk result P
on_synced (Ok v) (Ok w) P fails f = f refl
on_synced (Err e) (Ok w) P fails f = let bad = fails refl in cc
on_synced done (Err e) P fails f = tt

-- two names are closed, and then one gets the place of the other
pub sound_moved : {F : Type 0} (id : F → ℕ) (from to : Name) (ok : Bool) (was now : List Event) (first second third : List (Handle F)) → All (λ handle. from ≢ string_bytes handle.name) second
    → ((calls : List Event) → AllStand id calls first → AllStand id calls second) → All (λ handle. to ≢ string_bytes handle.name) third
    → ((calls : List Event) → AllStand id calls second → AllStand id calls third) → now ≡ Renamed from to ok ∷ was → IsSound id was first → IsSound id now third
sound_moved id from to ok was now first second third gone closes replaced closes_too is h =
    let marked : AllStand id (Made from None ∷ was) second = λ i d lt. (gone i d lt, closes was h.stand i d lt) in
    let both : AllStand id (Made from None ∷ was) third = closes_too (Made from None ∷ was) marked in
    sound_renamed id from to ok was now third (λ i d lt. (both i d lt).0) replaced is (record { careful = h.careful; stand = λ i d lt. (both i d lt).1 })
