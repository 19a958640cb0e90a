-- The writes of a history, and what a store holds of them.
use Rattle.std.proofs.Common.{◌≡◌, ℕ, ◌+◌, List, [], ◌∷◌, ◌++◌, length, take, None, Some, Option, refl, sym, ◌∙◌, ap, arith, length-append}
use Rattle.std.proofs.Math.Seq.{take-append-add}
use Rattle.bl_entry.specs.Revisions.{Map, after_operations}
use Rattle.bl_machine.specs.Writes.{Write, after_writes, bytes_of, value_size}
use Rattle.bl_machine.specs.Step.{Line}
use Rattle.bl_machine.specs.History.{map_after, written_by}
use Rattle.bl_machine.proofs.HistoryLemmas.{after_joined}
use Rattle.bl_store.specs.Calls.{bytes_of as bytes_written, put_length}
use Rattle.bl_store.specs.Held.{Held, Writes, after_writes as after_held, maps_of, now_of}
use Rattle.bl_promise.specs.Start.{Start}

-- ---- the same map, in the store's words and in the machine's

pub same_after : (ws : Writes) (m : Map) → after_held ws m ≡ after_writes ws m
unfolding after_writes
same_after [] m = refl
same_after (w ∷ ws) m = same_after ws (after_operations w m)

pub take_all : {A : Type 0} (xs : List A) → take (length xs) xs ≡ xs
take_all [] = refl
take_all (x ∷ xs) = ap (λ ys. x ∷ ys) (take_all xs)

same_size : (put : Option (List ℕ)) → put_length put ≡ value_size put
same_size None = refl
same_size (Some value) = refl

pub same_bytes : (w : Write) → bytes_written w ≡ bytes_of w
same_bytes [] = refl
same_bytes (o ∷ w) = omega (arith, same_size o.put, same_bytes w)

-- ---- the map after so many writes

-- behind the writes before the last opening, those that the store holds
pub map_is : (began : Start) (history : List Line) (earlier : List Write) (held : Held) (count : ℕ) → held.before ≡ after_writes earlier began.now → written_by history ≡ earlier ++ held.writes
    → maps_of held count ≡ map_after (length earlier + count) history began.now
map_is began history earlier held count before writes =
    same_after (take count held.writes) held.before
    ∙ ap (after_writes (take count held.writes)) before
    ∙ sym (after_joined earlier (take count held.writes) began.now)
    ∙ ap (λ ws. after_writes ws began.now) (sym (take-append-add earlier held.writes count))
    ∙ ap (λ ws. after_writes (take (length earlier + count) ws) began.now) (sym writes)

pub now_is : (began : Start) (history : List Line) (earlier : List Write) (held : Held) → held.before ≡ after_writes earlier began.now → written_by history ≡ earlier ++ held.writes
    → now_of held ≡ after_writes (written_by history) began.now
now_is began history earlier held before writes =
    same_after held.writes held.before
    ∙ ap (after_writes held.writes) before
    ∙ sym (after_joined earlier held.writes began.now)
    ∙ ap (λ ws. after_writes ws began.now) (sym writes)

pub counted : (history : List Line) (earlier : List Write) (held : Held) → written_by history ≡ earlier ++ held.writes → length (written_by history) ≡ length earlier + length held.writes
counted history earlier held writes = ap length writes ∙ length-append earlier held.writes
