-- Worked rows: what the machine tells, and what it writes.
use Rattle.std.proofs.Common.{◌≡◌, ℕ, List, [], ◌∷◌, codes, map, refl, ap}
use Rattle.std.specs.FinMap.{empty, get-insert, get-remove}
use Rattle.std.specs.Cmp.Lexicographic.{nat_list_cmp_total}
use Rattle.bl_script.specs.Printing.{value_line}
use Rattle.bl_entry.specs.Batches.{put_of, deletion_of}
use Rattle.bl_entry.specs.Revisions.{Map}
use Rattle.bl_script.specs.declared.command.Command.TheVariants as command
use Rattle.bl_script.specs.declared.command.Parsed.TheVariants.{Nothing, Refused, Go}
use Rattle.bl_script.specs.declared.command.Refusal.TheVariants.{Syntax}
use Rattle.bl_shell.specs.Machine.{Write, Line, after_writes, numbered, operations_in, reply, reply_of, writes_of}
use Rattle.bl_shell.specs.Synced.{whole_within, before_sync, synced, begun}

-- `put a =1`, then what is read
one : Map
one = after_writes ((put_of (codes "a") (codes "1") ∷ []) ∷ []) empty

read_back : reply (command.Get (codes "a")) one ≡ codes "value =1\n"
unfolding one after_writes
read_back = ap value_line (get-insert nat_list_cmp_total empty (codes "a") (codes "1") (codes "a"))

-- and after `del a`
gone : reply (command.Get (codes "a")) (after_writes ((deletion_of (codes "a") ∷ []) ∷ []) one) ≡ codes "none\n"
unfolding one after_writes
gone = ap value_line (get-remove nat_list_cmp_total one (codes "a") (codes "a"))

-- a blank line tells nothing, and a refusal is a reply that writes nothing
blank : reply_of Nothing one ≡ []
blank = refl

refused : reply_of (Refused Syntax) one ≡ codes "refused syntax\n"
refused = refl

writes_nothing : writes_of (Refused Syntax) ≡ []
writes_nothing = refl

-- of a batch the last operation on a key stands: `batch put b =2 del c put b =3`
batch : Write
batch = put_of (codes "b") (codes "2") ∷ deletion_of (codes "c") ∷ put_of (codes "b") (codes "3") ∷ []

last_stands : reply (command.Get (codes "b")) (after_writes (batch ∷ []) empty) ≡ codes "value =3\n"
unfolding batch after_writes
last_stands = ap value_line (get-insert nat_list_cmp_total (after_writes ((put_of (codes "b") (codes "2") ∷ deletion_of (codes "c") ∷ []) ∷ []) empty) (codes "b") (codes "3") (codes "b"))

-- each operation takes a sequence
sequences : numbered 2 (batch ∷ (deletion_of (codes "b") ∷ []) ∷ []) ≡ record { first = 2; operations = batch } ∷ record { first = 5; operations = deletion_of (codes "b") ∷ [] } ∷ []
unfolding batch numbered
sequences = refl

count : operations_in (batch ∷ (deletion_of (codes "b") ∷ []) ∷ []) ≡ 4
unfolding batch operations_in
count = refl

-- `put a =1`, `put b =2`, `sync`, `put c =3`: by the bytes of replies told, how many writes are synced, and how many are begun
put_line : List ℕ → Line
put_line key = record { order = Go (command.Put key (codes "1")); wrote = (put_of key (codes "1") ∷ []) ∷ []; told = codes "ok\n" }

sync_line : Line
sync_line = record { order = Go command.Sync; wrote = []; told = codes "ok\n" }

reopen_line : Line
reopen_line = record { order = Go command.Reopen; wrote = []; told = codes "ok\n" }

get_line : Line
get_line = record { order = Go (command.Get (codes "z")); wrote = []; told = codes "none\n" }

comment : Line
comment = record { order = Nothing; wrote = []; told = [] }

four_lines : List Line
four_lines = put_line (codes "a") ∷ put_line (codes "b") ∷ sync_line ∷ put_line (codes "c") ∷ []

synced_in_four : map (λ count. synced count four_lines) (0 ∷ 1 ∷ 2 ∷ 3 ∷ 4 ∷ 5 ∷ 6 ∷ 7 ∷ 8 ∷ 9 ∷ 10 ∷ 11 ∷ 12 ∷ []) ≡ 0 ∷ 0 ∷ 0 ∷ 0 ∷ 0 ∷ 0 ∷ 0 ∷ 0 ∷ 0 ∷ 2 ∷ 2 ∷ 2 ∷ 2 ∷ []
unfolding four_lines put_line sync_line whole_within before_sync
synced_in_four = refl

begun_in_four : map (λ count. begun count four_lines) (0 ∷ 1 ∷ 2 ∷ 3 ∷ 4 ∷ 5 ∷ 6 ∷ 7 ∷ 8 ∷ 9 ∷ 10 ∷ 11 ∷ 12 ∷ []) ≡ 1 ∷ 1 ∷ 1 ∷ 2 ∷ 2 ∷ 2 ∷ 2 ∷ 2 ∷ 2 ∷ 3 ∷ 3 ∷ 3 ∷ 3 ∷ []
unfolding four_lines put_line sync_line begun
begun_in_four = refl

-- a comment tells nothing, and neither it nor `get` stands between: `put a =1`, `#`, `reopen`, `get z`, `put b =1`
other_lines : List Line
other_lines = put_line (codes "a") ∷ comment ∷ reopen_line ∷ get_line ∷ put_line (codes "b") ∷ []

synced_in_others : map (λ count. synced count other_lines) (0 ∷ 3 ∷ 5 ∷ 6 ∷ 10 ∷ 11 ∷ 13 ∷ 14 ∷ []) ≡ 0 ∷ 0 ∷ 0 ∷ 1 ∷ 1 ∷ 1 ∷ 1 ∷ 1 ∷ []
unfolding other_lines put_line reopen_line get_line comment whole_within before_sync
synced_in_others = refl

begun_in_others : map (λ count. begun count other_lines) (0 ∷ 3 ∷ 5 ∷ 6 ∷ 10 ∷ 11 ∷ 13 ∷ 14 ∷ []) ≡ 1 ∷ 1 ∷ 1 ∷ 1 ∷ 1 ∷ 2 ∷ 2 ∷ 2 ∷ []
unfolding other_lines put_line reopen_line get_line comment begun
begun_in_others = refl
