-- Worked rows of histories: by the bytes of replies told, how many writes are synced, and how many have begun.
use Rattle.std.proofs.Common.{◌≡◌, ℕ, List, [], ◌∷◌, codes, map, refl}
use Rattle.bl_entry.specs.Batches.{put_of}
use Rattle.bl_script.specs.declared.command.Command.TheVariants as command
use Rattle.bl_script.specs.declared.command.Parsed.TheVariants.{Nothing, Refused, Go}
use Rattle.bl_script.specs.declared.command.Refusal.TheVariants.{Syntax}
use Rattle.bl_machine.specs.Step.{Line}
use Rattle.bl_machine.specs.Synced.{whole_within, before_sync, synced, begun}

put_line : List ℕ → Line
put_line key = record { order = Go (command.Put key (codes "1")); wrote = (put_of key (codes "1") ∷ []) ∷ []; told = codes "ok\n" }

sync_line : Line
sync_line = record { order = Go command.Sync; wrote = []; told = codes "ok\n" }

flush_line : Line
flush_line = record { order = Go command.Flush; wrote = []; told = codes "ok\n" }

files_line : Line
files_line = record { order = Go command.Files; wrote = []; told = codes "end\n" }

reopen_line : Line
reopen_line = record { order = Go command.Reopen; wrote = []; told = codes "ok\n" }

get_line : Line
get_line = record { order = Go (command.Get (codes "z")); wrote = []; told = codes "none\n" }

comment : Line
comment = record { order = Nothing; wrote = []; told = [] }

refused : Line
refused = record { order = Refused Syntax; wrote = []; told = codes "refused syntax\n" }

-- `put a =1`, `put b =1`, `sync`, `put c =1`
four_lines : List Line
four_lines = put_line (codes "a") ∷ put_line (codes "b") ∷ sync_line ∷ put_line (codes "c") ∷ []

synced_in_four : map (λ count. synced count four_lines) (0 ∷ 1 ∷ 2 ∷ 3 ∷ 4 ∷ 5 ∷ 6 ∷ 7 ∷ 8 ∷ 9 ∷ 10 ∷ 11 ∷ 12 ∷ []) ≡ 0 ∷ 0 ∷ 0 ∷ 0 ∷ 0 ∷ 0 ∷ 0 ∷ 0 ∷ 0 ∷ 2 ∷ 2 ∷ 2 ∷ 2 ∷ []
unfolding four_lines put_line sync_line whole_within before_sync
synced_in_four = refl

begun_in_four : map (λ count. begun count four_lines) (0 ∷ 1 ∷ 2 ∷ 3 ∷ 4 ∷ 5 ∷ 6 ∷ 7 ∷ 8 ∷ 9 ∷ 10 ∷ 11 ∷ 12 ∷ []) ≡ 1 ∷ 1 ∷ 1 ∷ 2 ∷ 2 ∷ 2 ∷ 2 ∷ 2 ∷ 2 ∷ 3 ∷ 3 ∷ 3 ∷ 3 ∷ []
unfolding four_lines put_line sync_line begun
begun_in_four = refl

-- a comment tells nothing, and neither it nor `get` stands between: `put a =1`, `#`, `reopen`, `get z`, `put b =1`
other_lines : List Line
other_lines = put_line (codes "a") ∷ comment ∷ reopen_line ∷ get_line ∷ put_line (codes "b") ∷ []

synced_in_others : map (λ count. synced count other_lines) (0 ∷ 3 ∷ 5 ∷ 6 ∷ 10 ∷ 11 ∷ 13 ∷ 14 ∷ []) ≡ 0 ∷ 0 ∷ 0 ∷ 1 ∷ 1 ∷ 1 ∷ 1 ∷ 1 ∷ []
unfolding other_lines put_line reopen_line get_line comment whole_within before_sync
synced_in_others = refl

begun_in_others : map (λ count. begun count other_lines) (0 ∷ 3 ∷ 5 ∷ 6 ∷ 10 ∷ 11 ∷ 13 ∷ 14 ∷ []) ≡ 1 ∷ 1 ∷ 1 ∷ 1 ∷ 1 ∷ 2 ∷ 2 ∷ 2 ∷ []
unfolding other_lines put_line reopen_line get_line comment begun
begun_in_others = refl

-- a flush syncs, and neither `files` nor a refused line does: `put a =1`, `flush`, `put b =1`, `files`, a line that is no command
flush_lines : List Line
flush_lines = put_line (codes "a") ∷ flush_line ∷ put_line (codes "b") ∷ files_line ∷ refused ∷ []

synced_in_flush : map (λ count. synced count flush_lines) (0 ∷ 3 ∷ 5 ∷ 6 ∷ 9 ∷ 13 ∷ 28 ∷ []) ≡ 0 ∷ 0 ∷ 0 ∷ 1 ∷ 1 ∷ 1 ∷ 1 ∷ []
unfolding flush_lines put_line flush_line files_line refused whole_within before_sync
synced_in_flush = refl

begun_in_flush : map (λ count. begun count flush_lines) (0 ∷ 2 ∷ 3 ∷ 5 ∷ 6 ∷ 9 ∷ 28 ∷ []) ≡ 1 ∷ 1 ∷ 1 ∷ 1 ∷ 2 ∷ 2 ∷ 2 ∷ []
unfolding flush_lines put_line flush_line files_line refused begun
begun_in_flush = refl
