-- What no run may leave: each is a worked cut that the clauses on cuts refuse.
use Rattle.std.specs.Prelude.{◌≡◌, ℕ, Bool, IsTrue, List, [], ◌∷◌, ◌++◌, codes, None}
use Rattle.bl_site.specs.Disk.{Name, Folder, Disk, Cut}
use Rattle.bl_script.specs.declared.command.Command.TheVariants.{Put, Sync}
use Rattle.bl_script.specs.declared.command.Parsed.TheVariants.{Go}
use Rattle.bl_script.specs.Printing.{ok_line}
use Rattle.bl_shell.specs.Cuts.{CutBefore, CutOfRun}

-- `may_be` tells which disks a cut before the run might have found.

-- On an empty folder `put a =1` and `sync` were ordered, and both replies told: no run allows a cut that leaves no file.
abbrev pub ToldSyncsAreKept : Type 0
ToldSyncsAreKept = (may_be : Disk → Bool) (c : Cut) → c.told ≡ ok_line ++ ok_line → ((name : Name) → c.folder name ≡ None)
    → CutOfRun (λ disk. IsTrue (may_be disk)) (λ _. None) (Go (Put (codes "a") (codes "1")) ∷ Go Sync ∷ []) [] c → ⊥

-- A cut that has told the reply `ok`, and anything behind it, is none before the barrier.
abbrev pub NoReplyIsBeforeTheBarrier : Type 0
NoReplyIsBeforeTheBarrier = (may_be : Disk → Bool) (folder : Folder) (told more : List ℕ) (c : Cut) → c.told ≡ told ++ (ok_line ++ more)
    → CutBefore (λ disk. IsTrue (may_be disk)) folder told c → ⊥
