-- Some cuts, computed: of a file whose first four bytes are synced, and four more follow.
use Rattle.std.proofs.Common.{◌≡◌, refl, [], ◌∷◌, false, true, Some, None, length}
use Rattle.bl_site.specs.Disk.{File}
use Rattle.bl_site_mem.specs.Record.{Create, Sync, PutFile, Memory, fresh, fails_next, first_half}
use Rattle.bl_site_mem.specs.Recorded.{with_call}
use Rattle.bl_site_mem.specs.Moments.{left_of, until}

abbrev file : File
file = record { read = 119 ∷ 120 ∷ 121 ∷ 122 ∷ 49 ∷ 50 ∷ 51 ∷ 52 ∷ []; front = 119 ∷ 120 ∷ 121 ∷ 122 ∷ []; handed = 49 ∷ 50 ∷ 51 ∷ 52 ∷ [] }

keeps_none : left_of 0 None file ≡ 119 ∷ 120 ∷ 121 ∷ 122 ∷ []
keeps_none = refl

keeps_one : left_of 1 None file ≡ 119 ∷ 120 ∷ 121 ∷ 122 ∷ 49 ∷ []
keeps_one = refl

keeps_all : left_of 100 None file ≡ file.read
keeps_all = refl

fills_all : left_of 0 (Some 90) file ≡ 119 ∷ 120 ∷ 121 ∷ 122 ∷ 90 ∷ 90 ∷ 90 ∷ 90 ∷ []
fills_all = refl

fills_three : left_of 1 (Some 90) file ≡ 119 ∷ 120 ∷ 121 ∷ 122 ∷ 49 ∷ 90 ∷ 90 ∷ 90 ∷ []
fills_three = refl

fills_none : left_of 100 (Some 90) file ≡ file.read
fills_none = refl

-- five bytes of which a failing call does two
half_of_five : first_half (1 ∷ 2 ∷ 3 ∷ 4 ∷ 5 ∷ []) ≡ 1 ∷ 2 ∷ []
half_of_five = refl

-- the second of three calls fails
abbrev one_call : Memory
one_call = with_call (PutFile (98 ∷ []) []) false (with_call (Create (97 ∷ [])) false (fresh (2 ∷ [])))

first_passes : fails_next (fresh (2 ∷ [])) ≡ false
first_passes = refl

second_fails : fails_next one_call ≡ true
second_fails = refl

third_passes : fails_next (with_call (Sync (97 ∷ [])) true one_call) ≡ false
third_passes = refl

-- a file that was put there after the first call is there once that call is made, and not before
is_there : length (until 1 one_call.entries) ≡ 2
is_there = refl

is_not_there : length (until 0 one_call.entries) ≡ 0
is_not_there = refl
