-- What is due.
use Rattle.std.specs.Prelude.{ℕ, ◌+◌, ◌-◌, ◌*◌, ◌/◌, ◌^◌, ◌==◌, ◌&&◌, not, max, nat_lt, nat_le, Bool, false, List, [], ◌∷◌, ◌++◌, map, filter, length, sum_by, Option, None, Some, slice_get, if◌then◌else◌}
use Rattle.std.specs.List.{list_any, take_while}
use Rattle.bl_code.specs.Order.{bytes_le}
use Rattle.bl_edit.specs.Options.{Values}
use Rattle.bl_edit.specs.declared.edit.NewTable.{NewTable}
use Rattle.bl_build.specs.declared.meta.BlobMeta.{BlobMeta}
use Rattle.bl_build.specs.declared.plan.CompactionPlan.{CompactionPlan}
use Rattle.bl_build.specs.Listing.{Listing, at_level}
use Rattle.bl_build.specs.Versions.{first_user, last_user}
use Rattle.bl_pick.specs.declared.kinds.Due.{Due}
use Rattle.bl_pick.specs.declared.kinds.Due.TheVariants.{Idle, Flush, Level, Collect}

-- above the number of every file
abbrev pub no_file : ℕ
no_file = 2 ^ 64 - 1

-- the range from the least to the greatest user key of some tables meets that of another
abbrev pub hull_overlaps : List NewTable → NewTable → Bool
hull_overlaps ts u = list_any (λ t. bytes_le (first_user t) (last_user u)) ts && list_any (λ t. bytes_le (first_user u) (last_user t)) ts

-- a number in its place, in front of those that are not below it
abbrev pub with_number : ℕ → List ℕ → List ℕ
with_number n [] = n ∷ []
with_number n (m ∷ ms) = if nat_lt m n then m ∷ with_number n ms else n ∷ m ∷ ms

-- numbers in ascending order
abbrev pub ascending : List ℕ → List ℕ
ascending [] = []
ascending (n ∷ ns) = with_number n (ascending ns)

abbrev pub numbers_of : List NewTable → List ℕ
numbers_of ts = ascending (map (λ t. t.number) ts)

abbrev pub bytes_of : List NewTable → ℕ
bytes_of ts = sum_by (λ t. t.size) ts

-- how many bytes a level may have, from level 1 on
abbrev pub limit : Values → ℕ → ℕ
limit o level = o.level_base * o.level_factor ^ (level - 1)

-- in whole per cent
abbrev pub score : Listing → Values → ℕ → ℕ
score v o level = if level == 0 then 100 * length (at_level 0 v.tables) / o.level0_trigger else 100 * bytes_of (at_level level v.tables) / limit o level

-- of two levels the one of the higher score, and of two with one score the first
abbrev pub fuller : Listing → Values → ℕ → ℕ → ℕ
fuller v o a b = if nat_lt (score v o a) (score v o b) then b else a

-- the level of the highest score, of the levels 0 to 5; of several with one score the one of the lowest number
abbrev pub fullest : Listing → Values → ℕ
fullest v o = fuller v o (fuller v o (fuller v o (fuller v o (fuller v o 0 1) 2) 3) 4) 5

-- how many files stand in so many per cent of them
abbrev pub aged : List BlobMeta → ℕ → ℕ
aged blobs percent = percent * length blobs / 100

abbrev pub number_of : Option BlobMeta → ℕ
number_of None = no_file
number_of (Some b) = b.number

-- values in files numbered below it are relocated
abbrev pub cutoff : List BlobMeta → ℕ → ℕ
cutoff blobs percent = number_of (slice_get blobs (aged blobs percent))

-- no deeper level has a table that overlaps the hull of the inputs
abbrev pub is_bottom : Listing → List NewTable → ℕ → Bool
is_bottom v inputs out_level = not (list_any (λ u. nat_lt out_level u.level && hull_overlaps inputs u) v.tables)

-- the plan that takes these tables in
abbrev pub plan_of : Listing → List ℕ → ℕ → List NewTable → ℕ → ℕ → CompactionPlan
plan_of v snapshots below inputs in_level out_level = record {
  inputs = numbers_of inputs;
  in_level = in_level;
  out_level = out_level;
  cutoff = below;
  snapshots = snapshots;
  bottom = is_bottom v inputs out_level;
}

abbrev pub first_of : List NewTable → List NewTable
first_of [] = []
first_of (t ∷ ts) = t ∷ []

-- what goes down from a level: of level 0 all tables, and of a deeper one the table of least number
abbrev pub sinking : Listing → ℕ → List NewTable
sinking v level = if level == 0 then at_level 0 v.tables else first_of (at_level level v.tables)

-- these, and the tables of the next level that overlap their hull
abbrev pub with_next : Listing → ℕ → List NewTable → List NewTable
with_next v level down = down ++ filter (hull_overlaps down) (at_level (level + 1) v.tables)

abbrev pub level_plan : Listing → List ℕ → ℕ → ℕ → CompactionPlan
level_plan v snapshots below level = plan_of v snapshots below (with_next v level (sinking v level)) level (level + 1)

-- the least numbered blob file, and the unlinked ones that directly follow it
abbrev pub oldest_batch : List BlobMeta → List BlobMeta
oldest_batch [] = []
oldest_batch (b ∷ bs) = b ∷ take_while (λ c. c.linked == 0) bs

-- the batch is among the oldest files by the age cutoff, enough of its bytes are garbage, and a table is linked to its first file
abbrev pub is_forced : Listing → Values → List BlobMeta → Bool
is_forced v o [] = false
is_forced v o (b ∷ bs) =
    nat_le (length (b ∷ bs)) (aged v.blobs o.age_cutoff)
    && nat_le (o.force_threshold * sum_by (λ c. c.total.bytes) (b ∷ bs)) (100 * sum_by (λ c. c.garbage.bytes) (b ∷ bs))
    && nat_lt 0 b.linked

-- the tables that are linked to a file, of the least level first, and in a level of the least number first
abbrev pub linked_to : Listing → ℕ → List NewTable
linked_to v file = filter (λ t. t.oldest_blob == file) v.tables

-- the plan that rewrites the first of these: with all of level 0 where it lies there, and else alone and in its level
abbrev pub rewrite_plan : Listing → List ℕ → ℕ → List NewTable → Due
rewrite_plan v snapshots below [] = Idle
rewrite_plan v snapshots below (t ∷ ts) =
    if t.level == 0 then Collect (level_plan v snapshots below 0) else Collect (plan_of v snapshots below (t ∷ []) t.level t.level)

abbrev pub collection : Listing → Values → List ℕ → Due
collection v o snapshots =
    if is_forced v o (oldest_batch v.blobs) then rewrite_plan v snapshots (cutoff v.blobs o.age_cutoff) (linked_to v (number_of (slice_get v.blobs 0))) else Idle

-- in this order: a waiting memory, a level that is full, a forced collection
unfoldable pub due : Listing → Values → Bool → List ℕ → Due
due v o waiting snapshots =
    if waiting then Flush
    else if nat_le 100 (score v o (fullest v o)) then Level (level_plan v snapshots (cutoff v.blobs o.age_cutoff) (fullest v o))
    else collection v o snapshots

-- the deepest level in use, at least 1
abbrev pub deepest : List NewTable → ℕ
deepest [] = 1
deepest (t ∷ ts) = max t.level (deepest ts)

-- all tables into the deepest level in use, with every value relocated
abbrev pub full_plan_of : Listing → List ℕ → List NewTable → Option CompactionPlan
full_plan_of v snapshots [] = None
full_plan_of v snapshots (t ∷ ts) = Some (plan_of v snapshots no_file (t ∷ ts) t.level (deepest (t ∷ ts)))

unfoldable pub full_plan : Listing → List ℕ → Option CompactionPlan
full_plan v snapshots = full_plan_of v snapshots v.tables
