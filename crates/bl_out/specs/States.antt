-- What an output keeps in memory, and of which outputs it may be the memory: the entries and records that it wrote it forgets.
use Rattle.std.specs.Prelude.{◌≡◌, ◌⊎◌, ℕ, ◌+◌, ◌^◌, ◌<◌, ◌≤◌, ◌-◌, drop, Bool, true, false, List, [], ◌∷◌, ◌++◌, length, map, flat_map, Option, None, Some, IfSome, IsSome, min, max, Contains}
use Rattle.std.specs.List.{AllByRecursion, fold, range_with_len}
use Rattle.bl_site.specs.Disk.{Disk, Name}
use Rattle.bl_site.specs.Causes.{Rose}
use Rattle.bl_site.specs.declared.site.Site.{Ghosts}
use Rattle.bl_names.specs.declared.name.FileName.TheVariants.{Table, Blob}
use Rattle.bl_names.specs.Names.{IsNumber, name_of}
use Rattle.bl_blob.specs.declared.blob.Totals.{Totals}
use Rattle.bl_blob.specs.BlobFile.{totals_of}
use Rattle.bl_edit.specs.Options.{Values}
use Rattle.bl_edit.specs.declared.edit.BlobAddition.{BlobAddition}
use Rattle.bl_edit.specs.declared.edit.NewTable.{NewTable}
use Rattle.bl_table.specs.Building.{Building, HasAdded}
use Rattle.bl_entry.specs.Keys.{key_bytes}
use Rattle.bl_entry.specs.declared.key.Entry.{Entry}
use Rattle.bl_out.specs.References.{references}
use Rattle.bl_out.specs.Tables.{least_of}
use Rattle.bl_out.specs.Held.{HoldsOut}
use Rattle.bl_out.specs.declared.error.JobErr.{JobErr}
use Rattle.bl_out.specs.declared.error.JobErr.TheVariants.{Full, OutOfMemory}
use Rattle.bl_out.specs.Outputs.{NamesTable, Out, OutBlob, OutTable, addition_of, items_of, open_bytes}

-- the bytes of the least and of the greatest key, and the least and the greatest sequence
pub record Ends : Type 0 where
  pub smallest : List ℕ
  pub largest : List ℕ
  pub least : ℕ
  pub most : ℕ

-- A table in hand: its number, its writer, how many bytes were given of it, the ends of its entries, and the least blob file that they name.
pub record Hand : Type 0 where
  pub number : ℕ
  pub builder : Building
  pub written : ℕ
  pub ends : Option Ends
  pub oldest : Option ℕ

-- the blob file in hand: its number, and its totals
pub record BlobHand : Type 0 where
  pub number : ℕ
  pub totals : Totals

-- An output in memory: the closed tables and the one in hand, the closed blob files and the one in hand, the numbers of all files in the order in which they were drawn,
-- how many files are sealed, and whether a call was refused after it asked the folder or for want of numbers.
pub record State : Type 0 where
  pub options : Values
  pub one_table : Bool
  pub tables : List NewTable
  pub table : Option Hand
  pub blobs : List BlobAddition
  pub blob : Option BlobHand
  pub drawn : List ℕ
  pub sealed : ℕ
  pub failed : Bool

-- ---- what is kept of entries

abbrev pub ends_at : Entry → Ends
ends_at e = record { smallest = key_bytes e.key; largest = key_bytes e.key; least = e.key.seq; most = e.key.seq }

-- with an entry more, behind all others
abbrev pub widened : Ends → Entry → Ends
widened x e = record { smallest = x.smallest; largest = key_bytes e.key; least = min x.least e.key.seq; most = max x.most e.key.seq }

abbrev pub ends_of : List Entry → Option Ends
ends_of [] = None
ends_of (e ∷ es) = Some (fold widened (ends_at e) es)

-- the least blob file that these entries name
abbrev pub oldest_in : List Entry → Option ℕ
oldest_in es = least_of (map (λ r. r.index.file) (references es))

-- the table in hand has these entries
pub record Spans (es : List Entry) (h : Hand) : Type 0 where
  pub added : HasAdded (items_of es) (open_bytes es) h.builder
  pub written : h.written ≡ length (open_bytes es)
  pub ends : h.ends ≡ ends_of es
  pub oldest : h.oldest ≡ oldest_in es

-- ---- of which outputs it is the memory

-- the table is the one in hand
pub record IsHandOf (t : OutTable) (h : Hand) : Type 0 where
  pub number : t.number ≡ h.number
  pub closed : t.closed ≡ false
  pub spans : Spans t.entries h

-- the table is closed; where it has some entry, it is named so
pub record IsClosedAs (t : OutTable) (named : NewTable) : Type 0 where
  pub closed : t.closed ≡ true
  pub number : t.number ≡ named.number
  pub names : 1 ≤ length t.entries → NamesTable t named

-- all tables are closed but the one in hand, which is the last
abbrev pub AreTables : List OutTable → List NewTable → Option Hand → Type 0
AreTables [] [] None = Unit {0}
AreTables [] [] (Some h) = ⊥
AreTables [] (n ∷ ns) h = ⊥
AreTables (t ∷ ts) [] None = ⊥
AreTables (t ∷ ts) [] (Some h) = IsHandOf t h × (ts ≡ [])
AreTables (t ∷ ts) (n ∷ ns) h = IsClosedAs t n × AreTables ts ns h

pub record IsBlobHandOf (b : OutBlob) (h : BlobHand) : Type 0 where
  pub number : b.number ≡ h.number
  pub closed : b.closed ≡ false
  pub totals : totals_of b.records ≡ h.totals

pub record IsBlobClosedAs (b : OutBlob) (named : BlobAddition) : Type 0 where
  pub closed : b.closed ≡ true
  pub names : named ≡ addition_of b

-- all blob files are closed but the one in hand, which is the last
abbrev pub AreBlobs : List OutBlob → List BlobAddition → Option BlobHand → Type 0
AreBlobs [] [] None = Unit {0}
AreBlobs [] [] (Some h) = ⊥
AreBlobs [] (n ∷ ns) h = ⊥
AreBlobs (b ∷ bs) [] None = ⊥
AreBlobs (b ∷ bs) [] (Some h) = IsBlobHandOf b h × (bs ≡ [])
AreBlobs (b ∷ bs) (n ∷ ns) h = IsBlobClosedAs b n × AreBlobs bs ns h

-- the memory is one of this output
pub record IsOut (o : Out) (s : State) : Type 0 where
  pub options : o.options ≡ s.options
  pub one : o.one_table ≡ s.one_table
  pub tables : AreTables o.tables s.tables s.table
  pub blobs : AreBlobs o.blobs s.blobs s.blob
  pub drawn : o.drawn ≡ s.drawn
  pub sealed : o.sealed ≡ s.sealed

-- ---- what a call does

-- each number is below those behind it, and all are below the next one
abbrev pub AscendTo : ℕ → List ℕ → Type 0
AscendTo next [] = Unit {0}
AscendTo next (n ∷ ns) = (n < next) × AllByRecursion (λ m. n < m) ns × AscendTo next ns

-- the tables ascend by their numbers, and so do the blob files; the next number is above all of them
pub record IsOrdered (next : ℕ) (o : Out) : Type 0 where
  pub tables : AscendTo next (map (λ t. t.number) o.tables)
  pub blobs : AscendTo next (map (λ b. b.number) o.blobs)

-- the files that are not sealed yet are there
abbrev pub AreThere : Disk → State → Type 0
AreThere disk s =
    IfSome s.table (λ h. IsSome (disk (name_of (Table h.number))))
    × IfSome s.blob (λ b. IsSome (disk (name_of (Blob b.number))))
    × AllByRecursion (λ t. IsSome (disk (name_of (Table t.number)))) (drop s.sealed s.tables)
    × AllByRecursion (λ b. IsSome (disk (name_of (Blob b.number)))) (drop (s.sealed - length s.tables) s.blobs)

-- It is a memory of each output so changed whose memory it was; where the files held what was written of such an output in order, they hold what is written of it now; the files not sealed yet are in the folder if they were, and no name call is in doubt if none was.
pub record Becomes {S : Type 0} (g : Ghosts S) (next : ℕ) (change : Out → Out) (old new : State) (site_old site_new : S) : Type 0 where
  pub out : (o : Out) → IsOut o old → IsOut (change o) new
  pub holds : g.shows → (o : Out) → IsOut o old → IsOrdered next o → HoldsOut (g.disk site_old) o → HoldsOut (g.disk site_new) (change o)
  pub there : g.shows → AreThere (g.disk site_old) old → AreThere (g.disk site_new) new
  pub certain : g.shows → g.certain site_old → g.certain site_new

-- Of so many numbers some first ones are drawn, upwards from the next one: they follow in the list, and the next number is behind them.
pub record Draws (files : ℕ) (old new : State) (next_old next_new : ℕ) : Type 0 where
  pub made : ℕ
  pub within : made ≤ files
  pub drawn : new.drawn ≡ old.drawn ++ range_with_len next_old made
  pub next : next_new ≡ next_old + made

-- all is as it was
pub record Stays {S : Type 0} (old new : State) (next_old next_new : ℕ) (site_old site_new : S) : Type 0 where
  pub same : new ≡ old
  pub next : next_new ≡ next_old
  pub site : site_new ≡ site_old

-- After a refusal it has failed, once the folder was asked or no number was left; else memory ran out, and all is as it was.
pub record Refuses {S : Type 0} (g : Ghosts S) (e : JobErr) (old new : State) (next_old next_new : ℕ) (site_old site_new : S) : Type 0 where
  pub asked : new.failed ≡ true → Rose (g.changes site_old) (g.changes site_new) ⊎ (e ≡ Full (10 ^ 15))
  pub stays : new.failed ≡ false → (e ≡ OutOfMemory) × Stays old new next_old next_new site_old site_new

-- each table has some entry
abbrev pub AreFilled : Out → Type 0
AreFilled o = AllByRecursion (λ t. 1 ≤ length t.entries) o.tables

-- the names that files of these numbers may have: each is a table or a blob file
abbrev pub names_of : List ℕ → List Name
names_of numbers = flat_map (λ n. name_of (Table n) ∷ name_of (Blob n) ∷ []) numbers

-- the numbers drawn are numbers of files, and those of the files in hand and of the closed ones are among them
pub record AreDrawn (s : State) : Type 0 where
  pub numbers : AllByRecursion IsNumber s.drawn
  pub table : IfSome s.table (λ h. Contains s.drawn h.number)
  pub blob : IfSome s.blob (λ b. Contains s.drawn b.number)
  pub tables : AllByRecursion (λ t. Contains s.drawn t.number) s.tables
  pub blobs : AllByRecursion (λ b. Contains s.drawn b.number) s.blobs
