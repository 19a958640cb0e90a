-- What the references of a job leave unreferenced in blob files.
use Rattle.std.specs.Prelude.{◌≡◌, ℕ, ◌+◌, ◌-◌, ◌*◌, ◌<◌, ◌≤◌, ◌==◌, List, [], ◌∷◌, length, sum, Option, IfSome, MatchOption, if◌then◌else◌}
use Rattle.std.specs.Map.{lookup}
use Rattle.std.specs.BTreeMap.{is_at}
use Rattle.std.specs.Ordering.{nat_cmp}
use Rattle.bl_index.specs.declared.account.Account.{Account}
use Rattle.bl_index.specs.declared.index.BlobIndex.{BlobIndex}
use Rattle.bl_index.specs.declared.error.IndexErr.{IndexErr}
use Rattle.bl_index.specs.declared.error.IndexErr.TheVariants.{Overflow, OutOfMemory}

-- a reference of so many bytes into a file goes into the job, or comes out of it
pub data Flow : Type 0 where
  In : (file bytes : ℕ) → Flow
  Out : (file bytes : ℕ) → Flow

-- the bytes of the references into the file that went in, and of those that came out
abbrev pub ins : ℕ → List Flow → List ℕ
ins file [] = []
ins file (In f bytes ∷ flows) = if f == file then bytes ∷ ins file flows else ins file flows
ins file (Out f bytes ∷ flows) = ins file flows

abbrev pub outs : ℕ → List Flow → List ℕ
outs file [] = []
outs file (In f bytes ∷ flows) = outs file flows
outs file (Out f bytes ∷ flows) = if f == file then bytes ∷ outs file flows else outs file flows

-- the flows from the first on that went into the file
abbrev pub since_first_in : ℕ → List Flow → List Flow
since_first_in file [] = []
since_first_in file (In f bytes ∷ flows) = if f == file then In f bytes ∷ flows else since_first_in file flows
since_first_in file (Out f bytes ∷ flows) = since_first_in file flows

-- how many references came in and not out, and their bytes
abbrev pub garbage : List Flow → ℕ → ℕ × ℕ
garbage flows file =
    let live = since_first_in file flows in
    (length (ins file live) - length (outs file live), sum (ins file live) - sum (outs file live))

-- a reference's count is 1, and its bytes are those of its record: head, key and value
abbrev pub reference_bytes : ℕ → BlobIndex → ℕ
reference_bytes key_length index = 32 + key_length + index.size

-- ---- what a meter keeps

abbrev pub Accounts : Type 0
Accounts = List (ℕ × Account)

abbrev pub account_at : Accounts → ℕ → Option Account
account_at accounts file = lookup (is_at (nat_cmp file)) accounts

-- an account of a file that some flow named, by the flows from that one on
pub record IsAccountOf (file : ℕ) (live : List Flow) (a : Account) : Type 0 where
  pub named : 1 ≤ length (ins file live)
  pub in_count : a.ins.count ≡ length (ins file live)
  pub in_bytes : a.ins.bytes ≡ sum (ins file live)
  pub out_count : a.outs.count ≡ length (outs file live)
  pub out_bytes : a.outs.bytes ≡ sum (outs file live)

-- the meter stands for these flows, in their order
abbrev pub Meters : List Flow → Accounts → Type 0
Meters flows accounts =
    (file : ℕ) → MatchOption (account_at accounts file) (since_first_in file flows ≡ []) (IsAccountOf file (since_first_in file flows))

-- no more came out than went in, and each reference that went in has at least the bytes of a head
pub record IsFair (a : Account) : Type 0 where
  pub heads : 32 * a.ins.count ≤ a.ins.bytes
  pub count : a.outs.count ≤ a.ins.count
  pub bytes : a.outs.bytes ≤ a.ins.bytes

abbrev pub AreFair : Accounts → Type 0
AreFair accounts = (file : ℕ) → IfSome (account_at accounts file) IsFair

-- one more reference of so many bytes may come out of the file
abbrev pub HasRoom : Accounts → ℕ → ℕ → Type 0
HasRoom accounts file bytes = IfSome (account_at accounts file) (λ a. (a.outs.count < a.ins.count) × (a.outs.bytes + bytes ≤ a.ins.bytes))

-- the same by the flows: no more comes out of the file than went in
abbrev pub MayComeOut : List Flow → ℕ → ℕ → Type 0
MayComeOut flows file bytes =
    let live = since_first_in file flows in
    1 ≤ length live → (length (outs file live) < length (ins file live)) × (sum (outs file live) + bytes ≤ sum (ins file live))

-- what an in-flow of the file may answer in place of Ok
abbrev pub IsRefusal : ℕ → IndexErr → Type 0
IsRefusal file (Overflow f) = f ≡ file
IsRefusal file OutOfMemory = Unit {0}
