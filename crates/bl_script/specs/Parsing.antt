-- What a line orders.
use Rattle.std.specs.Prelude.{ℕ, ◌==◌, ◌||◌, nat_lt, Bool, false, List, [], ◌∷◌, length, drop, slice_index, map, codes, nat_eq, Option, None, Some, option_and_then, if◌then◌else◌}
use Rattle.std.specs.List.{list_any}
use Rattle.std.specs.Cmp.Lexicographic.{pointwise}
use Rattle.percent_encoding.specs.Percent.{percent_decode}
use Rattle.bl_code.specs.declared.limits.TheConstants.{MAX_KEY, MAX_VALUE}
use Rattle.bl_script.specs.Lines.{words}
use Rattle.bl_script.specs.declared.command.Operation.{Operation}
use Rattle.bl_script.specs.declared.command.Operation.TheVariants as op
use Rattle.bl_script.specs.declared.command.Command.{Command}
use Rattle.bl_script.specs.declared.command.Command.TheVariants.{Put, Del, Batch, Get, Scan, Sync, Flush, Files, Reopen}
use Rattle.bl_script.specs.declared.command.Refusal.TheVariants as refused
use Rattle.bl_script.specs.declared.command.Parsed.{Parsed}
use Rattle.bl_script.specs.declared.command.Parsed.TheVariants.{Nothing, Refused, Go}

abbrev pub is : List ℕ → List ℕ → Bool
is text word = pointwise nat_eq text word

infixl 10 ◌then◌
abbrev pub ◌then◌ : {A B : Type 0} → Option A → (A → Option B) → Option B
o then f = option_and_then f o

-- what stands behind the = of a value word
abbrev pub value : List ℕ → Option (List ℕ)
value word = if slice_index word 0 == 61 then Some (percent_decode (drop 1 word)) else None

-- operations, one behind the other
unfoldable pub operations : List (List ℕ) → Option (List Operation)
operations [] = Some []
operations (verb ∷ []) = None
operations (verb ∷ key ∷ []) = if is verb (codes "del") then Some (op.Del (percent_decode key) ∷ []) else None
operations (verb ∷ key ∷ third ∷ rest) =
    if is verb (codes "del") then (operations (third ∷ rest) then λ more. Some (op.Del (percent_decode key) ∷ more))
    else if is verb (codes "put") then (value third then λ v. operations rest then λ more. Some (op.Put (percent_decode key) v ∷ more))
    else None

-- behind `batch`: one or more of them
abbrev pub batch_of : List (List ℕ) → Option Command
batch_of [] = None
batch_of (word ∷ more) = operations (word ∷ more) then λ os. Some (Batch os)

-- behind `scan`: a bound is a key; a word that begins with @ is none
abbrev pub bound : List ℕ → Option (List ℕ)
bound word = if slice_index word 0 == 64 then None else Some (percent_decode word)

-- behind `scan`: at most a FROM key and a TO key
abbrev pub scan_of : List (List ℕ) → Option Command
scan_of [] = Some (Scan None None)
scan_of (a ∷ []) = bound a then λ from. Some (Scan (Some from) None)
scan_of (a ∷ b ∷ []) = bound a then λ from. bound b then λ to. Some (Scan (Some from) (Some to))
scan_of (a ∷ b ∷ c ∷ more) = None

abbrev pub with_none : List ℕ → Option Command
with_none verb =
    if is verb (codes "sync") then Some Sync
    else if is verb (codes "flush") then Some Flush
    else if is verb (codes "files") then Some Files
    else if is verb (codes "reopen") then Some Reopen
    else None

abbrev pub with_one : List ℕ → List ℕ → Option Command
with_one verb a =
    if is verb (codes "del") then Some (Del (percent_decode a))
    else if is verb (codes "get") then Some (Get (percent_decode a))
    else None

abbrev pub with_two : List ℕ → List ℕ → List ℕ → Option Command
with_two verb a b = if is verb (codes "put") then (value b then λ v. Some (Put (percent_decode a) v)) else None

-- the commands of which the number of words is fixed
abbrev pub fixed_of : List ℕ → List (List ℕ) → Option Command
fixed_of verb [] = with_none verb
fixed_of verb (a ∷ []) = with_one verb a
fixed_of verb (a ∷ b ∷ []) = with_two verb a b
fixed_of verb (a ∷ b ∷ c ∷ more) = None

-- the row of the command table that fits, by the verb and the words behind it
abbrev pub command_of : List ℕ → List (List ℕ) → Option Command
command_of verb rest =
    if is verb (codes "scan") then scan_of rest
    else if is verb (codes "batch") then batch_of rest
    else fixed_of verb rest

-- the limits
abbrev pub is_long_key : List ℕ → Bool
is_long_key key = nat_lt MAX_KEY (length key)

abbrev pub is_long_value : List ℕ → Bool
is_long_value value = nat_lt MAX_VALUE (length value)

abbrev pub puts_long_key : Operation → Bool
puts_long_key (op.Put key value) = is_long_key key
puts_long_key (op.Del key) = is_long_key key

abbrev pub puts_long_value : Operation → Bool
puts_long_value (op.Put key value) = is_long_value value
puts_long_value (op.Del key) = false

abbrev pub is_long_bound : Option (List ℕ) → Bool
is_long_bound None = false
is_long_bound (Some key) = is_long_key key

-- some key of the command is too long, and some value
abbrev pub has_long_key : Command → Bool
has_long_key (Put key value) = is_long_key key
has_long_key (Del key) = is_long_key key
has_long_key (Batch os) = list_any puts_long_key os
has_long_key (Get key) = is_long_key key
has_long_key (Scan from to) = is_long_bound from || is_long_bound to
has_long_key Sync = false
has_long_key Flush = false
has_long_key Files = false
has_long_key Reopen = false

abbrev pub has_long_value : Command → Bool
has_long_value (Put key value) = is_long_value value
has_long_value (Del key) = false
has_long_value (Batch os) = list_any puts_long_value os
has_long_value (Get key) = false
has_long_value (Scan from to) = false
has_long_value Sync = false
has_long_value Flush = false
has_long_value Files = false
has_long_value Reopen = false

-- the limit on keys, and then that on values
abbrev pub allowed : Command → Parsed
allowed c = if has_long_key c then Refused refused.Key else if has_long_value c then Refused refused.Value else Go c

abbrev pub or_syntax : Option Command → Parsed
or_syntax None = Refused refused.Syntax
or_syntax (Some c) = allowed c

-- a line without words, and one whose first byte is #, order nothing
abbrev pub ordered : List ℕ → List (List ℕ) → Parsed
ordered line [] = Nothing
ordered line (verb ∷ rest) = if slice_index line 0 == 35 then Nothing else or_syntax (command_of verb rest)

-- what a line orders, or the first refusal: long, syntax, key, value
unfoldable pub parsed : List ℕ → Parsed
parsed line = if nat_lt 67108864 (length line) then Refused refused.Long else ordered line (words line)

-- what lines order
abbrev pub parsed_all : List (List ℕ) → List Parsed
parsed_all lines = map parsed lines
