-- What a line orders is within the limits.
use Rattle.std.proofs.Common.{◌≡◌, ℕ, ◌+◌, ◌≤◌, Bool, true, false, cond, List, [], ◌∷◌, ◌++◌, length, codes, Option, None, Some, refl, arith, length-append}
use Rattle.std.specs.Prelude.{◌==◌, ◌||◌, nat_lt, IfSome, option_and_then, slice_index}
use Rattle.std.specs.List.{AllByRecursion, list_any}
use Rattle.std.proofs.lemmas.Bool.{ltb-false}
use Rattle.percent_encoding.specs.Percent.{percent_decode, is_escape}
use Rattle.bl_script.specs.Lines.{word_of, words_in, words}
use Rattle.bl_script.specs.Parsing.{is, value, bound, operations, batch_of, scan_of, fixed_of, command_of, is_long_key, is_long_value, puts_long_key, puts_long_value, has_long_key, has_long_value, allowed, or_syntax, ordered, parsed}
use Rattle.bl_script.specs.Limits.{IsKey, IsValue, IsOperation, IsCommand, IsWithinLimits, ParsedAreWithinLimits}
use Rattle.bl_script.specs.declared.command.Operation.{Operation}
use Rattle.bl_script.specs.declared.command.Operation.TheVariants as op
use Rattle.bl_script.specs.declared.command.Command.{Command}
use Rattle.bl_script.specs.declared.command.Refusal.TheVariants as refused
use Rattle.bl_script.specs.declared.command.Parsed.{Parsed}
use Rattle.bl_script.specs.declared.command.Parsed.TheVariants.{Nothing, Refused, Go}
use Rattle.bl_script.specs.declared.command.Command.TheVariants.{Put, Del, Batch, Get, Scan, Sync, Flush, Files, Reopen}

-- no word is empty
abbrev AreSome : List (List ℕ) → Type 0
AreSome ws = AllByRecursion (λ w. 1 ≤ length w) ws

head_some : (t : Bool) (a b : ℕ) (xs ys : List ℕ) → 1 ≤ length (cond t (a ∷ xs) (b ∷ ys))
head_some true a b xs ys = omega arith
head_some false a b xs ys = omega arith

decodes_some : (word : List ℕ) → 1 ≤ length word → 1 ≤ length (percent_decode word)
unfolding percent_decode
decodes_some [] some = absurd (omega (arith, some))
decodes_some (b ∷ []) some = omega arith
decodes_some (b ∷ c ∷ []) some = omega arith
decodes_some (b ∷ high ∷ low ∷ rest) some = head_some (is_escape b high low) _ b (percent_decode rest) (percent_decode (high ∷ low ∷ rest))

all_append : (P : List ℕ → Type 0) (xs ys : List (List ℕ)) → AllByRecursion P xs → AllByRecursion P ys → AllByRecursion P (xs ++ ys)
all_append P [] ys h k = k
all_append P (x ∷ xs) ys h k = (h.0, all_append P xs ys h.1 k)

word_some : (front : List ℕ) → AreSome (word_of front) × (length (word_of front) ≤ length front)
word_some [] = (tt, omega arith)
word_some (b ∷ bs) = ((omega arith, tt), omega arith)

words_step : (t : Bool) (front : List ℕ) (b : ℕ) (bs : List ℕ)
    → AreSome (words_in [] bs) × (length (words_in [] bs) ≤ length bs)
    → AreSome (words_in (front ++ b ∷ []) bs) × (length (words_in (front ++ b ∷ []) bs) ≤ length (front ++ b ∷ []) + length bs)
    → AreSome (cond t (word_of front) [] ++ words_in (cond t [] (front ++ b ∷ [])) bs)
    × (length (cond t (word_of front) [] ++ words_in (cond t [] (front ++ b ∷ [])) bs) ≤ length front + length (b ∷ bs))
words_step true front b bs r other =
    let w = word_some front in
    (all_append (λ x. 1 ≤ length x) (word_of front) (words_in [] bs) w.0 r.0, omega (arith, w.1, r.1, length-append (word_of front) (words_in [] bs)))
words_step false front b bs other r = (r.0, omega (arith, r.1, length-append front (b ∷ [])))

words_some : (front line : List ℕ) → AreSome (words_in front line) × (length (words_in front line) ≤ length front + length line)
unfolding words_in
words_some front [] = let w = word_some front in (w.0, omega (arith, w.1))
words_some front (b ∷ bs) = words_step (b == 32) front b bs (let r = words_some [] bs in (r.0, omega (arith, r.1))) (words_some (front ++ b ∷ []) bs)

-- what an option holds, if anything
either : {A : Type 0} (P : A → Type 0) (t : Bool) (x y : Option A) → IfSome x P → IfSome y P → IfSome (cond t x y) P
either P true x y p q = p
either P false x y p q = q

chained : {A B : Type 0} (P : A → Type 0) (Q : B → Type 0) (f : A → Option B) (o : Option A) → IfSome o P → ((x : A) → P x → IfSome (f x) Q) → IfSome (option_and_then f o) Q
chained P Q f None p h = tt
chained P Q f (Some x) p h = h x p

any : {A : Type 0} (o : Option A) → IfSome o (λ _. Unit {0})
any None = tt
any (Some x) = tt

abbrev key_of : Operation → List ℕ
key_of (op.Put key value) = key
key_of (op.Del key) = key

-- operations have keys, and there are no more of them than words
record HaveKeys (count : ℕ) (os : List Operation) : Type 0 where
  keys : AllByRecursion (λ o. 1 ≤ length (key_of o)) os
  few : length os ≤ count

operations_have : (ws : List (List ℕ)) → AreSome ws → IfSome (operations ws) (HaveKeys (length ws))
unfolding operations
operations_have [] some = record { keys = tt; few = omega arith }
operations_have (verb ∷ []) some = tt
operations_have (verb ∷ key ∷ []) some =
    either (HaveKeys 2) (is verb (codes "del")) (Some (op.Del (percent_decode key) ∷ [])) None (record { keys = (decodes_some key some.1.0, tt); few = omega arith }) tt
operations_have (verb ∷ key ∷ third ∷ rest) some =
    let n = length (verb ∷ key ∷ third ∷ rest) in
    either (HaveKeys n) (is verb (codes "del")) _ _
    (chained (HaveKeys (length (third ∷ rest))) (HaveKeys n) _ (operations (third ∷ rest)) (operations_have (third ∷ rest) some.1.1)
    (λ more h. record { keys = (decodes_some key some.1.0, h.keys); few = omega (arith, h.few) }))
    (either (HaveKeys n) (is verb (codes "put")) _ None
    (chained (λ _. Unit {0}) (HaveKeys n) _ (value third) (any (value third)) (λ v _.
    chained (HaveKeys (length rest)) (HaveKeys n) _ (operations rest) (operations_have rest some.1.1.1)
    (λ more h. record { keys = (decodes_some key some.1.0, h.keys); few = omega (arith, h.few) })))
    tt)

-- a command has keys, and a batch not too many operations
HasKeys : Command → Type 0
HasKeys (Put key value) = 1 ≤ length key
HasKeys (Del key) = 1 ≤ length key
HasKeys (Batch os) = HaveKeys 67108864 os
HasKeys (Get key) = Unit {0}
HasKeys (Scan from to) = Unit {0}
HasKeys Sync = Unit {0}
HasKeys Flush = Unit {0}
HasKeys Files = Unit {0}
HasKeys Reopen = Unit {0}

scan_has : (ws : List (List ℕ)) → IfSome (scan_of ws) HasKeys
unfolding HasKeys
scan_has [] = tt
scan_has (a ∷ []) = chained (λ _. Unit {0}) HasKeys _ (bound a) (any (bound a)) (λ _ _. tt)
scan_has (a ∷ b ∷ []) = chained (λ _. Unit {0}) HasKeys _ (bound a) (any (bound a)) (λ _ _. chained (λ _. Unit {0}) HasKeys _ (bound b) (any (bound b)) (λ _ _. tt))
scan_has (a ∷ b ∷ c ∷ more) = tt

batch_has : (ws : List (List ℕ)) → AreSome ws → length ws ≤ 67108864 → IfSome (batch_of ws) HasKeys
unfolding HasKeys
batch_has [] some few = tt
batch_has (w ∷ ws) some few =
    chained (HaveKeys (length (w ∷ ws))) HasKeys _ (operations (w ∷ ws)) (operations_have (w ∷ ws) some) (λ os h. record { keys = h.keys; few = omega (arith, h.few, few) })

fixed_has : (verb : List ℕ) (ws : List (List ℕ)) → AreSome ws → IfSome (fixed_of verb ws) HasKeys
unfolding HasKeys
fixed_has verb [] some =
    either HasKeys (is verb (codes "sync")) (Some Sync) _ tt
    (either HasKeys (is verb (codes "flush")) (Some Flush) _ tt
    (either HasKeys (is verb (codes "files")) (Some Files) _ tt
    (either HasKeys (is verb (codes "reopen")) (Some Reopen) None tt tt)))
fixed_has verb (a ∷ []) some =
    either HasKeys (is verb (codes "del")) (Some (Del (percent_decode a))) _ (decodes_some a some.0) (either HasKeys (is verb (codes "get")) (Some (Get (percent_decode a))) None tt tt)
fixed_has verb (a ∷ b ∷ []) some =
    either HasKeys (is verb (codes "put")) _ None (chained (λ _. Unit {0}) HasKeys _ (value b) (any (value b)) (λ _ _. decodes_some a some.0)) tt
fixed_has verb (a ∷ b ∷ c ∷ more) some = tt

command_has : (verb : List ℕ) (ws : List (List ℕ)) → AreSome ws → length ws ≤ 67108864 → IfSome (command_of verb ws) HasKeys
command_has verb ws some few =
    either HasKeys (is verb (codes "scan")) (scan_of ws) _ (scan_has ws) (either HasKeys (is verb (codes "batch")) (batch_of ws) (fixed_of verb ws) (batch_has ws some few) (fixed_has verb ws some))

-- the tests that a command has passed
no_key : (key : List ℕ) → 1 ≤ length key → is_long_key key ≡ false → IsKey key
no_key key some short = record { some = some; no_longer = ltb-false 65535 (length key) short }

no_value : (v : List ℕ) → is_long_value v ≡ false → IsValue v
no_value v short = ltb-false 16777216 (length v) short

or_false : (a b : Bool) → (a || b) ≡ false → (a ≡ false) × (b ≡ false)
or_false true b e = cc e
or_false false b e = (refl, e)

each_within : (os : List Operation) → AllByRecursion (λ o. 1 ≤ length (key_of o)) os → list_any puts_long_key os ≡ false → list_any puts_long_value os ≡ false → AllByRecursion IsOperation os
each_within [] keys k v = tt
each_within (op.Put key value ∷ os) keys k v =
    let a = or_false (is_long_key key) (list_any puts_long_key os) k in
    let b = or_false (is_long_value value) (list_any puts_long_value os) v in
    ((no_key key keys.0 a.0, no_value value b.0), each_within os keys.1 a.1 b.1)
each_within (op.Del key ∷ os) keys k v =
    let a = or_false (is_long_key key) (list_any puts_long_key os) k in
    (no_key key keys.0 a.0, each_within os keys.1 a.1 v)

passed : (c : Command) → HasKeys c → has_long_key c ≡ false → has_long_value c ≡ false → IsCommand c
unfolding HasKeys
passed (Put key value) has k v = (no_key key has k, no_value value v)
passed (Del key) has k v = no_key key has k
passed (Batch os) has k v = (each_within os has.keys k v, omega (arith, has.few))
passed (Get key) has k v = tt
passed (Scan from to) has k v = tt
passed Sync has k v = tt
passed Flush has k v = tt
passed Files has k v = tt
passed Reopen has k v = tt

by_test : (P : Parsed → Type 0) (t : Bool) (x y : Parsed) → (t ≡ true → P x) → (t ≡ false → P y) → P (cond t x y)
by_test P true x y p q = p refl
by_test P false x y p q = q refl

allowed_within : (c : Command) → HasKeys c → IsWithinLimits (allowed c)
allowed_within c has =
    by_test IsWithinLimits (has_long_key c) (Refused refused.Key) (cond (has_long_value c) (Refused refused.Value) (Go c)) (λ _. tt)
    (λ k. by_test IsWithinLimits (has_long_value c) (Refused refused.Value) (Go c) (λ _. tt) (λ v. passed c has k v))

or_within : (o : Option Command) → IfSome o HasKeys → IsWithinLimits (or_syntax o)
or_within None has = tt
or_within (Some c) has = allowed_within c has

ordered_within : (line : List ℕ) (ws : List (List ℕ)) → AreSome ws → length ws ≤ 67108864 → IsWithinLimits (ordered line ws)
ordered_within line [] some few = tt
ordered_within line (verb ∷ rest) some few =
    by_test IsWithinLimits (slice_index line 0 == 35) Nothing (or_syntax (command_of verb rest)) (λ _. tt)
    (λ _. or_within (command_of verb rest) (command_has verb rest some.1 (omega (arith, few))))

pub within : ParsedAreWithinLimits
unfolding parsed
within line =
    by_test IsWithinLimits (nat_lt 67108864 (length line)) (Refused refused.Long) (ordered line (words line)) (λ _. tt)
    (λ short. let w = words_some [] line in ordered_within line (words line) w.0 (omega (arith, w.1, ltb-false 67108864 (length line) short)))
