-- One flow more.
use Rattle.std.proofs.Common.{◌≡◌, ℕ, ◌+◌, ◌≤◌, List, [], ◌∷◌, ◌++◌, length, sum, Some, None, refl, sym, ap, ◌∙◌, arith, subst, inl, inr, zero-add}
use Rattle.std.specs.Prelude.{Option, MatchOption, IfSome, ◌<◌, unwrap_or, false}
use Rattle.std.specs.BTreeMap.{is_at}
use Rattle.std.specs.Ordering.{nat_cmp, is_eq}
use Rattle.std.specs.FinMap.{nat_cmp-IsAntisymmetric}
use Rattle.std.specs.declared.cmp.Ordering.{Ordering}
use Rattle.std.specs.declared.cmp.Ordering.TheVariants.{Less, Equal, Greater}
use Rattle.std.proofs.lemmas.List.{append-nil, length_push}
use Rattle.std.proofs.lemmas.List.Sums.{sum_by_push}
use Rattle.std.proofs.lemmas.Bool.{cases_eq}
use Rattle.std.proofs.lemmas.Bool.Decides.{nat_tests}
use Rattle.bl_index.specs.declared.account.Account.{Account}
use Rattle.bl_index.specs.Metering.{Flow, In, Out, ins, outs, since_first_in, IsAccountOf, Meters, MayComeOut, HasRoom, Accounts, account_at}

-- ---- a flow of this file, and one of another

ins_here : (f file b : ℕ) (flows : List Flow) → f ≡ file → ins file (In f b ∷ flows) ≡ b ∷ ins file flows
ins_here f file b flows e = grind (arith, nat_tests)

ins_away : (f file b : ℕ) (flows : List Flow) → (f ≡ file → ⊥) → ins file (In f b ∷ flows) ≡ ins file flows
ins_away f file b flows n = grind (arith, nat_tests)

outs_here : (f file b : ℕ) (flows : List Flow) → f ≡ file → outs file (Out f b ∷ flows) ≡ b ∷ outs file flows
outs_here f file b flows e = grind (arith, nat_tests)

outs_away : (f file b : ℕ) (flows : List Flow) → (f ≡ file → ⊥) → outs file (Out f b ∷ flows) ≡ outs file flows
outs_away f file b flows n = grind (arith, nat_tests)

since_here : (f file b : ℕ) (flows : List Flow) → f ≡ file → since_first_in file (In f b ∷ flows) ≡ In f b ∷ flows
since_here f file b flows e = grind (arith, nat_tests)

since_away : (f file b : ℕ) (flows : List Flow) → (f ≡ file → ⊥) → since_first_in file (In f b ∷ flows) ≡ since_first_in file flows
since_away f file b flows n = grind (arith, nat_tests)

-- ---- a flow behind the others

ins-append : (file : ℕ) (xs ys : List Flow) → ins file (xs ++ ys) ≡ ins file xs ++ ins file ys
ins-append file [] ys = refl
ins-append file (In f b ∷ xs) ys = elim (cases_eq f file) [
  | inl e ↦ rw (ins_here f file b (xs ++ ys) e, ins_here f file b xs e) (ap (λ l. b ∷ l) (ins-append file xs ys))
  | inr n ↦ rw (ins_away f file b (xs ++ ys) n, ins_away f file b xs n) (ins-append file xs ys)
]
ins-append file (Out f b ∷ xs) ys = ins-append file xs ys

outs-append : (file : ℕ) (xs ys : List Flow) → outs file (xs ++ ys) ≡ outs file xs ++ outs file ys
outs-append file [] ys = refl
outs-append file (Out f b ∷ xs) ys = elim (cases_eq f file) [
  | inl e ↦ rw (outs_here f file b (xs ++ ys) e, outs_here f file b xs e) (ap (λ l. b ∷ l) (outs-append file xs ys))
  | inr n ↦ rw (outs_away f file b (xs ++ ys) n, outs_away f file b xs n) (outs-append file xs ys)
]
outs-append file (In f b ∷ xs) ys = outs-append file xs ys

since_none : (file : ℕ) (flows : List Flow) (x : Flow) → since_first_in file flows ≡ [] → since_first_in file (flows ++ x ∷ []) ≡ since_first_in file (x ∷ [])
since_none file [] x h = refl
since_none file (In f b ∷ flows) x h = elim (cases_eq f file) [
  | inl e ↦ let never : In f b ∷ flows ≡ [] = sym (since_here f file b flows e) ∙ h in cc
  | inr n ↦ since_away f file b (flows ++ x ∷ []) n ∙ since_none file flows x (sym (since_away f file b flows n) ∙ h)
]
since_none file (Out f b ∷ flows) x h = since_none file flows x h

since_some : (file : ℕ) (flows : List Flow) (x : Flow) → 1 ≤ length (since_first_in file flows) → since_first_in file (flows ++ x ∷ []) ≡ since_first_in file flows ++ x ∷ []
since_some file [] x h = absurd (omega arith)
since_some file (In f b ∷ flows) x h = elim (cases_eq f file) [
  | inl e ↦ since_here f file b (flows ++ x ∷ []) e ∙ ap (λ l. l ++ x ∷ []) (sym (since_here f file b flows e))
  | inr n ↦
      let away = since_away f file b flows n in
      since_away f file b (flows ++ x ∷ []) n ∙ since_some file flows x (omega (arith, ap length away)) ∙ ap (λ l. l ++ x ∷ []) (sym away)
]
since_some file (Out f b ∷ flows) x h = since_some file flows x h

-- nothing went in before the first flow that went in
pub ins-since : (file : ℕ) (flows : List Flow) → ins file (since_first_in file flows) ≡ ins file flows
ins-since file [] = refl
ins-since file (In f b ∷ flows) = elim (cases_eq f file) [
  | inl e ↦ ap (ins file) (since_here f file b flows e)
  | inr n ↦ ap (ins file) (since_away f file b flows n) ∙ ins-since file flows ∙ sym (ins_away f file b flows n)
]
ins-since file (Out f b ∷ flows) = ins-since file flows

some_live : (file : ℕ) (live : List Flow) → 1 ≤ length (ins file live) → 1 ≤ length live
some_live file [] h = absurd (omega arith)
some_live file (x ∷ live) h = omega arith

-- ---- an account, when a flow comes

account_same : (file : ℕ) (live live' : List Flow) (a : Account) → IsAccountOf file live a → ins file live' ≡ ins file live → outs file live' ≡ outs file live → IsAccountOf file live' a
account_same file live live' a h i o = record {
  named = omega (arith, h.named, ap length i);
  in_count = h.in_count ∙ sym (ap length i);
  in_bytes = h.in_bytes ∙ sym (ap sum i);
  out_count = h.out_count ∙ sym (ap length o);
  out_bytes = h.out_bytes ∙ sym (ap sum o);
}

account_in : (file b : ℕ) (live live' : List Flow) (a n : Account) → IsAccountOf file live a → ins file live' ≡ ins file live ++ b ∷ [] → outs file live' ≡ outs file live
    → n.ins.count ≡ a.ins.count + 1 → n.ins.bytes ≡ a.ins.bytes + b → n.outs ≡ a.outs → IsAccountOf file live' n
account_in file b live live' a n h i o count bytes rest = record {
  named = omega (arith, ap length i, length_push (ins file live) b);
  in_count = omega (arith, ap length i, length_push (ins file live) b, h.in_count, count);
  in_bytes = omega (arith, ap sum i, sum_by_push (λ x. x) (ins file live) b, h.in_bytes, bytes);
  out_count = ap (λ s. s.count) rest ∙ h.out_count ∙ sym (ap length o);
  out_bytes = ap (λ s. s.bytes) rest ∙ h.out_bytes ∙ sym (ap sum o);
}

account_out : (file b : ℕ) (live live' : List Flow) (a n : Account) → IsAccountOf file live a → ins file live' ≡ ins file live → outs file live' ≡ outs file live ++ b ∷ []
    → n.outs.count ≡ a.outs.count + 1 → n.outs.bytes ≡ a.outs.bytes + b → n.ins ≡ a.ins → IsAccountOf file live' n
account_out file b live live' a n h i o count bytes rest = record {
  named = omega (arith, h.named, ap length i);
  in_count = ap (λ s. s.count) rest ∙ h.in_count ∙ sym (ap length i);
  in_bytes = ap (λ s. s.bytes) rest ∙ h.in_bytes ∙ sym (ap sum i);
  out_count = omega (arith, ap length o, length_push (outs file live) b, h.out_count, count);
  out_bytes = omega (arith, ap sum o, sum_by_push (λ x. x) (outs file live) b, h.out_bytes, bytes);
}

-- ---- what a meter has of a file

abbrev pub Knows : ℕ → List Flow → Option Account → Type 0
Knows file flows o = MatchOption o (since_first_in file flows ≡ []) (IsAccountOf file (since_first_in file flows))

-- a flow of another file changes nothing
pub other_in : (f file b : ℕ) (flows : List Flow) (o : Option Account) → (f ≡ file → ⊥) → Knows file flows o → Knows file (flows ++ In f b ∷ []) o
other_in f file b flows None n h = since_none file flows (In f b) h ∙ since_away f file b [] n
other_in f file b flows (Some a) n h =
    let live = since_first_in file flows in
    let longer = since_some file flows (In f b) (some_live file live h.named) in
    account_same file live (since_first_in file (flows ++ In f b ∷ [])) a h
    (ap (ins file) longer ∙ ins-append file live (In f b ∷ []) ∙ ap (λ l. ins file live ++ l) (ins_away f file b [] n) ∙ append-nil (ins file live))
    (ap (outs file) longer ∙ outs-append file live (In f b ∷ []) ∙ append-nil (outs file live))

pub other_out : (f file b : ℕ) (flows : List Flow) (o : Option Account) → (f ≡ file → ⊥) → Knows file flows o → Knows file (flows ++ Out f b ∷ []) o
other_out f file b flows None n h = since_none file flows (Out f b) h
other_out f file b flows (Some a) n h =
    let live = since_first_in file flows in
    let longer = since_some file flows (Out f b) (some_live file live h.named) in
    account_same file live (since_first_in file (flows ++ Out f b ∷ [])) a h
    (ap (ins file) longer ∙ ins-append file live (Out f b ∷ []) ∙ append-nil (ins file live))
    (ap (outs file) longer ∙ outs-append file live (Out f b ∷ []) ∙ ap (λ l. outs file live ++ l) (outs_away f file b [] n) ∙ append-nil (outs file live))

-- the first in-flow of a file, and one more
pub first_in : (file b : ℕ) (flows : List Flow) (n : Account) → Knows file flows None → n.ins.count ≡ 1 → n.ins.bytes ≡ b → n.outs.count ≡ 0 → n.outs.bytes ≡ 0
    → Knows file (flows ++ In file b ∷ []) (Some n)
first_in file b flows n h count bytes no_count no_bytes =
    let live : since_first_in file (flows ++ In file b ∷ []) ≡ In file b ∷ [] = since_none file flows (In file b) h ∙ since_here file file b [] refl in
    let i : ins file (In file b ∷ []) ≡ b ∷ [] = ins_here file file b [] refl in
    rw live
    (record {
      named = omega (arith, ap length i);
      in_count = omega (arith, ap length i, count);
      in_bytes = omega (arith, ap sum i, bytes);
      out_count = no_count;
      out_bytes = no_bytes;
    })

pub more_in : (file b : ℕ) (flows : List Flow) (a n : Account) → Knows file flows (Some a) → n.ins.count ≡ a.ins.count + 1 → n.ins.bytes ≡ a.ins.bytes + b → n.outs ≡ a.outs
    → Knows file (flows ++ In file b ∷ []) (Some n)
more_in file b flows a n h count bytes rest =
    let live = since_first_in file flows in
    let longer = since_some file flows (In file b) (some_live file live h.named) in
    account_in file b live (since_first_in file (flows ++ In file b ∷ [])) a n h
    (ap (ins file) longer ∙ ins-append file live (In file b ∷ []) ∙ ap (λ l. ins file live ++ l) (ins_here file file b [] refl))
    (ap (outs file) longer ∙ outs-append file live (In file b ∷ []) ∙ append-nil (outs file live))
    count bytes rest

pub more_out : (file b : ℕ) (flows : List Flow) (a n : Account) → Knows file flows (Some a) → n.outs.count ≡ a.outs.count + 1 → n.outs.bytes ≡ a.outs.bytes + b → n.ins ≡ a.ins
    → Knows file (flows ++ Out file b ∷ []) (Some n)
more_out file b flows a n h count bytes rest =
    let live = since_first_in file flows in
    let longer = since_some file flows (Out file b) (some_live file live h.named) in
    account_out file b live (since_first_in file (flows ++ Out file b ∷ [])) a n h
    (ap (ins file) longer ∙ ins-append file live (Out file b ∷ []) ∙ append-nil (ins file live))
    (ap (outs file) longer ∙ outs-append file live (Out file b ∷ []) ∙ ap (λ l. outs file live ++ l) (outs_here file file b [] refl))
    count bytes rest

-- an out-flow of a file that no in-flow named
pub unnamed_out : (f file b : ℕ) (flows : List Flow) → Knows file flows None → Knows file (flows ++ Out f b ∷ []) None
unnamed_out f file b flows h = since_none file flows (Out f b) h

-- the bytes that went in
pub bytes_in : (file : ℕ) (flows : List Flow) (a : Account) → Knows file flows (Some a) → a.ins.bytes ≡ sum (ins file flows)
bytes_in file flows a h = h.in_bytes ∙ ap sum (ins-since file flows)

pub no_bytes_in : (file : ℕ) (flows : List Flow) → Knows file flows None → sum (ins file flows) ≡ 0
no_bytes_in file flows h = ap sum (sym (ins-since file flows) ∙ ap (ins file) h)

-- ---- the account of the code, where there may be none yet

abbrev pub none_yet : Account
none_yet = record { ins = record { count = 0; bytes = 0 }; outs = record { count = 0; bytes = 0 } }

pub bytes_so_far : (file : ℕ) (flows : List Flow) (o : Option Account) → Knows file flows o → (unwrap_or o none_yet).ins.bytes ≡ sum (ins file flows)
bytes_so_far file flows None h = sym (no_bytes_in file flows h)
bytes_so_far file flows (Some a) h = bytes_in file flows a h

next_in : (file b : ℕ) (flows : List Flow) (o : Option Account) (a n : Account) → a ≡ unwrap_or o none_yet → Knows file flows o → n.ins.count ≡ a.ins.count + 1 → n.ins.bytes ≡ a.ins.bytes + b
    → n.outs ≡ a.outs → Knows file (flows ++ In file b ∷ []) (Some n)
next_in file b flows None a n e h count bytes rest =
    first_in file b flows n h (count ∙ ap (λ x. x.ins.count + 1) e ∙ zero-add 1) (bytes ∙ ap (λ x. x.ins.bytes + b) e ∙ zero-add b) (ap (λ s. s.count) rest ∙ ap (λ x. x.outs.count) e) (ap (λ s. s.bytes) rest ∙ ap (λ x. x.outs.bytes) e)
next_in file b flows (Some o) a n e h count bytes rest =
    more_in file b flows o n h (count ∙ ap (λ x. x.ins.count + 1) e) (bytes ∙ ap (λ x. x.ins.bytes + b) e) (rest ∙ ap (λ x. x.outs) e)

is_other : (r : Ordering) (file q : ℕ) → (file ≡ q → ⊥) → nat_cmp file q ≡ r → is_eq r ≡ false
is_other Less file q apart e = refl
is_other Equal file q apart e = absurd (apart (nat_cmp-IsAntisymmetric file q e))
is_other Greater file q apart e = refl

-- the accounts differ at this file alone
pub record Sets (file : ℕ) (n : Account) (old new : List (ℕ × Account)) : Type 0 where
  pub here : account_at new file ≡ Some n
  pub others : (q : ℕ) → is_at (nat_cmp file) q ≡ false → account_at new q ≡ account_at old q

pub meters_in : (file b : ℕ) (flows : List Flow) (old new : List (ℕ × Account)) (a n : Account) → Sets file n old new → a ≡ unwrap_or (account_at old file) none_yet
    → n.ins.count ≡ a.ins.count + 1 → n.ins.bytes ≡ a.ins.bytes + b → n.outs ≡ a.outs → Meters flows old → Meters (flows ++ In file b ∷ []) new
meters_in file b flows old new a n sets e count bytes rest h q = elim (cases_eq file q) [
  | inl same ↦ subst (λ k. Knows k (flows ++ In file b ∷ []) (account_at new k)) same
      (subst (Knows file (flows ++ In file b ∷ [])) (sym sets.here) (next_in file b flows (account_at old file) a n e (h file) count bytes rest))
  | inr apart ↦ subst (Knows q (flows ++ In file b ∷ [])) (sym (sets.others q (is_other (nat_cmp file q) file q apart refl))) (other_in file q b flows (account_at old q) apart (h q))
]

pub meters_out : (file b : ℕ) (flows : List Flow) (old new : List (ℕ × Account)) (a n : Account) → Sets file n old new → account_at old file ≡ Some a
    → n.outs.count ≡ a.outs.count + 1 → n.outs.bytes ≡ a.outs.bytes + b → n.ins ≡ a.ins → Meters flows old → Meters (flows ++ Out file b ∷ []) new
meters_out file b flows old new a n sets e count bytes rest h q = elim (cases_eq file q) [
  | inl same ↦ subst (λ k. Knows k (flows ++ Out file b ∷ []) (account_at new k)) same
      (subst (Knows file (flows ++ Out file b ∷ [])) (sym sets.here) (more_out file b flows a n (subst (Knows file flows) e (h file)) count bytes rest))
  | inr apart ↦ subst (Knows q (flows ++ Out file b ∷ [])) (sym (sets.others q (is_other (nat_cmp file q) file q apart refl))) (other_out file q b flows (account_at old q) apart (h q))
]

-- nothing changes where no in-flow named the file
pub meters_unnamed : (file b : ℕ) (flows : List Flow) (old : List (ℕ × Account)) → account_at old file ≡ None → Meters flows old → Meters (flows ++ Out file b ∷ []) old
meters_unnamed file b flows old e h q = elim (cases_eq file q) [
  | inl same ↦ subst (λ k. Knows k (flows ++ Out file b ∷ []) (account_at old k)) same
      (subst (Knows file (flows ++ Out file b ∷ [])) (sym e) (unnamed_out file file b flows (subst (Knows file flows) e (h file))))
  | inr apart ↦ other_out file q b flows (account_at old q) apart (h q)
]

-- ---- room, by the flows

room_of : (file bytes : ℕ) (flows : List Flow) (o : Option Account) → Knows file flows o → MayComeOut flows file bytes
    → IfSome o (λ a. (a.outs.count < a.ins.count) × (a.outs.bytes + bytes ≤ a.ins.bytes))
room_of file bytes flows None h may = tt
room_of file bytes flows (Some a) h may =
    let room = may (some_live file (since_first_in file flows) h.named) in
    (omega (arith, room.0, h.in_count, h.out_count), omega (arith, room.1, h.in_bytes, h.out_bytes))

pub has_room : (flows : List Flow) (meter : Accounts) (file bytes : ℕ) → Meters flows meter → MayComeOut flows file bytes → HasRoom meter file bytes
has_room flows meter file bytes h may = room_of file bytes flows (account_at meter file) (h file) may
