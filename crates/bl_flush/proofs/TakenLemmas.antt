-- A flush goes over a memory: what is kept of the entries that it has taken is added.
use Rattle.std.proofs.Common.{◌≡◌, ◌⊎◌, inl, inr, ℕ, ◌+◌, ◌-◌, ◌≤◌, ◌<◌, ◌^◌, zero, suc, Bool, true, false, List, [], ◌∷◌, ◌++◌, length, Option, None, Some, refl, sym, ◌∙◌, ap, subst, arith, append_assoc, append-nil, length-append}
use Rattle.std.specs.Prelude.{slice_get, IfSome, IsSome, drop, map}
use Rattle.std.specs.List.Sorted.{IsStrictlySortedBy}
use Rattle.std.specs.declared.cmp.Ordering.TheVariants.{Less}
use Rattle.bl_entry.specs.Keys.{key_cmp}
use Rattle.bl_names.specs.declared.name.FileName.TheVariants.{Table, Blob}
use Rattle.bl_names.specs.Names.{name_of}
use Rattle.std.specs.List.{AllByRecursion, range_with_len}
use Rattle.std.proofs.lemmas.List.FromFn.{length-range_with_len}
use Rattle.bl_site.specs.Causes.{Rose}
use Rattle.bl_site.specs.Disk.{Disk, Name}
use Rattle.bl_site.specs.Quiet.{TellsNothing}
use Rattle.bl_site.specs.declared.site.Site.{Ghosts}
use Rattle.bl_entry.specs.declared.key.Entry.{Entry}
use Rattle.bl_entry.specs.Entries.{IsAscending, IsProper, last_of}
use Rattle.bl_entry.specs.Kept.{NewestStandsFirst, follows_alike, kept}
use Rattle.bl_edit.specs.Options.{AreInRange, Values}
use Rattle.bl_out.specs.Made.{AddedIsMade, BegunIsMade, IsMade}
use Rattle.bl_out.specs.Outputs.{Out, added, begun, made_for}
use Rattle.bl_out.specs.Quiet.{IsNoneOf, TouchesOnly}
use Rattle.bl_out.specs.States.{AreBlobs, AreTables, AreThere, BlobHand, Becomes, Draws, Hand, IsOut, State, names_of}
use Rattle.bl_out.specs.declared.error.JobErr.{JobErr}
use Rattle.bl_out.specs.declared.error.JobErr.TheVariants.{Full, OutOfMemory}
use Rattle.bl_out.specs.States as out
use Rattle.bl_site.proofs.Quiet.{silent_on}
use Rattle.bl_out.proofs.QuietLemmas.{IsNow, IsOnly, touches_join, touches_more, touches_nothing}
use Rattle.bl_edit.specs.declared.edit.BlobAddition.{BlobAddition}
use Rattle.bl_edit.specs.declared.edit.NewTable.{NewTable}
use Rattle.bl_memtab.specs.Laws.{AfterIsNext}
use Rattle.bl_memtab.specs.Tables.{after}
use Rattle.bl_flush.specs.Flushing.{IsAt, RefusesFlush}
use Rattle.bl_flush.specs.Jobs.{added_of, all_added, next_behind, next_of}
use Rattle.bl_flush.proofs.KeptMore.{added_behind, kept_more, kept_same, next_more}

pub record Taken {S : Type 0} (g : Ghosts S) (options : Values) (snapshots : List ℕ) (from next : ℕ) (memory : List Entry) (front ahead : Option Entry) (s : State) (start site : S) : Type 0 where
  pub taken : List Entry
  pub rest : List Entry
  pub split : taken ++ rest ≡ memory
  pub front_is : front ≡ last_of taken
  pub ahead_is : ahead ≡ slice_get rest 0
  pub at : IsAt g (added_of options snapshots from taken) from next s start site
  pub next_is : next ≡ next_of options snapshots from taken

-- so many are taken
pub record TakenTo {S : Type 0} (g : Ghosts S) (options : Values) (snapshots : List ℕ) (from next : ℕ) (memory : List Entry) (front ahead : Option Entry) (s : State) (start site : S) (count : ℕ) : Type 0 where
  pub taken : Taken g options snapshots from next memory front ahead s start site
  pub counted : length taken.taken ≡ count

-- a list with a first entry
pub record Head (es : List Entry) (e : Entry) : Type 0 where
  pub more : List Entry
  pub is : es ≡ e ∷ more

head_of : (es : List Entry) (e : Entry) → slice_get es 0 ≡ Some e → Head es e
head_of [] e is = absurd cc
head_of (x ∷ es) e is = let same : x ≡ e = cc in record { more = es; is = ap (λ y. y ∷ es) same }

last_behind : (xs : List Entry) (x : Entry) → last_of (xs ++ x ∷ []) ≡ Some x
last_behind [] x = refl
last_behind (y ∷ []) x = refl
last_behind (y ∷ z ∷ xs) x = last_behind (z ∷ xs) x

-- ---- counts that rise

pub rose_then : (a b c : ℕ) → Rose a b → Rose b c → Rose a c
rose_then a b c first second = omega (arith, first, second)

-- ---- numbers that are drawn

pub range_behind : (a n m : ℕ) → range_with_len a n ++ range_with_len (a + n) m ≡ range_with_len a (n + m)
range_behind a zero m = let e : a + 0 ≡ a = omega arith in let z : m ≡ 0 + m = omega arith in ap (λ k. range_with_len k m) e ∙ ap (range_with_len a) z
range_behind a (suc n) m =
    let e : a + suc n ≡ a + 1 + n = omega arith in
    let z : suc (n + m) ≡ suc n + m = omega arith in
    ap (λ ns. a ∷ ns) (ap (λ k. range_with_len (a + 1) n ++ range_with_len k m) e ∙ range_behind (a + 1) n m) ∙ ap (range_with_len a) z

pub range_to : (from next made : ℕ) → from ≤ next → range_with_len from (next - from) ++ range_with_len next made ≡ range_with_len from (next + made - from)
range_to from next made le =
    let there : from + (next - from) ≡ next = omega arith in
    let sum : next - from + made ≡ next + made - from = omega arith in
    ap (λ k. range_with_len from (next - from) ++ range_with_len k made) (sym there) ∙ range_behind from (next - from) made ∙ ap (range_with_len from) sum

none_of_front : (ns ms : List ℕ) (name : Name) → IsNoneOf (names_of (ns ++ ms)) name → IsNoneOf (names_of ns) name
none_of_front [] ms name n = tt
none_of_front (k ∷ ns) ms name n = (n.0, (n.1.0, none_of_front ns ms name n.1.1))

ascends_in_front : (es more : List Entry) → IsAscending (es ++ more) → IsAscending es
unfolding IsStrictlySortedBy
ascends_in_front [] more up = tt
ascends_in_front (e ∷ es) more up = (in_front es up.0, ascends_in_front es more up.1)
  where
    in_front : (ys : List Entry) → AllByRecursion (λ k. key_cmp e.key k ≡ Less) (map (λ y. y.key) (ys ++ more)) → AllByRecursion (λ k. key_cmp e.key k ≡ Less) (map (λ y. y.key) ys)
    in_front [] h = tt
    in_front (y ∷ ys) h = (h.0, in_front ys h.1)

-- ---- the beginning

no_tables : (ns : List NewTable) (h : Option Hand) → AreTables [] ns h → (ns ≡ []) × (h ≡ None)
no_tables [] None a = (refl, refl)
no_tables [] (Some h) a = absurd a
no_tables (n ∷ ns) h a = absurd a

no_blobs : (ns : List BlobAddition) (h : Option BlobHand) → AreBlobs [] ns h → (ns ≡ []) × (h ≡ None)
no_blobs [] None a = (refl, refl)
no_blobs [] (Some h) a = absurd a
no_blobs (n ∷ ns) h a = absurd a

there_at_start : (disk : Disk) (options : Values) (s : State) → IsOut (begun options true) s → AreThere disk s
there_at_start disk options s out =
    let t = no_tables s.tables s.table out.tables in
    let b = no_blobs s.blobs s.blob out.blobs in (
      subst (λ (h : Option Hand). IfSome h (λ h. IsSome (disk (name_of (Table h.number))))) (sym t.1) tt,
      subst (λ (h : Option BlobHand). IfSome h (λ h. IsSome (disk (name_of (Blob h.number))))) (sym b.1) tt,
      subst (λ (ns : List NewTable). AllByRecursion (λ n. IsSome (disk (name_of (Table n.number)))) (drop s.sealed ns)) (sym t.0) (none_left s.sealed),
      subst (λ (ns : List BlobAddition). AllByRecursion (λ n. IsSome (disk (name_of (Blob n.number)))) (drop (s.sealed - length s.tables) ns)) (sym b.0) (no_more (s.sealed - length s.tables)),
    )
  where
    none_left : (k : ℕ) → AllByRecursion (λ (n : NewTable). IsSome (disk (name_of (Table n.number)))) (drop k [])
    none_left zero = tt
    none_left (suc k) = tt

    no_more : (k : ℕ) → AllByRecursion (λ (n : BlobAddition). IsSome (disk (name_of (Blob n.number)))) (drop k [])
    no_more zero = tt
    no_more (suc k) = tt

module _ {S : Type 0} (g : Ghosts S) (options : Values) (snapshots : List ℕ) (range : AreInRange options) where
  pub at_start : BegunIsMade → (from : ℕ) (s : State) (site : S) → IsOut (begun options true) s → s.failed ≡ false → (g.shows → IsOnly g site) → (g.shows → IsNow g site) → IsAt g (added_of options snapshots from []) from from s site site
  at_start law from s site out usable only now =
      let none : from - from ≡ 0 = omega arith in
      record {
        out = out;
        made = law options true from range;
        above = omega arith;
        drawn = ap (range_with_len from) (sym none);
        usable = usable;
        holds = λ shown. record { sealed = tt; others = tt };
        there = λ shown. there_at_start (g.disk site) options s out;
        certain = λ shown sure. sure;
        touches = touches_nothing g (names_of (range_with_len from (from - from))) site only now;
        tells_nothing = record { told = λ shown. refl; later = omega arith; tell_faults = refl };
        asked = inr (refl, refl);
      }

  -- the output behind one kept entry more
  module _ (from next next_new : ℕ) (taken : List Entry) (e : Entry) (s s_new : State) (start site site_new : S) (at : IsAt g (added_of options snapshots from taken) from next s start site) where
    abbrev o : Out
    o = added_of options snapshots from taken

    -- the numbers drawn for some of its files
    pub drawn_to : Draws (made_for o e) s s_new next next_new → s_new.drawn ≡ range_with_len from (next_new - from)
    drawn_to d =
        let above : from ≤ next = at.above in
        let next_is : next_new ≡ next + d.made = d.next in
        d.drawn ∙ ap (λ ns. ns ++ range_with_len next d.made) (sym at.out.drawn ∙ at.drawn) ∙ range_to from next d.made above ∙ ap (λ n. range_with_len from (n - from)) (sym next_is)

    pub touches_so_far : Draws (made_for o e) s s_new next next_new → TouchesOnly g (names_of s_new.drawn) site site_new → TouchesOnly g (names_of (range_with_len from (next_new - from))) start site_new
    touches_so_far d touches =
        let above : from ≤ next = at.above in
        let next_is : next_new ≡ next + d.made = d.next in
        let split : range_with_len from (next_new - from) ≡ range_with_len from (next - from) ++ range_with_len next d.made = ap (λ n. range_with_len from (n - from)) next_is ∙ sym (range_to from next d.made above) in
        touches_join g (names_of (range_with_len from (next_new - from))) start site site_new
        (touches_more g (names_of (range_with_len from (next - from))) (names_of (range_with_len from (next_new - from))) start site
        (λ name n. none_of_front (range_with_len from (next - from)) (range_with_len next d.made) name (subst (λ (ns : List ℕ). IsNoneOf (names_of ns) name) split n)) at.touches)
        at.certain at.tells_nothing
        (subst (λ (ns : List ℕ). TouchesOnly g (names_of ns) site site_new) (drawn_to d) touches)

    tells_so_far : TellsNothing g site site_new → TellsNothing g start site_new
    tells_so_far silent = silent_on g start site site_new at.tells_nothing silent

    rose_so_far : Rose (g.changes site) (g.changes site_new) → Rose (g.changes start) (g.changes site_new)
    rose_so_far rose = elim at.asked [
      | inl a ↦ rose_then (g.changes start) (g.changes site) (g.changes site_new) a rose
      | inr a ↦ subst (λ (x : S). Rose (g.changes x) (g.changes site_new)) a.0 rose
    ]

    asked_so_far : Rose (g.changes site) (g.changes site_new) ⊎ ((site_new ≡ site) × (next_new ≡ next)) → Rose (g.changes start) (g.changes site_new) ⊎ ((site_new ≡ start) × (next_new ≡ from))
    asked_so_far asked = by at.asked asked
      where
        by : Rose (g.changes start) (g.changes site) ⊎ ((site ≡ start) × (next ≡ from)) → Rose (g.changes site) (g.changes site_new) ⊎ ((site_new ≡ site) × (next_new ≡ next)) → Rose (g.changes start) (g.changes site_new) ⊎ ((site_new ≡ start) × (next_new ≡ from))
        by (inl a) (inl b) = inl (rose_then (g.changes start) (g.changes site) (g.changes site_new) a b)
        by (inl a) (inr b) = inl (subst (λ (x : S). Rose (g.changes start) (g.changes x)) (sym b.0) a)
        by (inr a) (inl b) = inl (subst (λ (x : S). Rose (g.changes x) (g.changes site_new)) a.0 b)
        by (inr a) (inr b) = inr (b.0 ∙ a.0, b.1 ∙ a.1)

    drawn_all : IsOut (added next o e) s_new → (d : Draws (made_for o e) s s_new next next_new) → d.made ≡ made_for o e
    drawn_all out d =
        let a = ap length out.drawn in
        let b = ap length d.drawn in
        let c = ap length at.out.drawn in
        let l = length-append o.drawn (range_with_len next (made_for o e)) in
        let m = length-append s.drawn (range_with_len next d.made) in
        let n = length-range_with_len next (made_for o e) in
        let k = length-range_with_len next d.made in
        omega (arith, a, b, c, l, m, n, k)

    -- an entry more that is kept
    pub added_more : AddedIsMade → kept snapshots false (taken ++ e ∷ []) ≡ kept snapshots false taken ++ e ∷ [] → IsProper e → next ≡ next_of options snapshots from taken
        → Becomes g next (λ o. added next o e) s s_new site site_new → s_new.failed ≡ false → Draws (made_for o e) s s_new next next_new → TouchesOnly g (names_of s_new.drawn) site site_new → TellsNothing g site site_new
        → Rose (g.changes site) (g.changes site_new) ⊎ ((site_new ≡ site) × (next_new ≡ next))
        → IsAt g (added_of options snapshots from (taken ++ e ∷ [])) from next_new s_new start site_new × (next_new ≡ next_of options snapshots from (taken ++ e ∷ []))
    added_more law keeps proper next_is becomes usable d touches silent asked =
        let above : from ≤ next = at.above in
        let all : d.made ≡ made_for o e = drawn_all (becomes.out o at.out) d in
        let behind : next_new ≡ next + made_for o e = d.next ∙ ap (λ n. next + n) all in
        let le : from ≤ next_new = omega (arith, behind) in
        let made : IsMade from (next + made_for o e) (added next o e) = law from next o e above proper at.made in
        let now : added_of options snapshots from (taken ++ e ∷ []) ≡ added next o e =
        ap (all_added from (begun options true)) keeps ∙ added_behind from (begun options true) (kept snapshots false taken) e ∙ ap (λ n. added n o e) (sym next_is) in
        let next_now : next_of options snapshots from (taken ++ e ∷ []) ≡ next_new =
        ap (next_behind from (begun options true)) keeps ∙ next_more from (begun options true) (kept snapshots false taken) e ∙ ap (λ n. n + made_for o e) (sym next_is) ∙ sym behind in (
          subst (λ (p : Out). IsAt g p from next_new s_new start site_new) (sym now) (record {
            out = becomes.out o at.out;
            made = subst (λ (n : ℕ). IsMade from n (added next o e)) (sym behind) made;
            above = le;
            drawn = (becomes.out o at.out).drawn ∙ drawn_to d;
            usable = usable;
            holds = λ shown. becomes.holds shown o at.out at.made.ordered (at.holds shown);
            there = λ shown. becomes.there shown (at.there shown);
            certain = λ shown sure. becomes.certain shown (at.certain shown sure);
            touches = touches_so_far d touches;
            tells_nothing = tells_so_far silent;
            asked = asked_so_far asked;
          }),
          sym next_now,
        )

  -- more entries draw no fewer numbers
  pub next_up : NewestStandsFirst → (from : ℕ) (taken rest : List Entry) → IsAscending (taken ++ rest) → next_of options snapshots from taken ≤ next_of options snapshots from (taken ++ rest)
  next_up law from taken [] up = let e : next_of options snapshots from (taken ++ []) ≡ next_of options snapshots from taken = ap (next_of options snapshots from) (append-nil taken) in omega (arith, e)
  next_up law from taken (x ∷ rest) up =
      let split : (taken ++ x ∷ []) ++ rest ≡ taken ++ x ∷ rest = append_assoc taken (x ∷ []) rest in
      let up_here : IsAscending ((taken ++ x ∷ []) ++ rest) = subst IsAscending (sym split) up in
      let more : next_of options snapshots from (taken ++ x ∷ []) ≤ next_of options snapshots from ((taken ++ x ∷ []) ++ rest) = next_up law from (taken ++ x ∷ []) rest up_here in
      let same : next_of options snapshots from ((taken ++ x ∷ []) ++ rest) ≡ next_of options snapshots from (taken ++ x ∷ rest) = ap (next_of options snapshots from) split in
      let one : next_of options snapshots from taken ≤ next_of options snapshots from (taken ++ x ∷ []) = one_up law from taken x (ascends_in_front (taken ++ x ∷ []) rest up_here) (follows_alike snapshots (last_of taken) x) refl in
      omega (arith, more, same, one)
    where
      one_up : NewestStandsFirst → (low : ℕ) (es : List Entry) (e : Entry) → IsAscending (es ++ e ∷ []) → (b : Bool) → follows_alike snapshots (last_of es) e ≡ b → next_of options snapshots low es ≤ next_of options snapshots low (es ++ e ∷ [])
      one_up kept_law low es e front true like =
          let stays : next_of options snapshots low (es ++ e ∷ []) ≡ next_of options snapshots low es = ap (next_behind low (begun options true)) (kept_same kept_law snapshots es e front like) in
          omega (arith, stays)
      one_up kept_law low es e front false other =
          let grows : next_of options snapshots low (es ++ e ∷ []) ≡ next_of options snapshots low es + made_for (added_of options snapshots low es) e =
          ap (next_behind low (begun options true)) (kept_more kept_law snapshots es e front other) ∙ next_more low (begun options true) (kept snapshots false es) e in
          omega (arith, grows)

  -- ---- a refusal

  module _ (from next next_new : ℕ) (taken rest memory : List Entry) (x : Entry) (s s_new : State) (start site site_new : S) (at : IsAt g (added_of options snapshots from taken) from next s start site)
      (split : taken ++ x ∷ rest ≡ memory) (up : IsAscending memory) (law : NewestStandsFirst) (other : follows_alike snapshots (last_of taken) x ≡ false) (next_is : next ≡ next_of options snapshots from taken)
      (d : Draws (made_for (added_of options snapshots from taken) x) s s_new next next_new) where
    wanted_behind : next + made_for (added_of options snapshots from taken) x ≤ next_of options snapshots from memory
    wanted_behind =
        let one : (taken ++ x ∷ []) ++ rest ≡ memory = append_assoc taken (x ∷ []) rest ∙ split in
        let up_here : IsAscending ((taken ++ x ∷ []) ++ rest) = subst IsAscending (sym one) up in
        let grows : next_of options snapshots from (taken ++ x ∷ []) ≡ next_of options snapshots from taken + made_for (added_of options snapshots from taken) x =
        ap (next_behind from (begun options true)) (kept_more law snapshots taken x (ascends_in_front (taken ++ x ∷ []) rest up_here) other) ∙ next_more from (begun options true) (kept snapshots false taken) x in
        let more : next_of options snapshots from (taken ++ x ∷ []) ≤ next_of options snapshots from ((taken ++ x ∷ []) ++ rest) = next_up law from (taken ++ x ∷ []) rest up_here in
        let same : next_of options snapshots from ((taken ++ x ∷ []) ++ rest) ≡ next_of options snapshots from memory = ap (next_of options snapshots from) one in
        omega (arith, grows, more, same, next_is)

    pub refused : (e : JobErr) → out.Refuses g e s s_new next next_new site site_new
        → ((n : ℕ) → e ≡ Full n → (next_new ≡ 10 ^ 15) × (10 ^ 15 < next + made_for (added_of options snapshots from taken) x))
        → RefusesFlush g e (next_of options snapshots from memory) from next_new start site_new
    refused e r full =
        let above : from ≤ next = at.above in
        let next_now : next_new ≡ next + d.made = d.next in
        let within : d.made ≤ made_for (added_of options snapshots from taken) x = d.within in
        let wanted = wanted_behind in
        record {
          upwards = omega (arith, next_now);
          within = omega (arith, next_now, within, wanted);
          asked = by s_new.failed refl;
          full = λ is. let f = full (10 ^ 15) is in let lt : 10 ^ 15 < next + made_for (added_of options snapshots from taken) x = f.1 in (f.0, omega (arith, lt, wanted));
        }
      where
        nothing : (e ≡ OutOfMemory) → (next_new ≡ next) → (site_new ≡ site) → Rose (g.changes start) (g.changes site) ⊎ ((site ≡ start) × (next ≡ from))
            → Rose (g.changes start) (g.changes site_new) ⊎ ((e ≡ Full (10 ^ 15)) ⊎ ((e ≡ OutOfMemory) × (next_new ≡ from) × (site_new ≡ start)))
        nothing memory no_number same (inl rose) = inl (subst (λ (y : S). Rose (g.changes start) (g.changes y)) (sym same) rose)
        nothing memory no_number same (inr so_far) = inr (inr (memory, no_number ∙ so_far.1, same ∙ so_far.0))

        by : (b : Bool) → s_new.failed ≡ b → Rose (g.changes start) (g.changes site_new) ⊎ ((e ≡ Full (10 ^ 15)) ⊎ ((e ≡ OutOfMemory) × (next_new ≡ from) × (site_new ≡ start)))
        by true is = elim (r.asked is) [
          | inl rose ↦ inl (rose_so_far from next next_new taken x s s_new start site site_new at rose)
          | inr no_number ↦ inr (inl no_number)
        ]
        by false is = let k = r.stays is in nothing k.0 k.1.next k.1.site at.asked

  -- a refusal before any entry
  pub refused_before : NewestStandsFirst → (from : ℕ) (memory : List Entry) (site : S) (e : JobErr) → IsAscending memory → e ≡ OutOfMemory → RefusesFlush g e (next_of options snapshots from memory) from from site site
  refused_before law from memory site e up is =
      let le : next_of options snapshots from [] ≤ next_of options snapshots from ([] ++ memory) = next_up law from [] memory up in
      record { upwards = omega arith; within = le; asked = inr (inr (is, refl, refl)); full = λ f. absurd (not_full (sym is ∙ f)) }
    where
      not_full : OutOfMemory ≡ Full (10 ^ 15) → ⊥
      not_full q = cc

  -- ---- entry by entry

  module _ (law : NewestStandsFirst) (next_law : AfterIsNext) (from next count : ℕ) (memory : List Entry) (front : Option Entry) (e : Entry) (ahead_new : Option Entry) (s : State) (start site : S)
      (t : TakenTo g options snapshots from next memory front (Some e) s start site count) (up : IsAscending memory) (ahead_is : ahead_new ≡ after e.key true memory) where
    abbrev h : Head t.taken.rest e
    h = head_of t.taken.rest e (sym t.taken.ahead_is)

    abbrev es : List Entry
    es = t.taken.taken

    whole : es ++ e ∷ h.more ≡ memory
    whole = ap (λ rs. es ++ rs) (sym h.is) ∙ t.taken.split

    split : (es ++ e ∷ []) ++ h.more ≡ memory
    split = append_assoc es (e ∷ []) h.more ∙ whole

    ahead_now : ahead_new ≡ slice_get h.more 0
    ahead_now = ahead_is ∙ ap (after e.key true) (sym whole) ∙ next_law es h.more e (subst IsAscending (sym whole) up)

    up_here : IsAscending (es ++ e ∷ [])
    up_here = ascends_in_front (es ++ e ∷ []) h.more (subst IsAscending (sym split) up)

    counted : length (es ++ e ∷ []) ≡ count + 1
    counted = length-append es (e ∷ []) ∙ ap (λ n. n + 1) t.counted

    -- it is not kept
    pub passes_on : follows_alike snapshots front e ≡ true → TakenTo g options snapshots from next memory (Some e) ahead_new s start site (count + 1)
    passes_on like =
        let keeps : kept snapshots false (es ++ e ∷ []) ≡ kept snapshots false es = kept_same law snapshots es e up_here (ap (λ f. follows_alike snapshots f e) (sym t.taken.front_is) ∙ like) in
        record {
          taken = record {
            taken = es ++ e ∷ [];
            rest = h.more;
            split = split;
            front_is = sym (last_behind es e);
            ahead_is = ahead_now;
            at = subst (λ (ks : List Entry). IsAt g (all_added from (begun options true) ks) from next s start site) (sym keeps) t.taken.at;
            next_is = t.taken.next_is ∙ ap (next_behind from (begun options true)) (sym keeps);
          };
          counted = counted;
        }

    -- it is kept
    pub adds_on : AddedIsMade → follows_alike snapshots front e ≡ false → IsProper e → (next_new : ℕ) (s_new : State) (site_new : S)
        → Becomes g next (λ o. added next o e) s s_new site site_new → s_new.failed ≡ false → ((o : Out) → IsOut o s → Draws (made_for o e) s s_new next next_new) → TouchesOnly g (names_of s_new.drawn) site site_new → TellsNothing g site site_new
        → Rose (g.changes site) (g.changes site_new) ⊎ ((site_new ≡ site) × (next_new ≡ next))
        → TakenTo g options snapshots from next_new memory (Some e) ahead_new s_new start site_new (count + 1)
    adds_on made other proper next_new s_new site_new becomes usable draws touches silent asked =
        let keeps = kept_more law snapshots es e up_here (ap (λ f. follows_alike snapshots f e) (sym t.taken.front_is) ∙ other) in
        let more = added_more from next next_new es e s s_new start site site_new t.taken.at made keeps proper t.taken.next_is becomes usable (draws (added_of options snapshots from es) t.taken.at.out) touches silent asked in
        record {
          taken = record { taken = es ++ e ∷ []; rest = h.more; split = split; front_is = sym (last_behind es e); ahead_is = ahead_now; at = more.0; next_is = more.1 };
          counted = counted;
        }

    pub refuses_on : follows_alike snapshots front e ≡ false → (err : JobErr) (next_new : ℕ) (s_new : State) (site_new : S) → ((o : Out) → IsOut o s → Draws (made_for o e) s s_new next next_new) → out.Refuses g err s s_new next next_new site site_new
        → ((o : Out) → IsOut o s → (n : ℕ) → err ≡ Full n → (next_new ≡ 10 ^ 15) × (10 ^ 15 < next + made_for o e))
        → RefusesFlush g err (next_of options snapshots from memory) from next_new start site_new
    refuses_on other err next_new s_new site_new draws r full =
        refused from next next_new es h.more memory e s s_new start site site_new t.taken.at whole up law (ap (λ f. follows_alike snapshots f e) (sym t.taken.front_is) ∙ other) t.taken.next_is (draws (added_of options snapshots from es) t.taken.at.out) err r
        (λ n is. full (added_of options snapshots from es) t.taken.at.out n is)

    pub touches_on : (next_new : ℕ) (s_new : State) (site_new : S) → ((o : Out) → IsOut o s → Draws (made_for o e) s s_new next next_new) → TouchesOnly g (names_of s_new.drawn) site site_new → TouchesOnly g (names_of (range_with_len from (next_new - from))) start site_new
    touches_on next_new s_new site_new draws touches =
        touches_so_far from next next_new es e s s_new start site site_new t.taken.at (draws (added_of options snapshots from es) t.taken.at.out) touches

    pub is_in : (P : Entry → Type 0) → AllByRecursion P memory → P e
    is_in P all = at_split es (subst (AllByRecursion P) (sym whole) all)
      where
        at_split : (xs : List Entry) → AllByRecursion P (xs ++ e ∷ h.more) → P e
        at_split [] k = k.0
        at_split (x ∷ xs) k = at_split xs k.1

  -- all are taken
  pub taken_all : (from next count : ℕ) (memory : List Entry) (front ahead : Option Entry) (s : State) (start site : S) (t : TakenTo g options snapshots from next memory front ahead s start site count) → ((ahead ≡ None) ⊎ (length memory ≤ count)) → t.taken.taken ≡ memory
  taken_all from next count memory front ahead s start site t end = ends t.taken.taken t.taken.rest t.taken.split (none_left end)
    where
      none_left : (ahead ≡ None) ⊎ (length memory ≤ count) → t.taken.rest ≡ []
      none_left (inl none) = nothing t.taken.rest (sym t.taken.ahead_is ∙ none)
        where
          nothing : (rs : List Entry) → slice_get rs 0 ≡ None → rs ≡ []
          nothing [] e = refl
          nothing (r ∷ rs) e = cc
      none_left (inr le) = short t.taken.rest (let a = length-append t.taken.taken t.taken.rest in let b = ap length t.taken.split in let c = t.counted in omega (arith, a, b, c, le))
        where
          short : (rs : List Entry) → length rs ≤ 0 → rs ≡ []
          short [] k = refl
          short (r ∷ rs) k = absurd (omega arith)

      ends : (xs rs : List Entry) → xs ++ rs ≡ memory → rs ≡ [] → xs ≡ memory
      ends xs rs whole none = sym (append-nil xs) ∙ ap (λ r. xs ++ r) (sym none) ∙ whole

  -- so the output is behind the whole memory
  pub at_end : (from next count : ℕ) (memory : List Entry) (front ahead : Option Entry) (s : State) (start site : S) → TakenTo g options snapshots from next memory front ahead s start site count → ((ahead ≡ None) ⊎ (length memory ≤ count))
      → IsAt g (added_of options snapshots from memory) from next s start site × (next ≡ next_of options snapshots from memory)
  at_end from next count memory front ahead s start site t end =
      let all = taken_all from next count memory front ahead s start site t end in
      (subst (λ (es : List Entry). IsAt g (added_of options snapshots from es) from next s start site) all t.taken.at, t.taken.next_is ∙ ap (next_of options snapshots from) all)
