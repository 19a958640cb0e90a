-- Parts of a call, one after the other.
use Rattle.std.proofs.Common.{◌≡◌, ◌≢◌, ℕ, zero, suc, ◌+◌, ◌<◌, ◌≤◌, Bool, true, false, List, [], ◌∷◌, ◌++◌, length, get_or, refl, sym, ◌∙◌, ap, subst, inl, inr, ⊎_elim, arith, append_assoc, append-nil}
use Rattle.std.specs.Prelude.{◌⊎◌, ◌^◌, map, Contains, Result, Ok, Err, IfErr, IsErrOf}
use Rattle.std.specs.List.{AllByRecursion, range_with_len}
use Rattle.std.proofs.lemmas.Bool.{false≢true}
use Rattle.std.proofs.lemmas.Grind.{flat_map-append}
use Rattle.bl_site.specs.Causes.{Rose}
use Rattle.bl_site.specs.Disk.{Disk, Name}
use Rattle.bl_site.specs.Quiet.{TellsNothing}
use Rattle.bl_site.specs.declared.site.Site.{Ghosts}
use Rattle.bl_site.proofs.Quiet.{silent_on}
use Rattle.bl_names.specs.Names.{name_of}
use Rattle.bl_names.specs.declared.name.FileName.TheVariants.{Table, Blob}
use Rattle.bl_entry.specs.declared.key.Entry.{Entry}
use Rattle.bl_out.specs.Causes.{IsAddCause, IsSealCause}
use Rattle.bl_out.specs.Held.{HoldsOut}
use Rattle.bl_out.specs.Outputs.{Out, OutBlob, OutTable, new_blob, new_table, close_table, on_last, put_entry}
use Rattle.bl_out.specs.Quiet.{IsNoneOf, TouchesOnly}
use Rattle.bl_out.specs.States.{AscendTo, Becomes, Draws, IsOrdered, IsOut, State, names_of}
use Rattle.bl_out.specs.Steps.{Acts, closed_last, store_value, with_blob, with_entry, with_table, with_value}
use Rattle.bl_out.specs.declared.error.JobErr.{JobErr}
use Rattle.bl_out.specs.declared.error.JobErr.TheVariants.{Disk as disk_failed, Full, OutOfMemory}
use Rattle.bl_out.proofs.FileLemmas.{all_front, ascend_later, ascend_more}
use Rattle.bl_out.proofs.QuietLemmas.{IsNow, IsOnly, touches_join, touches_more, touches_nothing}

-- ---- memories

out_given : (o : Out) (s : State) (es : List Entry) → IsOut o s → IsOut (record o { given = es }) s
out_given o s es is = record { options = is.options; one = is.one; tables = is.tables; blobs = is.blobs; drawn = is.drawn; sealed = is.sealed }

holds_given : (disk : Disk) (o : Out) (es : List Entry) → HoldsOut disk o → HoldsOut disk (record o { given = es })
holds_given disk o es held = record { sealed = held.sealed; others = held.others }

module _ {S : Type 0} (g : Ghosts S) where
  pub becomes_same : (next : ℕ) (s : State) (site : S) → Becomes g next (λ o. o) s s site site
  becomes_same next s site = record { out = λ o is. is; holds = λ shown o is up held. held; there = λ shown there. there; certain = λ shown sure. sure }

  pub becomes_then : (next later : ℕ) (f h : Out → Out) (a b c : State) (s t u : S) → ((o : Out) → IsOut o a → IsOrdered next o → IsOrdered later (f o))
      → Becomes g next f a b s t → Becomes g later h b c t u → Becomes g next (λ o. h (f o)) a c s u
  becomes_then next later f h a b c s t u ordered first second = record {
    out = λ o is. second.out (f o) (first.out o is);
    holds = λ shown o is up held. second.holds shown (f o) (first.out o is) (ordered o is up) (first.holds shown o is up held);
    there = λ shown there. second.there shown (first.there shown there);
    certain = λ shown sure. second.certain shown (first.certain shown sure);
  }

  -- the same, but for what is said to be given
  pub becomes_as : (next : ℕ) (f h : Out → Out) (a b : State) (s t : S) → ((o : Out) → IsOut o a → record (f o) { given = (h o).given } ≡ h o) → Becomes g next f a b s t → Becomes g next h a b s t
  becomes_as next f h a b s t same first = record {
    out = λ o is. subst (λ (p : Out). IsOut p b) (same o is) (out_given (f o) b (h o).given (first.out o is));
    holds = λ shown o is up held. subst (HoldsOut (g.disk t)) (same o is) (holds_given (g.disk t) (f o) (h o).given (first.holds shown o is up held));
    there = first.there;
    certain = first.certain;
  }

-- ---- numbers

pub on_last_numbers : {A : Type 0} (number : A → ℕ) (f : A → A) → ((x : A) → number (f x) ≡ number x) → (xs : List A) → map number (on_last f xs) ≡ map number xs
on_last_numbers number f same [] = refl
on_last_numbers number f same (x ∷ []) = ap (λ n. n ∷ []) (same x)
on_last_numbers number f same (x ∷ y ∷ xs) = ap (λ ns. number x ∷ ns) (on_last_numbers number f same (y ∷ xs))

pub ordered_closed : (next : ℕ) (o : Out) → IsOrdered next o → IsOrdered next (closed_last o)
ordered_closed next o up = record { tables = subst (AscendTo next) (sym (on_last_numbers (λ (t : OutTable). t.number) close_table (λ t. refl) o.tables)) up.tables; blobs = up.blobs }

pub ordered_table : (next : ℕ) (o : Out) → IsOrdered next o → IsOrdered (next + 1) (with_table next o)
ordered_table next o up = record { tables = ascend_more (λ (t : OutTable). t.number) next o.tables (new_table next) refl up.tables; blobs = ascend_later next (map (λ (b : OutBlob). b.number) o.blobs) up.blobs }

pub ordered_blob : (next : ℕ) (o : Out) → IsOrdered next o → IsOrdered (next + 1) (with_blob next o)
ordered_blob next o up = record { tables = ascend_later next (map (λ (t : OutTable). t.number) o.tables) up.tables; blobs = ascend_more (λ (b : OutBlob). b.number) next o.blobs (new_blob next) refl up.blobs }

pub ordered_entry : (next : ℕ) (e : Entry) (o : Out) → IsOrdered next o → IsOrdered next (with_entry e o)
ordered_entry next e o up = record { tables = subst (AscendTo next) (sym (on_last_numbers (λ (t : OutTable). t.number) (put_entry e) (λ t. refl) o.tables)) up.tables; blobs = up.blobs }

pub ordered_value : (next : ℕ) (e : Entry) (o : Out) → IsOrdered next o → IsOrdered next (with_value e o)
ordered_value next e o up = record { tables = up.tables; blobs = subst (AscendTo next) (sym (on_last_numbers (λ (b : OutBlob). b.number) (store_value e) (λ b. refl) o.blobs)) up.blobs }

pub ordered_later : (next : ℕ) (o : Out) → IsOrdered next o → IsOrdered (next + 1) o
ordered_later next o up = record { tables = ascend_later next (map (λ (t : OutTable). t.number) o.tables) up.tables; blobs = ascend_later next (map (λ (b : OutBlob). b.number) o.blobs) up.blobs }

-- ---- numbers drawn

range_join : (a m n : ℕ) → range_with_len a (m + n) ≡ range_with_len a m ++ range_with_len (a + m) n
range_join a zero n =
    let e : zero + n ≡ n = omega arith in
    let f : a ≡ a + zero = omega arith in
    ap (range_with_len a) e ∙ ap (λ (b : ℕ). range_with_len b n) f
range_join a (suc m) n =
    let e : suc m + n ≡ suc (m + n) = omega arith in
    let f : a + 1 + m ≡ a + suc m = omega arith in
    ap (range_with_len a) e ∙ ap (λ (ns : List ℕ). a ∷ ns) (range_join (a + 1) m n ∙ ap (λ (b : ℕ). range_with_len (a + 1) m ++ range_with_len b n) f)

pub draws_join : (m n : ℕ) (a b c : State) (k l p : ℕ) → Draws m a b k l → Draws n b c l p → Draws (m + n) a c k p
draws_join m n a b c k l p first second =
    let mid : l ≡ k + first.made = first.next in
    record {
      made = first.made + second.made;
      within = omega (arith, first.within, second.within);
      drawn = second.drawn ∙ ap (λ (ns : List ℕ). ns ++ range_with_len l second.made) first.drawn ∙ append_assoc a.drawn (range_with_len k first.made) (range_with_len l second.made)
          ∙ ap (λ (q : ℕ). a.drawn ++ (range_with_len k first.made ++ range_with_len q second.made)) mid ∙ ap (λ (ns : List ℕ). a.drawn ++ ns) (sym (range_join k first.made second.made));
      next = let e : p ≡ l + second.made = second.next in omega arith;
    }

pub none_drawn : (n : ℕ) (a b : State) (k l : ℕ) → b.drawn ≡ a.drawn → l ≡ k → Draws n a b k l
none_drawn n a b k l same next = record { made = 0; within = omega arith; drawn = same ∙ sym (append-nil a.drawn); next = omega arith }

-- ---- names

pub none_of_front : (ns ms : List ℕ) (name : Name) → IsNoneOf (names_of (ns ++ ms)) name → IsNoneOf (names_of ns) name
none_of_front ns ms name none = all_front (λ (n : Name). n ≢ name) (names_of ns) (names_of ms) (subst (AllByRecursion (λ (n : Name). n ≢ name)) (flat_map-append (λ (n : ℕ). name_of (Table n) ∷ name_of (Blob n) ∷ []) ns ms) none)

pub all_at : {A : Type 0} (P : A → Type 0) (xs : List A) (x : A) → AllByRecursion P xs → Contains xs x → P x
all_at P xs x all (k, less, is) = subst P is (at P xs k x all less)
  where
    at : {A : Type 0} (P : A → Type 0) (xs : List A) (k : ℕ) (d : A) → AllByRecursion P xs → k < length xs → P (get_or xs k d)
    at P [] k d all less = absurd (omega arith)
    at P (y ∷ ys) zero d all less = all.0
    at P (y ∷ ys) (suc k) d all less = at P ys k d all.1 (omega arith)

not_these : (ns : List ℕ) (name : Name) → IsNoneOf (names_of ns) name → AllByRecursion (λ n. (name_of (Table n) ≢ name) × (name_of (Blob n) ≢ name)) ns
not_these [] name none = tt
not_these (n ∷ ns) name none = ((none.0, none.1.0), not_these ns name none.1.1)

pub not_table : (ns : List ℕ) (n : ℕ) → Contains ns n → (name : Name) → IsNoneOf (names_of ns) name → IsNoneOf (name_of (Table n) ∷ []) name
not_table ns n is name none = ((all_at (λ (m : ℕ). (name_of (Table m) ≢ name) × (name_of (Blob m) ≢ name)) ns n (not_these ns name none) is).0, tt)

pub not_blob : (ns : List ℕ) (n : ℕ) → Contains ns n → (name : Name) → IsNoneOf (names_of ns) name → IsNoneOf (name_of (Blob n) ∷ []) name
not_blob ns n is name none = ((all_at (λ (m : ℕ). (name_of (Table m) ≢ name) × (name_of (Blob m) ≢ name)) ns n (not_these ns name none) is).1, tt)

-- ---- whatever is answered

rose_twice : (a b c : ℕ) → Rose a b → Rose b c → Rose a c
rose_twice a b c first second = omega arith

rose_later : (a b c : ℕ) → Rose a b → (c ≡ b) ⊎ Rose b c → Rose a c
rose_later a b c rose (inl same) = subst (Rose a) (sym same) rose
rose_later a b c rose (inr more) = rose_twice a b c rose more

rose_before : (a b c : ℕ) → (b ≡ a) ⊎ Rose a b → Rose b c → Rose a c
rose_before a b c (inl same) rose = subst (λ (n : ℕ). Rose n c) same rose
rose_before a b c (inr more) rose = rose_twice a b c more rose

rises : (a b c : ℕ) → (b ≡ a) ⊎ Rose a b → (c ≡ b) ⊎ Rose b c → (c ≡ a) ⊎ Rose a c
rises a b c first (inr rose) = inr (rose_before a b c first rose)
rises a b c (inl was) (inl same) = inl (same ∙ was)
rises a b c (inr rose) (inl same) = inr (subst (Rose a) (sym same) rose)

fault_before : (a b c : ℕ) → a ≤ b → Rose b c → Rose a c
fault_before a b c le rose = omega arith

pub seal_causes : {T : Type 0} (result : Result T JobErr) → IfErr result IsSealCause → IfErr result IsAddCause
seal_causes (Ok x) c = tt
seal_causes (Err e) c = ⊎_elim (λ disk. inl disk) (λ memory. inr (inr memory)) c

memory_cause : {T : Type 0} (result : Result T JobErr) → IfErr result (λ e. e ≡ OutOfMemory) → IfErr result IsAddCause
memory_cause (Ok x) c = tt
memory_cause (Err e) c = inr (inr c)

memory_alone : {T : Type 0} (result : Result T JobErr) (P : Type 0) → IfErr result (λ e. e ≡ OutOfMemory) → IfErr result (λ e. P → e ≡ OutOfMemory)
memory_alone (Ok x) P c = tt
memory_alone (Err e) P c = λ p. c

not_disk : {T : Type 0} (result : Result T JobErr) → IfErr result (λ e. e ≡ OutOfMemory) → IsErrOf result disk_failed → ⊥
not_disk (Ok x) c is = absurd cc
not_disk (Err e) c is = absurd cc

never : {T : Type 0} (result : Result T JobErr) (P : Type 0) → (P → ⊥) → IfErr result (λ e. P → e ≡ OutOfMemory)
never (Ok x) P not = tt
never (Err e) P not = λ p. absurd (not p)

module _ {S T : Type 0} (g : Ghosts S) where
  -- the folder was not asked
  pub acts_still : (result : Result T JobErr) (s : State) (site : S) → (g.shows → IsOnly g site) → (g.shows → IsNow g site) → IfErr result (λ e. e ≡ OutOfMemory) → Acts g result s s site site
  acts_still result s site only now memory = record {
    touches = touches_nothing g (names_of s.drawn) site only now;
    tells_nothing = record { told = λ shown. refl; later = omega arith; tell_faults = refl };
    changes = inl refl;
    was_set = λ set. set;
    asked = λ set. inl set;
    still = λ unset. (refl, refl);
    memory = memory_alone result (s.failed ≡ false) memory;
    causes = memory_cause result memory;
    disk = λ is. absurd (not_disk result memory is);
  }

  -- one call
  pub acts_once : (result : Result T JobErr) (a b : State) (s t : S) (name : Name) → b.failed ≡ true → ((other : Name) → IsNoneOf (names_of b.drawn) other → IsNoneOf (name ∷ []) other)
      → TouchesOnly g (name ∷ []) s t → TellsNothing g s t → Rose (g.changes s) (g.changes t) → IfErr result IsSealCause → (IsErrOf result disk_failed → Rose (g.disk_faults s) (g.disk_faults t)) → Acts g result a b s t
  acts_once result a b s t name set among touches silent asked causes disk = record {
    touches = touches_more g (name ∷ []) (names_of b.drawn) s t among touches;
    tells_nothing = silent;
    changes = inr asked;
    was_set = λ was. set;
    asked = λ is. inr (inl asked);
    still = λ unset. absurd (false≢true (sym unset ∙ set));
    memory = never result (b.failed ≡ false) (λ unset. false≢true (sym unset ∙ set));
    causes = seal_causes result causes;
    disk = disk;
  }

-- ---- the next part of a call

not_set : (a b : Bool) → (a ≡ true → b ≡ true) → b ≡ false → a ≡ false
not_set true b stays unset = absurd (false≢true (sym unset ∙ stays refl))
not_set false b stays unset = refl

module _ {S T U : Type 0} (g : Ghosts S) where
  pub acts_join : (x : T) (result : Result U JobErr) (a b c : State) (s t u : S) (ns : List ℕ) → (g.shows → g.certain s → g.certain t) → c.drawn ≡ b.drawn ++ ns
      → Acts {T = T} g (Ok x) a b s t → Acts g result b c t u → Acts g result a c s u
  acts_join x result a b c s t u ns certain more first second = record {
    touches = touches_join g (names_of c.drawn) s t u
        (touches_more g (names_of b.drawn) (names_of c.drawn) s t (λ name none. none_of_front b.drawn ns name (subst (λ (ms : List ℕ). IsNoneOf (names_of ms) name) more none)) first.touches)
        certain first.tells_nothing second.touches;
    tells_nothing = silent_on g s t u first.tells_nothing second.tells_nothing;
    changes = rises (g.changes s) (g.changes t) (g.changes u) first.changes second.changes;
    was_set = λ set. second.was_set (first.was_set set);
    asked = λ set. ⊎_elim
        (λ mid. ⊎_elim (λ was. inl was) (λ how. ⊎_elim (λ rose. inr (inl (rose_later (g.changes s) (g.changes t) (g.changes u) rose second.changes))) (λ full. absurd cc) how) (first.asked mid))
        (λ how. ⊎_elim (λ rose. inr (inl (rose_before (g.changes s) (g.changes t) (g.changes u) first.changes rose))) (λ full. inr (inr full)) how)
        (second.asked set);
    still = λ unset. let last = second.still unset in let before = first.still (not_set b.failed c.failed second.was_set unset) in (last.0 ∙ before.0, last.1 ∙ before.1);
    memory = second.memory;
    causes = second.causes;
    disk = λ is. fault_before (g.disk_faults s) (g.disk_faults t) (g.disk_faults u) first.tells_nothing.later (second.disk is);
  }

  -- it was not done, and neither is the whole
  pub acts_stop : (e : JobErr) (a b : State) (s t : S) → Acts {T = T} g (Err e) a b s t → Acts {T = U} g (Err e) a b s t
  acts_stop e a b s t first = record {
    touches = first.touches;
    tells_nothing = first.tells_nothing;
    changes = first.changes;
    was_set = first.was_set;
    asked = λ set. ⊎_elim (λ was. inl was) (λ how. ⊎_elim (λ rose. inr (inl rose)) (λ full. let is : e ≡ Full (10 ^ 15) = cc in inr (inr (ap Err is))) how) (first.asked set);
    still = first.still;
    memory = first.memory;
    causes = first.causes;
    disk = λ is. let what : e ≡ disk_failed = cc in first.disk (ap Err what);
  }
