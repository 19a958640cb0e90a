-- What was told decides where a front of a history's replies ends.
use Rattle.std.proofs.Common.{◌≡◌, ℕ, ◌+◌, ◌-◌, ◌≤◌, Bool, true, false, cond, leb, ◌||◌, List, [], ◌∷◌, ◌++◌, length, refl, sym, ◌∙◌, ap, subst, arith, append_assoc, length-append}
use Rattle.std.specs.FinMap.{get}
use Rattle.std.specs.List.{list_any}
use Rattle.std.proofs.lemmas.Bool.{leb-true, leb-false}
use Rattle.bl_edit.specs.Options.{Values}
use Rattle.bl_script.specs.declared.command.Command.TheVariants as command
use Rattle.bl_script.specs.declared.command.Parsed.{Parsed}
use Rattle.bl_script.specs.declared.command.Parsed.TheVariants.{Nothing, Refused, Go}
use Rattle.bl_machine.specs.State.{State}
use Rattle.bl_machine.specs.Step.{Line, Step, Obeys, writes_of, pairs_between}
use Rattle.bl_machine.specs.History.{Runs, orders_of, told_by}
use Rattle.bl_machine.specs.Synced.{syncs, whole_within, before_sync, begun}
use Rattle.bl_machine.specs.Laws.{ToldDecides}
use Rattle.bl_machine.proofs.LineLemmas.{same_value, same_pairs, same_files}
use Rattle.bl_machine.proofs.SyncedLemmas.{test, Alike}

-- Of two replies to one line, the one cannot go on where the other ends: bytes that begin with both begin with the same.
same_reply : (o other : Values) (a b c d : State) (order : Parsed) (x y u v : List ℕ) → Obeys o order a x c → Obeys other order b y d → x ++ u ≡ y ++ v → x ≡ y
same_reply o other a b c d Nothing x y u v p q e = p.told_is ∙ sym q.told_is
same_reply o other a b c d (Refused why) x y u v p q e = p.told_is ∙ sym q.told_is
same_reply o other a b c d (Go (command.Put key value)) x y u v p q e = p.told_is ∙ sym q.told_is
same_reply o other a b c d (Go (command.Del key)) x y u v p q e = p.told_is ∙ sym q.told_is
same_reply o other a b c d (Go (command.Batch operations)) x y u v p q e = p.told_is ∙ sym q.told_is
same_reply o other a b c d (Go (command.Get key)) x y u v p q e =
    p.told_is ∙ same_value (get a.now key) (get b.now key) u v (ap (λ t. t ++ u) (sym p.told_is) ∙ e ∙ ap (λ t. t ++ v) q.told_is) ∙ sym q.told_is
same_reply o other a b c d (Go (command.Scan from to)) x y u v p q e =
    p.told_is ∙ same_pairs (pairs_between from to a.now) (pairs_between from to b.now) u v (ap (λ t. t ++ u) (sym p.told_is) ∙ e ∙ ap (λ t. t ++ v) q.told_is) ∙ sym q.told_is
same_reply o other a b c d (Go command.Sync) x y u v p q e = p.told_is ∙ sym q.told_is
same_reply o other a b c d (Go command.Flush) x y u v p q e = p.told_is ∙ sym q.told_is
same_reply o other a b c d (Go command.Files) x y u v p q e =
    p.told_is ∙ same_files a.listing b.listing u v (ap (λ t. t ++ u) (sym p.told_is) ∙ e ∙ ap (λ t. t ++ v) q.told_is) ∙ sym q.told_is
same_reply o other a b c d (Go command.Reopen) x y u v p q e = p.told_is ∙ sym q.told_is

same_count : (a b : State) (order : Parsed) → length (writes_of a order) ≡ length (writes_of b order)
same_count a b Nothing = refl
same_count a b (Refused why) = refl
same_count a b (Go (command.Put key value)) = refl
same_count a b (Go (command.Del key)) = refl
same_count a b (Go (command.Batch operations)) = refl
same_count a b (Go (command.Get key)) = refl
same_count a b (Go (command.Scan from to)) = refl
same_count a b (Go command.Sync) = refl
same_count a b (Go command.Flush) = refl
same_count a b (Go command.Files) = refl
same_count a b (Go command.Reopen) = refl

-- the one of two fronts that is not shorter begins with the other
record Splits (a b c d : List ℕ) : Type 0 where
  pub rest : List ℕ
  pub front : c ≡ a ++ rest
  pub behind : b ≡ rest ++ d

splits : (a b c d : List ℕ) → length a ≤ length c → a ++ b ≡ c ++ d → Splits a b c d
splits [] b c d le e = record { rest = c; front = refl; behind = e }
splits (x ∷ a) b [] d le e = absurd (omega (arith, le))
splits (x ∷ a) b (y ∷ c) d le e =
    let is : x ≡ y = cc e in
    let more : a ++ b ≡ c ++ d = cc e in
    let s = splits a b c d (omega (arith, le)) more in
    record { rest = s.rest; front = ap (λ z. z ∷ c) (sym is) ∙ ap (λ l. x ∷ l) s.front; behind = s.behind }

-- a reply that lies whole in what was told is the other's too
whole_in_both : (o other : Values) (a b : State) (x y : Line) (c d : State) (front more others xs ys : List ℕ) → Step o a x c → Step other b y d → x.order ≡ y.order
    → length x.told ≤ length front → front ++ more ≡ x.told ++ xs → front ++ others ≡ y.told ++ ys → x.told ≡ y.told
whole_in_both o other a b x y c d front more others xs ys first second order le e f =
    let s = splits x.told xs front more le (sym e) in
    let O : Parsed → Type 0 = λ p. Obeys o p a x.told c in
    same_reply o other a b c d y.order x.told y.told (s.rest ++ others) ys (subst O order first.obeys) second.obeys
    (sym (append_assoc x.told s.rest others) ∙ ap (λ t. t ++ others) (sym s.front) ∙ f)

cancel : (a b c : List ℕ) → a ++ b ≡ a ++ c → b ≡ c
cancel [] b c e = e
cancel (x ∷ a) b c e = let more : a ++ b ≡ a ++ c = cc e in cancel a b c more

abbrev Same : ℕ → List Line → List Line → Type 0
Same n xs ys = Alike (whole_within n xs) (whole_within n ys) × (begun n xs ≡ begun n ys)

-- one line: its reply lies whole in both, or in neither
one_line : (x y : Line) (xs ys : List Line) (n : ℕ) → length x.wrote ≡ length y.wrote → test x ≡ test y → (length x.told ≤ n → x.told ≡ y.told) → (length y.told ≤ n → x.told ≡ y.told)
    → (length x.told ≤ n → Same (n - length x.told) xs ys) → (s t : Bool) → leb (length x.told) n ≡ s → leb (length y.told) n ≡ t
    → Alike (cond s (x ∷ whole_within (n - length x.told) xs) []) (cond t (y ∷ whole_within (n - length y.told) ys) [])
    × (length x.wrote + cond s (begun (n - length x.told) xs) 0 ≡ length y.wrote + cond t (begun (n - length y.told) ys) 0)
unfolding before_sync Alike
one_line x y xs ys n wrote sync first second rest true true is also =
    let le : length x.told ≤ n = leb-true (length x.told) n is in
    let h = rest le in
    let k : n - length x.told ≡ n - length y.told = ap (λ (t : List ℕ). n - length t) (first le) in
    let xw = length x.wrote in
    let a = whole_within (n - length x.told) xs in
    let b = whole_within (n - length x.told) ys in
    let P : ℕ → Type 0 = λ m.
    ((cond (list_any test a) (xw + before_sync a) 0 ≡ cond (list_any test (whole_within m ys)) (length y.wrote + before_sync (whole_within m ys)) 0)
    × ((test x || list_any test a) ≡ (test y || list_any test (whole_within m ys))))
    × (xw + begun (n - length x.told) xs ≡ length y.wrote + begun m ys) in
    subst P k (
      (
        ap (λ t. cond t (xw + before_sync a) 0) h.0.1 ∙ ap (λ m. cond (list_any test b) (xw + m) 0) h.0.0 ∙ ap (λ m. cond (list_any test b) (m + before_sync b) 0) wrote,
        ap (λ t. test x || t) h.0.1 ∙ ap (λ t. t || list_any test b) sync,
      ),
      ap (λ m. xw + m) h.1 ∙ ap (λ m. m + begun (n - length x.told) ys) wrote,
    )
one_line x y xs ys n wrote sync first second rest true false is also =
    let le : length x.told ≤ n = leb-true (length x.told) n is in
    absurd (omega (arith, le, ap length (first le), leb-false (length y.told) n also))
one_line x y xs ys n wrote sync first second rest false true is also =
    let le : length y.told ≤ n = leb-true (length y.told) n also in
    absurd (omega (arith, le, ap length (second le), leb-false (length x.told) n is))
one_line x y xs ys n wrote sync first second rest false false is also = ((refl, refl), ap (λ m. m + 0) wrote)

decides : (o other : Values) (xs ys : List Line) (a b c d : State) (front more others : List ℕ) → orders_of xs ≡ orders_of ys → Runs o a xs c → Runs other b ys d
    → front ++ more ≡ told_by xs → front ++ others ≡ told_by ys → Same (length front) xs ys
unfolding whole_within begun Alike
decides o other [] [] a b c d front more others same p q e f = ((refl, refl), refl)
decides o other [] (y ∷ ys) a b c d front more others same p q e f = cc same
decides o other (x ∷ xs) [] a b c d front more others same p q e f = cc same
decides o other (x ∷ xs) (y ∷ ys) a b c d front more others same (mid, first, p) (between, second, q) e f =
    let order : x.order ≡ y.order = cc same in
    let rest : orders_of xs ≡ orders_of ys = cc same in
    let wrote : length x.wrote ≡ length y.wrote = ap length first.wrote_is ∙ same_count a b x.order ∙ ap (λ p. length (writes_of b p)) order ∙ sym (ap length second.wrote_is) in
    let told_first : length x.told ≤ length front → x.told ≡ y.told =
    λ le. whole_in_both o other a b x y mid between front more others (told_by xs) (told_by ys) first second order le e f in
    let told_second : length y.told ≤ length front → x.told ≡ y.told =
    λ le. sym (whole_in_both other o b a y x between mid front others more (told_by ys) (told_by xs) second first (sym order) le f e) in
    let behind : length x.told ≤ length front → Same (length front - length x.told) xs ys = λ le.
    let s = splits x.told (told_by xs) front more le (sym e) in
    let others_behind : s.rest ++ others ≡ told_by ys =
    cancel x.told (s.rest ++ others) (told_by ys)
    (sym (append_assoc x.told s.rest others) ∙ ap (λ t. t ++ others) (sym s.front) ∙ f ∙ ap (λ t. t ++ told_by ys) (sym (told_first le))) in
    let count : length s.rest ≡ length front - length x.told = omega (arith, ap length s.front, length-append x.told s.rest) in
    let P : ℕ → Type 0 = λ n. Same n xs ys in
    subst P count (decides o other xs ys mid between c d s.rest more others rest p q (sym s.behind) others_behind) in
    one_line x y xs ys (length front) wrote (ap syncs order) told_first told_second behind (leb (length x.told) (length front)) (leb (length y.told) (length front)) refl refl

pub told_decides : ToldDecides
unfolding Alike
told_decides o other a b given xs ys c d front more others first second e f =
    let same = decides o other xs ys a b c d front more others (first.orders_are ∙ sym second.orders_are) first.runs second.runs e f in
    (same.0.0, same.1)
