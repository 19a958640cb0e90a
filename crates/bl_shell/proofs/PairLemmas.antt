-- The lines of pairs, one after another, of which the last may wait.
use Rattle.std.proofs.Common.{◌≡◌, ℕ, List, [], ◌∷◌, ◌++◌, flat_map, sym, ◌∙◌, ap, append_assoc, append-nil}
use Rattle.std.proofs.lemmas.Grind.{flat_map-append}
use Rattle.std.proofs.lemmas.List.Concat.{flat_map-cons}
use Rattle.bl_script.specs.Printing.{pair_line, end_line}
use Rattle.bl_shell.specs.Carried.{TellsFront}

abbrev pub lines_of : List (List ℕ × List ℕ) → List ℕ
lines_of pairs = flat_map (λ p. pair_line p.0 p.1) pairs

both : (done rest : List (List ℕ × List ℕ)) → lines_of (done ++ rest) ≡ lines_of done ++ lines_of rest
both done rest = flat_map-append (λ (p : List ℕ × List ℕ). pair_line p.0 p.1) done rest

-- a front of some bytes was told, and one of those that waited and some more
pub tells_then : (bytes more waits told mid next : List ℕ) (t : TellsFront bytes told mid) → t.rest ≡ waits → TellsFront (waits ++ more) mid next → TellsFront (bytes ++ more) told next
tells_then bytes more waits told mid next t left u = record {
  front = t.front ++ u.front;
  rest = u.rest;
  whole = append_assoc t.front u.front u.rest ∙ ap (λ b. t.front ++ b) u.whole ∙ sym (append_assoc t.front waits more)
      ∙ ap (λ b. b ++ more) (ap (λ w. t.front ++ w) (sym left) ∙ t.whole);
  told_is = u.told_is ∙ ap (λ m. m ++ u.front) t.told_is ∙ append_assoc told t.front u.front;
}

-- of longer bytes
front_of : (bytes more all told next : List ℕ) → bytes ++ more ≡ all → TellsFront bytes told next → TellsFront all told next
front_of bytes more all told next is t = record {
  front = t.front;
  rest = t.rest ++ more;
  whole = sym (append_assoc t.front t.rest more) ∙ ap (λ b. b ++ more) t.whole ∙ is;
  told_is = t.told_is;
}

pub line_more : (done : List (List ℕ × List ℕ)) (x : List ℕ × List ℕ) → lines_of done ++ pair_line x.0 x.1 ≡ lines_of (done ++ x ∷ [])
line_more done x =
    ap (λ b. lines_of done ++ b) (sym (flat_map-cons (λ (p : List ℕ × List ℕ). pair_line p.0 p.1) x [] ∙ append-nil (pair_line x.0 x.1))) ∙ sym (both done (x ∷ []))

pub one_more : (done rest left all : List (List ℕ × List ℕ)) (x : List ℕ × List ℕ) → done ++ rest ≡ all → rest ≡ x ∷ left → (done ++ x ∷ []) ++ left ≡ all
one_more done rest left all x is first = append_assoc done (x ∷ []) left ∙ ap (λ r. done ++ r) (sym first) ∙ is

-- between two pairs
pub between : (done rest all : List (List ℕ × List ℕ)) (told next : List ℕ) → done ++ rest ≡ all → TellsFront (lines_of done) told next → TellsFront (lines_of all ++ end_line) told next
between done rest all told next is t =
    front_of (lines_of done) (lines_of rest ++ end_line) (lines_of all ++ end_line) told next
    (sym (append_assoc (lines_of done) (lines_of rest) end_line) ∙ ap (λ x. x ++ end_line) (sym (both done rest) ∙ ap lines_of is)) t

-- in a pair
pub within : (done rest left all : List (List ℕ × List ℕ)) (x : List ℕ × List ℕ) (waits told mid next : List ℕ) → done ++ rest ≡ all → rest ≡ x ∷ left
    → (t : TellsFront (lines_of done) told mid) → t.rest ≡ waits → TellsFront (waits ++ pair_line x.0 x.1) mid next → TellsFront (lines_of all ++ end_line) told next
within done rest left all x waits told mid next is first t wait u =
    let joined = tells_then (lines_of done) (pair_line x.0 x.1) waits told mid next t wait u in
    between (done ++ x ∷ []) left all told next (one_more done rest left all x is first)
    (front_of (lines_of done ++ pair_line x.0 x.1) [] (lines_of (done ++ x ∷ [])) told next (append-nil (lines_of done ++ pair_line x.0 x.1) ∙ line_more done x) joined)

-- a pair more
pub more : (done : List (List ℕ × List ℕ)) (x : List ℕ × List ℕ) (waits left told mid next : List ℕ) (t : TellsFront (lines_of done) told mid) → t.rest ≡ waits
    → (u : TellsFront (waits ++ pair_line x.0 x.1) mid next) → u.rest ≡ left → (v : TellsFront (lines_of (done ++ x ∷ [])) told next) × (v.rest ≡ left)
unfolding tells_then
more done x waits left told mid next t wait u is =
    let joined = tells_then (lines_of done) (pair_line x.0 x.1) waits told mid next t wait u in (
      record { front = joined.front; rest = joined.rest; whole = joined.whole ∙ line_more done x; told_is = joined.told_is },
      is,
    )

-- behind them
pub at_end : (done rest all : List (List ℕ × List ℕ)) (waits told mid next : List ℕ) → done ++ rest ≡ all → rest ≡ [] → (t : TellsFront (lines_of done) told mid) → t.rest ≡ waits
    → TellsFront (waits ++ end_line) mid next → TellsFront (lines_of all ++ end_line) told next
at_end done rest all waits told mid next is none t wait u =
    let same : done ≡ all = sym (append-nil done) ∙ ap (λ r. done ++ r) (sym none) ∙ is in
    let joined = tells_then (lines_of done) end_line waits told mid next t wait u in
    record { front = joined.front; rest = joined.rest; whole = joined.whole ∙ ap (λ d. lines_of d ++ end_line) same; told_is = joined.told_is }

-- all of them
pub all_told : (done rest all : List (List ℕ × List ℕ)) (waits told mid next : List ℕ) → done ++ rest ≡ all → rest ≡ [] → (t : TellsFront (lines_of done) told mid) → t.rest ≡ waits
    → next ≡ mid ++ (waits ++ end_line) → next ≡ told ++ (lines_of all ++ end_line)
all_told done rest all waits told mid next is none t wait next_is =
    let same : done ≡ all = sym (append-nil done) ∙ ap (λ r. done ++ r) (sym none) ∙ is in
    next_is ∙ ap (λ m. m ++ (waits ++ end_line)) t.told_is ∙ append_assoc told t.front (waits ++ end_line)
    ∙ ap (λ b. told ++ b) (sym (append_assoc t.front waits end_line) ∙ ap (λ b. b ++ end_line) (ap (λ w. t.front ++ w) (sym wait) ∙ t.whole ∙ ap lines_of same))
