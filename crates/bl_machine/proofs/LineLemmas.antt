-- Lines of text: where the first of some lines ends does not depend on what follows it.
use Rattle.std.proofs.Common.{◌≡◌, ◌≢◌, ℕ, zero, suc, ◌+◌, Bool, true, false, cond, List, [], ◌∷◌, ◌++◌, get_or, drop, codes, refl, sym, ◌∙◌, ap, arith, append_assoc, flat_map}
use Rattle.std.specs.Prelude.{◌==◌, ◌/◌, ◌%◌, ◌||◌, nat_lt, decimal, Option, None, Some}
use Rattle.std.specs.List.{list_any}
use Rattle.std.specs.Fmt.{digits, digits_onto, digit_glyph}
use Rattle.std.proofs.lemmas.Bool.Decides.{nat_tests}
use Rattle.std.proofs.lemmas.List.Folds.{list_any-append}
use Rattle.percent_encoding.specs.Percent.{percent_encode_byte}
use Rattle.bl_edit.specs.declared.edit.NewTable.{NewTable}
use Rattle.bl_build.specs.declared.meta.BlobMeta.{BlobMeta}
use Rattle.bl_build.specs.Listing.{Listing}
use Rattle.bl_script.specs.Printing.{is_plain, escaped, end_line, value_line, pair_line, table_line, blob_line}
use Rattle.bl_machine.specs.Step.{scan_lines, files_lines, shown_table, shown_blob}

-- a line's end stands among these bytes
abbrev ends : List ℕ → Bool
ends bytes = list_any (λ b. b == 10) bytes

none_joined : (xs ys : List ℕ) → ends xs ≡ false → ends ys ≡ false → ends (xs ++ ys) ≡ false
none_joined xs ys none no_more = list_any-append (λ (b : ℕ). b == 10) xs ys ∙ ap (λ t. t || ends ys) none ∙ no_more

none_then : (b : ℕ) (bs : List ℕ) → b ≢ 10 → ends bs ≡ false → ends (b ∷ bs) ≡ false
none_then b bs other none = let no : (b == 10) ≡ false = grind (arith, nat_tests) in ap (λ t. t || ends bs) no ∙ none

-- ---- digits and escapes

glyph : (upper : Bool) (d : ℕ) → digit_glyph upper d ≢ 10
glyph true d = at_least (nat_lt d 10)
  where
    at_least : (t : Bool) → cond t (48 + d) (55 + d) ≢ 10
    at_least true e = omega (arith, e)
    at_least false e = omega (arith, e)
glyph false d = at_least (nat_lt d 10)
  where
    at_least : (t : Bool) → cond t (48 + d) (87 + d) ≢ 10
    at_least true e = omega (arith, e)
    at_least false e = omega (arith, e)

either_none : (t : Bool) (xs ys : List ℕ) → ends xs ≡ false → ends ys ≡ false → ends (cond t xs ys) ≡ false
either_none true xs ys none other = none
either_none false xs ys none other = other

digits_none : (k n : ℕ) (acc : List ℕ) → ends acc ≡ false → ends (digits_onto k 10 false n acc) ≡ false
digits_none zero n acc none = none
digits_none (suc k) n acc none =
    let more : ends (digit_glyph false (n % 10) ∷ acc) ≡ false = none_then (digit_glyph false (n % 10)) acc (glyph false (n % 10)) none in
    either_none (n / 10 == 0) (digit_glyph false (n % 10) ∷ acc) (digits_onto k 10 false (n / 10) (digit_glyph false (n % 10) ∷ acc)) more
    (digits_none k (n / 10) (digit_glyph false (n % 10) ∷ acc) more)

decimal_none : (n : ℕ) → ends (decimal n) ≡ false
unfolding digits
decimal_none n = digits_none 64 n [] refl

byte_none : (b : ℕ) → ends (percent_encode_byte b) ≡ false
unfolding percent_encode_byte
byte_none b =
    none_then (digit_glyph true (b / 16 % 16)) (digit_glyph true (b % 16) ∷ []) (glyph true (b / 16 % 16))
    (none_then (digit_glyph true (b % 16)) [] (glyph true (b % 16)) refl)

piece_none : (b : ℕ) (t : Bool) → is_plain b ≡ t → ends (cond t (b ∷ []) (percent_encode_byte b)) ≡ false
piece_none b true plain = none_then b [] (λ e. let no : is_plain b ≡ false = ap is_plain e in cc (plain, no)) refl
piece_none b false plain = byte_none b

escaped_none : (bytes : List ℕ) → ends (escaped bytes) ≡ false
escaped_none [] = refl
escaped_none (b ∷ bytes) = none_joined (cond (is_plain b) (b ∷ []) (percent_encode_byte b)) (escaped bytes) (piece_none b (is_plain b) refl) (escaped_none bytes)

-- ---- one line

-- bytes of which the last alone ends a line
pub record IsRow (text : List ℕ) : Type 0 where
  pub body : List ℕ
  pub none : ends body ≡ false
  pub is : text ≡ body ++ 10 ∷ []

-- the first line of the same bytes is the same
same_body : (xs ys u v : List ℕ) → ends xs ≡ false → ends ys ≡ false → xs ++ 10 ∷ u ≡ ys ++ 10 ∷ v → (xs ≡ ys) × (u ≡ v)
same_body [] [] u v none other e = (refl, cc e)
same_body [] (y ∷ ys) u v none other e =
    let is : y ≡ 10 = cc e in
    let yes : ends (10 ∷ ys) ≡ false = ap (λ b. ends (b ∷ ys)) (sym is) ∙ other in
    cc yes
same_body (x ∷ xs) [] u v none other e =
    let is : x ≡ 10 = cc e in
    let yes : ends (10 ∷ xs) ≡ false = ap (λ b. ends (b ∷ xs)) (sym is) ∙ none in
    cc yes
same_body (x ∷ xs) (y ∷ ys) u v none other e =
    let is : x ≡ y = cc e in
    let more : xs ++ 10 ∷ u ≡ ys ++ 10 ∷ v = cc e in
    let rest = same_body xs ys u v (second (x == 10) (ends xs) none) (second (y == 10) (ends ys) other) more in
    (ap (λ b. b ∷ xs) is ∙ ap (λ l. y ∷ l) rest.0, rest.1)
  where
    second : (a b : Bool) → (a || b) ≡ false → b ≡ false
    second true b f = cc f
    second false b f = f

pub same_row : (x y u v : List ℕ) → IsRow x → IsRow y → x ++ u ≡ y ++ v → (x ≡ y) × (u ≡ v)
same_row x y u v a b e =
    let left : a.body ++ 10 ∷ u ≡ x ++ u = sym (append_assoc a.body (10 ∷ []) u) ∙ ap (λ t. t ++ u) (sym a.is) in
    let right : y ++ v ≡ b.body ++ 10 ∷ v = ap (λ t. t ++ v) b.is ∙ append_assoc b.body (10 ∷ []) v in
    let same = same_body a.body b.body u v a.none b.none (left ∙ e ∙ right) in
    (a.is ∙ ap (λ t. t ++ 10 ∷ []) same.0 ∙ sym b.is, same.1)

-- ---- several lines, and then one that begins otherwise

-- each of these lines begins with this byte
pub record AreRows {A : Type 0} (f : A → List ℕ) (tag : ℕ) : Type 0 where
  pub row : (x : A) → IsRow (f x)
  pub rest : A → List ℕ
  pub begins : (x : A) → f x ≡ tag ∷ rest x

pub same_rows : {A : Type 0} (f : A → List ℕ) (tag : ℕ) → AreRows f tag → (xs ys : List A) (u v : List ℕ) → get_or u 0 0 ≢ tag → get_or v 0 0 ≢ tag
    → flat_map f xs ++ u ≡ flat_map f ys ++ v → (flat_map f xs ≡ flat_map f ys) × (u ≡ v)
same_rows f tag rows [] [] u v first second e = (refl, e)
same_rows f tag rows [] (y ∷ ys) u v first second e =
    absurd (first (ap (λ t. get_or t 0 0) (e ∙ append_assoc (f y) (flat_map f ys) v ∙ ap (λ t. t ++ (flat_map f ys ++ v)) (rows.begins y))))
same_rows f tag rows (x ∷ xs) [] u v first second e =
    absurd (second (ap (λ t. get_or t 0 0) (sym e ∙ append_assoc (f x) (flat_map f xs) u ∙ ap (λ t. t ++ (flat_map f xs ++ u)) (rows.begins x))))
same_rows f tag rows (x ∷ xs) (y ∷ ys) u v first second e =
    let one = same_row (f x) (f y) (flat_map f xs ++ u) (flat_map f ys ++ v) (rows.row x) (rows.row y) (sym (append_assoc (f x) (flat_map f xs) u) ∙ e ∙ append_assoc (f y) (flat_map f ys) v) in
    let rest = same_rows f tag rows xs ys u v first second one.1 in
    (ap (λ t. t ++ flat_map f xs) one.0 ∙ ap (λ t. f y ++ t) rest.0, rest.1)

-- ---- the lines of replies

value_row : (o : Option (List ℕ)) → IsRow (value_line o)
value_row None = record { body = codes "none"; none = refl; is = refl }
value_row (Some value) = record {
  body = codes "value =" ++ escaped value;
  none = none_joined (codes "value =") (escaped value) refl (escaped_none value);
  is = refl;
}

-- a reply to `get`
pub same_value : (x y : Option (List ℕ)) (u v : List ℕ) → value_line x ++ u ≡ value_line y ++ v → value_line x ≡ value_line y
same_value x y u v e = (same_row (value_line x) (value_line y) u v (value_row x) (value_row y) e).0

pub pair_rows : AreRows (λ (p : List ℕ × List ℕ). pair_line p.0 p.1) 112
pair_rows = record {
  row = λ p. record {
    body = codes "pair " ++ escaped p.0 ++ codes " =" ++ escaped p.1;
    none = none_joined (codes "pair " ++ escaped p.0 ++ codes " =") (escaped p.1)
        (none_joined (codes "pair " ++ escaped p.0) (codes " =") (none_joined (codes "pair ") (escaped p.0) refl (escaped_none p.0)) refl) (escaped_none p.1);
    is = refl;
  };
  rest = λ p. drop 1 (pair_line p.0 p.1);
  begins = λ p. refl;
}

-- a number, and what stands before the next
number_none : (front gap : List ℕ) (n : ℕ) → ends front ≡ false → ends gap ≡ false → ends (front ++ decimal n ++ gap) ≡ false
number_none front gap n none other = none_joined (front ++ decimal n) gap (none_joined front (decimal n) none (decimal_none n)) other

pub table_rows : AreRows (λ (t : NewTable). table_line (shown_table t)) 116
table_rows = record {
  row = λ t.
      let a = codes "table " ++ decimal t.level ++ codes " " in
      let b = a ++ decimal t.number ++ codes " " in
      let c = b ++ decimal t.size ++ codes " " in
      record {
        body = c ++ decimal t.oldest_blob;
        none = none_joined c (decimal t.oldest_blob)
            (number_none b (codes " ") t.size (number_none a (codes " ") t.number (number_none (codes "table ") (codes " ") t.level refl refl) refl) refl) (decimal_none t.oldest_blob);
        is = refl;
      };
  rest = λ t. drop 1 (table_line (shown_table t));
  begins = λ t. refl;
}

pub blob_rows : AreRows (λ (m : BlobMeta). blob_line (shown_blob m)) 98
blob_rows = record {
  row = λ m.
      let a = codes "blob " ++ decimal m.number ++ codes " total " in
      let b = a ++ decimal m.total.count ++ codes " " in
      let c = b ++ decimal m.total.bytes ++ codes " garbage " in
      let d = c ++ decimal m.garbage.count ++ codes " " in
      let e = d ++ decimal m.garbage.bytes ++ codes " linked " in
      let none_b : ends b ≡ false = number_none a (codes " ") m.total.count (number_none (codes "blob ") (codes " total ") m.number refl refl) refl in
      let none_d : ends d ≡ false = number_none c (codes " ") m.garbage.count (number_none b (codes " garbage ") m.total.bytes none_b refl) refl in
      record {
        body = e ++ decimal m.linked;
        none = none_joined e (decimal m.linked) (number_none d (codes " linked ") m.garbage.bytes none_d refl) (decimal_none m.linked);
        is = refl;
      };
  rest = λ m. drop 1 (blob_line (shown_blob m));
  begins = λ m. refl;
}

-- a reply to `scan`
pub same_pairs : (xs ys : List (List ℕ × List ℕ)) (u v : List ℕ) → scan_lines xs ++ u ≡ scan_lines ys ++ v → scan_lines xs ≡ scan_lines ys
same_pairs xs ys u v e =
    let f : List ℕ × List ℕ → List ℕ = λ p. pair_line p.0 p.1 in
    let rows = same_rows f 112 pair_rows xs ys (end_line ++ u) (end_line ++ v) (λ is. omega (arith, is)) (λ is. omega (arith, is))
    (sym (append_assoc (flat_map f xs) end_line u) ∙ e ∙ append_assoc (flat_map f ys) end_line v) in
    ap (λ t. t ++ end_line) rows.0

-- a reply to `files`
blobs_begin : (blobs : List BlobMeta) (u : List ℕ) → get_or (flat_map (λ (m : BlobMeta). blob_line (shown_blob m)) blobs ++ (end_line ++ u)) 0 0 ≢ 116
blobs_begin [] u is = omega (arith, is)
blobs_begin (m ∷ blobs) u is = omega (arith, is)

pub same_files : (k l : Listing) (u v : List ℕ) → files_lines k ++ u ≡ files_lines l ++ v → files_lines k ≡ files_lines l
same_files k l u v e =
    let f : NewTable → List ℕ = λ t. table_line (shown_table t) in
    let g : BlobMeta → List ℕ = λ m. blob_line (shown_blob m) in
    let parts : (m : Listing) (w : List ℕ) → files_lines m ++ w ≡ flat_map f m.tables ++ (flat_map g m.blobs ++ (end_line ++ w)) =
    λ m w. append_assoc (flat_map f m.tables ++ flat_map g m.blobs) end_line w ∙ append_assoc (flat_map f m.tables) (flat_map g m.blobs) (end_line ++ w) in
    let tables = same_rows f 116 table_rows k.tables l.tables (flat_map g k.blobs ++ (end_line ++ u)) (flat_map g l.blobs ++ (end_line ++ v)) (blobs_begin k.blobs u) (blobs_begin l.blobs v)
    (sym (parts k u) ∙ e ∙ parts l v) in
    let blobs = same_rows g 98 blob_rows k.blobs l.blobs (end_line ++ u) (end_line ++ v) (λ is. omega (arith, is)) (λ is. omega (arith, is)) tables.1 in
    ap (λ t. t ++ flat_map g k.blobs ++ end_line) tables.0 ∙ ap (λ t. flat_map f l.tables ++ t ++ end_line) blobs.0
