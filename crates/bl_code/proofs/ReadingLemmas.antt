-- What is spelled is read, and what is read is spelled.
use Rattle.std.proofs.Common.{◌≡◌, ℕ, zero, suc, ◌+◌, ◌-◌, ◌*◌, ◌/◌, ◌%◌, ◌^◌, ◌<◌, ◌≤◌, nat_lt, List, [], ◌∷◌, ◌++◌, length, take, drop, get_or, Some, None, ◌∙◌, ap, refl, sym, subst, arith, inl, inr, append_assoc, length-append}
use Rattle.std.specs.Prelude.{option_and_then}
use Rattle.std.specs.Int.{Width, w16, w32, w64, byte_len, from_le_bytes}
use Rattle.std.proofs.lemmas.List.{length-take-le, take-append-drop}
use Rattle.std.proofs.lemmas.Option.{some_pair_parts, cond_some}
use Rattle.std.proofs.lemmas.Nat.{le_bytes_2, le_bytes_4, le_bytes_8, from_le_bytes-to_le_bytes_2, from_le_bytes-to_le_bytes_4, from_le_bytes-to_le_bytes_8}
use Rattle.std.proofs.Math.Seq.{take-append_seam, drop-append_seam}
use Rattle.std.proofs.lemmas.Bool.{cases_lt, cond-true, lt-ltb, ltb-true}
use Rattle.std.proofs.lemmas.Grind.{pow_more}
use Rattle.bl_code.specs.Numbers.{IsBytes, fixed16, fixed32, fixed64, varint, varint32, varint64, IsVarint, IsVarint32, IsVarint64, IsSlice, slice}
use Rattle.bl_code.specs.Reading.{Input, Read, take_bytes, take_fixed, take_varint32, take_varint64, take_slice, varint_in, below}
use Rattle.bl_code.specs.BlobIndex.{IsBlobIndex, blob_index}
use Rattle.bl_code.specs.Laws.{TakesAgain, TakesExactly, StandsBefore}
use Rattle.bl_code.proofs.ChainLemmas.{read_ok}
use Rattle.bl_code.proofs.TakeLemmas.{too_few, enough, read_last, read_more, nothing_left, no_room}
use Rattle.bl_code.proofs.VarintLemmas.{spelled_last, spelled_more}

-- ---- bytes

pub byte_at : (xs : List ℕ) (i : ℕ) → IsBytes xs → get_or xs i 0 < 256
byte_at [] i h = omega arith
byte_at (x ∷ xs) zero h = h.0
byte_at (x ∷ xs) (suc i) h = byte_at xs i h.1

pub are_bytes : (xs : List ℕ) → ((i : ℕ) → get_or xs i 0 < 256) → IsBytes xs
are_bytes [] h = tt
are_bytes (x ∷ xs) h = (h 0, are_bytes xs (λ i. h (suc i)))

pub IsBytes-take : (n : ℕ) (xs : List ℕ) → IsBytes xs → IsBytes (take n xs)
IsBytes-take zero xs h = tt
IsBytes-take (suc n) [] h = tt
IsBytes-take (suc n) (x ∷ xs) h = (h.0, IsBytes-take n xs h.1)

pub IsBytes-drop : (n : ℕ) (xs : List ℕ) → IsBytes xs → IsBytes (drop n xs)
IsBytes-drop zero xs h = h
IsBytes-drop (suc n) [] h = tt
IsBytes-drop (suc n) (x ∷ xs) h = IsBytes-drop n xs h.1

-- ---- where a reading ends

-- the bytes and what is behind them
abbrev pub behind_bytes : ℕ → List ℕ → List ℕ → Input
behind_bytes place bytes rest = record { place = place + length bytes; left = rest }

same_input : (old behind : Input) (spelled : List ℕ) → old.left ≡ spelled ++ behind.left → ◌≡◌ {A = Input} old (record { place = old.place; left = spelled ++ behind.left })
same_input old behind spelled l = λ i. record { place = old.place; left = l i }

-- ---- some bytes

bytes_again : (place : ℕ) (bytes rest : List ℕ) → take_bytes (length bytes) (record { place = place; left = bytes ++ rest }) ≡ Some (bytes, record { place = place + length bytes; left = rest })
bytes_again place bytes rest =
    let fits : length bytes ≤ length (bytes ++ rest) = omega (arith, length-append bytes rest) in
    enough (length bytes) (record { place = place; left = bytes ++ rest }) fits
    ∙ (λ i. Some (take-append_seam bytes rest i, record { place = place + length bytes; left = drop-append_seam bytes rest i }))

-- what n bytes are, where they are taken
bytes_found : (n : ℕ) (input behind : Input) (bytes : List ℕ) → take_bytes n input ≡ Some (bytes, behind)
    → (n ≤ length input.left) × (bytes ≡ take n input.left) × (behind ≡ record { place = input.place + n; left = drop n input.left })
bytes_found n input behind bytes h = elim (cases_lt (length input.left) n) [
  | inl short ↦ let none : ◌≡◌ {A = Read (List ℕ)} None (Some (bytes, behind)) = sym (too_few n input short) ∙ h in cc
  | inr fits ↦
      let same : ◌≡◌ {A = Read (List ℕ)} (Some (take n input.left, record { place = input.place + n; left = drop n input.left })) (Some (bytes, behind)) = sym (enough n input fits) ∙ h in
      let parts = some_pair_parts (take n input.left) bytes _ behind same in
      (fits, sym parts.0, sym parts.1)
]

-- ---- fixed numbers

-- the bytes of a width give its numbers back, and its numbers their bytes
pub record GoesBothWays (w : Width) (spelling : ℕ → List ℕ) (bound : ℕ) : Type 0 where
  pub size : (n : ℕ) → length (spelling n) ≡ byte_len w
  pub read : (n : ℕ) → n < bound → from_le_bytes w (spelling n) ≡ n
  pub spelled : (bytes : List ℕ) (n : ℕ) → length bytes ≡ byte_len w → ((i : ℕ) → get_or bytes i 0 < 256) → n ≡ from_le_bytes w bytes → spelling n ≡ bytes
  pub small : (bytes : List ℕ) → ((i : ℕ) → get_or bytes i 0 < 256) → from_le_bytes w bytes < bound

pub both16 : GoesBothWays w16 fixed16 (2 ^ 16)
unfolding fixed16
both16 = record {
  size = λ n. refl;
  read = from_le_bytes-to_le_bytes_2;
  spelled = le_bytes_2;
  small = λ bs h. omega (arith, h 0, h 1);
}

pub both32 : GoesBothWays w32 fixed32 (2 ^ 32)
unfolding fixed32
both32 = record {
  size = λ n. refl;
  read = from_le_bytes-to_le_bytes_4;
  spelled = le_bytes_4;
  small = λ bs h. omega (arith, h 0, h 1, h 2, h 3);
}

pub both64 : GoesBothWays w64 fixed64 (2 ^ 64)
unfolding fixed64
both64 = record {
  size = λ n. refl;
  read = from_le_bytes-to_le_bytes_8;
  spelled = le_bytes_8;
  small = λ bs h. omega (arith, h 0, h 1, h 2, h 3, h 4, h 5, h 6, h 7);
}

pub fixed_again : (w : Width) (spelling : ℕ → List ℕ) (bound : ℕ) → GoesBothWays w spelling bound → TakesAgain (take_fixed w) spelling (λ n. n < bound)
fixed_again w spelling bound both n place rest fits =
    ap (λ k. option_and_then (λ r. Some (from_le_bytes w r.0, r.1)) (take_bytes k (record { place = place; left = spelling n ++ rest }))) (sym (both.size n))
    ∙ ap (option_and_then (λ r. Some (from_le_bytes w r.0, r.1))) (bytes_again place (spelling n) rest)
    ∙ ap (λ m. Some (m, record { place = place + length (spelling n); left = rest })) (both.read n fits)

pub fixed_exact : (w : Width) (spelling : ℕ → List ℕ) (bound : ℕ) → GoesBothWays w spelling bound
    → TakesExactly (take_fixed w) (λ bytes n. (n < bound) × (bytes ≡ spelling n))
fixed_exact w spelling bound both input x behind bytes = (
  λ h.
      let t = read_ok (take_bytes (byte_len w) input) (λ r. Some (from_le_bytes w r.0, r.1)) (x, behind) h in
      let found = bytes_found (byte_len w) input t.0.1 t.0.0 t.1 in
      let last : ◌≡◌ {A = Read ℕ} (Some (from_le_bytes w t.0.0, t.0.1)) (Some (x, behind)) = t.2 in
      let parts = some_pair_parts (from_le_bytes w t.0.0) x t.0.1 behind last in
      let front = take (byte_len w) input.left in
      let each : (i : ℕ) → get_or front i 0 < 256 = λ i. byte_at front i (IsBytes-take (byte_len w) input.left bytes) in
      let read : x ≡ from_le_bytes w front = sym parts.0 ∙ ap (from_le_bytes w) found.1 in
      let size : length front ≡ byte_len w = length-take-le (byte_len w) input.left found.0 in
      let place : behind ≡ record { place = input.place + byte_len w; left = drop (byte_len w) input.left } = sym parts.1 ∙ found.2 in
      record {
        spelled = front;
        is = (subst (λ n. n < bound) (sym read) (both.small front each), sym (both.spelled front x size each read));
        left = sym (take-append-drop (byte_len w) input.left) ∙ ap (λ l. front ++ l) (sym (ap (λ b. b.left) place));
        place = ap (λ b. b.place) place ∙ ap (λ k. input.place + k) (sym size);
      },
  λ s.
      let l : input.left ≡ spelling x ++ behind.left = s.left ∙ ap (λ b. b ++ behind.left) s.is.1 in
      let p : input.place + length (spelling x) ≡ behind.place = ap (λ b. input.place + length b) (sym s.is.1) ∙ sym s.place in
      ap (take_fixed w) (same_input input behind (spelling x) l)
      ∙ fixed_again w spelling bound both x input.place behind.left s.is.0
      ∙ (λ i. Some (x, record { place = p i; left = behind.left })),
)

-- ---- varints

-- the number behind a byte that is not the last
abbrev more : ℕ → ℕ × Input → Read ℕ
more b r = Some (b - 128 + 128 * r.0, r.1)

pub varint_read : (k n place : ℕ) (spelled rest : List ℕ) → length spelled ≤ k → IsVarint spelled n
    → varint_in k place (spelled ++ rest) ≡ Some (n, record { place = place + length spelled; left = rest })
varint_read k n place [] rest size is = absurd is
varint_read zero n place (b ∷ bs) rest size is = absurd (omega arith)
varint_read (suc k) n place (b ∷ []) rest size is = read_last k b place rest is.0 ∙ ap (λ m. Some (m, record { place = place + 1; left = rest })) (sym is.1)
varint_read (suc k) n place (b ∷ d ∷ bs) rest size is =
    let high = is.2 in
    let value : b - 128 + 128 * high ≡ n = omega (arith, is.3, is.0) in
    let there : place + 1 + length (d ∷ bs) ≡ place + length (b ∷ d ∷ bs) = omega arith in
    read_more k b place ((d ∷ bs) ++ rest) is.0
    ∙ ap (option_and_then (more b)) (varint_read k high (place + 1) (d ∷ bs) rest (omega arith) is.4)
    ∙ (λ i. Some (value i, record { place = there i; left = rest }))

-- what stands where a varint was read
pub record Spelled (k place : ℕ) (bytes : List ℕ) (n : ℕ) (behind : Input) : Type 0 where
  pub spelled : List ℕ
  pub size : length spelled ≤ k
  pub is : IsVarint spelled n
  pub left : bytes ≡ spelled ++ behind.left
  pub place_is : behind.place ≡ place + length spelled

longer : (b high n : ℕ) (spelled : List ℕ) → 128 ≤ b → b < 256 → n ≡ b - 128 + 128 * high → IsVarint spelled high → IsVarint (b ∷ spelled) n
longer b high n [] large byte e is = absurd is
longer b high n (d ∷ bs) large byte e is = (large, byte, high, omega arith, is)

pub varint_spelled : (k n place : ℕ) (bytes : List ℕ) (behind : Input) → IsBytes bytes → varint_in k place bytes ≡ Some (n, behind) → Spelled k place bytes n behind
varint_spelled zero n place bytes behind h r = let none : ◌≡◌ {A = Read ℕ} None (Some (n, behind)) = sym (no_room place bytes) ∙ r in cc
varint_spelled (suc k) n place [] behind h r = let none : ◌≡◌ {A = Read ℕ} None (Some (n, behind)) = sym (nothing_left (suc k) place) ∙ r in cc
varint_spelled (suc k) n place (b ∷ bs) behind h r = elim (cases_lt b 128) [
  | inl small ↦
      let same : ◌≡◌ {A = Read ℕ} (Some (b, record { place = place + 1; left = bs })) (Some (n, behind)) = sym (read_last k b place bs small) ∙ r in
      let parts = some_pair_parts b n _ behind same in
      record {
        spelled = b ∷ [];
        size = omega arith;
        is = (small, sym parts.0);
        left = ap (λ i. b ∷ i.left) parts.1;
        place_is = sym (ap (λ i. i.place) parts.1);
      }
  | inr large ↦
      let t = read_ok (varint_in k (place + 1) bs) (more b) (n, behind) (sym (read_more k b place bs large) ∙ r) in
      let parts = some_pair_parts (b - 128 + 128 * t.0.0) n t.0.1 behind t.2 in
      let rest = varint_spelled k t.0.0 (place + 1) bs t.0.1 h.1 t.1 in
      record {
        spelled = b ∷ rest.spelled;
        size = omega (arith, rest.size);
        is = longer b t.0.0 n rest.spelled large h.0 (sym parts.0) rest.is;
        left = ap (λ l. b ∷ l) (rest.left ∙ ap (λ i. rest.spelled ++ i.left) parts.1);
        place_is = omega (arith, sym (ap (λ i. i.place) parts.1), rest.place_is);
      }
]

-- the shortest spelling
no_spelling : (n : ℕ) → varint 0 n ≡ []
unfolding varint
no_spelling n = refl

pub spelling_size : (k n : ℕ) → length (varint k n) ≤ k
spelling_size zero n = rw (no_spelling n) (omega arith)
spelling_size (suc k) n = elim (cases_lt n 128) [
  | inl small ↦ rw (spelled_last k n small) (omega arith)
  | inr large ↦ let rest : length (varint k (n / 128)) ≤ k = spelling_size k (n / 128) in rw (spelled_more k n large) (omega arith)
]

pub spelling_is : (k n : ℕ) → n < 128 ^ suc k → IsVarint (varint (suc k) n) n
spelling_is zero n fits =
    let small : n < 128 = omega arith in
    rw (spelled_last zero n small) (small, refl)
spelling_is (suc k) n fits = elim (cases_lt n 128) [
  | inl small ↦ rw (spelled_last (suc k) n small) (small, refl)
  | inr large ↦
      let part : n / 128 < 128 ^ suc k = omega (arith, pow_more 128 (suc k)) in
      rw (spelled_more (suc k) n large) (longer (128 + n % 128) (n / 128) n (varint (suc k) (n / 128)) (omega arith) (omega arith) (omega arith) (spelling_is k (n / 128) part))
]

below_found : (bits : ℕ) (o : Read ℕ) (x : ℕ × Input) → below bits o ≡ Some x → (x.0 < 2 ^ bits) × (o ≡ Some x)
below_found bits None x h = cc
below_found bits (Some r) x h =
    let p = cond_some (nat_lt r.0 (2 ^ bits)) r x h in
    (subst (λ y. y.0 < 2 ^ bits) p.1 (ltb-true r.0 (2 ^ bits) p.0), ap Some p.1)

-- a varint of at most k bytes and below 2 ^ bits
abbrev pub reading : ℕ → ℕ → Input → Read ℕ
reading k bits input = below bits (varint_in k input.place input.left)

abbrev pub IsSpelled : ℕ → ℕ → List ℕ → ℕ → Type 0
IsSpelled k bits bytes n = (length bytes ≤ k) × (n < 2 ^ bits) × IsVarint bytes n

pub varint_taken : (k bits : ℕ) (input : Input) (n : ℕ) (behind : Input) → StandsBefore (IsSpelled k bits) input n behind → reading k bits input ≡ Some (n, behind)
varint_taken k bits input n behind s =
    ap (reading k bits) (same_input input behind s.spelled s.left)
    ∙ ap (below bits) (varint_read k n input.place s.spelled behind.left s.is.0 s.is.2)
    ∙ cond-true (nat_lt n (2 ^ bits)) _ _ (lt-ltb n (2 ^ bits) s.is.1)
    ∙ (λ i. Some (n, record { place = sym s.place i; left = behind.left }))

pub varint_exact : (k bits : ℕ) → TakesExactly (reading k bits) (IsSpelled k bits)
varint_exact k bits input n behind bytes = (
  λ h.
      let p = below_found bits (varint_in k input.place input.left) (n, behind) h in
      let s = varint_spelled k n input.place input.left behind bytes p.1 in
      record { spelled = s.spelled; is = (s.size, p.0, s.is); left = s.left; place = s.place_is },
  varint_taken k bits input n behind,
)

pub varint32_is : (n : ℕ) → n < 2 ^ 32 → IsVarint32 (varint32 n) n
varint32_is n fits = (spelling_size 5 n, fits, spelling_is 4 n (omega arith))

pub varint64_is : (n : ℕ) → n < 2 ^ 64 → IsVarint64 (varint64 n) n
varint64_is n fits = (spelling_size 10 n, fits, spelling_is 9 n (omega arith))

pub varint32_again : TakesAgain take_varint32 varint32 (λ n. n < 2 ^ 32)
varint32_again n place rest fits =
    varint_taken 5 32 (record { place = place; left = varint32 n ++ rest }) n (behind_bytes place (varint32 n) rest)
    (record { spelled = varint32 n; is = varint32_is n fits; left = refl; place = refl })

pub varint64_again : TakesAgain take_varint64 varint64 (λ n. n < 2 ^ 64)
varint64_again n place rest fits =
    varint_taken 10 64 (record { place = place; left = varint64 n ++ rest }) n (behind_bytes place (varint64 n) rest)
    (record { spelled = varint64 n; is = varint64_is n fits; left = refl; place = refl })

-- ---- slices

pub slice_taken : (input : Input) (bytes : List ℕ) (behind : Input) → StandsBefore IsSlice input bytes behind → take_slice input ≡ Some (bytes, behind)
slice_taken input bytes behind s =
    let size = s.is.size in
    let next : Input = record { place = input.place + length size; left = bytes ++ behind.left } in
    let left : input.left ≡ size ++ (bytes ++ behind.left) = s.left ∙ ap (λ b. b ++ behind.left) s.is.spelled_is ∙ append_assoc size bytes behind.left in
    let long : length s.spelled ≡ length size + length bytes = ap length s.is.spelled_is ∙ length-append size bytes in
    let place : input.place + length size + length bytes ≡ behind.place = omega (arith, s.place) in
    ap (option_and_then (λ r. take_bytes r.0 r.1)) (varint_taken 5 32 input (length bytes) next (record { spelled = size; is = s.is.size_is; left = left; place = refl }))
    ∙ bytes_again (input.place + length size) bytes behind.left
    ∙ (λ i. Some (bytes, record { place = place i; left = behind.left }))

pub slice_exact : TakesExactly take_slice IsSlice
slice_exact input bytes behind h = (
  λ r.
      let t = read_ok (take_varint32 input) (λ r. take_bytes r.0 r.1) (bytes, behind) r in
      let n = t.0.0 in
      let next = t.0.1 in
      let s = (varint_exact 5 32 input n next h).0 t.1 in
      let found = bytes_found n next behind bytes t.2 in
      let long : n ≡ length bytes = sym (ap length found.1 ∙ length-take-le n next.left found.0) in
      let left : next.left ≡ bytes ++ behind.left = sym (take-append-drop n next.left) ∙ (λ i. sym found.1 i ++ sym (ap (λ b. b.left) found.2) i) in
      let place : behind.place ≡ next.place + n = ap (λ b. b.place) found.2 in
      record {
        spelled = s.spelled ++ bytes;
        is = record { size = s.spelled; size_is = subst (λ m. IsVarint32 s.spelled m) long s.is; spelled_is = refl };
        left = s.left ∙ ap (λ l. s.spelled ++ l) left ∙ sym (append_assoc s.spelled bytes behind.left);
        place = omega (arith, place, s.place, long, length-append s.spelled bytes);
      },
  slice_taken input bytes behind,
)

pub slice_again : TakesAgain take_slice slice (λ bytes. length bytes < 2 ^ 32)
slice_again bytes place rest fits =
    slice_taken (record { place = place; left = slice bytes ++ rest }) bytes (behind_bytes place (slice bytes) rest)
    (record { spelled = slice bytes; is = record { size = varint32 (length bytes); size_is = varint32_is (length bytes) fits; spelled_is = refl }; left = refl; place = refl })

-- ---- blob indexes

-- what two varints in front of the same bytes are
varint_unique : (m n : ℕ) (xs ys rest rest' : List ℕ) → IsVarint64 xs m → IsVarint64 ys n → xs ++ rest ≡ ys ++ rest' → (m ≡ n) × (rest ≡ rest')
varint_unique m n xs ys rest rest' x y same =
    let first : varint_in 10 0 (xs ++ rest) ≡ Some (m, behind_bytes 0 xs rest) = varint_read 10 m 0 xs rest x.0 x.2 in
    let second : varint_in 10 0 (ys ++ rest') ≡ Some (n, behind_bytes 0 ys rest') = varint_read 10 n 0 ys rest' y.0 y.2 in
    let both : ◌≡◌ {A = Read ℕ} (Some (m, behind_bytes 0 xs rest)) (Some (n, behind_bytes 0 ys rest')) = sym first ∙ ap (varint_in 10 0) same ∙ second in
    let parts = some_pair_parts m n _ _ both in
    (parts.0, ap (λ i. i.left) parts.1)

pub blob_index_spelled : (file offset size : ℕ) → file < 2 ^ 64 → offset < 2 ^ 64 → size < 2 ^ 64 → IsBlobIndex (blob_index file offset size) file offset size
blob_index_spelled file offset size f o s = record {
  file_bytes = varint64 file;
  offset_bytes = varint64 offset;
  size_bytes = varint64 size;
  file_is = varint64_is file f;
  offset_is = varint64_is offset o;
  size_is = varint64_is size s;
  spelled = refl;
}

pub blob_index_unique : (bytes : List ℕ) (f g o p s t : ℕ) → IsBlobIndex bytes f o s → IsBlobIndex bytes g p t → (f ≡ g) × (o ≡ p) × (s ≡ t)
blob_index_unique bytes f g o p s t x y =
    let same : 1 ∷ (x.file_bytes ++ (x.offset_bytes ++ (x.size_bytes ++ 0 ∷ []))) ≡ 1 ∷ (y.file_bytes ++ (y.offset_bytes ++ (y.size_bytes ++ 0 ∷ []))) = sym x.spelled ∙ y.spelled in
    let files = varint_unique f g x.file_bytes y.file_bytes (x.offset_bytes ++ (x.size_bytes ++ 0 ∷ [])) (y.offset_bytes ++ (y.size_bytes ++ 0 ∷ [])) x.file_is y.file_is cc in
    let offsets = varint_unique o p x.offset_bytes y.offset_bytes (x.size_bytes ++ 0 ∷ []) (y.size_bytes ++ 0 ∷ []) x.offset_is y.offset_is files.1 in
    let sizes = varint_unique s t x.size_bytes y.size_bytes (0 ∷ []) (0 ∷ []) x.size_is y.size_is offsets.1 in
    (files.0, offsets.0, sizes.0)
