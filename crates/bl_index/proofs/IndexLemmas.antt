-- What is read is a blob index, and each blob index is read.
use Rattle.std.proofs.Common.{◌≡◌, ℕ, ◌+◌, List, [], ◌∷◌, ◌++◌, length, Ok, Some, refl, ap, ◌∙◌, arith, subst, eqb-true}
use Rattle.std.specs.Prelude.{◌==◌, Result}
use Rattle.bl_code.specs.BlobIndex.{IsBlobIndex}
use Rattle.bl_code.specs.Numbers.{IsBytes, IsVarint64}
use Rattle.bl_code.specs.Laws.{StandsBefore}
use Rattle.bl_code.specs.Reading.{Input, take_byte, take_varint64, or_fault, need, ◌>>=◌}
use Rattle.bl_code.proofs.ChainLemmas.{then_ok, or_fault_ok, need_ok}
use Rattle.bl_code.proofs.ReadingLemmas.{varint_taken, varint_exact, behind_bytes}
use Rattle.bl_index.specs.declared.index.BlobIndex.{BlobIndex}
use Rattle.bl_index.specs.declared.error.BadIndex.{BadIndex}
use Rattle.bl_index.specs.declared.error.IndexRule.TheVariants.{Kind, Number, Compression, Trailing}
use Rattle.bl_index.specs.Index.{bad, index_at, read_index, number_at}

found : (n place : ℕ) (xs rest : List ℕ) → IsVarint64 xs n → take_varint64 (record { place = place; left = xs ++ rest }) ≡ Some (n, behind_bytes place xs rest)
found n place xs rest is = varint_taken 10 64 (record { place = place; left = xs ++ rest }) n (behind_bytes place xs rest) (record { spelled = xs; is = is; left = refl; place = refl })

pub reads_all : (bytes : List ℕ) (i : BlobIndex) → IsBlobIndex bytes i.file i.offset i.size → read_index bytes ≡ Ok i
unfolding index_at
reads_all bytes i s =
    let last : List ℕ = 0 ∷ [] in
    let place : ℕ = 1 + length s.file_bytes in
    rw (
      s.spelled,
      found i.file 1 s.file_bytes (s.offset_bytes ++ (s.size_bytes ++ last)) s.file_is,
      found i.offset place s.offset_bytes (s.size_bytes ++ last) s.offset_is,
      found i.size (place + length s.offset_bytes) s.size_bytes last s.size_is,
    )
    refl

-- what follows each number
abbrev after_size : ℕ × Input → ℕ × Input → ℕ × Input → Result BlobIndex BadIndex
after_size file offset size = do
  last ← or_fault (bad Compression size.1.place) (take_byte size.1)
  _ ← need (last.0 == 0) (bad Compression size.1.place)
  _ ← need (length last.1.left == 0) (bad Trailing last.1.place)
  Ok (record { file = file.0; offset = offset.0; size = size.0 })

abbrev after_offset : ℕ × Input → ℕ × Input → Result BlobIndex BadIndex
after_offset file offset = number_at offset.1 >>= after_size file offset

abbrev after_file : ℕ × Input → Result BlobIndex BadIndex
after_file file = number_at file.1 >>= after_offset file

nothing : (xs : List ℕ) → length xs ≡ 0 → xs ≡ []
nothing [] h = refl
nothing (x ∷ xs) h = absurd (omega arith)

IsBytes-behind : (xs ys : List ℕ) → IsBytes (xs ++ ys) → IsBytes ys
IsBytes-behind [] ys h = h
IsBytes-behind (x ∷ xs) ys h = IsBytes-behind xs ys h.1

-- a number that was read is spelled
spelled_at : (input : Input) (r : ℕ × Input) → IsBytes input.left → number_at input ≡ Ok r → StandsBefore IsVarint64 input r.0 r.1
spelled_at input r each h = (varint_exact 10 64 input r.0 r.1 each).0 (or_fault_ok (bad Number input.place) (take_varint64 input) r h)

-- the bytes behind what was read are bytes
behind_is : (input : Input) (n : ℕ) (behind : Input) → IsBytes input.left → StandsBefore IsVarint64 input n behind → IsBytes behind.left
behind_is input n behind each s = IsBytes-behind s.spelled behind.left (subst IsBytes s.left each)

-- the last byte is 00, and no byte follows it
last_at : (place : ℕ) (left : List ℕ) (index i : BlobIndex)
    → (or_fault (bad Compression place) (take_byte (record { place = place; left = left })) >>= λ last.
    need (last.0 == 0) (bad Compression place) >>= λ _. need (length last.1.left == 0) (bad Trailing last.1.place) >>= λ _. Ok index) ≡ Ok i
    → (left ≡ 0 ∷ []) × (index ≡ i)
last_at place [] index i h = cc
last_at place (b ∷ bs) index i h =
    let t1 = then_ok (need (b == 0) (bad Compression place)) (λ _. need (length bs == 0) (bad Trailing (place + 1)) >>= λ _. Ok index) i h in
    let t2 = then_ok (need (length bs == 0) (bad Trailing (place + 1))) (λ _. Ok index) i t1.2 in
    let zero_is : b ≡ 0 = eqb-true b 0 (need_ok (b == 0) (bad Compression place) t1.0 t1.1) in
    let none : length bs ≡ 0 = eqb-true (length bs) 0 (need_ok (length bs == 0) (bad Trailing (place + 1)) t2.0 t2.1) in
    let same : index ≡ i = cc in
    ((λ j. zero_is j ∷ nothing bs none j), same)

joined : (b : ℕ) (bs fs os ss behind_file behind_offset behind_size : List ℕ) → b ≡ 1 → bs ≡ fs ++ behind_file → behind_file ≡ os ++ behind_offset
    → behind_offset ≡ ss ++ behind_size → behind_size ≡ 0 ∷ [] → b ∷ bs ≡ 1 ∷ (fs ++ (os ++ (ss ++ 0 ∷ [])))
joined b bs fs os ss behind_file behind_offset behind_size one f o s zero_is =
    (λ j. one j ∷ f j) ∙ ap (λ l. 1 ∷ (fs ++ l)) (o ∙ ap (λ l. os ++ l) (s ∙ ap (λ l. ss ++ l) zero_is))

pub reads_only : (bytes : List ℕ) (i : BlobIndex) → IsBytes bytes → read_index bytes ≡ Ok i → IsBlobIndex bytes i.file i.offset i.size
unfolding index_at
reads_only [] i each h = cc
reads_only (b ∷ bs) i each h =
    let start : Input = record { place = 1; left = bs } in
    let t1 = then_ok (need (b == 1) (bad Kind 0)) (λ _. number_at start >>= after_file) i h in
    let kind : b ≡ 1 = eqb-true b 1 (need_ok (b == 1) (bad Kind 0) t1.0 t1.1) in
    let t2 = then_ok (number_at start) after_file i t1.2 in
    let file = spelled_at start t2.0 each.1 t2.1 in
    let each2 = behind_is start t2.0.0 t2.0.1 each.1 file in
    let t3 = then_ok (number_at t2.0.1) (after_offset t2.0) i t2.2 in
    let offset = spelled_at t2.0.1 t3.0 each2 t3.1 in
    let each3 = behind_is t2.0.1 t3.0.0 t3.0.1 each2 offset in
    let t4 = then_ok (number_at t3.0.1) (after_size t2.0 t3.0) i t3.2 in
    let size = spelled_at t3.0.1 t4.0 each3 t4.1 in
    let last = last_at t4.0.1.place t4.0.1.left (record { file = t2.0.0; offset = t3.0.0; size = t4.0.0 }) i t4.2 in
    record {
      file_bytes = file.spelled;
      offset_bytes = offset.spelled;
      size_bytes = size.spelled;
      file_is = subst (IsVarint64 file.spelled) (ap (λ x. x.file) last.1) file.is;
      offset_is = subst (IsVarint64 offset.spelled) (ap (λ x. x.offset) last.1) offset.is;
      size_is = subst (IsVarint64 size.spelled) (ap (λ x. x.size) last.1) size.is;
      spelled = joined b bs file.spelled offset.spelled size.spelled t2.0.1.left t3.0.1.left t4.0.1.left kind file.left offset.left size.left last.0;
    }
