-- The texts of replies: each is a line.
use Rattle.std.specs.Prelude.{ℕ, ◌==◌, ◌&&◌, not, nat_le, Bool, List, [], ◌∷◌, ◌++◌, flat_map, codes, decimal, Option, None, Some, if◌then◌else◌}
use Rattle.percent_encoding.specs.Percent.{percent_encode_byte}
use Rattle.bl_script.specs.declared.command.Refusal.{Refusal}
use Rattle.bl_script.specs.declared.command.Refusal.TheVariants as refused
use Rattle.bl_script.specs.declared.reply.TableLine.{TableLine}
use Rattle.bl_script.specs.declared.reply.BlobLine.{BlobLine}

-- a byte that stands for itself
abbrev pub is_plain : ℕ → Bool
is_plain b = nat_le 0x21 b && nat_le b 0x7E && not (b == 37)

-- `%` and every byte outside 0x21 to 0x7E are escaped, by two hexadecimal digits
abbrev pub escaped : List ℕ → List ℕ
escaped bytes = flat_map (λ b. if is_plain b then b ∷ [] else percent_encode_byte b) bytes

abbrev pub ok_line : List ℕ
ok_line = codes "ok\n"

abbrev pub end_line : List ℕ
end_line = codes "end\n"

abbrev pub value_line : Option (List ℕ) → List ℕ
value_line None = codes "none\n"
value_line (Some value) = codes "value =" ++ escaped value ++ codes "\n"

abbrev pub pair_line : List ℕ → List ℕ → List ℕ
pair_line key value = codes "pair " ++ escaped key ++ codes " =" ++ escaped value ++ codes "\n"

-- a table, and a blob file with its accounts
abbrev pub table_line : TableLine → List ℕ
table_line t = codes "table " ++ decimal t.level ++ codes " " ++ decimal t.number ++ codes " " ++ decimal t.size ++ codes " " ++ decimal t.oldest ++ codes "\n"

abbrev pub blob_line : BlobLine → List ℕ
blob_line b =
    codes "blob " ++ decimal b.number ++ codes " total " ++ decimal b.count ++ codes " " ++ decimal b.bytes
    ++ codes " garbage " ++ decimal b.garbage_count ++ codes " " ++ decimal b.garbage_bytes ++ codes " linked " ++ decimal b.linked ++ codes "\n"

abbrev pub refusal_line : Refusal → List ℕ
refusal_line refused.Long = codes "refused long\n"
refusal_line refused.Syntax = codes "refused syntax\n"
refusal_line refused.Key = codes "refused key\n"
refusal_line refused.Value = codes "refused value\n"
