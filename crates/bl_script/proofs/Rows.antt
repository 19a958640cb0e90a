-- Worked rows: what some lines order, and the texts of some replies.
use Rattle.std.proofs.Common.{◌≡◌, [], ◌∷◌, codes, Some, None, refl}
use Rattle.std.specs.Fmt.{digits}
use Rattle.percent_encoding.specs.Percent.{percent_decode, percent_encode_byte}
use Rattle.bl_script.specs.declared.command.Operation.TheVariants as op
use Rattle.bl_script.specs.declared.command.Command.TheVariants.{Put, Batch, Get, Scan, Flush, Files, Reopen}
use Rattle.bl_script.specs.declared.command.Refusal.TheVariants as refused
use Rattle.bl_script.specs.declared.command.Parsed.TheVariants.{Nothing, Refused, Go}
use Rattle.bl_script.specs.Lines.{lines, lines_in, whole_lines, whole_lines_in, words_in}
use Rattle.bl_script.specs.Parsing.{parsed, operations}
use Rattle.bl_script.specs.Printing.{pair_line, value_line, table_line, blob_line}

cut : lines (codes "put a =1\r\n\nget a") ≡ codes "put a =1" ∷ [] ∷ codes "get a" ∷ []
unfolding lines_in
cut = refl

whole : whole_lines (codes "put a =1\r\n\nget a") ≡ codes "put a =1" ∷ [] ∷ []
unfolding whole_lines_in
whole = refl

decoded : parsed (codes "put %00%20 =%25") ≡ Go (Put (0 ∷ 32 ∷ []) (37 ∷ []))
unfolding parsed words_in percent_decode
decoded = refl

-- a percent sign without two hexadecimal digits stands for itself
percent : parsed (codes "get %4%zz%") ≡ Go (Get (codes "%4%zz%"))
unfolding parsed words_in percent_decode
percent = refl

batch : parsed (codes "batch put b =2 del c put b =3") ≡ Go (Batch (op.Put (98 ∷ []) (50 ∷ []) ∷ op.Del (99 ∷ []) ∷ op.Put (98 ∷ []) (51 ∷ []) ∷ []))
unfolding parsed words_in operations percent_decode
batch = refl

half_a_batch : parsed (codes "batch put a =1 del") ≡ Refused refused.Syntax
unfolding parsed words_in operations percent_decode
half_a_batch = refl

no_batch : parsed (codes "batch") ≡ Refused refused.Syntax
unfolding parsed words_in
no_batch = refl

scan : parsed (codes "scan a b") ≡ Go (Scan (Some (97 ∷ [])) (Some (98 ∷ [])))
unfolding parsed words_in percent_decode
scan = refl

scan_all : parsed (codes "scan") ≡ Go (Scan None None)
unfolding parsed words_in
scan_all = refl

selector : parsed (codes "scan a @1") ≡ Refused refused.Syntax
unfolding parsed words_in percent_decode
selector = refl

no_key : parsed (codes "get") ≡ Refused refused.Syntax
unfolding parsed words_in
no_key = refl

comment : parsed (codes "# put a =1") ≡ Nothing
unfolding parsed words_in
comment = refl

blank : parsed (codes "   ") ≡ Nothing
unfolding parsed words_in
blank = refl

flush : parsed (codes "flush") ≡ Go Flush
unfolding parsed words_in
flush = refl

-- neither takes a word
flush_what : parsed (codes "flush all") ≡ Refused refused.Syntax
unfolding parsed words_in percent_decode
flush_what = refl

files : parsed (codes " files ") ≡ Go Files
unfolding parsed words_in
files = refl

files_at : parsed (codes "files @1") ≡ Refused refused.Syntax
unfolding parsed words_in percent_decode
files_at = refl

reopen : parsed (codes "reopen") ≡ Go Reopen
unfolding parsed words_in
reopen = refl

pair : pair_line (0 ∷ 32 ∷ []) (37 ∷ []) ≡ codes "pair %00%20 =%25\n"
unfolding percent_encode_byte
pair = refl

value : value_line (Some (codes "x~!\u{7f}")) ≡ codes "value =x~!%7F\n"
unfolding percent_encode_byte
value = refl

-- one flushed put of a value that goes into a blob file, and one of a value that stays in its table
table : table_line (record { level = 0; number = 4; size = 118; oldest = 5 }) ≡ codes "table 0 4 118 5\n"
unfolding digits
table = refl

table_alone : table_line (record { level = 0; number = 4; size = 115; oldest = 0 }) ≡ codes "table 0 4 115 0\n"
unfolding digits
table_alone = refl

blob : blob_line (record { number = 5; count = 1; bytes = 36; garbage_count = 0; garbage_bytes = 0; linked = 1 }) ≡ codes "blob 5 total 1 36 garbage 0 0 linked 1\n"
unfolding digits
blob = refl

-- the greatest numbers
long_table : table_line (record { level = 6; number = 999999999999999; size = 18446744073709551615; oldest = 999999999999998 }) ≡ codes "table 6 999999999999999 18446744073709551615 999999999999998\n"
unfolding digits
long_table = refl
