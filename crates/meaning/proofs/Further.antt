-- Rows beside the tables made from vectors/: document 01's examples that are not starred; the manuals' own examples; the ends of RFC 3629's ranges; what is
-- no UTF-8, asked of each helper; records of every question; long values written, and read back. What is UTF-8 was asked of the Rust
-- (tools/oracle/oracle.py); 4, the helpers' no, the writer's text and the records' lines are document 01's. Assumes nothing.
use mathlib.Core.Bool.{true, false}
use mathlib.Core.List.{List, [], ◌∷◌, ◌++◌}
use Prim.Native.String.{String}
use lib.Dec.{T}
use Rattle.meaning.specs.declared.PartSize.TheVariants.{Whole, AtMost}
use Rattle.meaning.specs.Bytes.{within, is_mark, is_letter, is_decimal, in_name, starts_tag, in_tag, digit, all_digits}
use Rattle.meaning.specs.Chars.{lead, utf8, more, encode, is_scalar, width, is_space}
use Rattle.meaning.specs.Steps.{doubled, one_byte, may_escape, scalar_by, pair, low_half, uescaped}
use Rattle.meaning.specs.Cutting.{named, segment, segment_step, cut, continues}
use Rattle.meaning.specs.Spelling.{encloses, argument, upper, is_unicode, unicode_spelling, delimiter, spelling}
use Rattle.meaning.specs.Reading.{answer, one, read}
use Rattle.meaning.specs.Numbers.{sign_length, is_minus, base_by, radix_prefix, parsed, separated, radix_value, i64_of, digits_by, digits_of, decimal_of}
use Rattle.meaning.specs.Kinds.{bit_body, bits, money, token_start, quote_token, temporal_token, temporal, charset_end}
use Rattle.meaning.specs.Helpers.{uescape_legal, escape_valid, unicode_valid, ident}
use Rattle.meaning.specs.Answers.{part_shown, filled}
use Rattle.meaning.specs.Questions.{cuts_character, bad_span, source_text, tested, string_question, decimal_question, bits_question, temporal_question}
use Rattle.meaning.specs.Questions.{source_question, money_question, charset_question, i64_question, identifier_question}
use Rattle.meaning.specs.Writer.{spell, written_text, over_limit, unwritable_nul, write_question}
use Rattle.meaning.specs.Records.{line, good_record, record_line, output}
use Rattle.meaning.proofs.Rows.{Row, asks, spans, helps, names, prefixed, spells, prints, string, decimal_text, bit_text, temporal_text, source_part}
use Rattle.meaning.proofs.Rows.{charset, i64, uescape_legality, escape_validity, unicode_validity, embedded_nul, is_ident, borrows, writes, plus, refuses, breaks}
use Rattle.meaning.proofs.Rows.{wrote, needs, refused, all}

-- [01 Examples] without a star
abbrev pub examples : List Row
examples =
    asks temporal_text 8 "" "DATE $$a$$b$$" "" (borrows 7 8 "a") ∷
    asks bit_text 12 "" "B'01' " "" (writes 0 "01") ∷
    helps escape_validity "E'a\0'" true ∷
    asks (string false) 4 "" "E'a\0'" "" (breaks 3 0) ∷ []

-- [PostgreSQL manual 4.1.2] constants, and identifiers of 4.1.1
abbrev pub postgres : List Row
postgres =
    asks (string false) 4 "" "'Dianne''s horse'" "" (writes 1 "Dianne's horse") ∷
    asks (string false) 4 "" "'foo'\n'bar'" "" (writes 0 "foobar") ∷
    asks (string false) 4 "" "U&'d\\0061t\\+000061'" "" (writes 1 "data") ∷
    asks (string false) 4 "" "U&'\\0441\\043B\\043E\\043D'" "" (writes 0 "Ñ\u{81}Ð»Ð¾Ð½") ∷
    asks (string false) 4 "" "U&'d!0061t!+000061' UESCAPE '!'" "" (writes 1 "data") ∷
    names "U&\"d\\0061t\\+000061\"" (writes 0 "data") ∷
    names "U&\"\\0441\\043B\\043E\\043D\"" (writes 1 "Ñ\u{81}Ð»Ð¾Ð½") ∷
    names "U&\"d!0061t!+000061\" UESCAPE '!'" (writes 0 "data") ∷
    asks (string false) 4 "" "$$Dianne's horse$$" "" (borrows 2 16 "Dianne's horse") ∷
    asks (string false) 4 "" "$SomeTag$Dianne's horse$SomeTag$" "" (borrows 9 23 "Dianne's horse") ∷
    asks (string false) 4 "" "$function$\nBEGIN\n    RETURN ($1 ~ $q$[\\t\\r\\n\\v\\\\]$q$);\nEND;\n$function$" ""
    (borrows 10 60 "\nBEGIN\n    RETURN ($1 ~ $q$[\\t\\r\\n\\v\\\\]$q$);\nEND;\n") ∷
    asks bit_text 12 "" "B'1001'" "" (borrows 2 6 "1001") ∷
    asks bit_text 13 "" "X'1FF'" "" (borrows 2 5 "1FF") ∷
    asks i64 1 "" "42" "" (plus 42) ∷
    asks i64 1 "" "1_500_000_000" "" (plus 1500000000) ∷
    asks i64 1 "" "0b10001000_00000000" "" (plus 34816) ∷
    asks i64 1 "" "0o755" "" (plus 493) ∷
    asks i64 1 "" "0xFFFF_FFFF" "" (plus 4294967295) ∷
    asks decimal_text 2 "" "1.618_034" "" (writes 1 "1.618034") ∷
    asks decimal_text 2 "" "1.925e-3" "" (borrows 0 8 "1.925e-3") ∷
    asks decimal_text 2 "" ".001" "" (borrows 0 4 ".001") ∷
    asks decimal_text 1 "" "0XFFFF" "" (writes 0 "65535") ∷ []

-- [MySQL manual, String Literals] at either setting
abbrev pub mysql : List Row
mysql =
    asks (string false) 4 "" "'a string'" "" (borrows 1 9 "a string") ∷
    asks (string false) 4 "" "\"another string\"" "" (borrows 1 15 "another string") ∷
    asks (string false) 4 "" "'a' ' ' 'string'" "" (writes 1 "a string") ∷
    asks (string false) 4 "" "_latin1'string'" "" (borrows 8 14 "string") ∷
    asks charset 4 "" "_utf8mb4'string'" "" (borrows 1 8 "utf8mb4") ∷
    asks (string false) 4 "" "N'some text'" "" (borrows 2 11 "some text") ∷
    asks (string false) 4 "" "n'some text'" "" (borrows 2 11 "some text") ∷
    asks (string true) 4 "" "'\"hello\"'" "" (borrows 1 8 "\"hello\"") ∷
    asks (string true) 4 "" "'\"\"hello\"\"'" "" (borrows 1 10 "\"\"hello\"\"") ∷
    asks (string true) 4 "" "'hel''lo'" "" (writes 0 "hel'lo") ∷
    asks (string true) 4 "" "'\\'hello'" "" (writes 1 "'hello") ∷
    asks (string true) 4 "" "\"'hello'\"" "" (borrows 1 8 "'hello'") ∷
    asks (string true) 4 "" "\"''hello''\"" "" (borrows 1 10 "''hello''") ∷
    asks (string true) 4 "" "\"hel\"\"lo\"" "" (writes 0 "hel\"lo") ∷
    asks (string true) 4 "" "\"\\\"hello\"" "" (writes 1 "\"hello") ∷
    asks (string true) 4 "" "'This\\nIs\\nFour\\nLines'" "" (writes 0 "This\nIs\nFour\nLines") ∷
    asks (string true) 4 "" "'disappearing\\ backslash'" "" (writes 1 "disappearing backslash") ∷ []

-- [RFC 3629, section 4] the first and the last of each range of characters
abbrev pub ranges : List Row
ranges =
    asks (string false) 4 "" "'\u{7f}'" "" (borrows 1 2 "\u{7f}") ∷
    asks (string false) 4 "" "'Â\u{80}'" "" (borrows 1 3 "Â\u{80}") ∷
    asks (string false) 4 "" "'ß¿'" "" (borrows 1 3 "ß¿") ∷
    asks (string false) 4 "" "'à\u{a0}\u{80}'" "" (borrows 1 4 "à\u{a0}\u{80}") ∷
    asks (string false) 4 "" "'á\u{80}\u{80}'" "" (borrows 1 4 "á\u{80}\u{80}") ∷
    asks (string false) 4 "" "'ì¿¿'" "" (borrows 1 4 "ì¿¿") ∷
    asks (string false) 4 "" "'í\u{9f}¿'" "" (borrows 1 4 "í\u{9f}¿") ∷
    asks (string false) 4 "" "'î\u{80}\u{80}'" "" (borrows 1 4 "î\u{80}\u{80}") ∷
    asks (string false) 4 "" "'ï¿¿'" "" (borrows 1 4 "ï¿¿") ∷
    asks (string false) 4 "" "'ð\u{90}\u{80}\u{80}'" "" (borrows 1 5 "ð\u{90}\u{80}\u{80}") ∷
    asks (string false) 4 "" "'ñ\u{80}\u{80}\u{80}'" "" (borrows 1 5 "ñ\u{80}\u{80}\u{80}") ∷
    asks (string false) 4 "" "'ó¿¿¿'" "" (borrows 1 5 "ó¿¿¿") ∷
    asks (string false) 4 "" "'ô\u{8f}¿¿'" "" (borrows 1 5 "ô\u{8f}¿¿") ∷ []

-- what no range has: a later byte first, overlong forms, halves, above 10FFFF, a sequence that breaks off
abbrev pub broken_texts : List Row
broken_texts =
    asks (string false) 4 "" "'\u{80}'" "" (refuses 4) ∷
    asks (string false) 4 "" "'¿'" "" (refuses 4) ∷
    asks (string false) 4 "" "'À\u{80}'" "" (refuses 4) ∷
    asks (string false) 4 "" "'Á¿'" "" (refuses 4) ∷
    asks (string false) 4 "" "'Â'" "" (refuses 4) ∷
    asks (string false) 4 "" "'Â\u{7f}'" "" (refuses 4) ∷
    asks (string false) 4 "" "'ÂÀ'" "" (refuses 4) ∷
    asks (string false) 4 "" "'ß'" "" (refuses 4) ∷
    asks (string false) 4 "" "'à\u{9f}¿'" "" (refuses 4) ∷
    asks (string false) 4 "" "'á\u{80}\u{7f}'" "" (refuses 4) ∷
    asks (string false) 4 "" "'á\u{80}'" "" (refuses 4) ∷
    asks (string false) 4 "" "'í\u{a0}\u{80}'" "" (refuses 4) ∷
    asks (string false) 4 "" "'í¿¿'" "" (refuses 4) ∷
    asks (string false) 4 "" "'ï¿À'" "" (refuses 4) ∷
    asks (string false) 4 "" "'ð\u{8f}¿¿'" "" (refuses 4) ∷
    asks (string false) 4 "" "'ñ\u{80}\u{80}\u{7f}'" "" (refuses 4) ∷
    asks (string false) 4 "" "'ñ\u{80}\u{80}'" "" (refuses 4) ∷
    asks (string false) 4 "" "'ô\u{90}\u{80}\u{80}'" "" (refuses 4) ∷
    asks (string false) 4 "" "'õ\u{80}\u{80}\u{80}'" "" (refuses 4) ∷
    asks (string false) 4 "" "'ø\u{88}\u{80}\u{80}\u{80}'" "" (refuses 4) ∷
    asks (string false) 4 "" "'þ'" "" (refuses 4) ∷
    asks (string false) 4 "" "'ÿ'" "" (refuses 4) ∷ []

-- [01 Numbers an answer can carry] "the two validators and `uescape_argument_is_legal` answer no on text that isn't UTF-8; the others read bytes": inside the
-- spelling and outside, each beside a neighbour that is UTF-8. Most of the arguments are as long as their first bytes say, and some of the E strings expand to
-- UTF-8: the text itself has to be asked
abbrev pub helpers : List Row
helpers =
    helps uescape_legality "'Ãÿ'" false ∷
    helps uescape_legality "'Ã¿'" true ∷
    helps uescape_legality "'à\u{80}\u{80}'" false ∷
    helps uescape_legality "'à\u{9f}¿'" false ∷
    helps uescape_legality "'à\u{a0}\u{80}'" true ∷
    helps uescape_legality "'í\u{a0}\u{80}'" false ∷
    helps uescape_legality "'í\u{9f}¿'" true ∷
    helps uescape_legality "'í¿¿'" false ∷
    helps uescape_legality "'î\u{80}\u{80}'" true ∷
    helps uescape_legality "'ð\u{8f}¿¿'" false ∷
    helps uescape_legality "'ð\u{80}\u{80}\u{80}'" false ∷
    helps uescape_legality "'ð\u{90}\u{80}\u{80}'" true ∷
    helps uescape_legality "'ô\u{90}\u{80}\u{80}'" false ∷
    helps uescape_legality "'ô\u{8f}¿¿'" true ∷
    helps uescape_legality "'Ã'" false ∷
    helps uescape_legality "ÿ" false ∷
    helps escape_validity "E'\\xC3©'" false ∷
    helps escape_validity "E'Ã\\xA9'" false ∷
    helps escape_validity "E'\\xC3\\xA9'" true ∷
    helps escape_validity "E'Ã©'" true ∷
    helps escape_validity "E'ÿ'" false ∷
    helps escape_validity "E'\\342\\202¬'" false ∷
    helps escape_validity "E'\\342\\202\\254'" true ∷
    helps escape_validity "E'ÿ" false ∷
    helps escape_validity "E'Ã¿" true ∷
    helps escape_validity "'ÿ'" false ∷
    helps escape_validity "'Ã¿'" true ∷
    helps unicode_validity "U&'ÿ'" false ∷
    helps unicode_validity "U&'Ã¿'" true ∷
    helps unicode_validity "U&'\\00E9©'" false ∷
    helps unicode_validity "U&'\\00E9Ã©'" true ∷
    helps unicode_validity "U&'í\u{a0}\u{80}'" false ∷
    helps unicode_validity "U&'í\u{9f}¿'" true ∷
    helps unicode_validity "U&'a' UESCAPE 'à\u{80}\u{80}'" false ∷
    helps unicode_validity "U&'a' UESCAPE 'à\u{a0}\u{80}'" true ∷
    helps unicode_validity "U&'a' UESCAPE ÿ" false ∷
    helps unicode_validity "U&'a' UESCAPE Ã¿" true ∷
    helps unicode_validity "U&'ÿ" false ∷
    helps unicode_validity "U&'Ã¿" true ∷
    helps unicode_validity "U&\"ÿ\"" false ∷
    helps unicode_validity "U&\"Ã¿\"" true ∷
    names "U&\"ÿ\"" (refuses 4) ∷
    names "U&\"Ã¿\"" (borrows 3 5 "Ã¿") ∷
    helps is_ident "U&\"ÿ" true ∷
    helps embedded_nul "ÿ\0" true ∷
    helps embedded_nul "ÿ" false ∷
    prefixed "0xÿ" 16 2 ∷ []

-- the same ends by escapes
abbrev pub escapes : List Row
escapes =
    asks (string false) 4 "" "E'\\U0010FFFF'" "" (writes 1 "ô\u{8f}¿¿") ∷
    asks (string false) 4 "" "E'\\uD7FF'" "" (writes 0 "í\u{9f}¿") ∷
    asks (string false) 4 "" "E'\\uD800'" "" (breaks 3 2) ∷
    asks (string false) 4 "" "E'\\uDFFF'" "" (breaks 3 2) ∷
    asks (string false) 4 "" "E'\\uE000'" "" (writes 1 "î\u{80}\u{80}") ∷
    asks (string false) 4 "" "E'\\u007F'" "" (writes 0 "\u{7f}") ∷
    asks (string false) 4 "" "E'\\u0080'" "" (writes 1 "Â\u{80}") ∷
    asks (string false) 4 "" "E'\\u07FF'" "" (writes 0 "ß¿") ∷
    asks (string false) 4 "" "E'\\u0800'" "" (writes 1 "à\u{a0}\u{80}") ∷
    asks (string false) 4 "" "E'\\uFFFF'" "" (writes 0 "ï¿¿") ∷
    asks (string false) 4 "" "E'\\U00010000'" "" (writes 1 "ð\u{90}\u{80}\u{80}") ∷
    asks (string false) 4 "" "E'\\U000FFFFF'" "" (writes 0 "ó¿¿¿") ∷
    asks (string false) 4 "" "E'\\U00040000'" "" (writes 1 "ñ\u{80}\u{80}\u{80}") ∷
    asks (string false) 4 "" "E'\\xF1\\x80\\x80\\x80'" "" (writes 0 "ñ\u{80}\u{80}\u{80}") ∷
    asks (string false) 4 "" "E'\\xF3\\xBF\\xBF\\xBF'" "" (writes 1 "ó¿¿¿") ∷
    asks (string false) 4 "" "E'\\xF5\\x80\\x80\\x80'" "" (breaks 3 2) ∷
    asks (string false) 4 "" "E'\\xC1\\xBF'" "" (breaks 3 2) ∷
    asks (string false) 4 "" "E'\\xE0\\x9F\\xBF'" "" (breaks 3 6) ∷
    asks (string false) 4 "" "E'\\xF0\\x8F\\xBF\\xBF'" "" (breaks 3 6) ∷
    asks (string false) 4 "" "U&'\\+10FFFF'" "" (writes 0 "ô\u{8f}¿¿") ∷
    asks (string false) 4 "" "U&'\\+00FFFF'" "" (writes 1 "ï¿¿") ∷
    asks (string false) 4 "" "U&'\\+010000'" "" (writes 0 "ð\u{90}\u{80}\u{80}") ∷
    asks (string false) 4 "" "U&'\\D800\\DC00'" "" (writes 1 "ð\u{90}\u{80}\u{80}") ∷
    asks (string false) 4 "" "U&'\\DBFF\\DFFF'" "" (writes 0 "ô\u{8f}¿¿") ∷
    asks (string false) 4 "" "U&'\\DBFF\\DBFF'" "" (breaks 3 3) ∷
    asks (string false) 4 "" "U&'\\D7FF'" "" (writes 0 "í\u{9f}¿") ∷
    asks (string false) 4 "" "U&'\\E000'" "" (writes 1 "î\u{80}\u{80}") ∷
    asks (string false) 4 "" "U&'\\+00E000'" "" (writes 0 "î\u{80}\u{80}") ∷ []

-- [01 Numbers an answer can carry] "its byte is 80 to BF hex": both ends, at either place of a span, and their neighbours
abbrev pub cut_places : List Row
cut_places =
    spans source_part 4 0 1 "Ã¿" (refuses 3) ∷
    spans source_part 4 1 2 "Ã¿" (refuses 3) ∷
    spans source_part 4 0 1 "Â\u{80}" (refuses 3) ∷
    spans source_part 4 1 2 "Â\u{80}" (refuses 3) ∷
    spans source_part 4 1 1 "a\u{7f}" (borrows 1 1 "") ∷
    spans source_part 4 1 1 "aÀ" (borrows 1 1 "") ∷ []

-- [01 Record program] every question; upper-case hex; 60 bytes of text; a byte that is not zero straight past the text
abbrev pub records : List Row
records =
    prints "\u{1}\u{4}\0\u{4}'Ã©'" 56 "" "0 b 2 C3A9\n" ∷
    prints "\u{1}\u{4}\0\u{b}E'\\xC3\\xAF'" 49 "" "0 w 2 C3AF\n" ∷
    prints "\u{4}\u{c}\0\u{6}B'01' " 54 "" "0 w 2 3031\n" ∷
    prints "\u{4}\r\u{1}\u{4}X'F'" 56 "" "0 b 1 46\n" ∷
    prints "\u{4}\u{c}\0\u{4}B'2'" 56 "" "7 - 0 -\n" ∷
    prints "\u{6}\u{8}\0\nDATE E'\\n'" 50 "" "0 w 1 0A\n" ∷
    prints "\u{6}\u{b}\u{1}\u{4}'\\n'" 56 "" "0 b 2 5C6E\n" ∷
    prints "\u{6}\u{4}\0\u{3}'x'" 57 "" "1 - 0 -\n" ∷
    prints "\u{5}\u{e}\0\u{2}$1" 58 "" "0 b 1 31\n" ∷
    prints "\u{5}\u{e}\0\u{1}1" 59 "" "8 - 0 -\n" ∷
    prints "\u{3}\u{3}\0\u{4}0x_1" 56 "" "5 - 0 -\n" ∷
    prints "\u{2}\u{1}\0\u{13}9223372036854775807" 41 "" "0 i 9223372036854775807 -\n" ∷
    prints "\u{1}\u{4}\0<'aaaaaaaaaaaaaaaaaaaaaaaaaaaaaaaaaaaaaaaaaaaaaaaaaaaaaaaaaa'" 0 ""
    "0 b 58 61616161616161616161616161616161616161616161616161616161616161616161616161616161616161616161616161616161616161616161\n" ∷
    prints "\u{1}\u{4}\0\u{2}''x" 57 "" "10 - 0 -\n" ∷
    prints "\u{1}\u{4}\0\u{1}''" 58 "" "10 - 0 -\n" ∷ []

-- [01 The writer] values of 28 and of 60 bytes: marks, backslashes and NUL; characters of two, three and four bytes at the parts' ends
abbrev pub nuls : String
nuls = "\0it's \0\\Ã©â\u{82}¬'\\\0ð\u{9d}\u{84}\u{9e}'' done\0"

abbrev pub clefs : String
clefs = "Don't fold \\n: 3 Âµm, 5 â\u{82}¬, Â½ tick'd; clef: ð\u{9d}\u{84}\u{9e} ð\u{9d}\u{84}¢ '\\Ã©"

abbrev pub long_values : List Row
long_values =
    spells true Whole nuls 40 (wrote "'\\0it''s \\0\\\\Ã©â\u{82}¬''\\\\\\0ð\u{9d}\u{84}\u{9e}'''' done\\0'") ∷
    spells false Whole nuls 3 (refused 11) ∷
    spells true (AtMost 4) nuls 61 (wrote "'\\0it'''\n's \\0\\\\'\n'Ã©'\n'â\u{82}¬'''\n'\\\\\\0'\n'ð\u{9d}\u{84}\u{9e}'\n''''' d'\n'one\\0'") ∷
    spells true (AtMost 5) nuls 56 (wrote "'\\0it''s'\n' \\0\\\\Ã©'\n'â\u{82}¬''\\\\'\n'\\0ð\u{9d}\u{84}\u{9e}'\n''''' do'\n'ne\\0'") ∷
    spells true (AtMost 7) nuls 49 (wrote "'\\0it''s \\0'\n'\\\\Ã©â\u{82}¬'''\n'\\\\\\0ð\u{9d}\u{84}\u{9e}'''\n''' done\\0'") ∷
    spells true (AtMost 16) nuls 44 (wrote "'\\0it''s \\0\\\\Ã©â\u{82}¬''\\\\\\0'\n'ð\u{9d}\u{84}\u{9e}'''' done\\0'") ∷
    spells false (AtMost 7) nuls 3 (refused 11) ∷
    spells false Whole clefs 66 (wrote "'Don''t fold \\n: 3 Âµm, 5 â\u{82}¬, Â½ tick''d; clef: ð\u{9d}\u{84}\u{9e} ð\u{9d}\u{84}¢ ''\\Ã©'") ∷
    spells true Whole clefs 67 (wrote "'Don''t fold \\\\n: 3 Âµm, 5 â\u{82}¬, Â½ tick''d; clef: ð\u{9d}\u{84}\u{9e} ð\u{9d}\u{84}¢ ''\\\\Ã©'") ∷
    spells false (AtMost 4) clefs 114
    (wrote
    "'Don'''\n't fo'\n'ld \\'\n'n: 3'\n' Âµm'\n', 5 '\n'â\u{82}¬,'\n' Â½ '\n'tick'\n'''d; '\n'clef'\n': '\n'ð\u{9d}\u{84}\u{9e}'\n' '\n'ð\u{9d}\u{84}¢'\n' ''\\'\n'Ã©'") ∷
    spells true (AtMost 4) clefs 115
    (wrote
    "'Don'''\n't fo'\n'ld \\\\'\n'n: 3'\n' Âµm'\n', 5 '\n'â\u{82}¬,'\n' Â½ '\n'tick'\n'''d; '\n'clef'\n': '\n'ð\u{9d}\u{84}\u{9e}'\n' '\n'ð\u{9d}\u{84}¢'\n' ''\\\\'\n'Ã©'") ∷
    spells true (AtMost 5) clefs 104
    (wrote
    "'Don''t'\n' fold'\n' \\\\n: '\n'3 Âµm'\n', 5 '\n'â\u{82}¬, '\n'Â½ ti'\n'ck''d;'\n' clef'\n': '\n'ð\u{9d}\u{84}\u{9e} '\n'ð\u{9d}\u{84}¢ '\n'''\\\\Ã©'") ∷
    spells false (AtMost 7) clefs 92
    (wrote "'Don''t f'\n'old \\n:'\n' 3 Âµm,'\n' 5 â\u{82}¬,'\n' Â½ tic'\n'k''d; cl'\n'ef: '\n'ð\u{9d}\u{84}\u{9e} '\n'ð\u{9d}\u{84}¢ ''\\'\n'Ã©'") ∷
    spells false (AtMost 16) clefs 75
    (wrote "'Don''t fold \\n: 3'\n' Âµm, 5 â\u{82}¬, Â½ '\n'tick''d; clef: '\n'ð\u{9d}\u{84}\u{9e} ð\u{9d}\u{84}¢ ''\\Ã©'") ∷
    spells true (AtMost 16) clefs 76
    (wrote "'Don''t fold \\\\n: 3'\n' Âµm, 5 â\u{82}¬, Â½ '\n'tick''d; clef: '\n'ð\u{9d}\u{84}\u{9e} ð\u{9d}\u{84}¢ ''\\\\Ã©'") ∷
    spells true (AtMost 59) clefs 71
    (wrote "'Don''t fold \\\\n: 3 Âµm, 5 â\u{82}¬, Â½ tick''d; clef: ð\u{9d}\u{84}\u{9e} ð\u{9d}\u{84}¢ ''\\\\'\n'Ã©'") ∷
    spells true (AtMost 60) clefs 67
    (wrote "'Don''t fold \\\\n: 3 Âµm, 5 â\u{82}¬, Â½ tick''d; clef: ð\u{9d}\u{84}\u{9e} ð\u{9d}\u{84}¢ ''\\\\Ã©'") ∷
    spells false (AtMost 61) clefs 66
    (wrote "'Don''t fold \\n: 3 Âµm, 5 â\u{82}¬, Â½ tick''d; clef: ð\u{9d}\u{84}\u{9e} ð\u{9d}\u{84}¢ ''\\Ã©'") ∷
    spells true (AtMost 4) clefs 114 (needs 115) ∷
    spells true (AtMost 3) clefs 3 (refused 12) ∷
    spells false (AtMost 16) "Don't fold \\n: 3 Âµm, 5 â\u{82}¬, Â½ tick'd; clef: ð\u{9d}\u{84}\u{9e} ð\u{9d}\u{84}¢ '\\Ã" 3 (refused 4) ∷ []

-- the same literals, read at the setting that they are written at
abbrev pub read_back : List Row
read_back =
    asks (string true) 4 "" "'\\0it''s \\0\\\\Ã©â\u{82}¬''\\\\\\0ð\u{9d}\u{84}\u{9e}'''' done\\0'" "" (writes 0 nuls) ∷
    asks (string true) 4 "" "'\\0it''s'\n' \\0\\\\Ã©'\n'â\u{82}¬''\\\\'\n'\\0ð\u{9d}\u{84}\u{9e}'\n''''' do'\n'ne\\0'" "" (writes 1 nuls) ∷
    asks (string false) 4 "" "'Don''t fold \\n: 3 Âµm, 5 â\u{82}¬, Â½ tick''d; clef: ð\u{9d}\u{84}\u{9e} ð\u{9d}\u{84}¢ ''\\Ã©'" "" (writes 0 clefs) ∷
    asks (string false) 4 ""
    "'Don'''\n't fo'\n'ld \\'\n'n: 3'\n' Âµm'\n', 5 '\n'â\u{82}¬,'\n' Â½ '\n'tick'\n'''d; '\n'clef'\n': '\n'ð\u{9d}\u{84}\u{9e}'\n' '\n'ð\u{9d}\u{84}¢'\n' ''\\'\n'Ã©'" ""
    (writes 1 clefs) ∷
    asks (string true) 4 ""
    "'Don''t'\n' fold'\n' \\\\n: '\n'3 Âµm'\n', 5 '\n'â\u{82}¬, '\n'Â½ ti'\n'ck''d;'\n' clef'\n': '\n'ð\u{9d}\u{84}\u{9e} '\n'ð\u{9d}\u{84}¢ '\n'''\\\\Ã©'" ""
    (writes 0 clefs) ∷
    asks (string true) 4 "" "'Don''t fold \\\\n: 3 Âµm, 5 â\u{82}¬, Â½ tick''d; clef: ð\u{9d}\u{84}\u{9e} ð\u{9d}\u{84}¢ ''\\\\'\n'Ã©'" "" (writes 1 clefs) ∷ []

abbrev pub rows : List Row
rows = examples ++ (postgres ++ (mysql ++ (ranges ++ (broken_texts ++ (helpers ++ (escapes ++ (cut_places ++ (records ++ (long_values ++ read_back)))))))))

pub rows_right : T (all rows)
unfolding within is_mark is_letter is_decimal in_name starts_tag in_tag digit all_digits lead utf8 more encode is_scalar width is_space doubled one_byte may_escape
    scalar_by pair low_half uescaped named segment segment_step cut continues encloses argument upper is_unicode unicode_spelling delimiter spelling answer one read
    sign_length is_minus base_by radix_prefix parsed separated radix_value i64_of digits_by digits_of decimal_of bit_body bits money token_start quote_token temporal_token
    temporal charset_end uescape_legal escape_valid unicode_valid ident part_shown filled cuts_character bad_span source_text tested string_question decimal_question
    bits_question temporal_question source_question money_question charset_question i64_question identifier_question spell written_text over_limit unwritable_nul
    write_question line good_record record_line output
rows_right = tt
