-- A Value of each form, and what it says, by computation.
use Rattle.std.specs.Prelude.{◌≡◌, refl, true, false, List, [], ◌∷◌, ◌++◌, map, ℕ, length, replicate}
use Rattle.sizes.specs.Basics.{pick, among, undigit, le}
use Rattle.grammar.specs.Layout.{passes, suits, undigits, spell, spell_all, spell_fill, digits, size}
use Rattle.grammar.specs.Numbers.{refusal}
use Rattle.grammar.specs.Laws.Layout.Read.{read, bind, read_number, read_counted, read_times, read_leading, read_fill, ends, lead}
use Rattle.store.specs.declared.Name.{Name}
use Rattle.store.specs.Fields.{placed, placed_all, placed_in}
use Rattle.grammar.specs.Value as grammar
use Rattle.contents.specs.Said.{Contents}
use Rattle.contents.specs.declared.RawValue.{RawValue}
use Rattle.contents.specs.Contents.{none, raw, contents, chosen, either, raw_says, template_form, says_01, says_02, says_03, says_04, says_05, says_06, says_31, says_58, argument_of, argument_contents}
use Rattle.contents.specs.Answers.{unread, refused}
use Rattle.contents.specs.Laws.Answers.{answer_of, value_answer, argument_answer}

-- bytes from a place on
abbrev at : ℕ → ℕ → Name
at place long = record { place = place; length = long }

abbrev said : ℕ → ℕ → RawValue → Contents
said long zeros x = record { refusal = 0; place = 0; length = long; zeros = zeros; raw = x }

-- a string: its length and its bytes
abbrev string : List ℕ → List ℕ
string bs = length bs ∷ 0 ∷ 0 ∷ 0 ∷ bs

-- 8.2 as a format; 3 as a double
abbrev format : List ℕ
format = 2 ∷ 8 ∷ 5 ∷ 0 ∷ []

abbrev three_bits : ℕ
three_bits = 0x4008000000000000

abbrev three : List ℕ
three = 0 ∷ 0 ∷ 0 ∷ 0 ∷ 0 ∷ 0 ∷ 8 ∷ 0x40 ∷ []

abbrev simple : List ℕ
simple = 1 ∷ 0x58 ∷ [] ++ format ++ three

-- a Value, of a member of that version, and what it says
pub record Example : Type 0 where
  pub version : ℕ
  pub bytes : List ℕ
  pub says : Contents

-- 01: its format and its bits
abbrev form_01 : Example
form_01 = record { version = 3; bytes = (1 ∷ 0x58 ∷ [] ++ format ++ three); says = said 14 0 (raw 1 0x50802 three_bits 0 false none none none none none 0 0) }

-- 02, after a byte 00: a variable x, whose value 3 has the label "Thr", to be shown by its label
abbrev form_02 : Example
form_02 = record { version = 3; bytes = (0 ∷ 2 ∷ 0x58 ∷ [] ++ format ++ three ++ string (0x78 ∷ []) ++ string (0x54 ∷ 0x68 ∷ 0x72 ∷ []) ++ 2 ∷ []); says = said 28 1 (raw 2 0x50802 three_bits 2 false none (at 19 1) (at 24 3) none none 0 0) }

-- 03: local, id and c, fixed
abbrev form_03 : Example
form_03 = record { version = 3; bytes = (3 ∷ [] ++ string (0x61 ∷ 0x62 ∷ []) ++ 0x58 ∷ [] ++ string [] ++ string (0x63 ∷ []) ++ 1 ∷ []); says = said 18 0 (raw 3 0 0 0 true (at 5 2) none none (at 12 0) (at 16 1) 0 0) }

-- 04: value-label, var-name, show and s
abbrev form_04 : Example
form_04 = record { version = 3; bytes = (4 ∷ 0x58 ∷ [] ++ format ++ string (0x4c ∷ []) ++ string (0x76 ∷ 0x77 ∷ []) ++ 3 ∷ [] ++ string (0x73 ∷ [])); says = said 23 0 (raw 4 0x50802 0 3 false (at 22 1) (at 15 2) (at 10 1) none none 0 0) }

-- 05: var-name, var-label and show
abbrev form_05 : Example
form_05 = record { version = 3; bytes = (5 ∷ 0x58 ∷ [] ++ string (0x78 ∷ []) ++ string (0x58 ∷ 0x59 ∷ []) ++ 1 ∷ []); says = said 14 0 (raw 5 0 0 1 false none (at 6 1) (at 11 2) none none 0 0) }

-- 06: local, id and c
abbrev form_06 : Example
form_06 = record { version = 3; bytes = (6 ∷ [] ++ string (0x61 ∷ []) ++ 0x58 ∷ [] ++ string (0x62 ∷ []) ++ string []); says = said 16 0 (raw 6 0 0 0 false (at 5 1) none none (at 11 1) (at 16 0) 0 0) }

-- a template of one byte with two arguments: one value, and two
abbrev template : Example
template = record { version = 3; bytes = (0x58 ∷ [] ++ string (0x5e ∷ []) ++ 2 ∷ 0 ∷ 0 ∷ 0 ∷ [] ++ 0 ∷ 0 ∷ 0 ∷ 0 ∷ [] ++ simple ++ 2 ∷ 0 ∷ 0 ∷ 0 ∷ 0 ∷ 0 ∷ 0 ∷ 0 ∷ [] ++ simple ++ simple); says = said 64 0 (raw template_form 0 0 0 false (at 5 1) none none none none 2 10) }

-- five bytes 00 before it in version 1, and in version 3
abbrev five_zeros : Example
five_zeros = record { version = 1; bytes = (replicate 5 0 ++ simple); says = said 19 5 (raw 1 0x50802 three_bits 0 false none none none none none 0 0) }

abbrev five_zeros_in_3 : Example
five_zeros_in_3 = record { version = 3; bytes = (replicate 5 0 ++ simple); says = refused 3 4 }

-- no other version, and no Value
abbrev another_version : Example
another_version = record { version = 2; bytes = simple; says = refused 4 0 }

abbrev no_bytes : Example
no_bytes = record { version = 3; bytes = []; says = refused 2 0 }

abbrev pub examples : List Example
examples = form_01 ∷ form_02 ∷ form_03 ∷ form_04 ∷ form_05 ∷ form_06 ∷ template ∷ five_zeros ∷ five_zeros_in_3 ∷ another_version ∷ no_bytes ∷ []

pub all_right : map (λ (e : Example). value_answer e.version e.bytes) examples ≡ map (λ (e : Example). e.says) examples
unfolding answer_of unread pick among passes suits undigits undigit refusal read bind read_number read_counted read_times read_leading read_fill ends lead placed placed_all placed_in spell spell_all spell_fill digits le size contents chosen either raw_says says_01 says_02 says_03 says_04 says_05 says_06 says_31 says_58 argument_contents grammar.CellValue grammar.RawValueOf grammar.ValueIn grammar.ValueMod grammar.Modifiers grammar.TemplateString grammar.TemplatePrefix grammar.StylePair grammar.FontStyle grammar.CellStyle grammar.TemplateOf grammar.ArgumentOf grammar.Form01 grammar.Form02 grammar.Form03 grammar.Form04 grammar.Form05 grammar.Form06
all_right = refl

-- its second argument alone, with bytes after it
argument : argument_answer 3 (2 ∷ 0 ∷ 0 ∷ 0 ∷ 0 ∷ 0 ∷ 0 ∷ 0 ∷ [] ++ simple ++ simple ++ 7 ∷ []) ≡ argument_of 36 2
unfolding answer_of unread pick among passes suits undigits undigit refusal read bind read_number read_counted read_times read_leading read_fill ends lead placed placed_all placed_in spell spell_all spell_fill digits le size contents chosen either raw_says says_01 says_02 says_03 says_04 says_05 says_06 says_31 says_58 argument_contents grammar.CellValue grammar.RawValueOf grammar.ValueIn grammar.ValueMod grammar.Modifiers grammar.TemplateString grammar.TemplatePrefix grammar.StylePair grammar.FontStyle grammar.CellStyle grammar.TemplateOf grammar.ArgumentOf grammar.Form01 grammar.Form02 grammar.Form03 grammar.Form04 grammar.Form05 grammar.Form06
argument = refl
