-- What a Value and an Argument say, as 32-bit words. A place or a length, which the code holds in 64 bits, is a word of 32: bytes that are
-- read are at most 1,048,576, so it is that number.
use Rattle.std.specs.Prelude.{◌≡◌, List, [], ◌∷◌, ◌++◌, true, ℕ, ◌/◌, ◌^◌, length, leb}
use Rattle.sizes.specs.Sizes.{value_answer_words, argument_answer_words}
use Rattle.layout.specs.Words.{word32}
use Rattle.store.specs.Values.{bit}
use Rattle.store.specs.Puts.{AtFront}
use Rattle.contents.specs.declared.RawValue.{RawValue}
use Rattle.contents.specs.Said.{Contents}
use Rattle.contents.specs.Said.{Argument}
use Rattle.contents.specs.Answers.{ValueAnswers, ArgumentAnswers}

-- 18 words: form, format, the double's bits (low word first), show, fixed; place and length of local, s or template, of var-name, of
-- value-label or var-label, of id, of c; how many arguments, and where the first starts
abbrev pub raw_words : RawValue → List ℕ
raw_words x =
    x.form ∷ x.format ∷ word32 x.bits ∷ x.bits / 2 ^ 32 ∷ x.show ∷ bit x.fixed ∷ word32 x.text.place ∷ word32 x.text.length
    ∷ word32 x.var_name.place ∷ word32 x.var_name.length ∷ word32 x.label.place ∷ word32 x.label.length
    ∷ word32 x.id.place ∷ word32 x.id.length ∷ word32 x.c.place ∷ word32 x.c.length ∷ x.arguments
    ∷ word32 x.first_argument ∷ []

-- 22 words: the refusal, its place, the length and the bytes 00 before them
unfoldable pub value_words : Contents → List ℕ
value_words x = (x.refusal ∷ word32 x.place ∷ word32 x.length ∷ word32 x.zeros ∷ []) ++ raw_words x.raw

-- 5 words: the refusal, its place, the length, how many values, and where the first starts
abbrev pub argument_words : Argument → List ℕ
argument_words x = x.refusal ∷ word32 x.place ∷ word32 x.length ∷ x.values ∷ word32 x.first ∷ []

-- a call of `digarumbi_value`, which gave n: nothing is read where `answer` has no room for the words
pub record ValueRead (version : ℕ) (value answer : List ℕ) (n : ℕ) (answer' : List ℕ) : Type 0 where
  pub contents : Contents
  pub is_read : leb value_answer_words (length answer) ≡ true → ValueAnswers version value contents
  pub words : AtFront value_answer_words (value_words contents) answer n answer'

-- a call of `digarumbi_argument`
pub record ArgumentRead (version : ℕ) (argument answer : List ℕ) (n : ℕ) (answer' : List ℕ) : Type 0 where
  pub contents : Argument
  pub is_read : leb argument_answer_words (length answer) ≡ true → ArgumentAnswers version argument contents
  pub words : AtFront argument_answer_words (argument_words contents) answer n answer'
