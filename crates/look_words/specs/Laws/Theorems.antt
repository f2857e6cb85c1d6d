-- The words of a look, named one by one, are those of its fields in the file's order; and how many words there are.
use Rattle.std.specs.Prelude.{◌≡◌, refl, List, ◌∷◌, ◌++◌, ℕ, length, replicate}
use Rattle.std.proofs.Common.{append-nil, append_assoc, arith, length-append}
use Rattle.sizes.specs.Sizes.{look_words, look_answer_words}
use Rattle.grammar.specs.Layout.{Layout, ◌▸◌, spell_all, Bytes}
use Rattle.layout.specs.Words.{word32}
use Rattle.layout.specs.Laws.Words.{word_same}
use Rattle.grammar.specs.Laws.Layout.Read.{read}
use Rattle.store.specs.Fields.{Fields}
use Rattle.look.specs.declared.Separator.{Separator}
use Rattle.look.specs.declared.Separator.TheVariants.{NotDrawn, Drawn}
use Rattle.look.specs.declared.Settings.{Settings}
use Rattle.look.specs.declared.Lines.{Lines}
use Rattle.look.specs.declared.Area.{Area}
use Rattle.look.specs.declared.MostAreas.{MostAreas}
use Rattle.look.specs.declared.Frames.{Frames}
use Rattle.look.specs.declared.Continuation.{Continuation}
use Rattle.look.specs.declared.Continuation.TheVariants.{Default, Stored}
use Rattle.look.specs.declared.V2Styles.{V2Styles}
use Rattle.look.specs.declared.Look.{Look}
use Rattle.look.specs.Read.{Answer}
use Rattle.std.specs.Prelude.{Ok, Err}
use Rattle.look.specs.Look as grammar
use Rattle.look.specs.Look.{TableLook}
use Rattle.look.specs.Values as values
use Rattle.look.specs.Values.{◌&◌}
use Rattle.look.specs.Answers.{refused, outcome, expected}
use Rattle.look.specs.Laws.RefusedExactly.{refused_exactly, place_within}
use Rattle.look_words.specs.LookWords as named
use Rattle.look_words.specs.LookWords.{look_words_of}
use Rattle.look_words.specs.FieldWords.{text_words, words, field_words, answer_words_of}

separator_same : (x : Separator) → words grammar.Separator (values.separator x) ≡ named.separator x
unfolding words named.separator
separator_same NotDrawn = refl
separator_same (Drawn color style width) = refl

separators : List (Fields grammar.Separator) → List ℕ
separators = spell_all (words grammar.Separator)

lines_same : (x : Lines) → separators (values.lines x) ≡ named.lines x
unfolding separators spell_all named.four
lines_same x = simp (separator_same, append-nil, append_assoc)

frames_same : (x : Frames) → separators (values.frames x) ≡ named.frames x
unfolding separators spell_all named.four named.frames
frames_same x = simp (separator_same, append-nil, append_assoc)

settings_same : (x : Settings) → words grammar.settings (values.settings x) ≡ named.settings x
unfolding words
settings_same x = refl

borders_same : (rows columns : Lines) → words grammar.PVSeparatorStyle (values.separator_style rows columns) ≡ named.lines rows ++ named.lines columns
unfolding words separators
borders_same rows columns = rw (← (lines_same rows), ← (lines_same columns)) (simp append-nil)

areas_same : (title : Area) (most : MostAreas)
    → words grammar.PVCellStyle (values.cell_style title.color) ++ words grammar.PVTextStyle (values.text_style title.style most)
    ≡ named.area title ++ named.most_areas most
unfolding words text_words spell_all named.area named.most_areas
areas_same title most = refl

continuation_same : (x : Continuation) → text_words (values.continuation x) ≡ named.continuation x
unfolding text_words named.continuation values.default_continuation
continuation_same Default = refl
continuation_same (Stored n) = refl

v2_same : (x : V2Styles) → words grammar.V2Styles (values.v2_styles x) ≡ named.frames x.frames ++ named.v2_numbers x
unfolding words separators named.v2_numbers
v2_same x = rw (← (frames_same x.frames), ← (continuation_same x.continuation)) (simp append_assoc)

three : (a b c : Layout) (f : Fields a) (g : Fields b) (h : Fields c) → words (a ▸ b ▸ c) (f & g & h) ≡ words a f ++ (words b g ++ words c h)
unfolding words
three a b c f g h = append_assoc (words a f) (words b g) (words c h)

regroup : (s r c t m f n : List ℕ) → s ++ ((r ++ c) ++ (t ++ m)) ++ (f ++ n) ≡ s ++ r ++ c ++ t ++ m ++ f ++ n
regroup s r c t m f n = simp append_assoc

pub in_order : (x : Look) → field_words (values.fields x) ≡ look_words_of x
unfolding field_words look_words_of
in_order x =
    rw (
      settings_same x.settings,
      three grammar.PVSeparatorStyle grammar.PVCellStyle grammar.PVTextStyle,
      borders_same x.rows x.columns,
      areas_same x.title x.most_areas,
      v2_same x.v2,
    )
    (regroup (x.version ∷ named.settings x.settings) (named.lines x.rows) (named.lines x.columns) (named.area x.title) (named.most_areas x.most_areas) (named.frames x.v2.frames) (named.v2_numbers x.v2))

-- ---- lengths

separator_long : (x : Separator) → length (named.separator x) ≡ 4
unfolding named.separator
separator_long NotDrawn = refl
separator_long (Drawn color style width) = refl

continuation_long : (x : Continuation) → length (named.continuation x) ≡ 2
unfolding named.continuation
continuation_long Default = refl
continuation_long (Stored n) = refl

pub look_long : (x : Look) → length (look_words_of x) ≡ look_words
unfolding look_words_of named.four named.area named.most_areas named.frames named.v2_numbers
look_long x = simp (length-append, separator_long, continuation_long)

-- ---- an answer of the code

abbrev pub code_words : Answer → List ℕ
code_words (Ok x) = 0 ∷ 0 ∷ look_words_of x
code_words (Err (n, p)) = n ∷ word32 p ∷ replicate look_words 0

-- the place of a refusal loses no bit
pub place_same : (s : List ℕ) → Bytes s → {n p : ℕ} → refused n p ≡ expected (read TableLook s 0) → word32 p ≡ p
place_same s h {n} {p} e =
    let r = (refused_exactly s h (Err (n, p)) e n p).0 refl in
    word_same p (omega (arith, place_within r))

pub answer_same : (s : List ℕ) → Bytes s → (a : Answer) → outcome a ≡ expected (read TableLook s 0) → answer_words_of (outcome a) ≡ code_words a
unfolding answer_words_of
answer_same s h (Ok x) e = rw (in_order x)
answer_same s h (Err (n, p)) e = rw (place_same s h e)

pub answer_long : (a : Answer) → length (code_words a) ≡ look_answer_words
answer_long (Ok x) = rw (look_long x)
answer_long (Err (n, p)) = refl
