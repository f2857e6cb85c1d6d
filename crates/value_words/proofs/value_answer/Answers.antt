use Rattle.std.proofs.lemmas.Bool.{le-leb, lt-leb}
use mathlib.Core.Path.{sym, ◌∙◌}
use Rattle.layout.specs.Steps.Slices.{bytes_of}
use Rattle.contents.specs.Laws.Plain.{plain_value}
use Rattle.contents.proofs.Laws.Plain.{plain_answers}
use Rattle.value_words.proofs.ValueCalls.{with_value, without_value}
use Rattle.value_words.proofs.value_answer.Goals as goal

pub returns-then-short : goal.returns-then-short
returns-then-short c = without_value _ _ _ (lt-leb _ _ c.if-short.true)

pub returns-then-is_plain : goal.returns-then-is_plain
returns-then-is_plain c =
    rw (← c.from-version.ensures)
    (with_value _ _ _ (plain_value _) (le-leb _ _ c.if-short.false)
    (plain_answers _ (bytes_of _ c.type_inv.value) (sym c.is_plain.ensures ∙ c.if-is_plain.true)) c.plain_words.ensures)

pub returns : goal.returns
returns c =
    rw (← c.from-version.ensures) (with_value _ _ _ _ (le-leb _ _ c.if-short.false) c.read_value.ensures c.value_words.ensures)
