-- The double of a Value that is a number: what of a reading is asked for there.
use Rattle.std.specs.Prelude.{[], ◌∷◌, ℕ, Option, Some, None, Result, Ok, Err}
use Rattle.refusals.specs.declared.Refusal.{Refusal}
use Rattle.sizes.specs.Basics.{among, pick}
use Rattle.contents.specs.declared.RawValue.{RawValue}
use Rattle.contents.specs.declared.figure.Figure.{Figure}

abbrev pub no_figure : Figure
no_figure = record { form = 0; bits = 0 }

unfoldable pub figure_with : ℕ → ℕ → Figure
figure_with form bits = pick (among form (1 ∷ 2 ∷ [])) (record { form = form; bits = bits }) no_figure

abbrev pub figure : RawValue → Figure
figure x = figure_with x.form x.bits

-- what the code gives, so
abbrev pub figure_or_none : Option Figure → Figure
figure_or_none (Some x) = x
figure_or_none None = no_figure

-- of a form that was read
abbrev pub figure_said : Result (RawValue × ℕ) Refusal → Figure
figure_said (Ok (x, p)) = figure x
figure_said (Err e) = no_figure
