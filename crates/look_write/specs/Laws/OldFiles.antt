-- What is answered for an old file: "now come back as version 02 looks with 002's defaults" (document 02, T-10).
use Rattle.std.specs.Prelude.{◌≡◌, refl, Bool, true, false, List, ℕ, eqb}
use Rattle.std.proofs.Common.{sym, ap, ◌∙◌, arith, ne_eqb}
use Rattle.std.proofs.lemmas.Bool.{false≢true}
use Rattle.grammar.specs.Layout.{Tree, Bytes}
use Rattle.grammar.specs.Laws.Layout.Read.{read}
use Rattle.store.specs.Fields.{Text, lent, letters, Fields, placed}
use Rattle.look.specs.declared.Continuation.{Continuation}
use Rattle.look.specs.declared.Continuation.TheVariants.{Default, Stored}
use Rattle.look.specs.declared.V2Styles.{V2Styles}
use Rattle.look.specs.declared.Look.{Look}
use Rattle.std.specs.Prelude.{Ok}
use Rattle.look.specs.Look as grammar
use Rattle.look.specs.Look.{TableLook, TableLook02}
use Rattle.look.specs.Values as values
use Rattle.look.specs.Answers.{defaults, outcome, v2_data, expected}
use Rattle.look.specs.Laws.Separators.{separator_at, separator_back}
use Rattle.look_write.specs.Laws.Theorems.{of_file, fields_are}

-- ---- V2Styles from its fields: so two that have the same fields are the same

continuation_of : Text → Continuation
continuation_of (lent n) = Stored n
continuation_of (letters xs) = Default

continuation_back : (x : Continuation) → continuation_of (values.continuation x) ≡ x
unfolding continuation_of
continuation_back Default = refl
continuation_back (Stored n) = refl

styles_of : Fields grammar.V2Styles → V2Styles
styles_of f =
    let fs = f.0.0.0.0.0 in
    record {
      frames = record {
        title = separator_at 0 fs;
        inner = record { left = separator_at 1 fs; right = separator_at 2 fs; top = separator_at 3 fs; bottom = separator_at 4 fs };
        outer = record { left = separator_at 5 fs; right = separator_at 6 fs; top = separator_at 7 fs; bottom = separator_at 8 fs };
        data_left = separator_at 9 fs;
        data_top = separator_at 10 fs;
      };
      continuation = continuation_of f.0.0.0.0.1;
      min_col_width = f.0.0.0.1.0;
      max_col_width = f.0.0.1.0;
      min_row_height = f.0.1.0;
      max_row_height = f.1.0;
    }

styles_back : (x : V2Styles) → styles_of (values.v2_styles x) ≡ x
unfolding styles_of separator_at
styles_back x =
    rw (
      separator_back x.frames.title,
      separator_back x.frames.inner.left,
      separator_back x.frames.inner.right,
      separator_back x.frames.inner.top,
      separator_back x.frames.inner.bottom,
      separator_back x.frames.outer.left,
      separator_back x.frames.outer.right,
      separator_back x.frames.outer.top,
      separator_back x.frames.outer.bottom,
      separator_back x.frames.data_left,
      separator_back x.frames.data_top,
      continuation_back x.continuation,
    )

version_placed : (t : Tree TableLook) → (placed TableLook t 0).1.0 ≡ t.1.0
unfolding placed
version_placed t = refl

default_if : (b : Bool) (f : Fields (grammar.V2StylesIf b)) → b ≡ false → v2_data b f ≡ values.v2_styles defaults
default_if true f e = absurd (false≢true (sym e))
default_if false f e = refl

-- whatever look meets `read_look`'s contract for bytes that it accepts
module _ (bs : List ℕ) (h : Bytes bs) (y : Look) (i : outcome (Ok y) ≡ expected (read TableLook bs 0)) where
  -- it is of version 02
  pub version_02 : y.version ≡ 2
  version_02 = ap (λ (f : Fields TableLook02). f.1.0) (fields_are bs h y i)

  -- and has the defaults where the file is of version 00
  pub old_defaults : (of_file bs h y i).tree.1.0 ≡ 0 → y.v2 ≡ defaults
  old_defaults e =
      let f = placed TableLook (of_file bs h y i).tree 0 in
      let same : values.v2_styles y.v2 ≡ v2_data (eqb f.1.0 2) f.1.1.1.1 = ap (λ (f : Fields TableLook02). f.1.1.1.1) (fields_are bs h y i) in
      let none : eqb f.1.0 2 ≡ false = ne_eqb f.1.0 2 (λ j. omega (arith, e, version_placed (of_file bs h y i).tree, j)) in
      sym (styles_back y.v2) ∙ ap styles_of (same ∙ default_if (eqb f.1.0 2) f.1.1.1.1 none) ∙ styles_back defaults
