-- Where the tests of axes and cells stand, by computation: bytes that start at the place 100, and the refusal's number and place.
use Rattle.std.specs.Prelude.{◌≡◌, refl, List, [], ◌∷◌, ◌++◌, map, ℕ}
use Rattle.sizes.specs.Basics.{among, pick}
use Rattle.grammar.specs.Layout.{Layout, passes}
use Rattle.grammar.specs.Rule.{Rule}
use Rattle.grammar.specs.Laws.Layout.Read.{Got, got, no, read, refusal}
use Rattle.grammar.specs.Laws.Layout.Check.{check}
use Rattle.grammar.specs.Value.{CellValue, ValueIn, RawValueOf, TemplateOf, ArgumentOf}
use Rattle.grammar.specs.Once.{fresh}
use Rattle.grammar.specs.Rules.{entry_rule, counts_rule, cell_rule}

data Line : Type 0 where
  refused_at : ℕ → ℕ → Line
  read_to : ℕ → Line

line : {g : Layout} → Rule g → List ℕ → Line
line {g} u bs = line_of (check u bs 100)
  where
    line_of : {A : Type 0} → Got A → Line
    line_of (got t r p) = read_to p
    line_of (no n p) = refused_at n p

int : ℕ → List ℕ
int n = n ∷ 0 ∷ 0 ∷ 0 ∷ []

-- of two dimensions: 9 at the first count after all three, and not before the third is there; 9 at the entry, as soon as it is read
axes : map (line (counts_rule 2))
    ((int 1 ++ int 1 ++ int 1) ∷ (int 1 ++ int 1) ∷ (int 0 ++ int 1 ++ int 1 ++ int 0 ++ int 0) ∷ (int 0 ++ int 1 ++ int 1 ++ int 2) ∷ (int 0 ++ int 1 ++ int 1 ++ int 1 ++ int 0) ∷ [])
    ≡ refused_at 9 100 ∷ refused_at 2 108 ∷ refused_at 9 116 ∷ refused_at 9 112 ∷ read_to 120 ∷ []
unfolding line int check entry_rule read passes pick fresh among refusal
axes = refl

-- in a table of four places: 10 at the index, as soon as it is read; an index that is inside is followed by a Value
cells : map (line (cell_rule 3 4 [])) ((int 4 ++ int 0) ∷ (int 3 ++ int 1) ∷ (int 3 ++ int 0) ∷ [])
    ≡ refused_at 10 100 ∷ refused_at 10 100 ∷ refused_at 2 108 ∷ []
unfolding line int check cell_rule CellValue ValueIn RawValueOf TemplateOf ArgumentOf read passes pick fresh among refusal
cells = refl
