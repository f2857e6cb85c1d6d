-- Lines written out.
use Rattle.std.specs.Prelude.{◌^◌, ◌-◌, ◌≡◌, refl, [], ◌∷◌}
use Rattle.report.specs.Text.{decimal}
use Rattle.report.specs.Lines.{refused_of, words_of, table_of, cell}

-- "0"
zero_digits : decimal 0 ≡ 48 ∷ []
unfolding decimal
zero_digits = refl

-- "1048576"
seven_digits : decimal 1048576 ≡ 49 ∷ 48 ∷ 52 ∷ 56 ∷ 53 ∷ 55 ∷ 54 ∷ []
unfolding decimal
seven_digits = refl

-- "18446744073709551615"
twenty_digits : decimal (2 ^ 64 - 1)
    ≡ 49 ∷ 56 ∷ 52 ∷ 52 ∷ 54 ∷ 55 ∷ 52 ∷ 52 ∷ 48 ∷ 55 ∷ 51 ∷ 55 ∷ 48 ∷ 57 ∷ 53 ∷ 53 ∷ 49 ∷ 54 ∷ 49 ∷ 53 ∷ []
unfolding decimal
twenty_digits = refl

-- "refused 2 at 697"
a_refusal : refused_of 2 697
    ≡ 114 ∷ 101 ∷ 102 ∷ 117 ∷ 115 ∷ 101 ∷ 100 ∷ 32 ∷ 50 ∷ 32 ∷ 97 ∷ 116 ∷ 32 ∷ 54 ∷ 57 ∷ 55 ∷ 10 ∷ []
unfolding decimal
a_refusal = refl

-- "cell 0 7 3", "cell 1 10 4"
two_cells : table_of cell 3 2 (0 ∷ 7 ∷ 3 ∷ 1 ∷ 10 ∷ 4 ∷ [])
    ≡ 99 ∷ 101 ∷ 108 ∷ 108 ∷ 32 ∷ 48 ∷ 32 ∷ 55 ∷ 32 ∷ 51 ∷ 10
    ∷ 99 ∷ 101 ∷ 108 ∷ 108 ∷ 32 ∷ 49 ∷ 32 ∷ 49 ∷ 48 ∷ 32 ∷ 52 ∷ 10 ∷ []
unfolding decimal words_of table_of
two_cells = refl
