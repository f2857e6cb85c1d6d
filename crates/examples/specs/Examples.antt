-- Document 01, "Bench examples": the twelve that are marked P, in one table of inputs and expected results, checked by one statement.
use Rattle.std.specs.Prelude.{◌≡◌, refl, Bool, true, false, ◌&&◌, List, [], ◌∷◌, map, ℕ, replicate}
use Rattle.sizes.specs.Basics.{among, pick}
use Rattle.grammar.specs.Layout.{passes}
use Rattle.grammar.specs.Laws.Layout.Read.{Got, got, no, read, refusal}
use Rattle.grammar.specs.Laws.Layout.Check.{check}
use Rattle.units.specs.Units.{in_pixels, in_points}
use Rattle.grammar.specs.Value.{Value, ValueIn, RawValueOf, TemplateOf, ArgumentOf}
use Rattle.grammar.specs.Sections.{Front, HeaderStart, HeaderRest, HeaderFlags, HeaderNumbers}
use Rattle.grammar.specs.Once.{fresh}
use Rattle.grammar.specs.Index.{product, index}
use Rattle.grammar.specs.Refused.{body_rule, member_rule}
use Rattle.grammar.specs.Laws.Member.Checked.{ended, checked}

data Input : Type 0 where
  -- a member, a Value
  member : List ℕ → Input
  value : List ℕ → Input
  -- n and coordinate of each dimension
  coordinates : List (ℕ × ℕ) → Input
  -- n of each dimension, and the cell indexes
  cells : List ℕ → List ℕ → Input
  points : ℕ → Input
  pixels : ℕ → Input

data Result : Type 0 where
  refused_at : ℕ → ℕ → Result
  -- its length
  long : ℕ → Result
  number : ℕ → Result
  -- every cell is inside the table, and no index stands twice
  fits : Bool → Result
  is_table : Result

of_member : {A : Type 0} → Got A → Result
of_member (got t r p) = is_table
of_member (no n p) = refused_at n p

of_value : {A : Type 0} → Got A → Result
of_value (got t r p) = long p
of_value (no k p) = refused_at k p

all_fresh : ℕ → List ℕ → List ℕ → Bool
all_fresh n seen [] = true
all_fresh n seen (x ∷ xs) = fresh n seen x && all_fresh n (x ∷ seen) xs

result : Input → Result
result (member bs) = of_member (checked bs)
result (value bs) = of_value (read (Value 3) bs 0)
result (coordinates ds) = number (index ds)
result (cells ns xs) = fits (all_fresh (product ns) [] xs)
result (points n) = number (in_pixels record { 0 = n }).value.0
result (pixels n) = number (in_points record { 0 = n }).value.0

-- a row for each P: its inputs and what each gives
record Example : Type 0 where
  inputs : List Input
  expected : List Result

examples : List Example
examples =
    record { inputs = member (0x01 ∷ []) ∷ []; expected = refused_at 2 1 ∷ [] }
    ∷ record { inputs = member (0x00 ∷ []) ∷ []; expected = refused_at 3 0 ∷ [] }
    ∷ record { inputs = member (0x01 ∷ 0x00 ∷ 0x01 ∷ 0x00 ∷ 0x00 ∷ 0x00 ∷ []) ∷ []; expected = refused_at 2 6 ∷ [] }
    ∷ record { inputs = member (0x01 ∷ 0x00 ∷ 0x03 ∷ 0x00 ∷ 0x00 ∷ 0x00 ∷ 0x02 ∷ []) ∷ []; expected = refused_at 5 6 ∷ [] }
    ∷ record { inputs = value (0x58 ∷ replicate 8 0x00) ∷ []; expected = long 9 ∷ [] }
    ∷ record { inputs = value (0x00 ∷ 0x00 ∷ 0x00 ∷ 0x00 ∷ 0x58 ∷ replicate 8 0x00) ∷ []; expected = long 13 ∷ [] }
    ∷ record { inputs = value (0x00 ∷ 0x00 ∷ 0x00 ∷ 0x00 ∷ 0x00 ∷ 0x58 ∷ replicate 8 0x00) ∷ []; expected = refused_at 3 4 ∷ [] }
    ∷ record { inputs = coordinates ((3, 1) ∷ (4, 2) ∷ (5, 3) ∷ []) ∷ []; expected = number 33 ∷ [] }
    ∷ record { inputs = cells (3 ∷ 4 ∷ 5 ∷ []) (59 ∷ []) ∷ cells (3 ∷ 4 ∷ 5 ∷ []) (60 ∷ []) ∷ []; expected = fits true ∷ fits false ∷ [] }
    ∷ record { inputs = cells [] (0 ∷ []) ∷ cells [] (1 ∷ []) ∷ []; expected = fits true ∷ fits false ∷ [] }
    ∷ record { inputs = cells (3 ∷ 0 ∷ 5 ∷ []) [] ∷ cells (3 ∷ 0 ∷ 5 ∷ []) (0 ∷ []) ∷ []; expected = fits true ∷ fits false ∷ [] }
    ∷ record {
      inputs = points 0 ∷ points 1 ∷ points 3 ∷ points 72 ∷ pixels 2 ∷ pixels 96 ∷ [];
      expected = number 0 ∷ number 2 ∷ number 4 ∷ number 96 ∷ number 1 ∷ number 72 ∷ [];
    }
    ∷ []

twelve : map (λ (e : Example). map result e.inputs) examples ≡ map (λ (e : Example). e.expected) examples
unfolding examples result of_member of_value all_fresh checked ended body_rule member_rule check pick read passes among refusal fresh product HeaderStart HeaderRest Front HeaderFlags HeaderNumbers Value ValueIn RawValueOf TemplateOf ArgumentOf
twelve = refl
