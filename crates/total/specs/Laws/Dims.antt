-- The n of the dimensions, in the entries of an answer; and the version in the bytes.
use Rattle.std.specs.Prelude.{◌≡◌, ℕ, zero, suc, ◌+◌, ◌-◌, ◌*◌, ◌^◌, ◌≤◌, ◌<◌, drop, get_or}
use Rattle.std.proofs.Math.Path.{refl}
use Rattle.std.proofs.Common.{sym, ap, ◌∙◌, add-zero, arith, take_at, drop_at, le-leb}
use mathlib.Core.List.{List, [], ◌∷◌, ◌++◌, append_assoc, map}
use Rattle.std.proofs.Math.Nat.{sub-zero}
use Rattle.std.proofs.Math.ListN.{length, length-append}
use Rattle.sizes.specs.Sizes.{dimension_words, dimension_n}
use Rattle.std.specs.Prelude.{Ok}
use Rattle.sizes.specs.Basics.{pick}
use Rattle.grammar.specs.Layout.{little, Tree, digits, spell, size}
use Rattle.grammar.specs.Laws.Layout.Read.{read_number}
use Rattle.layout.specs.Reads.{peek}
use Rattle.grammar.specs.Laws.Layout.{digits_length, number_spelt}
use Rattle.grammar.specs.Sections.{HeaderStart}
use Rattle.grammar.specs.Member.{Body, version, final, MemberDerivation}
use Rattle.grammar.specs.RecordWords.{word, sizes}
use Rattle.grammar.specs.Table.{Dimension}
use Rattle.grammar.specs.Records.{dim_nodes, dim_leaves, dim_entry, dims_entries}
use Rattle.total.specs.Laws.MemberCells.{later_word}

module _ (version : ℕ) where
  -- the n of dimensions, from dimension j on
  pub sizes_are : (pre : List ℕ) (j used at : ℕ) (ts : List (Tree (Dimension version))) (rest : List ℕ) → length pre ≡ dimension_words * j
      → sizes (pre ++ (dims_entries version used at ts ++ rest)) j (length ts) ≡ map (λ t. length (dim_leaves version t)) ts
  unfolding sizes dims_entries dim_entry
  sizes_are pre j used at [] rest l = refl
  sizes_are pre j used at (t ∷ ts) rest l =
      let one = dim_entry version used at t in
      let others = dims_entries version (used + dim_nodes version t) (at + size (Dimension version) t) ts ++ rest in
      let next : length (pre ++ one) ≡ dimension_words * (j + 1) = omega (arith, length-append pre one, l) in
      let more = rw append_assoc at (sizes_are (pre ++ one) (j + 1) (used + dim_nodes version t) (at + size (Dimension version) t) ts rest next) in
      rw (later_word pre (one ++ others) (dimension_words * j + dimension_n) dimension_n (omega arith)) (ap {B = List ℕ} (λ ns. length (dim_leaves version t) ∷ ns) more)

-- the n of the last dimensions are the last of the n
pub sizes_from : (ws : List ℕ) (i j d : ℕ) → drop i (sizes ws j d) ≡ sizes ws (j + i) (d - i)
unfolding sizes
sizes_from ws zero j d = rw (add-zero j, sub-zero d)
sizes_from ws (suc i) j zero = let e : 0 - suc i ≡ 0 = omega arith in rw e
sizes_from ws (suc i) j (suc d) =
    let a : j + suc i ≡ j + 1 + i = omega arith in
    let b : suc d - suc i ≡ d - i = omega arith in
    rw (a, b) (sizes_from ws i (j + 1) d)

-- and one of them is a word
pub size_at : (ws : List ℕ) (i j d : ℕ) → i < d → get_or (sizes ws j d) i 0 ≡ word ws (dimension_words * (j + i) + dimension_n)
unfolding sizes
size_at ws i j zero h = absurd (omega arith)
size_at ws zero j (suc d) h = rw (add-zero j)
size_at ws (suc i) j (suc d) h =
    let a : j + suc i ≡ j + 1 + i = omega arith in
    rw a (size_at ws i (j + 1) d (omega arith))

-- ---- the version

-- a number that stands after some bytes
number_after : (pre : List ℕ) (v : ℕ) (rest : List ℕ) → v < 256 ^ 4 → peek little 4 (pre ++ (digits little 4 v ++ rest)) (Ok (length pre)) ≡ v
unfolding peek read_number pick
number_after pre v rest h =
    let four : length (digits little 4 v) ≡ 4 = digits_length little 4 v in
    let l : 4 ≤ length (digits little 4 v ++ rest) = omega (arith, length-append (digits little 4 v) rest, four) in
    rw (drop_at pre (digits little 4 v ++ rest) (length pre) refl, le-leb 4 (length (digits little 4 v ++ rest)) l, take_at (digits little 4 v) rest 4 four, number_spelt little 4 v h)

after_start : (a b c e : List ℕ) → (a ++ (b ++ c)) ++ e ≡ a ++ (b ++ (c ++ e))
after_start a b c e = simp append_assoc

-- it stands after 01 00
pub version_is : {bs : List ℕ} (d : MemberDerivation bs) → peek little 4 bs (Ok 2) ≡ version d.tree
unfolding spell HeaderStart
version_is {bs} d =
    let v = version d.tree in
    let start = spell HeaderStart d.tree.0 in
    let body = spell (Body v) d.tree.1.1 in
    let all : bs ≡ start ++ (digits little 4 v ++ (body ++ final d.ends)) = sym d.spells ∙ after_start start (digits little 4 v) body (final d.ends) in
    let two : length start ≡ 2 = simp (length-append, digits_length) in
    rw all (rw two at (number_after start v (body ++ final d.ends) d.valid.1.0))
