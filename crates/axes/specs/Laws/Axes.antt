-- Axis entries and axes against their rules.
use Rattle.std.specs.Prelude.{◌≡◌, ℕ, ◌+◌, ◌-◌, ◌*◌, ◌≤◌, drop}
use Rattle.std.proofs.Math.Path.{refl, sym, ap}
use Rattle.std.proofs.Common.{◌∙◌, add-zero, length-append}
use Rattle.std.proofs.Math.Bool.{true, false}
use Rattle.std.proofs.Math.Option.{none, some}
use mathlib.Core.List.{List, [], ◌∷◌, ◌++◌, map}
use native.Mathlib.Omega.{arith}
use Rattle.std.proofs.Math.ListN.{length, set, replicate}
use Rattle.std.proofs.Math.Seq.{sets}
use Rattle.std.proofs.Math.Dec.{eqb}
use borrow.Author.Tests.{eqb-true}
use Rattle.sizes.specs.Sizes.{most_dimensions}
use Rattle.layout.specs.Step.{Step}
use Rattle.std.specs.Prelude.{Result, Ok, Err}
use Rattle.sizes.specs.Basics.{pick}
use Rattle.grammar.specs.Layout.{little, any_number, passes, Layout, ◌▸◌, times, Tree, spell, Bytes, size}
use Rattle.grammar.specs.Conventions.{int32}
use Rattle.grammar.specs.Rule.{Rule, plain, items, tested, onto}
use Rattle.grammar.specs.Laws.Layout.Read.{Got, got, no, bind, read}
use Rattle.grammar.specs.Laws.Layout.Check.{check_times, judge, check}
use Rattle.layout.specs.Reads.{ReadsTo, peek}
use Rattle.layout.specs.Keeps.{Out, on, off, Keeps, keeps_on, keeps_off, Each}
use Rattle.grammar.specs.Laws.Layout.{digits_length}
use Rattle.layout.specs.Steps.Chain.{◌◂◌}
use Rattle.layout.specs.Steps.Keeping.{kept_on}
use Rattle.grammar.specs.Laws.Layout.Binds.{bind_ext, times_from, times_add, onto_append, bind_assoc, bind_pick}
use Rattle.layout.specs.Steps.Spelt.{found_first, Read, read_on, read_off, number_at, peeked, read_number_lem, ReadNumber}
use Rattle.layout.specs.Words.{word32}
use Rattle.layout.specs.Laws.Words.{word_same}
use Rattle.grammar.specs.RecordWords.{firsts}
use Rattle.grammar.specs.Once.{fresh}
use Rattle.grammar.specs.Table.{Axes}
use Rattle.grammar.specs.Records.{entry_index, rows_words, axis_layers, axis_rows, axis_columns, axis_entries}
use Rattle.grammar.specs.Rules.{entry_rule, three_rule, counts_rule}
use Rattle.axes.specs.declared.AxesRead.{AxesRead}
use Rattle.axes.specs.Laws.Rows.{Kind, Row, Rows, all_rows, after}

-- ---- an entry

-- one word
abbrev pub entry_kind : Kind int32
entry_kind = record { width = 1; size = size int32; number = entry_index; others = λ at t. []; some = omega arith; all = λ at t. refl }

-- `entry_rule`, with the numbers before it
abbrev pub entry_of : ℕ → List ℕ → Rule int32
entry_of d seen = tested (plain int32) 9 (λ t. pick (fresh d seen t.0) none (some 0))

module _ (s : List ℕ) (b : Bytes s) (at d j : ℕ) (ws : List ℕ) {st : Step} (r : ReadsTo int32 s (Ok at) st) where
  abbrev Entry : Out (ℕ × List ℕ) → Type 0
  Entry = Keeps s (Row entry_kind at (j, ws)) (check (entry_of d (firsts 1 ws j)) (drop at s) at)

  pub no_entry : {n p : ℕ} → st ≡ Err (n, p) → Entry (off n p)
  unfolding check bind
  no_entry e = rw (read_off r e) keeps_off

  module _ {p x : ℕ} (e : st ≡ Ok p) (pk : x ≡ peek little 4 s (Ok at)) where
    num : ReadNumber 4 any_number s at p x
    num = read_number_lem b r e pk

    pub fresh_entry : fresh d (firsts 1 ws j) x ≡ true → Entry (on p (j + 1, set ws j (word32 x)))
    unfolding check bind judge pick
    fresh_entry f =
        let f' : fresh d (firsts 1 ws j) num.found.tree.0 ≡ true = rw num.is f in
        let one : 1 * j ≡ j = omega arith in
        let w : word32 x ≡ num.found.tree.0 = word_same x num.says.small ∙ sym num.is in
        let kept : Row entry_kind at (j, ws) num.found.tree p (j + 1, set ws j (word32 x)) = record { place = num.found.there.place; count = refl; stored = rw (one, w) } in
        rw (num.found.is, f') (keeps_on refl kept)

    pub stale_entry : fresh d (firsts 1 ws j) x ≡ false → Entry (off 9 at)
    unfolding check bind judge pick
    stale_entry f =
        let f' : fresh d (firsts 1 ws j) num.found.tree.0 ≡ false = rw num.is f in
        rw (num.found.is, f', add-zero) keeps_off

-- ---- the axes

-- what is kept of the axes: how many dimensions are on each, and the dimension numbers
pub record Order : Type 0 where
  pub layers : ℕ
  pub rows : ℕ
  pub columns : ℕ
  pub order : List ℕ

-- an answer of the code
abbrev pub axes_out : Result AxesRead (ℕ × ℕ) → Out Order
axes_out (Ok a) = on a.end record { layers = a.layers; rows = a.rows; columns = a.columns; order = a.order }
axes_out (Err (r, p)) = off r p

pub record AllAxes (t : Tree Axes) (p : ℕ) (y : Order) : Type 0 where
  pub layers : y.layers ≡ axis_layers t
  pub rows : y.rows ≡ axis_rows t
  pub columns : y.columns ≡ axis_columns t
  pub order : y.order ≡ sets (replicate most_dimensions 0) 0 (map entry_index (axis_entries t))
  pub few : length (axis_entries t) ≤ most_dimensions

-- ---- the entries of the three groups, read as one run

module _ (d l r c : ℕ) (s : List ℕ) (at : ℕ) where
  abbrev E : List (Tree int32) → List ℕ → ℕ → Got (Tree int32)
  E done s₁ at₁ = check (entry_rule d done) s₁ at₁

  -- one group after the other
  abbrev groups : Got (List (Tree int32))
  groups =
      bind (check_times E [] l s at) (λ ls s₁ at₁. bind (check_times E (onto [] ls) r s₁ at₁) (λ rs s₂ at₂.
      bind (check_times E (onto (onto [] ls) rs) c s₂ at₂) (λ cs s₃ at₃. got (ls ++ rs ++ cs) s₃ at₃)))

  abbrev last : List (Tree int32) → List ℕ → ℕ → Got (List (Tree int32))
  last ts s₁ at₁ = bind (check_times E (onto [] ts) c s₁ at₁) (λ us s₂ at₂. got (ts ++ us) s₂ at₂)

  one_run : check_times E [] (l + r + c) s at ≡ groups
  unfolding bind
  one_run =
      times_add E c (l + r) [] s at
      ∙ ap (λ (x : Got (List (Tree int32))). bind x last) (times_add E r l [] s at)
      ∙ bind_assoc (check_times E [] l s at) _ last
      ∙ bind_ext (check_times E [] l s at) (λ ls s₁ at₁.
      bind_assoc (check_times E (onto [] ls) r s₁ at₁) _ last
      ∙ bind_ext (check_times E (onto [] ls) r s₁ at₁) (λ rs s₂ at₂. rw (onto_append [] ls rs)))

  flat : bind (check (three_rule d {l = l} {r = r} {c = c}) s at) (λ e s₁ at₁. got (e.0.0 ++ e.0.1 ++ e.1) s₁ at₁)
      ≡ bind (check_times E [] l s at) (λ ls s₁ at₁. bind (check_times (λ done s₂ at₂. E (done ++ onto [] ls) s₂ at₂) [] r s₁ at₁) (λ rs s₂ at₂.
      bind (check_times (λ done s₃ at₃. E (done ++ onto (onto [] ls) rs) s₃ at₃) [] c s₂ at₂) (λ cs s₃ at₃. got (ls ++ rs ++ cs) s₃ at₃)))
  unfolding check
  flat = simp bind_assoc

  three_runs : bind (check (three_rule d {l = l} {r = r} {c = c}) s at) (λ e s₁ at₁. got (e.0.0 ++ e.0.1 ++ e.1) s₁ at₁) ≡ groups
  unfolding bind
  three_runs =
      flat ∙ bind_ext (check_times E [] l s at) (λ ls s₁ at₁.
      rw (times_from E (onto [] ls) r [] s₁ at₁) (bind_ext (check_times E (onto [] ls) r s₁ at₁) (λ rs s₂ at₂.
      rw (times_from E (onto (onto [] ls) rs) c [] s₂ at₂))))

  pub three_times : check_times E [] (l + r + c) s at ≡ bind (check (three_rule d {l = l} {r = r} {c = c}) s at) (λ e s₁ at₁. got (e.0.0 ++ e.0.1 ++ e.1) s₁ at₁)
  three_times = one_run ∙ sym three_runs

-- ---- the axes against their rule

abbrev Three : Layout
Three = int32 ▸ int32 ▸ int32

-- the three counts
abbrev l_of : Tree Three → ℕ
l_of h = h.0.0.0

abbrev r_of : Tree Three → ℕ
r_of h = h.0.1.0

abbrev c_of : Tree Three → ℕ
c_of h = h.1.0

check_counts : (d : ℕ) (s : List ℕ) (at : ℕ)
    → check (counts_rule d) s at
    ≡ bind (read Three s at) (λ h s₁ at₁.
    bind (pick (eqb (l_of h + r_of h + c_of h) d) (check (three_rule d {l = l_of h} {r = r_of h} {c = c_of h}) s₁ at₁) (no 9 (at₁ - 12)))
    (λ e s₂ at₂. got (l_of h, (r_of h, (c_of h, e))) s₂ at₂))
unfolding check read bind passes pick
check_counts d s at = simp (bind_assoc, bind_pick)

-- the words of entries are their numbers
entry_words : (at : ℕ) (ts : List (Tree int32)) → rows_words (size int32) (λ at t. t.0 ∷ []) at ts ≡ map entry_index ts
unfolding rows_words
entry_words at [] = refl
entry_words at (t ∷ ts) = ap (λ (l : List ℕ). t.0 ∷ l) (entry_words (at + size int32 t) ts)

-- a reading, from what comes after it
back_off : {A B : Type 0} (f : A → B) (y : Got A) {n p : ℕ} → bind y (λ e s at. got (f e) s at) ≡ no n p → y ≡ no n p
unfolding bind
back_off f (got e s at) h = absurd (let z : ◌≡◌ {A = ℕ} 0 1 = cc in omega arith)
back_off f (no m q) {n} {p} h = let a : m ≡ n = cc in let c : q ≡ p = cc in rw (a, c)

record Back {A B : Type 0} (f : A → B) (y : Got A) (x : B) (r : List ℕ) (p : ℕ) : Type 0 where
  tree : A
  is : y ≡ got tree r p
  of : f tree ≡ x

back_on : {A B : Type 0} (f : A → B) (y : Got A) {x : B} {r : List ℕ} {p : ℕ} → bind y (λ e s at. got (f e) s at) ≡ got x r p → Back f y x r p
unfolding bind
back_on f (got e s at) {x} {r} {p} h = let a : s ≡ r = cc in let c : at ≡ p = cc in let d : f e ≡ x = cc in record { tree = e; is = rw (a, c); of = d }
back_on f (no m q) h = absurd (let z : ◌≡◌ {A = ℕ} 0 1 = cc in omega arith)

size_three : (h : Tree Three) → size Three h ≡ 12
unfolding size spell
size_three h = simp (length-append, digits_length) (omega arith)

module _ (s : List ℕ) (b : Bytes s) (at d : ℕ) {one two st : Step} (r₁ : ReadsTo int32 s (Ok at) one) (r₂ : ReadsTo int32 s one two) (r₃ : ReadsTo int32 s two st) where
  abbrev Read_axes : Out Order → Type 0
  Read_axes = Keeps s AllAxes (check (counts_rule d) (drop at s) at)

  pub no_counts : {n p : ℕ} → st ≡ Err (n, p) → Read_axes (off n p)
  unfolding bind
  no_counts e = rw (check_counts d (drop at s) at, read_off (r₃ ◂ (r₂ ◂ r₁)) e) keeps_off

  module _ {f l r c : ℕ} (e : st ≡ Ok f) (pl : l ≡ peek little 4 s (Ok at)) (pr : r ≡ peek little 4 s one) (pc : c ≡ peek little 4 s two) where
    three : Read Three s at f
    three = read_on b (r₃ ◂ (r₂ ◂ r₁)) e

    c_is : c_of three.tree ≡ c
    c_is = sym (pc ∙ peeked (r₂ ◂ r₁) three.there)

    r_is : r_of three.tree ≡ r
    r_is = sym (pr ∙ peeked r₁ (found_first three.there))

    l_is : l_of three.tree ≡ l
    l_is =
        let g = found_first (found_first three.there) in
        sym (pl ∙ (number_at 4 any_number s at (l_of three.tree) _ _ g).peeked)

    sum_is : l_of three.tree + r_of three.tree + c_of three.tree ≡ l + r + c
    sum_is = omega (arith, l_is, r_is, c_is)

    pub not_summed : eqb (l + r + c) d ≡ false → Read_axes (off 9 at)
    unfolding bind pick
    not_summed t =
        let t' : eqb (l_of three.tree + r_of three.tree + c_of three.tree) d ≡ false = rw sum_is t in
        let back : f - 12 ≡ at = omega (arith, three.there.place, size_three three.tree) in
        rw (check_counts d (drop at s) at, three.is, t', back) keeps_off

    module _ (t : eqb (l + r + c) d ≡ true) where
      summed : eqb (l_of three.tree + r_of three.tree + c_of three.tree) d ≡ true
      summed = rw sum_is t

      joined : Tree (times (l_of three.tree) int32 ▸ times (r_of three.tree) int32 ▸ times (c_of three.tree) int32) → List (Tree int32)
      joined e = e.0.0 ++ e.0.1 ++ e.1

      abbrev entries : Got (Tree (times (l_of three.tree) int32 ▸ times (r_of three.tree) int32 ▸ times (c_of three.tree) int32))
      entries = check (three_rule d {l = l_of three.tree} {r = r_of three.tree} {c = c_of three.tree}) (drop f s) f

      -- the entries as one run
      as_one_run : bind entries (λ e s₁ at₁. got (joined e) s₁ at₁)
          ≡ check (items {n = d} (after entry_kind (entry_of d))) (drop f s) f
      unfolding check entry_rule joined
      as_one_run =
          let h : l_of three.tree + r_of three.tree + c_of three.tree ≡ d = eqb-true _ _ summed in
          sym (three_times d (l_of three.tree) (r_of three.tree) (c_of three.tree) (drop f s) f) ∙ rw h

      pub no_entries : {m q : ℕ} → check (items {n = d} (after entry_kind (entry_of d))) (drop f s) f ≡ no m q → Read_axes (off m q)
      unfolding bind pick
      no_entries {m} {q} h =
          let h' : entries ≡ no m q = back_off joined entries (as_one_run ∙ h) in
          rw (check_counts d (drop at s) at, three.is, summed, h') keeps_off

      pub the_entries : d ≤ most_dimensions → {p : ℕ} {os : List ℕ} → Keeps s (Each (Row entry_kind) f (0, replicate most_dimensions 0)) (check (items {n = d} (after entry_kind (entry_of d))) (drop f s) f) (on p (d, os))
          → Read_axes (on p record { layers = word32 l; rows = word32 r; columns = word32 c; order = os })
      unfolding bind pick joined
      the_entries few {p} {os} k₀ =
          let k = kept_on k₀ in
          let y = back_on joined entries (as_one_run ∙ k.is) in
          let w : Rows entry_kind f (0, replicate most_dimensions 0) k.tree p (d, os) = all_rows entry_kind k.keeps in
          let sum : l + r + c ≡ d = eqb-true _ _ t in
          let all : length (y.tree.0.0 ++ y.tree.0.1 ++ y.tree.1) ≡ length k.tree = ap length y.of in
          let kept : AllAxes (l_of three.tree, (r_of three.tree, (c_of three.tree, y.tree))) p record { layers = word32 l; rows = word32 r; columns = word32 c; order = os } = record {
            layers = word_same l (omega arith) ∙ sym l_is;
            rows = word_same r (omega arith) ∙ sym r_is;
            columns = word_same c (omega arith) ∙ sym c_is;
            order = w.stored ∙ ap (λ (l : List ℕ). sets (replicate most_dimensions 0) 0 l) (entry_words f k.tree ∙ ap (λ (ts : List (Tree int32)). map entry_index ts) (sym y.of));
            few = omega (arith, all, w.count);
          } in
          rw (check_counts d (drop at s) at, three.is, summed, y.is) (keeps_on refl kept)
