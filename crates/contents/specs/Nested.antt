-- Values inside a Value: the arguments of a template stand one after the other from the place that its contents give, and a Value or an Argument
-- at any depth is read, by `read_value` and `read_argument`, as what the derivation has there.
use Rattle.std.specs.Prelude.{◌≡◌, List, ◌++◌, ℕ, suc, ◌+◌, drop}
use Rattle.std.proofs.Math.Path.{refl}
use Rattle.std.proofs.Common.{◌∙◌, append_assoc, arith}
use Rattle.std.proofs.Math.ListN.{length, length-append}
use Rattle.sizes.specs.Sizes.{value_depth, below_value}
use Rattle.grammar.specs.Layout.{little, Layout, Tree, digits, spell_all, spell, Valid}
use Rattle.grammar.specs.Fails.{Spells}
use Rattle.grammar.specs.Laws.Layout.{digits_length}
use Rattle.grammar.specs.Laws.Layout.Spelt as spelt
use Rattle.store.specs.Fields.{placed}
use Rattle.grammar.specs.Value.{ArgumentOf, TemplateOf, Argument, ValueIn, Value, CellValue}
use Rattle.contents.specs.Said.{Contents}
use Rattle.contents.specs.Said.{Argument as ArgumentContents}
use Rattle.contents.specs.Contents.{contents, argument_contents, says_58}
use Rattle.contents.specs.Answers.{unread, ValueAnswers, ArgumentAnswers}
use Rattle.contents.specs.Laws.Wider.{widen, spell_widen, valid_widen, argument_wider, value_wider}
use Rattle.contents.specs.Members.{as_cell, valid_as_cell}

-- ---- a Value at any depth is one of the outermost

-- d levels are no more than m
pub data Reaches (m : ℕ) : ℕ → Type 0 where
  there : Reaches m m
  deeper : {d : ℕ} → Reaches m (suc d) → Reaches m d

module _ (version : ℕ) where
  -- the same Value, as one that may be nested deeper
  unfoldable pub outermost : {d : ℕ} → Reaches value_depth d → Tree (ValueIn version d) → Tree (Value version)
  unfolding Value
  outermost there t = t
  outermost (deeper {d} r) t = outermost r (widen (value_wider version d) t)

  outermost_spells : {d : ℕ} (r : Reaches value_depth d) (t : Tree (ValueIn version d)) → spell (Value version) (outermost r t) ≡ spell (ValueIn version d) t
  unfolding outermost Value
  outermost_spells there t = refl
  outermost_spells (deeper {d} r) t = outermost_spells r (widen (value_wider version d) t) ∙ spell_widen (value_wider version d) t

  outermost_valid : {d : ℕ} (r : Reaches value_depth d) (t : Tree (ValueIn version d)) → Valid (ValueIn version d) t → Valid (Value version) (outermost r t)
  unfolding outermost Value
  outermost_valid there t v = v
  outermost_valid (deeper {d} r) t v = outermost_valid r (widen (value_wider version d) t) (valid_widen (value_wider version d) t v)

  cell_spells : (t : Tree (Value version)) → spell (CellValue version) (as_cell version t) ≡ spell (Value version) t
  unfolding Value ValueIn CellValue spell
  cell_spells t = refl

  pub value_says : {d : ℕ} (r : Reaches value_depth d) {s rest : List ℕ} (t : Tree (ValueIn version d)) → Spells (ValueIn version d) s t rest → unread version s ≡ 0
      → (x : Contents) → ValueAnswers version s x → x ≡ contents version (as_cell version (outermost r t))
  value_says r {rest = rest} t p known x a =
      a.derived known (as_cell version (outermost r t)) rest
      (record { valid = valid_as_cell version (outermost r t) (outermost_valid r t p.valid); split = p.split ∙ rw (cell_spells (outermost r t), outermost_spells r t) })

  -- ---- and so is an Argument

  unfoldable pub outer_argument : {d : ℕ} → Reaches below_value d → Tree (Argument version d) → Tree (Argument version below_value)
  outer_argument there t = t
  outer_argument (deeper {d} r) t = outer_argument r (widen (argument_wider (value_wider version d)) t)

  argument_spells : {d : ℕ} (r : Reaches below_value d) (t : Tree (Argument version d)) → spell (Argument version below_value) (outer_argument r t) ≡ spell (Argument version d) t
  unfolding outer_argument
  argument_spells there t = refl
  argument_spells (deeper {d} r) t =
      argument_spells r (widen (argument_wider (value_wider version d)) t) ∙ spell_widen (argument_wider (value_wider version d)) t

  argument_valid : {d : ℕ} (r : Reaches below_value d) (t : Tree (Argument version d)) → Valid (Argument version d) t → Valid (Argument version below_value) (outer_argument r t)
  unfolding outer_argument
  argument_valid there t v = v
  argument_valid (deeper {d} r) t v =
      argument_valid r (widen (argument_wider (value_wider version d)) t) (valid_widen (argument_wider (value_wider version d)) t v)

  pub argument_says : {d : ℕ} (r : Reaches below_value d) {s rest : List ℕ} (t : Tree (Argument version d)) → Spells (Argument version d) s t rest → unread version s ≡ 0
      → (x : ArgumentContents) → ArgumentAnswers version s x → x ≡ argument_contents version (outer_argument r t)
  argument_says r {rest = rest} t p known x a =
      a.derived known (outer_argument r t) rest (record { valid = argument_valid r t p.valid; split = p.split ∙ rw (argument_spells r t) })

-- ---- the arguments of a template

rejoined : (a b c d e : List ℕ) → (a ++ b ++ (c ++ d)) ++ e ≡ (a ++ b ++ c) ++ (d ++ e)
rejoined a b c d e = simp append_assoc

module _ (v : Layout) where
  abbrev pub arguments_of : Tree (TemplateOf v) → List (Tree (ArgumentOf v))
  unfolding TemplateOf
  arguments_of t = t.1.1

  -- they stand one after the other from the place that the contents give
  pub arguments_there : (s : List ℕ) (at : ℕ) (t : Tree (TemplateOf v)) (rest : List ℕ) → drop at s ≡ spell (TemplateOf v) t ++ rest
      → drop (says_58 v (placed (TemplateOf v) t at)).first_argument s ≡ spell_all (spell (ArgumentOf v)) (arguments_of t) ++ rest
  unfolding TemplateOf says_58 placed spell
  arguments_there s at t rest e =
      let length-bytes = digits little 4 (length t.0) in
      let count = digits little 4 t.1.0 in
      let all = spell_all (spell (ArgumentOf v)) (arguments_of t) in
      let joined = rejoined length-bytes t.0 count all rest in
      let place : at + length (length-bytes ++ t.0 ++ count) ≡ at + 4 + length t.0 + 4 =
      omega (arith, length-append (length-bytes ++ t.0) count, length-append length-bytes t.0, digits_length little 4 (length t.0), digits_length little 4 t.1.0) in
      rw place at (spelt.after s at (length-bytes ++ t.0 ++ count) (all ++ rest) (e ∙ joined))
