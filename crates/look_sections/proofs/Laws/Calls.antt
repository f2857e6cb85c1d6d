-- Theorems of a call of `look_sections`, for any bytes and output: from what its contract ensures of the answer r and the output out'.
use Rattle.std.specs.Prelude.{◌≡◌, refl, ◌↔◌, Bool, true, false, ℕ, ◌+◌, ◌≤◌, length, take, leb}
use Rattle.std.proofs.Math.Path.{sym, ap}
use Rattle.std.proofs.Common.{subst, ◌∙◌, arith, take_at, drop_at}
use mathlib.Core.List.{List, ◌++◌}
use Rattle.std.proofs.Math.ListN.{drop}
use Rattle.sizes.specs.Sizes.{longest_look, member_bytes}
use Rattle.sizes.specs.Basics.{pick}
use Rattle.layout.specs.Step.{Step}
use Rattle.std.specs.Prelude.{Ok, Err}
use Rattle.grammar.specs.Layout.{Tree, spell, Valid, Derivation}
use Rattle.grammar.specs.Laws.Layout.Read.{read}
use Rattle.grammar.specs.Laws.Layout.Check.{check}
use Rattle.layout.specs.Reads.{forget, chain}
use Rattle.grammar.specs.Member.{version, MemberDerivation}
use Rattle.store.specs.Written.{Written}
use Rattle.store.specs.Check.{place_of}
use Rattle.store.specs.Fields.{resolve}
use Rattle.store.specs.Fit.{Fit}
use Rattle.store.specs.Deliver.{ending, output, answer}
use Rattle.store.specs.Laws.Deliver.{is_refused, is_length}
use Rattle.fields.specs.Laws.Failing.{spell_most}
use Rattle.look.specs.declared.Look.{Look}
use Rattle.look.specs.Read.{Answer}
use Rattle.look.specs.Look.{TableLook}
use Rattle.look.specs.Answers.{outcome, expected}
use Rattle.look.specs.Laws.Bounds.{bounded, most_bytes}
use Rattle.look.specs.Laws.RefusedExactly as reading
use Rattle.look_write.specs.Laws.Theorems.{of_file, accepted_exactly, never_two}
use Rattle.look_rules.specs.StyleRule.{style_rule}
use Rattle.look_rules.proofs.Laws.Exactly as rule
use Rattle.look_rules.proofs.Laws.Styled.{StyledLook}
use Rattle.grammar.specs.Rule.{Kept}
use Rattle.styles.specs.Styles.{styles}
use Rattle.sections_put.specs.Fields.{Sections, longest_sections, fields}
use Rattle.sections_put.specs.Names.{Each, Named}
use Rattle.sections_put.specs.Laws.Long.{names_long, sections_long, sections_most}
use Rattle.sections_put.specs.Laws.ReadBack.{sections_written, sections_derived, sections_once}
use Rattle.look_sections.specs.Writing.{sections, sectioning, sectioned, Wrote}
use Rattle.look_sections.specs.Refused as refusals
use Rattle.look_sections.specs.Refused.{Allowed}
use Rattle.look_sections.specs.Laws.Names.{styled_look, all_named, names_short}
use Rattle.look_sections.specs.Laws.Exactly.{refused_exactly, written_exactly}
use Rattle.look_sections.specs.Laws.InMember.{Sections as MemberSections, bytes_before, bytes_behind}
use Rattle.look_sections.proofs.Laws.InMember as member

-- where a number is answered at the end, it is that
ended : (m room n : ℕ) (c : Step) → chain c (λ _. ending room m) ≡ Ok n → m ≡ n
unfolding chain ending pick
ended m room n (Err (k, p)) e = absurd (let z : ◌≡◌ {A = ℕ} 0 1 = cc in omega arith)
ended m room n (Ok p) e = go (leb m room) e
  where
    go : (b : Bool) → pick {X = Step} b (Ok m) (Err (15, 0)) ≡ Ok n → m ≡ n
    go true i = cc
    go false i = absurd (let z : ◌≡◌ {A = ℕ} 0 1 = cc in omega arith)

module _ {s out : List ℕ} {r : Written} {out' : List ℕ} (call : Wrote s out r out') where
  -- it refuses exactly what is refused, by that number and at that place, and leaves the output as it was
  pub refuses_exactly : (n p : ℕ) → (r ≡ Err (n, p)) ↔ refusals.Refused s (length out) n p
  refuses_exactly n p =
      let f = refused_exactly s call.bytes (length out) call.look call.is_read n p in
      (λ e. f.0 (sym call.answers ∙ ap answer e), λ u. is_refused r n p (call.answers ∙ f.1 u))

  pub refusal_keeps : (n p : ℕ) → r ≡ Err (n, p) → out' ≡ out
  unfolding output
  refusal_keeps n p e =
      call.holds ∙ ap (λ (c : Step). output c (sectioned call.look s) out) (sym call.answers ∙ ap answer e)

  -- it writes exactly what is not refused, and answers how many bytes the sections have
  pub writes_exactly : (n : ℕ) → (r ≡ Ok n) ↔ ((c : Allowed s (length out)) × (n ≡ length (sections c.says.look s)))
  writes_exactly n =
      let f = written_exactly s call.bytes (length out) call.look call.is_read n in
      (λ e. f.0 (sym call.answers ∙ ap answer e), λ c. is_length r n (call.answers ∙ f.1 c))

  module _ (n : ℕ) (e : r ≡ Ok n) where
    allowed : Allowed s (length out)
    allowed = ((writes_exactly n).0 e).0

    answered : (x : Look) × (call.look ≡ Ok x)
    answered = (accepted_exactly s call.bytes call.look call.is_read).1 allowed.derived

    -- the look that the file is
    pub the_look : Look
    the_look = answered.0

    -- what was written
    pub written_bytes : List ℕ
    written_bytes = sections the_look s

    is_read : outcome (Ok the_look) ≡ expected (read TableLook s 0)
    unfolding the_look
    is_read = rw answered.1 at call.is_read

    kept : Kept style_rule (of_file s call.bytes the_look is_read).tree
    kept = subst (Kept style_rule) (never_two s allowed.derived (of_file s call.bytes the_look is_read)) allowed.kept

    -- nothing in it is unlisted, so no style stands for what 002 doesn't list
    pub styled : StyledLook s the_look
    styled = styled_look s call.bytes the_look is_read kept

    names : Each (Named s) (styles the_look).areas
    names = all_named s call.bytes the_look is_read kept

    fits : Fit Sections s (fields (styles the_look))
    unfolding the_look
    fits = call.fit answered.0 answered.1 n (ap answer e)

    writing_is : sectioning call.look s (length out) ≡ Ok n
    writing_is = sym call.answers ∙ ap answer e

    sectioned_is : sectioned call.look s ≡ written_bytes
    unfolding written_bytes the_look
    sectioned_is = ap (λ (a : Answer). sectioned a s) answered.1

    -- as many as the answer says: 804, and those of the names
    pub written_length : length written_bytes ≡ n
    unfolding written_bytes the_look sectioning
    written_length =
        ended (length (sections answered.0 s)) (length out) n (forget (check style_rule s 0))
        (ap (λ (a : Answer). sectioning a s (length out)) (sym answered.1) ∙ writing_is)

    pub written_long : n ≡ 804 + names_long s (styles the_look).areas
    unfolding written_bytes sections
    written_long = sym written_length ∙ sections_long s (styles the_look)

    pub written_most : n ≤ longest_sections
    unfolding written_bytes sections
    written_most =
        let x = styles the_look in
        omega (arith, written_length, rw (sections_written s call.bytes x fits names 0) at (sections_most s x (names_short names) 0))

    -- the output begins with them, and stays as it was beyond them
    output_is : out' ≡ written_bytes ++ drop n out
    unfolding output
    output_is =
        call.holds ∙ ap (λ (c : Step). output c (sectioned call.look s) out) writing_is ∙ ap (λ (xs : List ℕ). xs ++ drop n out) sectioned_is

    pub output_begins : take n out' ≡ written_bytes
    output_begins = ap (take n) output_is ∙ take_at written_bytes (drop n out) n written_length

    pub output_beyond : drop n out' ≡ drop n out
    output_beyond = ap (drop n) output_is ∙ drop_at written_bytes (drop n out) n written_length

    -- "The written sections are accepted by the member's grammar and read back as these styles": they have a derivation, with the tree of the
    -- styles' fields, and no other
    pub styles_tree : Tree Sections
    styles_tree = resolve Sections s (fields (styles the_look))

    pub derived : Derivation Sections written_bytes
    unfolding written_bytes sections
    derived = sections_derived s call.bytes (styles the_look) fits names

    pub derived_once : (d : Derivation Sections written_bytes) → d.tree ≡ styles_tree
    unfolding written_bytes sections styles_tree
    derived_once d = sections_once s call.bytes (styles the_look) fits names d

    -- the sections of a version that is 3
    record Made (v : ℕ) : Type 0 where
      tree : Tree (MemberSections v)
      valid : Valid (MemberSections v) tree
      spells : spell (MemberSections v) tree ≡ written_bytes

    made : {v : ℕ} → v ≡ 3 → Made v
    made i = subst Made (sym i) record { tree = derived.tree; valid = derived.valid; spells = derived.spells }

    -- in any version 3 derivation of a member, these sections in the place of its own give a derivation again, where the size allows
    -- (InMember.antt says what stays as it was, and what moves)
    pub in_member : {bs : List ℕ} (d : MemberDerivation bs) → version d.tree ≡ 3
        → let xs = bytes_before d.tree ++ (written_bytes ++ bytes_behind d.tree d.ends) in length xs ≤ member_bytes → MemberDerivation xs
    in_member d i =
        let m = made i in
        let before = bytes_before d.tree in
        let behind = bytes_behind d.tree d.ends in
        subst (λ (ys : List ℕ). length (before ++ (ys ++ behind)) ≤ member_bytes → MemberDerivation (before ++ (ys ++ behind))) m.spells
        (member.derivation_with d m.tree m.valid)

  -- Places: the place of a refusal, and the length, are no farther than the longest look reaches
  pub reach_within : place_of (answer r) ≤ longest_look
  reach_within = go r refl
    where
      refused : {k p : ℕ} → refusals.Refused s (length out) k p → p ≤ longest_look
      refused (refusals.own f) = reading.place_within f
      refused (refusals.style d f) = omega (arith, (rule.given call.bytes d f).1, ap length d.spells, rw most_bytes at (spell_most TableLook bounded d.tree d.valid))
      refused (refusals.too_short d x k l) = omega arith

      go : (v : Written) → r ≡ v → place_of (answer r) ≤ longest_look
      go (Err (k, p)) e = rw e (refused ((refuses_exactly k p).0 e))
      go (Ok n) e = rw e (omega (arith, written_most n e))
