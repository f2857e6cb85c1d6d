-- Demand 2 for looks, as theorems about what `read_look` and `write_look` ensure: "a written look reads as the same look, and an accepted
-- file rewritten has the same bytes", the second of version 02 from document 02's T-10 on; what an old file becomes; and demand 3's:
-- accepted exactly when there is a derivation, and never two.
use Rattle.std.proofs.Math.Path.{◌≡◌, refl, sym, ap}
use Rattle.std.proofs.Common.{subst, ◌∙◌, zero-add, arith, length-append, eq-eqb, ne_eqb}
use Rattle.std.specs.Prelude.{◌↔◌, Bool, true, false, ℕ, ◌+◌, ◌^◌, ◌<◌, length, eqb, leb}
use Rattle.std.proofs.lemmas.Bool.{false≢true}
use mathlib.Core.List.{List, [], ◌∷◌, ◌++◌, append-nil, append_assoc}
use Rattle.std.specs.Prelude.{Ok, Err}
use Rattle.sizes.specs.Basics.{among, pick, le}
use Rattle.grammar.specs.Layout.{passes, Tree, spell, digits, Bytes, no_bytes, byte, Derivation, ◌▸◌, Valid, suits, all_none, all_more, little}
use Rattle.grammar.specs.Laws.Layout.Read.{Got, got, no, read}
use Rattle.grammar.specs.Laws.Layout as laws
use Rattle.layout.specs.Reads.{chain}
use Rattle.store.specs.Fields.{Fields, placed, text_of, resolve_all, resolve, bytes_in}
use Rattle.store.specs.Fit.{Fit}
use Rattle.store.specs.Unwritable.{Writable}
use Rattle.look.specs.declared.Look.{Look}
use Rattle.look.specs.Read.{Answer}
use Rattle.look.specs.Look as grammar
use Rattle.look.specs.Look.{TableLook, TableLook02}
use Rattle.look.specs.Values as values
use Rattle.look.specs.Values.{◌&◌}
use Rattle.look.specs.Answers.{defaults, accepted, outcome, v2_data, look_of, expected}
use Rattle.look.specs.Laws.Defaults.{default_tree, default_bytes, default_spells}
use Rattle.store.specs.Deliver.{ending}
use Rattle.look_write.specs.Writing.{file, writing, Fits}
use Rattle.look_write.specs.Laws.RefusedExactly.{written_exactly, version_written}
use Rattle.store.specs.Laws.Trees.{Stands, resolve_placed, writable_placed, valid_resolved}
use Rattle.store.specs.Laws.Exactly.{writable_exactly}

-- ---- "The same look" compares the bytes of names, not their places (document 01)

-- two looks with the bytes that have their names: the same in every field. The default continuation is the same as a stored "(Cont.)"
pub record Same (x : Look) (s : List ℕ) (y : Look) (s' : List ℕ) : Type 0 where
  pub all : resolve TableLook02 s (values.fields x) ≡ resolve TableLook02 s' (values.fields y)

-- the same look has the same file
pub same_file : {x : Look} {s : List ℕ} {y : Look} {s' : List ℕ} → Same x s y s' → file x s ≡ file y s'
unfolding file
same_file h = ap (spell TableLook02) h.all

-- ---- the look that a file is

abbrev pub v2_part : (b : Bool) → Tree (grammar.V2StylesIf b) → Tree grammar.V2Styles
v2_part true t = t
v2_part false t = default_tree

-- its tree, as one of version 02
unfoldable pub look_tree : Tree TableLook → Tree TableLook02
look_tree t = (t.0, (2, (t.1.1.0, (t.1.1.1.0, v2_part (eqb t.1.0 2) t.1.1.1.1))))

resolve_v2 : (b : Bool) (s : List ℕ) (f : Fields (grammar.V2StylesIf b)) → resolve grammar.V2Styles s (v2_data b f) ≡ v2_part b (resolve (grammar.V2StylesIf b) s f)
unfolding default_tree resolve resolve_all text_of
resolve_v2 true s f = refl
resolve_v2 false s f = refl

resolve_look : (s : List ℕ) (f : Fields TableLook) → resolve TableLook02 s (look_of f) ≡ look_tree (resolve TableLook s f)
unfolding look_tree resolve
resolve_look s f = rw (← (resolve_v2 (eqb f.1.0 2) s f.1.1.1.1))

-- ---- a tree of version 02 is one of a file

old_tree : Tree TableLook02 → Tree TableLook
old_tree w = (w.0, (2, w.1.1))

same_tree : (w : Tree TableLook02) → w.1.0 ≡ 2 → look_tree (old_tree w) ≡ w
unfolding look_tree old_tree
same_tree w e = ap (λ (v : ℕ). (w.0, (v, w.1.1))) (sym e)

-- its bytes, which have a derivation of the grammar that is read
derived_02 : (w : Tree TableLook02) → Valid TableLook02 w → w.1.0 ≡ 2 → Derivation TableLook (spell TableLook02 w)
unfolding old_tree spell passes among
derived_02 w v e = record {
  tree = old_tree w;
  valid = (v.0, (omega arith, refl, v.1.2));
  spells = ap (λ (n : ℕ). spell TableLook02 (w.0, (n, w.1.1))) (sym e);
}

-- ---- the file of a look

-- what follows the version, in the file and in the look
module _ (b : Bool) (t : Tree (grammar.settings ▸ grammar.sections (grammar.V2StylesIf b))) where
  after : Tree (grammar.settings ▸ grammar.sections grammar.V2Styles)
  after = (t.0, (t.1.0, v2_part b t.1.1))

same_after : (b : Bool) (t : Tree (grammar.settings ▸ grammar.sections (grammar.V2StylesIf b))) → b ≡ true
    → spell (grammar.settings ▸ grammar.sections grammar.V2Styles) (after b t) ≡ spell (grammar.settings ▸ grammar.sections (grammar.V2StylesIf b)) t
unfolding after spell
same_after true t e = refl
same_after false t e = absurd (false≢true e)

behind : (p q r : List ℕ) → p ++ (q ++ r) ≡ p ++ (q ++ []) ++ r
behind p q r = rw (append-nil q) (sym (append_assoc p q r))

default_after : (b : Bool) (t : Tree (grammar.settings ▸ grammar.sections (grammar.V2StylesIf b))) → b ≡ false
    → spell (grammar.settings ▸ grammar.sections grammar.V2Styles) (after b t) ≡ spell (grammar.settings ▸ grammar.sections (grammar.V2StylesIf b)) t ++ default_bytes
unfolding after spell
default_after true t e = absurd (false≢true (sym e))
default_after false t e =
    ap (λ (d : List ℕ). spell grammar.settings t.0 ++ (spell (grammar.PVSeparatorStyle ▸ grammar.PVCellStyle ▸ grammar.PVTextStyle) t.1.0 ++ d)) default_spells
    ∙ behind (spell grammar.settings t.0) (spell (grammar.PVSeparatorStyle ▸ grammar.PVCellStyle ▸ grammar.PVTextStyle) t.1.0) default_bytes

same_rest : (p : List ℕ) {d d' q q' : List ℕ} → d ≡ d' → q ≡ q' → p ++ (d ++ q) ≡ p ++ (d' ++ q')
same_rest p e i = rw (e, i)

-- a file of version 02 is that of its look
look_bytes : (t : Tree TableLook) → t.1.0 ≡ 2 → spell TableLook02 (look_tree t) ≡ spell TableLook t
unfolding look_tree spell after
look_bytes t e =
    same_rest (spell (grammar.section grammar.PTTable_look_name) t.0) (ap (digits little 1) (sym e))
    (same_after (eqb t.1.0 2) t.1.1 (eq-eqb t.1.0 2 e))

-- an old file xs, and the file ys of its look: the version differs, and the defaults stand behind
pub record Renewed (xs ys : List ℕ) : Type 0 where
  pub front : List ℕ
  pub rest : List ℕ
  pub before : length front ≡ 17
  pub old : xs ≡ front ++ 0 ∷ rest
  pub new : ys ≡ front ++ 2 ∷ (rest ++ default_bytes)

-- it is 78 bytes longer
pub renewed_long : {xs ys : List ℕ} → Renewed xs ys → length ys ≡ length xs + 78
unfolding default_bytes
renewed_long r =
    rw (r.old, r.new, length-append r.front (2 ∷ (r.rest ++ default_bytes)), length-append r.front (0 ∷ r.rest), length-append r.rest default_bytes) (omega arith)

version_before : (t : Tree (grammar.section grammar.PTTable_look_name)) → length (spell (grammar.section grammar.PTTable_look_name) t) ≡ 17
unfolding spell grammar.PTTable_look_name
version_before t = simp (length-append, laws.digits_length)

look_renewed : (t : Tree TableLook) → t.1.0 ≡ 0 → Renewed (spell TableLook t) (spell TableLook02 (look_tree t))
unfolding look_tree spell after digits le
look_renewed t e = record {
  front = spell (grammar.section grammar.PTTable_look_name) t.0;
  rest = spell (grammar.settings ▸ grammar.sections (grammar.V2StylesIf (eqb t.1.0 2))) t.1.1;
  before = version_before t.0;
  old = ap (λ (d : List ℕ). spell (grammar.section grammar.PTTable_look_name) t.0 ++ (d ++ spell (grammar.settings ▸ grammar.sections (grammar.V2StylesIf (eqb t.1.0 2))) t.1.1)) (ap (digits little 1) e);
  new = same_rest (spell (grammar.section grammar.PTTable_look_name) t.0) {d = digits little 1 2} {d' = digits little 1 2} refl (default_after (eqb t.1.0 2) t.1.1 (ne_eqb t.1.0 2 (λ i. omega (arith, e, i))));
}

-- ---- the look of a file can be written

-- a number alone passes its test
abbrev Holds : Type 0
Holds = (true ≡ true) × Unit {0}

default_writable : (s : List ℕ) → Writable grammar.V2Styles s (values.v2_styles defaults)
unfolding passes among suits values.default_continuation
default_writable s =
    all_more undrawn (all_more line (all_more line (all_more line (all_more line (all_more undrawn (all_more undrawn (all_more undrawn
    (all_more undrawn (all_more undrawn (all_more undrawn all_none))))))))))
    & (omega arith, tt, refl) & one & one & one & one
  where
    one : Holds
    one = (refl, tt)

    undrawn : (true ≡ true) × Holds
    undrawn = (refl, one)

    line : (true ≡ true) × (((Holds × Holds) × Holds) × Holds)
    line = (refl, one & one & one & one)

default_fits : Fit grammar.V2Styles [] (values.v2_styles defaults)
unfolding values.default_continuation
default_fits = (
  refl,
  all_more undrawn (all_more line (all_more line (all_more line (all_more line (all_more undrawn (all_more undrawn (all_more undrawn
      (all_more undrawn (all_more undrawn (all_more undrawn all_none)))))))))),
)
    & byte (omega arith) (byte (omega arith) (byte (omega arith) (byte (omega arith) (byte (omega arith) (byte (omega arith) (byte (omega arith) no_bytes))))))
    & (omega arith, tt) & (omega arith, tt) & (omega arith, tt) & (omega arith, tt)
  where
    undrawn : (0 < 256 ^ 1) × ((0 < 256 ^ 1) × Unit {0})
    undrawn = (omega arith, (omega arith, tt))

    line : (1 < 256 ^ 1) × (((((0 < 256 ^ 1) × Unit {0}) × ((0 < 256 ^ 4) × Unit {0})) × ((0 < 256 ^ 2) × Unit {0})) × ((1 < 256 ^ 2) × Unit {0}))
    line = (omega arith, (omega arith, tt) & (omega arith, tt) & (omega arith, tt) & (omega arith, tt))

v2_valid : (b : Bool) (t : Tree (grammar.V2StylesIf b)) → Valid (grammar.V2StylesIf b) t → Valid grammar.V2Styles (v2_part b t)
unfolding default_tree
v2_valid true t v = v
v2_valid false t v = valid_resolved grammar.V2Styles [] no_bytes (values.v2_styles defaults) default_fits (default_writable [])

look_valid : (t : Tree TableLook) → Valid TableLook t → Valid TableLook02 (look_tree t)
unfolding look_tree passes among
look_valid t v = (v.0, (omega arith, refl, (v.1.2.0, (v.1.2.1.0, v2_valid (eqb t.1.0 2) t.1.1.1.1 v.1.2.1.1))))

v2_writable : (b : Bool) (s : List ℕ) (f : Fields (grammar.V2StylesIf b)) → Writable (grammar.V2StylesIf b) s f → Writable grammar.V2Styles s (v2_data b f)
v2_writable true s f w = w
v2_writable false s f w = default_writable s

look_writable : (s : List ℕ) (f : Fields TableLook) → Writable TableLook s f → Writable TableLook02 s (look_of f)
unfolding passes among
look_writable s f w = (w.0, (refl, (w.1.1.0, (w.1.1.1.0, v2_writable (eqb f.1.0 2) s f.1.1.1.1 w.1.1.1.1))))

-- ---- what is answered for a file

-- what an answer says of the look that it accepts: its fields
record Accepts (a : Answer) (f : Fields TableLook02) : Type 0 where
  look : Look
  is : a ≡ Ok look
  fields : values.fields look ≡ f

accepts : (a : Answer) (f : Fields TableLook02) → outcome a ≡ accepted f → Accepts a f
accepts (Ok y) f e = record { look = y; is = refl; fields = cc }
accepts (Err (n, p)) f e = absurd (let z : ◌≡◌ {A = ℕ} 0 1 = cc in omega arith)

-- for bytes that are read whole, as a tree: a look whose fields are those of the tree's look
record Back (a : Answer) (bs : List ℕ) (t : Tree TableLook) : Type 0 where
  look : Look
  is : a ≡ Ok look
  fields : values.fields look ≡ look_of (placed TableLook t 0)
  all : resolve TableLook02 bs (values.fields look) ≡ look_tree t

stands_whole : (bs : List ℕ) (t : Tree TableLook) → spell TableLook t ≡ bs → Stands (spell TableLook t) bs 0 []
stands_whole bs t e = record { inside = omega arith; here = sym (append-nil (spell TableLook t) ∙ e) }

resolved : (bs : List ℕ) (t : Tree TableLook) → spell TableLook t ≡ bs → resolve TableLook02 bs (look_of (placed TableLook t 0)) ≡ look_tree t
resolved bs t e = resolve_look bs (placed TableLook t 0) ∙ ap look_tree (resolve_placed TableLook t bs 0 [] (stands_whole bs t e))

read_back : (a : Answer) (bs : List ℕ) (t : Tree TableLook) (p : ℕ) → read TableLook bs 0 ≡ got t [] p → spell TableLook t ≡ bs
    → outcome a ≡ expected (read TableLook bs 0) → Back a bs t
unfolding expected
read_back a bs t p r e i =
    let y = accepts a (look_of (placed TableLook t 0)) (i ∙ ap expected r) in
    record {
      look = y.look;
      is = y.is;
      fields = y.fields;
      all = ap (resolve TableLook02 bs) y.fields ∙ resolved bs t e;
    }

-- for the bytes of a tree of version 02: a look with that tree
reads_tree : (w : Tree TableLook02) → Valid TableLook02 w → w.1.0 ≡ 2 → (a : Answer) → outcome a ≡ expected (read TableLook (spell TableLook02 w) 0)
    → (y : Look) × (a ≡ Ok y) × (w ≡ resolve TableLook02 (spell TableLook02 w) (values.fields y))
unfolding derived_02
reads_tree w v e a i =
    let bs = spell TableLook02 w in
    let d = derived_02 w v e in
    let b = read_back a bs (old_tree w) (length bs) (laws.derived TableLook bs d) d.spells i in
    (b.look, b.is, sym (b.all ∙ same_tree w e))

-- ---- a written look reads as the same look

module _ (x : Look) (s : List ℕ) (bs : Bytes s) (fits : Fits x s) (room n : ℕ) (e : writing x s room ≡ Ok n) where
  written : Tree TableLook02
  written = resolve TableLook02 s (values.fields x)

  writable : Writable TableLook02 s (values.fields x)
  writable = ((written_exactly x s room n).0 e).0.fields

  -- "a written look reads as the same look": whatever answer meets `read_look`'s contract for the bytes that `write_look`'s contract gives
  pub written_reads_same : (a : Answer) → outcome a ≡ expected (read TableLook (file x s) 0)
      → (y : Look) × (a ≡ Ok y) × Same x s y (file x s)
  unfolding file written resolve
  written_reads_same a i =
      let y = reads_tree written (valid_resolved TableLook02 s bs (values.fields x) fits.is writable) (version_written x s writable) a i in
      (y.0, y.1, record { all = y.2 })

-- ---- an accepted file rewritten

is_look : {x y : Look} → ◌≡◌ {A = Answer} (Ok y) (Ok x) → x ≡ y
is_look e = cc

module _ (bs : List ℕ) (h : Bytes bs) (y : Look) (i : outcome (Ok y) ≡ expected (read TableLook bs 0)) where
  -- the file is read whole
  whole : (t : Tree TableLook) × (p : ℕ) × (read TableLook bs 0 ≡ got t [] p)
  unfolding expected
  whole = go (read TableLook bs 0) refl i
    where
      go : (x : Got (Tree TableLook)) → read TableLook bs 0 ≡ x → accepted (values.fields y) ≡ expected x
          → (t : Tree TableLook) × (p : ℕ) × (read TableLook bs 0 ≡ got t [] p)
      go (got t [] p) e j = (t, p, e)
      go (got t (b ∷ r) p) e j = absurd (let z : ◌≡◌ {A = ℕ} 0 1 = cc in omega arith)
      go (no n p) e j = absurd (let z : ◌≡◌ {A = ℕ} 0 1 = cc in omega arith)

  -- its derivation
  pub of_file : Derivation TableLook bs
  of_file = (laws.accepts TableLook bs h).0 (whole.0, whole.1, whole.2)

  -- the look's fields are those of the derivation, with 002's defaults where the file has no V2Styles
  pub fields_are : values.fields y ≡ look_of (placed TableLook of_file.tree 0)
  unfolding expected
  fields_are = let e = i ∙ ap expected (laws.derived TableLook bs of_file) in cc

  -- and resolved from its bytes they are the derivation's
  pub all_are : resolve TableLook02 bs (values.fields y) ≡ look_tree of_file.tree
  all_are = ap (resolve TableLook02 bs) fields_are ∙ resolved bs of_file.tree of_file.spells

  -- of version 02: the bytes that `write_look` gives are those of the file
  pub rewritten_bytes : of_file.tree.1.0 ≡ 2 → file y bs ≡ bs
  unfolding file
  rewritten_bytes e = ap (spell TableLook02) all_are ∙ look_bytes of_file.tree e ∙ of_file.spells

  -- of version 00: they are the file's with another version, and the defaults
  pub rewritten_old : of_file.tree.1.0 ≡ 0 → Renewed bs (file y bs)
  unfolding file
  rewritten_old e =
      let r = look_renewed of_file.tree e in
      record {
        front = r.front;
        rest = r.rest;
        before = r.before;
        old = sym of_file.spells ∙ r.old;
        new = ap (spell TableLook02) all_are ∙ r.new;
      }

  -- they read as the look that was answered
  pub rewritten_reads_same : (a : Answer) → outcome a ≡ expected (read TableLook (file y bs) 0) → (z : Look) × (a ≡ Ok z) × Same y bs z (file y bs)
  unfolding file look_tree
  rewritten_reads_same a j =
      let e : spell TableLook02 (look_tree of_file.tree) ≡ file y bs = ap (spell TableLook02) (sym all_are) in
      let z = reads_tree (look_tree of_file.tree) (look_valid of_file.tree of_file.valid) refl a (rw e j) in
      (z.0, z.1, record { all = all_are ∙ rw e at z.2 })

  -- and rewritten again they stay
  pub rewritten_again : (z : Look) → outcome (Ok z) ≡ expected (read TableLook (file y bs) 0) → file z (file y bs) ≡ file y bs
  rewritten_again z j =
      let r = rewritten_reads_same (Ok z) j in
      let e : r.0 ≡ z = is_look r.1 in
      ap (λ (u : Look). file u (file y bs)) (sym e) ∙ sym (same_file r.2)

  pub can_be_written : Writable TableLook02 bs (values.fields y)
  can_be_written =
      subst (Writable TableLook02 bs) (sym fields_are)
      (look_writable bs (placed TableLook of_file.tree 0)
      (writable_placed TableLook of_file.tree of_file.valid bs 0 [] (stands_whole bs of_file.tree of_file.spells)))

  -- and it gives them exactly where the output has room for them
  pub rewritten : (room : ℕ) → writing y bs room ≡ pick (leb (length (file y bs)) room) (Ok (length (file y bs))) (Err (15, 0))
  unfolding writing ending chain pick file bytes_in
  rewritten room =
      rw ((writable_exactly TableLook02 bs (values.fields y) 0 (length (file y bs))).1 (can_be_written, sym (zero-add (length (file y bs)))))

-- ---- accepted exactly when there is a derivation, and never two

pub accepted_exactly : (bs : List ℕ) → Bytes bs → (a : Answer) → outcome a ≡ expected (read TableLook bs 0)
    → ((y : Look) × (a ≡ Ok y)) ↔ Derivation TableLook bs
accepted_exactly bs h a i = (
  λ y. of_file bs h y.0 (rw y.1 at i),
  λ d.
      let b = read_back a bs d.tree (length bs) (laws.derived TableLook bs d) d.spells i in
      (b.look, b.is),
)

pub never_two : (bs : List ℕ) (d d' : Derivation TableLook bs) → d.tree ≡ d'.tree
never_two = laws.unambiguous TableLook
