-- What a category begins with: its own words, how many categories are below it, and where they start.
use Rattle.std.specs.Prelude.{◌≡◌, true, false, List, [], ◌++◌, eqb}
use Rattle.std.proofs.Math.Path.{refl}
use Rattle.std.proofs.Common.{sym, ap, ◌∙◌, append_assoc, append-nil, eqb-true}
use Prim.Native.Nat.{ℕ, zero, suc, ◌+◌, ◌-◌, ◌^◌, ◌<◌}
use native.Mathlib.Omega.{arith}
use Rattle.std.proofs.Math.ListN.{length, drop, length-append, length-drop}
use Rattle.std.proofs.lemmas.Bool.{eqb-false}
use Rattle.layout.specs.Step.{Step}
use Rattle.std.specs.Prelude.{Result, Ok, Err}
use Rattle.grammar.specs.Layout.{little, one_of, Layout, empty, ◌▸◌, Tree, digits, spell, Bytes, Valid, size}
use Rattle.grammar.specs.Conventions.{field, i, int32}
use Rattle.grammar.specs.Laws.Layout.Read.{Got, got, no, read}
use Rattle.layout.specs.Reads.{step, chain, peek, ReadsTo}
use Rattle.layout.specs.Steps.Chain.{kept, then}
use Rattle.layout.specs.Steps.Numbers.{switch_of}
use Rattle.layout.specs.Steps.Spelt.{step_spelt, peek_spelt, field_spelt, Found, Read, read_on, read_off}
use Rattle.grammar.specs.Laws.Layout.Spelt.{after}
use Rattle.layout.specs.Words.{word32}
use Rattle.layout.specs.Laws.Words.{word_same}
use Rattle.grammar.specs.Value.{Value}
use Rattle.refusals.specs.declared.Refusal.{Refusal}
use Rattle.refusals.specs.Numbers.{number}
use Rattle.table.specs.declared.NodeStart.{NodeStart}
use Rattle.table.specs.declared.Own.{Own}
use Rattle.table.specs.declared.Own.TheVariants.{Leaf as own_leaf, Group as own_group}
use Rattle.grammar.specs.Table.{kinds, Leaf, GroupOf, KindOf, minus_one}
use Rattle.grammar.specs.Records.{Head, kind_of, word_of, below_of}

-- ---- what the code gives

-- 0 for a leaf or 1 for a group
abbrev pub own_kind : Own → ℕ
own_kind (own_leaf n) = 0
own_kind (own_group n) = 1

-- the last word of its record but one
abbrev pub own_word : Own → ℕ
own_word (own_leaf n) = n
own_word (own_group n) = n

-- how many categories are below it
abbrev pub own_children : Own → ℕ
own_children (own_leaf n) = 0
own_children (own_group n) = n

-- 0 for a leaf or 1 for a group, the length of the name, the last word but one, how many categories are below, and where they start; or the
-- refusal's number and place
pub data Start : Type 0 where
  starts : ℕ → ℕ → ℕ → ℕ → ℕ → Start
  refused : ℕ → ℕ → Start

abbrev pub start_of : Result NodeStart Refusal → Start
start_of (Ok n) = starts (own_kind n.own) n.size (word32 (own_word n.own)) (own_children n.own) n.next
start_of (Err e) = refused (number e.reason) e.place

-- a node at the place `at`, once its name ends at `name` and its own part at `end`
unfoldable pub node_of : ℕ → ℕ → Step → ℕ → ℕ → Step → Start
node_of kind at name word children (Err (r, p)) = refused r p
node_of kind at (Err (r, p)) word children (Ok next) = refused r p
node_of kind at (Ok e) word children (Ok next) = starts kind (word32 (e - at)) (word32 word) children next

abbrev pub none : ℕ → Layout
none n = empty

-- ---- a head by its kind

abbrev kind_number : ℕ → ℕ
kind_number zero = 0
kind_number (suc k) = 1

abbrev before_word : ℕ → Layout
before_word zero = i 2
before_word (suc k) = int32 ▸ i minus_one

abbrev children_of : ℕ → ℕ → ℕ
children_of zero w = 0
children_of (suc k) w = w

-- ---- what its parts are

-- drop at s has the bytes xs, then ys
module _ (s : List ℕ) (at : ℕ) (xs ys r : List ℕ) (e : drop at s ≡ (xs ++ ys) ++ r) where
  first : drop at s ≡ xs ++ (ys ++ r)
  first = e ∙ append_assoc xs ys r

  second : drop (at + length xs) s ≡ ys ++ r
  second = after s at xs (ys ++ r) first

-- a number alone spells its digits
spelt_number : (s : List ℕ) (at w n : ℕ) (r : List ℕ) → drop at s ≡ (digits little w n ++ []) ++ r → drop at s ≡ digits little w n ++ r
spelt_number s at w n r e = rw append-nil at e

module _ (version : ℕ) where
  -- reading a category without what is below it, and what is answered for it
  pub data HeadRead (s : List ℕ) (at : ℕ) : Got (Tree (Head version)) → Start → Type 0 where
    head_there : {h : Tree (Head version)} {p : ℕ} → Found (Head version) s at h (drop p s) p
        → HeadRead s at (got h (drop p s) p) (starts (kind_of version h) (size (Value version) h.0) (word_of version h) (below_of version h) p)
    head_not : {n p : ℕ} → HeadRead s at (no n p) (refused n p)

  pub head_off : {s : List ℕ} {at : ℕ} {y : Got (Tree (Head version))} {f : Start} {n p : ℕ} → HeadRead s at y f → f ≡ refused n p → y ≡ no n p
  head_off (head_there {h = h} q) e = absurd (let z : ◌≡◌ {A = ℕ} 0 1 = cc in omega arith)
  head_off head_not e = let a : _ ≡ _ = e in cc

  -- its name is refused
  pub no_name : {s : List ℕ} {at n p : ℕ} {name : Step} → ReadsTo (Value version) s (Ok at) name → name ≡ Err (n, p)
      → HeadRead s at (read (Head version) (drop at s) at) (refused n p)
  no_name {s} {at} {name = name} v e =
      let whole : ReadsTo (Head version) s (Ok at) name = then (kept e) v in
      rw (read_off whole e) head_not

  -- the last word of a head whose own part lies at f
  word_spelt : (m : Tree (Value version)) (k : ℕ) (t : Tree (KindOf none k)) → Valid (KindOf none k) t → (s : List ℕ) (f : ℕ) (r : List ℕ)
      → drop f s ≡ spell (KindOf none k) t ++ r → (peek little 4 s (step (before_word k) s f) ≡ word_of version (m, (k, t))) × (word_of version (m, (k, t)) < 2 ^ 32)
  unfolding spell size
  word_spelt m zero t v s f r e =
      let a = first s f (spell (i 2 ▸ int32) t.0) (spell (i 0) t.1) r e in
      let l = spell (i 0) t.1 ++ r in
      let b = first s f (spell (i 2) t.0.0) (spell int32 t.0.1) l a in
      let c = second s f (spell (i 2) t.0.0) (spell int32 t.0.1) l a in
      let n = t.0.1.0 in
      let st = step_spelt (i 2) t.0.0 v.0.0 s f (spell int32 t.0.1 ++ l) b in
      let at = f + size (i 2) t.0.0 in
      (rw st (peek_spelt little 4 n v.0.1.0 s at l (spelt_number s at 4 n l c)), v.0.1.0)
  word_spelt m (suc k) t v s f r e =
      let g = int32 ▸ i minus_one in
      let b = first s f (spell g t.0) (spell int32 t.1) r e in
      let c = second s f (spell g t.0) (spell int32 t.1) r e in
      let n = t.1.0 in
      let st = step_spelt g t.0 v.0 s f (spell int32 t.1 ++ r) b in
      let at = f + size g t.0 in
      (rw st (peek_spelt little 4 n v.1.0 s at r (spelt_number s at 4 n r c)), v.1.0)

  -- a node whose parts are known
  node_known : (m : Tree (Value version)) (k : ℕ) (t : Tree (KindOf none k)) (at e p w : ℕ) → e ≡ at + size (Value version) m → size (Value version) m < 2 ^ 32
      → w ≡ word_of version (m, (k, t)) → word_of version (m, (k, t)) < 2 ^ 32
      → node_of (kind_number k) at (Ok e) w (children_of k w) (Ok p) ≡ starts (kind_of version (m, (k, t))) (size (Value version) m) (word_of version (m, (k, t))) (below_of version (m, (k, t))) p
  unfolding node_of
  node_known m zero t at e p w a b c d =
      let l : e - at ≡ size (Value version) m = omega arith in
      rw (l, c, word_same (size (Value version) m) b, word_same _ d)
  node_known m (suc k) t at e p w a b c d =
      let l : e - at ≡ size (Value version) m = omega arith in
      rw (l, c, word_same (size (Value version) m) b, word_same _ d)

  -- a category at the place `at`, whose name ends at `name`, whose three bytes end at `st`, and whose own part ends at `end`
  module _ {s : List ℕ} {at : ℕ} {name st : Step} (b : Bytes s) (small : length s < 2 ^ 32) (v : ReadsTo (Value version) s (Ok at) name)
      (f : ReadsTo (field little 3 (one_of kinds)) s name st) where
    found_node : (m : Tree (Value version)) (k : ℕ) (t : Tree (KindOf none k)) (p w : ℕ) {a end : Step} → Found (Head version) s at (m, (k, t)) (drop p s) p
        → ReadsTo (before_word (peek little 3 s name)) s st a → w ≡ peek little 4 s a → end ≡ Ok p
        → HeadRead s at (got (m, (k, t)) (drop p s) p) (node_of (kind_number (peek little 3 s name)) at name w (children_of (peek little 3 s name) w) end)
    unfolding spell chain size
    found_node m k t p w {a} {end} q g c e =
        let v' = q.valid in
        let r = drop p s in
        let rest = digits little 3 k ++ spell (KindOf none k) t in
        let a₁ = first s at (spell (Value version) m) rest r q.spelt in
        let a₂ = second s at (spell (Value version) m) rest r q.spelt in
        let at₁ = at + size (Value version) m in
        let name_is : name ≡ Ok at₁ = v.is ∙ step_spelt (Value version) m v'.0 s at (rest ++ r) a₁ in
        let b₁ = first s at₁ (digits little 3 k) (spell (KindOf none k) t) r a₂ in
        let kind : peek little 3 s name ≡ k = rw name_is (peek_spelt little 3 k v'.1.0 s at₁ (spell (KindOf none k) t ++ r) b₁) in
        let three = field_spelt little 3 (one_of kinds) k v'.1.0 v'.1.1 s at₁ (spell (KindOf none k) t ++ r) b₁ in
        let st_is : st ≡ Ok (at₁ + 3) = f.is ∙ rw name_is three.0 in
        let word = word_spelt m k t v'.1.2 s (at₁ + 3) r three.1 in
        let a_is : a ≡ step (before_word k) s (at₁ + 3) = rw (st_is, kind) at g.is in
        let short : size (Value version) m < 2 ^ 32 = omega (arith, length-drop at s, simp length-append at (ap length a₁)) in
        let w_is : w ≡ word_of version (m, (k, t)) = c ∙ rw a_is word.0 in
        rw (kind, name_is, e, node_known m k t at at₁ p w refl short w_is word.1) (head_there q)

    head_of : (w : ℕ) {a end : Step} → ReadsTo (before_word (peek little 3 s name)) s st a → w ≡ peek little 4 s a → ReadsTo (KindOf none (peek little 3 s name)) s st end
        → HeadRead s at (read (Head version) (drop at s) at) (node_of (kind_number (peek little 3 s name)) at name w (children_of (peek little 3 s name) w) end)
    unfolding node_of
    head_of w {a} {end} g c e = go end refl
      where
        whole : ReadsTo (Head version) s (Ok at) end
        whole = then (switch_of {k = KindOf none} e refl f) v

        go : (x : Step) → end ≡ x → HeadRead s at (read (Head version) (drop at s) at) (node_of (kind_number (peek little 3 s name)) at name w (children_of (peek little 3 s name) w) end)
        go (Ok p) d =
            let q : Read (Head version) s at p = read_on b whole d in
            rw q.is (found_node q.tree.0 q.tree.1.0 q.tree.1.1 p w q.there g c d)
        go (Err (n, p)) d = rw (read_off whole d, d) head_not

    pub leaf_head : (w : ℕ) {kind : ℕ} {a end : Step} → kind ≡ peek little 3 s name → eqb kind 0 ≡ true → ReadsTo (i 2) s st a → w ≡ peek little 4 s a
        → ReadsTo Leaf s st end → HeadRead s at (read (Head version) (drop at s) at) (node_of 0 at name w 0 end)
    leaf_head w {kind} {a} {end} k z g c e =
        let zero_is : peek little 3 s name ≡ 0 = sym k ∙ eqb-true kind 0 z in
        let g' : ReadsTo (before_word (peek little 3 s name)) s st a = rw zero_is g in
        let e' : ReadsTo (KindOf none (peek little 3 s name)) s st end = rw zero_is e in
        rw zero_is at (head_of w g' c e')

    pub group_head : (w : ℕ) {kind : ℕ} {a end : Step} → kind ≡ peek little 3 s name → eqb kind 0 ≡ false → ReadsTo (int32 ▸ i minus_one) s st a → w ≡ peek little 4 s a
        → ReadsTo (GroupOf none) s st end → HeadRead s at (read (Head version) (drop at s) at) (node_of 1 at name w w end)
    group_head w {kind} {a} {end} k z g c e =
        let more : peek little 3 s name ≡ suc (kind - 1) = omega (arith, k, eqb-false kind 0 z) in
        let g' : ReadsTo (before_word (peek little 3 s name)) s st a = rw more g in
        let e' : ReadsTo (KindOf none (peek little 3 s name)) s st end = rw more e in
        rw more at (head_of w g' c e')
