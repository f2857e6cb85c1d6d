-- What the walk over categories keeps: the number of nodes so far, and their words.
use Rattle.std.specs.Prelude.{◌≡◌, drop}
use Rattle.std.proofs.Math.Path.{refl}
use Rattle.std.proofs.Common.{ap, ◌∙◌, arith, length-append, lt-ltb, le-ltb}
use mathlib.Core.List.{List, [], ◌∷◌, ◌++◌}
use Prim.Native.Nat.{ℕ, zero, suc, ◌+◌, ◌-◌, ◌*◌, ◌^◌, ◌≤◌, ◌<◌}
use Rattle.std.proofs.Math.Nat.{sub-zero}
use Rattle.std.proofs.Math.ListN.{length, length-drop}
use Rattle.std.proofs.lemmas.List.Edits.{sets}
use Rattle.sizes.specs.Sizes.{most_nodes, node_words}
use Rattle.sizes.specs.Basics.{pick}
use Rattle.grammar.specs.Layout.{empty, Tree, passes, spell, size}
use Rattle.grammar.specs.Laws.Layout.Read.{Got, got, no, bind, read}
use Rattle.grammar.specs.Rule.{Rule, items}
use Rattle.grammar.specs.Laws.Layout.Check.{check_times, check}
use Rattle.layout.specs.Keeps.{Out, on, off, Keeps, keeps_on, keeps_off, Each, each_none, each_more}
use Rattle.grammar.specs.Laws.Layout.{digits_length}
use Rattle.layout.specs.Steps.Keeping.{kept_on, kept_off, Going, going, goes_on, goes_no, goes_to}
use Rattle.layout.specs.Steps.Spelt.{Found}
use Rattle.grammar.specs.Laws.Layout.Binds.{bind_assoc, bind_pick}
use Rattle.layout.specs.Words.{word32}
use Rattle.layout.specs.Laws.Words.{word_same}
use Rattle.grammar.specs.Value.{Value}
use Rattle.table.specs.Walk.{Walk}
use Rattle.std.specs.Prelude.{Ok, Err}
use Rattle.grammar.specs.Table.{KindOf, CategoryIn}
use Rattle.grammar.specs.Records.{Head, below_of, sum, nodes, words_all, node_words_of, tree_words, node_record}
use Rattle.grammar.specs.Rules.{kind_rule, node_rule, category_rule, categories_rule}
use Rattle.grammar.specs.Laws.Table.Lengths.{size_category}
use Rattle.grammar.specs.Laws.Table.Words.{sets_append, sets_before, width_tree}
use Rattle.table.specs.Laws.Heads.{starts, HeadRead, head_there}

-- an answer of the code, and the node words with it
abbrev pub walked : Walk → List ℕ → Out (ℕ × List ℕ)
walked (Ok (at, used)) ns = on at (used, ns)
walked (Err (r, p)) ns = off r p

-- what the categories below a node gave, and then with the node's own words, once it is known how many nodes there are
pub data Stored (used : ℕ) (own : ℕ → List ℕ) : Out (ℕ × List ℕ) → Out (ℕ × List ℕ) → Type 0 where
  stored : {p : ℕ} {y : ℕ × List ℕ} {ms : List ℕ} → ms ≡ sets y.1 (node_words * used) (own (word32 (y.0 - used))) → Stored used own (on p y) (on p (y.0, ms))
  not_stored : {n p : ℕ} → Stored used own (off n p) (off n p)

module _ (version : ℕ) where
  -- a category at the place `at`, in the dimension dim and below the node par: its nodes and their words come after those in x
  pub record Node (d dim par at : ℕ) (x : ℕ × List ℕ) (t : Tree (CategoryIn version d)) (p : ℕ) (y : ℕ × List ℕ) : Type 0 where
    pub place : p ≡ at + size (CategoryIn version d) t
    pub count : y.0 ≡ x.0 + (nodes version) d t
    pub few : y.0 ≤ most_nodes
    pub words : y.1 ≡ sets x.1 (node_words * x.0) (tree_words version d dim par x.0 at t)

  -- categories that follow each other
  pub record Nodes (d dim par at : ℕ) (x : ℕ × List ℕ) (ts : List (Tree (CategoryIn version d))) (p : ℕ) (y : ℕ × List ℕ) : Type 0 where
    pub place : p ≡ at + sum (size (CategoryIn version d)) ts
    pub count : y.0 ≡ x.0 + sum (nodes version d) ts
    pub few : x.0 ≤ most_nodes → y.0 ≤ most_nodes
    pub words : y.1 ≡ sets x.1 (node_words * x.0) (words_all (nodes version d) (size (CategoryIn version d)) (tree_words version d dim par) x.0 at ts)

  pub all_nodes : {d dim par at : ℕ} {x : ℕ × List ℕ} {ts : List (Tree (CategoryIn version d))} {p : ℕ} {y : ℕ × List ℕ} → Each (Node d dim par) at x ts p y → Nodes d dim par at x ts p y
  unfolding sum words_all
  all_nodes each_none = record { place = omega arith; count = omega arith; few = λ h. h; words = refl }
  all_nodes {d} {dim} {par} {at} {x} {y = y} (each_more {t = t} {p = m} {y = z} {ts = ts} {q = e} q r) =
      let n : Nodes d dim par m z ts e y = all_nodes r in
      let i : node_words * x.0 + length (tree_words version d dim par x.0 at t) ≡ node_words * z.0 = omega (arith, (width_tree version) d dim par x.0 at t, q.count) in
      record {
        place = omega (arith, n.place, q.place);
        count = omega (arith, n.count, q.count);
        few = λ h. n.few q.few;
        words = n.words ∙ rw (sets_append, i, ← q.words, ← q.count, ← q.place);
      }

  -- ---- a category is its head and then what is below it

  module _ (d : ℕ) where
    abbrev join : Tree (Head version) → List (Tree (CategoryIn version d)) → Tree (CategoryIn version (suc d))
    join (m, (zero, t)) ts = (m, (zero, t))
    join (m, (suc k, (t, (n, u)))) ts = (m, (suc k, (t, (n, ts))))

  module _ (d : ℕ) (below : List (Tree (CategoryIn version d)) → Rule (CategoryIn version d)) where
    abbrev rest : Tree (Head version) → List ℕ → ℕ → Got (Tree (CategoryIn version (suc d)))
    rest h s at = bind (check (items {n = below_of version h} below) s at) (λ ts s₁ at₁. got (join d h ts) s₁ at₁)

    check_kind : (m : Tree (Value version)) (n : ℕ) (s : List ℕ) (at : ℕ)
        → bind (check (kind_rule version d below n) s at) (λ t s₁ at₁. got (m, (n, t)) s₁ at₁)
        ≡ bind (read (KindOf (λ _. empty) n) s at) (λ t s₁ at₁. rest (m, (n, t)) s₁ at₁)
    unfolding bind check_times check read passes pick
    check_kind m zero s at = refl
    check_kind m (suc k) s at = simp (bind_assoc, bind_pick)

    check_node : (s : List ℕ) (at : ℕ) → check (node_rule version d below) s at ≡ bind (read (Head version) s at) rest
    unfolding check read
    check_node s at = simp (bind_assoc, bind_pick, check_kind)

  -- ---- a category

  -- a head lies inside, so its place is a word
  inside : {s : List ℕ} → length s < 2 ^ 32 → {at : ℕ} {h : Tree (Head version)} {r : List ℕ} {p : ℕ} → Found (Head version) s at h r p → word32 at ≡ at
  unfolding spell
  inside {s} small {at} q =
      let l = simp (length-append, digits_length) at (ap length q.spelt) in
      word_same at (omega (arith, length-drop at s, l))

  module _ (d : ℕ) (s : List ℕ) (dim par at used : ℕ) (ns : List ℕ) where
    abbrev next : List (Tree (CategoryIn version d)) → Rule (CategoryIn version d)
    next done = category_rule version d (used + 1 + sum (nodes version d) done)

    -- the words are the node's own, and then those of the categories below it
    own_first : (h : Tree (Head version)) {p q : ℕ} {ts : List (Tree (CategoryIn version d))} {z : ℕ × List ℕ} {ms : List ℕ} → p ≡ at + size (Head version) h → z.0 ≤ most_nodes → Nodes d dim used p (used + 1, ns) ts q z
        → ms ≡ sets z.1 (node_words * used) (node_words_of version dim par at (word32 (z.0 - used)) h)
        → ms ≡ sets ns (node_words * used) (node_words_of version dim par at (1 + sum (nodes version d) ts) h ++ words_all (nodes version d) (size (CategoryIn version d)) (tree_words version d dim used) (used + 1) (at + size (Head version) h) ts)
    own_first h {p} {q} {ts} {z} e few w own =
        let n : z.0 - used ≡ 1 + sum (nodes version d) ts = omega (arith, w.count) in
        let many : word32 (z.0 - used) ≡ 1 + sum (nodes version d) ts = ap word32 n ∙ word_same (1 + sum (nodes version d) ts) (omega (arith, w.count)) in
        let next : node_words * (used + 1) ≡ node_words * used + node_words = omega arith in
        own ∙ rw (many, w.words, e) (sets_before (node_words_of version dim par at (1 + sum (nodes version d) ts) h) (words_all (nodes version d) (size (CategoryIn version d)) (tree_words version d dim used) (used + 1) (at + size (Head version) h) ts) ns (node_words * used) (node_words * (used + 1)) next)

    joined : (h : Tree (Head version)) {p : ℕ} → p ≡ at + size (Head version) h → used < most_nodes
        → {y : Got (List (Tree (CategoryIn version d)))} {o o' : Out (ℕ × List ℕ)} → check (items {n = below_of version h} next) (drop p s) p ≡ y → Keeps s (Each (Node d dim used) p (used + 1, ns)) y o
        → Stored used (λ many. node_words_of version dim par at many h) o o' → Keeps s (Node (suc d) dim par at (used, ns)) (bind y (λ ts s₁ at₁. got (join d h ts) s₁ at₁)) o'
    unfolding bind nodes tree_words check check_times sum words_all
    joined (m, (zero, t)) {p} e₁ l c (keeps_on {t = ts} {r = r} {p = q} {x = z} e k) (stored {ms = ms} own) =
        let w : Nodes d dim used p (used + 1, ns) ts q z = all_nodes k in
        let c' : got [] (drop p s) p ≡ got ts r q = c in
        let none : ts ≡ [] = cc in
        let w' : Nodes d dim used p (used + 1, ns) [] q z = rw none at w in
        let few : z.0 ≤ most_nodes = w.few (omega arith) in
        keeps_on {t = (m, (zero, t))} {p = q} {x = (z.0, ms)} e record {
          place = omega (arith, (size_category version) d (m, (zero, t)), w'.place, e₁);
          count = omega (arith, w'.count);
          few = few;
          words = own_first (m, (zero, t)) e₁ few w' own;
        }
    joined (m, (suc k, r)) {p} e₁ l c (keeps_on {t = ts} {p = q} {x = z} e v) (stored {ms = ms} own) =
        let w : Nodes d dim used p (used + 1, ns) ts q z = all_nodes v in
        let tree : Tree (CategoryIn version (suc d)) = (m, (suc k, (r.0, (r.1.0, ts)))) in
        let few : z.0 ≤ most_nodes = w.few (omega arith) in
        keeps_on {t = tree} {p = q} {x = (z.0, ms)} e record {
          place = omega (arith, (size_category version) d tree, w.place, e₁);
          count = omega (arith, w.count);
          few = few;
          words = own_first (m, (suc k, r)) e₁ few w own;
        }
    joined h e₁ l c keeps_off not_stored = keeps_off

    -- too deep, or one node too many
    pub too_deep : Keeps s (Node 0 dim par at (used, ns)) (check (category_rule version 0 used) (drop at s) at) (off 7 at)
    unfolding category_rule check read
    too_deep = keeps_off

    pub one_too_many : most_nodes ≤ used → Keeps s (Node (suc d) dim par at (used, ns)) (check (category_rule version (suc d) used) (drop at s) at) (off 7 at)
    unfolding category_rule check pick
    one_too_many h = rw (le-ltb used most_nodes h, sub-zero) keeps_off

    pub no_head : used < most_nodes → {n p : ℕ} → read (Head version) (drop at s) at ≡ no n p
        → Keeps s (Node (suc d) dim par at (used, ns)) (check (category_rule version (suc d) used) (drop at s) at) (off n p)
    unfolding category_rule check pick bind
    no_head h e = rw (lt-ltb used most_nodes h, check_node d next (drop at s) at, e) keeps_off

    -- the code's words of a node are those of the head
    pub with_head : length s < 2 ^ 32 → used < most_nodes → {y : Got (Tree (Head version))} {kind z word n p : ℕ} → HeadRead version s at y (starts kind z word n p) → read (Head version) (drop at s) at ≡ y
        → {o o' : Out (ℕ × List ℕ)} → Keeps s (Each (Node d dim used) p (used + 1, ns)) (check (categories_rule version d (used + 1) n) (drop p s) p) o
        → Stored used (λ many. node_record kind dim par (word32 at) z word many) o o'
        → Keeps s (Node (suc d) dim par at (used, ns)) (check (category_rule version (suc d) used) (drop at s) at) o'
    unfolding category_rule check pick bind
    with_head small l (head_there {h = h} f) e {o} {o'} k own =
        let w : Stored used (λ many. node_words_of version dim par at many h) o o' = rw (inside small f) at own in
        rw (lt-ltb used most_nodes l, check_node d next (drop at s) at, e) (joined h f.place l refl k w)

  -- ---- categories, one after the other

  -- what the loop over n categories keeps, after i of them
  pub record Walking (d dim par : ℕ) (s : List ℕ) (n at used : ℕ) (ns : List ℕ) (i at' used' : ℕ) (ns' : List ℕ) : Type 0 where
    pub done : List (Tree (CategoryIn version d))
    pub count : used' ≡ used + sum (nodes version d) done
    pub few : used' ≤ most_nodes
    pub most : i ≤ n
    pub going : Going s (λ before. category_rule version d (used + sum (nodes version d) before)) (Node d dim par) n at (used, ns) i at' (used', ns') done

  module _ (d dim par : ℕ) (s : List ℕ) (n at used : ℕ) (ns : List ℕ) where
    pub walking : used ≤ most_nodes → Walking d dim par s n at used ns 0 at used ns
    unfolding sum
    walking h = record { done = []; count = omega arith; few = h; most = omega arith; going = going s _ (Node d dim par) n at (used, ns) }

    module _ {i at' used' : ℕ} {ns' : List ℕ} (w : Walking d dim par s n at used ns i at' used' ns') where
      pub walks_on : i < n → {p u : ℕ} {ms : List ℕ} → Keeps s (Node d dim par at' (used', ns')) (check (category_rule version d used') (drop at' s) at') (on p (u, ms))
          → Walking d dim par s n at used ns (i + 1) p u ms
      unfolding sum
      walks_on h k =
          let r = kept_on k in
          record {
            done = r.tree ∷ w.done;
            count = omega (arith, r.keeps.count, w.count);
            few = r.keeps.few;
            most = omega arith;
            going = goes_on s _ (Node d dim par) w.going h (rw (← w.count) r.is) r.keeps;
          }

      pub walks_off : i < n → {m p : ℕ} → Keeps s (Node d dim par at' (used', ns')) (check (category_rule version d used') (drop at' s) at') (off m p)
          → Keeps s (Each (Node d dim par) at (used, ns)) (check (categories_rule version d used n) (drop at s) at) (off m p)
      walks_off h k = goes_no s _ (Node d dim par) w.going h (rw (← w.count) (kept_off k))

      pub walks_to : n ≤ i → Keeps s (Each (Node d dim par) at (used, ns)) (check (categories_rule version d used n) (drop at s) at) (on at' (used', ns'))
      walks_to h = goes_to s _ (Node d dim par) w.going h
