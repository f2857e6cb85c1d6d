-- What the readers of dimensions keep: the number of dimensions and of nodes so far, their node words and their entries.
use Rattle.std.proofs.Math.Path.{◌≡◌, refl, ap}
use Rattle.std.proofs.Common.{sym, ◌∙◌, subst}
use Rattle.std.proofs.Math.Option.{Option, none, some}
use mathlib.Core.List.{List, [], ◌∷◌, append_assoc}
use Rattle.std.specs.Prelude.{ℕ, ◌+◌, ◌-◌, ◌*◌, ◌≤◌, ◌<◌, min, drop}
use native.Mathlib.Omega.{arith}
use Rattle.std.proofs.Math.ListN.{length, length-append}
use Rattle.std.proofs.lemmas.List.Edits.{sets}
use Rattle.sizes.specs.Sizes.{member_bytes, most_nodes, category_depth, node_words, dimension_words, no_parent}
use Rattle.layout.specs.Step.{Step}
use Rattle.std.specs.Prelude.{Result, Ok, Err}
use Rattle.sizes.specs.Basics.{pick}
use Rattle.grammar.specs.Layout.{little, Layout, ◌▸◌, times, Tree, spell, passes, Bytes, size}
use Rattle.grammar.specs.Conventions.{int32}
use Rattle.grammar.specs.Laws.Layout.Read.{Got, got, no, bind, read}
use Rattle.grammar.specs.Rule.{Rule, items}
use Rattle.grammar.specs.Laws.Layout.Check.{judge, check}
use Rattle.layout.specs.Reads.{ReadsTo, chain, peek}
use Rattle.layout.specs.Keeps.{Out, on, off, Keeps, keeps_on, keeps_off, Each, each_none, each_more}
use Rattle.grammar.specs.Laws.Layout.{digits_length}
use Rattle.layout.specs.Steps.Chain.{◌◂◌}
use Rattle.layout.specs.Steps.Keeping.{kept_on, kept_off, Going, going, goes_on, goes_no, goes_to}
use Rattle.layout.specs.Steps.Spelt.{step_spelt, Found, found_by, Read, read_on, read_off, ends_inside, stays_inside, peeked}
use Rattle.grammar.specs.Laws.Layout.Binds.{bind_assoc}
use Rattle.layout.specs.Words.{word32}
use Rattle.layout.specs.Laws.Words.{word_same}
use Rattle.grammar.specs.Value.{Value}
use Rattle.grammar.specs.RecordWords.{leaves}
use Rattle.grammar.specs.Once.{Leaf, first_bad}
use Rattle.table.specs.Walk.{Walk}
use Rattle.table.specs.declared.dimension.Section.{Section}
use Rattle.grammar.specs.Table.{DimProperties, Dimension, Dimensions, Category}
use Rattle.grammar.specs.Records.{sum, dim_nodes, dim_words, dim_entry, dims_words, dims_entries, dims_of, dim_record}
use Rattle.grammar.specs.Rules.{categories_rule, leaves_of, dimension_rule}
use Rattle.table.specs.Laws.Within.{needed, Room, RecordSizes}
use Rattle.grammar.specs.Laws.Table.Words.{sets_append, width_dim}
use Rattle.grammar.specs.Laws.Table.Lengths.{size_dimension}
use Rattle.grammar.specs.Laws.Table.LeastBytes.{categories_bytes, least_category}
use Rattle.grammar.specs.Laws.Table.KeptTable.{leaf_count}
use Rattle.table.specs.Laws.Nodes.{Node, Nodes, all_nodes}
use Rattle.grammar.specs.Laws.Table.Leaves.{few_leaves, further, further_length, later, further_bad}
use Rattle.grammar.proofs.Laws.Table.Leaves.{leaves_same, further_leaves}

-- ---- what is kept

pub record Kept : Type 0 where
  pub number : ℕ
  pub used : ℕ
  pub words : List ℕ
  pub entries : List ℕ

abbrev pub kept : ℕ → ℕ → List ℕ → List ℕ → Kept
kept i used ns ds = record { number = i; used = used; words = ns; entries = ds }

-- an answer of the code, and the words with it
abbrev pub dims_out : ℕ → Walk → List ℕ → List ℕ → Out Kept
dims_out i (Ok (at, used)) ns ds = on at (kept i used ns ds)
dims_out i (Err (r, p)) ns ds = off r p

-- the node records
abbrev pub node_record_sizes : RecordSizes
node_record_sizes = record { width = node_words; least = least_category; most = most_nodes; number = 12 }

-- ---- a dimension ends

-- the length of a name that starts at `at`
abbrev pub name_length_of : ℕ → Step → ℕ
name_length_of at (Ok e) = word32 (e - at)
name_length_of at (Err (r, p)) = 0

-- the leaves among the nodes from the number `used` to u, and the first wrong one
abbrev pub leaves_from : List ℕ → ℕ → ℕ → List Leaf
leaves_from ns used u = leaves ns (min used most_nodes) (min (u - used) most_nodes)

abbrev verdict_of : List Leaf → Option ℕ
verdict_of ls = first_bad (min (length ls) most_nodes) [] ls

-- dimension i, whose name has the place `at` and the length n, ends at p, with u nodes in all
pub data Closed (i at n used p u : ℕ) (ns ds : List ℕ) : Walk → List ℕ → Type 0 where
  closed : {es : List ℕ} → verdict_of (leaves_from ns used u) ≡ none
      → es ≡ sets ds (dimension_words * i) (dim_record (word32 at) n (word32 (length (leaves_from ns used u))) (word32 used)) → Closed i at n used p u ns ds (Ok (p, u)) es
  bad_leaf : {q : ℕ} {es : List ℕ} → verdict_of (leaves_from ns used u) ≡ some q → Closed i at n used p u ns ds (Err (8, q)) es

-- ---- the section

pub node_room : (s : List ℕ) (at n : ℕ) → needed node_record_sizes (length s - at) ≤ n → Room node_record_sizes n 0 at s
node_room s at n h = record { enough = λ u few k. omega arith }

-- an answer of the code, and the words with it
abbrev pub section_out : Result Section (ℕ × ℕ) → List ℕ → List ℕ → Out Kept
section_out (Ok x) ns ds = on x.end (kept x.dimensions x.nodes ns ds)
section_out (Err (r, p)) ns ds = off r p

module _ (version : ℕ) where
  -- a dimension at the place `at`: its nodes and its entry come after those in x
  pub record Dim (at : ℕ) (x : Kept) (t : Tree (Dimension version)) (p : ℕ) (y : Kept) : Type 0 where
    pub place : p ≡ at + size (Dimension version) t
    pub number : y.number ≡ x.number + 1
    pub count : y.used ≡ x.used + (dim_nodes version) t
    pub few : y.used ≤ most_nodes
    pub bytes : at + least_category * y.used ≤ p + least_category * x.used
    pub words : y.words ≡ sets x.words (node_words * x.used) (dim_words version x.number x.used at t)
    pub entries : y.entries ≡ sets x.entries (dimension_words * x.number) (dim_entry version x.used at t)

  -- ---- a dimension

  -- what comes before the categories
  abbrev pub Start : Layout
  Start = (Value version) ▸ DimProperties ▸ int32

  abbrev verdict : Tree (Dimension version) → Option ℕ
  verdict t = first_bad (length (leaves_of version t)) [] (leaves_of version t)

  abbrev whole : Tree Start → List (Tree (Category version)) → Tree (Dimension version)
  whole h ts = (h.0, (h.1.0, ts))

  check_parts : (used : ℕ) (s : List ℕ) (at : ℕ)
      → check (dimension_rule version used) s at
      ≡ bind (read Start s at) (λ h s₁ at₁. bind (check (categories_rule version category_depth used h.1.0) s₁ at₁) (λ ts s₂ at₂.
      judge 8 at (verdict (whole h ts)) (whole h ts) s₂ at₂))
  unfolding dimension_rule check read bind passes pick
  check_parts used s at = simp bind_assoc

  size_start : (h : Tree Start) → size Start h ≡ size ((Value version) ▸ DimProperties) h.0 + 4
  unfolding size spell
  size_start h = simp (length-append, digits_length) (omega arith)

  size_name : (h : Tree Start) → size (Value version) h.0.0 ≤ size Start h
  unfolding size spell
  size_name h = simp length-append (omega arith)

  module _ (s : List ℕ) (b : Bytes s) (short : length s ≤ member_bytes) (at : ℕ) (x : Kept) where
    abbrev One : Tree (Dimension version) → ℕ → Kept → Type 0
    One = Dim at x

    abbrev reading : Got (Tree (Dimension version))
    reading = check (dimension_rule version x.used) (drop at s) at

    -- name, properties and count are refused
    pub no_start : {st : Step} {n p : ℕ} → ReadsTo Start s (Ok at) st → st ≡ Err (n, p) → Keeps s One reading (off n p)
    unfolding bind
    no_start r e = rw (check_parts x.used (drop at s) at, read_off r e) keeps_off

    module _ (few : x.used ≤ most_nodes) (room : Room node_record_sizes (length x.words) x.used at s)
        {name before st : Step} {n f : ℕ} (v : ReadsTo (Value version) s (Ok at) name) (r : ReadsTo ((Value version) ▸ DimProperties) s (Ok at) before) (g : ReadsTo int32 s before st)
        (pk : n ≡ peek little 4 s before) (e : st ≡ Ok f) where
      start : Read Start s at f
      start = read_on b (g ◂ r) e

      n_is : start.tree.1.0 ≡ n
      n_is = sym (pk ∙ peeked r start.there)

      -- the categories are refused
      pub no_categories : {m p : ℕ} → check (categories_rule version category_depth x.used n) (drop f s) f ≡ no m p → Keeps s One reading (off m p)
      unfolding bind
      no_categories h = rw (check_parts x.used (drop at s) at, start.is, n_is, h) keeps_off

      module _ {ts : List (Tree (Category version))} {q u : ℕ} {ms : List ℕ} (c : check (categories_rule version category_depth x.used n) (drop f s) f ≡ got ts (drop q s) q)
          (k : Each (Node version category_depth x.number no_parent) f (x.used, x.words) ts q (u, ms)) where
        abbrev tree : Tree (Dimension version)
        tree = whole start.tree ts

        all : (Nodes version) category_depth x.number no_parent f (x.used, x.words) ts q (u, ms)
        all = all_nodes version k

        there : Found (times n (Category version)) s f ts (drop q s) q
        there = found_by (categories_rule version category_depth x.used n) s b f ts (drop q s) q c

        -- it ends inside, so its nodes have room
        inside : (f ≤ length s) × (q ≤ length s)
        inside = let h = ends_inside start.there (omega (arith, size_start start.tree)) in (h, stays_inside there h)

        many_bytes : at + least_category * u ≤ q + least_category * x.used
        many_bytes =
            let e₁ = categories_bytes version category_depth there.valid.1 in
            omega (arith, e₁, all.place, all.count, start.there.place)

        few_nodes : u ≤ most_nodes
        few_nodes = all.few few

        f_is : f ≡ at + (size ((Value version) ▸ DimProperties) start.tree.0 + 4)
        f_is = omega (arith, start.there.place, size_start start.tree)

        ls : List Leaf
        ls = leaves_from ms x.used u

        ls_is : ls ≡ further at (leaves_of version tree)
        unfolding ls leaves_of
        ls_is =
            let words = rw f_is at all.words in
            (leaves_same version) x.number no_parent x.used _ u x.words ms ts (room.enough u few_nodes (omega (arith, many_bytes, inside.1))) all.count few_nodes words
            ∙ further_leaves version at (size ((Value version) ▸ DimProperties) start.tree.0 + 4) ts

        n_leaves : length ls ≡ length (leaves_of version tree)
        n_leaves = ap length ls_is ∙ further_length at (leaves_of version tree)

        most_leaves : length ls ≤ most_nodes
        unfolding ls
        most_leaves = omega (arith, few_leaves ms (min x.used most_nodes) (min (u - x.used) most_nodes))

        judged : verdict_of ls ≡ later at (verdict tree)
        judged =
            let m : min (length ls) most_nodes ≡ length (leaves_of version tree) = omega (arith, n_leaves, most_leaves) in
            rw (m, ls_is) (further_bad at (length (leaves_of version tree)) [] (leaves_of version tree))

        -- the entry has the place and the length of the name, n, and the first node
        name_is : name ≡ Ok (at + size (Value version) start.tree.0.0)
        unfolding chain size spell
        name_is =
            let h = start.tree in
            let e₁ = simp append_assoc at start.there.spelt in
            v.is ∙ step_spelt (Value version) h.0.0 start.there.valid.0.0 s at _ e₁

        entry_is : dim_record (word32 at) (name_length_of at name) (word32 (length ls)) (word32 x.used) ≡ dim_entry version x.used at tree
        unfolding dim_entry
        entry_is =
            let z = size (Value version) start.tree.0.0 in
            let long : at + z ≤ length s = omega (arith, inside.0, start.there.place, size_name start.tree) in
            let a : at + z - at ≡ z = omega arith in
            let named : name_length_of at name ≡ z = ap (name_length_of at) name_is ∙ ap word32 a ∙ word_same z (omega arith) in
            rw (named, word_same at (omega arith), word_same (length ls) (omega (arith, most_leaves)), word_same x.used (omega arith), n_leaves, (leaf_count version) tree)

        pub close_dim : {w : Walk} {es : List ℕ} → Closed x.number at (name_length_of at name) x.used q u ms x.entries w es
            → Keeps s One reading (dims_out (x.number + 1) w ms es)
        unfolding bind judge ls dim_nodes dim_words
        close_dim h =
            let c' : check (categories_rule version category_depth x.used start.tree.1.0) (drop f s) f ≡ got ts (drop q s) q = rw n_is c in
            rw (check_parts x.used (drop at s) at, start.is, c') (go (verdict tree) judged h)
          where
            go : (v : Option ℕ) → verdict_of ls ≡ later at v → {w : Walk} {es : List ℕ} → Closed x.number at (name_length_of at name) x.used q u ms x.entries w es
                → Keeps s One (judge 8 at v tree (drop q s) q) (dims_out (x.number + 1) w ms es)
            go none e (closed g es) =
                let f_is' : f ≡ at + size ((Value version) ▸ DimProperties) start.tree.0 + 4 = omega (arith, f_is) in
                let end : q ≡ at + size (Dimension version) tree = omega (arith, (size_dimension version) tree, size_start start.tree, all.place, start.there.place) in
                keeps_on {t = tree} {p = q} refl record {
                  place = end;
                  number = refl;
                  count = all.count;
                  few = few_nodes;
                  bytes = many_bytes;
                  words = rw f_is' at all.words;
                  entries = es ∙ ap (sets x.entries (dimension_words * x.number)) entry_is;
                }
            go none e (bad_leaf f) = absurd (let z : ◌≡◌ {A = ℕ} 0 1 = cc in omega arith)
            go (some m) e (closed f es) = absurd (let z : ◌≡◌ {A = ℕ} 0 1 = cc in omega arith)
            go (some m) e (bad_leaf {q = a} g) = let z : a ≡ at + m = cc in rw z keeps_off

  -- ---- dimensions that follow each other

  pub record Dims (at : ℕ) (x : Kept) (ts : List (Tree (Dimension version))) (p : ℕ) (y : Kept) : Type 0 where
    pub place : p ≡ at + sum (size (Dimension version)) ts
    pub number : y.number ≡ x.number + length ts
    pub count : y.used ≡ x.used + sum (dim_nodes version) ts
    pub few : x.used ≤ most_nodes → y.used ≤ most_nodes
    pub bytes : at + least_category * y.used ≤ p + least_category * x.used
    pub words : y.words ≡ sets x.words (node_words * x.used) (dims_words version x.number x.used at ts)
    pub entries : y.entries ≡ sets x.entries (dimension_words * x.number) (dims_entries version x.used at ts)

  pub all_dims : {at : ℕ} {x : Kept} {ts : List (Tree (Dimension version))} {p : ℕ} {y : Kept} → Each Dim at x ts p y → Dims at x ts p y
  unfolding sum dims_words dims_entries dim_entry
  all_dims each_none = record { place = omega arith; number = omega arith; count = omega arith; few = λ h. h; bytes = omega arith; words = refl; entries = refl }
  all_dims {at} {x} {y = y} (each_more {t = t} {p = m} {y = z} {ts = ts} {q = e} q r) =
      let n : Dims m z ts e y = all_dims r in
      let i : node_words * x.used + length (dim_words version x.number x.used at t) ≡ node_words * z.used = omega (arith, width_dim version x.number x.used at t, q.count) in
      let j : dimension_words * x.number + length (dim_entry version x.used at t) ≡ dimension_words * z.number = omega (arith, q.number) in
      record {
        place = omega (arith, n.place, q.place);
        number = omega (arith, n.number, q.number);
        count = omega (arith, n.count, q.count);
        few = λ h. n.few q.few;
        bytes = omega (arith, n.bytes, q.bytes);
        words = n.words ∙ rw (sets_append, i, ← q.words, ← q.count, ← q.place, ← q.number);
        entries = n.entries ∙ rw (sets_append (dim_entry version x.used at t), j, ← q.entries, ← q.count, ← q.place);
      }

  -- the next dimension, after those before it
  abbrev pub next_dim : List (Tree (Dimension version)) → Rule (Dimension version)
  next_dim before = dimension_rule version (sum (dim_nodes version) before)

  -- what the loop over n dimensions keeps, after i of them
  pub record Passing (s : List ℕ) (n at : ℕ) (ns ds : List ℕ) (i at' used : ℕ) (ns' ds' : List ℕ) : Type 0 where
    pub done : List (Tree (Dimension version))
    pub count : used ≡ sum (dim_nodes version) done
    pub few : used ≤ most_nodes
    pub bytes : at + least_category * used ≤ at'
    pub most : i ≤ n
    pub going : Going s next_dim Dim n at (kept 0 0 ns ds) i at' (kept i used ns' ds') done

  module _ (s : List ℕ) (n at : ℕ) (ns ds : List ℕ) where
    pub passing : Passing s n at ns ds 0 at 0 ns ds
    unfolding sum
    passing = record { done = []; count = refl; few = omega arith; bytes = omega arith; most = omega arith; going = going s next_dim Dim n at (kept 0 0 ns ds) }

    module _ {i at' used : ℕ} {ns' ds' : List ℕ} (w : Passing s n at ns ds i at' used ns' ds') where
      abbrev NextDim : Out Kept → Type 0
      NextDim = Keeps s (Dim at' (kept i used ns' ds')) (check (dimension_rule version used) (drop at' s) at')

      pub passes_on : i < n → {p u : ℕ} {ms es : List ℕ} → NextDim (on p (kept (i + 1) u ms es)) → Passing s n at ns ds (i + 1) p u ms es
      unfolding sum
      passes_on h k =
          let r = kept_on k in
          record {
            done = r.tree ∷ w.done;
            count = omega (arith, r.keeps.count, w.count);
            few = r.keeps.few;
            bytes = omega (arith, r.keeps.bytes, w.bytes);
            most = omega arith;
            going = goes_on s next_dim Dim w.going h (rw (← w.count) r.is) r.keeps;
          }

      pub passes_off : i < n → {m p : ℕ} → NextDim (off m p) → Keeps s (Each Dim at (kept 0 0 ns ds)) (check (items {n = n} next_dim) (drop at s) at) (off m p)
      passes_off h k = goes_no s next_dim Dim w.going h (rw (← w.count) (kept_off k))

      pub passes_to : n ≤ i → Keeps s (Each Dim at (kept 0 0 ns ds)) (check (items {n = n} next_dim) (drop at s) at) (on at' (kept n used ns' ds'))
      passes_to h =
          let e : i ≡ n = omega (arith, w.most) in
          subst (λ (j : ℕ). Keeps s (Each Dim at (kept 0 0 ns ds)) (check (items {n = n} next_dim) (drop at s) at) (on at' (kept j used ns' ds'))) e (goes_to s next_dim Dim w.going h)

  -- the dimensions whose number stands at the place `at`
  pub record AllDims (at : ℕ) (ns ds : List ℕ) (t : Tree (Dimensions version)) (p : ℕ) (y : Kept) : Type 0 where
    pub number : y.number ≡ length (dims_of version t)
    pub count : y.used ≡ sum (dim_nodes version) (dims_of version t)
    pub few : y.used ≤ most_nodes
    pub bytes : at + least_category * y.used ≤ p
    pub words : y.words ≡ sets ns 0 (dims_words version 0 0 (at + 4) (dims_of version t))
    pub entries : y.entries ≡ sets ds 0 (dims_entries version 0 (at + 4) (dims_of version t))

  pub the_dims : {at p n : ℕ} {ns ds : List ℕ} {ts : List (Tree (Dimension version))} {q u : ℕ} {ms es : List ℕ} → p ≡ at + 4
      → Each Dim p (kept 0 0 ns ds) ts q (kept n u ms es) → AllDims at ns ds (n, ts) q (kept n u ms es)
  the_dims {at} {p} {n} {ns} {ds} {ts} {q} {u} {ms} {es} p-is k =
      let d : Dims p (kept 0 0 ns ds) ts q (kept n u ms es) = all_dims k in
      record {
        number = omega (arith, d.number);
        count = omega (arith, d.count);
        few = d.few (omega arith);
        bytes = omega (arith, d.bytes);
        words = rw p-is at d.words;
        entries = rw p-is at d.entries;
      }
