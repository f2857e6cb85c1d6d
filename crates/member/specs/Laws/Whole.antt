-- The member, section by section, against its rule.
use Rattle.std.proofs.Math.Path.{◌≡◌, refl, ap}
use Rattle.std.proofs.Common.{sym, ◌∙◌, zero-add, drop-drop, get_or-drop}
use Rattle.std.specs.Prelude.{Bool, get_or, replicate, eqb, Result, Ok, Err}
use Rattle.std.proofs.Math.Bool.{true, false}
use mathlib.Core.List.{List, [], ◌∷◌, ◌++◌, map}
use Prim.Native.Nat.{ℕ, zero, suc, ◌+◌, ◌-◌, ◌*◌, ◌^◌, ◌≤◌, min}
use Rattle.std.proofs.Math.Nat.{sub-zero, zero-sub, suc-sub-suc}
use native.Mathlib.Omega.{arith}
use Rattle.std.proofs.Math.ListN.{length, take, drop, length-append, length-map}
use Rattle.std.proofs.lemmas.List.{length-replicate}
use Rattle.std.proofs.Math.Seq.{sets, take_at}
use Rattle.std.proofs.lemmas.List.Edits.{sets-eq}
use Rattle.std.proofs.Math.Dec.{leb}
use borrow.Author.Tests.{leb-true, leb-false, le-leb, lt-leb, eq-eqb}
use Rattle.sizes.specs.Sizes.{member_bytes, most_dimensions, most_cells, most_places, node_words, cell_words, dimension_words, node_area, cell_area, dimension_area, dimension_n}
use Rattle.sizes.specs.Basics.{pick}
use Rattle.grammar.specs.Layout.{Tree, spell, passes, Bytes, Valid, size}
use Rattle.grammar.specs.Laws.Layout.Read.{Got, got, no, bind}
use Rattle.grammar.specs.Laws.Layout.Check.{check}
use Rattle.layout.specs.Keeps.{Out, on, off, Keeps}
use Rattle.layout.specs.Steps.Keeping.{Reached, kept_on, kept_off}
use Rattle.layout.specs.Steps.Spelt.{Found, found_by, Read, stays_inside}
use Rattle.layout.specs.Words.{word32}
use Rattle.layout.specs.Laws.Words.{word_same}
use Rattle.grammar.specs.Sections.{Front}
use Rattle.grammar.specs.RecordWords.{word, sizes}
use Rattle.grammar.specs.Index.{product}
use Rattle.grammar.specs.Table.{Dimension, Dimensions, Axes, Cell, Cells}
use Rattle.grammar.specs.Records.{dim_nodes, dim_leaves, dim_entry, dims_words, dims_entries, entry_index, cell_words_of, rows_words, axis_entries, dims_of, axis_layers, axis_rows, axis_columns, cells_of}
use Rattle.grammar.specs.Rules.{dimensions_rule, places_of, counts_rule, axes_rule, cells_rule}
use Rattle.grammar.specs.Laws.Table.Lengths.{size_all}
use Rattle.grammar.specs.Laws.Table.LeastBytes.{cells_bytes, least_cell}
use Rattle.table.specs.Laws.Within.{needed, within, is_within, Scratch}
use Rattle.table.specs.Laws.Dims.{Kept, kept, AllDims, node_record_sizes, node_room}
use Rattle.grammar.specs.Laws.Table.Words.{width_rows, width_dims, width_entries}
use Rattle.axes.specs.declared.AxesRead.{AxesRead}
use Rattle.axes.specs.Laws.Axes.{Order, AllAxes, axes_out}
use Rattle.cells.specs.Laws.Cells.{AllCells, cell_record_sizes, cell_room}
use Rattle.answer.specs.declared.Answer.{Answer}
use Rattle.grammar.specs.Member.{Member, version as memberVersion, body_at, dimensions, dimensions_at, order, cells, nodes, cells_start, node_records, dimension_entries, cell_records, front_section, dimensions_section, axes_section}
use Rattle.grammar.specs.Refused.{member_rule}
use Rattle.grammar.specs.Laws.Member.Checked.{ended, checked}
use Rattle.answer.specs.Demand3.{zeros}
use Rattle.answer.specs.Answer.{refusal, accepted, answer_of, nodes_after, cells_after, Delivered}
use Rattle.member.specs.Laws.IntoLists.{LongEnough, into_lists, Stored, all_stored, not_stored}
use Rattle.grammar.specs.Laws.Member.Demanded.{ended_got}
use Rattle.opening.specs.Laws.Header.{Bound}
use Rattle.opening.specs.Laws.Opening.{Opened, after_dims, in_sections}

-- ---- the n of the dimensions, from their entries

-- the n of k dimensions, from their words
sizes_of : ℕ → List ℕ → List ℕ
sizes_of zero W = []
sizes_of (suc k) W = get_or W dimension_n 0 ∷ sizes_of k (drop dimension_words W)

sizes_drop : (ws : List ℕ) (k i : ℕ) → sizes ws i k ≡ sizes_of k (drop (dimension_words * i) ws)
unfolding sizes sizes_of word
sizes_drop ws zero i = refl
sizes_drop ws (suc k) i =
    let next : dimension_words * i + dimension_words ≡ dimension_words * (i + 1) = omega arith in
    let e : drop dimension_words (drop (dimension_words * i) ws) ≡ drop (dimension_words * (i + 1)) ws = drop-drop dimension_words (dimension_words * i) ws ∙ ap (λ (m : ℕ). drop m ws) next in
    rw (e, get_or-drop (dimension_words * i) ws dimension_n 0) (ap (λ (l : List ℕ). get_or ws (dimension_words * i + dimension_n) 0 ∷ l) (sizes_drop ws k (i + 1)))

-- ---- the whole

-- lists that are long enough for all bytes are so for those from a place on
pub enough_later : (s : List ℕ) (at : ℕ) {n m : ℕ} → LongEnough s 0 n m → LongEnough s at n m
enough_later s at h = (omega (arith, h.0), omega (arith, h.1))

-- lists for k bytes, where no more are left
pub enough_for : (s : List ℕ) (at k : ℕ) {n : ℕ} → n ≡ length s - at → leb n k ≡ true → LongEnough s at (needed node_record_sizes k) (needed cell_record_sizes k)
enough_for s at k {n} e h = let l = leb-true n k h in (omega (arith, e, l), omega (arith, e, l))

-- lists for all records that a member may have
pub enough_always : (s : List ℕ) (at : ℕ) → LongEnough s at node_area cell_area
enough_always s at = (omega arith, omega arith)

-- where the axes end
pub axes_later : (s : List ℕ) → Bytes s → (at d : ℕ) {next : ℕ} {x : Order} → Keeps s AllAxes (check (counts_rule d) (drop at s) at) (on next x) → at ≤ next
axes_later s b at d {next} k = let r = kept_on k in omega (arith, (found_by (counts_rule d) s b at r.tree (drop next s) next r.is).place)

-- words in front of a list, and of zeros
drop_zeros : (k n : ℕ) → drop k (replicate {A = ℕ} n 0) ≡ replicate (n - k) 0
drop_zeros zero n = rw sub-zero
drop_zeros (suc k) zero = rw zero-sub
drop_zeros (suc k) (suc n) = rw suc-sub-suc (drop_zeros k n)

over : (ws W : List ℕ) (k : ℕ) → length W ≡ k → k ≤ length ws → sets ws 0 W ≡ W ++ drop k ws
over ws W k e h = let fit : 0 + length W ≤ length ws = omega (arith, e, h) in rw (sets-eq W ws 0 fit, zero-add, e)

in_front : (n : ℕ) (W : List ℕ) → length W ≤ n → sets (replicate n 0) 0 W ≡ W ++ replicate (n - length W) 0
in_front n W h = over (replicate n 0) W (length W) refl (rw length-replicate (omega arith)) ∙ rw (drop_zeros (length W) n)

-- what the code hands on
abbrev pub answered : ℕ → ℕ → AxesRead → ℕ → List ℕ → Answer
answered d used x n es =
    record { refusal = 0; place = 0; dims = word32 d; nodes = word32 used; cells = word32 n; dimensions = es; layers = x.layers; rows = x.rows; columns = x.columns; order = x.order }

same_answer : {d d' n n' c c' l l' r r' k k' : ℕ} {es es' os os' : List ℕ} → d ≡ d' → n ≡ n' → c ≡ c' → es ≡ es' → l ≡ l' → r ≡ r' → k ≡ k' → os ≡ os'
    → ◌≡◌ {A = Answer} record { refusal = 0; place = 0; dims = d; nodes = n; cells = c; dimensions = es; layers = l; rows = r; columns = k; order = os }
    record { refusal = 0; place = 0; dims = d'; nodes = n'; cells = c'; dimensions = es'; layers = l'; rows = r'; columns = k'; order = os' }
same_answer e₁ e₂ e₃ e₄ e₅ e₆ e₇ e₈ = rw (e₁, e₂, e₃, e₄, e₅, e₆, e₇, e₈)

-- ---- what is delivered

-- the words ns and cs over the first words of two areas, where these are large enough, and 0; or the refusal
pub record Filled (ns cs nodes cells : List ℕ) (n : ℕ) (nodes' cells' : List ℕ) : Type 0 where
  pub refusal : n ≡ pick (leb (length ns) (length nodes)) (pick (leb (length cs) (length cells)) 0 13) 12
  pub node_area : nodes' ≡ pick (leb (length ns) (length nodes)) (pick (leb (length cs) (length cells)) (ns ++ drop (length ns) nodes) nodes) nodes
  pub cell_area : cells' ≡ pick (leb (length ns) (length nodes)) (pick (leb (length cs) (length cells)) (cs ++ drop (length cs) cells) cells) cells

pub not_delivered : (s : List ℕ) {n p : ℕ} → checked s ≡ no n p → {N C : List ℕ} → Delivered (checked s) N C (refusal n p 0 0) N C
unfolding answer_of nodes_after cells_after
not_delivered s e = rw e (record { answer = refl; node_area = refl; cell_area = refl })

-- where the cells start
cells_start_lem : (t : Tree Member) → let v = memberVersion t in cells_start t ≡ body_at + size (Front v) (front_section t) + size (Dimensions v) (dimensions_section t) + size Axes (axes_section t) + 4
unfolding size spell
cells_start_lem t = simp length-append (omega arith)

-- how many words the records have
node_width : (t : Tree Member) → length (node_records t) ≡ node_words * nodes t
node_width t = width_dims (memberVersion t) 0 0 (dimensions_at t) (dimensions t)

cell_width : (t : Tree Member) → length (cell_records t) ≡ cell_words * length (cells t)
cell_width t = width_rows cell_words (size (Cell (memberVersion t))) (cell_words_of (memberVersion t)) (λ _ _. refl) (cells_start t) (cells t)

-- the answer with a refusal n of the areas, or with 0
abbrev with_refusal : ℕ → Answer → Answer
with_refusal n a = pick (eqb n 0) a (refusal n 0 a.nodes a.cells)

by_areas : (is_IsWide is-long : Bool) (a : Answer) → with_refusal (pick is_IsWide (pick is-long 0 13) 12) a ≡ pick is_IsWide (pick is-long a (refusal 13 0 a.nodes a.cells)) (refusal 12 0 a.nodes a.cells)
unfolding pick
by_areas true true a = refl
by_areas true false a = refl
by_areas false is-long a = refl

module _ {N C N' C' : List ℕ} {n : ℕ} where
  of_refusal : (m p : ℕ) → Filled [] [] N C n N' C' → Delivered (no m p) N C (with_refusal n (refusal m p 0 0)) N' C'
  unfolding answer_of nodes_after cells_after pick
  of_refusal m p x =
      let wide = le-leb 0 (length N) (omega arith) in
      let long = le-leb 0 (length C) (omega arith) in
      record { answer = ap (λ (k : ℕ). with_refusal k (refusal m p 0 0)) x.refusal ∙ rw (wide, long); node_area = x.node_area ∙ rw (wide, long); cell_area = x.cell_area ∙ rw (wide, long) }

module _ {ms vs N C N' C' : List ℕ} {n : ℕ} where
  of_tree : (t : Tree Member) (r : List ℕ) (p : ℕ) (others-n others-c : List ℕ) → ms ≡ node_records t ++ others-n → vs ≡ cell_records t ++ others-c
      → Filled (take (node_words * nodes t) ms) (take (cell_words * length (cells t)) vs) N C n N' C' → Delivered (got t r p) N C (with_refusal n (accepted t)) N' C'
  unfolding accepted answer_of nodes_after cells_after
  of_tree t r p others-n others-c e f filled =
      let node_front : take (node_words * nodes t) ms ≡ node_records t = ap (take (node_words * nodes t)) e ∙ take_at (node_records t) others-n (node_words * nodes t) (node_width t) in
      let cell_front : take (cell_words * length (cells t)) vs ≡ cell_records t = ap (take (cell_words * length (cells t))) f ∙ take_at (cell_records t) others-c (cell_words * length (cells t)) (cell_width t) in
      let x = rw (node_front, cell_front) at filled in
      let refused : n ≡ pick (leb (node_words * nodes t) (length N)) (pick (leb (cell_words * length (cells t)) (length C)) 0 13) 12 = x.refusal ∙ rw (node_width t, cell_width t) in
      record {
        answer = ap (λ (k : ℕ). with_refusal k (accepted t)) refused ∙ by_areas (leb (node_words * nodes t) (length N)) (leb (cell_words * length (cells t)) (length C)) (accepted t);
        node_area = x.node_area ∙ rw (node_width t, cell_width t);
        cell_area = x.cell_area ∙ rw (node_width t, cell_width t);
      }

  delivered : {ns cs : List ℕ} {y : Got (Tree Member)} {a : Answer} → Stored ns cs y a ms vs → Filled (take (node_words * a.nodes) ms) (take (cell_words * a.cells) vs) N C n N' C' → Delivered y N C (with_refusal n a) N' C'
  unfolding accepted refusal
  delivered {ns} {cs} (all_stored {t = t} {r = r} {p = p} e f g) x = rw e (of_tree t r p (drop (node_words * nodes t) ns) (drop (cell_words * length (cells t)) cs) f g (rw e at x))
  delivered (not_stored {n = m} {p = p} e f g) x = rw e (of_refusal m p (rw e at x))

  -- what was read into lists, with the refusal of the areas or without
  module _ {ns cs : List ℕ} {y : Got (Tree Member)} {a : Answer} (h : Stored ns cs y a ms vs) (x : Filled (take (node_words * a.nodes) ms) (take (cell_words * a.cells) vs) N C n N' C') where
    pub all_delivered : n ≡ 0 → Delivered y N C a N' C'
    unfolding pick
    all_delivered e = rw (eq-eqb n 0 e) at (delivered h x)

    pub none_delivered : eqb n 0 ≡ false → Delivered y N C (refusal n 0 a.nodes a.cells) N' C'
    unfolding pick
    none_delivered e = rw e at (delivered h x)

-- the lists have room for what is delivered
pub stored_room : {ns cs : List ℕ} {y : Got (Tree Member)} {a : Answer} {ms vs : List ℕ} → Stored ns cs y a ms vs → (node_words * a.nodes ≤ length ms) × (cell_words * a.cells ≤ length vs)
unfolding accepted refusal
stored_room {ns} {cs} (all_stored {t = t} e f g) =
    let k = length-append (node_records t) (drop (node_words * nodes t) ns) in
    let m = length-append (cell_records t) (drop (cell_words * length (cells t)) cs) in
    rw (e, f, g) (omega (arith, k, node_width t), omega (arith, m, cell_width t))
stored_room (not_stored e f g) = rw e (omega arith, omega arith)

pub none_stored : (y : Got (Tree Member)) {n p : ℕ} → y ≡ no n p → {ns cs ms vs : List ℕ} → Scratch ns ms → Scratch cs vs → Stored ns cs y (refusal n p 0 0) ms vs
none_stored y e f g = rw e (not_stored refl f g)

-- lists that are long enough are not refused
pub as_checked : (s : List ℕ) {k m : ℕ} → LongEnough s 0 k m → into_lists s k m ≡ checked s
unfolding within checked pick
as_checked s {k} {m} h = go (leb (length s) member_bytes)
  where
    go : (b : Bool) → pick b (pick (leb (needed node_record_sizes (length s - 0)) k) (pick b (pick (leb (needed cell_record_sizes (length s - 0)) m) (pick b (ended (check member_rule s 0)) (no 1 0)) (no 13 0)) (no 1 0)) (no 12 0)) (no 1 0)
        ≡ pick b (ended (check member_rule s 0)) (no 1 0)
    go true = rw (le-leb (needed node_record_sizes (length s - 0)) k h.0, le-leb (needed cell_record_sizes (length s - 0)) m h.1)
    go false = refl

-- what the code gives of them: the axes and how many cells there are, or the refusal
abbrev pub Tail : Type 0
Tail = Result (AxesRead × ℕ) (ℕ × ℕ)

module _ (version : ℕ) where
  -- what is kept of them, from the place `at` on
  pub record Kept_tail (s : List ℕ) (at : ℕ) (ws : List ℕ) (a : Tree Axes) (c : Tree (Cells version)) (x : AxesRead) (n : ℕ) (vs : List ℕ) : Type 0 where
    pub on_layers : x.layers ≡ axis_layers a
    pub on_rows : x.rows ≡ axis_rows a
    pub on_columns : x.columns ≡ axis_columns a
    pub order : x.order ≡ sets (replicate most_dimensions 0) 0 (map entry_index (axis_entries a))
    pub few_entries : length (axis_entries a) ≤ most_dimensions
    pub count : n ≡ length (cells_of version c)
    pub stored : vs ≡ sets ws 0 (rows_words (size (Cell version)) (cell_words_of version) (at + size Axes a + 4) (cells_of version c))
    pub few : length (cells_of version c) ≤ most_cells
    pub bytes : at + least_cell * length (cells_of version c) ≤ length s

  pub data TailIs (s : List ℕ) (at : ℕ) (ws : List ℕ) : Got (Tree Axes × Tree (Cells version)) → Tail → List ℕ → Type 0 where
    tail_on : {a : Tree Axes} {c : Tree (Cells version)} {r : List ℕ} {p : ℕ} {x : AxesRead} {n : ℕ} {vs : List ℕ} → Kept_tail s at ws a c x n vs → TailIs s at ws (got (a, c) r p) (Ok (x, n)) vs
    tail_off : {n p : ℕ} {vs : List ℕ} → TailIs s at ws (no n p) (Err (n, p)) vs

  few_cells : (c : Tree (Cells version)) → Valid (Cells version) c → length (cells_of version c) ≤ most_cells
  unfolding passes
  few_cells c v = omega (arith, v.2.0, leb-true c.0 most_cells v.1)

  many_bytes : {s : List ℕ} {at : ℕ} (c : Tree (Cells version)) → Valid (Cells version) c → {r : List ℕ} {p : ℕ} → Found (Cells version) s at c r p → at ≤ length s → at + least_cell * length (cells_of version c) ≤ length s
  unfolding size spell
  many_bytes c v f h =
      let l = simp length-append at f.place in
      omega (arith, (cells_bytes version) v.2.1, size_all (Cell version) c.1, stays_inside f h, l)

  -- the code has the n of the d dimensions in the words ds
  abbrev pub TailRead : List ℕ → ℕ → ℕ → List ℕ → List ℕ → Tail → List ℕ → Type 0
  TailRead s at d ds ws t vs =
      (ts : List (Tree (Dimension version))) → length ts ≤ most_dimensions → d ≡ length ts → sizes ds 0 d ≡ map (λ t. length (dim_leaves version t)) ts → at ≤ length s
      → TailIs s at ws (after_dims version ts (drop at s) at) t vs

  module _ (s : List ℕ) (b : Bytes s) (at d : ℕ) (ds : List ℕ) {places : ℕ} (p-is : places ≡ min (product (sizes ds 0 (min d most_dimensions))) (2 ^ 32))
      (ts : List (Tree (Dimension version))) (few : length ts ≤ most_dimensions) (d-is : d ≡ length ts) (ns : sizes ds 0 d ≡ map (λ t. length (dim_leaves version t)) ts) (inside : at ≤ length s) where
    d_few : min d most_dimensions ≡ d
    d_few = omega arith

    capped : places ≡ min (places_of version ts) (2 ^ 32)
    capped = p-is ∙ rw (d_few, ns)

    pub too_many_places : leb places most_places ≡ false → {ws vs : List ℕ} → TailIs s at ws (after_dims version ts (drop at s) at) (Err (7, at)) vs
    unfolding after_dims axes_rule check bind pick
    too_many_places e =
        let l : leb (places_of version ts) most_places ≡ false = lt-leb (places_of version ts) most_places (omega (arith, leb-false places most_places e, capped)) in
        rw (l, sub-zero) tail_off

    module _ (e : leb places most_places ≡ true) where
      places_is : places ≡ places_of version ts
      places_is = omega (arith, leb-true places most_places e, capped)

      by_counts : check (axes_rule version ts) (drop at s) at ≡ check (counts_rule (min d most_dimensions)) (drop at s) at
      unfolding axes_rule check pick
      by_counts =
          let l : leb (places_of version ts) most_places ≡ true = le-leb (places_of version ts) most_places (omega (arith, leb-true places most_places e, places_is)) in
          let n : length ts ≡ min d most_dimensions = omega arith in
          rw (l, n)

      pub no_axes : {n p : ℕ} → Keeps s AllAxes (check (counts_rule (min d most_dimensions)) (drop at s) at) (off n p) → {ws vs : List ℕ} → TailIs s at ws (after_dims version ts (drop at s) at) (Err (n, p)) vs
      unfolding after_dims bind
      no_axes k = rw (by_counts, kept_off k) tail_off

      module _ {x : AxesRead} (ax : Keeps s AllAxes (check (counts_rule (min d most_dimensions)) (drop at s) at) (axes_out (Ok x))) where
        abbrev next : ℕ
        next = x.end

        axes_read : Reached s AllAxes (check (counts_rule (min d most_dimensions)) (drop at s) at) next record { layers = x.layers; rows = x.rows; columns = x.columns; order = x.order }
        axes_read = kept_on ax

        axes_found : Found Axes s at axes_read.tree (drop next s) next
        axes_found = found_by (counts_rule (min d most_dimensions)) s b at axes_read.tree (drop next s) next axes_read.is

        pub no_cells : {ws : List ℕ} {n p : ℕ} → Keeps s (AllCells version next ws) (ended (check (cells_rule version places) (drop next s) next)) (off n p) → {vs : List ℕ}
            → TailIs s at ws (after_dims version ts (drop at s) at) (Err (n, p)) vs
        unfolding after_dims bind
        no_cells k =
            let k' = rw places_is at (kept_off k) in
            rw (by_counts, axes_read.is, k') tail_off

        pub with_cells : {ws : List ℕ} {q m : ℕ} {vs : List ℕ} → Keeps s (AllCells version next ws) (ended (check (cells_rule version places) (drop next s) next)) (on q (m, vs))
            → TailIs s at ws (after_dims version ts (drop at s) at) (Ok (x, m)) vs
        unfolding after_dims bind
        with_cells {ws} {q} {m} {vs} k₀ =
            let k = kept_on k₀ in
            let c = k.tree in
            let is = (ended_got (check (cells_rule version places) (drop next s) next) c (drop q s) q k.is).0 in
            let f = found_by (cells_rule version places) s b next c (drop q s) q is in
            let v = f.valid in
            let n_is : length (cells_of version c) ≡ c.0 = v.2.0 in
            let kept_all : Kept_tail s at ws axes_read.tree c x m vs = record {
              on_layers = axes_read.keeps.layers;
              on_rows = axes_read.keeps.rows;
              on_columns = axes_read.keeps.columns;
              order = axes_read.keeps.order;
              few_entries = axes_read.keeps.few;
              count = k.keeps.count;
              stored = k.keeps.stored ∙ ap (λ (a : ℕ). sets ws 0 (rows_words (size (Cell version)) (cell_words_of version) (a + 4) (cells_of version c))) axes_found.place;
              few = few_cells c v;
              bytes = omega (arith, axes_found.place, many_bytes c v f (stays_inside axes_found inside));
            } in
            let is' : ended (check (cells_rule version (places_of version ts)) (drop next s) next) ≡ got c (drop q s) q = ap (λ (n : ℕ). ended (check (cells_rule version n) (drop next s) next)) (sym places_is) ∙ k.is in
            rw (by_counts, axes_read.is, is') (tail_on kept_all)

  sizes_entries : (used at : ℕ) (ts : List (Tree (Dimension version))) (R : List ℕ)
      → sizes_of (length ts) (dims_entries version used at ts ++ R) ≡ map (λ d. length (dim_leaves version d)) ts
  unfolding sizes_of dims_entries dim_entry
  sizes_entries used at [] R = refl
  sizes_entries used at (t ∷ ts) R =
      ap (λ (l : List ℕ). length (dim_leaves version t) ∷ l) (sizes_entries (used + (dim_nodes version) t) (at + size (Dimension version) t) ts R)

  sizes_there : (at : ℕ) (ts : List (Tree (Dimension version))) → length ts ≤ most_dimensions
      → sizes (sets (replicate dimension_area 0) 0 (dims_entries version 0 at ts)) 0 (length ts) ≡ map (λ d. length (dim_leaves version d)) ts
  sizes_there at ts h =
      let W = dims_entries version 0 at ts in
      let fit : 0 + length W ≤ length (replicate {A = ℕ} dimension_area 0) = rw length-replicate (omega (arith, (width_entries version) 0 at ts)) in
      sizes_drop (sets (replicate dimension_area 0) 0 W) (length ts) 0
      ∙ rw (sets-eq W (replicate dimension_area 0) 0 fit) (sizes_entries 0 at ts (drop (0 + length W) (replicate dimension_area 0)))

  -- the dimensions and what follows them
  module _ (s : List ℕ) (b : Bytes s) (ns cs : List ℕ) {at : ℕ} (o : Opened s version at) (room : LongEnough s at (length ns) (length cs)) where
    abbrev hd : Bound s version o.from
    hd = o.header

    abbrev start : Read (Front version) s o.from at
    start = o.front

    abbrev Dimensioned : Out Kept → Type 0
    Dimensioned = Keeps s (AllDims version at ns (replicate dimension_area 0)) (within node_record_sizes s at (length ns) (check (dimensions_rule version) (drop at s) at))

    pub no_dims : {n p : ℕ} → Dimensioned (off n p) → checked s ≡ no n p
    unfolding bind
    no_dims k =
        let k' = rw (is_within node_record_sizes s at (length ns) (check (dimensions_rule version) (drop at s) at) o.short room.0) at k in
        rw (in_sections version s o.short hd, start.is, kept_off k')

    module _ {next d used : ℕ} {ms es : List ℕ} (k : Dimensioned (on next (kept d used ms es))) where
      dims : Reached s (AllDims version at ns (replicate dimension_area 0)) (check (dimensions_rule version) (drop at s) at) next (kept d used ms es)
      dims = kept_on (rw (is_within node_record_sizes s at (length ns) (check (dimensions_rule version) (drop at s) at) o.short room.0) at k)

      ts : List (Tree (Dimension version))
      ts = dims_of version dims.tree

      there : Found (Dimensions version) s at dims.tree (drop next s) next
      there = found_by (dimensions_rule version) s b at dims.tree (drop next s) next dims.is

      few_dims : length ts ≤ most_dimensions
      unfolding passes ts
      few_dims = omega (arith, there.valid.2.0, leb-true dims.tree.0 most_dimensions there.valid.1)

      pub dims_later : at ≤ next
      dims_later = omega (arith, there.place)

      inside : next ≤ length s
      inside = stays_inside there (stays_inside start.there hd.inside)

      tail_of : {t : Tail} {vs : List ℕ} → TailRead s next d es cs t vs → TailIs s next cs (after_dims version ts (drop next s) next) t vs
      unfolding ts
      tail_of h =
          let n_is = dims.keeps.number in
          h ts few_dims n_is (ap (λ (l : List ℕ). sizes l 0 d) dims.keeps.entries ∙ ap (λ (n : ℕ). sizes (sets (replicate dimension_area 0) 0 (dims_entries version 0 (at + 4) ts)) 0 n) n_is ∙ sizes_there (at + 4) ts few_dims) inside

      pub no_tail : {n p : ℕ} {vs : List ℕ} → TailRead s next d es cs (Err (n, p)) vs → checked s ≡ no n p
      unfolding bind ts
      no_tail {n} {p} h = go (tail_of h) refl
        where
          go : {y : Got (Tree Axes × Tree (Cells version))} {vs : List ℕ} → TailIs s next cs y (Err (n, p)) vs → after_dims version ts (drop next s) next ≡ y → checked s ≡ no n p
          go tail_off f = rw (in_sections version s o.short hd, start.is, dims.is, f)

      pub with_tail : {x : AxesRead} {n : ℕ} {vs : List ℕ} → TailRead s next d es cs (Ok (x, n)) vs → Stored ns cs (checked s) (answered d used x n es) ms vs
      unfolding bind ts zeros accepted
      with_tail {x} {n} h = go (tail_of h) refl
        where
          go : {y : Got (Tree Axes × Tree (Cells version))} {vs : List ℕ} → TailIs s next cs y (Ok (x, n)) vs → after_dims version ts (drop next s) next ≡ y → Stored ns cs (checked s) (answered d used x n es) ms vs
          go (tail_on {a = a} {c = c} {r = rest} {p = p} {vs = vs} k) f =
              let tree : Tree Member = (hd.start, (version, (((start.tree, dims.tree), a), c))) in
              let at_is : at ≡ body_at + size (Front version) start.tree = omega (arith, start.there.place, hd.place) in
              let cells_at : next + size Axes a + 4 ≡ cells_start tree = omega (arith, cells_start_lem tree, at_is, there.place) in
              let d-is = dims.keeps.number in
              let used-is = dims.keeps.count in
              let few = few_dims in
              let used-few = dims.keeps.few in
              let all = width_entries version 0 (at + 4) ts in
              let bytes = dims.keeps.bytes in
              let more = inside in
              let entries_is : es ≡ dimension_entries tree ++ zeros (dimension_area - length (dimension_entries tree)) =
              dims.keeps.entries ∙ in_front dimension_area (dims_entries version 0 (at + 4) ts) (omega (arith, all))
              ∙ ap (λ (n : ℕ). (dims_entries version) 0 (n + 4) ts ++ zeros (dimension_area - length (dims_entries version 0 (n + 4) ts))) at_is in
              let order_is : x.order ≡ order tree ++ zeros (most_dimensions - length (order tree)) =
              k.order ∙ in_front most_dimensions (map entry_index (axis_entries a)) (omega (arith, length-map (axis_entries a) entry_index, k.few_entries)) in
              let node_fit : node_words * nodes tree ≤ length ns = (node_room s at (length ns) room.0).enough (nodes tree) (omega arith) (omega arith) in
              let cell_fit : cell_words * length (cells tree) ≤ length cs = (cell_room s at (length cs) room.1).enough (length (cells tree)) k.few (omega (arith, k.bytes, there.place)) in
              let is : checked s ≡ got tree rest p = rw (in_sections version s o.short hd, start.is, dims.is, f) in
              rw is
              (all_stored
              (same_answer (word_same d (omega arith) ∙ d-is) (word_same used (omega arith) ∙ used-is) (word_same n (omega (arith, k.count, k.few)) ∙ k.count) entries_is
              k.on_layers k.on_rows k.on_columns order_is)
              (dims.keeps.words ∙ over ns (dims_words version 0 0 (at + 4) ts) (node_words * nodes tree) (width_dims version 0 0 (at + 4) ts) node_fit
              ∙ ap (λ (n : ℕ). dims_words version 0 0 (n + 4) ts ++ drop (node_words * nodes tree) ns) at_is)
              (k.stored
              ∙ over cs (rows_words (size (Cell version)) (cell_words_of version) (next + size Axes a + 4) (cells_of version c)) (cell_words * length (cells tree)) (width_rows cell_words (size (Cell version)) (cell_words_of version) (λ _ _. refl) (next + size Axes a + 4) (cells_of version c)) cell_fit
              ∙ ap (λ (n : ℕ). rows_words (size (Cell version)) (cell_words_of version) n (cells_of version c) ++ drop (cell_words * length (cells tree)) cs) cells_at))
