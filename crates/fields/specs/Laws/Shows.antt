-- The laws by which a reader that says something of the tree is proved from what its callees ensure.
use Rattle.std.specs.Prelude.{◌≡◌, Bool, true, false, List, ℕ, ◌+◌, take, drop, leb}
use Rattle.std.proofs.Math.Path.{refl}
use Rattle.std.proofs.Common.{ap, sym, ◌∙◌, subst, arith}
use Rattle.std.proofs.Math.ListN.{length}
use Rattle.std.proofs.Math.Seq.{drop-drop}
use Rattle.layout.specs.Step.{Step}
use Rattle.std.specs.Prelude.{Ok, Err}
use Rattle.sizes.specs.Basics.{pick}
use Rattle.grammar.specs.Layout.{Order, Test, passes, Layout, empty, number, ◌▸◌, Tree, spell, Bytes, undigits}
use Rattle.layout.specs.Steps.Slices.{drop_bytes}
use Rattle.grammar.specs.Laws.Layout.Read.{Got, got, no, bind, read_number, read, too_short}
use Rattle.grammar.specs.Laws.Layout as laws
use Rattle.grammar.specs.Laws.Layout.IfGot.{IfGot, is_got, is_no, bind_got, pick_got, of_got}
use Rattle.layout.specs.Reads.{forget, step, chain, ReadsTo, peek}
use Rattle.layout.specs.Steps.Chain.{then}
use Rattle.layout.specs.Steps.Numbers.{switch_of}
use Rattle.fields.specs.Gives.{Found, ShowsTo}

-- a reading that ends at a position has a tree
pub record Read (g : Layout) (s : List ℕ) (at p : ℕ) : Type 0 where
  pub tree : Tree g
  pub is : read g (drop at s) at ≡ got tree (drop p s) p

pub tree_of : {g : Layout} {s : List ℕ} {st r : Step} {at p : ℕ} → ReadsTo g s st r → st ≡ Ok at → r ≡ Ok p → Read g s at p
unfolding step chain
tree_of {g} {s} {st} {r} {at} {p} h e e' =
    let i : r ≡ chain (Ok at) (step g s) = rw e at h.is in
    go (read g (drop at s) at) refl (sym i ∙ e')
  where
    go : (x : Got (Tree g)) → read g (drop at s) at ≡ x → forget x ≡ Ok p → Read g s at p
    go (got t r₁ q) a b =
        let q≡p : q ≡ p = cc in
        let l : r₁ ≡ drop q s = laws.left g s at t r₁ q a in
        record { tree = t; is = a ∙ rw (l, q≡p) }
    go (no n q) a b = absurd (let z : ◌≡◌ {A = ℕ} 0 1 = cc in omega arith)

-- ---- one after the other

-- what comes before something that was read was read
pub between : {g : Layout} {s : List ℕ} {q r : Step} {p : ℕ} → ReadsTo g s q r → r ≡ Ok p → (m : ℕ) × (q ≡ Ok m)
unfolding chain
between {g} {s} {q} {r} {p} h e = go q (sym h.is ∙ e)
  where
    go : (q : Step) → chain q (step g s) ≡ Ok p → (m : ℕ) × (q ≡ Ok m)
    go (Ok m) i = (m, refl)
    go (Err (n, x)) i = absurd (let z : ◌≡◌ {A = ℕ} 0 1 = cc in omega arith)

-- what f says of the first and h of the second
abbrev pub both : (a b : Layout) {A B : Type 0} → (Tree a → ℕ → A) → (Tree b → ℕ → B) → Tree (a ▸ b) → ℕ → A × B
both a b f h t at = (f t.0 at, h t.1 (at + length (spell a t.0)))

module _ {A B : Type 0} {a b : Layout} {f : Tree a → ℕ → A} {h : Tree b → ℕ → B} where
  found_then : {s : List ℕ} {at m p : ℕ} {x : A} {y : B} → Bytes s → Found a f s at m x → Found b h s m p y → Found (a ▸ b) (both a b f h) s at p (x, y)
  unfolding read bind
  found_then {s} {at} {m} {p} bs x y =
      let place : m ≡ at + length (spell a x.tree) = (laws.sound a (drop at s) (drop_bytes at bs) at x.tree (drop m s) m x.reads).2 in
      record {
        tree = (x.tree, y.tree);
        reads = rw (x.reads, y.reads);
        is = rw (← place, x.is, y.is);
      }

  infixl 20 ◌&◌
  pub ◌&◌ : {s : List ℕ} {st q r : Step} {x : A} {y : B} → ShowsTo a f s st q x → ShowsTo b h s q r y → ShowsTo (a ▸ b) (both a b f h) s st r (x, y)
  x & y = record {
    reads = then y.reads x.reads;
    found = λ bs at p e e'.
        let m = between y.reads e' in
        found_then bs (x.found bs at m.0 e m.1) (y.found bs m.0 p m.1 e');
  }

-- of something that is made from what is said
pub shows_of : {A B : Type 0} {g : Layout} {f : Tree g → ℕ → A} {h : Tree g → ℕ → B} {s : List ℕ} {st r : Step} {x : A} (k : A → B)
    → ((t : Tree g) (at : ℕ) → k (f t at) ≡ h t at) → ShowsTo g f s st r x → ShowsTo g h s st r (k x)
shows_of k e y = record {
  reads = y.reads;
  found = λ bs at p i j.
      let z = y.found bs at p i j in
      record { tree = z.tree; reads = z.reads; is = sym (e z.tree at) ∙ ap k z.is };
}

-- nothing is said of what was only read
abbrev pub unsaid : (g : Layout) → Tree g → ℕ → Unit {0}
unsaid g t at = tt

pub shows_nothing : {g : Layout} {s : List ℕ} {st r : Step} → ReadsTo g s st r → ShowsTo g (unsaid g) s st r tt
shows_nothing h = record {
  reads = h;
  found = λ bs at p i j. let x = tree_of h i j in record { tree = x.tree; reads = x.is; is = refl };
}

-- something is said of its place alone
pub shows_at : {A : Type 0} {g : Layout} {s : List ℕ} {st r : Step} {x : A} (f : ℕ → A) → ReadsTo g s st r → ((at : ℕ) → st ≡ Ok at → f at ≡ x) → ShowsTo g (λ t at. f at) s st r x
shows_at f h e = record {
  reads = h;
  found = λ bs at p i j. let x = tree_of h i j in record { tree = x.tree; reads = x.is; is = e at i };
}

-- nor of what is refused
pub never_next : {A : Type 0} {r : Step} {p n q : ℕ} → r ≡ Ok p → r ≡ Err (n, q) → A
never_next e f = absurd (let z : ◌≡◌ {A = ℕ} 0 1 = cc in omega arith)

pub refused_shows : {A : Type 0} {g : Layout} {f : Tree g → ℕ → A} {s : List ℕ} {st r : Step} {x : A} {n p : ℕ} → r ≡ Err (n, p) → ReadsTo g s st r → ShowsTo g f s st r x
refused_shows e h = record { reads = h; found = λ bs at q i j. never_next j e }

-- ---- numbers

-- what is known where a number was read, and what it asks for
pub record Numbered (o : Order) (w : ℕ) (test : Test) (s : List ℕ) (at n : ℕ) : Type 0 where
  pub passed : passes test n ≡ true
  pub number_is : read_number o w s at ≡ got n (drop w s) (at + w)

number_first : (o : Order) (w : ℕ) (s : List ℕ) (at : ℕ) → IfGot (λ n _ _. read_number o w s at ≡ got n (drop w s) (at + w)) (read_number o w s at)
unfolding read_number pick
number_first o w s at = go (leb w (length s))
  where
    v : ℕ
    v = undigits o (take w s)

    go : (c : Bool) → IfGot {A = ℕ} (λ n _ _. pick c (got v (drop w s) (at + w)) (no too_short at) ≡ got n (drop w s) (at + w)) (pick c (got v (drop w s) (at + w)) (no too_short at))
    go true = is_got refl
    go false = is_no

anything : {A : Type 0} (x : Got A) → IfGot (λ _ _ _. Unit {0}) x
anything (got t r p) = is_got tt
anything (no n p) = is_no

numbered : (o : Order) (w : ℕ) (test : Test) (k : ℕ → Layout) (s : List ℕ) (at : ℕ)
    → IfGot (λ t _ _. Numbered o w test s at t.0) (read (number o w test k) s at)
unfolding read
numbered o w test k s at =
    bind_got (number_first o w s at)
    (λ n r p e. pick_got (passes test n)
    (λ t. bind_got (anything (read (k n) r p)) (λ u _ _ _. is_got (record { passed = t; number_is = e })))
    (λ _. is_no))

-- the number of a reading
module _ (o : Order) (w : ℕ) (test : Test) (s : List ℕ) (at : ℕ) where
  pub numbered_of : (k : ℕ → Layout) (t : Tree (number o w test k)) (r : List ℕ) (p : ℕ)
      → read (number o w test k) s at ≡ got t r p → Numbered o w test s at t.0
  numbered_of k t r p e = of_got (subst (IfGot (λ t _ _. Numbered o w test s at t.0)) e (numbered o w test k s at))

  -- where it ends
  pub numbered_end : (n : ℕ) → Numbered o w test s at n → read (number o w test (λ _. empty)) s at ≡ got (n, tt) (drop w s) (at + w)
  unfolding read bind pick
  numbered_end n x = rw (x.number_is, x.passed)

pub peeked : {o : Order} {w : ℕ} {test : Test} (s : List ℕ) {st : Step} (at : ℕ) {n v : ℕ} → Numbered o w test (drop at s) at n → st ≡ Ok at → v ≡ peek o w s st → n ≡ v
unfolding peek
peeked s at x i e = sym (e ∙ rw (i, x.number_is))

-- a number is said, and nothing of what it asks for
pub number_shows : {o : Order} {w : ℕ} {test : Test} {k : ℕ → Layout} {s : List ℕ} {st r : Step} {v : ℕ} → ReadsTo (number o w test k) s st r → v ≡ peek o w s st
    → ShowsTo (number o w test k) (λ t at. t.0) s st r v
number_shows {o} {w} {test} {k} {s} h e = record {
  reads = h;
  found = λ bs at p i j.
      let x = tree_of h i j in
      let n = numbered_of o w test (drop at s) at k x.tree (drop p s) p x.is in
      record { tree = x.tree; reads = x.is; is = peeked s at n i e };
}

-- a number, which is n where it is read, and then what n asks for: F says something of that for each number
module _ {A : Type 0} {o : Order} {w : ℕ} {test : Test} (k : ℕ → Layout) (F : (n : ℕ) → Tree (k n) → ℕ → A) {s : List ℕ} {st q : Step} {n : ℕ}
    (known : (at m : ℕ) → st ≡ Ok at → Numbered o w test (drop at s) at m → m ≡ n) (h : ReadsTo (number o w test (λ _. empty)) s st q) where
  -- what is said of the number and of what it asks for
  abbrev pub switched : Tree (number o w test k) → ℕ → A
  switched t at = F t.0 t.1 (at + w)

  found_switch : {at p : ℕ} {x : A} → Numbered o w test (drop at s) at n → Found (k n) (F n) s (at + w) p x → Found (number o w test k) switched s at p x
  unfolding read bind pick
  found_switch {at} {p} z y = record {
    tree = (n, y.tree);
    reads = rw (z.number_is, z.passed, drop-drop, y.reads);
    is = y.is;
  }

  -- where it ends, it is n
  ended : (at m : ℕ) → st ≡ Ok at → q ≡ Ok m → Numbered o w test (drop at s) at n × (m ≡ at + w)
  ended at m i j =
      let x = tree_of h i j in
      let y = numbered_of o w test (drop at s) at (λ _. empty) x.tree (drop m s) m x.is in
      let z : Numbered o w test (drop at s) at n = rw (known at x.tree.0 i y) at y in
      let e₁ = numbered_end o w test (drop at s) at n z in
      let e₂ = x.is in
      (z, cc)

  switch_reads : {r : Step} (q' : Step) → q ≡ q' → ReadsTo (k n) s q r → ReadsTo (k (peek o w s st)) s q r
  unfolding chain
  switch_reads (Err (a, b)) i y = record { is = y.is ∙ rw i }
  switch_reads (Ok m) i y =
      let a = between h i in
      let z = (ended a.0 m a.1 i).0 in
      let e : n ≡ peek o w s st = peeked s a.0 z a.1 refl in
      rw (← e) y

  pub switch_shows : {r : Step} {x : A} → ShowsTo (k n) (F n) s q r x → ShowsTo (number o w test k) switched s st r x
  switch_shows y = record {
    reads = switch_of {k = k} (switch_reads q refl y.reads) refl h;
    found = λ bs at p i i'.
        let m = between y.reads i' in
        let z = ended at m.0 i m.1 in
        found_switch z.0 (y.found bs (at + w) p (m.1 ∙ ap Ok z.1) i');
  }
