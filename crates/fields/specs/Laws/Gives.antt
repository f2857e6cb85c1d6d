-- The laws by which a reader that gives the fields is proved from what its callees ensure.
use Rattle.std.specs.Prelude.{◌≡◌, refl, ◌⊎◌, Bool, true, false, ◌||◌, List, [], ◌∷◌, ℕ, zero, suc, ◌+◌, ◌-◌, ◌≤◌, ◌<◌, take, drop, replicate, eqb, leb}
use Rattle.std.proofs.Math.Path.{ap}
use Rattle.std.proofs.Common.{sym, ◌∙◌, inl, inr, sub-one, add-one, arith, length-drop, length-take-le}
use Rattle.std.proofs.Math.Logic.{⊎_elim}
use Rattle.std.proofs.lemmas.Bool.{false≢true}
use Rattle.std.proofs.Math.Nat.{add-sub_cancel_left}
use Rattle.std.proofs.Math.ListN.{length}
use borrow.Author.Tests.{eqb-true, ne_eqb, leb-true, leb-false, le-leb}
use Rattle.layout.specs.Step.{Span}
use Rattle.std.specs.Prelude.{Ok, Err}
use Rattle.layout.specs.Step.{Step}
use Rattle.sizes.specs.Basics.{among, pick}
use Rattle.grammar.specs.Layout.{Order, Test, any_number, the_number, a_bool, one_of, passes, Content, suits, Layout, empty, number, string, ◌▸◌, times, spell, Bytes}
use Rattle.layout.specs.Steps.Slices.{drop_bytes}
use Rattle.grammar.specs.Laws.Layout.Read.{Got, got, no, bind, read_number, read_times, read, zero_byte}
use Rattle.grammar.specs.Laws.Layout as laws
use Rattle.grammar.specs.Laws.Layout.Places.{Announced, announced, too_few, counted_view, announced_length}
use Rattle.layout.specs.Reads.{step, chain, ReadsTo, peek, span_of, part, bytes}
use Rattle.layout.specs.Steps.Chain.{empty_of, times_none, times_more}
use Rattle.store.specs.declared.Name.{Name}
use Rattle.store.specs.Values.{bit}
use Rattle.store.specs.Fields.{lent, Fields, placed_all, placed}
use Rattle.fields.specs.Gives.{Found, ShowsTo, GivesTo, GivesValueTo, name_at}
use Rattle.fields.specs.Laws.Shows.{Read, tree_of, between, Numbered, numbered_of, peeked, switch_shows, shows_of, never_next}
use Rattle.fields.specs.Laws.Shows as shows

-- the fields are something that is said of a tree
pub to_shows : {g : Layout} {s : List ℕ} {st r : Step} {f : Fields g} → GivesTo g s st r f → ShowsTo g (placed g) s st r f
to_shows x = record { reads = x.reads; found = x.found }

of_shows : {g : Layout} {s : List ℕ} {st r : Step} {f : Fields g} → ShowsTo g (placed g) s st r f → GivesTo g s st r f
of_shows x = record { reads = x.reads; found = x.found }

-- ---- one after the other

infixl 20 ◌⟩◌
pub ◌⟩◌ : {a b : Layout} {s : List ℕ} {st q r : Step} {f : Fields a} {h : Fields b} → GivesTo a s st q f → GivesTo b s q r h → GivesTo (a ▸ b) s st r (f, h)
unfolding placed
◌⟩◌ {a} {b} x y = of_shows (shows.◌&◌ {a = a} {b = b} (to_shows x) (to_shows y))

pub empty_gives : {s : List ℕ} {st : Step} → GivesTo empty s st st tt
unfolding read placed
empty_gives {s} {st} = record {
  reads = empty_of;
  found = λ bs at p e e'.
      let same : at ≡ p = cc in
      record { tree = tt; reads = rw same; is = refl };
}

-- ---- numbers

-- of two numbers that it may be, it is the first where it is not the second
pub first_of_two : {o : Order} {w a b : ℕ} {s : List ℕ} {at n : ℕ} → Numbered o w (one_of (a ∷ b ∷ [])) s at n → eqb n b ≡ false → n ≡ a
unfolding passes among
first_of_two {a = a} {n = n} x e = eqb-true n a (go (eqb n a) (rw e at x.passed))
  where
    go : (c : Bool) → c || (false || false) ≡ true → c ≡ true
    go true h = refl
    go false h = h

-- a number alone, whose value is known
found_number : {o : Order} {w : ℕ} {test : Test} {s : List ℕ} {st r : Step} {v : ℕ} → ReadsTo (number o w test (λ _. empty)) s st r
    → ((at n : ℕ) → st ≡ Ok at → Numbered o w test (drop at s) at n → n ≡ v) → GivesTo (number o w test (λ _. empty)) s st r (v, tt)
unfolding placed
found_number {o} {w} {test} {s} {v = v} h k = record {
  reads = h;
  found = λ bs at p e e'.
      let x = tree_of h e e' in
      let n = numbered_of o w test (drop at s) at (λ _. empty) x.tree (drop p s) p x.is in
      record { tree = x.tree; reads = x.is; is = ap (λ (n : ℕ). (n, tt)) (k at x.tree.0 e n) };
}

pub number_gives : {o : Order} {w : ℕ} {test : Test} {s : List ℕ} {st r : Step} {v : ℕ} → ReadsTo (number o w test (λ _. empty)) s st r → v ≡ peek o w s st
    → GivesTo (number o w test (λ _. empty)) s st r (v, tt)
number_gives {s = s} h e = found_number h (λ at n i x. peeked s at x i e)

pub fixed_gives : {o : Order} {w n : ℕ} {s : List ℕ} {st r : Step} → ReadsTo (number o w (the_number n) (λ _. empty)) s st r
    → GivesTo (number o w (the_number n) (λ _. empty)) s st r (n, tt)
unfolding passes
fixed_gives {n = n} h = found_number h (λ at m i x. eqb-true m n x.passed)

one_bit : (n : ℕ) → n ≤ 1 → n ≡ bit (eqb n 1)
one_bit zero h = refl
one_bit (suc zero) h = refl
one_bit (suc (suc n)) h = absurd (omega arith)

-- a bool is 1 where it is true
pub bit_of : (b : Bool) → eqb (bit b) 1 ≡ b
bit_of true = refl
bit_of false = refl

-- a bool, which is 0 or 1
pub bool_gives : {o : Order} {w : ℕ} {s : List ℕ} {st r : Step} {v : ℕ} → ReadsTo (number o w a_bool (λ _. empty)) s st r → v ≡ peek o w s st
    → GivesTo (number o w a_bool (λ _. empty)) s st r (bit (eqb v 1), tt)
unfolding passes
bool_gives {s = s} {v = v} h e =
    found_number h (λ at n i x. one_bit n (leb-true n 1 x.passed) ∙ ap (λ (m : ℕ). bit (eqb m 1)) (peeked s at x i e))

-- a number, which is n where it is read, and then what n asks for
pub switch_known : {o : Order} {w : ℕ} {test : Test} (k : ℕ → Layout) {s : List ℕ} {st q r : Step} {n : ℕ} {f : Fields (k n)}
    → ((at m : ℕ) → st ≡ Ok at → Numbered o w test (drop at s) at m → m ≡ n) → ReadsTo (number o w test (λ _. empty)) s st q
    → GivesTo (k n) s q r f → GivesTo (number o w test k) s st r (n, f)
unfolding placed
switch_known k {n = n} {f = f} known h y =
    of_shows (switch_shows k (λ m t at. (m, placed (k m) t at)) known h (shows_of (λ (f : Fields (k n)). (n, f)) (λ t at. refl) (to_shows y)))

-- the same, where v is the number that comes next
pub switch_gives : {o : Order} {w : ℕ} {test : Test} (k : ℕ → Layout) {s : List ℕ} {st q r : Step} {v : ℕ} {f : Fields (k v)}
    → v ≡ peek o w s st → ReadsTo (number o w test (λ _. empty)) s st q → GivesTo (k v) s q r f → GivesTo (number o w test k) s st r (v, f)
switch_gives k {s = s} e h y = switch_known k (λ at m i x. peeked s at x i e) h y

-- ---- a value alone, and after a refusal

-- a number that is refused does not fit, or does not pass its test
refused_peek : (o : Order) (w : ℕ) (test : Test) (s : List ℕ) (st r : Step) → ReadsTo (number o w test (λ _. empty)) s st r → (n p : ℕ) → r ≡ Err (n, p)
    → (peek o w s st ≡ 0) ⊎ (passes test (peek o w s st) ≡ false)
unfolding peek chain step read bind pick
refused_peek o w test s (Err (a, b)) r h n p e = inl refl
refused_peek o w test s (Ok at) r h n p e = go (read_number o w (drop at s) at) refl (passes test (peek o w s (Ok at))) refl
  where
    read_it : (m : ℕ) (a : List ℕ) (b : ℕ) → read_number o w (drop at s) at ≡ got m a b → passes test m ≡ true
        → chain (Ok at) (step (number o w test (λ _. empty)) s) ≡ Ok b
    read_it m a b i j = rw (i, j)

    go : (x : Got ℕ) → read_number o w (drop at s) at ≡ x → (b : Bool) → passes test (peek o w s (Ok at)) ≡ b
        → (peek o w s (Ok at) ≡ 0) ⊎ (passes test (peek o w s (Ok at)) ≡ false)
    go (no a b) i c j = inl (rw i)
    go (got m a b) i false j = inr j
    go (got m a b) i true j =
        let k : Ok b ≡ Err (n, p) = sym (read_it m a b i (rw i at j)) ∙ sym h.is ∙ e in
        absurd (let z : ◌≡◌ {A = ℕ} 0 1 = cc in omega arith)

-- what is refused has no fields
pub refused_gives : {g : Layout} {s : List ℕ} {st r : Step} {f : Fields g} {n p : ℕ} → r ≡ Err (n, p) → ReadsTo g s st r → GivesTo g s st r f
refused_gives e h = record { reads = h; found = λ bs at q i j. never_next j e }

big_not_one : {v k : ℕ} → v ≡ k → leb k 1 ≡ false → v ≡ 1 → ⊥
big_not_one {v} {k} e z j = omega (arith, leb-false k 1 z)

-- what is read is no refusal
pub next_value : {A : Type 0} {g : Layout} {s : List ℕ} {st r : Step} {f : Fields g} {v zero : A} {p : ℕ} → r ≡ Ok p → GivesTo g s st r f → GivesValueTo g s st r f v zero
next_value e h = record { gives = h; none = λ n q i. never_next e i }

module _ {o : Order} {w : ℕ} {s : List ℕ} {st r : Step} {v : ℕ} where
  pub any_value : ReadsTo (number o w any_number (λ _. empty)) s st r → v ≡ peek o w s st → GivesValueTo (number o w any_number (λ _. empty)) s st r (v, tt) v 0
  unfolding passes
  any_value h e = record {
    gives = number_gives h e;
    none = λ n p i. ⊎_elim (λ z. e ∙ z) (λ z. absurd (false≢true (sym z))) (refused_peek o w any_number s st r h n p i);
  }

  pub bool_value : ReadsTo (number o w a_bool (λ _. empty)) s st r → v ≡ peek o w s st
      → GivesValueTo (number o w a_bool (λ _. empty)) s st r (bit (eqb v 1), tt) (eqb v 1) false
  unfolding passes
  bool_value h e = record {
    gives = bool_gives h e;
    none = λ n p i. ⊎_elim (λ z. ne_eqb v 1 (λ j. omega arith)) (λ z. ne_eqb v 1 (λ j. big_not_one e z j)) (refused_peek o w a_bool s st r h n p i);
  }

pub refused_value : {A : Type 0} {g : Layout} {s : List ℕ} {st r : Step} {f : Fields g} {v : A} {n p : ℕ} → r ≡ Err (n, p) → ReadsTo g s st r → GivesValueTo g s st r f v v
refused_value e h = record { gives = refused_gives e h; none = λ n p i. refl }

-- ---- that many times

pub none_gives : {a : Layout} {s : List ℕ} {st : Step} → GivesTo (times 0 a) s st st []
unfolding read read_times placed placed_all
none_gives {a} {s} {st} = record {
  reads = times_none 0 (omega arith);
  found = λ bs at p e e'.
      let same : at ≡ p = cc in
      record { tree = []; reads = rw same; is = refl };
}

found_more : {a : Layout} {s : List ℕ} {n at m p : ℕ} {f : Fields a} {fs : List (Fields a)} → Bytes s → Found a (placed a) s at m f → Found (times n a) (placed (times n a)) s m p fs
    → Found (times (suc n) a) (placed (times (suc n) a)) s at p (f ∷ fs)
unfolding read read_times bind placed placed_all
found_more {a} {s} {n} {at} {m} {p} bs x y =
    let place : m ≡ at + length (spell a x.tree) = (laws.sound a (drop at s) (drop_bytes at bs) at x.tree (drop m s) m x.reads).2 in
    record {
      tree = x.tree ∷ y.tree;
      reads = rw (x.reads, y.reads);
      is = rw (← place, x.is, y.is);
    }

pub more_gives : {a : Layout} {s : List ℕ} {n : ℕ} {st q r : Step} {f : Fields a} {fs : List (Fields a)} → GivesTo a s st q f → GivesTo (times n a) s q r fs
    → GivesTo (times (suc n) a) s st r (f ∷ fs)
more_gives {a} {n = n} x y = record {
  reads = times_more (suc n) (omega arith) x.reads (rw sub-one y.reads);
  found = λ bs at p e e'.
      let m = between y.reads e' in
      found_more {a = a} bs (x.found bs at m.0 e m.1) (y.found bs m.0 p m.1 e');
}

-- so many of the same value
pub same_gives : {a : Layout} {s : List ℕ} {n m : ℕ} {st q r : Step} {f : Fields a} → n ≡ m + 1 → GivesTo a s st q f → GivesTo (times m a) s q r (replicate m f)
    → GivesTo (times n a) s st r (replicate n f)
same_gives e x y = rw (e, add-one) (more_gives x y)

-- ---- names

bytes_length : (s : List ℕ) (b n : ℕ) → b + n ≤ length s → length (bytes s (Ok (b, b + n))) ≡ n
unfolding bytes pick
bytes_length s b n h =
    simp (le-leb b (b + n) (omega arith), le-leb (b + n) (length s) h, add-sub_cancel_left) (length-take-le n (drop b s) (omega (arith, length-drop b s)))

-- a string that was read suits, and is the part's bytes
suited : (b : Bool) (x r : List ℕ) (p m q : ℕ) {y r' : List ℕ} {p' : ℕ} → pick b (got x r p) (no m q) ≡ got y r' p' → x ≡ y
unfolding pick
suited true x r p m q e = cc
suited false x r p m q e = absurd (let z : ◌≡◌ {A = ℕ} 0 1 = cc in omega arith)

named : (o : Order) (w : ℕ) (c : Content) (s : List ℕ) (at : ℕ) (t r : List ℕ) (p : ℕ) → read (string o w c) (drop at s) at ≡ got t r p → 0 < w
    → name_at s (part o w s (Ok at)) ≡ record { place = at + w; length = length t }
unfolding read bind part
named o w c s at t r p e pos = go (counted_view o w (drop at s) at) e
  where
    go : {x : Got (List ℕ)} → Announced w (drop at s) at x
        → bind x (λ content rest at₁. pick (suits c content) (got content rest (at₁ + length content)) (no zero_byte at)) ≡ got t r p
        → name_at s (span_of x) ≡ record { place = at + w; length = length t }
    go (announced n l) i =
        let t≡ : take n (drop w (drop at s)) ≡ t = suited (suits c (take n (drop w (drop at s)))) _ _ _ _ _ i in
        let short : length (take n (drop w (drop at s))) ≡ n = announced_length w n (drop at s) l in
        rw (← t≡, bytes_length s (at + w) (length (take n (drop w (drop at s)))) (omega (arith, length-drop at s)))
    go too_few i = absurd (let z : ◌≡◌ {A = ℕ} 0 1 = cc in omega arith)

pub string_gives : {o : Order} {w : ℕ} {c : Content} {s : List ℕ} {st r : Step} {p : Span} {n : Name} → 0 < w → ReadsTo (string o w c) s st r → p ≡ part o w s st
    → n ≡ name_at s p → GivesTo (string o w c) s st r (lent n)
unfolding placed
string_gives {o} {w} {c} {s} {st} {r} {p} {n} h y a e = record {
  reads = y;
  found = λ bs at q i j.
      let x = tree_of y i j in
      let k : p ≡ part o w s (Ok at) = rw i at a in
      record { tree = x.tree; reads = x.is; is = ap lent (sym (named o w c s at x.tree (drop q s) q x.is h) ∙ sym (e ∙ rw k)) };
}

-- a part that was announced does not end before it begins, and has its bytes
start_of : Span → ℕ
start_of (Ok (b, e)) = b
start_of (Err (n, p)) = 0

end_of : Span → ℕ
end_of (Ok (b, e)) = e
end_of (Err (n, p)) = 0

pub part_length : (o : Order) (w : ℕ) (s : List ℕ) (st : Step) (b e : ℕ) → 0 < w → ◌≡◌ {A = Span} (Ok (b, e)) (part o w s st)
    → (b ≤ e) × (length (bytes s (Ok (b, e))) ≡ e - b)
unfolding part start_of end_of
part_length o w s (Err (n, p)) b e pos i = absurd (let z : ◌≡◌ {A = ℕ} 0 1 = cc in omega arith)
part_length o w s (Ok at) b e pos i = go (counted_view o w (drop at s) at) i
  where
    go : {x : Got (List ℕ)} → Announced w (drop at s) at x → ◌≡◌ {A = Span} (Ok (b, e)) (span_of x) → (b ≤ e) × (length (bytes s (Ok (b, e))) ≡ e - b)
    go (announced n l) j =
        let short : length (take n (drop w (drop at s))) ≡ n = announced_length w n (drop at s) l in
        let b_is : b ≡ at + w = ap start_of j in
        let e_is : e ≡ at + w + n = ap end_of j ∙ ap (λ (k : ℕ). at + w + k) short in
        rw (b_is, e_is) (omega arith, bytes_length s (at + w) n (omega (arith, length-drop at s)) ∙ sym (add-sub_cancel_left (at + w) n))
    go too_few j = absurd (let z : ◌≡◌ {A = ℕ} 0 1 = cc in omega arith)

-- where a string that was read ends
ended : {A : Type 0} (b : Bool) (c t : A) (r r' : List ℕ) (p p' n : ℕ) → pick b (got c r p) (no zero_byte n) ≡ got t r' p' → p ≡ p'
unfolding pick
ended true c t r r' p p' n e = cc
ended false c t r r' p p' n e = absurd (let z : ◌≡◌ {A = ℕ} 0 1 = cc in omega arith)

string_end : (o : Order) (w : ℕ) (c : Content) (s : List ℕ) (at : ℕ) (t r : List ℕ) (p : ℕ) → read (string o w c) (drop at s) at ≡ got t r p → p ≡ at + w + length t
unfolding read bind
string_end o w c s at t r p e = go (counted_view o w (drop at s) at) e
  where
    go : {x : Got (List ℕ)} → Announced w (drop at s) at x
        → bind x (λ content rest at₁. pick (suits c content) (got content rest (at₁ + length content)) (no zero_byte at)) ≡ got t r p
        → p ≡ at + w + length t
    go (announced n l) i =
        let t≡ : take n (drop w (drop at s)) ≡ t = suited (suits c (take n (drop w (drop at s)))) _ _ _ _ _ i in
        let e : at + w + length (take n (drop w (drop at s))) ≡ p = ended (suits c (take n (drop w (drop at s)))) _ _ _ _ _ _ _ i in
        rw (← t≡) (sym e)
    go too_few i = absurd (let z : ◌≡◌ {A = ℕ} 0 1 = cc in omega arith)

module _ {o : Order} {w : ℕ} {c : Content} {s : List ℕ} {st r : Step} {at p : ℕ} (y : ReadsTo (string o w c) s st r) (here : st ≡ Ok at) (there : r ≡ Ok p) where
  -- it lies after its length
  pub string_after : at + w ≤ p
  string_after =
      let x = tree_of y here there in
      omega (arith, string_end o w c s at x.tree (drop p s) p x.is)

  -- the same by where it ends
  pub string_to : GivesTo (string o w c) s st r (lent (record { place = at + w; length = p - at - w }))
  unfolding placed
  string_to = record {
    reads = y;
    found = λ bs at' q i j.
        let x = tree_of y i j in
        let a : at' ≡ at = cc in
        let b : q ≡ p = cc in
        let n : length x.tree ≡ p - at - w = omega (arith, string_end o w c s at' x.tree (drop q s) q x.is, a, b) in
        let m : at' + w ≡ at + w = omega (arith, a) in
        record {
          tree = x.tree;
          reads = x.is;
          is = ap (λ (k : ℕ). lent (record { place = k; length = length x.tree })) m ∙ ap (λ (k : ℕ). lent (record { place = at + w; length = k })) n;
        };
  }

-- a value is a field
pub of_value_lem : {A : Type 0} {g : Layout} {s : List ℕ} {st r : Step} {f : Fields g} {v zero : A} → GivesValueTo g s st r f v zero → GivesTo g s st r f
of_value_lem x = x.gives

-- a straight line of calls: `search gives` finds the chain
pub ruleset gives = (◌⟩◌, none_gives, more_gives, of_value_lem)
