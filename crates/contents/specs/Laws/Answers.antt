-- The answer for some bytes from what was read in front of them.
use Rattle.std.specs.Prelude.{◌≡◌, Bool, true, false, List, ℕ, ◌+◌, drop, eqb, ltb}
use Rattle.std.proofs.Math.Path.{refl, ap}
use Rattle.std.proofs.Common.{sym, ◌∙◌, zero-add, arith, drop-drop, eqb-true}
use Rattle.std.proofs.lemmas.Bool.{eqb-false}
use Rattle.layout.specs.Step.{Step}
use Rattle.std.specs.Prelude.{Ok, Err}
use Rattle.sizes.specs.Sizes.{below_value}
use Rattle.sizes.specs.Basics.{pick}
use Rattle.grammar.specs.Layout.{little, Layout, leading, Tree, size, Bytes}
use Rattle.grammar.specs.Fails.{Spells, Fails}
use Rattle.grammar.specs.Laws.Layout.Read.{Got, got, no, bind, lead, read_leading, read, differs}
use Rattle.layout.specs.Reads.{forget, step, chain, ReadsTo, peek, skip}
use Rattle.grammar.specs.Laws.Layout as laws
use Rattle.grammar.proofs.Laws.Layout as exactly
use Rattle.layout.specs.Steps.Runs.{begins, leading_of}
use Rattle.fields.specs.Gives.{Found, ShowsTo}
use Rattle.fields.specs.Laws.Shows.{Read, tree_of, number_shows}
use Rattle.store.specs.Fields.{placed}
use Rattle.grammar.specs.Value.{cell_zeros, CellValue, RawValueOf, ValueIn}
use Rattle.grammar.specs.Value as grammar
use Rattle.contents.specs.declared.RawValue.{RawValue}
use Rattle.contents.specs.Said.{Contents}
use Rattle.contents.specs.Said.{Argument}
use Rattle.contents.specs.Contents.{position_of, said, Raw, raw_says, contents, argument_of, argument_contents}
use Rattle.contents.specs.Answers.{unread, Answers, refused, refused_argument_answer, ValueAnswers, ArgumentAnswers}

-- ---- a run of bytes, and then a

-- where a starts, and what f says of it
abbrev pub after_run : {A : Type 0} (b n : ℕ) (a : Layout) → (Tree a → ℕ → A) → Tree (leading b n a) → ℕ → ℕ × A
after_run b n a f t at = (at + t.0, f t.1 (at + t.0))

-- what was read moved on
moved : {X : Type 0} (c : Bool) (x : X) (r : List ℕ) (p m q : ℕ) {y : X} → pick c (got x r p) (no m q) ≡ got y r p → pick c (got x r p) (no m q) ≡ got x r p
unfolding pick
moved true x r p m q e = refl
moved false x r p m q e = absurd (let z : ◌≡◌ {A = ℕ} 0 1 = cc in omega arith)

module _ {A : Type 0} {b n : ℕ} {a : Layout} {f : Tree a → ℕ → A} where
  found_leading : {s : List ℕ} {at p : ℕ} {x : A} → Read (leading b n a) s at p → Found a f s (at + lead b n (drop at s)) p x
      → Found (leading b n a) (after_run b n a f) s at p (at + lead b n (drop at s), x)
  unfolding read read_leading bind
  found_leading {s} {at} {p} t y =
      let k = lead b n (drop at s) in
      let e = y.reads in
      record {
        tree = (k, y.tree);
        reads = rw (drop-drop, e) (moved (ltb (at + k) p) (k, y.tree) (drop p s) p differs (at + k) (rw (drop-drop, e) at t.is));
        is = rw y.is;
      }

  pub leading_shows : {s : List ℕ} {st q r : Step} {x : A} → begins a ≡ true → ShowsTo a f s q r x → q ≡ skip b n s st
      → ShowsTo (leading b n a) (after_run b n a f) s st r (position_of q, x)
  unfolding skip
  leading_shows {s} {st} {q} {r} h y e =
      let reads = leading_of h y.reads e in
      record {
        reads = reads;
        found = λ bs at p i j.
            let start : q ≡ Ok (at + lead b n (drop at s)) = e ∙ rw i in
            rw start (found_leading (tree_of reads i j) (y.found bs (at + lead b n (drop at s)) p start j));
      }

-- ---- answers

-- what is made of a reading: K of its length and of what was said, or the refusal
abbrev pub outcome : {A B : Type 0} → (ℕ → B → A) → (ℕ → ℕ → A) → Step → B → A
outcome K refused (Ok p) y = K p y
outcome K refused (Err (n, p)) y = refused n p

pub answers_unread : {A : Type 0} {version : ℕ} {g : Layout} {says : Tree g → A} {refused : ℕ → ℕ → A} {s : List ℕ} {x : A} {n : ℕ} → n ≡ unread version s → (n ≡ 0 → ⊥)
    → x ≡ refused n 0 → Answers version g says refused s x
answers_unread e z h = record {
  not_read = λ m i j. h ∙ rw (e ∙ i);
  derived = λ i t r sp. absurd (z (e ∙ i));
  fails = λ i n p f. absurd (z (e ∙ i));
}

-- what was read is the derivation in front
pub derived_in_front : {B : Type 0} {g : Layout} {f : Tree g → ℕ → B} {s : List ℕ} {r : Step} {y : B} → Bytes s → ShowsTo g f s (Ok 0) r y
    → (t : Tree g) (rest : List ℕ) → Spells g s t rest → (r ≡ Ok (size g t)) × (f t 0 ≡ y)
unfolding step chain size
derived_in_front {g = g} {f = f} {s} {r} bs h t rest sp =
    let e : read g s 0 ≡ got t rest (size g t) = rw sp.split (rw zero-add at (laws.complete g t sp.valid rest 0)) in
    let n : r ≡ Ok (size g t) = h.reads.is ∙ ap forget e in
    let z = h.found bs 0 (size g t) refl n in
    let i : got z.tree (drop (size g t) s) (size g t) ≡ got t rest (size g t) = sym z.reads ∙ e in
    let t≡ : z.tree ≡ t = cc in
    (n, rw t≡ at z.is)

-- or where they fail
failed : {g : Layout} {s : List ℕ} {r : Step} → Bytes s → ReadsTo g s (Ok 0) r → (n p : ℕ) → Fails g s 0 n p → r ≡ Err (n, p)
unfolding step chain
failed {g} {s} bs h n p e =
    let i : read g s 0 ≡ no n p = (exactly.fails_exactly g s bs 0 n p).1 e in
    h.is ∙ ap forget i

pub answers_read : {A B : Type 0} {version : ℕ} {g : Layout} {f : Tree g → ℕ → B} {says : Tree g → A} {refused : ℕ → ℕ → A} {s : List ℕ} {r : Step} {y : B} {x : A} (K : ℕ → B → A)
    → unread version s ≡ 0 → Bytes s → ShowsTo g f s (Ok 0) r y → ((t : Tree g) → K (size g t) (f t 0) ≡ says t) → x ≡ outcome K refused r y → Answers version g says refused s x
answers_read K known bs h same is = record {
  not_read = λ n i z. absurd (z (sym i ∙ known));
  derived = λ _ t rest sp. let d = derived_in_front bs h t rest sp in is ∙ rw (d.0, ← d.1) (same t);
  fails = λ _ n p e. is ∙ rw (failed bs h.reads n p e);
}

-- ---- a Value and an Argument

module _ (version : ℕ) where
  abbrev pub value_of : ℕ → ℕ × RawValue → Contents
  value_of p y = record { refusal = 0; place = 0; length = p; zeros = y.0; raw = y.1 }

  pub value_answers : {s : List ℕ} {q r : Step} {n : ℕ} {y : RawValue} {x : Contents} → unread version s ≡ 0 → Bytes s → n ≡ cell_zeros version
      → ShowsTo (Raw version) (said (Raw version) (raw_says version (ValueIn version below_value))) s q r y → q ≡ skip 0 n s (Ok 0) → x ≡ outcome value_of refused r (position_of q, y)
      → ValueAnswers version s x
  unfolding CellValue RawValueOf begins contents placed
  value_answers known bs e h f is =
      answers_read value_of known bs (leading_shows refl h (rw e at f))
      (λ t. ap (λ (z : ℕ). value_of (size (CellValue version) t) (z, said (Raw version) (raw_says version (ValueIn version below_value)) t.1 (0 + t.0))) (zero-add t.0)) is

  pub argument_answers : {s : List ℕ} {r : Step} {v : ℕ} {x : Argument} → unread version s ≡ 0 → Bytes s → ReadsTo (grammar.Argument version below_value) s (Ok 0) r → v ≡ peek little 4 s (Ok 0)
      → x ≡ outcome argument_of refused_argument_answer r v → ArgumentAnswers version s x
  unfolding grammar.ArgumentOf argument_contents
  argument_answers known bs h e is = answers_read argument_of known bs (number_shows h e) (λ t. refl) is

-- ---- the answer as a function of the bytes

-- what a reading by the grammar says
abbrev pub reading_says : {A : Type 0} {B : Type 0} → (A → B) → (ℕ → ℕ → B) → Got A → B
reading_says says refused (got t r p) = says t
reading_says says refused (no n p) = refused n p

unfoldable pub answer_of : {A : Type 0} (version : ℕ) (g : Layout) → (Tree g → A) → (ℕ → ℕ → A) → List ℕ → A
answer_of version g says refused s = pick (eqb (unread version s) 0) (reading_says says refused (read g s 0)) (refused (unread version s) 0)

-- there is one answer
pub answer_is : {A : Type 0} {version : ℕ} {g : Layout} {says : Tree g → A} {refused : ℕ → ℕ → A} {s : List ℕ} {x : A} → Bytes s → Answers version g says refused s x
    → x ≡ answer_of version g says refused s
unfolding answer_of pick
answer_is {A} {version} {g} {says} {refused} {s} {x} bs a = go (eqb (unread version s) 0) refl
  where
    one : unread version s ≡ 0 → (y : Got (Tree g)) → read g s 0 ≡ y → x ≡ reading_says says refused y
    one known (got t r p) e = let q = laws.sound g s bs 0 t r p e in a.derived known t r (record { valid = q.0; split = q.1 })
    one known (no n p) e = a.fails known n p ((exactly.fails_exactly g s bs 0 n p).0 e)

    go : (b : Bool) → eqb (unread version s) 0 ≡ b → x ≡ pick b (reading_says says refused (read g s 0)) (refused (unread version s) 0)
    go true e = one (eqb-true (unread version s) 0 e) (read g s 0) refl
    go false e = a.not_read (unread version s) refl (eqb-false (unread version s) 0 e)

abbrev pub value_answer : ℕ → List ℕ → Contents
value_answer version s = answer_of version (CellValue version) (contents version) refused s

abbrev pub argument_answer : ℕ → List ℕ → Argument
argument_answer version s = answer_of version (grammar.Argument version below_value) (argument_contents version) refused_argument_answer s
