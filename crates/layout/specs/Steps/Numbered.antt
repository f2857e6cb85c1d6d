-- A number with a limit, and as many items by a rule: what is kept of it is what is kept of the items.
use Rattle.std.specs.Prelude.{◌≡◌, List, ℕ, ◌+◌, ◌≤◌, drop}
use Rattle.std.proofs.Math.Path.{refl}
use borrow.Author.Tests.{leb-true}
use Rattle.layout.specs.Step.{Step}
use Rattle.std.specs.Prelude.{Ok, Err}
use Rattle.grammar.specs.Layout.{little, at_most, Layout, times, Tree, passes, Bytes}
use Rattle.grammar.specs.Conventions.{field, at_most_many}
use Rattle.grammar.specs.Rule.{Rule, numbered, items}
use Rattle.grammar.specs.Laws.Layout.Read.{got, no, bind}
use Rattle.grammar.specs.Laws.Layout.Check.{check}
use Rattle.layout.specs.Reads.{ReadsTo, peek}
use Rattle.layout.specs.Keeps.{Out, on, off, Keeps, keeps_on, keeps_off}
use Rattle.layout.specs.Steps.Spelt.{read_off, number_check, read_number_lem, ReadNumber}

module _ {a : Layout} {X : Type 0} (limit : ℕ) (k : List (Tree a) → Rule a) (s : List ℕ) (b : Bytes s) (at : ℕ) (Q : Tree (at_most_many limit a) → ℕ → X → Type 0)
    {st : Step} (r : ReadsTo (field little 4 (at_most limit)) s (Ok at) st) where
  abbrev counted : Rule (at_most_many limit a)
  counted = numbered (λ n. items {n = n} k)

  abbrev Section : Out X → Type 0
  Section = Keeps s Q (check counted (drop at s) at)

  pub no_number : {n p : ℕ} → st ≡ Err (n, p) → Section (off n p)
  unfolding bind
  no_number e = rw (number_check little 4 (at_most limit) (λ n. times n a) (λ n. items {n = n} k) (drop at s) at, read_off r e) keeps_off

  module _ {p n : ℕ} (e : st ≡ Ok p) (pk : n ≡ peek little 4 s (Ok at)) where
    num : ReadNumber 4 (at_most limit) s at p n
    num = read_number_lem b r e pk

    pub in_limit : n ≤ limit
    unfolding passes
    in_limit = leb-true n limit num.says.passed

    pub ends_at : p ≡ at + 4
    ends_at = num.says.place

    pub no_items : {m q : ℕ} → check (items {n = n} k) (drop p s) p ≡ no m q → Section (off m q)
    unfolding bind
    no_items {m} {q} h =
        let h' : check (items {n = num.found.tree.0} k) (drop p s) p ≡ no m q = rw num.is h in
        rw (number_check little 4 (at_most limit) (λ n. times n a) (λ n. items {n = n} k) (drop at s) at, num.found.is, h') keeps_off

    pub the_items : {q : ℕ} {x : X} (ts : List (Tree a)) → check (items {n = n} k) (drop p s) p ≡ got ts (drop q s) q → Q (n, ts) q x → Section (on q x)
    unfolding bind
    the_items {q} {x} ts h k₁ =
        let h' : check (items {n = num.found.tree.0} k) (drop p s) p ≡ got ts (drop q s) q = rw num.is h in
        let k₂ : Q (num.found.tree.0, ts) q x = rw num.is k₁ in
        rw (number_check little 4 (at_most limit) (λ n. times n a) (λ n. items {n = n} k) (drop at s) at, num.found.is, h') (keeps_on refl k₂)
