-- The Header as far as its version, against the member's rule.
use Rattle.std.proofs.Math.Path.{◌≡◌, refl, sym, subst}
use Rattle.std.proofs.Common.{ap, ◌∙◌, arith, length-append}
use Rattle.std.specs.Prelude.{Bool, true, false, List, ℕ, ◌≤◌, drop, length}
use Rattle.layout.specs.Step.{Step}
use Rattle.std.specs.Prelude.{Ok, Err}
use Rattle.sizes.specs.Basics.{pick}
use Rattle.grammar.specs.Layout.{little, Test, a_version, Tree, Bytes, passes, spell, size}
use Rattle.grammar.specs.Conventions.{field}
use Rattle.grammar.specs.Laws.Layout.Read.{Got, got, no, refusal, bind, read_number}
use Rattle.grammar.specs.Laws.Layout.Check.{check}
use Rattle.layout.specs.Reads.{ReadsTo, chain, peek, number_of}
use Rattle.grammar.specs.Laws.Layout.{digits_length}
use Rattle.grammar.specs.Laws.Layout.Binds.{bind_assoc}
use Rattle.layout.specs.Steps.Spelt.{read_on, read_off, stays_inside}
use Rattle.grammar.specs.Sections.{HeaderStart, versions}
use Rattle.opening.specs.Head.{Head}
use Rattle.opening.specs.Laws.Refusals.{same_number, same_place}
use Rattle.grammar.specs.Member.{Body, body_at}
use Rattle.grammar.specs.Refused.{body_rule, member_rule}

abbrev number_in : Got (ℕ × Unit {0}) → ℕ
number_in (got t r p) = t.0
number_in (no n p) = 0

-- a number that is tested and read, and then anything
tested_on : {B : Type 0} (test : Test) (x : Got ℕ) (p : ℕ) {n : ℕ} {r : List ℕ} {q : ℕ} (f : ℕ → List ℕ → ℕ → Got B)
    → bind {B = ℕ × Unit {0}} x (λ m s₁ at₁. pick (passes test m) (bind {B = ℕ × Unit {0}} (got tt s₁ at₁) (λ t s₂ at₂. got (m, t) s₂ at₂)) (no (refusal test m) p)) ≡ got (n, tt) r q
    → (n ≡ number_of x) × (bind x (λ m s₁ at₁. pick (passes test m) (f m s₁ at₁) (no (refusal test m) p)) ≡ f n r q)
unfolding bind pick
tested_on {B} test (no m k) p f e = absurd (let z : ◌≡◌ {A = ℕ} 0 1 = cc in omega arith)
tested_on {B} test (got m s at) p {n} {r} {q} f e = go (passes test m) refl e
  where
    go : (b : Bool) → passes test m ≡ b → pick {X = Got (ℕ × Unit {0})} b (got (m, tt) s at) (no (refusal test m) p) ≡ got (n, tt) r q
        → (n ≡ m) × (pick (passes test m) (f m s at) (no (refusal test m) p) ≡ f n r q)
    go true h i =
        let m_is : m ≡ n = ap number_in i in
        let s_is : s ≡ r = cc in
        let at_is : at ≡ q = cc in
        (sym m_is, rw (h, m_is, s_is, at_is))
    go false h i = absurd (let z : ◌≡◌ {A = ℕ} 0 1 = cc in omega arith)

tested_off : {B : Type 0} (test : Test) (x : Got ℕ) (p : ℕ) {n q : ℕ} (f : ℕ → List ℕ → ℕ → Got B)
    → bind {B = ℕ × Unit {0}} x (λ m s₁ at₁. pick (passes test m) (bind {B = ℕ × Unit {0}} (got tt s₁ at₁) (λ t s₂ at₂. got (m, t) s₂ at₂)) (no (refusal test m) p)) ≡ no n q
    → bind x (λ m s₁ at₁. pick (passes test m) (f m s₁ at₁) (no (refusal test m) p)) ≡ no n q
unfolding bind pick
tested_off test (no m k) p {n} {q} f e = let m_is : m ≡ n = cc in let k-is : k ≡ q = cc in rw (m_is, k-is)
tested_off {B} test (got m s at) p {n} {q} f e = go (passes test m) refl e
  where
    go : (b : Bool) → passes test m ≡ b → pick {X = Got (ℕ × Unit {0})} b (got (m, tt) s at) (no (refusal test m) p) ≡ no n q → pick (passes test m) (f m s at) (no (refusal test m) p) ≡ no n q
    go true h i = absurd (let z : ◌≡◌ {A = ℕ} 0 1 = cc in omega arith)
    go false h i = let m_is : refusal test m ≡ n = cc in let k-is : p ≡ q = cc in rw (h, m_is, k-is)

start_size : (t : Tree HeaderStart) → size HeaderStart t ≡ 2
unfolding HeaderStart size spell
start_size t = simp (length-append, digits_length)

version_size : (t : Tree (field little 4 (a_version versions))) → size (field little 4 (a_version versions)) t ≡ 4
unfolding size spell
version_size t = simp (length-append, digits_length)

-- the version v is read, and what follows it starts at a place
pub record Bound (s : List ℕ) (v at : ℕ) : Type 0 where
  pub start : Tree HeaderStart
  pub is : check member_rule s 0 ≡ bind (check (body_rule v) (drop at s) at) (λ t r p. got (start, (v, t)) r p)
  pub place : at ≡ body_at
  pub inside : at ≤ length s

-- what the code gives
abbrev pub HeaderRead : List ℕ → Head → Type 0
HeaderRead s (Ok (v, at)) = Bound s v at
HeaderRead s (Err (n, p)) = check member_rule s 0 ≡ no n p

module _ {s : List ℕ} (b : Bytes s) {st st' : Step} {v : ℕ} (h : ReadsTo HeaderStart s (Ok 0) st) (v-is : v ≡ peek little 4 s st)
    (k : ReadsTo (field little 4 (a_version versions)) s st st') where
  pub header_off : {n p : ℕ} → st' ≡ Err (n, p) → check member_rule s 0 ≡ no n p
  unfolding member_rule check bind chain
  header_off {n} {p} e = go st h k
    where
      go : (st : Step) → ReadsTo HeaderStart s (Ok 0) st → ReadsTo (field little 4 (a_version versions)) s st st' → check member_rule s 0 ≡ no n p
      go (Err (m, q)) h k =
          let i = sym k.is ∙ e in
          let m_is : m ≡ n = same_number i in
          let q_is : q ≡ p = same_place i in
          rw (read_off h refl, m_is, q_is)
      go (Ok q) h k =
          let start = read_on b h refl in
          rw (start.is, tested_off (a_version versions) (read_number little 4 (drop q s) q) q (λ m r at. bind {B = (n : ℕ) × Tree (Body n)} (check (body_rule m) r at) (λ t r p. got (m, t) r p)) (read_off k e))

  pub header_on : {at : ℕ} → st' ≡ Ok at → Bound s v at
  unfolding member_rule check bind chain peek
  header_on {at} e = go st h v-is k
    where
      go : (st : Step) → ReadsTo HeaderStart s (Ok 0) st → v ≡ peek little 4 s st → ReadsTo (field little 4 (a_version versions)) s st st' → Bound s v at
      go (Err (m, q)) h v-is k = absurd (let i : Err (m, q) ≡ Ok at = sym k.is ∙ e in let z : ◌≡◌ {A = ℕ} 0 1 = cc in omega arith)
      go (Ok q) h v-is k =
          let x = read_on b h refl in
          let y = read_on b k e in
          let t = tested_on (a_version versions) (read_number little 4 (drop q s) q) q {n = y.tree.0} (λ m r at. bind {B = (n : ℕ) × Tree (Body n)} (check (body_rule m) r at) (λ t r p. got (m, t) r p)) y.is in
          let same : y.tree.0 ≡ v = t.0 ∙ sym v-is in
          subst (λ (n : ℕ). Bound s n at) same record {
            start = x.tree;
            is = rw (x.is, t.1, bind_assoc);
            place = omega (arith, x.there.place, y.there.place, start_size x.tree, version_size y.tree);
            inside = stays_inside y.there (stays_inside x.there (omega arith));
          }
