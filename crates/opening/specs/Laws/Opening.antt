-- A member as far as its dimensions, against its rule.
use Rattle.std.specs.Prelude.{◌≡◌, refl, Bool, true, false, List, ℕ, ◌+◌, ◌≤◌, ◌<◌, length, drop, leb}
use Rattle.std.proofs.Common.{le-leb}
use Rattle.std.proofs.lemmas.Bool.{lt-leb}
use Rattle.sizes.specs.Sizes.{member_bytes}
use Rattle.sizes.specs.Basics.{pick}
use Rattle.grammar.specs.Layout.{Tree, Bytes}
use Rattle.grammar.specs.Sections.{Front}
use Rattle.grammar.specs.Table.{Dimension, Axes, Cells}
use Rattle.grammar.specs.Rules.{dimensions_rule, places_of, axes_rule, cells_rule}
use Rattle.grammar.specs.Refused.{body_rule, member_rule}
use Rattle.grammar.specs.Laws.Layout.Read.{Got, got, no, bind, lead, read}
use Rattle.grammar.specs.Laws.Layout.Check.{check}
use Rattle.grammar.specs.Laws.Layout.Binds.{bind_assoc}
use Rattle.grammar.specs.Laws.Member.Checked.{ended, checked}
use Rattle.layout.specs.Step.{Step}
use Rattle.std.specs.Prelude.{Ok, Err}
use Rattle.layout.specs.Reads.{ReadsTo}
use Rattle.layout.specs.Steps.Spelt.{Read, read_on, read_off}
use Rattle.opening.specs.Head.{Head}
use Rattle.opening.specs.Laws.Header.{Bound}

-- a member that is no longer than members are, of that version, whose sections before its dimensions end at a place
pub record Opened (s : List ℕ) (version at : ℕ) : Type 0 where
  pub short : length s ≤ member_bytes
  pub from : ℕ
  pub header : Bound s version from
  pub front : Read (Front version) s from at

-- what the code gives
abbrev pub OpeningRead : List ℕ → Head → Type 0
OpeningRead s (Ok (version, at)) = Opened s version at
OpeningRead s (Err (n, p)) = checked s ≡ no n p

-- what is refused by its Header is refused
pub no_header : (s : List ℕ) → length s ≤ member_bytes → {n p : ℕ} → check member_rule s 0 ≡ no n p → checked s ≡ no n p
unfolding checked ended pick
no_header s h e = rw (le-leb (length s) member_bytes h, e)

pub longer : (s : List ℕ) → member_bytes < length s → checked s ≡ no 1 0
unfolding checked pick
longer s h = rw (lt-leb (length s) member_bytes h)

-- ---- the sections

-- the end after what comes after something
ended_after : {A B : Type 0} (x : Got A) (f g : A → List ℕ → ℕ → Got B) → ((t : A) (s : List ℕ) (at : ℕ) → ended (f t s at) ≡ g t s at) → ended (bind x f) ≡ bind x g
unfolding ended bind
ended_after (got t s at) f g h = h t s at
ended_after (no n p) f g h = refl

ended_bind : {A B : Type 0} (x : Got A) (f : A → B) → ended (bind x (λ t s at. got (f t) s at)) ≡ bind (ended x) (λ t s at. got (f t) s at)
unfolding ended bind pick
ended_bind (no n p) f = refl
ended_bind (got t s at) f = go (leb (length s) (lead 0x01 1 s))
  where
    go : (b : Bool) → pick b (got (f t) s at) (no 11 (at + lead 0x01 1 s)) ≡ bind (pick b (got t s at) (no 11 (at + lead 0x01 1 s))) (λ t s at. got (f t) s at)
    go true = refl
    go false = refl

module _ (version : ℕ) where
  -- the axes and the cells of a table with the dimensions ts, and the end
  unfoldable pub after_dims : List (Tree (Dimension version)) → List ℕ → ℕ → Got (Tree Axes × Tree (Cells version))
  after_dims ts s at = bind (check (axes_rule version ts) s at) (λ a s₁ at₁. bind (ended (check (cells_rule version (places_of version ts)) s₁ at₁)) (λ c s₂ at₂. got (a, c) s₂ at₂))

  -- a member is read by its sections
  pub in_sections : (s : List ℕ) → length s ≤ member_bytes → {at : ℕ} (h : Bound s version at)
      → checked s ≡ bind (read (Front version) (drop at s) at) (λ f s₁ at₁. bind (check (dimensions_rule version) s₁ at₁) (λ d s₂ at₂. bind (after_dims d.1 s₂ at₂) (λ x s₃ at₃. got (h.start, (version, (((f, d), x.0), x.1))) s₃ at₃)))
  unfolding checked body_rule check after_dims pick bind
  in_sections s l {at} h =
      rw (le-leb (length s) member_bytes l, h.is)
      (simp bind_assoc
      (ended_after (read (Front version) (drop at s) at) _ _ (λ f s₁ at₁. ended_after (check (dimensions_rule version) s₁ at₁) _ _ (λ d s₂ at₂. ended_after (check (axes_rule version d.1) s₂ at₂) _ _ (λ a s₃ at₃.
      ended_bind (check (cells_rule version (places_of version d.1)) s₃ at₃) (λ c. (h.start, (version, (((f, d), a), c)))))))))

  -- the sections before the dimensions
  module _ (s : List ℕ) (b : Bytes s) (short : length s ≤ member_bytes) {st : Step} {from : ℕ} (hd : Bound s version from) (fr : ReadsTo (Front version) s (Ok from) st) where
    pub no_front : {n p : ℕ} → st ≡ Err (n, p) → checked s ≡ no n p
    unfolding bind
    no_front e = rw (in_sections s short hd, read_off fr e)

    pub opened : {at : ℕ} → st ≡ Ok at → Opened s version at
    opened e = record { short = short; from = from; header = hd; front = read_on b fr e }
