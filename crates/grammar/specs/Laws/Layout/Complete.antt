-- What a valid tree spells is read as that tree, whatever comes after it.
use Rattle.std.specs.Prelude.{◌≡◌, refl, ℕ, ◌+◌, ◌^◌, ◌<◌, replicate, leb}
use Rattle.std.proofs.Math.Path.{ap}
use Rattle.std.proofs.Math.Bool.{true}
use Rattle.std.proofs.Math.Option.{none, some}
use mathlib.Core.List.{List, [], ◌∷◌, ◌++◌, append-nil, append_assoc}
use Rattle.std.proofs.Common.{arith, take_at}
use Rattle.std.proofs.Math.ListN.{length, length-append}
use Rattle.std.proofs.lemmas.List.{length-replicate}
use Rattle.std.proofs.Math.Seq.{drop_at}
use Rattle.std.proofs.Math.Dec.{ltb}
use borrow.Author.Tests.{le-leb, lt-ltb}
use Rattle.grammar.specs.Layout.{Order, Fill, exact, optional, open_ended, Filled, Layout, empty, number, string, ◌▸◌, times, leading, region, nothing, Tree, digits, spell_all, spell_fill, spell, All, all_none, all_more, Leads, ValidFill, Valid}
use Rattle.grammar.specs.Laws.Layout.Read.{Got, got, bind, read_number, read_counted, read_times, read_leading, ends, read_fill, read}
use Rattle.grammar.specs.Laws.Layout.Lead.{lead_run}
use Rattle.grammar.specs.Laws.Layout.Digits.{length_digits, undigits_digits}

-- f reads what sp spells, where P holds
abbrev pub Complete : {A : Type 0} → (List ℕ → ℕ → Got A) → (A → List ℕ) → (A → Type 0) → Type 0
Complete {A} f sp P = (t : A) → P t → (r : List ℕ) (at : ℕ) → f (sp t ++ r) at ≡ got t r (at + length (sp t))

pub number_complete : (o : Order) (w : ℕ) → Complete (read_number o w) (digits o w) (λ n. n < 256 ^ w)
unfolding read_number
number_complete o w n h r at =
    let e : length (digits o w n) ≡ w = length_digits o w n in
    let fits : leb w (length (digits o w n ++ r)) ≡ true = le-leb w _ (simp length-append (omega arith)) in
    rw (fits, take_at (digits o w n) r w e, drop_at (digits o w n) r w e, undigits_digits o w n h, e)

pub counted_complete : (o : Order) (w : ℕ) (xs : List ℕ) → length xs < 256 ^ w → (r : List ℕ) (at : ℕ)
    → read_counted o w (digits o w (length xs) ++ xs ++ r) at ≡ got xs r (at + w)
unfolding read_counted
counted_complete o w xs h r at =
    let fits : leb (length xs) (length (xs ++ r)) ≡ true = le-leb (length xs) _ (simp length-append (omega arith)) in
    rw (append_assoc, number_complete o w (length xs) h (xs ++ r) at, fits, take_at xs r _ refl, drop_at xs r _ refl, length_digits)

pub optional_more : {A : Type 0} (f : List ℕ → ℕ → Got A) (s : List ℕ) (at : ℕ) → 0 < length s
    → read_fill optional f s at ≡ bind (ends (f s at)) (λ t s₁ at₁. got (some t) s₁ at₁)
unfolding read_fill
optional_more f [] at h = absurd (omega arith)
optional_more f (x ∷ xs) at h = refl

module _ {A : Type 0} (f : List ℕ → ℕ → Got A) (sp : A → List ℕ) (P : A → Type 0) (c : Complete f sp P) where
  all_complete : {ts : List A} → All P ts → (r : List ℕ) (at : ℕ)
      → read_times f (length ts) (spell_all sp ts ++ r) at ≡ got ts r (at + length (spell_all sp ts))
  unfolding read_times spell_all
  all_complete all_none r at = ap (got [] r) (omega arith)
  all_complete (all_more {x} {xs} h hs) r at =
      rw (append_assoc, c x h (spell_all sp xs ++ r) at, all_complete hs r (at + length (sp x)), length-append)
      (ap (got (x ∷ xs) r) (omega arith))

  exact_complete : (t : A) → P t → (at : ℕ) → ends (f (sp t) at) ≡ got t [] (at + length (sp t))
  unfolding ends
  exact_complete t h at = let e : f (sp t) at ≡ got t [] (at + length (sp t)) = rw append-nil at (c t h [] at) in rw e

  fill_complete : (m : Fill) (t : Filled m A) → ValidFill m P sp t → (at : ℕ)
      → read_fill m f (spell_fill m sp t) at ≡ got t [] (at + length (spell_fill m sp t))
  unfolding read_fill spell_fill
  fill_complete exact t h at = exact_complete t h at
  fill_complete optional none h at = ap (got none []) (omega arith)
  fill_complete optional (some t) h at = rw (optional_more f (sp t) at h.1, exact_complete t h.0 at)
  fill_complete open_ended t h at =
      rw (c t.0 h.0 t.1 at, length-append) (ap (got t []) (omega arith))

  leading_complete : (b n k : ℕ) (t : A) → Leads b n k (sp t) → P t → (r : List ℕ) (at : ℕ)
      → read_leading b n f (replicate k b ++ (sp t ++ r)) at ≡ got (k, t) r (at + length (replicate k b ++ sp t))
  unfolding read_leading
  leading_complete b n k t l h r at =
      let moved : ltb (at + k) (at + k + length (sp t)) ≡ true = lt-ltb (at + k) (at + k + length (sp t)) (omega (arith, l.some_byte)) in
      rw (lead_run b n k (sp t) r l, drop_at (replicate k b) (sp t ++ r) k (length-replicate k b), c t h r (at + k), moved, length-append, length-replicate)
      (ap (got (k, t) r) (omega arith))

pub complete : (g : Layout) (t : Tree g) → Valid g t → (r : List ℕ) (at : ℕ) → read g (spell g t ++ r) at ≡ got t r (at + length (spell g t))
unfolding read spell
complete empty t h r at = ap (got t r) (omega arith)
complete (number o w test k) t h r at =
    rw (append_assoc, number_complete o w t.0 h.0 (spell (k t.0) t.1 ++ r) at, h.1, complete (k t.0) t.1 h.2 r, length-append)
    (ap (got t r) (omega arith))
complete (string o w c) t h r at =
    rw (counted_complete o w t h.0 r at, h.2, length-append, length_digits) (ap (got t r) (omega arith))
complete (a ▸ b) t h r at =
    rw (append_assoc, complete a t.0 h.0 (spell b t.1 ++ r) at, complete b t.1 h.1 r, length-append)
    (ap (got t r) (omega arith))
complete (times n a) t h r at = rw (← h.0) (all_complete (read a) (spell a) (Valid a) (complete a) h.1 r at)
complete (leading b n a) t h r at =
    rw append_assoc (leading_complete (read a) (spell a) (Valid a) (complete a) b n t.0 t.1 h.0 h.1 r at)
complete (region o f a) t h r at =
    rw (counted_complete o 4 (spell_fill f (spell a) t) h.0 r at, fill_complete (read a) (spell a) (Valid a) (complete a) f t h.1 (at + 4), length-append, length_digits)
    (ap (got t r) (omega arith))
complete nothing t h r at = absurd t
