-- In the words of an accepted look no place and no length of a name has lost a bit.
use Rattle.std.specs.Prelude.{◌≡◌, refl, Bool, true, false, ℕ, ◌+◌, ◌^◌, ◌≤◌, ◌<◌, eqb}
use Rattle.std.proofs.Common.{subst, arith}
use mathlib.Core.List.{List, [], ◌∷◌}
use Rattle.std.proofs.Math.ListN.{length, length-append}
use Rattle.sizes.specs.Sizes.{longest_look}
use Rattle.grammar.specs.Layout.{Layout, empty, number, string, ◌▸◌, times, leading, region, nothing, Tree, spell_all, spell, Bytes, All, all_none, all_more, Valid}
use Rattle.layout.specs.Words.{word32}
use Rattle.layout.specs.Laws.Words.{word_same}
use Rattle.grammar.specs.Laws.Layout.Read.{Got, got, no, read}
use Rattle.grammar.specs.Laws.Layout as laws
use Rattle.store.specs.Fields.{Text, lent, letters, Fields, placed_all, placed}
use Rattle.fields.specs.Laws.Failing.{spell_most}
use Rattle.look.specs.Look as grammar
use Rattle.look.specs.Look.{TableLook, TableLook02}
use Rattle.look.specs.Values as values
use Rattle.look.specs.Values.{◌&◌}
use Rattle.look.specs.Answers.{defaults, accepted, expected, v2_data, look_of}
use Rattle.look.specs.Laws.Bounds.{bounded, most_bytes}

abbrev pub KeptText : Text → Type 0
KeptText (lent n) = (word32 n.place ≡ n.place) × (word32 n.length ≡ n.length)
KeptText (letters xs) = Unit {0}

-- each name of the fields
abbrev pub Kept : (g : Layout) → Fields g → Type 0
Kept empty f = Unit {0}
Kept (number o w test k) f = Kept (k f.0) f.1
Kept (string o w c) f = KeptText f
Kept (a ▸ b) f = Kept a f.0 × Kept b f.1
Kept (times n a) f = All (Kept a) f
Kept (leading b n a) f = Unit {0}
Kept (region o m a) f = Unit {0}
Kept nothing f = Unit {0}

-- ---- names that lie in fewer than 2^32 bytes

module _ {A B : Type 0} (f : A → ℕ → B) (sp : A → List ℕ) (P : B → Type 0) (one : (x : A) (at : ℕ) → at + length (sp x) < 2 ^ 32 → P (f x at)) where
  kept_all : (xs : List A) (at : ℕ) → at + length (spell_all sp xs) < 2 ^ 32 → All P (placed_all f sp xs at)
  unfolding placed_all spell_all
  kept_all [] at h = all_none
  kept_all (x ∷ xs) at h =
      let h' : at + (length (sp x) + length (spell_all sp xs)) < 2 ^ 32 = rw length-append at h in
      all_more (one x at (omega arith)) (kept_all xs (at + length (sp x)) (omega arith))

kept_placed : (g : Layout) (t : Tree g) (at : ℕ) → at + length (spell g t) < 2 ^ 32 → Kept g (placed g t at)
unfolding placed spell
kept_placed empty t at h = tt
kept_placed (number o w test k) t at h =
    kept_placed (k t.0) t.1 (at + w) (omega (arith, rw (length-append, laws.digits_length) at h))
kept_placed (string o w c) t at h =
    let h' : at + (w + length t) < 2 ^ 32 = rw (length-append, laws.digits_length) at h in
    (word_same (at + w) (omega arith), word_same (length t) (omega arith))
kept_placed (a ▸ b) t at h =
    let h' : at + (length (spell a t.0) + length (spell b t.1)) < 2 ^ 32 = rw length-append at h in
    (kept_placed a t.0 at (omega arith), kept_placed b t.1 (at + length (spell a t.0)) (omega arith))
kept_placed (times n a) t at h = kept_all (placed a) (spell a) (Kept a) (λ x at h. kept_placed a x at h) t at h
kept_placed (leading b n a) t at h = tt
kept_placed (region o m a) t at h = tt
kept_placed nothing t at h = elim t [ ]

-- ---- an accepted look has so few bytes

-- "2,778 and 3,160 bytes" (document 02, T-02)
short : (t : Tree TableLook) → Valid TableLook t → length (spell TableLook t) ≤ longest_look
short t v = rw most_bytes at (spell_most TableLook bounded t v)

-- ---- V2 data

no_names : (b : Bool) (f : Fields (grammar.SeparatorIf b)) → Kept (grammar.SeparatorIf b) f
no_names true f = tt & tt & tt & tt
no_names false f = tt

kept_separators : (fs : List (Fields grammar.Separator)) → All (Kept grammar.Separator) fs
kept_separators [] = all_none
kept_separators (f ∷ fs) = all_more (no_names (eqb f.0 1) f.1) (kept_separators fs)

v2_kept : (b : Bool) (f : Fields (grammar.V2StylesIf b)) → Kept (grammar.V2StylesIf b) f → Kept grammar.V2Styles (v2_data b f)
v2_kept true f h = h
v2_kept false f h = kept_separators (values.frames defaults.frames) & tt & tt & tt & tt & tt

look_kept : (f : Fields TableLook) → Kept TableLook f → Kept TableLook02 (look_of f)
look_kept f k = (k.0, (k.1.0, (k.1.1.0, v2_kept (eqb f.1.0 2) f.1.1.1.1 k.1.1.1)))

-- whatever fields `read_look` gives for bytes that it accepts
pub kept : (s : List ℕ) → Bytes s → (f : Fields TableLook02) → accepted f ≡ expected (read TableLook s 0) → Kept TableLook02 f
unfolding expected
kept s bs f e = go (read TableLook s 0) refl e
  where
    go : (x : Got (Tree TableLook)) → read TableLook s 0 ≡ x → accepted f ≡ expected x → Kept TableLook02 f
    go (got t [] p) i j =
        let valid = (laws.sound TableLook s bs 0 t [] p i).0 in
        let k : Kept TableLook (placed TableLook t 0) = kept_placed TableLook t 0 (omega (arith, short t valid)) in
        let e : look_of (placed TableLook t 0) ≡ f = cc in
        subst (Kept TableLook02) e (look_kept (placed TableLook t 0) k)
    go (got t (b ∷ r) p) i j = absurd (let z : ◌≡◌ {A = ℕ} 0 1 = cc in omega arith)
    go (no n p) i j = absurd (let z : ◌≡◌ {A = ℕ} 0 1 = cc in omega arith)
