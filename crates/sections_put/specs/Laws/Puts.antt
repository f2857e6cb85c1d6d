-- More laws by which writers are proved, over any layout.
use Rattle.std.specs.Prelude.{◌≡◌, List, ℕ, ◌^◌, ◌<◌, length, replicate}
use Rattle.std.proofs.Common.{ap, ◌∙◌}
use Rattle.layout.specs.Step.{Step}
use Rattle.grammar.specs.Layout.{Order, any_bytes, no_zero, exact, Layout, string, leading, region, Leads}
use Rattle.store.specs.Fields.{Text, Fields, bytes_in}
use Rattle.store.specs.Put.{text_verdict, run_verdict, opened, put}
use Rattle.store.specs.Puts.{StoresTo, PutsTo, PutsPlainTo, ClosesTo}
use Rattle.store.specs.Laws.Puts.{region_puts}

-- a run, and what stands after it
pub leading_puts : {b n k : ℕ} {a : Layout} {s : List ℕ} {f : Fields a} {buf b₁ b₂ : List ℕ} {st q r : Step} {c : ℕ} → Leads b n k (bytes_in a s f) → c ≡ run_verdict n k
    → StoresTo c (replicate k b) buf st b₁ q → PutsTo a s f b₁ q b₂ r → PutsTo (leading b n a) s (k, f) buf st b₂ r
unfolding put
leading_puts {a = a} {s} {f} l e x y = record { is = y.is ∙ rw (← e) (ap (put a s f) x.is); fit = (l, y.fit) }

-- a region without names
pub plain_region : {o : Order} {a : Layout} {f : Fields a} {b b₁ b₂ : List ℕ} {st q r₁ r : Step}
    → q ≡ (opened b st).1 → PutsPlainTo a f b q b₁ r₁ → ClosesTo o st b₁ r₁ b₂ r → ((s : List ℕ) → length (bytes_in a s f) < 256 ^ 4)
    → PutsPlainTo (region o exact a) f b st b₂ r
plain_region i x e l = record { any = λ s. region_puts i (x.any s) e (l s) }

-- what puts a string of any bytes puts one without zero bytes, where that makes no difference to its refusal
pub string_puts : {o : Order} {w : ℕ} {s : List ℕ} {t : Text} {b : List ℕ} {st : Step} {b' : List ℕ} {r : Step}
    → text_verdict w any_bytes s t ≡ text_verdict w no_zero s t → PutsTo (string o w any_bytes) s t b st b' r → PutsTo (string o w no_zero) s t b st b' r
unfolding put
string_puts e x = record { is = rw (← e) x.is; fit = x.fit }
