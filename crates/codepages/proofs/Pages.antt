-- The pages by their numbers, and the characters that are known to stand in them.
use Rattle.std.proofs.Common.{◌≡◌, refl, ℕ, ◌<◌, List, length, get_or, Option, Some, None, IsSome, sym, true≢false, arith}
use Rattle.pages.specs.declared.Page.{Page}
use Rattle.pages.specs.declared.Page.TheVariants.{Windows1250, Windows1251, Windows1252}
use Rattle.pages.specs.Numbers.{index}
use Rattle.convert.specs.Pages.{page_count, no_code_point, code_point}
use Rattle.convert.specs.Utf8.{four_bytes, encode}
use Rattle.convert.specs.Convert.{to}
use Rattle.codepages.specs.Found.{IsBelow}
use Rattle.codepages.specs.Laws.Passes.{Passes, Ready}
use Rattle.codepages.specs.Laws.Branches.{to_ready}
use Rattle.codepages.specs.Laws.Usual.{odd_of, odd_one, odd_other}

pub index_below : (p : Page) → index p < page_count
index_below Windows1250 = omega arith
index_below Windows1251 = omega arith
index_below Windows1252 = omega arith

pub odd_same : (p : Page) → p ≡ Windows1251 → 185 ≡ odd_of (index p)
odd_same p e = rw e (odd_one 1 refl)

pub odd_else : (p : Page) → (p ≡ Windows1251 → ⊥) → 128 ≡ odd_of (index p)
odd_else Windows1250 n = odd_other 0 (λ z. absurd (omega arith))
odd_else Windows1251 n = absurd (n refl)
odd_else Windows1252 n = odd_other 2 (λ z. absurd (omega arith))

module _ {k : ℕ} {u : List ℕ} {i : ℕ} {o : List ℕ} {w : ℕ} (hk : k < page_count) (l : i < length u) (t : Ready (to k) u i o w) where
  pub ready_some : (r : Option ℕ) → IsBelow no_code_point (code_point k (get_or u i 0)) r → IsSome r
  ready_some None e = absurd (omega (arith, (to_ready k u i no_code_point e hk l t).0))
  ready_some (Some c) e = refl

  pub ready_point : (r : Option ℕ) (c : ℕ) → r ≡ Some c → IsBelow no_code_point (code_point k (get_or u i 0)) r → (c < four_bytes) × Passes (to k) u i 1 (encode c)
  ready_point r c e b = let d = rw e at b in to_ready k u i c d.0 hk l t

-- a value that is there is below
pub some_below : {none v : ℕ} (r : Option ℕ) → IsSome r → IsBelow none v r → v < none
some_below None e b = absurd (true≢false (sym e))
some_below (Some x) e b = omega (arith, b.0, b.1)
