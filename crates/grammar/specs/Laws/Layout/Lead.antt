-- The run of bytes b in front of a list: how many there are, and what comes after them.
use Rattle.std.specs.Prelude.{◌≡◌, refl, Bool, true, false, List, [], ◌∷◌, ◌++◌, ℕ, zero, suc, ◌≤◌, ◌<◌, length, drop, replicate, get_or, eqb}
use Rattle.std.proofs.Common.{ap, ◌∙◌, arith, length-append, eqb-true, eq-eqb, ne_eqb}
use Rattle.std.proofs.lemmas.List.{length-replicate}
use Rattle.std.proofs.lemmas.Bool.{eqb-false}
use Rattle.sizes.specs.Basics.{pick}
use Rattle.grammar.specs.Layout.{Leads}
use Rattle.grammar.specs.Laws.Layout.Read.{lead}

-- a run stops before another byte
lead_none : (b n : ℕ) (xs r : List ℕ) → 0 < length xs → ¬ (get_or xs 0 0 ≡ b) → lead b n (xs ++ r) ≡ 0
unfolding lead
lead_none b zero xs r l h = refl
lead_none b (suc n) [] r l h = absurd (omega arith)
lead_none b (suc n) (x ∷ xs) r l h = rw (ne_eqb x b h)

pub lead_run : (b n k : ℕ) (xs r : List ℕ) → Leads b n k xs → lead b n (replicate k b ++ (xs ++ r)) ≡ k
unfolding lead
lead_run b zero zero xs r l = refl
lead_run b (suc n) zero xs r l = lead_none b (suc n) xs r l.some_byte (l.other (omega arith))
lead_run b zero (suc k) xs r l = absurd (omega (arith, l.short))
lead_run b (suc n) (suc k) xs r l =
    let l' : Leads b n k xs = record { short = omega (arith, l.short); some_byte = l.some_byte; other = λ h. l.other (omega arith) } in
    rw (eq-eqb b b refl) (ap suc (lead_run b n k xs r l'))

-- k bytes b stand in front of s, as far as n
pub record Run (b n : ℕ) (s : List ℕ) (k : ℕ) : Type 0 where
  pub short : k ≤ n
  pub split : s ≡ replicate k b ++ drop k s
  pub other : k < n → 0 < length (drop k s) → ¬ (get_or (drop k s) 0 0 ≡ b)

run_cons : (b n x : ℕ) (xs : List ℕ) (k : ℕ) → Run b n xs k → (c : Bool) → eqb x b ≡ c → Run b (suc n) (x ∷ xs) (pick c (suc k) 0)
unfolding pick
run_cons b n x xs k r true e =
    let h : k ≤ n = r.short in
    record {
      short = omega arith;
      split = ap (λ (y : ℕ). y ∷ xs) (eqb-true x b e) ∙ ap (λ (l : List ℕ). b ∷ l) r.split;
      other = λ l. r.other (omega arith);
    }
run_cons b n x xs k r false e = record { short = omega arith; split = refl; other = λ l m. eqb-false x b e }

pub run_lead : (b n : ℕ) (s : List ℕ) → Run b n s (lead b n s)
unfolding lead
run_lead b zero s = record { short = omega arith; split = refl; other = λ l m. absurd (omega arith) }
run_lead b (suc n) [] = record { short = omega arith; split = refl; other = λ l m. absurd (omega arith) }
run_lead b (suc n) (x ∷ xs) = run_cons b n x xs (lead b n xs) (run_lead b n xs) (eqb x b) refl

pub lead_short : (b n : ℕ) (s : List ℕ) → lead b n s ≤ length s
lead_short b n s = omega (arith, simp (length-append, length-replicate) at (ap length (run_lead b n s).split))
