-- Which bytes have no derivation in front, by which refusal, and where (document 01, "Refusal numbers" and "Order"): what stands before
-- the failing field are valid trees, and the failing field is what the bytes there are. It says nothing of how it is found out.
-- proofs/Laws/Layout.antt says that a reading is refused exactly so (`fails_exactly`).
use Rattle.std.specs.Prelude.{◌≡◌, true, false, List, ◌∷◌, ◌++◌, ℕ, ◌+◌, ◌^◌, ◌≤◌, ◌<◌, length, replicate}
use Rattle.grammar.specs.Layout.{Order, Test, passes, Content, suits, Fill, exact, optional, open_ended, Layout, number, string, ◌▸◌, times, leading, region, nothing, Tree, digits, spell_all, spell, All, Valid}
use Rattle.grammar.specs.Numbers.{refusal, too_short, zero_byte, differs, ends_early, limit_passed}

-- ---- what bytes begin with

-- s begins with the bytes of a derivation, and r is what follows
pub record Spells (g : Layout) (s : List ℕ) (t : Tree g) (r : List ℕ) : Type 0 where
  pub valid : Valid g t
  pub split : s ≡ spell g t ++ r

-- with the bytes of derivations that follow each other
pub record SpellsAll (g : Layout) (s : List ℕ) (ts : List (Tree g)) (r : List ℕ) : Type 0 where
  pub valid : All (Valid g) ts
  pub split : s ≡ spell_all (spell g) ts ++ r

-- with the w bytes of the number n
pub record Begins (o : Order) (w : ℕ) (s : List ℕ) (n : ℕ) (r : List ℕ) : Type 0 where
  pub small : n < 256 ^ w
  pub split : s ≡ digits o w n ++ r

-- with k bytes b: every b that a run of at most n may take
pub record Runs (b n : ℕ) (s : List ℕ) (k : ℕ) (r : List ℕ) : Type 0 where
  pub short : k ≤ n
  pub split : s ≡ replicate k b ++ r
  pub stops : k < n → (xs : List ℕ) → ¬ (r ≡ b ∷ xs)

-- with a count of w bytes and the bytes xs that it announces
pub record Holds (o : Order) (w : ℕ) (s xs : List ℕ) : Type 0 where
  pub rest : List ℕ
  pub small : length xs < 256 ^ w
  pub split : s ≡ digits o w (length xs) ++ xs ++ rest

-- the count, or the bytes that it announces, are not all there
pub data Unfit (o : Order) (w : ℕ) (s : List ℕ) : Type 0 where
  no_count : length s < w → Unfit o w s
  no_room : {n : ℕ} {r : List ℕ} → Begins o w s n r → length r < n → Unfit o w s

-- ---- regions

-- content is looked for in a region of these bytes (document 01: optional content is there if the region has a byte)
abbrev pub Looked : Fill → List ℕ → Type 0
Looked exact xs = Unit {0}
Looked optional xs = 0 < length xs
Looked open_ended xs = Unit {0}

-- no byte of the region may be left
abbrev pub Closed : Fill → Type 0
Closed exact = Unit {0}
Closed optional = Unit {0}
Closed open_ended = ⊥

-- ---- refusals

-- Fails g s at n p: where g is to be read from the bytes s, the first of which has the place `at`, refusal n is given at the place p
pub data Fails : Layout → List ℕ → ℕ → ℕ → ℕ → Type 0 where
  -- a number: too few bytes; one that does not pass its test; or what it asks for fails
  number_short : {o : Order} {w : ℕ} {test : Test} {k : ℕ → Layout} {s : List ℕ} {at : ℕ}
      → length s < w → Fails (number o w test k) s at too_short at
  number_wrong : {o : Order} {w : ℕ} {test : Test} {k : ℕ → Layout} {s : List ℕ} {at n : ℕ} {r : List ℕ}
      → Begins o w s n r → passes test n ≡ false → Fails (number o w test k) s at (refusal test n) at
  number_then : {o : Order} {w : ℕ} {test : Test} {k : ℕ → Layout} {s : List ℕ} {at n : ℕ} {r : List ℕ} {m p : ℕ}
      → Begins o w s n r → passes test n ≡ true → Fails (k n) r (at + w) m p → Fails (number o w test k) s at m p
  -- a string with its length is one field: too few bytes; or all are there and not what is asked of them
  string_short : {o : Order} {w : ℕ} {c : Content} {s : List ℕ} {at : ℕ} → Unfit o w s → Fails (string o w c) s at too_short at
  string_wrong : {o : Order} {w : ℕ} {c : Content} {s : List ℕ} {at : ℕ} {xs : List ℕ}
      → Holds o w s xs → suits c xs ≡ false → Fails (string o w c) s at zero_byte at
  -- one after the other: the first, or a derivation of it and then the second
  first : {a b : Layout} {s : List ℕ} {at m p : ℕ} → Fails a s at m p → Fails (a ▸ b) s at m p
  second : {a b : Layout} {s : List ℕ} {at : ℕ} {t : Tree a} {r : List ℕ} {m p : ℕ}
      → Spells a s t r → Fails b r (at + length (spell a t)) m p → Fails (a ▸ b) s at m p
  -- some of the n, and then one
  item : {n : ℕ} {a : Layout} {s : List ℕ} {at : ℕ} {ts : List (Tree a)} {r : List ℕ} {m p : ℕ}
      → SpellsAll a s ts r → length ts < n → Fails a r (at + length (spell_all (spell a) ts)) m p → Fails (times n a) s at m p
  -- what comes after a run; or it has no byte
  after_run : {b n : ℕ} {a : Layout} {s : List ℕ} {at k : ℕ} {r : List ℕ} {m p : ℕ}
      → Runs b n s k r → Fails a r (at + k) m p → Fails (leading b n a) s at m p
  run_alone : {b n : ℕ} {a : Layout} {s : List ℕ} {at k : ℕ} {r : List ℕ} {t : Tree a} {r' : List ℕ}
      → Runs b n s k r → Spells a r t r' → length (spell a t) ≡ 0 → Fails (leading b n a) s at differs (at + k)
  -- a count with the region it announces is one field; the content fails, with the region's bytes alone; or it ends early
  region_short : {o : Order} {f : Fill} {a : Layout} {s : List ℕ} {at : ℕ} → Unfit o 4 s → Fails (region o f a) s at too_short at
  content : {o : Order} {f : Fill} {a : Layout} {s : List ℕ} {at : ℕ} {xs : List ℕ} {m p : ℕ}
      → Holds o 4 s xs → Looked f xs → Fails a xs (at + 4) m p → Fails (region o f a) s at m p
  bytes_left : {o : Order} {f : Fill} {a : Layout} {s : List ℕ} {at : ℕ} {xs : List ℕ} {t : Tree a} {b : ℕ} {bs : List ℕ}
      → Holds o 4 s xs → Looked f xs → Closed f → Spells a xs t (b ∷ bs) → Fails (region o f a) s at ends_early (at + 4 + length (spell a t))
  -- what is nested too deep
  too_deep : {s : List ℕ} {at : ℕ} → Fails nothing s at limit_passed at
