-- The notation of source document 003, "Binary Format Conventions", as data: a grammar, its derivation trees, and the bytes that a
-- tree spells. It says what is allowed, and nothing of how it is found out.
use Rattle.std.specs.Prelude.{◌≡◌, Bool, true, not, ◌&&◌, List, [], ◌∷◌, ◌++◌, reverse, ℕ, ◌^◌, ◌≤◌, ◌<◌, length, replicate, get_or, eqb, leb, ltb}
use Rattle.std.proofs.Math.Option.{Option, none, some}
use Rattle.sizes.specs.Basics.{among, le, undigit}

-- ---- grammars

-- the order of a number's bytes: lowest first (003's int32, i1, string, count), or highest first (be32, ib1, bestring, becount)
pub data Order : Type 0 where
  little big : Order

-- what is asked of a number
pub data Test : Type 0 where
  -- nothing (byte, int16, int32, int64, double, float)
  any_number : Test
  -- a fixed value (00 to ff, i0, ib1)
  the_number : ℕ → Test
  -- a version that is one of these
  a_version : List ℕ → Test
  -- 0 or 1 (bool)
  a_bool : Test
  -- a limit of document 01
  at_most : ℕ → Test
  -- one of several values (A | B)
  one_of : List ℕ → Test
  -- one of the first values, and none of the second, which only other versions have (v1(X), v3(X))
  one_of_but : List ℕ → List ℕ → Test
  -- a color of a look, whose high byte is 0 (002: "the high bits are zeros")
  a_color : Test

-- what is asked of a string's bytes
pub data Content : Type 0 where
  -- nothing (002: the names of a look)
  any_bytes : Content
  -- none of them is 0 (003: "a null byte (a valid string never will)"; document 02, T-06)
  no_zero : Content

-- how the content of a counted region fills it: it is all of it; it is all of it or the region is empty (count((X)?));
-- or bytes of any value come after it (document 01: free content)
pub data Fill : Type 0 where
  exact optional open_ended : Fill

infixl 20 ◌▸◌
pub data Layout : Type 0 where
  -- no bytes
  empty : Layout
  -- a number of that many bytes that passes the test, and then what the number asks for: a count is followed by as many symbols,
  -- a first byte by the alternative that it begins
  number : Order → ℕ → Test → (ℕ → Layout) → Layout
  -- a length of that many bytes, and as many bytes, of which something may be asked (string, bestring)
  string : Order → ℕ → Content → Layout
  -- one after the other
  ◌▸◌ : Layout → Layout → Layout
  -- that many times (X*N)
  times : ℕ → Layout → Layout
  -- leading b n g: a run of at most n bytes b, and then g. Where the run is shorter than n, g begins with some other byte: so
  -- the run takes every b that it may take (document 01, our rule, for the optional bytes 00? and 01? and the zero bytes of a Value)
  leading : ℕ → ℕ → Layout → Layout
  -- a 32-bit count, and a region of as many bytes (count(X), becount(X))
  region : Order → Fill → Layout → Layout
  -- no bytes have this layout, not even none: what is nested deeper than document 01 allows
  nothing : Layout

-- ---- derivation trees

-- the content of a region
abbrev pub Filled : Fill → Type 0 → Type 0
Filled exact A = A
Filled optional A = Option A
Filled open_ended A = A × List ℕ

-- which number stands at each number, which bytes in each string, how long each run is, which optional content is there
abbrev pub Tree : Layout → Type 0
Tree empty = Unit {0}
Tree (number o w test k) = (n : ℕ) × Tree (k n)
Tree (string o w c) = List ℕ
Tree (a ▸ b) = Tree a × Tree b
Tree (times n a) = List (Tree a)
Tree (leading b n a) = ℕ × Tree a
Tree (region o f a) = Filled f (Tree a)
Tree nothing = ⊥

-- ---- the bytes that a tree spells

unfoldable pub digits : Order → ℕ → ℕ → List ℕ
digits little w n = le w n
digits big w n = reverse (le w n)

-- the number that bytes spell
unfoldable pub undigits : Order → List ℕ → ℕ
unfolding undigit
undigits little bs = undigit bs
undigits big bs = undigit (reverse bs)

unfoldable pub spell_all : {A : Type 0} → (A → List ℕ) → List A → List ℕ
spell_all f [] = []
spell_all f (x ∷ xs) = f x ++ spell_all f xs

unfoldable pub spell_fill : {A : Type 0} (f : Fill) → (A → List ℕ) → Filled f A → List ℕ
spell_fill exact g t = g t
spell_fill optional g none = []
spell_fill optional g (some t) = g t
spell_fill open_ended g t = g t.0 ++ t.1

unfoldable pub spell : (g : Layout) → Tree g → List ℕ
spell empty t = []
spell (number o w test k) t = digits o w t.0 ++ spell (k t.0) t.1
spell (string o w c) t = digits o w (length t) ++ t
spell (a ▸ b) t = spell a t.0 ++ spell b t.1
spell (times n a) t = spell_all (spell a) t
spell (leading b n a) t = replicate t.0 b ++ spell a t.1
spell (region o f a) t =
    let content = spell_fill f (spell a) t in
    digits o 4 (length content) ++ content
spell nothing t = absurd t

-- how many bytes these are
unfoldable pub size : (g : Layout) → Tree g → ℕ
size g t = length (spell g t)

-- ---- which trees are derivations

unfoldable pub passes : Test → ℕ → Bool
passes any_number n = true
passes (the_number k) n = eqb n k
passes (a_version ks) n = among n ks
passes a_bool n = leb n 1
passes (at_most k) n = leb n k
passes (one_of ks) n = among n ks
passes (one_of_but ks others) n = among n ks && not (among n others)
passes a_color n = ltb n (256 ^ 3)

unfoldable pub suits : Content → List ℕ → Bool
unfolding among
suits any_bytes bs = true
suits no_zero bs = not (among 0 bs)

pub data Bytes : List ℕ → Type 0 where
  no_bytes : Bytes []
  byte : {b : ℕ} {bs : List ℕ} → b < 256 → Bytes bs → Bytes (b ∷ bs)

pub data All {A : Type 0} (P : A → Type 0) : List A → Type 0 where
  all_none : All P []
  all_more : {x : A} {xs : List A} → P x → All P xs → All P (x ∷ xs)

-- k bytes b may stand before xs in a run of at most n: xs is not empty, and where the run is shorter than n, xs begins with another byte
pub record Leads (b n k : ℕ) (xs : List ℕ) : Type 0 where
  pub short : k ≤ n
  pub some_byte : 0 < length xs
  pub other : k < n → ¬ (get_or xs 0 0 ≡ b)

abbrev pub ValidFill : {A : Type 0} (f : Fill) → (A → Type 0) → (A → List ℕ) → Filled f A → Type 0
ValidFill exact P g t = P t
ValidFill optional P g none = Unit {0}
ValidFill optional P g (some t) = P t × (0 < length (g t))
ValidFill open_ended P g t = P t.0 × Bytes t.1

abbrev pub Valid : (g : Layout) → Tree g → Type 0
Valid empty t = Unit {0}
Valid (number o w test k) t = (t.0 < 256 ^ w) × (passes test t.0 ≡ true) × Valid (k t.0) t.1
Valid (string o w c) t = (length t < 256 ^ w) × Bytes t × (suits c t ≡ true)
Valid (a ▸ b) t = Valid a t.0 × Valid b t.1
Valid (times n a) t = (length t ≡ n) × All (Valid a) t
Valid (leading b n a) t = Leads b n t.0 (spell a t.1) × Valid a t.1
Valid (region o f a) t = (length (spell_fill f (spell a) t) < 256 ^ 4) × ValidFill f (Valid a) (spell a) t
Valid nothing t = ⊥

-- a derivation of these bytes: it uses every byte, and fills each counted region
pub record Derivation (g : Layout) (bs : List ℕ) : Type 0 where
  pub tree : Tree g
  pub valid : Valid g tree
  pub spells : spell g tree ≡ bs
