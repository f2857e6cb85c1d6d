-- Which numbers the documents give: those of the reasons, and 0, which is no refusal.
use Rattle.std.specs.Prelude.{Bool, ℕ, ◌||◌, ◌&&◌, eqb, leb}

-- 0 to 15, 18 to 26, and 29
abbrev pub listed : ℕ → Bool
listed n = leb n 15 || (leb 18 n && leb n 26) || eqb n 29
