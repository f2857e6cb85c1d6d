-- A page that is known, and one that isn't.
use Rattle.std.proofs.Common.{◌≡◌, ℕ, ◌+◌, ◌-◌, ◌≤◌, ◌<◌, ◌⊎◌, inl, inr, arith}
use Rattle.convert.specs.Pages.{first_page, page_count}
use Rattle.pages.specs.Numbers.{Numbered}
use Rattle.pages.specs.Laws.{page_low, page_high, numbered}

pub known_page : (page k : ℕ) → page ≡ first_page + k → k < page_count → (k < page_count) × Numbered page k
known_page page k e h = let z : page - first_page ≡ k = omega arith in (h, rw z at (numbered page (omega arith) (omega arith)))

pub other_page : (page : ℕ) → page < first_page ⊎ first_page + page_count ≤ page → Numbered page page_count
other_page page (inl l) = page_low page l
other_page page (inr h) = page_high page (omega arith) (omega arith)
