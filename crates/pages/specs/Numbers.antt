-- The number of a page.
use Rattle.std.specs.Prelude.{◌≡◌, List, ℕ, ◌-◌, ◌≤◌, ◌<◌, min, ltb, Result, Ok, Err}
use Rattle.refusals.specs.declared.Reason.{Reason}
use Rattle.refusals.specs.declared.Reason.TheVariants.{UnknownPage}
use Rattle.pages.specs.declared.Page.{Page}
use Rattle.pages.specs.declared.Page.TheVariants.{Windows1250, Windows1251, Windows1252}
use Rattle.sizes.specs.Basics.{pick}
use Rattle.convert.specs.Pages.{first_page, page_count}
use Rattle.convert.specs.Convert.{Step, unknown_page, refused, outcome, converted}

-- the number of a page, from 0 on, and `page_count` for one that is unknown
unfoldable pub number_of : ℕ → ℕ
number_of page = pick (ltb page first_page) page_count (min (page - first_page) page_count)

-- r is that number; and what a text in the page is converted to, by it
pub record Numbered (page r : ℕ) : Type 0 where
  pub is : r ≡ number_of page
  pub known : r < page_count → (f : ℕ → List ℕ → Step) (room : ℕ) (u : List ℕ) → converted f page room u ≡ outcome (f r) room u
  pub unknown : page_count ≤ r → (f : ℕ → List ℕ → Step) (room : ℕ) (u : List ℕ) → converted f page room u ≡ refused unknown_page 0

-- the number of a page that is known
abbrev pub index : Page → ℕ
index Windows1250 = 0
index Windows1251 = 1
index Windows1252 = 2

-- what a number is taken for
abbrev pub IsPage : ℕ → Result Page Reason → Type 0
IsPage page (Ok k) = (index k < page_count) × Numbered page (index k)
IsPage page (Err r) = (r ≡ UnknownPage) × Numbered page page_count
