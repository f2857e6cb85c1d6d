-- What a text is converted to by the number of its page.
use Rattle.std.specs.Prelude.{◌≡◌, List, ℕ, ◌-◌, ◌≤◌, ◌<◌}
use Rattle.std.proofs.Common.{arith}
use borrow.Author.Tests.{lt-ltb, le-ltb}
use Rattle.sizes.specs.Basics.{pick}
use Rattle.convert.specs.Pages.{first_page, page_count}
use Rattle.convert.specs.Convert.{Step, unknown_page, refused, converted}
use Rattle.convert.proofs.Laws.SameText.{page_known}
use Rattle.pages.specs.Numbers.{number_of, Numbered}

module _ (f : ℕ → List ℕ → Step) (page room : ℕ) (u : List ℕ) where
  low_converted : page < first_page → converted f page room u ≡ refused unknown_page 0
  unfolding converted pick
  low_converted h = rw (lt-ltb page first_page h)

  high_converted : first_page ≤ page → page_count ≤ page - first_page → converted f page room u ≡ refused unknown_page 0
  unfolding converted pick
  high_converted l h = rw (le-ltb page first_page l, le-ltb (page - first_page) page_count h)

-- a page before the first, one after the last, and one that is known
pub page_low : (page : ℕ) → page < first_page → Numbered page page_count
unfolding number_of pick
page_low page h = record { is = rw (lt-ltb page first_page h); known = λ m. absurd (omega arith); unknown = λ _ f room u. low_converted f page room u h }

pub page_high : (page : ℕ) → first_page ≤ page → page_count ≤ page - first_page → Numbered page page_count
unfolding number_of pick
page_high page l h = record { is = rw (le-ltb page first_page l) (omega arith); known = λ m. absurd (omega arith); unknown = λ _ f room u. high_converted f page room u l h }

pub numbered : (page : ℕ) → first_page ≤ page → page - first_page < page_count → Numbered page (page - first_page)
unfolding number_of pick
numbered page l h = record { is = rw (le-ltb page first_page l) (omega arith); known = λ _ f room u. page_known f page room u l h; unknown = λ m. absurd (omega arith) }
