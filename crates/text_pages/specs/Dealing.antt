-- Which passages each page has, and what is known of a page that was filled.
use Rattle.std.specs.Prelude.{◌≡◌, ℕ, ◌+◌, ◌-◌, ◌*◌, ◌<◌, ◌≤◌, min, true, List, Some, slice_get}
use Rattle.text_pages.specs.Passages.{texts_from}
use Rattle.text_pages.specs.declared.deal.Deal.{Deal}
use Rattle.text_pages.specs.declared.page.Page.{Page}

-- the bytes on a page
abbrev pub written_on : Page → List ℕ
written_on page = page.bytes.items

-- where the passages of a page begin; those of the page before end there
abbrev pub begin_of : Deal → ℕ → ℕ
begin_of deal place = min (deal.start + deal.share * place) deal.until

-- the passages from a to before b, if the page says that it has them whole; and what is known of each of them
pub record HasPassages (words : ℕ → List ℕ) (known : ℕ → Type 0) (a b : ℕ) (page : Page) : Type 0 where
  pub whole : page.whole ≡ true → written_on page ≡ texts_from words a (b - a)
  pub told : (i : ℕ) → a ≤ i → i < b → known i

-- each page has the passages that are dealt out to it
abbrev pub AreDealt : (ℕ → List ℕ) → (ℕ → Type 0) → Deal → List Page → Type 0
AreDealt words known deal pages = (place : ℕ) (page : Page) → slice_get pages place ≡ Some page → HasPassages words known (begin_of deal place) (begin_of deal (place + 1)) page
