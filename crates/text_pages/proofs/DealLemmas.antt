-- Where the passages of pages begin.
use Rattle.std.proofs.Common.{◌≡◌, ℕ, ◌+◌, ◌<◌, ◌≤◌, List, arith, length, refl}
use Rattle.std.specs.Prelude.{slice_index_or}
use Rattle.std.proofs.lemmas.Nat.{mul-add-lt}
use Rattle.std.proofs.lemmas.Option.{slice_get_read}
use Rattle.text_pages.specs.Dealing.{AreDealt, HasPassages, begin_of}
use Rattle.text_pages.specs.declared.deal.Deal.{Deal}
use Rattle.text_pages.specs.declared.page.Page.{Page}

pub begin_first : (d : Deal) → begin_of d 0 ≡ d.start
begin_first d = (let w = d.within in omega (arith, w))

pub begin_more : (d : Deal) (place : ℕ) → begin_of d place ≤ begin_of d (place + 1)
begin_more d place = omega arith

pub begin_within : (d : Deal) (place : ℕ) → begin_of d place ≤ d.until
begin_within d place = omega arith

pub begin_after : (d : Deal) (place : ℕ) → d.start ≤ begin_of d place
begin_after d place = (let w = d.within in omega (arith, w))

-- a round goes on
pub begin_goes : (d : Deal) (pages : ℕ) → 0 < d.share → 0 < pages → d.start < d.until → d.start < begin_of d pages
begin_goes d pages s p l = (let some = mul-add-lt 0 pages 0 d.share s p in omega (arith, some, l))

-- what a page has that is read at its place
pub page_there : (words : ℕ → List ℕ) (known : ℕ → Type 0) (d : Deal) (pages : List Page) (place : ℕ) (page : Page) (a b : ℕ) → AreDealt words known d pages → place < length pages → page ≡ slice_index_or pages place page → a ≡ begin_of d place → b ≡ begin_of d (place + 1) → HasPassages words known a b page
page_there words known d pages place page a b dealt within is first last = rw (first, last) (dealt place page (slice_get_read pages (length pages) place page refl within is))
