-- How much room the pages of a text have: it is taken before anything is written.
use Rattle.std.specs.Prelude.{◌≡◌, ℕ, ◌/◌, List, All, if◌then◌else◌, length, max, min, nat_lt, vec_capacity}
use Rattle.text_pages.specs.declared.page.Page.{Page}
use Rattle.text_pages.specs.declared.spread.Pages.{Pages}
use Rattle.text_pages.specs.declared.spread.TheConstants.{LEAST_ROOM, MOST_ROOM}

-- for how many bytes a page has room
abbrev pub room_of : Page → ℕ
room_of page = vec_capacity page.bytes

-- for how many bytes a page of a text of about so many bytes has room
abbrev pub page_room : ℕ → ℕ
page_room bytes = min (max (bytes / 8) LEAST_ROOM) MOST_ROOM

-- a page for each of so many threads, and none for one thread
abbrev pub page_count : ℕ → ℕ
page_count threads = if nat_lt 1 threads then threads else 0

-- there is a page for each of so many threads, each with so much room
pub record AreBlank (threads room : ℕ) (pages : List Page) : Type 0 where
  pub count : length pages ≡ page_count threads
  pub rooms : All (λ page. room_of page ≡ room) pages

-- the pages of so many threads for a text of about so many bytes
pub record ArePages (threads bytes : ℕ) (all : Pages) : Type 0 where
  pub pages : AreBlank threads (page_room bytes) all.pages.items
  pub others : AreBlank threads (page_room bytes) all.others.items
  pub told : all.room ≡ page_room bytes
