-- Strips of whole rows: one row more, and what lies in them.
use Rattle.std.proofs.Common.{◌≡◌, ◌∙◌, ℕ, ◌+◌, ◌-◌, ◌*◌, ◌/◌, ◌%◌, ◌<◌, ◌≤◌, ap, subst, arith, inl, inr, length, refl, List, ◌++◌, take, pos}
use Rattle.raster_model.specs.Raster.{lifted}
use Rattle.std.specs.Prelude.{ℤ, ◌^◌, slice_index_or, Bool, true, false, ◌&&◌, IsTrue, min, nat_le, nat_lt}
use Rattle.std.proofs.lemmas.Bool.{and_parts, cases_lt}
use Rattle.std.proofs.lemmas.Bool.Decides.{nat_tests}
use Rattle.std.proofs.lemmas.Grind.{div_ceil_times}
use Rattle.std.proofs.lemmas.List.{get_or-append_right, get_or-take, get_or_append_left, length-take-le}
use Rattle.std.proofs.lemmas.Nat.{div-add-mod', mod-mul-add, mul-add-lt, same_from_place}
use Rattle.std.proofs.Math.Nat.{le-div_iff_mul-le, mul-le-mul_right}
use Rattle.surface_snapshots.specs.declared.counting.Costs.{Costs}
use Rattle.surface_snapshots.specs.declared.shifted.ShiftedTiles.{ShiftedTiles}
use Rattle.surface_snapshots.specs.Parts.{BeginsWithRow}
use Rattle.surface_snapshots.specs.Loops.{KnowsOpenRows}
use Rattle.surface_snapshots.specs.Shifted.{AreLevelsFrom, AreListedCycles, IsStrip, cycles_under, is_open_there, level_at, open_under, raster_under}
use Rattle.surface_snapshots.specs.Strips.{AreCounted, HaveRow}
use Rattle.surface_snapshots.proofs.CostLemmas.{rows_fit, rows_more}
use Rattle.surface_snapshots.proofs.RowLemmas.{level_there}

-- a list whose front stays, and behind it another
module _ (a i : ℕ) (list row rest : List ℤ) (room : a ≤ length list) where
  front_stays : i < a → slice_index_or (take a list ++ (row ++ rest)) i (pos 0) ≡ slice_index_or list i (pos 0)
  front_stays l =
      get_or_append_left (take a list) (row ++ rest) (pos 0) i (omega (arith, length-take-le a list room, l))
      ∙ get_or-take a list i (pos 0) l

  row_behind : a ≤ i → i - a < length row → slice_index_or (take a list ++ (row ++ rest)) i (pos 0) ≡ slice_index_or row (i - a) (pos 0)
  row_behind l m =
      get_or-append_right (take a list) (row ++ rest) a i (pos 0) (length-take-le a list room) l
      ∙ get_or_append_left row rest (pos 0) (i - a) m

-- a row is written behind the front of a strip
module _ (s : ShiftedTiles) (start y0 k : ℕ) (list row rest : List ℤ) where
  abbrev width : ℕ
  width = s.scene.now.phase.width

  pub strip_more : y0 * width ≡ start → k * width ≤ length list → width ≤ length row → AreLevelsFrom s start (k * width) list → BeginsWithRow (level_at s) (y0 + k) width row → AreLevelsFrom s start ((k + 1) * width) (take (k * width) list ++ (row ++ rest))
  strip_more starts room wide filled front x y across from upto =
      let i = y * width + x - start in
      elim (cases_lt i (k * width)) [
        | inl before ↦ front_stays (k * width) i list row rest room before ∙ filled x y across from (omega (arith, from, before))
        | inr after ↦
            (let c = i - k * width in
            let e : y * width + x ≡ (y0 + k) * width + c = omega (arith, from, after, starts) in
            let l : c < width = omega (arith, from, upto, after) in
            let same = same_from_place y x (y0 + k) c width across l e in
            row_behind (k * width) i list row rest room after (omega (arith, l, wide))
            ∙ front c l
            ∙ subst (λ (n : ℕ). level_at s c n ≡ level_at s x y) same.0
            (subst (λ (n : ℕ). level_at s n y ≡ level_at s x y) same.1 refl))
      ]

-- the row of a strip's first pixel
pub starts_row : (start w : ℕ) → start % w ≡ 0 → start / w * w ≡ start
starts_row start w from = omega (arith, div-add-mod' start w, from)

-- so many whole rows, and one of them
pub row_within : (n w k : ℕ) → 0 < w → k < n / w → (k + 1) * w ≤ n
row_within n w k wide below = (le-div_iff_mul-le {k = w} {x = k + 1} {y = n} wide).0 (omega (arith, below))

-- a number of rows, and what is left of so many, are whole rows
multiple_of : (k w n : ℕ) → 0 < w → n ≡ k * w → n % w ≡ 0
multiple_of k w n wide e =
    let same : n ≡ k * w + 0 = omega (arith, e) in
    ap (λ (m : ℕ). m % w) same ∙ mod-mul-add k w 0 wide

-- the whole raster is a strip
pub whole_strip : (s : ShiftedTiles) (n : ℕ) → 0 < s.scene.now.phase.width → n ≡ s.scene.now.phase.height * s.scene.now.phase.width → IsStrip s 0 n
whole_strip s n wide e = record {
  from = multiple_of 0 s.scene.now.phase.width 0 wide (omega arith);
  rows = multiple_of s.scene.now.phase.height s.scene.now.phase.width n wide e;
  within = omega (arith, e);
}

-- an open pixel whose place is one of n
there : (x w y h start place n : ℕ) (o : Bool) → x < w → y < h → IsTrue o → start ≤ place → place < start + n → IsTrue ((nat_lt x w && nat_lt y h && o) && (nat_le start place && nat_lt place (start + n)))
there x w y h start place n true l k t from below = grind (arith, nat_tests)
there x w y h start place n false l k t from below = cc

pub is_there : (w h start place n : ℕ) (x y : ℕ) (o : Bool) → IsTrue ((nat_lt x w && nat_lt y h && o) && (nat_le start place && nat_lt place (start + n))) → IsTrue (nat_lt x w && nat_lt y h && o) × (start ≤ place) × (place < start + n)
is_there w h start place n x y o t =
    let p = and_parts (nat_lt x w && nat_lt y h && o) (nat_le start place && nat_lt place (start + n)) t in
    let q = and_parts (nat_le start place) (nat_lt place (start + n)) p.1 in
    (p.0, grind (arith, nat_tests, q), grind (arith, nat_tests, q))

-- so many rows from one on are a strip
pub rows_strip : (s : ShiftedTiles) (first rows n : ℕ) → 0 < s.scene.now.phase.width → first + rows ≤ s.scene.now.phase.height → n ≡ rows * s.scene.now.phase.width → IsStrip s (first * s.scene.now.phase.width) n
rows_strip s first rows n wide within e =
    let w = s.scene.now.phase.width in record {
      from = multiple_of first w (first * w) wide refl;
      rows = multiple_of rows w n wide e;
      within = omega (arith, e, mul-le-mul_right w within);
    }

-- each row of a block is listed, and the next one, as far as the raster goes
pub rows_listed : (s : ShiftedTiles) (first end below n y : ℕ) → first ≤ end → end ≤ s.scene.now.phase.height → below ≡ min (end + 1) s.scene.now.phase.height → n ≡ (below - first) * s.scene.now.phase.width → first ≤ y → y < end → HaveRow s (first * s.scene.now.phase.width) n y
rows_listed s first end below n y some within is e from upto =
    let w = s.scene.now.phase.width in
    let all : first * w + n ≡ below * w = rows_after first below n w (omega (arith, some, within, is)) e in
    let row : (y + 1) * w ≤ below * w = mul-le-mul_right w (omega (arith, within, is, upto)) in (
      mul-le-mul_right w from,
      omega (arith, all, row),
      λ l. (let next : (y + 2) * w ≤ below * w = mul-le-mul_right w (omega (arith, is, upto, l)) in
          omega (arith, all, next)),
    )
  where
    rows_after : (a b n w : ℕ) → a ≤ b → n ≡ (b - a) * w → a * w + n ≡ b * w
    rows_after a b n w l e =
        let rows : b ≡ a + (b - a) = omega (arith, l) in
        let all : b * w ≡ (a + (b - a)) * w = ap (λ (k : ℕ). k * w) rows in
        omega (arith, all, e)

-- strips of so many rows begin before the end of the raster, and all of them have all of its rows
pub strip_begins : (h rows place : ℕ) → 0 < rows → place < h / rows + min 1 (h % rows) → place * rows < h
strip_begins h rows place some below =
    let next : place + 1 ≤ h / rows + min 1 (h % rows) = omega (arith, below) in
    omega (arith, (div_ceil_times h rows some).1, mul-le-mul_right rows next)

pub strips_end : (h rows place : ℕ) → 0 < rows → h / rows + min 1 (h % rows) ≤ place → min (place * rows) h ≡ h
strips_end h rows place some past = omega (arith, (div_ceil_times h rows some).0, mul-le-mul_right rows past)

-- the costs of the strips so far and of one more
module _ (s : ShiftedTiles) (rows place : ℕ) (c n : Costs) (begins : place * rows < s.scene.now.phase.height) (before : AreCounted s 0 (min (place * rows) s.scene.now.phase.height) c) (told : AreCounted s (place * rows) (min ((place + 1) * rows) s.scene.now.phase.height) n) where
  abbrev next : ℕ
  next = min ((place + 1) * rows) s.scene.now.phase.height

  so_far : AreCounted s 0 (place * rows) c
  so_far = let same : min (place * rows) s.scene.now.phase.height ≡ place * rows = omega (arith, begins) in subst (λ (m : ℕ). AreCounted s 0 m c) same before

  onward : place * rows ≤ next
  onward = omega (arith, begins)

  pub strips_more : (m : Costs) → m.tiles ≡ c.tiles + n.tiles → m.seams ≡ c.seams + n.seams → AreCounted s 0 next m
  strips_more = rows_more (raster_under s) (open_under s) (lifted (raster_under s) (cycles_under s)) 0 (place * rows) next c n (omega arith) onward so_far told

  pub strips_fit : (c.tiles + n.tiles < 2 ^ 128) × (c.seams + n.seams < 2 ^ 128)
  strips_fit = rows_fit (raster_under s) (open_under s) (lifted (raster_under s) (cycles_under s)) 0 (place * rows) next c n (omega arith) onward so_far told (omega (arith, s.scene.now.high))

-- what is known of a row that is listed: its open pixels, and those of the next one
pub row_known : (s : ShiftedTiles) (start n y : ℕ) → HaveRow s start n y → KnowsOpenRows (raster_under s) (open_under s) (is_open_there s start n) y (y + 1)
row_known s start n y listed a b across along from upto clear =
    let w = s.scene.now.phase.width in
    elim (cases_lt y b) [
      | inl l ↦
          (let e : b ≡ y + 1 = omega (arith, l, upto) in
          let m : b * w ≡ y * w + w = rw e (omega arith) in
          there a w b s.scene.now.phase.height start (b * w + a) n (open_under s a b) across along clear (omega (arith, m, listed.0)) (omega (arith, m, across, listed.2 (omega (arith, along, e)))))
      | inr l ↦
          (let e : b ≡ y = omega (arith, l, from) in
          let m : b * w ≡ y * w = rw e refl in
          there a w b s.scene.now.phase.height start (b * w + a) n (open_under s a b) across along clear (omega (arith, m, listed.0)) (omega (arith, m, across, listed.1)))
    ]

-- a list of levels is one of cycles
pub levels_listed : (s : ShiftedTiles) (list : List ℤ) → length list ≡ s.scene.now.phase.height * s.scene.now.phase.width → ((x y : ℕ) → x < s.scene.now.phase.width → y < s.scene.now.phase.height → slice_index_or list (y * s.scene.now.phase.width + x) (pos 0) ≡ level_at s x y) → AreListedCycles s (s.scene.now.phase.height * s.scene.now.phase.width) list
levels_listed s list count levels = record { count = count; at = λ x y across along clear below. levels x y across along ∙ level_there s x y clear }

-- that of the whole raster has the cycles of all pixels
pub strip_listed : (s : ShiftedTiles) (list : List ℤ) → length list ≡ s.scene.now.phase.height * s.scene.now.phase.width → AreLevelsFrom s 0 (length list) list → AreListedCycles s (s.scene.now.phase.height * s.scene.now.phase.width) list
strip_listed s list count filled =
    levels_listed s list count (λ x y across along.
    (let i = y * s.scene.now.phase.width + x in
    let same : i ≡ i - 0 = omega arith in
    ap (λ (n : ℕ). slice_index_or list n (pos 0)) same
    ∙ filled x y across (omega arith) (omega (arith, count, mul-add-lt y s.scene.now.phase.width x s.scene.now.phase.height along across))))
