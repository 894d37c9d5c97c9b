-- Sizes within the limits of a raster, and within those of a reader.
use Rattle.std.proofs.Common.{◌≡◌, ℕ, ◌*◌, ◌/◌, ◌≤◌, ◌<◌, ◌^◌, min, true, refl, arith}
use Rattle.std.specs.Prelude.{IsTrue, ◌&&◌, nat_le}
use Rattle.std.proofs.lemmas.Bool.{le-leb, leb-true}
use Rattle.std.proofs.lemmas.Nat.{div-add-mod', le-div, mul-le}
use Rattle.raster_model.specs.Limits.{is_raster_size, is_tiled_size}
use Rattle.sums_and_lists.proofs.Tests.{and_first, and_second}
use Rattle.grid_writer.specs.declared.read.Sizes.{Sizes}
use Rattle.grid_writer.specs.GridParts.{AreSizes, HasSizeWithin}

pub record Sized (w h : ℕ) : Type 0 where
  pub wide : 1 ≤ w
  pub narrow : w ≤ 4096
  pub high : 1 ≤ h
  pub low : h ≤ 4096
  pub few : w * h ≤ 4194304

pub sized_parts : (w h : ℕ) → IsTrue (is_tiled_size w h) → Sized w h
sized_parts w h s =
    let two = nat_le 1 w && nat_le w 4096 in
    let three = two && nat_le 1 h in
    let four = three && nat_le h 4096 in
    let s4 = and_first four (nat_le (w * h) 4194304) s in
    let s3 = and_first three (nat_le h 4096) s4 in
    let s2 = and_first two (nat_le 1 h) s3 in
    record {
      wide = leb-true 1 w (and_first (nat_le 1 w) (nat_le w 4096) s2);
      narrow = leb-true w 4096 (and_second (nat_le 1 w) (nat_le w 4096) s2);
      high = leb-true 1 h (and_second two (nat_le 1 h) s3);
      low = leb-true h 4096 (and_second three (nat_le h 4096) s4);
      few = leb-true (w * h) 4194304 (and_second four (nat_le (w * h) 4194304) s);
    }

pub sized_by : (w h : ℕ) → Sized w h → IsTrue (is_tiled_size w h)
sized_by w h s =
    let a : nat_le 1 w ≡ true = le-leb 1 w s.wide in
    let b : nat_le w 4096 ≡ true = le-leb w 4096 s.narrow in
    let c : nat_le 1 h ≡ true = le-leb 1 h s.high in
    let d : nat_le h 4096 ≡ true = le-leb h 4096 s.low in
    let e : nat_le (w * h) 4194304 ≡ true = le-leb (w * h) 4194304 s.few in
    rw (a, b, c, d, e) refl

-- the same of a raster that has no tiles
pub record WideSized (w h : ℕ) : Type 0 where
  pub wide : 1 ≤ w
  pub narrow : w ≤ 65535
  pub high : 1 ≤ h
  pub low : h ≤ 65535
  pub few : w * h ≤ 268435456

pub wide_parts : (w h : ℕ) → IsTrue (is_raster_size w h) → WideSized w h
wide_parts w h s =
    let two = nat_le 1 w && nat_le w 65535 in
    let three = two && nat_le 1 h in
    let four = three && nat_le h 65535 in
    let s4 = and_first four (nat_le (w * h) 268435456) s in
    let s3 = and_first three (nat_le h 65535) s4 in
    let s2 = and_first two (nat_le 1 h) s3 in
    record {
      wide = leb-true 1 w (and_first (nat_le 1 w) (nat_le w 65535) s2);
      narrow = leb-true w 65535 (and_second (nat_le 1 w) (nat_le w 65535) s2);
      high = leb-true 1 h (and_second two (nat_le 1 h) s3);
      low = leb-true h 65535 (and_second three (nat_le h 65535) s4);
      few = leb-true (w * h) 268435456 (and_second four (nat_le (w * h) 268435456) s);
    }

pub wide_by : (w h : ℕ) → WideSized w h → IsTrue (is_raster_size w h)
wide_by w h s =
    let a : nat_le 1 w ≡ true = le-leb 1 w s.wide in
    let b : nat_le w 65535 ≡ true = le-leb w 65535 s.narrow in
    let c : nat_le 1 h ≡ true = le-leb 1 h s.high in
    let d : nat_le h 65535 ≡ true = le-leb h 65535 s.low in
    let e : nat_le (w * h) 268435456 ≡ true = le-leb (w * h) 268435456 s.few in
    rw (a, b, c, d, e) refl

pub wide_sized : (w h : ℕ) → Sized w h → WideSized w h
wide_sized w h s = record { wide = s.wide; narrow = omega (arith, s.narrow); high = s.high; low = omega (arith, s.low); few = omega (arith, s.few) }

-- a raster that may have tiles may be
pub tiled_is_raster : (w h : ℕ) → IsTrue (is_tiled_size w h) → IsTrue (is_raster_size w h)
tiled_is_raster w h z = wide_by w h (wide_sized w h (sized_parts w h z))

pub small_width : (w h : ℕ) → WideSized w h → w < 2 ^ 64
small_width w h s = let n = s.narrow in omega (arith, n)

pub small_height : (w h : ℕ) → WideSized w h → h < 2 ^ 64
small_height w h s = let n = s.low in omega (arith, n)

-- the greatest height at a width
abbrev pub most_rows : Sizes → ℕ → ℕ
most_rows s w = min s.most_height (s.most_pixels / w)

-- a size within a reader's limits is within those of a raster
pub size_within : (s : Sizes) → AreSizes s → (w h : ℕ) → HasSizeWithin s w h → WideSized w h
size_within s ok w h i = record { wide = omega (arith, i.wide, ok.wide); narrow = omega (arith, i.narrow, ok.narrow); high = omega (arith, i.high, ok.high); low = omega (arith, i.low, ok.low); few = omega (arith, i.few, ok.pixels) }

module _ (s : Sizes) (ok : AreSizes s) (w : ℕ) (wide : s.least_width ≤ w) (narrow : w ≤ s.most_width) where
  pub some_rows : s.least_height ≤ most_rows s w
  some_rows =
      let m = mul-le w s.least_height s.most_width s.least_height narrow (omega arith) in
      let d = le-div s.least_height s.most_pixels w (omega (arith, wide, ok.wide)) (omega (arith, m, ok.few)) in
      omega (arith, d, ok.heights)

  pub rows_below : (h : ℕ) → h ≤ s.most_height → w * h ≤ s.most_pixels → h ≤ most_rows s w
  rows_below h low few = let d = le-div h s.most_pixels w (omega (arith, wide, ok.wide)) (omega (arith, few)) in omega (arith, d, low)

  pub within_at : (h : ℕ) → s.least_height ≤ h → h ≤ most_rows s w → HasSizeWithin s w h
  within_at h high low =
      let d : h ≤ s.most_pixels / w = omega (arith, low) in
      let m = mul-le h w (s.most_pixels / w) w d (omega arith) in
      let e = div-add-mod' s.most_pixels w in
      record { wide = wide; narrow = narrow; high = high; low = omega (arith, low); few = omega (arith, m, e) }

  pub sized_within : (h : ℕ) → s.least_height ≤ h → h ≤ most_rows s w → WideSized w h
  sized_within h high low = size_within s ok w h (within_at h high low)
