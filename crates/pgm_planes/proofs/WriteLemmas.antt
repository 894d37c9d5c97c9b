-- Texts that are written one after the other, and a text that was cut.
use Rattle.std.proofs.Common.{◌≡◌, ℕ, ◌+◌, ◌/◌, ◌%◌, ◌-◌, ◌≤◌, Bool, true, false, List, [], ◌∷◌, ◌++◌, take, drop, refl, sym, ap, ◌∙◌, arith}
use Rattle.pgm_planes.proofs.Words.{All, flat_map, AllByRecursion, recursion_from_All, take-add, flat_map-append, big_bytes, sample_text, raster_text}

-- a sample of two bytes
two_bytes : (v : ℕ) → v ≤ 65535 → big_bytes 2 v ≡ sample_text true v
two_bytes v le = let e : v / 256 % 256 ≡ v / 256 = omega arith in rw e refl

wide_from : (m : ℕ) (samples : List ℕ) → m ≤ 65535 → AllByRecursion (λ v. v ≤ m) samples → flat_map (big_bytes 2) samples ≡ raster_text true samples
wide_from m [] le a = refl
wide_from m (v ∷ vs) le a = ap (λ (t : List ℕ). t ++ flat_map (big_bytes 2) vs) (two_bytes v (omega (arith, a.0))) ∙ ap (λ (t : List ℕ). sample_text true v ++ t) (wide_from m vs le a.1)

pub wide_text : (m : ℕ) (samples : List ℕ) → m ≤ 65535 → All (λ v. v ≤ m) samples → flat_map (big_bytes 2) samples ≡ raster_text true samples
wide_text m samples le a = wide_from m samples le (recursion_from_All (λ v. v ≤ m) samples a)

pub narrow_text : (samples : List ℕ) → samples ≡ raster_text false samples
narrow_text [] = refl
narrow_text (v ∷ vs) = ap (λ (t : List ℕ). v ∷ t) (narrow_text vs)

module _ (wide : Bool) (samples : List ℕ) where
  -- the text of samples up to a place and of those from there to another
  pub more_samples : (start end : ℕ) → start ≤ end → raster_text wide (take start samples) ++ raster_text wide (take (end - start) (drop start samples)) ≡ raster_text wide (take end samples)
  more_samples start end le =
      let n : start + (end - start) ≡ end = omega arith in
      sym (flat_map-append (sample_text wide) (take start samples) (take (end - start) (drop start samples)))
      ∙ ap (raster_text wide) (sym (take-add start (end - start) samples))
      ∙ ap (λ (k : ℕ). raster_text wide (take k samples)) n
