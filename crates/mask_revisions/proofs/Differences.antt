-- Pixels at which two masks differ.
use Rattle.std.proofs.Common.{◌≡◌, ◌≢◌, ℕ, zero, suc, ◌<◌, ◌≤◌, ◌⊎◌, inl, inr, ap₂, refl, arith, Bool, true, false}
use Rattle.std.specs.Prelude.{IsTrue, ◌&&◌, ◌||◌, ◌==◌, nat_le, if◌then◌else◌}
use Rattle.std.proofs.lemmas.Bool.Decides.{nat_tests}
use Rattle.raster_model.specs.declared.script.Rect.{Rect}
use Rattle.raster_model.specs.declared.tiling.Tiling.{Tiling}
use Rattle.raster_model.specs.Sums.{Field}
use Rattle.raster_model.specs.Tiles.{tile_at}
use Rattle.mask_revisions.specs.Edits.{has_pixel, any_below, differs, differ_in}
use Rattle.sums_and_lists.proofs.Tests.{true_and_false}
use Rattle.sums_and_lists.proofs.Orders.{below_or_at}
use Rattle.std.proofs.lemmas.Bool.{or_right, or_left}

-- ---- some number below a bound
pub any_from : (n : ℕ) (p : ℕ → Bool) (i : ℕ) → i < n → IsTrue (p i) → IsTrue (any_below n p)
unfolding any_below
any_from zero p i l t = absurd (omega arith)
any_from (suc n) p i l t = elim (below_or_at i n l) [
  | inl m ↦ or_right (p n) (any_below n p) (any_from n p i m t)
  | inr e ↦ or_left (p n) (any_below n p) (rw e at t)
]

pub any_tells : (n : ℕ) (p : ℕ → Bool) → IsTrue (any_below n p) → (i : ℕ) × (i < n) × IsTrue (p i)
unfolding any_below
any_tells zero p t = cc
any_tells (suc n) p t = elim (or_says (p n) (any_below n p) t) [
  | inl h ↦ (n, omega arith, h)
  | inr h ↦ (let u = any_tells n p h in (u.0, omega (arith, u.1), u.2))
]
  where
    or_says : (a b : Bool) → IsTrue (a || b) → IsTrue a ⊎ IsTrue b
    or_says true b t = inl refl
    or_says false b t = inr t

any_same : (n : ℕ) (p q : ℕ → Bool) → ((i : ℕ) → i < n → p i ≡ q i) → any_below n p ≡ any_below n q
unfolding any_below
any_same zero p q h = refl
any_same (suc n) p q h = ap₂ (λ (a b : Bool). a || b) (h n (omega arith)) (any_same n p q (λ i l. h i (omega arith)))

-- ---- two masks
differs_from : (a b : Bool) → a ≢ b → IsTrue (differs a b)
differs_from true true n = absurd (n refl)
differs_from true false n = refl
differs_from false true n = refl
differs_from false false n = absurd (n refl)

differs_says : (a b : Bool) → IsTrue (differs a b) → a ≢ b
differs_says true true t e = cc
differs_says true false t e = cc
differs_says false true t e = cc
differs_says false false t e = cc

both : (t u : ℕ) (d : Bool) → t ≡ u → IsTrue d → IsTrue ((t == u) && d)
both t u d e h = grind (arith, nat_tests)

both_say : (t u : ℕ) (d : Bool) → IsTrue ((t == u) && d) → (t ≡ u) × IsTrue d
both_say t u d h = (grind (arith, nat_tests), grind (arith, nat_tests))

module _ (g : Tiling) (old new : Field Bool) (t : ℕ) where
  -- masks that differ at a pixel of a tile differ in it
  pub differ_from : (x y : ℕ) → x < g.width → y < g.height → tile_at g x y ≡ t → old x y ≢ new x y → IsTrue (differ_in g old new t)
  unfolding differ_in
  differ_from x y l m e n =
      any_from g.height (λ y. any_below g.width (λ x. (tile_at g x y == t) && differs (old x y) (new x y))) y m
      (any_from g.width (λ x. (tile_at g x y == t) && differs (old x y) (new x y)) x l (both (tile_at g x y) t (differs (old x y) (new x y)) e (differs_from (old x y) (new x y) n)))

  -- and where they differ in a tile there is such a pixel
  pub differ_tells : IsTrue (differ_in g old new t) → (x : ℕ) × (y : ℕ) × (x < g.width) × (y < g.height) × (tile_at g x y ≡ t) × (old x y ≢ new x y)
  unfolding differ_in
  differ_tells h =
      let r = any_tells g.height (λ y. any_below g.width (λ x. (tile_at g x y == t) && differs (old x y) (new x y))) h in
      let p = any_tells g.width (λ x. (tile_at g x r.0 == t) && differs (old x r.0) (new x r.0)) r.2 in
      let b = both_say (tile_at g p.0 r.0) t (differs (old p.0 r.0) (new p.0 r.0)) p.2 in
      (p.0, r.0, p.1, r.1, b.0, differs_says (old p.0 r.0) (new p.0 r.0) b.1)

same_bits : (a b : Bool) → (a ≢ b → ⊥) → a ≡ b
same_bits true true n = refl
same_bits true false n = absurd (n (λ e. cc))
same_bits false true n = absurd (n (λ e. cc))
same_bits false false n = refl

-- masks that do not differ in a tile are the same at each of its pixels
pub same_from : (g : Tiling) (old new : Field Bool) (t : ℕ) → differ_in g old new t ≡ false → (x y : ℕ) → x < g.width → y < g.height → tile_at g x y ≡ t → old x y ≡ new x y
same_from g old new t h x y l m e = same_bits (old x y) (new x y) (λ n. true_and_false (differ_in g old new t) (differ_from g old new t x y l m e n) h)

pub differ_same : (g : Tiling) (old new old' new' : Field Bool) (t : ℕ) → ((x y : ℕ) → x < g.width → y < g.height → old x y ≡ old' x y) → ((x y : ℕ) → x < g.width → y < g.height → new x y ≡ new' x y) → differ_in g old new t ≡ differ_in g old' new' t
unfolding differ_in
differ_same g old new old' new' t h k =
    any_same g.height (λ y. any_below g.width (λ x. (tile_at g x y == t) && differs (old x y) (new x y))) (λ y. any_below g.width (λ x. (tile_at g x y == t) && differs (old' x y) (new' x y)))
    (λ y m. any_same g.width (λ x. (tile_at g x y == t) && differs (old x y) (new x y)) (λ x. (tile_at g x y == t) && differs (old' x y) (new' x y))
    (λ x l. ap₂ (λ (a b : Bool). (tile_at g x y == t) && differs a b) (h x y l m) (k x y l m)))

-- ---- an edit at one pixel
pub box_says : (r : Rect) (x y : ℕ) → IsTrue (has_pixel r x y) → (r.x0 ≤ x) × (x ≤ r.x1) × (r.y0 ≤ y) × (y ≤ r.y1)
box_says r x y h = says r.x0 r.x1 r.y0 r.y1 x y h
  where
    says : (x0 x1 y0 y1 x y : ℕ) → IsTrue ((nat_le x0 x && nat_le x x1) && (nat_le y0 y && nat_le y y1)) → (x0 ≤ x) × (x ≤ x1) × (y0 ≤ y) × (y ≤ y1)
    says x0 x1 y0 y1 x y h = (grind (arith, nat_tests), grind (arith, nat_tests), grind (arith, nat_tests), grind (arith, nat_tests))

pub box_has : (r : Rect) (x y : ℕ) → r.x0 ≤ x → x ≤ r.x1 → r.y0 ≤ y → y ≤ r.y1 → has_pixel r x y ≡ true
box_has r x y p q s u = from r.x0 r.x1 r.y0 r.y1 x y p q s u
  where
    from : (x0 x1 y0 y1 x y : ℕ) → x0 ≤ x → x ≤ x1 → y0 ≤ y → y ≤ y1 → ((nat_le x0 x && nat_le x x1) && (nat_le y0 y && nat_le y y1)) ≡ true
    from x0 x1 y0 y1 x y p q s u = grind (arith, nat_tests)

pub chosen : (k u o : Bool) → o ≢ (if k then u else o) → (k ≡ true) × (o ≢ u)
chosen true u o n = (refl, n)
chosen false u o n = absurd (n refl)

pub chosen_from : (k u o : Bool) → k ≡ true → o ≢ u → o ≢ (if k then u else o)
chosen_from k u o e n = rw e n
