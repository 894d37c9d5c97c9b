-- Edges in edge order, as double loops over pixels visit them.
use Rattle.std.proofs.Common.{◌≡◌, ◌∙◌, ℕ, ◌+◌, ◌<◌, ◌≤◌, refl, arith, Bool, true, false, inl, inr, ◌⊎◌}
use Rattle.raster_model.specs.declared.edge.Edge.{Edge}
use Rattle.raster_model.specs.Sums.{right_edge, down_edge}
use Rattle.raster_model.specs.Seams.{IsEarlier}
use Rattle.certificates.specs.EdgeOrder.{ComesBefore, HoldsAtAll, IsFirstBreak}
use Rattle.certificates.specs.EdgeWords.{HoldsIfPart, IsBreak, HoldsFrom, HoldsBefore, IsFirstBreakFrom}
use Rattle.sums_and_lists.proofs.Orders.{below_or_last}

-- what holds of both edges that start at a pixel holds of each
pub both_edges : (P : Edge → Type 0) (x y : ℕ) → P (right_edge x y) → P (down_edge x y) → (e : Edge) → e.x ≡ x → e.y ≡ y → P e
both_edges P x y p q e ex ey = go e.down
  where
    go : (d : Bool) → P (record { x = e.x; y = e.y; down = d })
    go true = rw (ex, ey) q
    go false = rw (ex, ey) p

-- one more pixel of a row
pub earlier_more : (a b x y : ℕ) → IsEarlier a b (x + 1) y → IsEarlier a b x y ⊎ ((a ≡ x) × (b ≡ y))
earlier_more a b x y (inl l) = inl (inl l)
earlier_more a b x y (inr m) = grind arith

-- a down edge does not come before itself
itself : (x y : ℕ) → ComesBefore (down_edge x y) (down_edge x y) → ⊥
itself x y (inl e) = grind arith
itself x y (inr e) = cc

-- no edge of a pixel comes before its right edge
no_earlier : (d : Edge) (x y : ℕ) → d.x ≡ x → d.y ≡ y → ComesBefore d (right_edge x y) → ⊥
no_earlier d x y ex ey (inl l) = grind arith
no_earlier d x y ex ey (inr m) = cc

module _ (Part Fact : Edge → Type 0) where
  -- the edges that start at a pixel
  pub right_first : (x y : ℕ) → IsBreak Part Fact (right_edge x y) → IsFirstBreakFrom Part Fact x y (right_edge x y)
  right_first x y u = record {
    place = (refl, refl);
    broken = u;
    first = λ d i ex ey b. absurd (no_earlier d x y ex ey b);
  }

  pub down_first : (x y : ℕ) → HoldsIfPart Part Fact (right_edge x y) → IsBreak Part Fact (down_edge x y) → IsFirstBreakFrom Part Fact x y (down_edge x y)
  down_first x y holds u = record {
    place = (refl, refl);
    broken = u;
    first = λ d i ex ey b. both_edges (λ (d : Edge). ComesBefore d (down_edge x y) → HoldsIfPart Part Fact d) x y (λ _. holds) (λ b. absurd (itself x y b)) d ex ey b i;
  }

  pub both_hold : (x y : ℕ) → HoldsIfPart Part Fact (right_edge x y) → HoldsIfPart Part Fact (down_edge x y) → HoldsFrom Part Fact x y
  both_hold x y p q e i ex ey = both_edges (HoldsIfPart Part Fact) x y p q e ex ey i

  -- the first of those at a pixel is the first of all, where all before the pixel hold
  pub first_of_all : (x y : ℕ) (e : Edge) → HoldsBefore Part Fact x y → IsFirstBreakFrom Part Fact x y e → IsFirstBreak Part Fact e
  first_of_all x y e before here = record {
    edge = here.broken.0;
    breaks = here.broken.1;
    first = λ d i b. go d i b;
  }
    where
      go : (d : Edge) → Part d → ComesBefore d e → Fact d
      go d i (inl l) = before d i (rw (← here.place.0, ← here.place.1) l)
      go d i (inr m) = here.first d i (m.0 ∙ here.place.0) (m.1 ∙ here.place.1) (inr m)

  pub one_more : (x y : ℕ) → HoldsBefore Part Fact x y → HoldsFrom Part Fact x y → HoldsBefore Part Fact (x + 1) y
  one_more x y before here e i b =
      elim (earlier_more e.x e.y x y b) [ inl l ↦ before e i l | inr m ↦ here e i m.0 m.1 ]

  -- where the part's edges start in the columns from a below b of the rows from c below d
  module _ (a b c d : ℕ) (inside : (e : Edge) → Part e → (a ≤ e.x) × (e.x < b) × (c ≤ e.y) × (e.y < d)) where
    pub none_before : HoldsBefore Part Fact a c
    none_before e i l = let w = inside e i in absurd (omega (arith, w, l))

    pub row_more : (x y : ℕ) → x ≡ b → HoldsBefore Part Fact x y → HoldsBefore Part Fact a (y + 1)
    row_more x y last before e i l =
        let w = inside e i in
        before e i (split e.y y e.x x (omega (arith, w, last)) (omega (arith, w, l)))
      where
        split : (a b c d : ℕ) → c < d → a ≤ b → (a < b) ⊎ ((a ≡ b) × (c < d))
        split a b c d l m = grind arith

    pub whole_row : (y : ℕ) → HoldsBefore Part Fact a y → ((e : Edge) → Part e → e.y ≡ y → Fact e) → HoldsBefore Part Fact a (y + 1)
    whole_row y before here e i (inl l) = elim (below_or_last e.y y l) [ inl m ↦ before e i (inl m) | inr m ↦ here e i m ]
    whole_row y before here e i (inr m) = let w = inside e i in absurd (omega (arith, w, m))

    pub all_before : (y : ℕ) → y ≡ d → HoldsBefore Part Fact a y → HoldsAtAll Part Fact
    all_before y last before e i = let w = inside e i in before e i (inl (omega (arith, w, last)))
