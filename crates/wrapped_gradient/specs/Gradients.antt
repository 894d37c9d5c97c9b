-- Wrapped differences over a window (Costantini 1998) and the residues of its cells (Goldstein, Zebker and Werner 1988).
use Rattle.std.specs.Prelude.{◌≡◌, ◌≢◌, ℕ, ℤ, pos, ◌+ℤ◌, int_div}
use Rattle.raster_model.specs.declared.edge.Edge.{Edge}
use Rattle.raster_model.specs.Sums.{Field}
use Rattle.raster_model.specs.Raster.{Raster, gradient, residue}
use Rattle.raster_model.specs.Seams.{IsEarlier}
use Rattle.raster_model.specs.Terms.{slope_of}
use Rattle.raster_model.specs.Tiles.{IsWindowIn}
use Rattle.wrapped_gradient.specs.GradientsView.{GradientsView}
use Rattle.wrapped_gradient.specs.Windows.{IsEdgeOf, IsCellOf, edge_value, round}

-- the wrapped difference that is held for an edge: the slope of the ramp and the edge's number
abbrev pub gradient_at : GradientsView → Edge → ℤ
gradient_at gradients edge = slope_of gradients.terms edge.down +ℤ edge_value gradients.window gradients.right gradients.down edge

-- the residue of a cell: the whole cycles of the sum of the wrapped differences round it
abbrev pub residue_at : GradientsView → Field ℤ
residue_at gradients x y = int_div (round (gradient_at gradients) x y) (pos 65536)

-- the window lies in the raster, and what is held for its edges are the raster's wrapped differences
pub record AreGradientsOf (raster : Raster) (gradients : GradientsView) : Type 0 where
  pub inside : IsWindowIn raster.width raster.height gradients.window
  pub differences : (e : Edge) → IsEdgeOf gradients.window e → gradient_at gradients e ≡ gradient raster e

-- the residues of the window's cells are those of the raster
abbrev pub HaveResiduesOf : Raster → GradientsView → Type 0
HaveResiduesOf raster gradients = (x y : ℕ) → IsCellOf gradients.window x y → residue_at gradients x y ≡ residue raster x y

-- no cell of the window has a residue other than 0
abbrev pub HasNoResidue : GradientsView → Type 0
HasNoResidue gradients = (x y : ℕ) → IsCellOf gradients.window x y → residue_at gradients x y ≡ pos 0

-- (x, y) is the first cell in row order that has one
pub record IsFirstResidue (gradients : GradientsView) (x y : ℕ) : Type 0 where
  pub cell : IsCellOf gradients.window x y
  pub residue : residue_at gradients x y ≢ pos 0
  pub first : (a b : ℕ) → IsCellOf gradients.window a b → IsEarlier a b x y → residue_at gradients a b ≡ pos 0
