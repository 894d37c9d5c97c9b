-- The text of a surface over the whole raster with what certifies it, in the one spelling of this project.
use Rattle.std.specs.Prelude.{◌≡◌, ℕ, ◌-◌, ◌*◌, ◌==◌, ℤ, IsTrue, if◌then◌else◌, List, ◌++◌, codes, drop, length, take}
use Rattle.raster_model.specs.declared.weights.RuleKind.{RuleKind}
use Rattle.raster_model.specs.Limits.{IsSlope, IsSteepness, is_raster_size}
use Rattle.raster_model.specs.Sums.{Field}
use Rattle.text_lines.specs.Forms.{Form}
use Rattle.text_lines.specs.Numbers.{AreLongs, numbers_text}
use Rattle.text_lines.specs.Parsing.{IsWide}
use Rattle.text_lines.specs.Text.{field_text, texts_below}
use Rattle.grid_writer.specs.Grid.{grid_text}
use Rattle.grid_writer.specs.Grids.{AreLong}
use Rattle.text_parts.specs.Terms.{TermsOf}
use Rattle.text_parts.specs.Text.{ended_line, ramp_line, rule_line, size_line, steep_line}

-- what a text tells: the size of the raster, its rule and its terms, what the surface costs, its value at each pixel, and a face for each cell of the raster in row order
pub record WholeOf : Type 0 where
  pub width : ℕ
  pub height : ℕ
  pub rule : RuleKind
  pub terms : TermsOf
  pub cost : ℕ
  pub values : Field ℤ
  pub faces : List ℤ

-- the line of the cost, and that of the faces of a row of cells
abbrev pub cost_line : ℕ → List ℕ
cost_line cost = codes "cost" ++ field_text cost

abbrev pub face_row : List ℤ → List ℕ
face_row row = codes "faces" ++ numbers_text row

-- row y of a list in row order, with so many numbers in a row, and the lines of the first rows
abbrev pub row_of : ℕ → List ℤ → ℕ → List ℤ
row_of across faces y = take across (drop (y * across) faces)

abbrev pub rows_text : ℕ → ℕ → List ℤ → List ℕ
rows_text rows across faces = texts_below rows (λ y. ended_line face_row (row_of across faces y))

-- so many rows of cells a raster has, and the lines of their faces
abbrev pub cell_rows : ℕ → ℕ → ℕ
cell_rows width height = if width == 1 then 0 else (height - 1)

unfoldable pub face_rows : ℕ → ℕ → List ℤ → List ℕ
face_rows width height faces = rows_text (cell_rows width height) (width - 1) faces

-- the lines before the grid, and the whole text
abbrev pub whole_head : (width height : ℕ) → RuleKind → TermsOf → (cost : ℕ) → List ℕ
whole_head width height rule terms cost = codes "insar-whole 1\n" ++ (ended_line size_line (width, height) ++ (ended_line rule_line rule ++ (ended_line ramp_line (terms.ramp_x, terms.ramp_y) ++ (ended_line steep_line terms.steep ++ ended_line cost_line cost))))

unfoldable pub whole_text : WholeOf → List ℕ
whole_text whole = whole_head whole.width whole.height whole.rule whole.terms whole.cost ++ (grid_text whole.width whole.height whole.values ++ (face_rows whole.width whole.height whole.faces ++ codes "end\n"))

-- numbers of 64 bits, one for each cell of a raster
abbrev pub AreCellFaces : ℕ → ℕ → List ℤ → Type 0
AreCellFaces width height faces = AreLongs faces × (length faces ≡ (width - 1) * (height - 1))

-- each number is in its range, and there is a face for each cell
pub record IsWhole (whole : WholeOf) : Type 0 where
  pub sized : IsTrue (is_raster_size whole.width whole.height)
  pub ramp : IsSlope whole.terms.ramp_x × IsSlope whole.terms.ramp_y
  pub steepness : IsSteepness whole.terms.steep
  pub cost : IsWide whole.cost
  pub values : AreLong whole.width whole.height whole.values
  pub faces : AreCellFaces whole.width whole.height whole.faces

-- the text of a surface over the whole raster
abbrev pub IsWholeText : Form
IsWholeText text = (whole : WholeOf) × (IsWhole whole × (text ≡ whole_text whole))
