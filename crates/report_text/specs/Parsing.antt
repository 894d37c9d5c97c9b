-- What the helpers that read a line say: words that no clause of a public function cites.
use Rattle.std.specs.Prelude.{ℕ, List, ◌++◌, Option, codes}
use Rattle.raster_model.specs.declared.script.Edit.{Edit}
use Rattle.raster_model.specs.declared.script.Edit.TheVariants.{Mask, Unmask}
use Rattle.report_text.specs.Contents.{MayBeWord}
use Rattle.text_lines.specs.Parsing.{IsWide, IsRectOfWords, IsWord}
use Rattle.report_text.specs.Text.{revision_text}
use Rattle.text_lines.specs.Text.{rect_text, field_text}

-- two costs
abbrev pub AreCosts : ℕ × ℕ → Type 0
AreCosts p = IsWide p.0 × IsWide p.1

-- an edit
abbrev pub IsEditOfWords : Edit → Type 0
IsEditOfWords (Mask rect) = IsRectOfWords rect
IsEditOfWords (Unmask rect) = IsRectOfWords rect

abbrev pub edit_text : Edit → List ℕ
edit_text (Mask rect) = codes " mask" ++ rect_text rect
edit_text (Unmask rect) = codes " unmask" ++ rect_text rect

-- an analyst and an edit, and an analyst and a revision that may be missing
abbrev pub IsRevisedOfWords : ℕ × Edit → Type 0
IsRevisedOfWords p = IsWord p.0 × IsEditOfWords p.1

abbrev pub revised_text : ℕ × Edit → List ℕ
revised_text p = field_text p.0 ++ edit_text p.1

abbrev pub IsShownOfWords : ℕ × Option ℕ → Type 0
IsShownOfWords p = IsWord p.0 × MayBeWord p.1

abbrev pub shown_text : ℕ × Option ℕ → List ℕ
shown_text p = field_text p.0 ++ revision_text p.1
