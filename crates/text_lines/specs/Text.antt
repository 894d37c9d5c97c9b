-- Pieces of lines.
use Rattle.std.specs.Prelude.{ℕ, zero, suc, List, [], ◌++◌, codes, decimal}
use Rattle.raster_model.specs.declared.script.Rect.{Rect}
use Rattle.raster_model.specs.declared.weights.RuleKind.{RuleKind}
use Rattle.raster_model.specs.declared.weights.RuleKind.TheVariants.{Least, Mean, Product}

-- a number after a space
unfoldable pub field_text : ℕ → List ℕ
field_text n = codes " " ++ decimal n

-- a box: the numbers of its corners, each after a space
unfoldable pub rect_text : Rect → List ℕ
rect_text rect = field_text rect.x0 ++ (field_text rect.y0 ++ (field_text rect.x1 ++ field_text rect.y1))

-- the name of a rule
abbrev pub rule_word : RuleKind → List ℕ
rule_word Least = codes "least"
rule_word Mean = codes "mean"
rule_word Product = codes "product"

-- the texts f 0, f 1 .. f (n - 1), one after the other
unfoldable pub texts_below : ℕ → (ℕ → List ℕ) → List ℕ
texts_below zero f = []
texts_below (suc n) f = texts_below n f ++ f n
