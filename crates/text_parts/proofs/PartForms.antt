-- Lines and grids as parts of texts.
use Rattle.std.proofs.Common.{List, length, IsTrue, rules, inl, ◌≡◌, ℕ, pos, [], Result, Ok, Err, refl, ap, ◌∙◌, arith}
use Rattle.std.specs.Global.{Vec}
use Rattle.std.specs.Prelude.{IfErr, IfOk, ℤ}
use Rattle.std.proofs.lemmas.Int.{ints}
use Rattle.std.proofs.lemmas.List.Elements.{All-from_recursion}
use Rattle.raster_model.specs.Limits.{is_raster_size, is_tiled_size, IsSlope, IsSteepness}
use Rattle.raster_model.specs.declared.weights.RuleKind.TheVariants.{Least}
use Rattle.text_lines.specs.declared.fault.LineFault.{LineFault}
use Rattle.text_lines.specs.LineWords.{TakesLines}
use Rattle.text_lines.specs.Reading.{HasLineCause}
use Rattle.text_lines.specs.Numbers.{AreLongs, FitsLong}
use Rattle.text_lines.specs.Parsing.{IsAnyRule}
use Rattle.grid_writer.specs.Grid.{grid_text}
use Rattle.grid_writer.specs.declared.values.Grid.{Grid}
use Rattle.grid_writer.specs.Grids.{AreLong, IsGrid, IsGridTextOf, grid_of, text_of_grid, value_at}
use Rattle.text_parts.specs.Parts.{IsRamp, IsRasterSize, IsWholeSize, rows_of, values_in}
use Rattle.text_parts.specs.Steps.{Advances, LinePlace, ReadsPart, between}
use Rattle.text_parts.specs.Text.{known_line, ramp_line, rule_line, size_line, steep_line}
use Rattle.grid_writer.proofs.GridReads.{known_code}
use Rattle.grid_writer.proofs.SizeLemmas.{tiled_is_raster}
use Rattle.text_lines.proofs.FormLemmas.{InLine}
use Rattle.text_parts.proofs.LineLemmas.{ramp_fits, rule_fits, size_fits, steep_fits, whole_size_fits}
use Rattle.text_parts.proofs.ReadsLemmas.{IsLineKind, IsPart, reads_ok, short_kind}

pub none_long : AreLongs []
none_long = All-from_recursion FitsLong [] tt

pub level : IsSlope (pos 0)
level = (omega (arith, ints), omega (arith, ints))

pub ramp_kind : IsLineKind IsRamp ramp_line 128
ramp_kind = short_kind ((pos 0, pos 0), (level, level)) ramp_fits

pub steep_kind : IsLineKind IsSteepness steep_line 128
steep_kind = short_kind (1, (omega arith, omega arith)) steep_fits

pub size_kind : IsLineKind IsRasterSize size_line 128
size_kind = short_kind ((1, 1), refl) size_fits

pub whole_size_kind : IsLineKind IsWholeSize size_line 128
whole_size_kind = short_kind ((1, 1), refl) whole_size_fits

pub rule_kind : IsLineKind IsAnyRule rule_line 128
rule_kind = short_kind (Least, tt) (λ r _. rule_fits r)

-- a grid that was read, as the values of the raster
pub grid_reads : {v w : LinePlace} (width height : ℕ) (r : Result Grid LineFault) → Advances v w → IfOk r (λ g. (g.width ≡ width) × (g.height ≡ height)) → IfOk r (λ g. IsGrid (grid_of g)) → IfOk r (λ g. TakesLines (λ bytes. bytes ≡ text_of_grid (grid_of g)) v.number w.number (between v w)) → IfErr r (HasLineCause (IsGridTextOf width height) v.number (between v w)) → ReadsPart values_in (AreLong width height) (grid_text width height) v w r
grid_reads width height (Ok g) a s f t e = reads_ok (record { advance = a; taken = t }) (rw (← s.0, ← s.1) f.fits) (ap (λ (n : ℕ). grid_text n g.height (values_in g)) s.0 ∙ ap (λ (n : ℕ). grid_text width n (values_in g)) s.1)
grid_reads width height (Err y) a s f t e = record { advance = a; read = tt; refused = e }

-- the same of its values alone
pub values_read : {v w : LinePlace} (width height : ℕ) (r : Result (Vec ℤ) LineFault) → Advances v w → IfOk r (λ values. AreLong width height (value_at width values.items)) → IfOk r (λ values. TakesLines (λ bytes. bytes ≡ grid_text width height (value_at width values.items)) v.number w.number (between v w)) → IfErr r (HasLineCause (IsGridTextOf width height) v.number (between v w)) → ReadsPart (rows_of width) (AreLong width height) (grid_text width height) v w r
values_read width height (Ok values) a f t e = reads_ok (record { advance = a; taken = t }) f refl
values_read width height (Err y) a f t e = record { advance = a; read = tt; refused = e }

-- a grid of a size within the limits
pub values_part : (width height : ℕ) → IsTrue (is_raster_size width height) → IsPart (AreLong width height) (grid_text width height)
values_part width height z = record { some = ((λ x y. pos 0), λ x y p q. search rules); code = known_code width height z }

pub grid_part : (width height : ℕ) → IsTrue (is_tiled_size width height) → IsPart (AreLong width height) (grid_text width height)
grid_part width height z = values_part width height (tiled_is_raster width height z)

-- a line that is known
pub known_kind : {A : Type 0} (text : List ℕ) → A → InLine text → IsLineKind IsAnyRule (known_line {A = A} text) (length text)
known_kind text a inside = record { some = (a, tt); inside = λ b p. inside; short = inl (λ b p. omega arith) }
