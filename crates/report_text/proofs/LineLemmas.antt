-- The lines of a report have no line feed in them, and the short ones are short.
use Rattle.std.proofs.Common.{ℕ, ◌+◌, ◌-◌, ◌/◌, ◌≤◌, IsTrue, List, mul-le-mul, Option, Some, None, inl, inr, refl, arith}
use Rattle.std.specs.Prelude.{ℤ, codes}
use Rattle.std.proofs.Math.Nat.{div-le_self}
use Rattle.std.proofs.lemmas.Bool.{cases_lt}
use Rattle.insar_ports.specs.Lines.{IsInLine}
use Rattle.raster_model.specs.Limits.{is_tiled_size, IsTileSide}
use Rattle.raster_model.specs.declared.script.Edit.TheVariants.{Mask, Unmask}
use Rattle.raster_model.specs.declared.script.Rect.{Rect}
use Rattle.tile_board.specs.declared.entry.Entry.{Entry}
use Rattle.tile_board.specs.declared.entry.Entry.TheVariants.{Revised, Kept, Published, Settled, Shown}
use Rattle.text_lines.specs.Numbers.{AreLongs, numbers_text}
use Rattle.text_lines.specs.Parsing.{IsRectOfWords, IsWide}
use Rattle.text_lines.specs.Text.{rect_text, field_text}
use Rattle.text_lines.proofs.FieldLemmas.{all_both}
use Rattle.text_lines.proofs.FormLemmas.{InLine}
use Rattle.text_lines.proofs.NumberLines.{text_in_line}
use Rattle.report_text.specs.Contents.{IsEntryOfWords, MayBeWord}
use Rattle.report_text.specs.Parsing.{AreCosts}
use Rattle.report_text.specs.Parts.{AreFacesOf, MayStand}
use Rattle.report_text.specs.Terms.{IsVersion}
use Rattle.report_text.specs.Text.{costs_line, entry_text, faces_front, faces_line, flows_line, history_line, revision_text, tile_line, tiles_by, version_line}
use Rattle.text_parts.proofs.LineLemmas.{Fits, fits_both, fits_more, word_in_line, word_fits, field_in_line, wide_fits, field_fits, pair_fits, size_parts}

-- ---- words and fields

rect_fits : (r : Rect) → IsRectOfWords r → Fits 44 (rect_text r)
unfolding rect_text
rect_fits r w = fits_both (field_fits r.x0 w.x0) (fits_both (field_fits r.y0 w.y0) (pair_fits r.x1 r.y1 w.x1 w.y1))

revision_fits : (o : Option ℕ) → MayBeWord o → Fits 11 (revision_text o)
revision_fits (Some n) w = field_fits n w
revision_fits None w = fits_more (word_fits (codes " none") refl) (omega arith)

-- ---- lines

pub version_small : (version : ℕ) → IsVersion version → (1 ≤ version) × (version ≤ 2)
version_small version (inl e) = (omega (arith, e), omega (arith, e))
version_small version (inr e) = (omega (arith, e), omega (arith, e))

pub version_in : (version : ℕ) → 1 ≤ version → version ≤ 2 → IsVersion version
version_in version a b = elim (cases_lt version 2) [ inl l ↦ inl (omega (arith, a, l)) | inr l ↦ inr (omega (arith, b, l)) ]

entry_fits : (e : Entry) → IsEntryOfWords e → Fits 128 (entry_text e)
entry_fits (Revised n (Mask r)) w = fits_more (fits_both (word_fits (codes "revised") refl) (fits_both (field_fits n w.0) (fits_both (word_fits (codes " mask") refl) (rect_fits r w.1)))) (omega arith)
entry_fits (Revised n (Unmask r)) w = fits_more (fits_both (word_fits (codes "revised") refl) (fits_both (field_fits n w.0) (fits_both (word_fits (codes " unmask") refl) (rect_fits r w.1)))) (omega arith)
entry_fits (Kept m n) w = fits_more (fits_both (word_fits (codes "kept") refl) (pair_fits m n w.0 w.1)) (omega arith)
entry_fits (Published m n) w = fits_more (fits_both (word_fits (codes "published") refl) (pair_fits m n w.0 w.1)) (omega arith)
entry_fits (Settled m n) w = fits_more (fits_both (word_fits (codes "settled") refl) (pair_fits m n w.0 w.1)) (omega arith)
entry_fits (Shown n o) w = fits_more (fits_both (word_fits (codes "shown") refl) (fits_both (field_fits n w.0) (revision_fits o w.1))) (omega arith)

pub history_fits : (o : Option Entry) → MayStand o → Fits 128 (history_line o)
history_fits (Some e) a = entry_fits e a
history_fits None a = fits_more (word_fits (codes "end") refl) (omega arith)

pub costs_fit : (p : ℕ × ℕ) → AreCosts p → Fits 128 (costs_line p)
costs_fit p a = fits_more (fits_both (word_fits (codes "costs") refl) (fits_both (wide_fits p.0 a.0) (wide_fits p.1 a.1))) (omega arith)

pub version_fits : (version : ℕ) → IsVersion version → Fits 128 (version_line version)
version_fits version v = fits_more (fits_both (word_fits (codes "insar-report") refl) (field_fits version (let s = version_small version v in omega (arith, s)))) (omega arith)

pub side_fits : (side : ℕ) → IsTileSide side → Fits 128 (tile_line side)
side_fits side s = fits_more (fits_both (word_fits (codes "tile") refl) (field_fits side (omega (arith, s.1)))) (omega arith)

-- so is a number of tiles
along_small : (pixels side : ℕ) → pixels ≤ 4096 → IsTileSide side → (pixels + side - 1) / side ≤ 4223
along_small pixels side p s = let q = div-le_self (pixels + side - 1) side in let t = s.1 in omega (arith, p, q, t)

pub tiles_small : (w h side : ℕ) → IsTrue (is_tiled_size w h) → IsTileSide side → IsWide (tiles_by w h side)
tiles_small w h side z s = let p = size_parts w h z in let c = mul-le-mul (along_small h side p.1 s) (along_small w side p.0 s) in omega (arith, c)

-- lines of numbers, which may be long
pub faces_in_line : (tile : ℕ) (faces : List ℤ) → AreFacesOf tile faces → InLine (faces_line tile faces)
faces_in_line tile faces a = all_both IsInLine (faces_front tile) (numbers_text faces) (all_both IsInLine (codes "faces") (field_text tile) (word_in_line (codes "faces") refl) (field_in_line tile a.0)) (text_in_line faces a.1)

pub flows_in_line : (flows : List ℤ) → AreLongs flows → InLine (flows_line flows)
flows_in_line flows f = all_both IsInLine (codes "flows") (numbers_text flows) (word_in_line (codes "flows") refl) (text_in_line flows f)
