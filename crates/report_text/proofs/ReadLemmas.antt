-- What readers of a line say of its parts they say of the line.
use Rattle.std.proofs.Common.{◌≡◌, ℕ, List, ◌++◌, Option, Some, None, inr, refl}
use Rattle.std.specs.Prelude.{◌≢◌, codes}
use Rattle.raster_model.specs.declared.script.Edit.{Edit}
use Rattle.raster_model.specs.declared.script.Edit.TheVariants.{Mask, Unmask}
use Rattle.text_lines.specs.Numbers.{BeginsField}
use Rattle.text_lines.specs.Parsing.{AreWords, IsWord, pair_text}
use Rattle.text_lines.specs.Text.{field_text, rect_text}
use Rattle.tile_board.specs.declared.entry.Entry.{Entry}
use Rattle.tile_board.specs.declared.entry.Entry.TheVariants.{Revised, Kept, Published, Settled, Shown}
use Rattle.report_text.specs.Contents.{IsEntryOfWords, MayBeWord}
use Rattle.report_text.specs.Parsing.{IsEditOfWords, IsRevisedOfWords, IsShownOfWords, edit_text, revised_text, shown_text}
use Rattle.report_text.specs.Parts.{MayStand}
use Rattle.report_text.specs.Text.{entry_text, history_line, revision_text}

pub edit_begins : (e : Edit) → IsEditOfWords e → BeginsField (edit_text e)
edit_begins (Mask r) w = inr (codes "mask" ++ rect_text r, refl)
edit_begins (Unmask r) w = inr (codes "unmask" ++ rect_text r, refl)

pub no_revision : (bytes : List ℕ) → bytes ≢ codes " none" → ((n : ℕ) → IsWord n → bytes ≡ field_text n → ⊥) → (o : Option ℕ) → MayBeWord o → bytes ≡ revision_text o → ⊥
no_revision bytes f g None w t = f t
no_revision bytes f g (Some n) w t = g n w t

pub no_entry : (line : List ℕ)
    → ((p : ℕ × ℕ) → AreWords p → line ≡ codes "kept" ++ pair_text p → ⊥)
    → ((p : ℕ × ℕ) → AreWords p → line ≡ codes "published" ++ pair_text p → ⊥)
    → ((p : ℕ × ℕ) → AreWords p → line ≡ codes "settled" ++ pair_text p → ⊥)
    → ((p : ℕ × Option ℕ) → IsShownOfWords p → line ≡ codes "shown" ++ shown_text p → ⊥)
    → ((p : ℕ × Edit) → IsRevisedOfWords p → line ≡ codes "revised" ++ revised_text p → ⊥)
    → (e : Entry) → IsEntryOfWords e → line ≡ entry_text e → ⊥
no_entry line kept published settled shown revised (Revised n (Mask r)) w t = revised (n, Mask r) w t
no_entry line kept published settled shown revised (Revised n (Unmask r)) w t = revised (n, Unmask r) w t
no_entry line kept published settled shown revised (Kept m n) w t = kept (m, n) w t
no_entry line kept published settled shown revised (Published m n) w t = published (m, n) w t
no_entry line kept published settled shown revised (Settled m n) w t = settled (m, n) w t
no_entry line kept published settled shown revised (Shown n o) w t = shown (n, o) w t

pub no_history : (line : List ℕ) → line ≢ codes "end" → ((e : Entry) → IsEntryOfWords e → line ≡ entry_text e → ⊥) → (o : Option Entry) → MayStand o → line ≡ history_line o → ⊥
no_history line f g None w t = f t
no_history line f g (Some e) w t = g e w t

-- ---- the lines of the head
