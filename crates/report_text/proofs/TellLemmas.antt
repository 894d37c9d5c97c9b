-- Whether a line is one of a report: one or the other can be told, and which values it has.
use Rattle.std.proofs.Common.{◌≡◌, ℕ, List, ◌++◌, Some, None, inl, inr, arith}
use Rattle.std.specs.Prelude.{codes}
use Rattle.std.proofs.lemmas.Bool.{cases_eq}
use Rattle.raster_model.specs.Limits.{IsTileSide}
use Rattle.raster_model.specs.declared.script.Edit.{Edit}
use Rattle.raster_model.specs.declared.script.Edit.TheVariants.{Mask, Unmask}
use Rattle.text_lines.specs.Numbers.{AreLongs, numbers_text}
use Rattle.text_lines.specs.Parsing.{IsRectOfWords, IsWide, IsWord, behind, field_then, pair_text}
use Rattle.text_lines.specs.Text.{field_text, rect_text}
use Rattle.text_lines.proofs.FieldLemmas.{field_begins, rect_by, word_wide}
use Rattle.text_lines.proofs.TellLemmas.{Told, bytes_told, numbers_told}
use Rattle.text_parts.specs.Steps.{TextOf, both}
use Rattle.text_parts.proofs.TellLemmas.{Tells, behind_told, field_told, last_told, pair_told, range_told, same_told, wide_told, word_told, words_told}
use Rattle.tile_board.specs.declared.entry.Entry.TheVariants.{Revised, Kept, Published, Settled, Shown}
use Rattle.report_text.specs.Contents.{IsEntryOfWords, MayBeWord}
use Rattle.report_text.specs.Parsing.{AreCosts, IsEditOfWords, IsRevisedOfWords, IsShownOfWords, edit_text, revised_text, shown_text}
use Rattle.report_text.specs.Parts.{MayStand}
use Rattle.report_text.specs.Terms.{IsVersion}
use Rattle.report_text.specs.Text.{costs_line, entry_text, faces_front, faces_line, flows_line, history_line, revision_text, tile_line, version_line}
use Rattle.report_text.proofs.EntryLemmas.{revision_begins}
use Rattle.report_text.proofs.LineLemmas.{version_small}
use Rattle.report_text.proofs.ReadLemmas.{edit_begins, no_entry, no_history, no_revision}

-- ---- the head, costs, faces and flows

version_test : (n : ℕ) → Told (IsVersion n)
version_test n = elim (cases_eq n 1) [
  | inl e ↦ inl (inl e)
  | inr first ↦ elim (cases_eq n 2) [ inl e ↦ inl (inr e) | inr second ↦ inr (λ v. elim v [ inl e ↦ first e | inr e ↦ second e ]) ]
]

pub version_told : Tells IsVersion version_line
version_told = behind_told IsVersion field_text (codes "insar-report") (last_told IsVersion (λ n v. let small = version_small n v in omega (arith, small)) version_test)

pub side_told : Tells IsTileSide tile_line
side_told = behind_told IsTileSide field_text (codes "tile") (last_told IsTileSide (λ n s. let high = s.1 in omega (arith, high)) (range_told 2 128))

pub costs_told : Tells AreCosts costs_line
costs_told = behind_told AreCosts pair_text (codes "costs") (pair_told IsWide (λ n w. w) wide_told)

pub faces_told : (tile : ℕ) → Tells AreLongs (faces_line tile)
faces_told tile = behind_told AreLongs numbers_text (faces_front tile) numbers_told

pub flows_told : Tells AreLongs flows_line
flows_told = behind_told AreLongs numbers_text (codes "flows") numbers_told

-- ---- entries

abbrev IsSide : ℕ × (ℕ × (ℕ × ℕ)) → Type 0
IsSide = both IsWord (both IsWord (both IsWord IsWord))

abbrev corners_text : ℕ × (ℕ × (ℕ × ℕ)) → List ℕ
corners_text = field_then (field_then pair_text)

corners_told : Tells IsSide corners_text
corners_told =
    let two = field_told IsWord word_wide word_told (both IsWord IsWord) pair_text (λ p _. field_begins p.0 (field_text p.1)) (pair_told IsWord word_wide word_told) in
    field_told IsWord word_wide word_told (both IsWord (both IsWord IsWord)) (field_then pair_text) (λ p _. field_begins p.0 (pair_text p.1)) two

rect_told : Tells IsRectOfWords rect_text
unfolding rect_text
rect_told bytes =
    same_told (TextOf IsSide corners_text bytes) (TextOf IsRectOfWords rect_text bytes)
    (λ a. let p = a.0 in let w = a.1.0 in (rect_by p.0 p.1.0 p.1.1.0 p.1.1.1, (record { x0 = w.0; y0 = w.1.0; x1 = w.1.1.0; y1 = w.1.1.1 }, a.1.1)))
    (λ b. let r = b.0 in let w = b.1.0 in ((r.x0, (r.y0, (r.x1, r.y1))), ((w.x0, (w.y0, (w.x1, w.y1))), b.1.1))) (corners_told bytes)

edit_told : Tells IsEditOfWords edit_text
edit_told bytes = elim (behind_told IsRectOfWords rect_text (codes " mask") rect_told bytes) [
  | inl a ↦ inl (Mask a.0, a.1)
  | inr mask ↦ elim (behind_told IsRectOfWords rect_text (codes " unmask") rect_told bytes) [ inl a ↦ inl (Unmask a.0, a.1) | inr unmask ↦ inr (λ a. none mask unmask a.0 a.1.0 a.1.1) ]
]
  where
    none : (TextOf IsRectOfWords (behind (codes " mask") rect_text) bytes → ⊥) → (TextOf IsRectOfWords (behind (codes " unmask") rect_text) bytes → ⊥) → (edit : Edit) → IsEditOfWords edit → bytes ≡ edit_text edit → ⊥
    none mask unmask (Mask r) w e = mask (r, (w, e))
    none mask unmask (Unmask r) w e = unmask (r, (w, e))

revision_told : Tells MayBeWord revision_text
revision_told bytes = elim (bytes_told bytes (codes " none")) [
  | inl e ↦ inl (None, (tt, e))
  | inr word ↦ elim (last_told IsWord word_wide word_told bytes) [ inl a ↦ inl (Some a.0, a.1) | inr number ↦ inr (λ a. no_revision bytes word (λ n w e. number (n, (w, e))) a.0 a.1.0 a.1.1) ]
]

shown_told : Tells IsShownOfWords (behind (codes "shown") shown_text)
shown_told = behind_told IsShownOfWords shown_text (codes "shown") (field_told IsWord word_wide word_told MayBeWord revision_text (λ o _. revision_begins o) revision_told)

revised_told : Tells IsRevisedOfWords (behind (codes "revised") revised_text)
revised_told = behind_told IsRevisedOfWords revised_text (codes "revised") (field_told IsWord word_wide word_told IsEditOfWords edit_text edit_begins edit_told)

revised_entry : (line : List ℕ) (n : ℕ) (edit : Edit) → IsRevisedOfWords (n, edit) → line ≡ codes "revised" ++ revised_text (n, edit) → TextOf IsEntryOfWords entry_text line
revised_entry line n (Mask r) w e = (Revised n (Mask r), (w, e))
revised_entry line n (Unmask r) w e = (Revised n (Unmask r), (w, e))

entry_told : Tells IsEntryOfWords entry_text
entry_told line = elim (words_told (codes "kept") line) [
  | inl a ↦ inl (Kept a.0.0 a.0.1, a.1)
  | inr kept ↦ elim (words_told (codes "published") line) [
    | inl a ↦ inl (Published a.0.0 a.0.1, a.1)
    | inr published ↦ elim (words_told (codes "settled") line) [
      | inl a ↦ inl (Settled a.0.0 a.0.1, a.1)
      | inr settled ↦ elim (shown_told line) [
        | inl a ↦ inl (Shown a.0.0 a.0.1, a.1)
        | inr shown ↦ elim (revised_told line) [
          | inl a ↦ inl (revised_entry line a.0.0 a.0.1 a.1.0 a.1.1)
          | inr revised ↦ inr (λ a. no_entry line (λ p w e. kept (p, (w, e))) (λ p w e. published (p, (w, e))) (λ p w e. settled (p, (w, e))) (λ p w e. shown (p, (w, e))) (λ p w e. revised (p, (w, e))) a.0 a.1.0 a.1.1)
        ]
      ]
    ]
  ]
]

pub history_told : Tells MayStand history_line
history_told line = elim (bytes_told line (codes "end")) [
  | inl e ↦ inl (None, (tt, e))
  | inr last ↦ elim (entry_told line) [ inl a ↦ inl (Some a.0, a.1) | inr entry ↦ inr (λ a. no_history line last (λ d w e. entry (d, (w, e))) a.0 a.1.0 a.1.1) ]
]
