-- Of whole lines it can be told what they are for the form of a report: a report, the front of one, or the front of none.
use Rattle.std.proofs.Common.{◌≡◌, ℕ, zero, suc, ◌≤◌, Bool, true, false, IsTrue, List, [], ◌∷◌, ◌++◌, length, Option, Some, None, inl, inr, refl, sym, ap, subst, ◌∙◌, arith}
use Rattle.std.specs.Prelude.{codes}
use Rattle.std.proofs.lemmas.List.{length-append}
use Rattle.raster_model.specs.Limits.{is_tiled_size}
use Rattle.text_lines.specs.Forms.{AreWholeLines, Form}
use Rattle.text_lines.specs.Numbers.{AreLongs}
use Rattle.text_lines.specs.Parsing.{IsWide}
use Rattle.text_lines.proofs.BreakLemmas.{Decided, IsDecided, decided_after, decided_behind, decided_same, first_decided, parts_decided}
use Rattle.text_lines.proofs.FormLemmas.{not_nil}
use Rattle.text_lines.proofs.SeqLemmas.{seq_after}
use Rattle.grid_writer.proofs.TellLemmas.{sized_decided}
use Rattle.text_parts.specs.Parts.{AreTold, told_text}
use Rattle.text_parts.specs.Reading.{TextOrBrokenLine}
use Rattle.text_parts.specs.Steps.{TextOf}
use Rattle.text_parts.specs.Text.{ended_line}
use Rattle.text_parts.proofs.DecideLemmas.{first_begins, kind_decided, lines_decided, part_begins, turn_decided}
use Rattle.text_parts.proofs.PartForms.{grid_part, none_long, ramp_kind, rule_kind, size_kind, steep_kind}
use Rattle.text_parts.proofs.ReadsLemmas.{line_part}
use Rattle.text_parts.proofs.TellLemmas.{ramp_told, rule_told, size_told, steep_told}
use Rattle.text_parts.proofs.TextBreaks.{text_or_broken_line}
use Rattle.tile_board.specs.declared.entry.Entry.{Entry}
use Rattle.report_text.specs.Contents.{IsReportText}
use Rattle.report_text.specs.Parts.{AreCertificates, FrontOf, IsItemsText, IsReportFront, IsSurfaceText, IsTermsText, MayStand, certificates_text, front_text}
use Rattle.report_text.specs.Reports.{is_published}
use Rattle.report_text.specs.Terms.{plain_terms}
use Rattle.report_text.specs.Text.{faces_line, history_line, terms_text}
use Rattle.report_text.proofs.ItemForms.{AfterEntry, AfterLine, entry_first, history_part, line_after, surface_code, surface_first}
use Rattle.report_text.proofs.LineLemmas.{tiles_small}
use Rattle.report_text.proofs.PartForms.{Block, certificates_part, costs_kind, either, entry_kind, faces_part, flows_kind, frame_part, front_part, inside, none_told, plain_in, side_kind, solved_part, surface_part, surface_same, terms_code, tiling_part, told_same, version_kind}
use Rattle.report_text.proofs.ReportForms.{ItemsOf, RestOf, report_code, report_first, rest_after, terms_first, tiles_for}
use Rattle.report_text.proofs.TellLemmas.{costs_told, faces_told, flows_told, history_told, side_told, version_told}

-- ---- the head

front_decided : IsDecided (TextOf IsReportFront front_text)
front_decided =
    turn_decided (line_part version_kind) frame_part (kind_decided version_kind version_told)
    (turn_decided (line_part size_kind) tiling_part (kind_decided size_kind size_told)
    (turn_decided (line_part side_kind) (line_part rule_kind) (kind_decided side_kind side_told) (kind_decided rule_kind rule_told)))

-- version 1 has no lines of terms
none_decided : (version : ℕ) → version ≡ 1 → IsDecided (IsTermsText version)
none_decided version first [] w = inl (plain_terms, (plain_in version, sym (none_told version first plain_terms)))
none_decided version first (b ∷ t) w = inr (inr (λ g. not_nil b (t ++ g.0) (sym (g.1.1.1 ∙ none_told version first g.1.0))))

terms_decided : (version : ℕ) → IsDecided (IsTermsText version)
terms_decided version t w = elim (either version) [
  | inl first ↦ none_decided version first t w
  | inr other ↦ decided_same (TextOf AreTold told_text) (IsTermsText version) (told_same version other) t (turn_decided (line_part ramp_kind) (line_part steep_kind) (kind_decided ramp_kind ramp_told) (kind_decided steep_kind steep_told) t w)
]

-- ---- surfaces and items

module _ (width height tiles : ℕ) (z : IsTrue (is_tiled_size width height)) (small : IsWide tiles) where
  certificates_decided : IsDecided (TextOf (AreCertificates tiles) (certificates_text tiles))
  certificates_decided = turn_decided (faces_part tiles small) (line_part flows_kind) (lines_decided AreLongs faces_line tiles (inside tiles small) ([], none_long) (λ t _. faces_told t)) (kind_decided flows_kind flows_told)

  surface_decided : IsDecided (IsSurfaceText width height tiles)
  surface_decided t w =
      let solved = turn_decided (grid_part width height z) (certificates_part tiles small) (sized_decided width height z) certificates_decided in
      decided_same (Block width height z tiles small) (IsSurfaceText width height tiles) (surface_same width height z tiles small) t (turn_decided (line_part costs_kind) (solved_part width height z tiles small) (kind_decided costs_kind costs_told) solved t w)

  abbrev Items : Form
  Items = IsItemsText width height tiles

  -- what follows the line of an entry, where shorter lines of items are told
  module _ (n : ℕ) (shorter : (r : List ℕ) → length r ≤ n → AreWholeLines r → Decided Items r) where
    entry_decided : (published : Bool) (r : List ℕ) → length r ≤ n → AreWholeLines r → Decided (AfterEntry width height tiles published) r
    entry_decided false r le w = shorter r le w
    entry_decided true r le w =
        first_decided (IsSurfaceText width height tiles) (AfterEntry width height tiles true) (surface_first width height tiles z small) surface_decided (part_begins (surface_part width height z tiles small)) r w
        (λ p m a e v.
        let size = ap length e in
        decided_behind p Items (AfterEntry width height tiles true) (seq_after (IsSurfaceText width height tiles) Items (surface_code width height tiles z small) p a) m (shorter m (omega (arith, le, size, length-append p m)) v))

    behind_decided : (o : Option Entry) (r : List ℕ) → length r ≤ n → AreWholeLines r → Decided (AfterLine width height tiles o) r
    behind_decided None [] le w = inl refl
    behind_decided None (b ∷ r) le w = inr (inr (λ g. not_nil b (r ++ g.0) (sym g.1)))
    behind_decided (Some e) r le w = entry_decided (is_published e) r le w

  items_within : (n : ℕ) (t : List ℕ) → length t ≤ n → AreWholeLines t → Decided Items t
  items_within n [] le w = inr (inl (codes "end\n", ((λ e. not_nil 101 (codes "nd\n") (sym e)), ([], (tt, refl)))))
  items_within zero (b ∷ t) le w = absurd (omega (arith, le))
  items_within (suc n) (b ∷ t) le w =
      first_decided (TextOf MayStand (ended_line history_line)) Items (entry_first width height tiles z small) (kind_decided entry_kind history_told) (part_begins history_part) (b ∷ t) w
      (λ p r a e v.
      let line = ended_line history_line a.0 in
      let size = ap length e in
      let short = ap length a.1.1 in
      subst (λ (l : List ℕ). Decided (λ (x : List ℕ). Items (l ++ x)) r) (sym a.1.1)
      (decided_behind line (AfterLine width height tiles a.0) Items (line_after width height tiles z small a.0 a.1.0) r
      (behind_decided n (λ q few u. items_within n q few u) a.0 r (omega (arith, le, size, short, length-append p r, length-append (history_line a.0) (10 ∷ []))) v)))

  items_decided : IsDecided Items
  items_decided t w = items_within (length t) t (omega arith) w

-- ---- the whole

rest_decided : (p : FrontOf) → IsReportFront p → IsDecided (RestOf p)
rest_decided p f =
    parts_decided (IsTermsText p.0) (RestOf p) (terms_first p)
    (λ q a. decided_after q (ItemsOf p) (RestOf p) (seq_after (IsTermsText p.0) (ItemsOf p) (terms_code p.0) q a) (items_decided p.1.0.0 p.1.0.1 (tiles_for p) f.1.0 (tiles_small p.1.0.0 p.1.0.1 p.1.1.0 f.1.0 f.1.1.0)))
    (terms_decided p.0) (terms_text p.0 plain_terms, (plain_terms, (plain_in p.0, refl)))

report_decided : IsDecided IsReportText
report_decided =
    parts_decided (TextOf IsReportFront front_text) IsReportText report_first
    (λ q a. subst (λ (l : List ℕ). IsDecided (λ (t : List ℕ). IsReportText (l ++ t))) (sym a.1.1) (decided_after (front_text a.0) (RestOf a.0) IsReportText (rest_after a.0 a.1.0) (rest_decided a.0 a.1.0)))
    front_decided (part_begins front_part)

pub report_or_broken_line : TextOrBrokenLine IsReportText
report_or_broken_line = text_or_broken_line IsReportText report_code report_decided (first_begins (TextOf IsReportFront front_text) IsReportText report_first (part_begins front_part))
