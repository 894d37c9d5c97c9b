-- The parts of a report's text as forms: lines, the head, the faces, a surface.
use Rattle.std.proofs.Common.{◌≡◌, ℕ, ◌<◌, ℤ, IsTrue, List, [], ◌++◌, None, inl, inr, ◌⊎◌, refl, sym, ap, subst, ◌∙◌, arith}
use Rattle.std.specs.Prelude.{◌==◌, false}
use Rattle.std.proofs.lemmas.Bool.{cases_Bool, eqb-true, false_from_ne_true}
use Rattle.sums_and_lists.proofs.Tests.{true_and_false}
use Rattle.raster_model.specs.Limits.{is_tiled_size, IsSteepness, IsTileSide}
use Rattle.text_lines.specs.Forms.{Form}
use Rattle.text_lines.specs.Numbers.{AreLongs}
use Rattle.text_lines.specs.Parsing.{IsWide}
use Rattle.text_lines.proofs.FormLemmas.{ComesFirst, ComesAfter, no_more}
use Rattle.text_lines.proofs.SeqLemmas.{IsCode, SameForms, first_same, same_code}
use Rattle.report_text.specs.Contents.{IsSurfaceInRange}
use Rattle.report_text.specs.Parsing.{AreCosts}
use Rattle.report_text.specs.Parts.{AreCertificates, AreFacesBelow, AreFacesOf, AreSolved, IsFrame, IsReportFront, IsSurfaceText, IsTermsText, IsTiling, MayStand, certificates_text, frame_text, front_text, solved_text, tiling_text}
use Rattle.text_parts.specs.Parts.{AreTold, IsRamp, told_text}
use Rattle.report_text.specs.Reports.{SurfaceOf}
use Rattle.text_parts.specs.Steps.{TextOf, both, in_turn}
use Rattle.report_text.specs.Terms.{AreTermsIn, IsVersion, plain_terms}
use Rattle.text_parts.specs.Terms.{TermsOf}
use Rattle.report_text.specs.Text.{all_faces_text, costs_line, faces_line, faces_text, flows_line, history_line, surface_block_text, terms_text, tile_line, version_line}
use Rattle.text_parts.specs.Text.{ended_line, ramp_line, steep_line}
use Rattle.text_parts.proofs.UniqueLemmas.{ramp_unique, rule_unique, size_unique, steep_unique, same_terms}
use Rattle.report_text.proofs.EntryLemmas.{side_unique, version_unique}
use Rattle.report_text.proofs.LineLemmas.{costs_fit, faces_in_line, flows_in_line, history_fits, side_fits, version_fits}
use Rattle.text_parts.proofs.ReadsLemmas.{IsLineKind, IsPart, One, after_same, line_one, line_part, long_kind, short_kind, turn_after, turn_first, turn_one, turn_part}
use Rattle.text_parts.proofs.LineForms.{line_first, lines_after, lines_apart, lines_part}
use Rattle.text_lines.proofs.FormLemmas.{InLine}
use Rattle.text_parts.proofs.PartForms.{grid_part, none_long, level, ramp_kind, steep_kind, size_kind, rule_kind}

-- ---- kinds of lines

pub version_kind : IsLineKind IsVersion version_line 128
version_kind = short_kind (1, inl refl) version_fits

pub side_kind : IsLineKind IsTileSide tile_line 128
side_kind = short_kind (2, (omega arith, omega arith)) side_fits

pub costs_kind : IsLineKind AreCosts costs_line 128
costs_kind = short_kind ((0, 0), (omega arith, omega arith)) costs_fit

pub entry_kind : IsLineKind MayStand history_line 128
entry_kind = short_kind (None, tt) history_fits

pub faces_kind : (tile : ℕ) → IsWide tile → IsLineKind (AreFacesOf tile) (faces_line tile) 18446744073709551615
faces_kind tile small = long_kind ([], (small, none_long)) (faces_in_line tile)

pub flows_kind : IsLineKind AreLongs flows_line 18446744073709551615
flows_kind = long_kind ([], none_long) flows_in_line

-- ---- the version and the frame

pub tiling_part : IsPart IsTiling tiling_text
tiling_part = turn_part (line_part side_kind) (line_part rule_kind)

pub frame_part : IsPart IsFrame frame_text
frame_part = turn_part (line_part size_kind) tiling_part

pub front_part : IsPart IsReportFront front_text
front_part = turn_part (line_part version_kind) frame_part

frame_one : One IsFrame frame_text
frame_one = turn_one (line_part size_kind) tiling_part (line_one size_unique) (turn_one (line_part side_kind) (line_part rule_kind) (line_one side_unique) (line_one (λ p q _ _. rule_unique p q)))

pub front_one : One IsReportFront front_text
front_one = turn_one (line_part version_kind) frame_part (line_one version_unique) frame_one

-- ---- the terms

-- version 1 has no lines of terms
pub none_told : (version : ℕ) → version ≡ 1 → (t : TermsOf) → terms_text version t ≡ []
none_told version first t = rw first refl

pub plain_in : (version : ℕ) → AreTermsIn version plain_terms
plain_in version = record { across = level; along = level; steepness = (omega arith, omega arith); plain = λ _. refl }

plain_code : (version : ℕ) → version ≡ 1 → IsCode (IsTermsText version)
plain_code version first = record {
  whole = λ p a. inl (a.1.1 ∙ none_told version first a.0);
  free = λ p m a b. no_more p m (b.1.1 ∙ none_told version first b.0);
}

-- another tells them
module _ (version : ℕ) (other : version ≡ 1 → ⊥) where
  pub all_told : (t : TermsOf) → terms_text version t ≡ told_text ((t.ramp_x, t.ramp_y), t.steep)
  all_told t = let no : (version == 1) ≡ false = false_from_ne_true (version == 1) (λ e. other (eqb-true version 1 e)) in rw no refl

  pub told_terms : (ramp : ℤ × ℤ) (steep : ℕ) → IsRamp ramp → IsSteepness steep → (t : TermsOf) → t.ramp_x ≡ ramp.0 → t.ramp_y ≡ ramp.1 → t.steep ≡ steep → AreTermsIn version t × (told_text (ramp, steep) ≡ terms_text version t)
  told_terms ramp steep r q t e f g =
      let u : TermsOf = record { ramp_x = ramp.0; ramp_y = ramp.1; steep = steep } in
      let same : u ≡ t = sym (same_terms t u e f g) in
      (subst (AreTermsIn version) same (record { across = r.0; along = r.1; steepness = q; plain = λ h. absurd (other h) }), sym (all_told u) ∙ ap (terms_text version) same)

  pub told_same : SameForms (TextOf AreTold told_text) (IsTermsText version)
  told_same = record {
    to = λ t a.
        let u : TermsOf = record { ramp_x = a.0.0.0; ramp_y = a.0.0.1; steep = a.0.1 } in
        (u, (record { across = a.1.0.0.0; along = a.1.0.0.1; steepness = a.1.0.1; plain = λ e. absurd (other e) }, a.1.1 ∙ sym (all_told u)));
    «from» = λ t a. let u = a.0 in let r = a.1.0 in (((u.ramp_x, u.ramp_y), u.steep), (((r.across, r.along), r.steepness), a.1.1 ∙ all_told u));
  }

  pub ramp_first : ComesFirst (TextOf IsRamp (ended_line ramp_line)) (IsTermsText version)
  ramp_first = first_same _ _ _ told_same (turn_first (line_part ramp_kind) (line_part steep_kind))

  pub ramp_after : (ramp : ℤ × ℤ) → IsRamp ramp → ComesAfter (ended_line ramp_line ramp) (TextOf IsSteepness (ended_line steep_line)) (IsTermsText version)
  ramp_after ramp r = after_same told_same (turn_after (line_part ramp_kind) (line_part steep_kind) ramp r)

  told_code : IsCode (IsTermsText version)
  told_code = let told = turn_part (line_part ramp_kind) (line_part steep_kind) in same_code _ _ told_same told.code

  told_one : One (AreTermsIn version) (terms_text version)
  told_one t u a b e =
      let s = turn_one (line_part ramp_kind) (line_part steep_kind) (line_one ramp_unique) (line_one steep_unique) ((t.ramp_x, t.ramp_y), t.steep) ((u.ramp_x, u.ramp_y), u.steep) ((a.across, a.along), a.steepness) ((b.across, b.along), b.steepness) (sym (all_told t) ∙ e ∙ all_told u) in
      same_terms t u (ap (λ (p : (ℤ × ℤ) × ℕ). p.0.0) s) (ap (λ (p : (ℤ × ℤ) × ℕ). p.0.1) s) (ap (λ (p : (ℤ × ℤ) × ℕ). p.1) s)

pub either : (version : ℕ) → (version ≡ 1) ⊎ (version ≡ 1 → ⊥)
either version = elim (cases_Bool (version == 1)) [ inl first ↦ inl (eqb-true version 1 first) | inr other ↦ inr (λ e. true_and_false (version == 1) (ap (λ (n : ℕ). n == 1) e) other) ]

pub terms_code : (version : ℕ) → IsCode (IsTermsText version)
terms_code version = elim (either version) [ inl first ↦ plain_code version first | inr other ↦ told_code version other ]

pub terms_one : (version : ℕ) → One (AreTermsIn version) (terms_text version)
terms_one version t u a b e = elim (either version) [
  | inl first ↦ a.plain first ∙ sym (b.plain first)
  | inr other ↦ told_one version other t u a b e
]

-- ---- the faces of the tiles

pub inside : (tiles : ℕ) → IsWide tiles → (t : ℕ) → t < tiles → (faces : List ℤ) → AreLongs faces → InLine (faces_line t faces)
inside tiles small t lt faces longs = faces_in_line t faces (omega (arith, lt, small), longs)

pub faces_apart : (tiles : ℕ) → IsWide tiles → (f g : ℕ → List ℤ) (r s : List ℕ) → AreFacesBelow tiles f → AreFacesBelow tiles g → all_faces_text tiles f ++ r ≡ all_faces_text tiles g ++ s → ((t : ℕ) → t < tiles → faces_text f t ≡ faces_text g t) × (r ≡ s)
faces_apart tiles small = lines_apart AreLongs faces_line tiles (inside tiles small)

pub faces_part : (tiles : ℕ) → IsWide tiles → IsPart (AreFacesBelow tiles) (all_faces_text tiles)
faces_part tiles small = lines_part AreLongs faces_line tiles (inside tiles small) [] none_long

-- after those of the first tiles come those of the next
module _ (tiles k : ℕ) (small : IsWide tiles) (here : k < tiles) (faces : ℕ → List ℤ) (a : AreFacesBelow k faces) where
  abbrev FacesLeft : Form
  FacesLeft t = TextOf (AreFacesBelow tiles) (all_faces_text tiles) (all_faces_text k faces ++ t)

  pub tile_after : ComesAfter (all_faces_text k faces) FacesLeft (TextOf (AreFacesBelow tiles) (all_faces_text tiles))
  tile_after = lines_after AreLongs faces_line tiles (inside tiles small) k here faces a

  pub tile_first : ComesFirst (TextOf (AreFacesOf k) (ended_line (faces_line k))) FacesLeft
  tile_first =
      let few : IsWide k = omega (arith, here, small) in
      line_first AreLongs faces_line tiles (inside tiles small) k here faces a (AreFacesOf k) (λ l b. b.1) (λ l b. (few, b)) (line_part (faces_kind k few))

-- ---- a surface

pub surface_is : (width height tiles : ℕ) (k : SurfaceOf) → surface_block_text width height tiles k ≡ ended_line costs_line (k.tile_cost, k.seam_cost) ++ solved_text width height tiles (k.values, (k.faces, k.flows))
unfolding surface_block_text
surface_is width height tiles k = refl

pub certificates_part : (tiles : ℕ) → IsWide tiles → IsPart (AreCertificates tiles) (certificates_text tiles)
certificates_part tiles small = turn_part (faces_part tiles small) (line_part flows_kind)

module _ (width height : ℕ) (z : IsTrue (is_tiled_size width height)) where
  module _ (tiles : ℕ) (small : IsWide tiles) where
    abbrev pub Block : Form
    Block = TextOf (both AreCosts (AreSolved width height tiles)) (in_turn (ended_line costs_line) (solved_text width height tiles))

    pub surface_same : SameForms Block (IsSurfaceText width height tiles)
    surface_same = record {
      to = λ t a.
          let k : SurfaceOf = record { tile_cost = a.0.0.0; seam_cost = a.0.0.1; values = a.0.1.0; faces = a.0.1.1.0; flows = a.0.1.1.1 } in
          (k, (record { tile_cost = a.1.0.0.0; seam_cost = a.1.0.0.1; values = a.1.0.1.0; faces = a.1.0.1.1.0; flows = a.1.0.1.1.1 }, a.1.1 ∙ sym (surface_is width height tiles k)));
      «from» = λ t b. let k = b.0 in let r = b.1.0 in (((k.tile_cost, k.seam_cost), (k.values, (k.faces, k.flows))), (((r.tile_cost, r.seam_cost), (r.values, (r.faces, r.flows))), b.1.1 ∙ surface_is width height tiles k));
    }

    pub solved_part : IsPart (AreSolved width height tiles) (solved_text width height tiles)
    solved_part = turn_part (grid_part width height z) (certificates_part tiles small)

    pub surface_part : IsPart (IsSurfaceInRange width height tiles) (surface_block_text width height tiles)
    surface_part =
        let block = turn_part (line_part costs_kind) solved_part in
        let some = surface_same.to (in_turn (ended_line costs_line) (solved_text width height tiles) block.some.0) (block.some.0, (block.some.1, refl)) in
        record { some = (some.0, some.1.0); code = same_code Block (IsSurfaceText width height tiles) surface_same block.code }

    pub costs_first : ComesFirst (TextOf AreCosts (ended_line costs_line)) (IsSurfaceText width height tiles)
    costs_first = first_same _ _ _ surface_same (turn_first (line_part costs_kind) solved_part)

    pub costs_after : (costs : ℕ × ℕ) → AreCosts costs → ComesAfter (ended_line costs_line costs) (TextOf (AreSolved width height tiles) (solved_text width height tiles)) (IsSurfaceText width height tiles)
    costs_after costs a = after_same surface_same (turn_after (line_part costs_kind) solved_part costs a)
