-- Sessions that tell the same: they have one raster, the same masks on it at each revision, and one set of legal and complete histories.
use Rattle.std.proofs.Common.{◌≡◌, ◌∙◌, ℕ, zero, suc, ◌+◌, ◌-◌, ◌*◌, ◌/◌, ◌<◌, refl, sym, ap, ap₂, subst, arith, Bool, List, [], ◌∷◌, length, take}
use Rattle.std.specs.Prelude.{ℤ, ◌↔◌, if◌then◌else◌, Option, Some, None, slice_get, slice_index}
use Rattle.std.specs.List.{list_any}
use Rattle.raster_model.specs.declared.edge.Edge.{Edge}
use Rattle.raster_model.specs.declared.plane.Plane.{Plane}
use Rattle.raster_model.specs.declared.script.Command.{Command}
use Rattle.raster_model.specs.declared.script.Edit.{Edit}
use Rattle.raster_model.specs.declared.script.Script.{Script}
use Rattle.raster_model.specs.declared.session.Session.{Session}
use Rattle.raster_model.specs.declared.terms.Terms.{Terms}
use Rattle.raster_model.specs.declared.tiling.Tiling.{Tiling}
use Rattle.raster_model.specs.declared.weights.RuleKind.{RuleKind}
use Rattle.raster_model.specs.Masks.{open_at}
use Rattle.raster_model.specs.Planes.{plane_sample}
use Rattle.raster_model.specs.Scene.{raster_of}
use Rattle.raster_model.specs.Scripts.{rect_of}
use Rattle.raster_model.specs.Sums.{Field, at_edge_end, at_edge_start}
use Rattle.raster_model.specs.Terms.{ArePlainTerms, slope_of}
use Rattle.raster_model.specs.Tiles.{tile_at, tiles_of}
use Rattle.raster_model.specs.Weights.{edge_weight, rule_number}
use Rattle.mask_revisions.specs.Edits.{changes_at, differ_in, edited, has_pixel, last_up_to, mask_after, mask_at, opens, stamp_of}
use Rattle.mask_revisions.proofs.Differences.{differ_same}
use Rattle.tile_board.specs.declared.entry.Entry.{Entry}
use Rattle.tile_board.specs.declared.entry.Entry.TheVariants.{Revised, Kept, Published, Settled, Shown}
use Rattle.tile_board.specs.Histories.{IsComplete, IsLegal, IsStep, commands_of, done_by, edits_of, is_kept, keeps, mask_in, next_command, script_in, stamp_in}
use Rattle.report_text.specs.Certified.{history_of}
use Rattle.text_parts.specs.Terms.{terms_of}
use Rattle.report_check.specs.Same.{AcceptanceIsOfTexts, IsSameInput, IsSamePlane, commands_in}
use Rattle.report_check.proofs.HeadLemmas.{numbers_alike, terms_alike}
use Rattle.report_check.proofs.EqualReports.{AreAlike, items_too, same_history}

-- ---- planes, as the numbers that are read of them
abbrev weights_by : RuleKind → ℕ → Field ℕ → Edge → ℕ
weights_by rule maxval samples e = rule_number rule maxval (at_edge_start samples e) (at_edge_end samples e)

module _ (p q : Plane) (same : IsSamePlane p q) where
  same_samples : plane_sample p ≡ plane_sample q
  same_samples = ap₂ {C = Field ℕ} (λ (width : ℕ) (samples : List ℕ) (x y : ℕ). slice_index samples (y * width + x)) same.width same.samples

  same_weights : {rule other : RuleKind} → rule ≡ other → edge_weight rule p ≡ edge_weight other q
  same_weights {rule} {other} e = rw e (ap₂ (weights_by other) same.maxval same_samples)

-- ---- tiles
record IsSameTiling (g h : Tiling) : Type 0 where
  width : g.width ≡ h.width
  height : g.height ≡ h.height
  side : g.side ≡ h.side

module _ (g h : Tiling) (same : IsSameTiling g h) where
  same_tile : tile_at g ≡ tile_at h
  same_tile = ap₂ {C = Field ℕ} (λ (width side : ℕ) (x y : ℕ). (y / side) * ((width + side - 1) / side) + x / side) same.width same.side

  same_tiles : tiles_of g ≡ tiles_of h
  same_tiles = rw (same.width, same.height, same.side) refl

  same_differ : (old new : Field Bool) (t : ℕ) → differ_in g old new t ≡ differ_in h old new t
  unfolding differ_in
  same_differ old new t = rw (same.width, same.height, same.side) refl

-- ---- masks that agree on a raster, through the same edits
masks_after : (width height : ℕ) (edits : List Edit) (m n : Field Bool) → ((x y : ℕ) → x < width → y < height → m x y ≡ n x y) → (x y : ℕ) → x < width → y < height → mask_after m edits x y ≡ mask_after n edits x y
unfolding mask_after
masks_after width height [] m n same x y a b = same x y a b
masks_after width height (e ∷ edits) m n same x y a b = masks_after width height edits (edited e m) (edited e n) (λ i j c d. ap (λ (o : Bool). if has_pixel (rect_of e) i j then opens e else o) (same i j c d)) x y a b

-- ---- the stamp of a tile
last_same : (n : ℕ) (p q : ℕ → Bool) → ((k : ℕ) → p k ≡ q k) → last_up_to n p ≡ last_up_to n q
unfolding last_up_to
last_same zero p q same = refl
last_same (suc n) p q same = ap₂ (λ (b : Bool) (k : ℕ). if b then suc n else k) (same (suc n)) (last_same n p q same)

module _ (g h : Tiling) (tiling : IsSameTiling g h) (m n : Field Bool) (same : (x y : ℕ) → x < g.width → y < g.height → m x y ≡ n x y) (edits : List Edit) where
  masks_at : (r x y : ℕ) → x < g.width → y < g.height → mask_at m edits r x y ≡ mask_at n edits r x y
  masks_at r = masks_after g.width g.height (take r edits) m n same

  same_change : (t r : ℕ) → changes_at g m edits t r ≡ changes_at h n edits t r
  same_change t r =
      differ_same g (mask_at m edits (r - 1)) (mask_at m edits r) (mask_at n edits (r - 1)) (mask_at n edits r) t (masks_at (r - 1)) (masks_at r)
      ∙ same_differ g h tiling (mask_at n edits (r - 1)) (mask_at n edits r) t

  same_stamp : (t : ℕ) → stamp_of g m edits t ≡ stamp_of h n edits t
  same_stamp t = last_same (length edits) (changes_at g m edits t) (changes_at h n edits t) (same_change t)

-- ---- the commands of an analyst
abbrev listed : Option (List Command) → List Command
listed None = []
listed (Some commands) = commands

commands_listed : (scripts : List Script) (k : ℕ) → commands_of (slice_get scripts k) ≡ listed (slice_get (commands_in scripts) k)
commands_listed [] k = refl
commands_listed (script ∷ scripts) zero = refl
commands_listed (script ∷ scripts) (suc k) = commands_listed scripts k

same_script : (scripts others : List Script) → commands_in scripts ≡ commands_in others → (a : ℕ) → script_in scripts a ≡ script_in others a
same_script scripts others same zero = refl
same_script scripts others same (suc k) = commands_listed scripts k ∙ ap (λ (all : List (List Command)). listed (slice_get all k)) same ∙ sym (commands_listed others k)

-- ---- the raster
pub plain_alike : (a b : Terms) → ArePlainTerms a → ArePlainTerms b → terms_of a ≡ terms_of b
plain_alike a b p q = terms_alike (p.across ∙ sym q.across) (p.along ∙ sym q.along) (p.steepness ∙ sym q.steepness)

abbrev slope_by : ℤ → ℤ → Bool → ℤ
slope_by x y down = if down then y else x

module _ (s t : Session) (same : IsSameInput s t) where
  tilings : IsSameTiling s.scene.tiling t.scene.tiling
  tilings = record {
    width = s.scene.same_width.1 ∙ same.phase.width ∙ sym t.scene.same_width.1;
    height = s.scene.same_height.1 ∙ same.phase.height ∙ sym t.scene.same_height.1;
    side = same.side;
  }

  slopes : slope_of s.scene.terms ≡ slope_of t.scene.terms
  slopes = (let numbers = numbers_alike same.terms in ap₂ slope_by numbers.0 numbers.1)

  same_raster : raster_of s.scene ≡ raster_of t.scene
  same_raster = simp (slopes, (numbers_alike same.terms).2, same.phase.width, same.phase.height, same_samples s.scene.phase t.scene.phase same.phase, same_weights s.scene.weights t.scene.weights same.weights same.rule, same_tile s.scene.tiling t.scene.tiling tilings, same_tiles s.scene.tiling t.scene.tiling tilings)

  -- ---- histories
  module _ (H : List Entry) where
    same_masks : (revision x y : ℕ) → x < s.scene.phase.width → y < s.scene.phase.height → mask_in s H revision x y ≡ mask_in t H revision x y
    same_masks revision = masks_after s.scene.phase.width s.scene.phase.height (take revision (edits_of H)) (open_at s.first_mask) (open_at t.first_mask) same.unmasked

    pub are_alike : AreAlike s t H
    are_alike = record { raster = same_raster; masks = same_masks }

    tiled : (x y : ℕ) → x < s.scene.tiling.width → y < s.scene.tiling.height → open_at s.first_mask x y ≡ open_at t.first_mask x y
    tiled x y a b = same.unmasked x y (subst (λ (n : ℕ). x < n) s.scene.same_width.1 a) (subst (λ (n : ℕ). y < n) s.scene.same_height.1 b)

    stamps : (tile : ℕ) → stamp_in s H tile ≡ stamp_in t H tile
    stamps tile = same_stamp s.scene.tiling t.scene.tiling tilings (open_at s.first_mask) (open_at t.first_mask) tiled (edits_of H) tile

    kept : (tile : ℕ) → is_kept s H tile ≡ is_kept t H tile
    kept tile = ap (λ (stamp : ℕ). list_any (keeps tile stamp) H) (stamps tile)

    next : (a : ℕ) → next_command s H a ≡ next_command t H a
    next a = ap (λ (commands : List Command). slice_get commands (done_by a H)) (same_script s.scripts.items t.scripts.items same.commands a)

    pub same_step : (e : Entry) → IsStep s H e ↔ IsStep t H e
    same_step (Revised a edit) = rw (next a) (λ x. x, λ x. x)
    same_step (Kept tile stamp) = rw (same_tiles s.scene.tiling t.scene.tiling tilings, stamps tile) (λ x. x, λ x. x)
    same_step (Published a revision) =
        let count = same_tiles s.scene.tiling t.scene.tiling tilings in (
          λ step. (sym (next a) ∙ step.0, step.1, step.2, λ tile below. sym (kept tile) ∙ step.3 tile (omega (arith, below, count))),
          λ step. (next a ∙ step.0, step.1, step.2, λ tile below. kept tile ∙ step.3 tile (omega (arith, below, count))),
        )
    same_step (Settled a revision) = rw (next a) (λ x. x, λ x. x)
    same_step (Shown a revision) = rw (next a) (λ x. x, λ x. x)

    pub same_complete : IsComplete s H ↔ IsComplete t H
    same_complete = (λ complete a. sym (next a) ∙ complete a, λ complete a. next a ∙ complete a)

  pub legal_too : (H : List Entry) → IsLegal s H → IsLegal t H
  legal_too H legal n e at = (same_step (take n H) e).0 (legal n e at)

pub acceptance_is_of_texts : AcceptanceIsOfTexts
acceptance_is_of_texts s t v w same equal c = record {
  width = sym equal.width ∙ c.width ∙ same.phase.width;
  height = sym equal.height ∙ c.height ∙ same.phase.height;
  side = sym equal.side ∙ c.side ∙ same.side;
  rule = sym equal.rule ∙ c.rule ∙ same.rule;
  terms = sym equal.terms ∙ c.terms ∙ same.terms;
  legal = subst (λ (H : List Entry). IsLegal t H) (same_history v w equal) (legal_too s t same (history_of v) c.legal);
  complete = subst (λ (H : List Entry). IsComplete t H) (same_history v w equal) ((same_complete s t same (history_of v)).0 c.complete);
  surfaces = items_too s t v w equal c (are_alike s t same (history_of v));
}
