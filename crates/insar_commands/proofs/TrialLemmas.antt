-- A trial's session, what is written of it, and that its words determine the text.
use Rattle.std.proofs.Common.{◌≡◌, ◌∙◌, ℕ, ◌+◌, ◌*◌, ◌/◌, ◌%◌, ◌<◌, false, true, [], length, refl, sym, ap, ap₂, subst, arith, true≢false}
use Rattle.std.specs.Prelude.{slice_index}
use Rattle.std.proofs.lemmas.Bool.Decides.{nat_tests}
use Rattle.std.proofs.lemmas.Grind.{same_number_lists}
use Rattle.std.proofs.lemmas.Nat.{div-add-mod', div_below, mod_below}
use Rattle.pgm_planes.specs.Planes.{PlaneOf}
use Rattle.raster_model.specs.declared.plane.Plane.{Plane}
use Rattle.raster_model.specs.declared.session.Session.{Session}
use Rattle.raster_model.specs.Limits.{is_tiled_size}
use Rattle.raster_model.specs.Masks.{open_at}
use Rattle.raster_model.specs.Planes.{plane_sample}
use Rattle.raster_model.specs.Raster.{Raster}
use Rattle.raster_model.specs.Scene.{raster_of}
use Rattle.raster_model.specs.Sums.{Field}
use Rattle.edge_weights.specs.declared.settings.SceneSettings.{SceneSettings}
use Rattle.edge_weights.specs.Sessions.{HasSettings}
use Rattle.trial_maker.specs.Trials.{IsTrialOf}
use Rattle.insar_words.specs.Asked.{Options}
use Rattle.insar_words.specs.Requests.{options_of}
use Rattle.insar_commands.proofs.SessionLemmas.{on_options, same_terms}
use Rattle.report_check.specs.Same.{IsSameInput, IsSamePlane}
use Rattle.report_check.proofs.EqualSessions.{are_alike}
use Rattle.trial_maker.specs.declared.fault.TrialFault.{TrialFault}
use Rattle.trial_maker.specs.declared.fault.TrialFault.TheVariants as trial_faults
use Rattle.insar_words.specs.declared.request.Request.TheVariants.{Trial}
use Rattle.insar_words.specs.declared.trial.Trial.{Trial as TrialSession}
use Rattle.insar_commands.specs.Causes.{HasRefusalCause}
use Rattle.answer_lines.specs.Refusals.{trial_refusal}
use Rattle.insar_commands.specs.Run.{HasKept, Run}
use Rattle.insar_commands.specs.Trial.{IsTrialSession, IsTrialText, TrialsHaveOneText}
use Rattle.answer_lines.specs.TrialLines.{IsLeastCost, count_grid, four_lines, open_pixels_of, residues_of}
use Rattle.answer_lines.proofs.SummaryLemmas.{grid_same, one_cost}

-- ---- the session

abbrev sample_in : PlaneOf → Field ℕ
sample_in p x y = slice_index p.samples (y * p.width + x)

-- a session that is asked for
abbrev pub IsAsked : TrialSession → Session → Type 0
IsAsked t s = IsTrialSession t.seed t.width t.height (options_of t.settings) s

-- the board's session is the trial's, on the options of the words
pub trial_again : (t : TrialSession) (scene : SceneSettings) (s made : Session) → s ≡ made → (scene.side ≡ t.settings.side) × ((scene.rule ≡ t.settings.rule) × (scene.terms ≡ t.settings.terms)) → IsTrialOf t.seed t.width t.height made → HasSettings scene made.scene → IsAsked t s
trial_again t scene s made same is of has = subst (IsAsked t) (sym same) (record { made = of; options_are = on_options t.settings scene made is has })

-- ---- what is written

pub trial_text : (t : TrialSession) (s : Session) (pixels residues unmasked cost : ℕ) → IsAsked t s → pixels ≡ s.scene.phase.width * s.scene.phase.height → residues ≡ residues_of (raster_of s.scene) → unmasked ≡ open_pixels_of s
    → IsLeastCost (raster_of s.scene) (open_at s.first_mask) cost → IsTrialText t.seed t.width t.height (options_of t.settings) (four_lines pixels residues unmasked cost)
trial_text t s pixels residues unmasked cost made p r u least = record {
  session = s;
  made = made;
  lines = record { cost = cost; least = least; spelled = rw (p, r, u) refl };
}

-- the raster of a trial that is asked for breaks no limit, so no session is made for want of memory alone
raster_fits : (t : TrialSession) → is_tiled_size t.width t.height ≡ true
raster_fits t =
    let across = t.across in
    let along = t.along in
    let few = t.few in
    grind (arith, nat_tests, across, along, few)

pub unmade_cause : (t : TrialSession) (r : Run) (fault : TrialFault) → HasKept r → (fault ≡ trial_faults.Size → is_tiled_size t.width t.height ≡ false) → HasRefusalCause (Trial t) r (trial_refusal fault)
unmade_cause t r trial_faults.Size kept small = absurd (true≢false (sym (raster_fits t) ∙ small refl))
unmade_cause t r trial_faults.Memory kept small = (tt, kept)

-- ---- two sessions of the same words

-- the samples of a plane by its pixels
module _ (p q : Plane) (w h : ℕ) (f : Field ℕ) (sizes : (p.width ≡ w) × ((p.height ≡ h) × ((q.width ≡ w) × (q.height ≡ h)))) (here : (x y : ℕ) → x < w → y < h → plane_sample p x y ≡ f x y) (there : (x y : ℕ) → x < w → y < h → plane_sample q x y ≡ f x y) where
  counts : (length p.samples.items ≡ w * h) × (length q.samples.items ≡ w * h)
  counts = (
    sym p.samples.ok.0 ∙ p.full ∙ ap₂ ◌*◌ sizes.0 sizes.1.0,
    sym q.samples.ok.0 ∙ q.full ∙ ap₂ ◌*◌ sizes.1.1.0 sizes.1.1.1,
  )

  at_pixel : (k : ℕ) → k < w * h → slice_index p.samples.items k ≡ slice_index q.samples.items k
  at_pixel k l =
      let wide : 0 < w = omega (arith, p.wide, sizes.0) in
      let x : k % w < w = mod_below k w wide in
      let m : k < h * w = grind arith in
      let y : k / w < h = div_below k w h wide m in
      let place : k / w * w + k % w ≡ k = div-add-mod' k w in
      let one : slice_index p.samples.items (k / w * w + k % w) ≡ f (k % w) (k / w) = ap (λ (n : ℕ). slice_index p.samples.items (k / w * n + k % w)) (sym sizes.0) ∙ here (k % w) (k / w) x y in
      let other : slice_index q.samples.items (k / w * w + k % w) ≡ f (k % w) (k / w) = ap (λ (n : ℕ). slice_index q.samples.items (k / w * n + k % w)) (sym sizes.1.1.0) ∙ there (k % w) (k / w) x y in
      ap (slice_index p.samples.items) (sym place) ∙ one ∙ sym other ∙ ap (slice_index q.samples.items) place

  same_samples : p.samples.items ≡ q.samples.items
  same_samples = same_number_lists p.samples.items q.samples.items (counts.0 ∙ sym counts.1) (λ k l. at_pixel k (rw counts.0 at l))

  same_plane : p.maxval ≡ q.maxval → IsSamePlane p q
  same_plane e = record { width = sizes.0 ∙ sym sizes.1.1.0; height = sizes.1.0 ∙ sym sizes.1.1.1; maxval = e; samples = same_samples }

module _ (seed w h : ℕ) (options : Options) (s t : Session) (on : IsTrialSession seed w h options s) (too : IsTrialSession seed w h options t) where
  abbrev one : IsTrialOf seed w h s
  one = on.made

  abbrev other : IsTrialOf seed w h t
  other = too.made

  unmasked : (x y : ℕ) → x < w → y < h → open_at s.first_mask x y ≡ open_at t.first_mask x y
  unmasked x y l m = one.mask.clear_at x y l m ∙ sym (other.mask.clear_at x y l m)

  same_input : IsSameInput s t
  same_input = record {
    phase = same_plane s.scene.phase t.scene.phase w h _ (one.size.0, (one.size.1, (other.size.0, other.size.1))) one.phases other.phases (s.scene.cycle ∙ sym t.scene.cycle);
    weights = same_plane s.scene.weights t.scene.weights w h _
        (s.scene.same_width.0 ∙ one.size.0, (s.scene.same_height.0 ∙ one.size.1, (t.scene.same_width.0 ∙ other.size.0, t.scene.same_height.0 ∙ other.size.1)))
        one.weights other.weights (one.greatest_weight ∙ sym other.greatest_weight);
    rule = on.options_are.rule ∙ sym too.options_are.rule;
    side = on.options_are.side ∙ sym too.options_are.side;
    terms = same_terms options s t on.options_are too.options_are;
    commands = one.scripts ∙ sym other.scripts;
    unmasked = λ x y l m. unmasked x y (rw one.size.0 at l) (rw one.size.1 at m);
  }

  same_raster : raster_of s.scene ≡ raster_of t.scene
  same_raster = (are_alike s t same_input []).raster

pub trials_have_one_text : TrialsHaveOneText
trials_have_one_text seed w h options text another a b =
    let s = a.session in
    let t = b.session in
    let one = a.made.made in
    let other = b.made.made in
    let raster = same_raster seed w h options s t a.made b.made in
    let sizes : (s.scene.phase.width ≡ t.scene.phase.width) × (s.scene.phase.height ≡ t.scene.phase.height) = (one.size.0 ∙ sym other.size.0, one.size.1 ∙ sym other.size.1) in
    let clear : (x y : ℕ) → x < s.scene.phase.width → y < s.scene.phase.height → open_at s.first_mask x y ≡ open_at t.first_mask x y = λ x y l m. unmasked seed w h options s t a.made b.made x y (rw one.size.0 at l) (rw one.size.1 at m) in
    let pixels : s.scene.phase.width * s.scene.phase.height ≡ t.scene.phase.width * t.scene.phase.height = ap₂ ◌*◌ sizes.0 sizes.1 in
    let residues : residues_of (raster_of s.scene) ≡ residues_of (raster_of t.scene) = ap residues_of raster in
    let unmasked : open_pixels_of s ≡ open_pixels_of t = grid_same s.scene.phase.width s.scene.phase.height (open_at s.first_mask) (open_at t.first_mask) clear ∙ ap₂ (λ (width height : ℕ). count_grid width height (open_at t.first_mask)) sizes.0 sizes.1 in
    let cost : a.lines.cost ≡ b.lines.cost = one_cost (raster_of s.scene) (open_at s.first_mask) (open_at t.first_mask) clear a.lines.cost b.lines.cost a.lines.least (subst (λ (r : Raster). IsLeastCost r (open_at t.first_mask) b.lines.cost) (sym raster) b.lines.least) in
    a.lines.spelled ∙ ap₂ (λ (p q : ℕ). four_lines p q (open_pixels_of s) a.lines.cost) pixels residues ∙ ap₂ (four_lines (t.scene.phase.width * t.scene.phase.height) (residues_of (raster_of t.scene))) unmasked cost ∙ sym b.lines.spelled
