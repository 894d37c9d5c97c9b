-- What a run of `whole` and of `check-whole` promises.
use Rattle.std.proofs.Common.{◌≡◌, ◌∙◌, ℕ, ◌+◌, ◌-◌, ◌*◌, ◌<◌, ◌≤◌, ◌&&◌, Bool, List, length, refl, sym, ap, ap₂, subst, arith}
use Rattle.std.specs.Prelude.{ℤ, pos, IfSome, if◌then◌else◌, slice_index}
use Rattle.std.proofs.Math.Nat.{mul_comm}
use Rattle.std.proofs.lemmas.Bool.{lt-ltb}
use Rattle.std.proofs.lemmas.Nat.{mul-add-lt}
use Rattle.edge_weights.specs.Wholes.{IsSheetOfWhole}
use Rattle.edge_weights.specs.declared.whole.WholeScene.{WholeScene}
use Rattle.edge_weights.specs.declared.whole.WholeSession.{WholeSession}
use Rattle.pgm_planes.specs.Planes.{PlaneOf, plane_of}
use Rattle.raster_model.specs.declared.plane.Plane.{Plane}
use Rattle.raster_model.specs.declared.sheet.Sheet.{Sheet}
use Rattle.raster_model.specs.declared.terms.Terms.{Terms}
use Rattle.raster_model.specs.declared.tiling.Window.{Window}
use Rattle.raster_model.specs.declared.weights.RuleKind.{RuleKind}
use Rattle.raster_model.specs.Heights.{KnowsOpen}
use Rattle.raster_model.specs.Masks.{open_at}
use Rattle.raster_model.specs.Planes.{plane_sample}
use Rattle.raster_model.specs.Raster.{Raster, lifted}
use Rattle.raster_model.specs.Seams.{IsAnchored}
use Rattle.raster_model.specs.Sheets.{sheet_raster}
use Rattle.raster_model.specs.Sums.{Field, at_edge_end, at_edge_start}
use Rattle.raster_model.specs.Terms.{slope_of}
use Rattle.raster_model.specs.Weights.{edge_weight, rule_number}
use Rattle.raster_model.specs.Whole.{IsCertifiedWhole, whole_cost, whole_of}
use Rattle.raster_model.proofs.Whole.{certified_whole_is_least}
use Rattle.raster_model.proofs.TileCells.{cell_count-is}
use Rattle.raster_model.proofs.Windows.{whole_window}
use Rattle.whole_solver.specs.Cycles.{has_cycles, whole_cycles}
use Rattle.whole_solver.specs.Results.{IsGoodWhole}
use Rattle.whole_solver.specs.declared.result.WholeResult.{WholeResult}
use Rattle.text_parts.specs.Terms.{TermsOf, terms_of}
use Rattle.whole_text.specs.Told.{AreFewCycles, IsWholeTask, WholeTask, task_of, told_whole}
use Rattle.whole_text.proofs.SameLemmas.{wholes_unique}
use Rattle.whole_text.proofs.LengthLemmas.{whole_texts_are_short}
use Rattle.grid_writer.proofs.SizeLemmas.{wide_parts}
use Rattle.insar_ports.proofs.CallLemmas.{at_told, if_told}
use Rattle.insar_words.specs.Asked.{Options}
use Rattle.insar_words.specs.Requests.{options_of}
use Rattle.insar_words.specs.declared.request.Request.TheVariants.{Whole}
use Rattle.insar_words.specs.declared.settings.Settings.{Settings}
use Rattle.session_script.specs.declared.session_use.SessionUse.TheVariants.{BeforeReport}
use Rattle.session_script.specs.Layouts.{as_whole}
use Rattle.session_script.specs.Sessions.{IsSameSession, whole_session_of}
use Rattle.session_script.proofs.SessionAgain.{one_laid}
use Rattle.whole_text.specs.Text.{IsWhole, WholeOf, whole_text}
use Rattle.whole_check.specs.Same.{IsSolvedWhole}
use Rattle.whole_check.specs.Verdicts.{IsCertifiedText, surface_told}
use Rattle.whole_check.proofs.SameLemmas.{certified_wholes_are_accepted}
use Rattle.whole_check.proofs.UniqueLemmas.{wholes_have_one_verdict}
use Rattle.insar_commands.specs.Answers.{IsAnswerTo, IsUsedUp}
use Rattle.insar_commands.specs.Both.{most_of_text}
use Rattle.insar_commands.specs.CheckWhole.{AcceptedWholesAreLeast, BytesHaveOneWholeVerdict, WholesAreAccepted}
use Rattle.insar_commands.specs.Options.{HasWholeOptions}
use Rattle.insar_commands.specs.Run.{ReadsAll, Run}
use Rattle.insar_commands.specs.Whole.{IsWholeGiven, IsWholeOf, raster_laid, whole_task}
use Rattle.insar_commands.proofs.BothLemmas.{judged_after}
use Rattle.insar_commands.proofs.WholeAgain.{whole_verdict_too}

-- ---- the raster of a scene without tiles

-- by its planes, its rule and its terms
abbrev raster_by : Plane → Plane → RuleKind → Terms → Raster
raster_by phase weights rule terms = record { width = phase.width; height = phase.height; phase = plane_sample phase; slope = slope_of terms; weight = edge_weight rule weights; tile = λ x y. 0; tile_count = 1; steep = terms.steep }

pub laid_raster : (s : WholeScene) (sheet : Sheet) → IsSheetOfWhole s sheet → sheet_raster sheet ≡ raster_laid s
laid_raster s sheet is =
    ap (λ (p : Plane). raster_by p sheet.weights.now sheet.rule sheet.terms) is.phase ∙ ap (λ (p : Plane). raster_by s.phase p sheet.rule sheet.terms) is.weights ∙ ap (λ (k : RuleKind). raster_by s.phase s.weights k sheet.terms) is.rule
    ∙ ap (λ (t : Terms). raster_by s.phase s.weights s.rule t) is.terms

-- what is unwrapped of a sheet of the scene under the first mask
pub laid_task : (s : WholeSession) (sheet : Sheet) → IsSheetOfWhole s.scene sheet → task_of sheet s.first_mask ≡ whole_task s
laid_task s sheet is =
    let made : Raster → RuleKind → Terms → WholeTask = λ r k t. record { raster = r; rule = k; terms = terms_of t; mask = open_at s.first_mask } in
    ap (λ (r : Raster). made r sheet.rule sheet.terms) (laid_raster s.scene sheet is) ∙ ap (λ (k : RuleKind). made (raster_laid s.scene) k sheet.terms) is.rule ∙ ap (λ (t : Terms). made (raster_laid s.scene) s.scene.rule t) is.terms

-- phases are less than a cycle, and the steepness is within its limits
pub is_task : (s : WholeSession) → IsWholeTask (whole_task s)
is_task s = record { phases = λ x y. omega (arith, s.scene.phase.below (y * s.scene.phase.width + x), s.scene.cycle); steepness = s.scene.terms.steepness }

-- ---- what was solved can be written, and is what a whole surface has to be

less_none : (n : ℕ) → n - 0 ≡ n
less_none n = omega arith

module _ (s : WholeScene) (mask : Field Bool) (k : WholeResult) (good : IsGoodWhole (raster_laid s) mask k) where
  abbrev r : Raster
  r = raster_laid s

  abbrev cycles : Field ℤ
  cycles = whole_cycles k.width k.cycles.items

  place_below : (x y : ℕ) → x < s.phase.width → y < s.phase.height → y * k.width + x < length k.cycles.items
  place_below x y across along = omega (arith, mul-add-lt y k.width x s.phase.height along (omega (arith, across, good.width)), good.right.count, ap (λ (n : ℕ). n * s.phase.height) good.width)

  pub knows_all : KnowsOpen r mask (has_cycles k.width k.cycles.items)
  knows_all x y across along clear = ap₂ (λ (b d : Bool). b && d) (lt-ltb x k.width (omega (arith, across, good.width))) (lt-ltb (y * k.width + x) (length k.cycles.items) (place_below x y across along))

  pub few : AreFewCycles r mask cycles
  few x y across along clear = (let small = good.right.small (y * k.width + x) in omega (arith, small))

  pub one_each : length k.faces.items ≡ (s.phase.width - 1) * (s.phase.height - 1)
  one_each =
      let v : Window = record { x0 = 0; y0 = 0; x1 = s.phase.width - 1; y1 = s.phase.height - 1 } in
      let window = whole_window r v refl refl (omega (arith, s.phase.wide)) (omega (arith, s.phase.high)) in
      good.right.certified.certified.0 ∙ cell_count-is (whole_of r) 0 v window ∙ ap₂ (λ (a b : ℕ). a * b) (less_none (s.phase.height - 1)) (less_none (s.phase.width - 1)) ∙ mul_comm (s.phase.height - 1) (s.phase.width - 1)

-- what is certified is least of all
of_certified : (t : WholeTask) (w : WholeOf) → IsCertifiedText t w → IsWholeOf t w
of_certified t w c = record { certified = c; least = certified_whole_is_least t.raster t.mask (surface_told t w) w.faces c.certified }

pub is_whole : (s : WholeSession) (k : WholeResult) → IsGoodWhole (raster_laid s.scene) (open_at s.first_mask) k → IsWholeOf (whole_task s) (told_whole (whole_task s) (whole_cycles k.width k.cycles.items) k.faces.items k.cost)
is_whole s k good =
    let t : WholeTask = whole_task s in
    let solved : IsSolvedWhole t (whole_cycles k.width k.cycles.items) k.faces.items k.cost = record {
      few = few s.scene t.mask k good;
      anchored = subst (λ (w : ℕ). IsAnchored t.raster t.mask (lifted t.raster (whole_cycles w k.cycles.items))) (sym good.width) good.right.anchored;
      certified = subst (λ (w : ℕ). IsCertifiedWhole t.raster t.mask (lifted t.raster (whole_cycles w k.cycles.items)) k.faces.items) (sym good.width) good.right.certified;
      cost_is = subst (λ (w : ℕ). pos k.cost ≡ whole_cost t.raster t.mask (lifted t.raster (whole_cycles w k.cycles.items))) (sym good.width) good.cost;
    } in
    of_certified t (told_whole t (whole_cycles k.width k.cycles.items) k.faces.items k.cost) (certified_wholes_are_accepted t (is_task s) (whole_cycles k.width k.cycles.items) k.faces.items k.cost solved)

-- the text of a whole surface answers
pub whole_ready : (settings : Settings) (r : Run) (s : WholeSession) (w : WholeOf) → ReadsAll r.told r.left (λ bytes. IsWholeGiven (options_of settings) bytes s) → IsWholeOf (whole_task s) w → IsWhole w → IfSome r.told (λ bytes. IsAnswerTo (Whole settings) bytes 0 (whole_text w) × IsUsedUp (Whole settings) r)
whole_ready settings r s w read told ranges = if_told r.told _ (λ bytes t.
    let k = at_told r.told _ bytes t read in
    ((refl, record { session = s; whole = w; given = k.0; told = told; in_range = ranges; written = refl }), k.1))

pub wholes_are_accepted : WholesAreAccepted
wholes_are_accepted options bytes text both answer spelled =
    let most = whole_texts_are_short answer.whole answer.in_range in
    let few = (wide_parts answer.whole.width answer.whole.height answer.in_range.sized).few in
    let short : length text ≤ most_of_text as_whole = subst (λ (t : List ℕ). length t ≤ most_of_text as_whole) (sym answer.written) (omega (arith, most, few)) in
    judged_after as_whole whole_session_of (HasWholeOptions options) both answer.session answer.whole text answer.written spelled answer.given.options_are short answer.in_range answer.told.certified

pub accepted_wholes_are_least : AcceptedWholesAreLeast
accepted_wholes_are_least options bytes j = (of_certified (whole_task j.session) j.told j.verdict_is).least

-- ---- sessions that tell the same on the same options

abbrev pub plane_at : PlaneOf → Field ℕ
plane_at p x y = slice_index p.samples (y * p.width + x)

abbrev pub raster_told : PlaneOf → PlaneOf → RuleKind → TermsOf → Raster
raster_told p q k t = record { width = p.width; height = p.height; phase = plane_at p; slope = λ down. if down then t.ramp_y else t.ramp_x; weight = λ e. rule_number k q.maxval (at_edge_start (plane_at q) e) (at_edge_end (plane_at q) e); tile = λ x y. 0; tile_count = 1; steep = t.steep }

pub rasters_alike : (p q : PlaneOf) (k : RuleKind) (t : TermsOf) (o u : PlaneOf) (l : RuleKind) (v : TermsOf) → p ≡ o → q ≡ u → k ≡ l → t ≡ v → raster_told p q k t ≡ raster_told o u l v
rasters_alike p q k t o u l v phase weights rule terms =
    ap (λ (z : PlaneOf). raster_told z q k t) phase ∙ ap (λ (z : PlaneOf). raster_told o z k t) weights ∙ ap (λ (z : RuleKind). raster_told o u z t) rule ∙ ap (λ (z : TermsOf). raster_told o u l z) terms

module _ (options : Options) (s t : WholeSession) (same : IsSameSession (whole_session_of s) (whole_session_of t)) (one : HasWholeOptions options s) (other : HasWholeOptions options t) where
  same_rule : s.scene.rule ≡ t.scene.rule
  same_rule = one.rule ∙ sym other.rule

  same_whole_terms : terms_of s.scene.terms ≡ terms_of t.scene.terms
  same_whole_terms = λ i. record { ramp_x = (one.ramp_x ∙ sym other.ramp_x) i; ramp_y = (one.ramp_y ∙ sym other.ramp_y) i; steep = (one.steepness ∙ sym other.steepness) i }

  same_raster : raster_laid s.scene ≡ raster_laid t.scene
  same_raster = rasters_alike (plane_of s.scene.phase) (plane_of s.scene.weights) s.scene.rule (terms_of s.scene.terms) (plane_of t.scene.phase) (plane_of t.scene.weights) t.scene.rule (terms_of t.scene.terms) same.phase same.weights same_rule same_whole_terms

  same_open : (x y : ℕ) → x < (raster_laid s.scene).width → y < (raster_laid s.scene).height → open_at s.first_mask x y ≡ open_at t.first_mask x y
  same_open x y across along =
      let width = ap (λ (p : PlaneOf). p.width) same.phase in
      let height = ap (λ (p : PlaneOf). p.height) same.phase in
      same.mask.clear_at x y (rw (← width) across) (rw (← height) along)

pub bytes_have_one_whole_verdict : BytesHaveOneWholeVerdict
bytes_have_one_whole_verdict options bytes one other a j =
    let same = one_laid BeforeReport as_whole bytes (whole_session_of a.session) (whole_session_of j.session) (whole_text a.told) (whole_text j.told) a.both.spelled j.both.spelled in
    let equal = wholes_unique a.told j.told a.in_range j.in_range same.1 in
    let x = a.both.options_are in
    let y = j.both.options_are in
    wholes_have_one_verdict (whole_task j.session) (is_task j.session) j.told one other
    (whole_verdict_too (whole_task a.session) (whole_task j.session) (same_raster options a.session j.session same.0 x y) (same_rule options a.session j.session same.0 x y) (same_whole_terms options a.session j.session same.0 x y) (same_open options a.session j.session same.0 x y) a.told j.told equal one a.verdict_is)
    j.verdict_is
