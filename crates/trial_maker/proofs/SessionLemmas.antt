-- The scripts and the mask of a test session.
use Rattle.std.proofs.Common.{◌≡◌, ℕ, zero, suc, ◌*◌, ◌<◌, ◌≤◌, ◌∙◌, refl, sym, ap, subst, arith, List, [], ◌∷◌, length, sum_by, count_by, Bool}
use Rattle.std.specs.Prelude.{Some, slice_get}
use Rattle.std.proofs.lemmas.List.Sums.{sum_by-cons}
use Rattle.raster_model.specs.declared.plane.Plane.{Plane}
use Rattle.raster_model.specs.declared.script.Command.{Command}
use Rattle.raster_model.specs.declared.script.Command.TheVariants.{Change, Settle, Show}
use Rattle.raster_model.specs.declared.script.Edit.{Edit}
use Rattle.raster_model.specs.declared.script.Script.{Script}
use Rattle.raster_model.specs.declared.session.Session.{Session}
use Rattle.raster_model.specs.MaskView.{MaskView}
use Rattle.raster_model.specs.Masks.{IsMaskOf, open_by}
use Rattle.raster_model.specs.Planes.{plane_sample}
use Rattle.raster_model.specs.Scripts.{is_settle, is_change, settles_in, changes_in, ScriptsFit, ScriptsAreShort}
use Rattle.trial_maker.specs.Trials.{AreTrialScripts, IsTrialOf, is_open, phase_of, state_at, weight_of}
use Rattle.trial_maker.specs.Drawn.{AreDrawnPlanes}
use Rattle.trial_maker.proofs.DrawLemmas.{open_by_one}

-- ---- scripts

pub trial_length : (scripts : List Script) → AreTrialScripts scripts → length scripts ≡ 1
trial_length [] e = absurd cc
trial_length (x ∷ []) e = refl
trial_length (x ∷ y ∷ rest) e = absurd cc

commands_are : (scripts : List Script) → AreTrialScripts scripts → (k : ℕ) (s : Script) → slice_get scripts k ≡ Some s → s.commands.items ≡ Settle ∷ Show ∷ []
commands_are [] e k s g = absurd cc
commands_are (x ∷ []) e zero s g =
    let same : x ≡ s = cc in
    let c : x.commands.items ≡ Settle ∷ Show ∷ [] = cc in
    subst (λ (y : Script). y.commands.items ≡ Settle ∷ Show ∷ []) same c
commands_are (x ∷ []) e (suc k) s g = absurd cc
commands_are (x ∷ y ∷ rest) e k s g = absurd cc

pub trial_short : (scripts : List Script) → AreTrialScripts scripts → ScriptsAreShort scripts
trial_short scripts e k s g = omega (arith, ap length (commands_are scripts e k s g), s.commands.ok.0)

no_changes : (k : ℕ) (edit : Edit) → slice_get (Settle ∷ Show ∷ []) k ≡ Some (Change edit) → ⊥
no_changes zero edit e = cc
no_changes (suc zero) edit e = cc
no_changes (suc (suc k)) edit e = cc

pub trial_fits : (w h : ℕ) (scripts : List Script) → AreTrialScripts scripts → ScriptsFit w h scripts
trial_fits w h scripts e k s g i edit f =
    absurd (no_changes i edit (subst (λ (commands : List Command). slice_get commands i ≡ Some (Change edit)) (commands_are scripts e k s g) f))

trial_counts : (test : Command → Bool) (n : ℕ) → count_by test (Settle ∷ Show ∷ []) ≡ n → (scripts : List Script) → AreTrialScripts scripts → sum_by (λ script. count_by test script.commands.items) scripts ≡ n
trial_counts test n b [] e = absurd cc
trial_counts test n b (x ∷ []) e =
    let c : x.commands.items ≡ Settle ∷ Show ∷ [] = cc in
    let s = sum_by-cons (λ (script : Script). count_by test script.commands.items) x [] in
    let z : sum_by (λ (script : Script). count_by test script.commands.items) [] ≡ 0 = refl in
    omega (arith, s, z, ap (count_by test) c, b)
trial_counts test n b (x ∷ y ∷ rest) e = absurd cc

pub trial_settles : (scripts : List Script) (w h tw th : ℕ) → AreTrialScripts scripts → w ≡ tw → h ≡ th → tw * th ≤ 4194304 → settles_in scripts * (w * h) ≤ 67108864
trial_settles scripts w h tw th e a b l = rw (trial_counts is_settle 1 refl scripts e, a, b) (omega arith)

pub trial_changes : (scripts : List Script) (tiles : ℕ) → AreTrialScripts scripts → changes_in scripts * tiles ≤ 16777216
trial_changes scripts tiles e = rw (trial_counts is_change 0 refl scripts e) (omega arith)

-- ---- the mask

pub trial_mask : (seed w h : ℕ) (phase weights mask : Plane) (m : MaskView) → AreDrawnPlanes seed w h phase weights mask → IsMaskOf m mask.width mask.height (open_by mask) → IsMaskOf m w h (λ x y. is_open (state_at seed w x y))
trial_mask seed w h phase weights mask m drawn i =
    let e = drawn.mask_size in
    record {
      width = i.width ∙ e.0;
      height = i.height ∙ e.1;
      clear_at = λ x y l k. i.clear_at x y (omega (arith, l, e.0)) (omega (arith, k, e.1)) ∙ open_by_one _ _ (drawn.masked x y l k);
    }

-- ---- the session

pub trial_of : (seed w h : ℕ) (phase weights mask : Plane) (m : MaskView) (s : Session) → AreDrawnPlanes seed w h phase weights mask → IsMaskOf m mask.width mask.height (open_by mask) → s.scene.phase ≡ phase → s.scene.weights ≡ weights → s.first_mask ≡ m → AreTrialScripts s.scripts.items → IsTrialOf seed w h s
trial_of seed w h phase weights mask m s drawn i p q e scripts = record {
  size = (ap (λ (v : Plane). v.width) p ∙ drawn.phase_size.0, ap (λ (v : Plane). v.height) p ∙ drawn.phase_size.1);
  phases = subst (λ (v : Plane). (x y : ℕ) → x < w → y < h → plane_sample v x y ≡ phase_of (state_at seed w x y) x y) (sym p) drawn.phases;
  greatest_weight = ap (λ (v : Plane). v.maxval) q ∙ drawn.weight_size.2;
  weights = subst (λ (v : Plane). (x y : ℕ) → x < w → y < h → plane_sample v x y ≡ weight_of (state_at seed w x y)) (sym q) drawn.weighed;
  mask = subst (λ (v : MaskView). IsMaskOf v w h (λ x y. is_open (state_at seed w x y))) (sym e) (trial_mask seed w h phase weights mask m drawn i);
  scripts = scripts;
}
