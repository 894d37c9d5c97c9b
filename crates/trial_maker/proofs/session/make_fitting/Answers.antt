use Rattle.std.proofs.Common.{◌∙◌, sym, subst, arith}
use Rattle.std.specs.Global.{Vec}
use Rattle.raster_model.specs.declared.script.Script.{Script}
use Rattle.trial_maker.specs.Trials.{AreTrialScripts}
use Rattle.trial_maker.proofs.SessionLemmas.{trial_length, trial_short, trial_fits, trial_of, trial_settles, trial_changes}
use Rattle.trial_maker.proofs.session.make_fitting.Goals as goal

pub invariant_of-parts : goal.invariant_of-parts
invariant_of-parts c =
    let drawn = c.in_ok-phase.ensures in
    let p = drawn.phase_size in
    let q = drawn.weight_size in
    let m = drawn.mask_size in
    let scripts = c.in_ok-trial_scripts.field-0 in
    let are = c.in_ok-trial_scripts.ensures in
    record {
      cycle = p.2;
      same_width = (q.0 ∙ sym p.0, (m.0 ∙ sym p.0, sym p.0));
      same_height = (q.1 ∙ sym p.1, (m.1 ∙ sym p.1, sym p.1));
      analysts = (omega (arith, trial_length scripts.items are, scripts.ok.0), omega (arith, trial_length scripts.items are, scripts.ok.0));
      short = trial_short scripts.items are;
      settles = trial_settles scripts.items _ _ _ _ are p.0 p.1 c.args.tiling.few;
      changes = trial_changes scripts.items _ are;
      inside = trial_fits _ _ scripts.items are;
    }

pub returns-clause-made : goal.returns-clause-made
returns-clause-made c =
    let all = c.put_together.ensures in
    trial_of _ _ _ _ _ _ _ _ c.in_ok-phase.ensures c.in_ok-first_mask.ensures all.phase all.weights all.mask (subst (λ (v : Vec Script). AreTrialScripts v.items) (sym all.scripts) c.in_ok-trial_scripts.ensures)
