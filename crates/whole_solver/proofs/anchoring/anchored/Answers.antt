use Rattle.std.proofs.Common.{rules, ◌≡◌, ◌∙◌, ◌*◌, ◌+◌, ◌<◌, ◌≤◌, ℕ, ℤ, List, length, FitsSigned, to_z, of_z}
use Rattle.std.specs.Int.{w64}
use Rattle.std.specs.Prelude.{pos, slice_index_or, unsigned_abs}
use Rattle.std.proofs.lemmas.Int.{to_z-of_z}
use Rattle.raster_model.specs.Masks.{open_at}
use Rattle.raster_model.specs.Sheets.{sheet_raster}
use Rattle.whole_solver.specs.declared.limits.TheConstants.{MAX_UNMOVED_CYCLES}
use Rattle.whole_solver.specs.Cycles.{whole_cycles}
use Rattle.whole_solver.proofs.Anchors.{lower_there, meets_anchor, read_there, stays_put, stays_small}
use Rattle.whole_solver.proofs.anchoring.anchored.Goals as goal

-- what the code takes off is the pixel's number of cycles, which is small
taken : (w h : ℕ) (cycles : List ℤ) (x y : ℕ) (z : ℤ) → length cycles ≡ w * h → x < w → y < h → FitsSigned w64 z → z ≡ slice_index_or cycles (y * w + x) z → to_z w64 (of_z w64 z) ≡ whole_cycles w cycles x y
taken w h cycles x y z count l m fits e = to_z-of_z w64 z fits ∙ read_there w h cycles count x y z l m e

small_there : (w : ℕ) (cycles : List ℤ) (x y : ℕ) (by : ℤ) → ((k : ℕ) → unsigned_abs (slice_index_or cycles k (pos 0)) ≤ MAX_UNMOVED_CYCLES) → by ≡ whole_cycles w cycles x y → unsigned_abs by ≤ MAX_UNMOVED_CYCLES
small_there w cycles x y by within e = rw e (within (y * w + x))

pub lowered-requires-clause-by : goal.lowered-requires-clause-by
lowered-requires-clause-by c =
    let s = c.args.sheet.now in
    let first = (c.in-Some.ensures {u = tt}).found in
    let fits : FitsSigned w64 c.index-by.result.now = search rules in
    small_there s.phase.now.width c.args.cycles.items c.in-Some.x c.in-Some.y _ c.requires.within (taken s.phase.now.width s.phase.now.height c.args.cycles.items c.in-Some.x c.in-Some.y c.index-by.result.now c.requires.count first.0.0 first.0.1 fits c.index-by.ensures)

pub returns-in-Some-clause-small : goal.returns-in-Some-clause-small
returns-in-Some-clause-small c =
    let s = c.args.sheet.now in
    let first = (c.in-Some.ensures {u = tt}).found in
    let fits : FitsSigned w64 c.index-by.result.now = search rules in
    let by = small_there s.phase.now.width c.args.cycles.items c.in-Some.x c.in-Some.y _ c.requires.within (taken s.phase.now.width s.phase.now.height c.args.cycles.items c.in-Some.x c.in-Some.y c.index-by.result.now c.requires.count first.0.0 first.0.1 fits c.index-by.ensures) in
    stays_small s.phase.now.width s.phase.now.height c.args.cycles.items c.requires.count c.lowered.result.items _ c.lowered.ensures.count c.lowered.ensures.lowered by c.requires.within

pub returns-in-Some-clause-moved : goal.returns-in-Some-clause-moved
returns-in-Some-clause-moved c =
    let s = c.args.sheet.now in
    (_, lower_there s.phase.now.width s.phase.now.height c.args.cycles.items c.requires.count c.lowered.result.items _ c.lowered.ensures.count c.lowered.ensures.lowered)

pub returns-in-Some-clause-anchored : goal.returns-in-Some-clause-anchored
returns-in-Some-clause-anchored c =
    let s = c.args.sheet.now in
    let first = (c.in-Some.ensures {u = tt}).found in
    let fits : FitsSigned w64 c.index-by.result.now = search rules in
    meets_anchor s.phase.now.width s.phase.now.height c.args.cycles.items c.requires.count c.lowered.result.items _ c.lowered.ensures.count c.lowered.ensures.lowered (sheet_raster s) (open_at c.args.mask.now) c.in-Some.x c.in-Some.y first first.0.0 first.0.1
    (taken s.phase.now.width s.phase.now.height c.args.cycles.items c.in-Some.x c.in-Some.y c.index-by.result.now c.requires.count first.0.0 first.0.1 fits c.index-by.ensures)

pub returns-in-None-clause-moved : goal.returns-in-None-clause-moved
returns-in-None-clause-moved c = (pos 0, λ x y l m. stays_put (sheet_raster c.args.sheet.now) c.args.sheet.now.phase.now.width c.args.cycles.items x y)
