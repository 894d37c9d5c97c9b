use Rattle.std.proofs.Common.{◌∙◌}
use Rattle.raster_model.specs.Sheets.{sheet_raster}
use Rattle.raster_model.proofs.ResidueLemmas.{residue_fits, residue_from, residue_small, sum_fits}
use Rattle.raster_model.proofs.sheet.Sheet.residue.Goals as goal

pub overflow_sub-result-2 : goal.overflow_sub-result-2
overflow_sub-result-2 c =
    let t = c.args.self.now.terms in
    let p = c.gradient-top.ensures in
    let q = c.gradient-right.ensures in
    let r = c.gradient-bottom.ensures in
    let s = c.gradient-left.ensures in
    sum_fits t.ramp_x t.ramp_y c.gradient-top.result c.gradient-right.result c.gradient-bottom.result c.gradient-left.result t.across t.along p.low p.high q.low q.high r.low r.high s.low s.high

pub returns-clause-value : goal.returns-clause-value
returns-clause-value c =
    let t = c.args.self.now.terms in
    let p = c.gradient-top.ensures in
    let q = c.gradient-right.ensures in
    let r = c.gradient-bottom.ensures in
    let s = c.gradient-left.ensures in
    residue_fits t.ramp_x t.ramp_y c.gradient-top.result c.gradient-right.result c.gradient-bottom.result c.gradient-left.result t.across t.along p.low p.high q.low q.high r.low r.high s.low s.high
    ∙ residue_from (sheet_raster c.args.self.now) c.args.x c.args.y c.gradient-top.result c.gradient-right.result c.gradient-bottom.result c.gradient-left.result p.value q.value r.value s.value

pub returns-clause-small : goal.returns-clause-small
returns-clause-small c =
    let t = c.args.self.now.terms in
    let p = c.gradient-top.ensures in
    let q = c.gradient-right.ensures in
    let r = c.gradient-bottom.ensures in
    let s = c.gradient-left.ensures in
    let small = residue_small t.ramp_x t.ramp_y c.gradient-top.result c.gradient-right.result c.gradient-bottom.result c.gradient-left.result t.across t.along p.low p.high q.low q.high r.low r.high s.low s.high in
    rw (residue_fits t.ramp_x t.ramp_y c.gradient-top.result c.gradient-right.result c.gradient-bottom.result c.gradient-left.result t.across t.along p.low p.high q.low q.high r.low r.high s.low s.high) small
