use Rattle.std.proofs.Common.{◌<◌, ◌∙◌, length, get_or, pos, w64, FitsSigned, rules, sym}
use Rattle.std.proofs.lemmas.Int.{to_z-of_z}
use Rattle.certificates.proofs.SeamLemmas.{place_is_below, flow_there}
use Rattle.certificates.proofs.seam_flows.SeamFlows.flow.Goals as goal

pub bounds-self-place : goal.bounds-self-place
bounds-self-place c = place_is_below c.args.self.now c.args.edge c.args.place c.requires.placed (sym c.is_seam_edge.ensures ∙ c.if-is_seam_edge.true)

pub offset_bounds-self-place : goal.offset_bounds-self-place
offset_bounds-self-place c =
    let l : c.args.place < length c.args.self.now.flows.now = place_is_below c.args.self.now c.args.edge c.args.place c.requires.placed (sym c.is_seam_edge.ensures ∙ c.if-is_seam_edge.true) in
    search rules

pub returns-then-is_seam_edge : goal.returns-then-is_seam_edge
returns-then-is_seam_edge c =
    let k = c.args.self.now in
    let f : FitsSigned w64 (get_or k.flows.now c.args.place (pos 0)) = search rules in
    to_z-of_z w64 (get_or k.flows.now c.args.place (pos 0)) f ∙ flow_there k c.args.edge c.args.place c.requires.placed (sym c.is_seam_edge.ensures ∙ c.if-is_seam_edge.true)
