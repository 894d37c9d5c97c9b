use Rattle.std.proofs.Common.{◌∙◌, ℕ, ◌*◌, sym, ap, arith, w64}
use Rattle.std.specs.Prelude.{unsigned_abs}
use Rattle.std.proofs.lemmas.Int.{to_z-of_z}
use Rattle.certificates.proofs.SeamLemmas.{edge_of_seam, heavy_cases, small_there, no_seam}
use Rattle.certificates.proofs.seam_flows.SeamFlows.is_heavy.Goals as goal

pub weight-requires : goal.weight-requires
weight-requires c = record {
  same_size = c.args.self.now.same_size;
  is_edge = edge_of_seam c.args.self.now c.args.edge (sym c.is_seam_edge.ensures ∙ c.if-is_seam_edge.true);
}

pub returns-then-is_seam_edge-clause-cases : goal.returns-then-is_seam_edge-clause-cases
returns-then-is_seam_edge-clause-cases c =
    heavy_cases c.args.self.now c.args.edge c.flow.result c.unsigned_abs.result c.from.result c.flow.ensures (c.unsigned_abs.ensures.value ∙ ap unsigned_abs (to_z-of_z w64 c.flow.result (record { sfits = c.flow.type_inv }))) (c.from.ensures ∙ c.limit.ensures.value ∙ ap (λ (n : ℕ). c.args.self.now.scene.now.terms.steep * n) c.weight.ensures) (sym c.is_seam_edge.ensures ∙ c.if-is_seam_edge.true)

pub returns-then-is_seam_edge-clause-small : goal.returns-then-is_seam_edge-clause-small
returns-then-is_seam_edge-clause-small c =
    small_there c.args.self.now c.args.edge c.flow.result c.unsigned_abs.result c.from.result c.flow.ensures (c.unsigned_abs.ensures.value ∙ ap unsigned_abs (to_z-of_z w64 c.flow.result (record { sfits = c.flow.type_inv }))) (c.from.ensures ∙ c.limit.ensures.value ∙ ap (λ (n : ℕ). c.args.self.now.scene.now.terms.steep * n) c.weight.ensures) (sym c.is_seam_edge.ensures ∙ c.if-is_seam_edge.true) (omega (arith, c.from.ensures, c.limit.ensures.small))

pub returns-else-is_seam_edge-clause-small : goal.returns-else-is_seam_edge-clause-small
returns-else-is_seam_edge-clause-small c n i = no_seam _ _ (sym c.is_seam_edge.ensures ∙ n) i
