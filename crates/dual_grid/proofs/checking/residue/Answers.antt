use Rattle.std.proofs.Common.{◌≡◌, ◌∙◌, ◌+◌, ◌-◌, ◌*◌, ℕ, ap, sym, arith, to_z, of_z, w8, w64, SFits, List, ℤ, rules}
use Rattle.std.specs.Prelude.{pos, slice_index_or}
use Rattle.std.proofs.lemmas.Int.{ints}
use Rattle.dual_grid.proofs.NodeLemmas.{node_inside}
use Rattle.dual_grid.proofs.checking.residue.Goals as goal

pub returns-clause-value : goal.returns-clause-value
returns-clause-value c =
    let p = c.args.problem.now in
    let fits : SFits w8 c.residue_of.result = search rules in
    let read : to_z w64 (of_z w64 c.from.result) ≡ c.residue_of.result = omega (arith, ints, c.from.ensures, fits) in
    read ∙ c.residue_of.ensures ∙ ap (λ (zs : List ℤ). slice_index_or zs ((c.args.y - p.window.y0) * (p.window.x1 - p.window.x0) + (c.args.x - p.window.x0)) (pos 0)) c.deref.ensures.value
    ∙ ap (λ (u : ℕ). slice_index_or p.residues.items u (pos 0)) (sym (node_inside p.window c.args.x c.args.y c.requires))
