use Rattle.std.proofs.Common.{◌≡◌, ◌∙◌, sym, arith, to_z, of_z, length}
use Rattle.std.proofs.lemmas.Bool.{false≢true}
use Rattle.std.specs.Int.{w128}
use Rattle.std.proofs.lemmas.Int.{ints}
use Rattle.certificates.specs.TileWords.{held_raster}
use Rattle.certificates.proofs.VerdictLemmas.{counted, not_counted, sides_fit}
use Rattle.certificates.proofs.tile.Tile.check.Goals as goal

pub overflow_cast-cells : goal.overflow_cast-cells
overflow_cast-cells g c = (sides_fit c.args.self.now).0

pub overflow_cast-cells-2 : goal.overflow_cast-cells-2
overflow_cast-cells-2 g c = (sides_fit c.args.self.now).1

pub overflow_mul-cells : goal.overflow_mul-cells
overflow_mul-cells g c = (sides_fit c.args.self.now).2

pub bound-requires : goal.bound-requires
bound-requires g c =
    let k = c.args.self.now in
    record { count = counted (held_raster k) k.number k.window k.pixels (length c.args.faces.now) c.if-faces-cells.false }

pub returns-then-faces-cells-clause-refused : goal.returns-then-faces-cells-clause-refused
returns-then-faces-cells-clause-refused g c =
    let k = c.args.self.now in
    (not_counted (held_raster k) k.number k.window k.pixels (length c.args.faces.now) c.if-faces-cells.true, λ e. cc)

pub returns-in-Err-clause-refused : goal.returns-in-Err-clause-refused
returns-in-Err-clause-refused g c =
    let k = c.args.self.now in
    ((counted (held_raster k) k.number k.window k.pixels (length c.args.faces.now) c.if-faces-cells.false, c.in-Err.ensures.unfit), λ e. cc)

pub returns-then-is_same-clause-certified : goal.returns-then-is_same-clause-certified
returns-then-is_same-clause-certified g c =
    let k = c.args.self.now in
    let back : to_z w128 (of_z w128 c.in-Ok.bound) ≡ c.in-Ok.bound = omega (arith, ints) in (
      (
        counted (held_raster k) k.number k.window k.pixels (length c.args.faces.now) c.if-faces-cells.false,
        record { fits = c.in-Ok.ensures.fit; equal = sym c.in-Ok.ensures.total ∙ sym back ∙ c.is_same.ensures.0 c.if-is_same.true ∙ c.cost-cost.ensures },
      ),
      c.cost-cost.ensures,
    )

pub returns-else-is_same-clause-refused : goal.returns-else-is_same-clause-refused
returns-else-is_same-clause-refused g c =
    let k = c.args.self.now in
    let back : to_z w128 (of_z w128 c.in-Ok.bound) ≡ c.in-Ok.bound = omega (arith, ints) in (
      (
        counted (held_raster k) k.number k.window k.pixels (length c.args.faces.now) c.if-faces-cells.false,
        c.in-Ok.ensures.fit,
        c.cost-cost.ensures,
        back ∙ c.in-Ok.ensures.total,
        λ e. false≢true (sym c.if-is_same.false ∙ c.is_same.ensures.1 e),
      ),
      λ e. cc,
    )
