use Rattle.std.proofs.Common.{◌≡◌, ap, pos}
use Rattle.std.specs.Prelude.{nat_lt}
use Rattle.raster_model.specs.Sums.{right_edge, down_edge}
use Rattle.raster_model.specs.Raster.{masked_weight, over}
use Rattle.raster_model.proofs.PartLemmas.{taken, left_out}
use Rattle.certificates.specs.TileWords.{difference_at, held_mask, held_raster}
use Rattle.certificates.proofs.OverLemmas.{both_over, lower_fit, right_fit}
use Rattle.certificates.proofs.tile.Tile.over_from.Goals as goal
use Rattle.certificates.proofs.tile.Tile.over_from.Goals.{then-x-self, else-x-self, then-y-self, else-y-self}
use Rattle.sums_and_lists.specs.Sums.{where_true}

pub over-to_right-requires-clause-fit : goal.over-to_right-requires-clause-fit
over-to_right-requires-clause-fit c = right_fit c.args.self.now c.args.faces.now c.args.x c.args.y c.requires.within c.requires.fit c.if-x-self.true

pub over-to_lower-requires-clause-fit : goal.over-to_lower-requires-clause-fit
over-to_lower-requires-clause-fit c = lower_fit c.args.self.now c.args.faces.now c.args.x c.args.y c.requires.within c.requires.fit c.if-y-self.true

pub returns-clause-value : goal.returns-clause-value
returns-clause-value c =
    let k = c.args.self.now in
    let p : pos c.if-x-self.to_right ≡ where_true (nat_lt c.args.x k.window.x1) (pos (over (masked_weight (held_raster k) (held_mask k) (right_edge c.args.x c.args.y)) (difference_at k c.args.faces.now (right_edge c.args.x c.args.y)))) =
    elim c.if-x-self.branch [
      | then-x-self b ↦ taken _ _ _ _ _ b.to_right-is (ap pos b.over-to_right.ensures.value) b.if-x-self.true
      | else-x-self b ↦ left_out _ _ _ _ b.to_right-is b.if-x-self.false
    ] in
    let q : pos c.if-y-self.to_lower ≡ where_true (nat_lt c.args.y k.window.y1) (pos (over (masked_weight (held_raster k) (held_mask k) (down_edge c.args.x c.args.y)) (difference_at k c.args.faces.now (down_edge c.args.x c.args.y)))) =
    elim c.if-y-self.branch [
      | then-y-self b ↦ taken _ _ _ _ _ b.to_lower-is (ap pos b.over-to_lower.ensures.value) b.if-y-self.true
      | else-y-self b ↦ left_out _ _ _ _ b.to_lower-is b.if-y-self.false
    ] in
    both_over k c.args.faces.now c.args.x c.args.y c.requires.within c.if-x-self.to_right c.if-y-self.to_lower p q
