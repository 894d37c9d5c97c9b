use Rattle.std.proofs.Common.{◌+◌, MatchBool}
use Rattle.raster_model.specs.Masks.{open_at}
use Rattle.mask_revisions.specs.Steps.{HasOther, IsAll, IsBoxSet}
use Rattle.mask_revisions.proofs.edits.set_box.Given as goal

abbrev pub invariant-loop-y : goal.invariant-loop-y
invariant-loop-y l = record {
  set : IsBoxSet l.fn.mask l.mask l.fn.rect.x0 (l.fn.rect.x1 + 1) l.fn.rect.y0 l.y l.unmasked;
  changed : MatchBool l.changed (HasOther (open_at l.fn.mask) l.fn.rect.x0 (l.fn.rect.x1 + 1) l.fn.rect.y0 l.y l.unmasked) (IsAll (open_at l.fn.mask) l.fn.rect.x0 (l.fn.rect.x1 + 1) l.fn.rect.y0 l.y l.unmasked);
}
