use Rattle.std.proofs.Common.{◌≡◌, ◌∙◌, ℕ, Option, Some, None, false, ap, sym, refl, length}
use Rattle.std.specs.Option.{is_some}
use Rattle.std.specs.Prelude.{IfNone, ℤ, List}
use Rattle.seam_regions.specs.Offsets.{AreNear}
use Rattle.offset_network.proofs.guessing.judge.Goals as goal

-- all offsets are in range if none was found that is not
none_far : (offsets : List ℤ) (found : Option ℕ) → IfNone found (AreNear offsets) → is_some found ≡ false → AreNear offsets
none_far offsets None near none = near
none_far offsets (Some v) near none = cc

pub returns : goal.returns
returns c =
    let near = rw c.deref-else-len-count.ensures.value at (none_far c.deref-else-len-count.result.now c.first_far.result c.first_far.ensures.none (sym c.is_some.ensures ∙ c.if-is_some.false)) in
    let count = ap length (sym c.deref-2.ensures.value) ∙ c.deref-2.ensures.len ∙ sym c.len.ensures ∙ c.if-len-count.false ∙ c.count.ensures.value in (
      refl,
      record {
        count = count;
        in_range = λ v l. near v (rw count l);
        certified = (rw (c.deref-2.ensures.value, c.deref-3.ensures.value) at c.in_ok-certifies.ensures) c.if-not-branch.false;
      },
    )
