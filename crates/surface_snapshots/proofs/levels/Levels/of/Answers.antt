use Rattle.std.proofs.Common.{◌≡◌, ◌∙◌, ◌*◌, ◌++◌, arith, drop, length, subst, sym, take, ℕ, List}
use Rattle.std.specs.Prelude.{ℤ}
use Rattle.std.proofs.Math.Seq.{take-append_seam}
use Rattle.surface_snapshots.specs.Shifted.{AreListedCycles}
use Rattle.surface_snapshots.proofs.StripLemmas.{strip_listed, whole_strip}
use Rattle.surface_snapshots.proofs.levels.Levels.of.Goals as goal

pub fill_strip-requires : goal.fill_strip-requires
fill_strip-requires c = record {
  strip = whole_strip c.args.surface (length c.deref_mut.result.now) (omega (arith, c.args.surface.scene.now.wide)) (c.deref_mut.ensures.len ∙ c.in_ok-cycles.ensures.len);
}

pub invariant_of-result : goal.invariant_of-result
invariant_of-result c =
    let s = c.args.surface in
    let n = s.scene.now.phase.height * s.scene.now.phase.width in
    let list = c.fill_strip.new.part in
    let cycles = c.in_ok-cycles.cycles in
    let old : length c.deref_mut.result.now ≡ n = c.deref_mut.ensures.len ∙ c.in_ok-cycles.ensures.len in
    let new : length list ≡ n = c.fill_strip.ensures.same ∙ old in
    let rest = drop (length list) cycles.items in
    let kept : take cycles.len (list ++ rest) ≡ list = subst (λ (m : ℕ). take m (list ++ rest) ≡ list) (new ∙ sym c.in_ok-cycles.ensures.len) (take-append_seam list rest) in
    record { listed = subst (AreListedCycles s n) (sym {A = List ℤ} kept) (strip_listed s list new (rw c.fill_strip.ensures.same c.fill_strip.ensures.filled)) }
