use Rattle.std.proofs.Common.{◌≡◌, ◌∙◌, ◌+◌, ◌++◌, ap, append_assoc, arith, length, length-append, subst, sym, List, ℕ}
use Rattle.surface_snapshots.specs.declared.runs.Run.{Run}
use Rattle.surface_snapshots.specs.Runs.{ArePacked}
use Rattle.surface_snapshots.proofs.RunLemmas.{packed_more}
use Rattle.surface_snapshots.proofs.packing.Packing.pack.Goals as goal

pub loop-at-preserved : goal.loop-at-preserved
loop-at-preserved c =
    let i = c.loop-at.invariant in
    let kept = c.in_ok-number.ensures.kept in
    let labels = c.number.new.self.labels.items in
    let longer : length labels ≡ length c.loop-at.self.labels.items + length kept.0 = ap length kept.1 ∙ length-append c.loop-at.self.labels.items kept.0 in
    let run : Run = record { end = c.span_end-at.result; number = c.in_ok-number.number } in
    record {
      begins = (i.begins.0 ++ kept.0, kept.1 ∙ ap (λ (l : List ℕ). l ++ kept.0) i.begins.1 ∙ append_assoc c.args.self.now.labels.items i.begins.0 kept.0);
      some = omega (arith, i.some, longer);
      few = omega (arith, i.few, c.in_ok-number.ensures.more, c.span_end-at.ensures.within);
      within = c.span_end-at.ensures.within.1;
      packed = subst (λ (l : List Run). ArePacked labels c.len-first.result l c.args.list.now c.span_end-at.result) (sym {A = List Run} c.in_ok-push-2.ensures.items)
          (packed_more c.loop-at.self.labels.items labels c.len-first.result c.loop-at.runs.items c.args.list.now c.loop-at.at run i.packed kept c.span_end-at.ensures.within.0 c.in_ok-number.ensures.told c.span_end-at.ensures.same);
    }
