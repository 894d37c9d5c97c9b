use Rattle.std.proofs.Common.{◌≡◌, ℕ, ◌++◌, [], ◌∷◌, Option, map, sym, ap, subst, ◌∙◌}
use Rattle.std.specs.List.{AllByRecursion}
use Rattle.std.proofs.lemmas.List.{map-append}
use Rattle.tile_board.specs.declared.entry.Entry.{Entry}
use Rattle.report_text.specs.Contents.{IsItemInRange, told_item}
use Rattle.report_text.specs.Fitting.{MayFit}
use Rattle.report_text.specs.Parts.{AreItems, items_in}
use Rattle.text_parts.specs.Text.{ended_line}
use Rattle.report_text.specs.Text.{history_line, item_text}
use Rattle.report_text.proofs.ItemForms.{entry_first, items_after, publication_after, surface_first, texts}
use Rattle.report_text.proofs.ItemsLemmas.{all_get, flat_map-push, item_read}
use Rattle.text_parts.proofs.ReadsLemmas.{advances_then, reads_ok, reads_part, reads_starved, took, took_is, took_none, took_then, reads_within}
use Rattle.report_text.proofs.read.read_items.Goals as goal
use Rattle.sums_and_lists.proofs.Lists.{all_push}

pub loop-items-init : goal.loop-items-init
loop-items-init g c =
    let none = c.new-items.ensures.items in
    record {
      took = took_is (took_none _) (ap (λ l. texts c.args.head.width c.args.head.height c.args.head.tiles (map told_item l)) (sym none));
      fits = rw none tt;
      ranges = rw none tt;
    }

pub returns-in_err-entry-clause-read : goal.returns-in_err-entry-clause-read
returns-in_err-entry-clause-read g c =
    let i = c.loop-items.invariant in
    let h = c.args.head in
    reads_within c.from_residual.result c.from_residual.ensures.1 (items_after h.width h.height h.tiles h.sized h.few (items_in c.loop-items.items) i.ranges) (entry_first h.width h.height h.tiles h.sized h.few) i.took c.in_err-entry.ensures.read

pub returns-in_default-clause-fits : goal.returns-in_default-clause-fits
returns-in_default-clause-fits g c = λ n i e. all_get (λ i. MayFit c.args.head.width c.args.head.height _ i.surface) c.loop-items.items.items (subst (λ (t : ℕ). AllByRecursion (λ i. MayFit c.args.head.width c.args.head.height t i.surface) c.loop-items.items.items) c.args.head.counted c.loop-items.invariant.fits) n i e

pub returns-in_default-clause-read : goal.returns-in_default-clause-read
returns-in_default-clause-read g c =
    let i = c.loop-items.invariant in
    reads_ok (took_then i.took (took c.in_ok-entry.ensures.read)) i.ranges (ap (λ (o : Option Entry). texts c.args.head.width c.args.head.height c.args.head.tiles (items_in c.loop-items.items) ++ ended_line history_line o) c.in_default.is)

pub returns-in_err-read_item-clause-read : goal.returns-in_err-read_item-clause-read
returns-in_err-read_item-clause-read g c =
    let i = c.loop-items.invariant in
    let h = c.args.head in
    let a = rw c.in-Some.is at c.in_ok-entry.ensures.read in
    let cause = c.in_err-read_item.ensures.refused in
    reads_part c.from_residual-in_err-read_item.result c.in_err-read_item.field-0.0 c.from_residual-in_err-read_item.ensures.1 (publication_after h.width h.height h.tiles h.sized h.few (items_in c.loop-items.items) c.in-Some.entry i.ranges a.read.0 cause.0) (surface_first h.width h.height h.tiles h.sized h.few) (took_then i.took (took a)) c.in_err-read_item.ensures.advances cause.1

pub returns-in_err-push-clause-read : goal.returns-in_err-push-clause-read
returns-in_err-push-clause-read g c =
    reads_starved c.from_residual-in_err-push.result c.from_residual-in_err-push.ensures.1 (advances_then (advances_then c.loop-items.invariant.took.advance c.in_ok-entry.ensures.read.advance) c.in_ok-read_item.ensures.advances)

pub loop-items-preserved : goal.loop-items-preserved
loop-items-preserved g c =
    let i = c.loop-items.invariant in
    let w = c.args.head.width in
    let h = c.args.head.height in
    let tiles = c.args.head.tiles in
    let items = items_in c.loop-items.items in
    let item = c.in_ok-read_item.field-0 in
    let a = rw c.in-Some.is at c.in_ok-entry.ensures.read in
    let b = c.in_ok-read_item.ensures in
    let pushed = c.in_ok-push.ensures.items in
    let told : items_in c.push.new.self ≡ items ++ told_item item ∷ [] = ap (λ l. map told_item l) pushed ∙ map-append told_item c.loop-items.items.items (item ∷ []) in
    record {
      took = took_is (took_then (took_then i.took (took a)) b.read) (item_read w h tiles (texts w h tiles items) c.in-Some.entry (told_item item) b.entry ∙ sym (flat_map-push (item_text w h tiles) items (told_item item)) ∙ ap (texts w h tiles) (sym told));
      fits = subst (AllByRecursion (λ i. MayFit w h tiles i.surface)) (sym pushed) (all_push (λ i. MayFit w h tiles i.surface) c.loop-items.items.items item i.fits b.fits);
      ranges = subst (AreItems w h tiles) (sym told) (all_push (IsItemInRange w h tiles) items (told_item item) i.ranges b.ranges);
    }
