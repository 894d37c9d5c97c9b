use Rattle.std.proofs.Common.{◌≡◌, ◌+◌, ◌<◌, List, ℤ, length, ap, sym, subst, ◌∙◌, arith}
use Rattle.std.specs.Global.{Vec}
use Rattle.text_lines.specs.Parsing.{IsWide}
use Rattle.text_lines.proofs.TextLemmas.{texts_none}
use Rattle.report_text.specs.Contents.{lists_of}
use Rattle.report_text.specs.Parts.{AreFacesBelow, lists_in}
use Rattle.report_text.specs.Text.{all_faces_text, faces_text}
use Rattle.report_text.proofs.ListsLemmas.{faces_pushed, longs_push}
use Rattle.report_text.proofs.PartForms.{tile_after, tile_first}
use Rattle.text_parts.proofs.ReadsLemmas.{advances_then, reads_ok, reads_starved, took, took_is, took_none, took_then, reads_within}
use Rattle.report_text.proofs.read.read_faces.Goals as goal

pub loop-tile-init : goal.loop-tile-init
loop-tile-init g c = record {
  took = took_is (took_none _) (sym (texts_none (faces_text (lists_in c.new-faces.result))));
  count = c.new-faces.ensures.len;
  longs = λ t lt. absurd (omega arith);
}

pub returns-in_err-read_tile_faces-clause-read : goal.returns-in_err-read_tile_faces-clause-read
returns-in_err-read_tile_faces-clause-read g c =
    let i = c.loop-tile.invariant in
    let k = c.loop-tile.tile in
    let small : IsWide c.args.tiles = omega (arith, c.ranges.tiles.fits) in
    let here : k < c.args.tiles = omega (arith, c.loop-tile-test.true) in
    let faces = lists_in c.loop-tile.faces in
    reads_within c.from_residual.result c.from_residual.ensures.1 (tile_after c.args.tiles k small here faces i.longs) (tile_first c.args.tiles k small here faces i.longs) i.took c.in_err-read_tile_faces.ensures

pub returns-in_err-push-clause-read : goal.returns-in_err-push-clause-read
returns-in_err-push-clause-read g c =
    reads_starved c.from_residual-in_err-push.result c.from_residual-in_err-push.ensures.1 (advances_then c.loop-tile.invariant.took.advance c.in_ok-read_tile_faces.ensures.advance)

pub loop-tile-preserved : goal.loop-tile-preserved
loop-tile-preserved g c =
    let i = c.loop-tile.invariant in
    let k = c.loop-tile.tile in
    let lists = c.loop-tile.faces.items in
    let v = c.in_ok-read_tile_faces.field-0 in
    let a = c.in_ok-read_tile_faces.ensures in
    let count : length lists ≡ k = sym c.loop-tile.faces.ok.0 ∙ i.count in
    let items = c.in_ok-push.ensures.items in
    record {
      took = took_is (took_then i.took (took a)) (faces_pushed lists v k count ∙ ap (λ (l : List (Vec ℤ)). all_faces_text (k + 1) (lists_of l)) (sym items));
      count = let n = c.in_ok-push.ensures.len in let m = i.count in omega (arith, n, m);
      longs = subst (λ (l : List (Vec ℤ)). AreFacesBelow (k + 1) (lists_of l)) (sym items) (longs_push lists v k count i.longs a.read.0.1);
    }

pub returns-clause-read : goal.returns-clause-read
returns-clause-read g c =
    let i = c.loop-tile.invariant in
    let all : c.loop-tile.tile ≡ c.args.tiles = omega (arith, c.loop-tile-test.false, c.loop-tile.auto.tile-end) in
    reads_ok i.took (rw all at i.longs) (ap (λ n. all_faces_text n (lists_in c.loop-tile.faces)) all)
