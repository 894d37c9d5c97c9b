use Rattle.std.proofs.Common.{◌≡◌, ◌∙◌, ap, refl, arith, List, ◌++◌, ◌∷◌, []}
use Rattle.std.specs.Prelude.{Some, map}
use Rattle.std.specs.Arc.{arc_value}
use Rattle.std.proofs.lemmas.List.{map_push}
use Rattle.raster_model.specs.declared.script.Command.TheVariants.{Settle}
use Rattle.surface_snapshots.specs.declared.snapshot.Snapshot.{Snapshot}
use Rattle.surface_snapshots.specs.Views.{parts_of}
use Rattle.tile_board.specs.declared.entry.Entry.{Entry}
use Rattle.tile_board.specs.declared.entry.Entry.TheVariants.{Published}
use Rattle.tile_board.specs.Histories.{next_command}
use Rattle.tile_board.proofs.HeldLemmas.{cursor_there}
use Rattle.tile_board.proofs.StepLemmas.{cursor_small, state_published}
use Rattle.tile_board.proofs.board.Board.add_surface.Goals as goal

pub index_mut-requires : goal.index_mut-requires
index_mut-requires c =
    let n : next_command (arc_value c.self.inside.session) c.self.inside.entries.items c.args.analyst ≡ Some Settle = (rw (← c.self.view_is) at c.requires.step).0 in
    omega (arith, cursor_there c.self.invariant.past c.args.analyst Settle n, c.self.inside.cursors.ok.0)

pub overflow_add-index_mut : goal.overflow_add-index_mut
overflow_add-index_mut c =
    let n : next_command (arc_value c.self.inside.session) c.self.inside.entries.items c.args.analyst ≡ Some Settle = (rw (← c.self.view_is) at c.requires.step).0 in
    omega (arith, cursor_small c.self.invariant c.args.analyst Settle c.index_mut.result.now n c.index_mut.ensures.value)

pub invariant_of-self-2 : goal.invariant_of-self-2
invariant_of-self-2 c =
    let i = c.self.inside in
    let step = rw (← c.self.view_is) at c.requires.step in
    let is = rw (← c.self.view_is) at c.requires.surface in
    let p = parts_of c.args.snapshot in
    let entries = c.push_within.ensures.items ∙ ap (λ (es : List Entry). es ++ (Published c.args.analyst c.args.revision ∷ [])) c.in_ok-reserve.ensures.items in
    let surfaces = ap (map parts_of) (c.push_within-2.ensures.items ∙ ap (λ (ss : List Snapshot). ss ++ (c.args.snapshot ∷ [])) c.in_ok-reserve-2.ensures.items) ∙ map_push parts_of i.snapshots.items c.args.snapshot in
    state_published c.self.invariant c.args.analyst c.args.revision c.index_mut.result.now c.push_within.new.items.items (map parts_of c.push_within-2.new.items.items) p entries surfaces step c.requires.revision is c.index_mut.ensures.value

pub returns-clause-added : goal.returns-clause-added
returns-clause-added c =
    let i = c.self.inside in
    let entries = c.push_within.ensures.items ∙ ap (λ (es : List Entry). es ++ (Published c.args.analyst c.args.revision ∷ [])) c.in_ok-reserve.ensures.items in
    let surfaces = ap (map parts_of) (c.push_within-2.ensures.items ∙ ap (λ (ss : List Snapshot). ss ++ (c.args.snapshot ∷ [])) c.in_ok-reserve-2.ensures.items) ∙ map_push parts_of i.snapshots.items c.args.snapshot in
    rw (← c.self.view_is) (record {
      adds = record { session = refl; step = rw (← c.self.view_is) at c.requires.step; entries = entries };
      kept = refl;
      surfaces = surfaces;
    })
