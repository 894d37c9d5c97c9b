use Rattle.std.proofs.Common.{◌∙◌, ap, arith, List, ◌++◌, ◌∷◌, []}
use Rattle.std.specs.Arc.{arc_value}
use Rattle.tile_board.specs.declared.entry.Entry.{Entry}
use Rattle.tile_board.proofs.HeldLemmas.{cursor_there}
use Rattle.tile_board.specs.declared.answers.AdvanceFault.TheVariants.{Memory}
use Rattle.tile_board.proofs.ListLemmas.{err_is}
use Rattle.tile_board.proofs.StepLemmas.{alone_next, alone_refused, cursor_small, state_alone}
use Rattle.tile_board.proofs.board.Board.add.Goals as goal

pub invariant_of-self-2 : goal.invariant_of-self-2
invariant_of-self-2 c =
    let entries = c.push_within.ensures.items ∙ ap (λ (es : List Entry). es ++ (c.args.entry ∷ [])) c.in_ok-reserve.ensures.items in
    state_alone c.self.invariant c.args.entry c.args.analyst c.index_mut.result.now c.push_within.new.items.items entries (rw (← c.self.view_is) at c.requires.step) c.requires.alone c.index_mut.ensures.value

pub index_mut-requires : goal.index_mut-requires
index_mut-requires c =
    let n = alone_next (arc_value c.self.inside.session) c.self.inside.entries.items c.args.entry c.args.analyst (rw (← c.self.view_is) at c.requires.step) c.requires.alone in
    omega (arith, cursor_there c.self.invariant.past c.args.analyst n.0 n.1, c.self.inside.cursors.ok.0)

pub overflow_add-index_mut : goal.overflow_add-index_mut
overflow_add-index_mut c =
    let n = alone_next (arc_value c.self.inside.session) c.self.inside.entries.items c.args.entry c.args.analyst (rw (← c.self.view_is) at c.requires.step) c.requires.alone in
    omega (arith, cursor_small c.self.invariant c.args.analyst n.0 c.index_mut.result.now n.1 c.index_mut.ensures.value)

pub returns-in_err-reserve-clause-refused : goal.returns-in_err-reserve-clause-refused
returns-in_err-reserve-clause-refused c =
    err_is c.from_residual.result Memory _ c.from_residual.ensures.1 (alone_refused c.args.self.now c.args.analyst c.args.entry Memory c.requires.step c.requires.alone)
