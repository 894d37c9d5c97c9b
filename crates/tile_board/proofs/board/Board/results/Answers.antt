use Rattle.std.proofs.Common.{refl}
use Rattle.std.specs.Arc.{arc_value}
use Rattle.certificates.specs.TileSets.{shared_results}
use Rattle.tile_board.specs.declared.answers.GatherFault.TheVariants.{Memory}
use Rattle.tile_board.specs.Histories.{present_mask}
use Rattle.tile_board.specs.States.{HaveResults, IsFirstGap}
use Rattle.tile_board.proofs.ListLemmas.{err_is}
use Rattle.tile_board.proofs.StateFacts.{all_kept, kept_good, least_lacking}
use Rattle.tile_board.proofs.board.Board.results.Goals as goal

pub returns-in-Some-clause-refused : goal.returns-in-Some-clause-refused
returns-in-Some-clause-refused c =
    let gap : IsFirstGap c.self.inside.kept c.in-Some.tile = c.in-Some.ensures in
    rw (← c.self.view_is) (least_lacking c.self.invariant c.in-Some.tile gap)

pub returns-in_err-results-clause-refused : goal.returns-in_err-results-clause-refused
returns-in_err-results-clause-refused c =
    let all : HaveResults c.self.inside.kept = c.in_default.ensures in
    rw (← c.self.view_is) (err_is c.from_residual.result Memory _ c.from_residual.ensures.1 (all_kept c.self.invariant all))

pub of_shared-requires : goal.of_shared-requires
of_shared-requires c = rw c.deref.ensures (kept_good c.self.invariant (present_mask (arc_value c.self.inside.session) c.self.inside.entries.items) (λ x y a b. refl) (shared_results c.in_ok-results.results.items) c.in_ok-results.ensures).each

pub returns-clause-results : goal.returns-clause-results
returns-clause-results c =
    rw (← c.self.view_is) (record {
      tiling = rw c.deref.ensures at c.of_shared.ensures.tiling;
      results = rw c.of_shared.ensures.results c.in_ok-results.ensures;
    })

pub returns-clause-ready : goal.returns-clause-ready
returns-clause-ready c =
    let all : HaveResults c.self.inside.kept = c.in_default.ensures in
    rw (← c.self.view_is) (all_kept c.self.invariant all)
