use Rattle.std.proofs.Common.{◌≡◌, ◌∙◌, ◌+◌, ◌++◌, ◌∷◌, [], List, ℕ, Ok, ap, refl, arith}
use Rattle.std.proofs.lemmas.Result.{err_from_is_err_and}
use Rattle.insar_ports.specs.Calls.{call_of}
use Rattle.insar_ports.specs.Feeding.{faults_of, handed_of, left_of, limit_of}
use Rattle.text_lines.proofs.StepLemmas.{moves_on, takes_join}
use Rattle.grid_writer.specs.Grids.{grid_of, text_of_grid}
use Rattle.grid_writer.specs.ManyGrids.{grids_of, text_of_grids}
use Rattle.grid_writer.proofs.ManyReads.{accepts_grids, end_breaks, grids_push, handed_within, next_breaks, refuses_grids, takes_all, texts_push}
use Rattle.grid_writer.proofs.many.read_grids.Goals as goal

pub returns-in_err-read_next-clause-moves : goal.returns-in_err-read_next-clause-moves
returns-in_err-read_next-clause-moves g c = moves_on c.loop-whole.invariant.moves c.read_next.ensures.moves

pub returns-in_err-read_next-clause-refused : goal.returns-in_err-read_next-clause-refused
returns-in_err-read_next-clause-refused g c =
    let i = c.loop-whole.invariant in
    let S = g.S.Source in
    let old = c.args.feed.now in
    let here = c.loop-whole.feed in
    let new = c.read_next.new.feed in
    let p = err_from_is_err_and c.from_residual.result c.from_residual.ensures.1 in
    rw (p.1, p.2) (next_breaks c.args.count c.loop-whole.whole i.are.0 i.are.1 c.loop-whole.grids.items i.are.2 (left_of S.left old) (handed_of old) (left_of S.left here) (handed_of here) (left_of S.left new) (handed_of new) (limit_of old) (limit_of here) (faults_of S.faults old) (faults_of S.faults here) (faults_of S.faults new)
    i.limit (omega (arith, i.limit, handed_within here)) i.moves i.taken (c.loop-whole.whole + 1) c.in_err-read_next.field-0.0 c.loop-whole-test.true refl (omega (arith, i.limit, c.read_next.ensures.same_limit, handed_within new)) c.in_err-read_next.ensures.refused)

pub returns-in_err-read_next-clause-accepted : goal.returns-in_err-read_next-clause-accepted
returns-in_err-read_next-clause-accepted g c = accepts_grids c.args.count (call_of g.S.Source.left g.S.Source.faults c.args.feed.now c.read_next.new.feed) (omega (arith, c.loop-whole.invariant.limit, c.read_next.ensures.same_limit, handed_within c.read_next.new.feed)) c.from_residual.result (returns-in_err-read_next-clause-refused g c)

pub returns-in_err-read_next-clause-exact : goal.returns-in_err-read_next-clause-exact
returns-in_err-read_next-clause-exact g c =
    let p = err_from_is_err_and c.from_residual.result c.from_residual.ensures.1 in
    refuses_grids c.args.count (call_of g.S.Source.left g.S.Source.faults c.args.feed.now c.read_next.new.feed) (omega (arith, c.loop-whole.invariant.limit, c.read_next.ensures.same_limit, handed_within c.read_next.new.feed)) c.from_residual.result (rw p.1 tt) (rw p.1 tt) (returns-in_err-read_next-clause-refused g c)

pub loop-whole-preserved : goal.loop-whole-preserved
loop-whole-preserved g c =
    let i = c.loop-whole.invariant in
    let r = c.in_ok-read_next.ensures.read in
    let old = c.loop-whole.grids.items in
    let a = call_of g.S.Source.left g.S.Source.faults c.args.feed.now c.loop-whole.feed in
    let b = call_of g.S.Source.left g.S.Source.faults c.loop-whole.feed c.read_next.new.feed in
    let all = text_of_grids (grids_of old) in
    record {
      name = c.read_next.ensures.same_source ∙ i.name;
      limit = c.read_next.ensures.same_limit ∙ i.limit;
      moves = moves_on i.moves c.read_next.ensures.moves;
      are = rw r.1.0 (grids_push c.loop-whole.whole i.are.0 i.are.1 old r.0 i.are.2 r.1.1.0 r.1.1.1.0);
      taken = rw r.1.0 (takes_join a b (λ (text : List ℕ) (rest : List ℕ). text ≡ all) (λ (text : List ℕ) (rest : List ℕ). text ≡ text_of_grid (grid_of r.0)) (λ (text : List ℕ) (rest : List ℕ). text ≡ text_of_grids (grids_of (old ++ r.0 ∷ []))) (λ p m q s e f h. ap (λ (l : List ℕ). l ++ q) e ∙ ap (λ (l : List ℕ). all ++ l) h ∙ texts_push old r.0) i.taken r.1.1.1.1);
    }

pub returns-in_err-see_end-clause-refused : goal.returns-in_err-see_end-clause-refused
returns-in_err-see_end-clause-refused g c =
    let i = c.loop-whole.invariant in
    let S = g.S.Source in
    let old = c.args.feed.now in
    let here = c.loop-whole.feed in
    let new = c.see_end.new.feed in
    let p = err_from_is_err_and c.from_residual-in_err-see_end.result c.from_residual-in_err-see_end.ensures.1 in
    rw (p.1, p.2) (end_breaks c.args.count c.loop-whole.whole i.are.0 i.are.1 c.loop-whole.grids.items i.are.2 (left_of S.left old) (handed_of old) (left_of S.left here) (handed_of here) (left_of S.left new) (handed_of new) (limit_of old) (limit_of here) (faults_of S.faults old) (faults_of S.faults here) (faults_of S.faults new)
    i.limit (omega (arith, i.limit, handed_within here)) i.moves i.taken c.args.count c.in_err-see_end.field-0.0 (omega (arith, c.loop-whole-test.false, c.loop-whole.auto.whole-end)) refl c.in_err-see_end.ensures.refused)

pub returns-in_err-see_end-clause-accepted : goal.returns-in_err-see_end-clause-accepted
returns-in_err-see_end-clause-accepted g c = accepts_grids c.args.count (call_of g.S.Source.left g.S.Source.faults c.args.feed.now c.see_end.new.feed) (omega (arith, c.loop-whole.invariant.limit, c.see_end.ensures.same_limit, handed_within c.see_end.new.feed)) c.from_residual-in_err-see_end.result (returns-in_err-see_end-clause-refused g c)

pub returns-in_err-see_end-clause-exact : goal.returns-in_err-see_end-clause-exact
returns-in_err-see_end-clause-exact g c =
    let p = err_from_is_err_and c.from_residual-in_err-see_end.result c.from_residual-in_err-see_end.ensures.1 in
    refuses_grids c.args.count (call_of g.S.Source.left g.S.Source.faults c.args.feed.now c.see_end.new.feed) (omega (arith, c.loop-whole.invariant.limit, c.see_end.ensures.same_limit, handed_within c.see_end.new.feed)) c.from_residual-in_err-see_end.result (rw p.1 tt) (rw p.1 tt) (returns-in_err-see_end-clause-refused g c)

pub returns-clause-read : goal.returns-clause-read
returns-clause-read g c =
    let S = g.S.Source in
    let old = c.args.feed.now in
    let here = c.loop-whole.feed in
    let new = c.see_end.new.feed in
    takes_all (left_of S.left old) (handed_of old) (left_of S.left here) (handed_of here) (left_of S.left new) (handed_of new) (limit_of old) (faults_of S.faults old) (faults_of S.faults here) (faults_of S.faults new) (text_of_grids (grids_of c.loop-whole.grids.items)) c.loop-whole.invariant.taken c.see_end.ensures.left c.see_end.ensures.handed c.in_ok-see_end.ensures.ended

pub returns-clause-fits : goal.returns-clause-fits
returns-clause-fits g c =
    let are = c.loop-whole.invariant.are in
    let all : c.loop-whole.whole ≡ c.args.count = omega (arith, c.loop-whole-test.false, c.loop-whole.auto.whole-end) in
    (are.0, are.1, rw all at are.2)

pub returns-clause-accepted : goal.returns-clause-accepted
returns-clause-accepted g c = accepts_grids c.args.count (call_of g.S.Source.left g.S.Source.faults c.args.feed.now c.see_end.new.feed) (omega (arith, c.loop-whole.invariant.limit, c.see_end.ensures.same_limit, handed_within c.see_end.new.feed)) (Ok c.loop-whole.grids) tt

pub returns-clause-exact : goal.returns-clause-exact
returns-clause-exact g c = refuses_grids c.args.count (call_of g.S.Source.left g.S.Source.faults c.args.feed.now c.see_end.new.feed) (omega (arith, c.loop-whole.invariant.limit, c.see_end.ensures.same_limit, handed_within c.see_end.new.feed)) (Ok c.loop-whole.grids) (returns-clause-read g c) (returns-clause-fits g c) tt
