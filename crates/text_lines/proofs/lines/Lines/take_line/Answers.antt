use Rattle.std.proofs.Common.{◌∙◌, ◌-◌, arith, false, true}
use Rattle.std.proofs.lemmas.Result.{err_from_is_err_and}
use Rattle.insar_ports.specs.Calls.{call_of}
use Rattle.insar_ports.specs.Feeding.{handed_of}
use Rattle.text_lines.specs.LineWords.{kept_line}
use Rattle.text_lines.proofs.StepLemmas.{joined, moves_join, moves_on}
use Rattle.text_lines.proofs.TakeLemmas.{line_cut, line_ends, next_fails, part_more}
use Rattle.text_lines.proofs.lines.Lines.take_line.Goals as goal

pub returns-in_err-ended-clause-refused : goal.returns-in_err-ended-clause-refused
returns-in_err-ended-clause-refused g c =
    let i = c.loop-ended.invariant in
    let p = err_from_is_err_and c.from_residual.result c.from_residual.ensures.1 in
    rw (p.1, p.2) (next_fails (call_of g.S.Source.left g.S.Source.faults c.args.feed.now c.loop-ended.feed) (call_of g.S.Source.left g.S.Source.faults c.loop-ended.feed c.take_part.new.feed) c.args.most (kept_line c.loop-ended.self) i.kept c.in_err-ended.field-0.0 i.limit i.moves c.in_err-ended.ensures.refused)

pub returns-then-ended-clause-line : goal.returns-then-ended-clause-line
returns-then-ended-clause-line g c =
    let i = c.loop-ended.invariant in
    let a = call_of g.S.Source.left g.S.Source.faults c.args.feed.now c.loop-ended.feed in
    let b = call_of g.S.Source.left g.S.Source.faults c.loop-ended.feed c.take_part.new.feed in
    let further = rw c.in-Some.is at c.in_ok-ended.ensures.further in
    line_ends (joined a b) c.args.most (handed_of c.take_part.new.feed - handed_of c.args.feed.now - 1) (kept_line c.take_part.new.self) c.end_within.result (omega (arith, i.moves.place, further)) (rw (c.handed.ensures, c.handed-start.ensures) at c.end_within.ensures)
    (part_more a b c.args.most (kept_line c.loop-ended.self) i.kept (kept_line c.take_part.new.self) true (rw (c.in-Some.is, c.if-ended.true) at c.in_ok-ended.ensures.part))

pub loop-ended-preserved : goal.loop-ended-preserved
loop-ended-preserved g c =
    let i = c.loop-ended.invariant in
    let a = call_of g.S.Source.left g.S.Source.faults c.args.feed.now c.loop-ended.feed in
    let b = call_of g.S.Source.left g.S.Source.faults c.loop-ended.feed c.take_part.new.feed in
    record {
      name = c.take_part.ensures.same_source ∙ i.name;
      limit = c.take_part.ensures.same_limit ∙ i.limit;
      moves = moves_join a b i.moves c.take_part.ensures.moves;
      number = c.take_part.ensures.number ∙ i.number;
      room = c.in_ok-ended.ensures.room;
      kept = part_more a b c.args.most (kept_line c.loop-ended.self) i.kept (kept_line c.take_part.new.self) false (rw (c.in-Some.is, c.if-ended.false) at c.in_ok-ended.ensures.part);
    }

pub returns-in_err-ended-clause-moves : goal.returns-in_err-ended-clause-moves
returns-in_err-ended-clause-moves g c = moves_on c.loop-ended.invariant.moves c.take_part.ensures.moves

pub returns-in_err-ended-clause-further : goal.returns-in_err-ended-clause-further
returns-in_err-ended-clause-further g c = λ e. absurd (cc (e, (err_from_is_err_and c.from_residual.result c.from_residual.ensures.1).1))

pub returns-then-ended-clause-moves : goal.returns-then-ended-clause-moves
returns-then-ended-clause-moves g c = moves_on c.loop-ended.invariant.moves c.take_part.ensures.moves

pub returns-then-ended-clause-further : goal.returns-then-ended-clause-further
returns-then-ended-clause-further g c =
    let i = c.loop-ended.invariant in
    let further = rw c.in-Some.is at c.in_ok-ended.ensures.further in
    λ _. (omega (arith, i.moves.place, further), omega (arith, i.limit, further))

pub returns-clause-moves : goal.returns-clause-moves
returns-clause-moves g c = moves_on c.loop-ended.invariant.moves c.take_part.ensures.moves

pub returns-clause-further : goal.returns-clause-further
returns-clause-further g c = λ e. absurd cc

pub returns-clause-line : goal.returns-clause-line
returns-clause-line g c =
    line_cut (call_of g.S.Source.left g.S.Source.faults c.args.feed.now c.loop-ended.feed) (call_of g.S.Source.left g.S.Source.faults c.loop-ended.feed c.take_part.new.feed) c.args.most (kept_line c.loop-ended.self) c.loop-ended.invariant.kept
    (rw c.in_default.is at c.in_ok-ended.ensures.part)
