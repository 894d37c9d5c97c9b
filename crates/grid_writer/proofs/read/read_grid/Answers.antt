use Rattle.insar_ports.specs.Calls.{call_of}
use Rattle.grid_writer.proofs.GridReads.{accepts_told, grid_taken, none_refused, refuses_told}
use Rattle.grid_writer.proofs.read.read_grid.Goals as goal

pub returns-clause-read : goal.returns-clause-read
returns-clause-read g c =
    let a = call_of g.S.Source.left g.S.Source.faults c.args.feed.now c.read_any.new.feed in
    grid_taken c.read_any.result _ _ a.told a.at a.left a.end a.limit a.before a.after c.read_any.ensures.read

pub returns-clause-refused : goal.returns-clause-refused
returns-clause-refused g c =
    none_refused c.read_any.result _ (call_of g.S.Source.left g.S.Source.faults c.args.feed.now c.read_any.new.feed) c.new-lines.ensures c.read_any.ensures.refused

pub returns-clause-accepted : goal.returns-clause-accepted
returns-clause-accepted g c =
    let a = call_of g.S.Source.left g.S.Source.faults c.args.feed.now c.read_any.new.feed in
    accepts_told a.told a.at a.left a.end a.limit a.before a.after c.read_any.result (grid_taken c.read_any.result _ _ a.told a.at a.left a.end a.limit a.before a.after c.read_any.ensures.read) c.read_any.ensures.fits (none_refused c.read_any.result _ a c.new-lines.ensures c.read_any.ensures.refused)

pub returns-clause-exact : goal.returns-clause-exact
returns-clause-exact g c =
    let a = call_of g.S.Source.left g.S.Source.faults c.args.feed.now c.read_any.new.feed in
    refuses_told a.told a.at a.left a.end a.limit a.before a.after c.read_any.result (grid_taken c.read_any.result _ _ a.told a.at a.left a.end a.limit a.before a.after c.read_any.ensures.read) c.read_any.ensures.fits (none_refused c.read_any.result _ a c.new-lines.ensures c.read_any.ensures.refused)
