use Rattle.std.proofs.lemmas.List.{take_all}
use Rattle.answer_lines.specs.WatchLines.{published_line}
use Rattle.text_lines.proofs.AddLemmas.{adds_next, adds_nothing}
use Rattle.answer_lines.proofs.watching.add_published.Goals as goal

pub loop-revision-init : goal.loop-revision-init
loop-revision-init g c = adds_nothing _

pub loop-revision-preserved : goal.loop-revision-preserved
loop-revision-preserved g c = adds_next published_line c.args.published.now c.loop-revision.revision-index 0 c.loop-revision-test.true c.loop-revision.invariant c.add_publication.ensures

pub returns : goal.returns
returns g c = rw (take_all c.loop-revision.revision-index c.args.published.now c.loop-revision-test.false) at c.loop-revision.invariant
