use Rattle.std.proofs.Common.{arith, rules}
use Rattle.insar_ports.proofs.FeedLemmas.{waits-first}
use Rattle.insar_ports.proofs.feed.Feed+S.waiting.Goals as goal

pub returns-clause-front : goal.returns-clause-front
returns-clause-front g c =
    rw c.deref.ensures.value (waits-first c.args.self.now.buffer.items c.args.self.now.start c.args.self.now.stop c.args.self.now.end _
    c.args.self.now.ordered (omega (arith, c.args.self.now.limited)) (search rules))
