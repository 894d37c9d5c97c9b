use Rattle.std.proofs.Common.{arith, rules}
use Rattle.insar_ports.proofs.FeedLemmas.{step-out}
use Rattle.insar_ports.proofs.feed.Feed+S.step.Goals as goal

pub returns-clause-left : goal.returns-clause-left
returns-clause-left g c =
    step-out c.args.self.now.buffer.items c.args.self.now.start c.args.self.now.stop c.args.self.now.end _
    c.requires (omega (arith, c.args.self.now.limited)) (search rules)
