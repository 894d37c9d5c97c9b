use Rattle.std.proofs.Common.{arith, rules}
use Rattle.insar_ports.proofs.FeedLemmas.{bytes-out, range-parts}
use Rattle.insar_ports.proofs.feed.Feed+S.consume.Goals as goal

pub returns-clause-left : goal.returns-clause-left
returns-clause-left g c =
    bytes-out c.args.self.now.buffer.items c.args.self.now.start c.args.self.now.stop c.args.self.now.end c.args.count _
    c.args.self.now.ordered (omega (arith, c.args.self.now.limited)) (search rules) c.requires

pub returns-clause-waiting : goal.returns-clause-waiting
returns-clause-waiting g c =
    range-parts c.args.self.now.buffer.items c.args.self.now.start c.args.self.now.stop c.args.self.now.stop c.args.count
    c.args.self.now.ordered (omega arith) (omega (arith, c.args.self.now.limited, c.args.self.now.stored, c.args.self.now.buffer.ok.0)) c.requires
