use Rattle.std.proofs.Common.{◌≡◌, ◌<◌, Ok, ap, sym, ◌∙◌, arith, rules}
use Rattle.insar_ports.specs.Feeding.{left_of}
use Rattle.insar_ports.proofs.FeedLemmas.{begins, byte-out}
use Rattle.insar_ports.proofs.feed.Feed+S.peek.Goals as goal
use Rattle.insar_ports.proofs.feed.Feed+S.peek.Goals.{else-self-via-then-self+in_ok-fill+else-not-branch, else-self-via-else-self}

pub returns-clause-byte : goal.returns-clause-byte
returns-clause-byte g c =
    let ready : left_of g.S.Source.left c.args.self.now ≡ left_of g.S.Source.left c.else-self.self
    × c.else-self.self.start < c.else-self.self.stop =
    elim c.else-self.branch [
      | else-self-via-then-self+in_ok-fill+else-not-branch w ↦ (
        sym w.fill.ensures.left ∙ sym (ap (left_of g.S.Source.left) w.self-is),
        (let lt : w.fill.new.self.start < w.fill.new.self.stop = w.fill.ensures.ready (w.in_ok-fill.was ∙ ap Ok w.if-not-branch.false) in rw w.self-is lt),
      )
      | else-self-via-else-self w ↦ (sym (ap (left_of g.S.Source.left) w.self-is), (let ne = w.if-self.false in rw w.self-is (omega (arith, c.args.self.now.ordered))))
    ]
    in
    begins _ _ _ (byte-out c.else-self.self.buffer.items c.else-self.self.start c.else-self.self.stop c.else-self.self.end _ _ _
    ready.0 c.index.ensures ready.1 (omega (arith, c.else-self.self.limited)) (search rules))
