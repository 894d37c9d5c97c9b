use Rattle.std.proofs.Common.{rules, ap, sym, ◌++◌, List, ℕ}
use Rattle.text_lines.proofs.AddLemmas.{adds_put}
use Rattle.text_lines.proofs.writer.TextWriter.straight.Goals as goal

pub returns-then-self : goal.returns-then-self
returns-then-self g c =
    adds_put _ _ c.args.piece.now c.args.piece.now c.if-self.true (search rules) (ap (λ (l : List ℕ). l ++ c.args.piece.now) (sym c.requires)) c.requires
    c.put_whole-self.ensures.grows c.put_whole-self.ensures.wrote c.put_whole-self.ensures.cut c.put_whole-self.ensures.counted
