use Rattle.std.proofs.Common.{rules, [], sym}
use Rattle.std.proofs.lemmas.List.{append-nil}
use Rattle.text_lines.specs.Views.{waiting_in}
use Rattle.text_lines.proofs.AddLemmas.{adds_put}
use Rattle.text_lines.proofs.writer.TextWriter.put_waiting.Goals as goal

pub returns-clause-adds : goal.returns-clause-adds
returns-clause-adds g c =
    adds_put _ _ [] (waiting_in c.args.self.now.waiting) c.requires (search rules) (sym (append-nil _)) c.clear.ensures.none
    c.put_whole-self.ensures.grows (rw c.bytes.ensures at c.put_whole-self.ensures.wrote) (rw c.bytes.ensures at c.put_whole-self.ensures.cut) c.put_whole-self.ensures.counted
