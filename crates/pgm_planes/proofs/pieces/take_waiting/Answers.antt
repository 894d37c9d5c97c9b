use Rattle.std.proofs.Common.{[], refl, arith}
use Rattle.pgm_planes.proofs.Words.{faults_of, handed_of, left_of, limit_of, AreTogether}
use Rattle.insar_ports.proofs.CallLemmas.{stays}
use Rattle.pgm_planes.proofs.PieceLemmas.{takes_nothing}
use Rattle.pgm_planes.proofs.pieces.take_waiting.Goals as goal

pub returns-in-Digits : goal.returns-in-Digits
returns-in-Digits g c =
    let are : AreTogether c.args.form [] [] = rw c.in-Digits.is (refl, refl) in
    record {
      same_source = refl;
      limit = refl;
      moves = stays (left_of g.S.Source.left c.args.feed.now) (left_of g.S.Source.left c.args.feed.now) (handed_of c.args.feed.now) (handed_of c.args.feed.now) (limit_of c.args.feed.now) (faults_of g.S.Source.faults c.args.feed.now) (faults_of g.S.Source.faults c.args.feed.now) refl refl (omega arith);
      taken = takes_nothing c.args.form c.args.maxval c.args.most c.args.samples.now.items (left_of g.S.Source.left c.args.feed.now) (handed_of c.args.feed.now) (limit_of c.args.feed.now) (faults_of g.S.Source.faults c.args.feed.now) are (omega arith);
    }
