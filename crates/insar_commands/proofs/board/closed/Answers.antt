use Rattle.insar_commands.proofs.BoardLemmas.{complete_of}
use Rattle.insar_commands.proofs.board.closed.Goals as goal

pub returns-clause-complete : goal.returns-clause-complete
returns-clause-complete g c = complete_of c.close.result.session c.args.desk c.close.result.entries c.args.passes.items c.close.ensures.session c.requires c.close.ensures.stands
