use Rattle.std.proofs.lemmas.List.{get_or_default}
use Rattle.insar_commands.proofs.BoardLemmas.{gave_back, some_run}
use Rattle.insar_commands.proofs.watching.give_back.Goals as goal

pub give_back-requires-clause-into : goal.give_back-requires-clause-into
give_back-requires-clause-into g c = c.requires.run.own 0 _ (some_run c.args.desk.now c.args.passes.now c.requires.run)

pub returns : goal.returns
returns g c =
    let d = c.args.desk.now in
    let passes = c.args.passes.now in
    gave_back d passes _ c.args.worker c.give_back.new.into (get_or_default passes 0 _ _ (some_run d passes c.requires.run)) c.requires.run c.give_back.ensures c.ended-ended.ensures.sound
