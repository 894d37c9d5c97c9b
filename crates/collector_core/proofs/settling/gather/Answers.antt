use Rattle.std.proofs.Common.{◌≡◌, rules}
use Rattle.tile_board.specs.declared.answers.GatherFault.TheVariants.{Memory}
use Rattle.collector_core.proofs.RefusalLemmas.{gathered_or_memory}
use Rattle.collector_core.proofs.settling.gather.Goals as goal

pub unreachable-requires : goal.unreachable-requires
unreachable-requires c =
    let m : c.in-Err-Unready.field-0 ≡ Memory = gathered_or_memory c.args.board.now c.requires c.in-Err-Unready.field-0 c.in-Err-Unready.ensures.refused in
    search (rules, m)
