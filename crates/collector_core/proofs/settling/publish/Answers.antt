use Rattle.std.proofs.Common.{◌≡◌, rules}
use Rattle.tile_board.specs.declared.answers.PublishFault.TheVariants.{Memory}
use Rattle.collector_core.proofs.RefusalLemmas.{published_or_memory}
use Rattle.collector_core.proofs.settling.publish.Goals as goal

pub unreachable-requires : goal.unreachable-requires
unreachable-requires c =
    let m : c.in-Err-NotSettle.field-0 ≡ Memory = published_or_memory c.args.board.now c.args.analyst c.args.seams c.verdict_is_unique.ensures c.requires.may c.requires.certify c.in-Err-NotSettle.field-0 c.in-Err-NotSettle.ensures.refused in
    search (rules, m)
