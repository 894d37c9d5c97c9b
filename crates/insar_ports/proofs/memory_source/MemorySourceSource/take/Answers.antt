use Rattle.std.proofs.Common.{arith}
use Rattle.insar_ports.proofs.MemoryLemmas.{given}
use Rattle.insar_ports.proofs.memory_source.MemorySourceSource.take.Goals as goal

pub returns-clause-gave : goal.returns-clause-gave
returns-clause-gave c =
    given c.args.self.now.bytes.items c.deref.result.now c.copy_from_slice.new.self _ _ _
    c.deref.ensures.value (omega (arith, c.min-count.ensures)) c.copy_from_slice.ensures.after
