use Rattle.insar_ports.specs.Calls.{call_of}
use Rattle.insar_ports.specs.Feeding.{handed_of, left_of}
use Rattle.session_script.specs.declared.session_use.SessionUse.TheVariants.{BeforeReport}
use Rattle.session_script.specs.Sessions.{IsSessionIn, session_of}
use Rattle.insar_commands.proofs.SessionLemmas.{reaches_after}
use Rattle.insar_commands.proofs.both.read_first.Goals as goal

pub returns-clause-read : goal.returns-clause-read
returns-clause-read g c =
    reaches_after (call_of g.S.Source.left g.S.Source.faults c.args.feed.now c.read_session_on.new.feed) (left_of g.S.Source.left c.set_limit.new.self) (handed_of c.set_limit.new.self) (λ bytes rest. IsSessionIn BeforeReport c.args.scene.side bytes (session_of c.in_ok-session.session) rest)
    c.set_limit.ensures.left c.set_limit.ensures.handed c.in_ok-session.ensures.outcome.read
