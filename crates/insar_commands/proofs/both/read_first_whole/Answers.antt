use Rattle.insar_ports.specs.Calls.{call_of}
use Rattle.insar_ports.specs.Feeding.{handed_of, left_of}
use Rattle.session_script.specs.declared.session_use.SessionUse.TheVariants.{BeforeReport}
use Rattle.session_script.specs.Sessions.{IsWholeSessionIn, whole_session_of}
use Rattle.insar_commands.proofs.SessionLemmas.{on_whole_options, reaches_after}
use Rattle.insar_commands.proofs.both.read_first_whole.Goals as goal

pub returns-clause-read : goal.returns-clause-read
returns-clause-read g c =
    reaches_after (call_of g.S.Source.left g.S.Source.faults c.args.feed.now c.read_whole_session.new.feed) (left_of g.S.Source.left c.set_limit.new.self) (handed_of c.set_limit.new.self) (λ bytes rest. IsWholeSessionIn BeforeReport bytes (whole_session_of c.in_ok-session.session) rest)
    c.set_limit.ensures.left c.set_limit.ensures.handed c.in_ok-session.ensures.outcome.read

pub returns-clause-options : goal.returns-clause-options
returns-clause-options g c = on_whole_options c.args.settings c.in_ok-session.session c.in_ok-session.ensures.rule c.in_ok-session.ensures.terms
