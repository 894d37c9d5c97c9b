use Rattle.insar_ports.proofs.CallLemmas.{at_told, if_told}
use Rattle.report_text.specs.Contents.{report_told}
use Rattle.insar_commands.proofs.check.read_judged.Goals as goal

pub returns-clause-read : goal.returns-clause-read
returns-clause-read g c =
    let both = c.in_ok-session in
    let verdict = c.in_ok-verdict in
    if_told (g.S.Source.left c.args.source.now) _ (λ bytes t.
    let h = at_told (g.S.Source.left c.args.source.now) _ bytes t both.ensures.read in
    (record { session = both.session; told = report_told both.report; both = h.0; in_range = both.ensures.in_range; verdict_is = verdict.ensures.verdict }, h.1))
