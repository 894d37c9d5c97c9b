use Rattle.insar_ports.proofs.CallLemmas.{at_told, if_told}
use Rattle.whole_text.specs.Reading.{whole_told}
use Rattle.insar_commands.proofs.check_whole.read_judged.Goals as goal

pub returns-clause-read : goal.returns-clause-read
returns-clause-read g c =
    let both = c.in_ok-session in
    if_told (g.S.Source.left c.args.source.now) _ (λ bytes t.
    let h = at_told (g.S.Source.left c.args.source.now) _ bytes t both.ensures.read in
    (record { session = both.session; told = whole_told both.whole; both = h.0; in_range = both.ensures.in_range; verdict_is = c.judge.ensures }, h.1))
