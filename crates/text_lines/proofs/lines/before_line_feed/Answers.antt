use Rattle.std.proofs.Common.{◌+◌, drop}
use Rattle.text_lines.proofs.TakeLemmas.{line_feed_at, no_line_feed, none_before}
use Rattle.text_lines.proofs.lines.before_line_feed.Goals as goal

pub returns-in-Some-clause-front : goal.returns-in-Some-clause-front
returns-in-Some-clause-front c = (drop (c.in-Some.count + 1) c.args.bytes.now, line_feed_at c.args.bytes.now c.in-Some.count c.in-Some.ensures.0.high c.in-Some.ensures.1)

pub returns-in-Some-clause-inside : goal.returns-in-Some-clause-inside
returns-in-Some-clause-inside c = none_before c.args.bytes.now c.in-Some.count c.in-Some.ensures.0.high c.in-Some.ensures.0.before

pub returns-in-None-clause-inside : goal.returns-in-None-clause-inside
returns-in-None-clause-inside c = no_line_feed c.args.bytes.now c.in-None.ensures
