use Rattle.std.proofs.Common.{◌∙◌, ◌+◌, ◌++◌, ◌∷◌, [], List, ℕ, ap, append_assoc, drop, sym, take}
use Rattle.std.proofs.lemmas.List.{append-nil, take_rest}
use Rattle.std.proofs.lemmas.Result.{err_from_is_err_and}
use Rattle.insar_ports.specs.Calls.{call_of}
use Rattle.text_lines.specs.LineWords.{lines_read}
use Rattle.text_lines.proofs.FirstLemmas.{line_then, no_end_within}
use Rattle.text_lines.proofs.FormLemmas.{in_line, whole_append, whole_line}
use Rattle.text_lines.proofs.StepLemmas.{line_fails, moves_join, moves_on, texts_are, texts_join}
use Rattle.text_lines.proofs.TakeLemmas.{line_feed_at, no_line_feed, none_before}
use Rattle.text_lines.proofs.expect.expect_text.Goals as goal

pub returns-in_err-expect_line-clause-refused : goal.returns-in_err-expect_line-clause-refused
returns-in_err-expect_line-clause-refused g c =
    let i = c.loop-count.invariant in
    let f = i.front in
    let rest = c.loop-count.rest.now in
    let line = take c.in-Some.count rest in
    let after = drop (c.in-Some.count + 1) rest in
    let parts = f.1.0 ∙ ap (λ (l : List ℕ). f.0 ++ l) (line_feed_at rest c.in-Some.count c.in-Some.ensures.0.high c.in-Some.ensures.1 ∙ sym (append_assoc line (10 ∷ []) after)) in
    let p = err_from_is_err_and c.from_residual.result c.from_residual.ensures.1 in
    rw (p.1, p.2) (line_fails f.0 line after c.args.text.now f.1.1.0 parts (call_of g.S.Source.left g.S.Source.faults c.args.feed.now c.loop-count.feed) (call_of g.S.Source.left g.S.Source.faults c.loop-count.feed c.expect_line.new.feed)
    (lines_read c.args.lines.now) (lines_read c.loop-count.lines) c.in_err-expect_line.field-0.0 i.limit i.moves f.1.1.1 c.in_err-expect_line.ensures.refused)

pub loop-count-preserved : goal.loop-count-preserved
loop-count-preserved g c =
    let i = c.loop-count.invariant in
    let f = i.front in
    let rest = c.loop-count.rest.now in
    let line = take c.in-Some.count rest in
    let after = drop (c.in-Some.count + 1) rest in
    let parts = f.1.0 ∙ ap (λ (l : List ℕ). f.0 ++ l) (line_feed_at rest c.in-Some.count c.in-Some.ensures.0.high c.in-Some.ensures.1) ∙ sym (line_then f.0 line after) in
    let a = call_of g.S.Source.left g.S.Source.faults c.args.feed.now c.loop-count.feed in
    let b = call_of g.S.Source.left g.S.Source.faults c.loop-count.feed c.expect_line.new.feed in
    record {
      name = c.expect_line.ensures.same_source ∙ i.name;
      limit = c.expect_line.ensures.same_limit ∙ i.limit;
      moves = moves_join a b i.moves c.expect_line.ensures.moves;
      front = (
        f.0 ++ (line ++ 10 ∷ []),
        (
          parts ∙ ap (λ (l : List ℕ). (f.0 ++ (line ++ 10 ∷ [])) ++ l) (sym (take_rest rest (c.in-Some.count + 1))),
          (
            whole_append f.0 (line ++ 10 ∷ []) f.1.1.0 (whole_line line),
            texts_join a b f.0 (line ++ 10 ∷ []) (lines_read c.args.lines.now) (lines_read c.loop-count.lines) (lines_read c.expect_line.new.lines) f.1.1.1 c.in_ok-expect_line.ensures.read,
          ),
        ),
      );
    }

pub returns-clause-read : goal.returns-clause-read
returns-clause-read g c =
    let f = c.loop-count.invariant.front in
    let rest = c.loop-count.rest.now in
    let none = no_end_within c.args.text.now f.0 rest rest [] c.requires f.1.0 (in_line rest (no_line_feed rest c.in_default.ensures)) (sym (append-nil rest)) in
    texts_are (call_of g.S.Source.left g.S.Source.faults c.args.feed.now c.loop-count.feed) f.0 c.args.text.now (lines_read c.args.lines.now) (lines_read c.loop-count.lines) (sym (f.1.0 ∙ ap (λ (l : List ℕ). f.0 ++ l) none ∙ append-nil f.0)) f.1.1.1

pub returns-in_err-expect_line-clause-moves : goal.returns-in_err-expect_line-clause-moves
returns-in_err-expect_line-clause-moves g c = moves_on c.loop-count.invariant.moves c.expect_line.ensures.moves

pub expect_line-requires : goal.expect_line-requires
expect_line-requires g c = none_before c.loop-count.rest.now c.in-Some.count c.in-Some.ensures.0.high c.in-Some.ensures.0.before
