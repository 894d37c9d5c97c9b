use Rattle.std.proofs.Common.{◌≡◌, ◌∙◌, ◌+◌, true, false, sym, ap, refl, None, [], arith}
use Rattle.std.proofs.lemmas.Result.{err_from_is_err_and}
use Rattle.session_script.specs.Building.{sections_in}
use Rattle.session_script.specs.Parsing.{line_parser, lines_parser}
use Rattle.session_script.specs.Sections.{frame_of, line_count, word_broken, with_word}
use Rattle.session_script.proofs.CallLemmas.{then, leads_on, first, goes, fails, gives, refuses, starves, still, by_lines, goes_to}
use Rattle.session_script.proofs.WithinLemmas.{is_at_end, word_never, adds_word, few_lines, none_within}
use Rattle.session_script.proofs.SectionsAgain.{after}
use Rattle.session_script.proofs.script.read_sections.Goals as goal

pub returns-in_err-word-clause-parses : goal.returns-in_err-word-clause-parses
returns-in_err-word-clause-parses g c =
    let i = c.loop-sections.invariant in
    then _ (by_lines _ _ _ _ i.within i.leads) i.limit (fails _ _ c.from_residual.ensures.1 (rw c.lines.ensures at c.in_err-word.ensures.parses))

pub returns-in-Some-clause-parses : goal.returns-in-Some-clause-parses
returns-in-Some-clause-parses g c =
    let i = c.loop-sections.invariant in
    let broken = sym c.refusal.ensures ∙ c.in-Some.is in
    let ss = sections_in c.loop-sections.sections in
    let never : is_at_end c.in-Some.fault ≡ false = word_never (frame_of c.args.frame.now) (line_count ss + 1) ss c.in_ok-word.word c.in-Some.fault broken in
    then _ (by_lines _ _ _ _ i.within i.leads) i.limit
    (goes _ _ (rw c.lines.ensures at c.in_ok-word.ensures.parses) c.in_ok-word.ensures.limit (rw broken (refuses (λ _. c.in-Some.fault) (λ e. let k : is_at_end c.in-Some.fault ≡ true = ap is_at_end e in cc))))

pub returns-in-End-clause-parses : goal.returns-in-End-clause-parses
returns-in-End-clause-parses g c =
    let i = c.loop-sections.invariant in
    then _ (by_lines _ _ _ _ i.within i.leads) i.limit (goes _ _ (rw c.lines.ensures at c.in_ok-word.ensures.parses) c.in_ok-word.ensures.limit (rw c.in-End.is (gives _)))

pub returns-in_err-push-in_default-word-clause-parses : goal.returns-in_err-push-in_default-word-clause-parses
returns-in_err-push-in_default-word-clause-parses g c =
    let i = c.loop-sections.invariant in
    let p = err_from_is_err_and c.from_residual-in_err-push-in_default-word.result c.from_residual-in_err-push-in_default-word.ensures.1 in
    rw (p.1, p.2) (then _ (by_lines _ _ _ _ i.within i.leads) i.limit (goes _ _ (rw c.lines.ensures at c.in_ok-word.ensures.parses) c.in_ok-word.ensures.limit (starves _)))

pub loop-sections-preserved : goal.loop-sections-preserved
loop-sections-preserved g c =
    let ss = sections_in c.loop-sections.sections in
    let f = frame_of c.args.frame.now in
    let w = c.in_ok-word.word in
    let allowed : word_broken f (line_count ss + 1) ss w ≡ None = sym c.refusal.ensures ∙ c.in_default.is in
    let now : sections_in c.push.new.self ≡ with_word w ss = c.in_ok-push-in_default-word.ensures in
    let a = adds_word f (line_count ss + 1) w ss c.loop-sections.invariant.within c.in_default-word.not-End allowed in
    record {
      same_source = c.in_ok-word.ensures.same_source ∙ c.loop-sections.invariant.same_source;
      limit = c.in_ok-word.ensures.limit ∙ c.loop-sections.invariant.limit;
      leads = rw now (goes_to _ _ f ss w a.0 allowed (leads_on (by_lines _ _ f ss c.loop-sections.invariant.within c.loop-sections.invariant.leads) c.loop-sections.invariant.limit (first _ (line_parser (line_count ss + 1) []) (after f ss) w (rw c.lines.ensures at c.in_ok-word.ensures.parses))));
      within = rw now a.1;
      few = rw now (few_lines f (with_word w ss) a.1);
    }

pub loop-sections-init : goal.loop-sections-init
loop-sections-init g c = rw c.new-sections.ensures (record {
  same_source = refl;
  limit = refl;
  leads = still (lines_parser (frame_of c.args.frame.now)) _ refl refl (omega arith);
  within = none_within (frame_of c.args.frame.now);
  few = omega arith;
})
