use Rattle.whole_text.specs.Reading.{whole_told}
use Rattle.whole_text.specs.Told.{task_of}
use Rattle.whole_text.proofs.TaskLemmas.{sheet_is_task}
use Rattle.whole_check.proofs.UniqueLemmas.{accepted_tells, certified_least}
use Rattle.whole_check.proofs.check.check_whole_text.Goals as goal

pub returns-clause-accepted : goal.returns-clause-accepted
returns-clause-accepted c = accepted_tells (task_of c.args.sheet.now c.args.mask.now) (sheet_is_task c.args.sheet.now c.args.mask.now) (whole_told c.args.whole.now) c.verdict.result c.verdict.ensures

pub returns-clause-least : goal.returns-clause-least
returns-clause-least c = λ e.
    let s = task_of c.args.sheet.now c.args.mask.now in
    let v = whole_told c.args.whole.now in
    certified_least s v ((accepted_tells s (sheet_is_task c.args.sheet.now c.args.mask.now) v c.verdict.result c.verdict.ensures).0 e)
