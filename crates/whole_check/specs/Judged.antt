-- Words of helpers: a text that is judged. No clause of a public function cites this file.
use Rattle.whole_text.specs.Reading.{whole_told}
use Rattle.whole_text.specs.Text.{WholeOf}
use Rattle.whole_text.specs.Told.{WholeTask, task_of}
use Rattle.whole_check.specs.declared.judged.JudgedWhole.{JudgedWhole}

-- what is unwrapped, and what is told of it
abbrev pub task_judged : JudgedWhole → WholeTask
task_judged judged = task_of judged.sheet.now judged.mask.now

abbrev pub told_judged : JudgedWhole → WholeOf
told_judged judged = whole_told judged.whole.now
