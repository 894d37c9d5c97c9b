use Rattle.answer_lines.proofs.refusals.add_fault.Goals as goal

pub returns-in-TooManyCommands : goal.returns-in-TooManyCommands
returns-in-TooManyCommands g c = rw c.in-TooManyCommands.is c.add_numbered-in-TooManyCommands.ensures

pub returns-in-AfterEnd : goal.returns-in-AfterEnd
returns-in-AfterEnd g c = rw c.in-AfterEnd.is c.add_numbered-in-AfterEnd.ensures
