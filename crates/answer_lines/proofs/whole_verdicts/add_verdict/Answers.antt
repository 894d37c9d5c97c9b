use Rattle.answer_lines.proofs.whole_verdicts.add_verdict.Goals as goal

pub returns-in-Header : goal.returns-in-Header
returns-in-Header g c = rw c.in-Header.is c.add_header.ensures

pub returns-in-Value : goal.returns-in-Value
returns-in-Value g c = rw c.in-Value.is c.add_pixel.ensures

pub returns-in-Face : goal.returns-in-Face
returns-in-Face g c = rw c.in-Face.is c.add_at_edge.ensures

pub returns-in-Cost : goal.returns-in-Cost
returns-in-Cost g c = rw c.in-Cost.is c.bytes-in-Cost.ensures

pub returns-in-Told : goal.returns-in-Told
returns-in-Told g c = rw c.in-Told.is c.bytes-in-Told.ensures
