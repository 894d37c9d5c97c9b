use Rattle.answer_lines.proofs.refusals.add_refusal.Goals as goal

pub returns-in-ReportLong : goal.returns-in-ReportLong
returns-in-ReportLong g c = rw c.in-ReportLong.is c.bytes-in-ReportLong.ensures

pub returns-in-ReadFault : goal.returns-in-ReadFault
returns-in-ReadFault g c = rw c.in-ReadFault.is c.bytes-in-ReadFault.ensures

pub returns-in-ReportLine : goal.returns-in-ReportLine
returns-in-ReportLine g c = rw c.in-ReportLine.is c.add_around.ensures

pub returns-in-AfterGrids : goal.returns-in-AfterGrids
returns-in-AfterGrids g c = rw c.in-AfterGrids.is c.add_around-in-AfterGrids.ensures

pub returns-in-Missing : goal.returns-in-Missing
returns-in-Missing g c = rw c.in-Missing.is c.add_pair-in-Missing.ensures
