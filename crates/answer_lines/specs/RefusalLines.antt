-- The lines that tell refusals, each ended by LF.
use Rattle.std.specs.Prelude.{ℕ, List, [], ◌∷◌, ◌++◌, codes, decimal}
use Rattle.pgm_planes.specs.declared.fault.Role.{Role}
use Rattle.pgm_planes.specs.declared.fault.Role.TheVariants.{Phase, Weight, Mask}
use Rattle.pgm_planes.specs.declared.fault.PlaneFault.{PlaneFault}
use Rattle.pgm_planes.specs.declared.fault.PlaneFault.TheVariants.{Magic, Form, Size, PhaseMaxval, SampleAbove, Short}
use Rattle.pgm_planes.specs.declared.fault.InputFault.{InputFault}
use Rattle.pgm_planes.specs.declared.fault.InputFault.TheVariants as faults
use Rattle.answer_lines.specs.declared.refusal.Refusal.{Refusal}
use Rattle.answer_lines.specs.declared.refusal.Refusal.TheVariants as refusals

abbrev pub role_text : Role → List ℕ
role_text Phase = codes "phase"
role_text Weight = codes "weight"
role_text Mask = codes "mask"

abbrev pub plane_fault_text : Role → PlaneFault → List ℕ
plane_fault_text role Magic = codes "1 magic " ++ role_text role
plane_fault_text role (Form place) = codes "2 form " ++ (role_text role ++ (codes " byte " ++ decimal place))
plane_fault_text role (Size width height) = codes "3 size " ++ (role_text role ++ (codes " " ++ (decimal width ++ (codes " " ++ decimal height))))
plane_fault_text role (PhaseMaxval maxval) = codes "4 maxval " ++ decimal maxval
plane_fault_text role (SampleAbove index value) = codes "5 sample " ++ (role_text role ++ (codes " index " ++ (decimal index ++ (codes " value " ++ decimal value))))
plane_fault_text role (Short samples) = codes "6 short " ++ (role_text role ++ (codes " samples " ++ decimal samples))

abbrev pub fault_text : InputFault → List ℕ
fault_text (faults.Plane role fault) = plane_fault_text role fault
fault_text faults.TooLong = codes "7 long"
fault_text (faults.SizesDiffer role) = codes "8 sizes " ++ role_text role
fault_text (faults.ScriptLine n) = codes "9 line " ++ decimal n
fault_text (faults.Outside n) = codes "10 outside line " ++ decimal n
fault_text (faults.TooManyAnalysts n) = codes "11 analysts line " ++ decimal n
fault_text (faults.TooManyCommands n) = codes "12 commands line " ++ decimal n
fault_text (faults.SettleLimit n) = codes "13 settles line " ++ decimal n
fault_text faults.NoEnd = codes "14 no end"
fault_text (faults.AfterEnd p) = codes "15 after end byte " ++ decimal p
fault_text (faults.EditLimit n) = codes "16 edits line " ++ decimal n

abbrev pub refusal_line : Refusal → List ℕ
refusal_line refusals.Words = codes "words refused\n"
refusal_line (refusals.Input fault) = codes "input fault " ++ (fault_text fault ++ 10 ∷ [])
refusal_line (refusals.ReportLine n) = codes "report fault line " ++ (decimal n ++ 10 ∷ [])
refusal_line refusals.ReportLong = codes "report fault long\n"
refusal_line (refusals.GridLine grid line) = codes "input fault 19 grid " ++ (decimal grid ++ (codes " line " ++ (decimal line ++ 10 ∷ [])))
refusal_line (refusals.GridLong grid) = codes "input fault 20 grid " ++ (decimal grid ++ codes " long\n")
refusal_line (refusals.GridSizes grid) = codes "input fault 21 grid " ++ (decimal grid ++ codes " sizes\n")
refusal_line (refusals.AfterGrids byte) = codes "input fault 22 after grids byte " ++ (decimal byte ++ 10 ∷ [])
refusal_line (refusals.Wide x y) = codes "input fault 23 wide " ++ (decimal x ++ (codes " " ++ (decimal y ++ 10 ∷ [])))
refusal_line refusals.Reference = codes "input fault 24 reference\n"
refusal_line (refusals.Missing x y) = codes "input fault 25 missing " ++ (decimal x ++ (codes " " ++ (decimal y ++ 10 ∷ [])))
refusal_line refusals.Memory = codes "no memory\n"
refusal_line refusals.ReadFault = codes "read fault\n"
refusal_line refusals.WriteFault = codes "write fault\n"
