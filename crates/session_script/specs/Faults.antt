-- Faults of a feed and of a plane as faults of a session.
use Rattle.insar_ports.specs.declared.feed.FeedFault.{FeedFault}
use Rattle.insar_ports.specs.declared.feed.FeedFault.TheVariants as feed_faults
use Rattle.pgm_planes.specs.declared.fault.InputFault.TheVariants as faults
use Rattle.pgm_planes.specs.declared.fault.ReadPlaneFault.{ReadPlaneFault}
use Rattle.pgm_planes.specs.declared.fault.ReadPlaneFault.TheVariants as plane_faults
use Rattle.pgm_planes.specs.declared.fault.Role.{Role}
use Rattle.session_script.specs.declared.fault.SessionFault.{SessionFault}
use Rattle.session_script.specs.declared.fault.SessionFault.TheVariants as session_faults

abbrev pub session_fault_of_feed : FeedFault → SessionFault
session_fault_of_feed feed_faults.ReadFault = session_faults.ReadFault
session_fault_of_feed feed_faults.TooLong = session_faults.Input faults.TooLong

abbrev pub fault_of_plane : Role → ReadPlaneFault → SessionFault
fault_of_plane role (plane_faults.Plane fault) = session_faults.Input (faults.Plane role fault)
fault_of_plane role plane_faults.TooLong = session_faults.Input faults.TooLong
fault_of_plane role plane_faults.ReadFault = session_faults.ReadFault
fault_of_plane role plane_faults.Memory = session_faults.Memory
