-- Faults of a feed as faults of a reader.
use Rattle.insar_ports.specs.declared.feed.FeedFault.{FeedFault}
use Rattle.insar_ports.specs.declared.feed.FeedFault.TheVariants as feed_faults
use Rattle.pgm_planes.specs.declared.fault.ReadPlaneFault.{ReadPlaneFault}
use Rattle.pgm_planes.specs.declared.fault.ReadPlaneFault.TheVariants as faults

abbrev pub plane_fault_of_feed : FeedFault → ReadPlaneFault
plane_fault_of_feed feed_faults.ReadFault = faults.ReadFault
plane_fault_of_feed feed_faults.TooLong = faults.TooLong
