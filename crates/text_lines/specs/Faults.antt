-- Faults of a feed as faults of a reader of lines.
use Rattle.insar_ports.specs.declared.feed.FeedFault.{FeedFault}
use Rattle.insar_ports.specs.declared.feed.FeedFault.TheVariants as feed_faults
use Rattle.text_lines.specs.declared.fault.LineFault.{LineFault}
use Rattle.text_lines.specs.declared.fault.LineFault.TheVariants as faults

abbrev pub line_fault_of : FeedFault → LineFault
line_fault_of feed_faults.ReadFault = faults.ReadFault
line_fault_of feed_faults.TooLong = faults.TooLong
