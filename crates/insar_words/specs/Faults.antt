-- The fault of words by the kind of clap's error.
use Rattle.clap.specs.declared.error.ErrorKind.{ErrorKind}
use Rattle.clap.specs.declared.error.ErrorKind.TheVariants.{OutOfMemory}
use Rattle.insar_words.specs.declared.fault.WordsFault.{WordsFault}
use Rattle.insar_words.specs.declared.fault.WordsFault.TheVariants as faults

abbrev pub fault_of_kind : ErrorKind → WordsFault
fault_of_kind OutOfMemory = faults.Memory
fault_of_kind kind = faults.Refused
