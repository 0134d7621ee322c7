-- The worked examples, computed.
use Rattle.std.proofs.Common.{refl}
use Rattle.book.specs.Rows.{booked}
use Rattle.book.specs.Sums.{weighed, over_below}
use Rattle.book.specs.Books.{hold_fault, hold_of, confirm_of}
use Rattle.placers.specs.Sequences.{record_after}
use Rattle.schedule.specs.Bins.{bins_before}
use Rattle.schedule.specs.Wires.{oldest, lowest, sending, tick, ticks}
use Rattle.schedule.specs.Modules.{holding, confirming, booked_fault, framing_by, framing, filling, running}
use Rattle.schedule.specs.Histories.{after}
use Rattle.port_examples.specs.Worked.{Worked}

pub worked : Worked
unfolding booked weighed over_below hold_fault hold_of confirm_of record_after bins_before oldest lowest sending tick ticks holding confirming booked_fault framing_by framing filling running after
worked = refl
