-- The checks of a frame that come before the placer, in the rules' order.
use Rattle.std.specs.Prelude.{ℕ, cond, Some, None, Ok, Err, Option, Result}
use Rattle.book.specs.declared.rows.Booking.{Booking}
use Rattle.placers.specs.Placers.{Rules}
use Rattle.schedule.specs.declared.faults.PortFault.{PortFault}
use Rattle.schedule.specs.declared.faults.PortFault.TheVariants.{NotThere, NotLive}
use Rattle.schedule.specs.Wires.{Loads}
use Rattle.schedule.specs.Modules.{State, booked_fault, not_there}
use Rattle.port.specs.Rowed.{live_booking}

-- What is answered, unless a fault was found.
abbrev pub unless : {A : Type 0} → Option PortFault → A → Result A PortFault
unless (Some f) x = Err f
unless None x = Ok x

module _ {L Record : Type 0} (loads : Loads L) (m : Rules Record) (a : State L Record) (input stamp : ℕ) (x : L) where
  -- A frame needs a live row, and then goes by its booking.
  abbrev pub admitted_by : Option Booking → Result Booking PortFault
  admitted_by None = Err NotLive
  admitted_by (Some k) = unless (booked_fault loads m a k input stamp x) k

  -- The booking by which a frame is placed, or why it is refused before.
  unfoldable pub admitted : Result Booking PortFault
  admitted = cond (not_there loads m a input x) (Err NotThere) (admitted_by (live_booking a.book (loads.stream_of x)))
