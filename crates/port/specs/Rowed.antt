-- The booking of a stream that is there, by the state of its row.
use Rattle.std.specs.Prelude.{ℕ, cond, None, Option}
use Rattle.book.specs.declared.rows.Booking.{Booking}
use Rattle.book.specs.Rows.{held_in, live_in}
use Rattle.book.specs.Books.{BookState, row_of, no_stream}

abbrev pub held_booking : BookState → (stream : ℕ) → Option Booking
held_booking b x = cond (no_stream x) None (held_in (row_of b x))

abbrev pub live_booking : BookState → (stream : ℕ) → Option Booking
live_booking b x = cond (no_stream x) None (live_in (row_of b x))
