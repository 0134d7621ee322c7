-- The rows of a book, and what each call makes of a row.
use Rattle.std.specs.Prelude.{ℕ, ◌+◌, Bool, true, false, cond, ◌&&◌, List, [], ◌∷◌, Some, None, Ok, Err, Option, Result, ◌==◌, nat_le}
use Rattle.book.specs.declared.faults.BookFault.{BookFault}
use Rattle.book.specs.declared.faults.BookFault.TheVariants.{WrongState}
use Rattle.book.specs.declared.rows.Booking.{Booking}
use Rattle.book.specs.declared.rows.Row.{Row}
use Rattle.book.specs.declared.rows.Row.TheVariants.{Free, Held, Live, Leaving}
use Rattle.book.specs.Faults.{or_fault}
use Rattle.book.specs.Ticks.{inside, cycle_at}
use Rattle.book.specs.Told.{SetNumbers, cycle_of, bins_of}

-- The longest frame has 64 to 1,522 octets, and the quota holds it with the 20 octets that it has more on the wire.
abbrev pub fits : Booking → Bool
fits b = inside 64 1522 b.longest && nat_le (b.longest + 20) b.quota

abbrev pub is_free : Row → Bool
is_free Free = true
is_free (Held b) = false
is_free (Live b) = false
is_free (Leaving b q) = false

abbrev pub is_held : Row → Bool
is_held Free = false
is_held (Held b) = true
is_held (Live b) = false
is_held (Leaving b q) = false

abbrev pub is_live : Row → Bool
is_live Free = false
is_live (Held b) = false
is_live (Live b) = true
is_live (Leaving b q) = false

-- What a row holds, if it is held, and what it has live, if it is live.
abbrev pub held_in : Row → Option Booking
held_in Free = None
held_in (Held b) = Some b
held_in (Live b) = None
held_in (Leaving b q) = None

abbrev pub live_in : Row → Option Booking
live_in Free = None
live_in (Held b) = None
live_in (Live b) = Some b
live_in (Leaving b q) = None

-- Hold turns a free row to held.
abbrev pub holding : Booking → Row → Row
holding b Free = Held b
holding b (Held a) = Held a
holding b (Live a) = Live a
holding b (Leaving a q) = Leaving a q

abbrev pub held_answer : Row → Result (Unit {0}) BookFault
held_answer r = cond (is_free r) (Ok tt) (Err WrongState)

-- Confirm makes a held row live, and drop frees it.
abbrev pub confirmed : Row → Row
confirmed Free = Free
confirmed (Held b) = Live b
confirmed (Live b) = Live b
confirmed (Leaving b q) = Leaving b q

abbrev pub dropped : Row → Row
dropped Free = Free
dropped (Held b) = Free
dropped (Live b) = Live b
dropped (Leaving b q) = Leaving b q

-- A row that is released at a clock leaves until the cycle k + N of its class, k being current and N its bins.
abbrev pub leaves_at : SetNumbers → (clock : ℕ) → Booking → ℕ
leaves_at s t b = cycle_at (cycle_of s b.class) t + bins_of s b.class

-- Release makes a live row leaving, and answers the cycle.
abbrev pub released : SetNumbers → (clock : ℕ) → Row → Row
released s t Free = Free
released s t (Held b) = Held b
released s t (Live b) = Leaving b (leaves_at s t b)
released s t (Leaving b q) = Leaving b q

abbrev pub releasing : SetNumbers → (clock : ℕ) → Row → Option ℕ
releasing s t Free = None
releasing s t (Held b) = None
releasing s t (Live b) = Some (leaves_at s t b)
releasing s t (Leaving b q) = None

abbrev pub released_answer : SetNumbers → (clock : ℕ) → Row → Result ℕ BookFault
released_answer s t r = or_fault (releasing s t r) WrongState

-- A leaving row is free once the cycle that it names is current or past.
abbrev pub settled : SetNumbers → (clock : ℕ) → Row → Row
settled s t Free = Free
settled s t (Held b) = Held b
settled s t (Live b) = Live b
settled s t (Leaving b q) = cond (nat_le q (cycle_at (cycle_of s b.class) t)) Free (Leaving b q)

-- The wire octets per cycle that a row books of a class.
abbrev pub octets_in : ℕ → Booking → ℕ
octets_in c b = cond (b.class == c) b.quota 0

abbrev pub octets : ℕ → Row → ℕ
octets c Free = 0
octets c (Held b) = octets_in c b
octets c (Live b) = octets_in c b
octets c (Leaving b q) = octets_in c b

-- The booked octets of a class: the sum over the rows that are held, live or leaving.
unfoldable pub booked : ℕ → List Row → ℕ
booked c [] = 0
booked c (r ∷ rs) = octets c r + booked c rs
