-- The ticks still to play are those of the whole run, with what was written so far.
use Rattle.std.proofs.Common.{◌≡◌, ◌+◌, ◌-◌, ◌*◌, ◌≤◌, cond, ltb, length, take, drop}
use Rattle.book.specs.Sets.{numbers_of}
use Rattle.racks.specs.Bins.{bin_of}
use Rattle.port.specs.Standing.{loads_by}
use Rattle.port.specs.Playing.{SameRoom, Long}
use Rattle.port.proofs.Runs.{Goes}
use Rattle.port.proofs.wires.play.Given as goal

abbrev pub invariant-loop-wire : goal.invariant-loop-wire
invariant-loop-wire g l =
    (Long (loads_by g.R.Item.Load) (bin_of (g.R.Rack.bins l.initial.rack))
    → Goes (loads_by g.R.Item.Load) (numbers_of l.settings) l.until l.initial.wire.clock l.initial.wire.free
    (g.R.Rack.bins l.initial.rack) l.wire.clock l.wire.free (g.R.Rack.bins l.rack) (take l.count l.list))
    × (drop l.count l.list ≡ drop l.count l.initial.list)
    × (l.count ≤ length l.list)
    × (l.initial.wire.clock ≤ l.wire.clock)
    × (l.wire.clock ≤ l.until)
    × SameRoom g.R.Rack l.initial.rack l.rack

abbrev pub decreases-loop-wire : goal.decreases-loop-wire
decreases-loop-wire g l = 2 * (l.until - l.wire.clock) + cond (ltb l.wire.clock l.wire.free) 0 1
