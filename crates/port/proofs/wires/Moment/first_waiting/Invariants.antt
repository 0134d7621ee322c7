use Rattle.std.proofs.Common.{◌≡◌}
use Rattle.book.specs.Sets.{numbers_of}
use Rattle.racks.specs.Bins.{bin_of}
use Rattle.schedule.specs.Wires.{none, lowest, current_bin}
use Rattle.port.specs.Standing.{loads_by}
use Rattle.port.proofs.wires.Moment.first_waiting.Given as goal

abbrev pub invariant-loop-class : goal.invariant-loop-class
invariant-loop-class g l =
    lowest l.class (current_bin (loads_by g.R.Item.Load) (numbers_of l.self.settings.now) l.self.tick (bin_of (g.R.Rack.bins l.rack))) ≡ none
