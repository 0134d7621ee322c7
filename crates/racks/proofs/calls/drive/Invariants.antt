-- The calls still to make lead from here to where all of them lead from the start.
use Rattle.std.proofs.Common.{◌≡◌, drop}
use Rattle.racks.specs.Sequences.{after}
use Rattle.racks.proofs.calls.drive.Given as goal

abbrev pub invariant-loop-call : goal.invariant-loop-call
invariant-loop-call g l =
    (after (g.R.Rack.depth l.initial.rack) (g.R.Rack.total l.initial.rack) (g.R.Rack.bins l.rack) (drop l.call-index l.calls)
    ≡ after (g.R.Rack.depth l.initial.rack) (g.R.Rack.total l.initial.rack) (g.R.Rack.bins l.initial.rack) l.calls)
    × (g.R.Rack.depth l.rack ≡ g.R.Rack.depth l.initial.rack)
    × (g.R.Rack.total l.rack ≡ g.R.Rack.total l.initial.rack)
