use Rattle.std.proofs.Common.{◌≡◌, ◌-◌, ◌*◌, ◌<◌, ◌≤◌}
use Rattle.book.specs.Sets.{numbers_of}
use Rattle.schedule.specs.Bins.{bins_before, most_loads, most_below}
use Rattle.schedule.proofs.rooms.room_of.Given as goal

-- The room of the classes so far.
abbrev pub invariant-loop-class : goal.invariant-loop-class
invariant-loop-class l = record {
  bins : l.room.bins ≡ bins_before (numbers_of l.settings) l.class-index;
  depth : (0 < l.class-index → l.room.depth ≡ most_loads (numbers_of l.settings) (l.class-index - 1));
  total : l.room.total ≡ most_below (numbers_of l.settings) l.class-index;
  few_bins : l.room.bins ≤ l.class-index * 8;
  few_loads : l.room.total ≤ l.class-index * (8 * 12483);
}
