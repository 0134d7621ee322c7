use Rattle.std.specs.Option.{option_map}
use Rattle.scripting.proofs.Dropping.{Dropping}
use Rattle.scripting.proofs.desk.Desk.drop_all.Given as goal

abbrev pub invariant-loop-stream : goal.invariant-loop-stream
invariant-loop-stream g l = Dropping (option_map g.M.Booked.book l.initial.self.module) (option_map g.M.Booked.book l.self.module) l.dropped l.stream
