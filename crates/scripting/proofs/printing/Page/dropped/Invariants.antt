use Rattle.std.proofs.Common.{◌≡◌, true}
use Rattle.std.specs.Result.{is_err}
use Rattle.scripting.proofs.printing.Page.dropped.Given as goal

abbrev pub invariant-loop-stream : goal.invariant-loop-stream
invariant-loop-stream g l = is_err l.fn.self.written ≡ true → l.self ≡ l.fn.self
