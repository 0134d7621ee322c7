use Rattle.std.proofs.Common.{◌≡◌, true, length}
use Rattle.std.specs.Result.{is_err}
use Rattle.scripting.proofs.printing.Page.line.Given as goal

abbrev pub invariant-loop-words : goal.invariant-loop-words
invariant-loop-words g l = is_err l.fn.self.written ≡ true → l.self ≡ l.fn.self

abbrev pub decreases-loop-words : goal.decreases-loop-words
decreases-loop-words g l = length l.words.rest.now
