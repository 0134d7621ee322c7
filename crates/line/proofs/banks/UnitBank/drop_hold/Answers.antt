use Rattle.std.proofs.Common.{sym, ap}
use Rattle.line.proofs.Absent.{absent-drop, stays-drop}
use Rattle.line.proofs.banks.UnitBank.drop_hold.Goals as goal

pub returns : goal.returns
returns c = record {
  answer = sym (ap (λ r. r.0) (absent-drop c.args.note));
  next = stays-drop c.args.note c.args._number;
}
