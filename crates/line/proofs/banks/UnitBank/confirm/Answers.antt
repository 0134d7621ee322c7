use Rattle.std.proofs.Common.{sym, ap}
use Rattle.line.proofs.Absent.{absent-confirm, stays-confirm}
use Rattle.line.proofs.banks.UnitBank.confirm.Goals as goal

pub returns : goal.returns
returns c = record {
  answer = sym (ap (λ r. r.0) (absent-confirm c.args.note));
  next = stays-confirm c.args.note c.args._number;
}
