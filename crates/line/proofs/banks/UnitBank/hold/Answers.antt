use Rattle.std.proofs.Common.{sym, ap}
use Rattle.line.proofs.Absent.{absent-hold, stays-hold}
use Rattle.line.proofs.banks.UnitBank.hold.Goals as goal

pub returns : goal.returns
returns c = record {
  answer = sym (ap (λ r. r.0) (absent-hold c.args._stream c.args._booking));
  next = stays-hold c.args._stream c.args._booking c.args._number;
  spendable = tt;
}
