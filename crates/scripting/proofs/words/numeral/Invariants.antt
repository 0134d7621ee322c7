use Rattle.std.proofs.Common.{◌≡◌, ◌≤◌, drop}
use Rattle.scripting.specs.Numerals.{digits_after}
use Rattle.scripting.proofs.words.numeral.Given as goal

abbrev pub invariant-loop-byte : goal.invariant-loop-byte
invariant-loop-byte l = (digits_after l.most l.value (drop l.byte-index l.word) ≡ digits_after l.most 0 l.word) × (l.value ≤ l.most)
