-- What a leg's hold answered, from what its answer became with the place of the leg.
use Rattle.std.proofs.Common.{◌≡◌, true, false, Ok, Err, is_ok, Result, MatchResult, refl, sym, ap, ◌∙◌}
use Rattle.book.specs.declared.faults.BookFault.{BookFault}
use Rattle.book.specs.declared.ledger.Note.{Note}
use Rattle.line.specs.declared.faults.LegFault.{LegFault}

pub held-from : (P : BookFault → Type 0) (w : Result Note BookFault) (m : Result Note LegFault) (n : Note)
    → MatchResult w (λ x. m ≡ Ok x) P → is_ok m ≡ is_ok w → m ≡ Ok n → w ≡ Ok n
held-from P (Ok x) m n h v e = cc
held-from P (Err f) m n h v e = let k : true ≡ false = sym (ap is_ok e) ∙ v in cc

pub refused-from : {P : BookFault → Type 0} (w : Result Note BookFault) (m : Result Note LegFault) (d : LegFault)
    → MatchResult w (λ x. m ≡ Ok x) P → m ≡ Err d → (f : BookFault) × (w ≡ Err f) × P f
refused-from (Ok x) m d h e = cc
refused-from (Err f) m d h e = (f, refl, h)

pub same-fault : (m : Result Note LegFault) (d e : LegFault) → m ≡ Err d → m ≡ Err e → d ≡ e
same-fault m d e p q = cc
