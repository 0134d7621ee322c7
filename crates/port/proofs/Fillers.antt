-- A filler by its tests: what the port does in each case goes by the rules.
use Rattle.std.proofs.Common.{◌≡◌, ℕ, ◌+◌, Bool, true, false, not, [], ◌∷◌, Ok, Err, Result, sym, refl, ap, ◌∙◌}
use Rattle.book.specs.Ticks.{inside}
use Rattle.racks.specs.Bins.{bin_of}
use Rattle.placers.specs.Placers.{Rules}
use Rattle.schedule.specs.declared.faults.PortFault.{PortFault}
use Rattle.schedule.specs.declared.faults.PortFault.TheVariants.{BadLength, WireTaken}
use Rattle.schedule.specs.Faults.{first_hit, check}
use Rattle.schedule.specs.Wires.{Loads}
use Rattle.schedule.specs.Modules as rules
use Rattle.schedule.specs.Modules.{State, judged, filling, wire_taken}
use Rattle.schedule.specs.Histories.{Filler, filled}
use Rattle.port.specs.Standing.{Parts, state_in, Follows}
use Rattle.port.specs.Turns.{is_busy}
use Rattle.port.proofs.Following.{parts, Stays, follows-standing}

module _ {L Record : Type 0} (loads : Loads L) (m : Rules Record) where
  filling-at : (a : State L Record) (n : ℕ) (fits taken : Bool) → inside 64 1522 n ≡ fits → wire_taken loads m a ≡ taken
      → filling loads m a n ≡ judged (first_hit (check (not fits) BadLength ∷ check taken WireTaken ∷ [])) a (Ok tt, rules.filled loads m a n)
  unfolding filling
  filling-at a n fits taken p q = rw (p, q)

  module _ (p : Parts L Record) (n : ℕ) where
    abbrev pub wired : (wire : ℕ) → Parts L Record
    wired wire = parts p.book p.records p.stamps wire p.bins p.depth p.total

    filler-by : (fits taken : Bool) (q : Parts L Record) (r : Result (Unit {0}) PortFault) → Stays p q → inside 64 1522 n ≡ fits → wire_taken loads m (state_in p) ≡ taken
        → (r, state_in q) ≡ judged (first_hit (check (not fits) BadLength ∷ check taken WireTaken ∷ [])) (state_in p) (Ok tt, rules.filled loads m (state_in p) n)
        → Follows loads m (Filler n) p q (filled r)
    filler-by fits taken q r stay f t e = follows-standing loads m (Filler n) p q (filled r) stay (λ s begun h so.
        let w = e ∙ sym (filling-at (state_in p) n fits taken f t) in
        record { next = ap (λ v. v.1) w; answers = ap (λ v. filled v.0) w })

    pub filler-long : inside 64 1522 n ≡ false → Follows loads m (Filler n) p p (filled (Err BadLength))
    filler-long f = filler-by false (wire_taken loads m (state_in p)) p (Err BadLength) (record { bins = refl; depth = refl; total = refl }) f refl refl

    pub filler-taken : inside 64 1522 n ≡ true → is_busy loads p.book.settings p.book.clock (bin_of p.bins) p.wire ≡ true
        → Follows loads m (Filler n) p p (filled (Err WireTaken))
    filler-taken f t = filler-by true true p (Err WireTaken) (record { bins = refl; depth = refl; total = refl }) f t refl

    pub filler-goes : (wire : ℕ) → inside 64 1522 n ≡ true → is_busy loads p.book.settings p.book.clock (bin_of p.bins) p.wire ≡ false
        → wire ≡ p.book.clock + (n + 20) → Follows loads m (Filler n) p (wired wire) (filled (Ok tt))
    filler-goes wire f t e = filler-by true false (wired wire) (Ok tt) (record { bins = refl; depth = refl; total = refl }) f t
        (ap (λ (w : ℕ). (Ok tt, state_in (wired w))) e)
