-- One load that leaves: what is taken out of its bin, and the departure as the rules have it; and the end of a cycle.
use Rattle.std.proofs.Common.{◌≡◌, ℕ, suc, ◌+◌, ◌*◌, ◌/◌, ◌<◌, ◌≤◌, min, List, [], length, Some, None, Ok, Err, Option, Result, sym, ap, ◌∙◌, arith}
use Rattle.std.specs.Option.{option_flatten}
use Rattle.std.specs.Result.{result_ok}
use native.Mathlib.Nat.{lt-div-mul-add, min-le_left, min-le_right, le-min}
use Rattle.std.proofs.lemmas.List.{get_or_past}
use Rattle.std.proofs.lemmas.Bool.{ltb-false, not-true}
use Rattle.book.specs.Told.{SetNumbers}
use Rattle.racks.specs.declared.faults.RackFault.{RackFault}
use Rattle.racks.specs.Bins.{bin_of, take_of}
use Rattle.racks.proofs.Rules.{there-bin, took-some, took-none, took-err}
use Rattle.placers.specs.Placers.{replaced}
use Rattle.schedule.specs.Wires.{Loads}
use Rattle.port.specs.declared.wires.Turn.{Turn}
use Rattle.port.specs.Turns.{First}
use Rattle.port.specs.Playing.{Oldest, Taken, Took}
use Rattle.port.proofs.Turning.{turn-bin, turn-next}
use Rattle.port.proofs.Rooms.{set-replaced}

module _ {L : Type 0} (bs next : List (List L)) (b : ℕ) (is : next ≡ (take_of bs b).1) where
  taken-ok : (o : Option L) → Ok o ≡ (take_of bs b).0 → Taken bs b o next
  taken-ok None e = let p = took-none bs b (sym e) in (p.1, is ∙ p.2)
  taken-ok (Some x) e = let p = took-some bs b x (sym e) in record { rest = p.0; there = there-bin bs b p.1; is = p.2; left = is ∙ p.3 }

  taken-err : (f : RackFault) → Err f ≡ (take_of bs b).0 → Taken bs b None next
  taken-err f e = let p = took-err bs b f (sym e) in (get_or_past bs b [] (ltb-false b (length bs) (not-true _ p.0)), is ∙ p.2)

  pub taken : (r : Result (Option L) RackFault) → r ≡ (take_of bs b).0 → Taken bs b (option_flatten (result_ok r)) next
  taken (Ok o) e = taken-ok o e
  taken (Err f) e = taken-err f e

-- The load of the class whose turn it is.
pub took : {L : Type 0} (loads : Loads L) (s : SetNumbers) (tick : ℕ) (bs next : List (List L)) (t : Turn) (x : L) (stream : ℕ)
    → First loads s tick (bin_of bs) t → Oldest bs t.bin x next → stream ≡ loads.stream_of x
    → Took loads s tick bs (record { stream = stream; class = t.class; cycle = t.cycle; start = tick; load = x }) next
took loads s tick bs next t x stream first old same =
    let cycle = ap (λ (u : Turn). u.cycle) first.is in record {
      rest = old.rest;
      turn = turn-next loads s tick (bin_of bs) t first x old.rest old.is;
      is = cc;
      left = ap bin_of old.left ∙ set-replaced bs t.bin old.rest old.there
          ∙ ap (λ (b : ℕ). replaced (bin_of bs) b old.rest) (turn-bin loads s tick (bin_of bs) t first);
    }

-- The next start of a cycle, or until if that comes before.
pub next_start : (t d T until r : ℕ) → d ≡ T → 0 < T → t < until → r ≡ min ((t / d + 1) * d) until → (t < r) × (r ≤ until) × (r ≤ suc (t / T) * T)
next_start t d T until r e z l m =
    let past = lt-div-mul-add {a = t} {b = T} z in
    let end : (t / d + 1) * d ≡ t / T * T + T = ap (λ (k : ℕ). (t / k + 1) * k) e ∙ omega arith in
    let low = min-le_left ((t / d + 1) * d) until in
    let high = min-le_right ((t / d + 1) * d) until in
    let more : suc t ≤ min ((t / d + 1) * d) until = le-min (omega arith) l in
    (omega arith, omega arith, omega arith)
