-- A run from event to event, step by step: the ticks still to play are those of the whole run.
use Rattle.std.proofs.Common.{◌≡◌, ℕ, ◌+◌, ◌-◌, ◌*◌, ◌/◌, ◌<◌, ◌≤◌, List, [], ◌∷◌, ◌++◌, length, drop, set, sym, refl, ap, ◌∙◌, subst, inl, inr, arith}
use Rattle.std.proofs.lemmas.List.{drop-set-lt, drop-drop, length_push}
use Rattle.std.proofs.lemmas.Bool.{cases_lt}
use Rattle.std.specs.List.{AllByRecursion as All}
use Rattle.book.specs.Told.{SetNumbers, class_count, Legal}
use Rattle.racks.specs.declared.rack.Rack as Rack
use Rattle.racks.specs.Bins.{bin_of}
use Rattle.placers.specs.Placers.{replaced}
use Rattle.schedule.specs.declared.departures.Departure.{Departure}
use Rattle.schedule.specs.Bins as rules
use Rattle.schedule.specs.Wires.{Loads, wire_octets, none, some, current_bin, next_out, departure, sending, ticks}
use Rattle.port.specs.Playing.{SameRoom, Long, sending_at, Took, Idle, Played}
use Rattle.port.proofs.Invariants.{lowest-some, rest-long}
use Rattle.port.proofs.Skips.{skip-wait, skip-cycle, skip-empty, send-on}

-- Room that stays twice stays.
pub same-room : {R L : Type 0} {rack : Rack.Ghosts R L} {a b c : R} → SameRoom rack a b → SameRoom rack b c → SameRoom rack a c
same-room p q = record { count = q.count ∙ p.count; depth = q.depth ∙ p.depth; total = q.total ∙ p.total }

-- One more place written.
pub one_written : {X : Type 0} (xs ys : List X) (n : ℕ) (y : X) → n < length xs → drop n xs ≡ drop n ys
    → drop (n + 1) (set xs n y) ≡ drop (n + 1) ys
one_written xs ys n y h e = drop-set-lt (n + 1) xs n y (omega arith) ∙ sym (drop-drop 1 n xs) ∙ ap (drop 1) e ∙ drop-drop 1 n ys

module _ {L : Type 0} (loads : Loads L) (s : SetNumbers) where
  -- The ticks from a clock up to until are those that are still to play from a later one, with these departures so far.
  pub record Goes (until clock wire : ℕ) (bins : List (List L)) (tick wire' : ℕ) (bins' : List (List L)) (sent : List (Departure L)) : Type 0 where
    pub same : ticks loads s (until - clock) (sending_at clock wire (bin_of bins) []) ≡ ticks loads s (until - tick) (sending_at tick wire' (bin_of bins') sent)
    pub long : Long loads (bin_of bins')
    -- Departures are at least the octets of the shortest frame apart.
    pub spaced : 0 < length sent → 84 * length sent + clock ≤ wire'

module _ {L : Type 0} (loads : Loads L) (s : SetNumbers) (legal : Legal s) (until clock wire : ℕ) (bins : List (List L)) where
  pub goes-start : Long loads (bin_of bins) → Goes loads s until clock wire bins clock wire bins []
  goes-start long = record { same = refl; long = long; spaced = λ h. absurd (omega arith) }

  module _ (tick free : ℕ) (bs : List (List L)) (sent : List (Departure L)) (so : Goes loads s until clock wire bins tick free bs sent) where
    pub goes-wait : (later : ℕ) → tick ≤ later → later ≤ until → later ≤ free → Goes loads s until clock wire bins later free bs sent
    goes-wait later on end h = record { same = so.same ∙ skip-wait loads s until tick free (bin_of bs) sent later on end h; long = so.long; spaced = so.spaced }

    pub goes-quiet : (later : ℕ) → free ≤ tick → next_out loads s tick (bin_of bs) ≡ none → Idle loads s tick until bs later
        → Goes loads s until clock wire bins later free bs sent
    goes-quiet later f e idle =
        let on : tick ≤ later = omega (arith, idle.onward) in
        record {
          same = so.same ∙ elim idle.quiet [
            | inl none-held ↦ skip-empty loads s until tick free (bin_of bs) sent later on idle.within bs refl none-held f
            | inr cycle ↦ skip-cycle loads s until tick free (bin_of bs) sent later on idle.within legal f e cycle
          ];
          long = so.long;
          spaced = so.spaced;
        }

    -- The load that leaves is long enough, and so are those that stay.
    module _ (d : Departure L) (next : List (List L)) (t : Took loads s tick bs d next) where
      bin : bin_of bs (rules.bin_of s d.class (rules.current_of s tick d.class)) ≡ d.load ∷ t.rest
      bin = (lowest-some (class_count s) (current_bin loads s tick (bin_of bs)) d.class d.load t.rest t.turn).1

      pub took-long : 64 ≤ loads.length_of d.load
      took-long = (subst (All (λ x. 64 ≤ loads.length_of x)) bin (so.long (rules.bin_of s d.class (rules.current_of s tick d.class)))).0

      pub goes-send : clock ≤ tick → tick < until → free ≤ tick → (wire' : ℕ) → wire' ≡ tick + wire_octets loads d.load
          → Goes loads s until clock wire bins tick wire' next (sent ++ (d ∷ []))
      unfolding sending
      goes-send from h f wire' e =
          let long = took-long in
          let g = sending_at tick free (bin_of bs) sent in
          let w = some d.class d.load t.rest in
          let on = send-on loads s until g w h f t.turn (omega arith) in
          let left : sending loads s g w ≡ sending_at tick wire' (bin_of next) (sent ++ (d ∷ [])) = sent-so e (sym t.left) (sym t.is) in
          record {
            same = so.same ∙ on ∙ ap (ticks loads s (until - tick)) left;
            long = subst (Long loads) (sym t.left) (rest-long loads (bin_of bs) _ d.load t.rest bin so.long);
            spaced = λ z. apart long;
          }
        where
          sent-so : wire' ≡ tick + wire_octets loads d.load → replaced (bin_of bs) (rules.bin_of s d.class (rules.current_of s tick d.class)) t.rest ≡ bin_of next
              → departure loads s tick d.class d.load ≡ d
              → sending_at tick (tick + wire_octets loads d.load) (replaced (bin_of bs) (rules.bin_of s d.class (rules.current_of s tick d.class)) t.rest) (sent ++ (departure loads s tick d.class d.load ∷ []))
              ≡ sending_at tick wire' (bin_of next) (sent ++ (d ∷ []))
          sent-so e1 e2 e3 = cc

          apart : 64 ≤ loads.length_of d.load → 84 * length (sent ++ (d ∷ [])) + clock ≤ wire'
          apart long = elim (cases_lt 0 (length sent)) [
            | inl some-sent ↦ omega (arith, so.spaced some-sent, length_push sent d)
            | inr none-sent ↦ omega (arith, length_push sent d)
          ]

    pub goes_end : until ≤ tick → tick ≤ until → Played loads s until clock wire bins free bs sent
    unfolding ticks
    goes_end h k =
        let none_left : until - tick ≡ 0 = omega arith in
        let at : tick ≡ until = omega arith in
        so.same ∙ ap (λ (j : ℕ). ticks loads s j (sending_at tick free (bin_of bs) sent)) none_left ∙ ap (λ (j : ℕ). sending_at j free (bin_of bs) sent) at

    -- Where the list is full, the wire is taken up to until.
    pub goes-full : (places : ℕ) → (until - clock) / 84 < places → places ≤ length sent → tick ≤ until → Played loads s until clock wire bins free bs sent
    unfolding ticks
    goes-full places h full k =
        let some-sent : 0 < length sent = omega arith in
        let taken : until ≤ free = omega (arith, so.spaced some-sent) in
        so.same ∙ skip-wait loads s until tick free (bin_of bs) sent until k (omega arith) taken ∙ end
      where
        end : ticks loads s (until - until) (sending_at until free (bin_of bs) sent) ≡ sending_at until free (bin_of bs) sent
        end = let none_left : until - until ≡ 0 = omega arith in ap (λ (j : ℕ). ticks loads s j (sending_at until free (bin_of bs) sent)) none_left
