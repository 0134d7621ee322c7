-- A port that was just made stands before any call.
use Rattle.std.proofs.Common.{◌≡◌, ℕ, true, leb, List, [], length, ap}
use mathlib.Core.Path.{fun_ext}
use Rattle.std.proofs.lemmas.Bool.{and_parts, leb-true, eqb-true}
use Rattle.book.specs.Told.{SetNumbers}
use Rattle.book.specs.Books.{BookState, new_book}
use Rattle.racks.specs.declared.rack.Rack as Rack
use Rattle.racks.specs.Bins.{bin_of, held_in, is_empty}
use Rattle.racks.proofs.Rules.{bin-of-none}
use Rattle.placers.specs.Placers.{Rules}
use Rattle.schedule.specs.Wires.{Loads}
use Rattle.schedule.specs.Histories.{after}
use Rattle.schedule.specs.Laws.{room_of}
use Rattle.port.specs.Planned.{has_room}
use Rattle.port.specs.Standing.{Parts, state_in, Stands}
use Rattle.port.proofs.Following.{parts}

module _ {L Record : Type 0} (loads : Loads L) (m : Rules Record) (s : SetNumbers) (begun : ℕ → Record)
    (book : BookState) (stamps : ℕ → ℕ) {R : Type 0} (rack : Rack.Ghosts R L) (r : R) where
  abbrev pub new_parts : Parts L Record
  new_parts = parts book begun stamps 0 (rack.bins r) (rack.depth r) (rack.total r)

  same-state : (b : BookState) (ss : ℕ → ℕ) (bs : ℕ → List L) → book ≡ b → stamps ≡ ss → bin_of (rack.bins r) ≡ bs
      → state_in new_parts ≡ record { book = b; records = begun; stamps = ss; wire = 0; bins = bs }
  same-state b ss bs e f g = cc

  pub stands-new : book ≡ new_book s → ((x : ℕ) → stamps x ≡ 0) → has_room rack (room_of s) r ≡ true → Stands loads m s begun [] new_parts
  unfolding after
  stands-new books zeros room =
      let p = and_parts (leb (room_of s).bins (length (rack.bins r))) _ room in
      let q = and_parts (leb (room_of s).depth (rack.depth r)) _ p.1 in
      let q2 = and_parts (leb (room_of s).total (rack.total r)) (is_empty (rack.bins r)) q.1 in
      let empty : held_in (rack.bins r) ≡ 0 = eqb-true (held_in (rack.bins r)) 0 q2.1 in
      record {
        told = ap (λ (b : BookState). b.settings) books;
        state = same-state (new_book s) (λ x. 0) (λ b. []) books (fun_ext zeros) (fun_ext (λ b. bin-of-none (rack.bins r) b empty));
        bins = leb-true _ _ p.0;
        depth = leb-true _ _ q.0;
        total = leb-true _ _ q2.0;
      }
