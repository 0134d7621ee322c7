-- Set: what it is told keeps the rules, and the rack has the room that it needs and is empty.
use Rattle.std.specs.Prelude.{◌≡◌, Bool, true, not, ◌&&◌, [], ◌∷◌, length, Some, None, Ok, Err, Option, Result, nat_le}
use Rattle.book.specs.declared.faults.BookFault.{BookFault}
use Rattle.book.specs.Told.{SetNumbers, set_fault}
use Rattle.book.specs.Sets.{numbers_of}
use Rattle.racks.specs.declared.rack.Rack as Rack
use Rattle.racks.specs.Bins.{is_empty}
use Rattle.schedule.specs.declared.faults.PortFault.{PortFault}
use Rattle.schedule.specs.declared.faults.PortFault.TheVariants.{Settings, BadRack}
use Rattle.schedule.specs.declared.rooms.Room.{Room}
use Rattle.schedule.specs.Faults.{first_hit, check}
use Rattle.schedule.specs.Laws.{room_of}
use Rattle.port.specs.declared.plan.Plan.{Plan}

-- A rack has the room, and holds no load.
abbrev pub has_room : {R L : Type 0} → Rack.Ghosts R L → Room → R → Bool
has_room rack room r =
    nat_le room.bins (length (rack.bins r)) && (nat_le room.depth (rack.depth r) && (nat_le room.total (rack.total r) && is_empty (rack.bins r)))

-- A fault of the settings is passed on whole; the rack is looked at after them.
abbrev pub passed_on : Option BookFault → Option PortFault → Option PortFault
passed_on (Some f) o = Some (Settings f)
passed_on None o = o

abbrev pub set_fault_of : SetNumbers → (room : Bool) → Option PortFault
set_fault_of t room = passed_on (set_fault t) (first_hit (check (not room) BadRack ∷ []))

-- The check accepts what keeps the rules and carries on just what was told; otherwise it names the first rule broken.
abbrev pub Planned : {R L : Type 0} → Rack.Ghosts R L → SetNumbers → R → Result Plan PortFault → Type 0
Planned rack t r (Ok plan) = (set_fault_of t (has_room rack (room_of t) r) ≡ None) × (numbers_of plan.settings ≡ t) × (has_room rack (room_of t) r ≡ true)
Planned rack t r (Err f) = set_fault_of t (has_room rack (room_of t) r) ≡ Some f
