use Rattle.std.proofs.Common.{◌≡◌, ℕ, ◌+◌, ◌-◌, ◌<◌, List, length, get_or, ap, ◌∙◌, arith}
use Rattle.book.specs.declared.setup.Class.{Class}
use Rattle.book.specs.Sets.{numbers_of}
use Rattle.book.specs.Told.{SetNumbers, no_class, class_count}
use Rattle.book.proofs.Legality.{settings-legal}
use Rattle.schedule.specs.declared.rooms.Room.{Room}
use Rattle.schedule.specs.Bins.{bins_before, most_loads, most_below}
use Rattle.schedule.specs.Laws.{room_for, room_in}
use Rattle.schedule.proofs.Needed.{bins-more, most-more}
use Rattle.schedule.proofs.rooms.room_of.Goals as goal

pub loop-class-init : goal.loop-class-init
unfolding bins_before most_below
loop-class-init c =
    let none = c.default-room.ensures in
    record { bins = none.0; depth = λ h. absurd (omega arith); total = none.1.1; few_bins = omega arith; few_loads = omega arith }

pub room_for-own-requires : goal.room_for-own-requires
room_for-own-requires c =
    let s : SetNumbers = numbers_of c.args.settings.now in
    let legal = settings-legal c.args.settings.now in
    let k : ℕ = c.loop-class.class-index in
    let e = c.classes-class-items.ensures in
    let h : k < class_count s = omega (arith, ap (length {A = Class}) e) in
    rw e (legal.eight_bins k h, legal.most k h)

pub overflow_add-room : goal.overflow_add-room
overflow_add-room c =
    let n = ap (length {A = Class}) c.classes-class-items.ensures in
    let few = (settings-legal c.args.settings.now).four_classes in
    omega (arith, c.loop-class.invariant.few_bins, c.room_for-own.ensures.bins)

pub overflow_add-room-in-loop-class : goal.overflow_add-room-in-loop-class
overflow_add-room-in-loop-class c =
    let n = ap (length {A = Class}) c.classes-class-items.ensures in
    let few = (settings-legal c.args.settings.now).four_classes in
    omega (arith, c.loop-class.invariant.few_loads, c.room_for-own.ensures.total)

pub loop-class-preserved : goal.loop-class-preserved
loop-class-preserved c =
    let s : SetNumbers = numbers_of c.args.settings.now in
    let k : ℕ = c.loop-class.class-index in
    let own : c.room_for-own.result ≡ room_in s k = c.room_for-own.ensures.room ∙ ap (λ (cs : List Class). room_for (get_or cs k no_class)) c.classes-class-items.ensures in
    let i = c.loop-class.invariant in
    let e : k ≡ k + 1 - 1 = omega arith in
    record {
      bins = omega (arith, i.bins, ap (λ (r : Room). r.bins) own, bins-more s k);
      depth = λ h. ap (λ (r : Room). r.depth) own ∙ ap (most_loads s) e;
      total = omega (arith, i.total, ap (λ (r : Room). r.total) own, most-more s k);
      few_bins = omega (arith, i.few_bins, c.room_for-own.ensures.bins);
      few_loads = omega (arith, i.few_loads, c.room_for-own.ensures.total);
    }

pub returns : goal.returns
returns c =
    let s : SetNumbers = numbers_of c.args.settings.now in
    let k : ℕ = c.loop-class.class-index in
    let i = c.loop-class.invariant in
    let e : k ≡ class_count s = omega (arith, ap (length {A = Class}) c.classes-class-items.ensures) in
    let z : 0 < k = omega (arith, (settings-legal c.args.settings.now).one_class) in
    let b : c.loop-class.room.bins ≡ bins_before s (class_count s) = i.bins ∙ ap (bins_before s) e in
    let d : c.loop-class.room.depth ≡ most_loads s (class_count s - 1) = i.depth z ∙ ap (λ (n : ℕ). most_loads s (n - 1)) e in
    let t : c.loop-class.room.total ≡ most_below s (class_count s) = i.total ∙ ap (most_below s) e in
    λ j. record { bins = b j; depth = d j; total = t j }
