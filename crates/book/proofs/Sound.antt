-- What every call keeps of a book: its sums within the cycles, and the class of every booking there.
use Rattle.std.proofs.Common.{◌≡◌, ℕ, zero, suc, ◌<◌, false, leb, List, [], ◌∷◌, get_or, set, replicate, is_some, refl, ◌∙◌}
use Rattle.std.specs.List.{AllByRecursion as All}
use Rattle.std.proofs.lemmas.Bool.{cond_both}
use Rattle.std.proofs.ByRecursion.{All-set, All-map, All-weaker}
use Rattle.book.specs.declared.rows.Booking.{Booking}
use Rattle.book.specs.declared.rows.Row.{Row}
use Rattle.book.specs.declared.rows.Row.TheVariants.{Free, Held, Live, Leaving}
use Rattle.book.specs.Ticks.{cycle_at}
use Rattle.book.specs.Told.{SetNumbers, class_count, cycle_of, Legal}
use Rattle.book.specs.Rows.{holding, settled}
use Rattle.book.specs.Sums.{over_fault}
use Rattle.book.specs.Books.{BookState, new_book}
use Rattle.book.specs.Sequences.{Call, after}
use Rattle.book.proofs.Within.{over-set, over-settled, over-new}
use Rattle.book.proofs.Steps.{Classed, Moves, refused, held, turned, moved, moves, same-settings}

pub record Sound (b : BookState) : Type 0 where
  pub within : is_some (over_fault b.settings b.rows) ≡ false
  pub classed : All (Classed (class_count b.settings)) b.rows

pub all-at : (P : Row → Type 0) → P Free → (rows : List Row) → All P rows → (x : ℕ) → P (get_or rows x Free)
all-at P f [] h x = f
all-at P f (r ∷ rows) h zero = h.0
all-at P f (r ∷ rows) h (suc x) = all-at P f rows h.1 x

all-free : (n m : ℕ) → All (Classed n) (replicate m Free)
all-free n zero = tt
all-free n (suc m) = (tt, all-free n m)

holding-classed : (n : ℕ) (k : Booking) → k.class < n → (r : Row) → Classed n r → Classed n (holding k r)
holding-classed n k l Free h = l
holding-classed n k l (Held b) h = h
holding-classed n k l (Live b) h = h
holding-classed n k l (Leaving b q) h = h

settled-classed : (n : ℕ) (s : SetNumbers) (t : ℕ) (r : Row) → Classed n r → Classed n (settled s t r)
settled-classed n s t Free h = h
settled-classed n s t (Held b) h = h
settled-classed n s t (Live b) h = h
settled-classed n s t (Leaving b q) h =
    cond_both (leb q (cycle_at (cycle_of s b.class) t)) Free (Leaving b q) (Classed n) (λ e. tt) (λ e. h)

-- One row changed keeps the classes there, if the change does.
set-classed : (n : ℕ) (rows : List Row) (x : ℕ) (g : Row → Row) → ((r : Row) → Classed n r → Classed n (g r))
    → All (Classed n) rows → All (Classed n) (set rows x (g (get_or rows x Free)))
set-classed n rows x g h a =
    All-set (Classed n) rows x (g (get_or rows x Free)) (h (get_or rows x Free) (all-at (Classed n) tt rows a x)) a

pub moves-sound : {b b' : BookState} {c : Call} → Moves b c b' → Sound b → Sound b'
moves-sound (refused r) h = h
moves-sound {b} (held x k a l w) h =
    let n : ℕ = class_count b.settings in
    record { within = w; classed = set-classed n b.rows x (holding k) (holding-classed n k l) h.classed }
moves-sound {b} (turned x g a t) h = record {
  within = over-set b.settings b.rows x g t.less h.within;
  classed = set-classed (class_count b.settings) b.rows x g (t.classed (class_count b.settings)) h.classed;
}
moves-sound {b} (moved t a l) h =
    let n : ℕ = class_count b.settings in
    let f : Row → Row = settled b.settings t in
    let all = All-weaker (Classed n) (λ r. Classed n (f r)) (settled-classed n b.settings t) b.rows h.classed in
    record { within = over-settled b.settings t b.rows h.within; classed = All-map (Classed n) f b.rows all }

pub new-sound : (s : SetNumbers) → Legal s → Sound (new_book s)
new-sound s l = record { within = over-new s l; classed = all-free (class_count s) 128 }

-- Over every sequence of calls.
pub after-sound : (b : BookState) → Sound b → (g : List Call) → Sound (after g b)
unfolding after
after-sound b h [] = h
after-sound b h (c ∷ g) = moves-sound (moves (after g b) c) (after-sound b h g)

pub after-settings : (b : BookState) (g : List Call) → (after g b).settings ≡ b.settings
unfolding after
after-settings b [] = refl
after-settings b (c ∷ g) = same-settings (moves (after g b) c) ∙ after-settings b g
