-- The laws of a book over every sequence of calls.
use Rattle.std.proofs.Common.{◌≡◌, false, List, set, is_some, sym, subst}
use Rattle.book.specs.Told.{SetNumbers, Legal}
use Rattle.book.specs.declared.rows.Row.TheVariants.{Held}
use Rattle.book.specs.Sums.{over_fault, LowestOver}
use Rattle.book.specs.Books.{new_book}
use Rattle.book.specs.Sequences.{Call, Release, next_of, after, Leaves, BookLaws}
use Rattle.book.proofs.Within.{within-from}
use Rattle.book.proofs.Steps.{moves, refused-same}
use Rattle.book.proofs.Sound.{Sound, new-sound, after-sound, after-settings}
use Rattle.book.proofs.Overs.{hold-lowest}
use Rattle.book.proofs.Leaving.{leaves-on-time}

pub book-laws : (s : SetNumbers) → Legal s → BookLaws s
book-laws s legal = record {
  always_within = λ h. within-from s (after h (new_book s)).rows
      (subst (λ z. is_some (over_fault z (after h (new_book s)).rows) ≡ false) (after-settings (new_book s) h) (sound h).within);
  over_lowest = λ h x k c ticks e. subst (λ z. LowestOver z (set (after h (new_book s)).rows x (Held k)) c ticks) (after-settings (new_book s) h)
      (hold-lowest (after h (new_book s)) x k c ticks e);
  leaves_on_time = λ h x k q w e. subst (λ z. Leaves z (after h (new_book s)).clock x k q (next_of (after h (new_book s)) (Release x)))
      (after-settings (new_book s) h)
      (leaves-on-time (after h (new_book s)) (sound h) (subst Legal (sym (after-settings (new_book s) h)) legal) x k q w e);
  refused_unchanged = λ h call. refused-same (moves (after h (new_book s)) call);
}
  where
    sound : (h : List Call) → Sound (after h (new_book s))
    sound h = after-sound (new_book s) (new-sound s legal) h
