-- The notes in hand beside the book that gave them.
use Rattle.std.specs.Prelude.{ℕ, Bool, true, false, List, map, is_some, Some, None, Option, slice_index_or}
use Rattle.std.specs.List.{range_with_len}
use Rattle.book.specs.declared.ledger.Note.{Note}
use Rattle.book.specs.Rows.{is_held}
use Rattle.book.specs.Books.{BookState, row_of, note_of}
use Rattle.scripting.specs.declared.notes.Notes.{Notes}

-- The note that a place holds.
abbrev pub place_of : Notes → (stream : ℕ) → Option Note
place_of n s = slice_index_or n.places.items s None

abbrev pub note_by : (held : Bool) → Note → Option Note
note_by true n = Some n
note_by false n = None

-- The note of a stream that is in hand: that of a held row.
abbrev pub note_in : BookState → (stream : ℕ) → Option Note
note_in b s = note_by (is_held (row_of b s)) (note_of b s)

abbrev pub note_at : Option BookState → (stream : ℕ) → Option Note
note_at None s = None
note_at (Some b) s = note_in b s

-- Of each stream, whether its note is in hand.
unfoldable pub in_hand : Option BookState → List Bool
in_hand o = map (λ s. is_some (note_at o s)) (range_with_len 0 128)
