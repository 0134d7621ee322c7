-- The commands of the program: those on a book, and those on a port.
use Rattle.std.specs.Prelude.{ℕ, cond, List, Some, None, codes, Option}
use Rattle.std.specs.Str.{bytes_eq}
use Rattle.std.specs.Option.{option_map}
use Rattle.loads.specs.Marked.{mark_of}
use Rattle.scripting.specs.Words.{first_word}
use Rattle.scripting.specs.Readings.{u8, u16, u32, u64, reading, number, is_empty, ended, one_in}
use Rattle.scripting.specs.Script as book
use Rattle.ecqf_port.specs.declared.script.Command.{Command}
use Rattle.ecqf_port.specs.declared.script.Command.TheVariants.{Book, Rack, Placer, Frame, Filler, Run}
use Rattle.ecqf_port.specs.Kinds.{rack_kind_in, placer_kind_in}

-- The numbers of each command.
unfoldable pub rack_in : List ℕ → Option Command
rack_in bs = reading rack_kind_in bs (λ kind r. number u32 r (λ bins r. number u32 r (λ depth r. number u32 r (λ total r.
    ended r (Rack (record { kind = kind; numbers = record { bins = bins; depth = depth; total = total } }))))))

unfoldable pub placer_in : List ℕ → Option Command
placer_in bs = reading placer_kind_in bs (λ kind r. ended r (Placer kind))

unfoldable pub frame_in : List ℕ → Option Command
frame_in bs = number u8 bs (λ input r. number u64 r (λ stamp r. number u8 r (λ stream r. number u16 r (λ length r. number u32 r (λ buffer r.
    ended r (Frame input stamp (mark_of stream length buffer)))))))

-- The number of places may be left out.
abbrev pub places_in : (until : ℕ) → List ℕ → Option Command
places_in until bs = cond (is_empty (first_word bs)) (Some (Run until None)) (number u32 bs (λ places r. ended r (Run until (Some places))))

unfoldable pub run_in : List ℕ → Option Command
run_in bs = number u64 bs places_in

-- The command that a first word names, with its numbers from what follows.
unfoldable pub command_in : (word rest : List ℕ) → Option Command
command_in word rest =
    cond (bytes_eq word (codes "rack")) (rack_in rest)
    (cond (bytes_eq word (codes "placer")) (placer_in rest)
    (cond (bytes_eq word (codes "frame")) (frame_in rest)
    (cond (bytes_eq word (codes "filler")) (one_in u16 Filler rest)
    (cond (bytes_eq word (codes "run")) (run_in rest)
    (option_map Book (book.command_in word rest))))))
