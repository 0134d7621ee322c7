-- The commands on a book.
use Rattle.std.specs.Prelude.{ℕ, cond, List, None, codes, Option}
use Rattle.std.specs.Str.{bytes_eq}
use Rattle.scripting.specs.declared.script.Call.TheVariants.{Hold, Confirm, Drop, Release}
use Rattle.scripting.specs.declared.script.Command.{Command}
use Rattle.scripting.specs.declared.script.Command.TheVariants as command
use Rattle.scripting.specs.Readings.{u8, u16, u32, u64, number, ended, one_in}

-- The numbers of each command.
unfoldable pub bins_in : List ℕ → Option Command
bins_in bs = number u32 bs (λ delay r. number u32 r (λ cycle r. number u32 r (λ phase r. ended r (command.Bins delay cycle phase))))

unfoldable pub class_in : List ℕ → Option Command
class_in bs = number u32 bs (λ cycle r. number u8 r (λ bins r. ended r (command.AddClass (record { cycle = cycle; bins = bins }))))

unfoldable pub set_in : List ℕ → Option Command
set_in bs = number u32 bs (λ delay r. number u32 r (λ dead r. ended r (command.Set delay dead)))

unfoldable pub hold_in : List ℕ → Option Command
hold_in bs = number u8 bs (λ stream r. number u8 r (λ input r. number u8 r (λ class r. number u16 r (λ longest r. number u32 r (λ quota r.
    ended r (command.Call (Hold stream (record { input = input; class = class; longest = longest; quota = quota }))))))))

-- The command that a first word names, with its numbers from what follows.
unfoldable pub command_in : (word rest : List ℕ) → Option Command
command_in word rest =
    cond (bytes_eq word (codes "bins")) (bins_in rest)
    (cond (bytes_eq word (codes "class")) (class_in rest)
    (cond (bytes_eq word (codes "input")) (one_in u32 command.AddInput rest)
    (cond (bytes_eq word (codes "set")) (set_in rest)
    (cond (bytes_eq word (codes "hold")) (hold_in rest)
    (cond (bytes_eq word (codes "confirm")) (one_in u8 (λ s. command.Call (Confirm s)) rest)
    (cond (bytes_eq word (codes "drop")) (one_in u8 (λ s. command.Call (Drop s)) rest)
    (cond (bytes_eq word (codes "release")) (one_in u8 (λ s. command.Call (Release s)) rest)
    (cond (bytes_eq word (codes "advance")) (one_in u64 command.Advance rest)
    (cond (bytes_eq word (codes "show")) (ended rest command.Show)
    None)))))))))
