use Rattle.std.proofs.Common.{◌≡◌, ap, ◌∙◌, rules}
use Rattle.std.specs.Option.{option_map}
use Rattle.scripting.specs.Numerals.{numeral}
use Rattle.scripting.specs.Readings.{one_in}
use Rattle.scripting.proofs.Reading.{hit, miss, made}
use Rattle.ecqf_port.specs.declared.script.Command.TheVariants.{Book, Placer, Filler}
use Rattle.ecqf_port.specs.Kinds.{placer_kind_in}
use Rattle.ecqf_port.specs.Script.{command_in, placer_in}
use Rattle.ecqf_port.proofs.script.CommandFromLine.from_line.Goals as goal

pub returns-then-is : goal.returns-then-is
unfolding command_in one_in placer_in
returns-then-is c =
    hit _ _ _ _ c.if-is.ensures c.read_rack.ensures

pub returns-then-is-2 : goal.returns-then-is-2
unfolding command_in one_in placer_in
returns-then-is-2 c =
    let m : c.map.result ≡ option_map Placer c.last.result = search rules in
    miss _ _ _ _ c.if-is.ensures (hit _ _ _ _ c.if-is-2.ensures (m ∙ ap (option_map Placer) c.last.ensures ∙ made placer_kind_in Placer _))

pub returns-then-is-3 : goal.returns-then-is-3
unfolding command_in one_in placer_in
returns-then-is-3 c =
    miss _ _ _ _ c.if-is.ensures (miss _ _ _ _ c.if-is-2.ensures (hit _ _ _ _ c.if-is-3.ensures c.read_frame.ensures))

pub returns-then-is-4 : goal.returns-then-is-4
unfolding command_in one_in placer_in
returns-then-is-4 c =
    let m : c.map-then-is-4.result ≡ option_map Filler c.last-then-is-4.result = search rules in
    miss _ _ _ _ c.if-is.ensures (miss _ _ _ _ c.if-is-2.ensures (miss _ _ _ _ c.if-is-3.ensures (hit _ _ _ _ c.if-is-4.ensures (m ∙ ap (option_map Filler) c.last-then-is-4.ensures ∙ made (numeral 65535) Filler _))))

pub returns-then-is-5 : goal.returns-then-is-5
unfolding command_in one_in placer_in
returns-then-is-5 c =
    miss _ _ _ _ c.if-is.ensures (miss _ _ _ _ c.if-is-2.ensures (miss _ _ _ _ c.if-is-3.ensures (miss _ _ _ _ c.if-is-4.ensures (hit _ _ _ _ c.if-is-5.ensures c.read_run.ensures))))

pub returns-else-is-5 : goal.returns-else-is-5
unfolding command_in
returns-else-is-5 c =
    let m : c.map-else-is-5.result ≡ option_map Book c.from_line.result = search rules in
    miss _ _ _ _ c.if-is.ensures (miss _ _ _ _ c.if-is-2.ensures (miss _ _ _ _ c.if-is-3.ensures (miss _ _ _ _ c.if-is-4.ensures (miss _ _ _ _ c.if-is-5.ensures (m ∙ ap (option_map Book) c.from_line.ensures)))))
