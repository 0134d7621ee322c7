use Rattle.std.proofs.Common.{◌≡◌, refl, ap, ◌∙◌, rules}
use Rattle.std.specs.Option.{option_map}
use Rattle.scripting.specs.declared.script.Call.TheVariants.{Confirm, Drop, Release}
use Rattle.scripting.specs.declared.script.Command.TheVariants.{AddInput, Call, Advance}
use Rattle.scripting.specs.Numerals.{numeral}
use Rattle.scripting.specs.Readings.{one_in}
use Rattle.scripting.specs.Script.{command_in}
use Rattle.scripting.proofs.Reading.{hit, miss, made}
use Rattle.scripting.proofs.script.CommandFromLine.from_line.Goals as goal

pub returns-then-is : goal.returns-then-is
unfolding command_in one_in
returns-then-is c =
    hit _ _ _ _ c.if-is.ensures c.read_bins.ensures

pub returns-then-is-2 : goal.returns-then-is-2
unfolding command_in one_in
returns-then-is-2 c =
    miss _ _ _ _ c.if-is.ensures (hit _ _ _ _ c.if-is-2.ensures c.read_class.ensures)

pub returns-then-is-3 : goal.returns-then-is-3
unfolding command_in one_in
returns-then-is-3 c =
    let m : c.map.result ≡ option_map AddInput c.last.result = search rules in
    miss _ _ _ _ c.if-is.ensures (miss _ _ _ _ c.if-is-2.ensures (hit _ _ _ _ c.if-is-3.ensures (m ∙ ap (option_map AddInput) c.last.ensures ∙ made (numeral 4294967295) AddInput _)))

pub returns-then-is-4 : goal.returns-then-is-4
unfolding command_in one_in
returns-then-is-4 c =
    miss _ _ _ _ c.if-is.ensures (miss _ _ _ _ c.if-is-2.ensures (miss _ _ _ _ c.if-is-3.ensures (hit _ _ _ _ c.if-is-4.ensures c.read_set.ensures)))

pub returns-then-is-5 : goal.returns-then-is-5
unfolding command_in one_in
returns-then-is-5 c =
    miss _ _ _ _ c.if-is.ensures (miss _ _ _ _ c.if-is-2.ensures (miss _ _ _ _ c.if-is-3.ensures (miss _ _ _ _ c.if-is-4.ensures (hit _ _ _ _ c.if-is-5.ensures c.read_hold.ensures))))

pub returns-then-is-6 : goal.returns-then-is-6
unfolding command_in one_in
returns-then-is-6 c =
    let m : c.map-then-is-6.result ≡ option_map (λ s. Call (Confirm s)) c.last-then-is-6.result = search rules in
    miss _ _ _ _ c.if-is.ensures (miss _ _ _ _ c.if-is-2.ensures (miss _ _ _ _ c.if-is-3.ensures (miss _ _ _ _ c.if-is-4.ensures (miss _ _ _ _ c.if-is-5.ensures (hit _ _ _ _ c.if-is-6.ensures (m ∙ ap (option_map (λ s. Call (Confirm s))) c.last-then-is-6.ensures ∙ made (numeral 255) (λ s. Call (Confirm s)) _))))))

pub returns-then-is-7 : goal.returns-then-is-7
unfolding command_in one_in
returns-then-is-7 c =
    let m : c.map-then-is-7.result ≡ option_map (λ s. Call (Drop s)) c.last-then-is-7.result = search rules in
    miss _ _ _ _ c.if-is.ensures (miss _ _ _ _ c.if-is-2.ensures (miss _ _ _ _ c.if-is-3.ensures (miss _ _ _ _ c.if-is-4.ensures (miss _ _ _ _ c.if-is-5.ensures (miss _ _ _ _ c.if-is-6.ensures (hit _ _ _ _ c.if-is-7.ensures (m ∙ ap (option_map (λ s. Call (Drop s))) c.last-then-is-7.ensures ∙ made (numeral 255) (λ s. Call (Drop s)) _)))))))

pub returns-then-is-8 : goal.returns-then-is-8
unfolding command_in one_in
returns-then-is-8 c =
    let m : c.map-then-is-8.result ≡ option_map (λ s. Call (Release s)) c.last-then-is-8.result = search rules in
    miss _ _ _ _ c.if-is.ensures (miss _ _ _ _ c.if-is-2.ensures (miss _ _ _ _ c.if-is-3.ensures (miss _ _ _ _ c.if-is-4.ensures (miss _ _ _ _ c.if-is-5.ensures (miss _ _ _ _ c.if-is-6.ensures (miss _ _ _ _ c.if-is-7.ensures (hit _ _ _ _ c.if-is-8.ensures (m ∙ ap (option_map (λ s. Call (Release s))) c.last-then-is-8.ensures ∙ made (numeral 255) (λ s. Call (Release s)) _))))))))

pub returns-then-is-9 : goal.returns-then-is-9
unfolding command_in one_in
returns-then-is-9 c =
    let m : c.map-then-is-9.result ≡ option_map Advance c.last-then-is-9.result = search rules in
    miss _ _ _ _ c.if-is.ensures (miss _ _ _ _ c.if-is-2.ensures (miss _ _ _ _ c.if-is-3.ensures (miss _ _ _ _ c.if-is-4.ensures (miss _ _ _ _ c.if-is-5.ensures (miss _ _ _ _ c.if-is-6.ensures (miss _ _ _ _ c.if-is-7.ensures (miss _ _ _ _ c.if-is-8.ensures (hit _ _ _ _ c.if-is-9.ensures (m ∙ ap (option_map Advance) c.last-then-is-9.ensures ∙ made (numeral 18446744073709551615) Advance _)))))))))

pub returns-then-is-10 : goal.returns-then-is-10
unfolding command_in one_in
returns-then-is-10 c =
    miss _ _ _ _ c.if-is.ensures (miss _ _ _ _ c.if-is-2.ensures (miss _ _ _ _ c.if-is-3.ensures (miss _ _ _ _ c.if-is-4.ensures (miss _ _ _ _ c.if-is-5.ensures (miss _ _ _ _ c.if-is-6.ensures (miss _ _ _ _ c.if-is-7.ensures (miss _ _ _ _ c.if-is-8.ensures (miss _ _ _ _ c.if-is-9.ensures (hit _ _ _ _ c.if-is-10.ensures c.end.ensures)))))))))

pub returns-else-is-10 : goal.returns-else-is-10
unfolding command_in one_in
returns-else-is-10 c =
    miss _ _ _ _ c.if-is.ensures (miss _ _ _ _ c.if-is-2.ensures (miss _ _ _ _ c.if-is-3.ensures (miss _ _ _ _ c.if-is-4.ensures (miss _ _ _ _ c.if-is-5.ensures (miss _ _ _ _ c.if-is-6.ensures (miss _ _ _ _ c.if-is-7.ensures (miss _ _ _ _ c.if-is-8.ensures (miss _ _ _ _ c.if-is-9.ensures (miss _ _ _ _ c.if-is-10.ensures refl)))))))))
