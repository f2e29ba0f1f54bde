use Rattle.std.proofs.Common.{◌≡◌, ◌^◌, ◌-◌, ◌/◌, ◌%◌, ◌<◌, ◌++◌, false, [], ◌∷◌, sym, ap, ◌∙◌, get_or, take, rules}
use Rattle.std.specs.Fmt.{HasWritten, padded_integral, format_spec, digits}
use Rattle.std.proofs.lemmas.Grind.{put_two}
use Rattle.std.proofs.lemmas.Fmt.{hex_byte}
use Rattle.element_text.specs.Hex.{hex, digit_code}
use Rattle.element_text.proofs.Hexes.{hex_more}
use Rattle.element_text.proofs.hex.HexDisplay.fmt.Goals as goal

pub loop-byte-init : goal.loop-byte-init
unfolding hex
loop-byte-init g c = search rules

pub loop-byte-preserved : goal.loop-byte-preserved
loop-byte-preserved g c p =
    let xs = c.args.self.now.0.now in
    let i = c.loop-byte.byte-index in
    let b = get_or xs i 0 in
    let small : b < 256 = search rules in
    let w : HasWritten g.W.Write.write_str_gives c.loop-byte.f (padded_integral (format_spec 32 0 4 2 (2 ^ 64 - 1)) false [] (digits 16 false b)) c.write.new.self = search rules in
    let pair : padded_integral (format_spec 32 0 4 2 (2 ^ 64 - 1)) false [] (digits 16 false b) ≡ digit_code (b / 16) ∷ digit_code (b % 16) ∷ [] = hex_byte false b small in
    put_two _ _ _ _ _ _ _ (c.loop-byte.invariant p) w (ap (λ t. hex (take i xs) ++ t) pair ∙ sym (hex_more xs i c.loop-byte-test.true))
