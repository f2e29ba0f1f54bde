use Rattle.std.proofs.Common.{◌<◌, arith, rules}
use Rattle.std.proofs.lemmas.Result.{err_from_is_err_and}
use Rattle.element_text.proofs.Parsing.{zeroes, parsed_more, broken, all_read}
use Rattle.element_text.proofs.element.parse_bytes.Goals as goal

pub loop-j-init : goal.loop-j-init
loop-j-init c = zeroes c.args.count c.args.text.now c.requires.1

pub returns-in_err-byte : goal.returns-in_err-byte
returns-in_err-byte c =
    let p = err_from_is_err_and c.from_residual.result c.from_residual.ensures.1 in
    let e = c.in_err-byte.ensures in
    rw (p.1, p.2) (omega (arith, e.0), broken c.args.count c.args.text.now c.loop-j.byte-items c.loop-j.j _ c.loop-j.invariant (omega arith) e.0 e.1 e.2 e.3)

pub loop-j-preserved : goal.loop-j-preserved
loop-j-preserved c =
    let small : c.in_ok-byte.field-0 < 256 = search rules in
    parsed_more c.args.count c.args.text.now c.loop-j.byte-items c.loop-j.j _ (omega arith) (omega arith) small c.loop-j.invariant c.in_ok-byte.ensures

pub returns : goal.returns
returns c = all_read c.args.count c.loop-j.j c.args.text.now c.loop-j.byte-items c.requires.1 (omega arith) c.loop-j.invariant
