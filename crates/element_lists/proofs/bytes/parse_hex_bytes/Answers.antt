use Rattle.std.proofs.Common.{◌+◌, ◌*◌, ◌<◌, length, vec_items, arith, rules}
use Rattle.std.proofs.lemmas.Result.{err_from_is_err_and, MatchResult-at_ok, MatchResult-at_err}
use Rattle.element_lists.proofs.Hexadecimal.{front_none, front_more, read_byte}
use Rattle.element_lists.proofs.bytes.parse_hex_bytes.Goals as goal

pub loop-j-init : goal.loop-j-init
loop-j-init c = front_none c.args.text.now (vec_items c.new-bytes.result) c.new-bytes.ensures.items

pub returns-in_err-byte : goal.returns-in_err-byte
returns-in_err-byte c =
    let p = err_from_is_err_and c.from_residual.result c.from_residual.ensures.1 in
    rw (p.1, p.2) (MatchResult-at_err _ _ _ c.in_err-byte.was
    (read_byte c.args.text.now (vec_items c.loop-j.bytes) c.loop-j.j (omega arith) c.loop-j.invariant c.parse_byte.result c.map_err.result
    c.parse_byte.ensures c.map_err.ensures.cases (λ fault z made. search rules)))

pub loop-j-preserved : goal.loop-j-preserved
loop-j-preserved c =
    let small : c.in_ok-byte.byte < 256 = search rules in
    let text = c.args.text.now in
    let bytes = vec_items c.loop-j.bytes in
    let j = c.loop-j.j in
    let inside : 2 * j + 1 < length text = omega arith in
    front_more text bytes _ j _ inside small c.loop-j.invariant
    (MatchResult-at_ok _ _ _ c.in_ok-byte.was
    (read_byte text bytes j inside c.loop-j.invariant c.parse_byte.result c.map_err.result c.parse_byte.ensures c.map_err.ensures.cases (λ fault z made. search rules)))
    c.in_ok-push.ensures.items
