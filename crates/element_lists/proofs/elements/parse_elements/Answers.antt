use Rattle.std.proofs.Common.{◌+◌, ◌*◌, ◌<◌, List, map, length, vec_items, sym, ap, ◌∙◌, subst, arith, rules}
use Rattle.std.proofs.lemmas.List.{nil_from_length, map_push}
use Rattle.std.proofs.lemmas.Result.{err_from_is_err_and}
use Rattle.std.proofs.lemmas.Bool.{eqb-true}
use Rattle.level.specs.Element.{Element}
use Rattle.element_lists.specs.Elements.{ElementsOf}
use Rattle.element_lists.proofs.Joining.{Front, front_none, front_more, front_all, nothing, right_length, room, bad_text}
use Rattle.element_lists.proofs.elements.parse_elements.Goals as goal

pub returns-then-is_empty : goal.returns-then-is_empty
returns-then-is_empty g c =
    let text = c.args.text.now in
    subst (λ (xs : List (Element g.L.Level.log)). ElementsOf text xs) (sym (ap (map g.L.Level.means) c.new-elements.ensures.items))
    (nothing text (nil_from_length text (eqb-true (length text) 0 (sym c.if-is_empty.ensures))))

pub returns-then-text-digits : goal.returns-then-text-digits
returns-then-text-digits g c =
    let n = 2 * c.byte_count-digits.result in
    let some : 0 < length c.args.text.now = search rules in (
      ap (λ m. 2 * m) c.byte_count-digits.ensures.value,
      λ ts a e. c.if-text-digits.true (right_length n c.args.text.now ts a some e),
    )

pub loop-i-init : goal.loop-i-init
loop-i-init g c =
    subst (λ (xs : List (Element g.L.Level.log)). Front (2 * c.byte_count-digits.result) c.args.text.now xs 0) (sym (ap (map g.L.Level.means) c.new-elements.ensures.items))
    (front_none (2 * c.byte_count-digits.result) c.args.text.now)

pub returns-in_err-element_at : goal.returns-in_err-element_at
returns-in_err-element_at g c =
    let p = err_from_is_err_and c.from_residual.result c.from_residual.ensures.1 in
    rw (p.1, p.2) (bad_text g.L.Level.log c.args.text.now c.loop-i.i _ c.in_err-element_at.ensures)

pub loop-i-preserved : goal.loop-i-preserved
loop-i-preserved g c =
    let n = 2 * c.byte_count-digits.result in
    let text = c.args.text.now in
    let i = c.loop-i.i in
    let means = g.L.Level.means in
    let items = vec_items c.loop-i.elements in
    let e = c.in_ok-element_at.ensures in
    subst (λ (xs : List (Element g.L.Level.log)). Front n text xs (i + 1)) (sym (ap (map means) c.in_ok-push.ensures.items ∙ map_push means items c.in_ok-element_at.field-0))
    (front_more n text (map means items) i (means c.in_ok-element_at.field-0) (room n (length text) i c.if-text-digits.false c.loop-i-test.true) e.1 e.0 c.loop-i.invariant)

pub returns : goal.returns
returns g c = front_all (2 * c.byte_count-digits.result) c.args.text.now (map g.L.Level.means (vec_items c.loop-i.elements)) c.loop-i.i c.if-text-digits.false (omega arith) c.loop-i.invariant
