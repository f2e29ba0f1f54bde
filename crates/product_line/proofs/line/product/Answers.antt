use Rattle.std.proofs.Common.{ℕ, ◌+◌, ◌*◌, take, drop, sym, ap, ◌∙◌, subst}
use Rattle.element_text.specs.Hex.{element_text}
use Rattle.product_line.specs.Lines.{Operands}
use Rattle.product_line.proofs.Shapes.{shaped_operands}
use Rattle.product_line.proofs.line.product.Goals as goal

pub returns : goal.returns
returns g c =
    let n = ap (λ (m : ℕ). 2 * m) c.byte_count-digits.ensures.value in
    let o = shaped_operands (2 * c.byte_count-digits.result) c.args.rest.now (sym c.if-not-has_shape.ensures) in
    let left = take (2 * c.byte_count-digits.result) (drop 1 c.args.rest.now) in
    let right = take (2 * c.byte_count-digits.result) (drop (2 * c.byte_count-digits.result + 2) c.args.rest.now) in
    record {
      left = left;
      right = right;
      x = _;
      y = _;
      operands = subst (λ (m : ℕ). Operands m c.args.rest.now left right) n o;
      left_writes = c.in_ok-x.ensures;
      right_writes = c.in_ok-y.ensures;
      answer_is = c.in_ok-element_text.ensures ∙ ap element_text c.mul.ensures;
    }
