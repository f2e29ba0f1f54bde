use Rattle.std.proofs.Common.{◌<◌, length, Some, string_bytes, ap, ◌∙◌, rules}
use Rattle.std.specs.declared.alloc.Global.{Global}
use Rattle.doubling.specs.Doubled.{tower}
use Rattle.level_name.specs.declared.LevelName.TheVariants.{Tower16, Tower32, Tower64}
use Rattle.product_line.proofs.Answering.{answered, first_and_rest}
use Rattle.product_line.proofs.letter.product_line.Goals as goal

pub returns-in-Tower16 : goal.returns-in-Tower16
unfolding tower
returns-in-Tower16 c =
    let some : 0 < length c.args.line.now = search rules in
    answered c.args.line.now _ _ Tower16 (first_and_rest c.args.line.now _ some c.from.ensures) (c.in_ok-try_from.ensures ∙ ap Some c.in-Tower16.is)
    (string_bytes {Z = Global}) c.product-in-Tower16.result c.product-in-Tower16.ensures

pub returns-in-Tower32 : goal.returns-in-Tower32
unfolding tower
returns-in-Tower32 c =
    let some : 0 < length c.args.line.now = search rules in
    answered c.args.line.now _ _ Tower32 (first_and_rest c.args.line.now _ some c.from.ensures) (c.in_ok-try_from.ensures ∙ ap Some c.in-Tower32.is)
    (string_bytes {Z = Global}) c.product-in-Tower32.result c.product-in-Tower32.ensures

pub returns-in-Tower64 : goal.returns-in-Tower64
unfolding tower
returns-in-Tower64 c =
    let some : 0 < length c.args.line.now = search rules in
    answered c.args.line.now _ _ Tower64 (first_and_rest c.args.line.now _ some c.from.ensures) (c.in_ok-try_from.ensures ∙ ap Some c.in-Tower64.is)
    (string_bytes {Z = Global}) c.product-in-Tower64.result c.product-in-Tower64.ensures
