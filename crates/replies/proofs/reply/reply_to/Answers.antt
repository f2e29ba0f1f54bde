use Rattle.std.proofs.Common.{string_bytes, ap, ◌∙◌}
use Rattle.std.specs.declared.alloc.Global.{Global}
use Rattle.doubling.specs.Doubled.{tower}
use Rattle.level_name.specs.declared.LevelName.TheVariants.{TowerByte, Tower16, Tower32, Tower64, PolynomialByte}
use Rattle.level_name.specs.Names.{named, letter_of}
use Rattle.level_name.proofs.Letters.{named_letter}
use Rattle.explain_input.specs.Inputs.{parts_of}
use Rattle.report_lines.proofs.Answering.{answered}
use Rattle.replies.proofs.reply.reply_to.Goals as goal

pub returns-in-TowerByte : goal.returns-in-TowerByte
unfolding tower
returns-in-TowerByte g c =
    answered (string_bytes {Z = Global}) (parts_of c.args.input.now) TowerByte (ap (λ l. named (letter_of l)) c.in-TowerByte.is ∙ named_letter TowerByte) c.reply_at.result c.reply_at.ensures

pub returns-in-Tower16 : goal.returns-in-Tower16
unfolding tower
returns-in-Tower16 g c =
    answered (string_bytes {Z = Global}) (parts_of c.args.input.now) Tower16 (ap (λ l. named (letter_of l)) c.in-Tower16.is ∙ named_letter Tower16) c.reply_at-in-Tower16.result c.reply_at-in-Tower16.ensures

pub returns-in-Tower32 : goal.returns-in-Tower32
unfolding tower
returns-in-Tower32 g c =
    answered (string_bytes {Z = Global}) (parts_of c.args.input.now) Tower32 (ap (λ l. named (letter_of l)) c.in-Tower32.is ∙ named_letter Tower32) c.reply_at-in-Tower32.result c.reply_at-in-Tower32.ensures

pub returns-in-Tower64 : goal.returns-in-Tower64
unfolding tower
returns-in-Tower64 g c =
    answered (string_bytes {Z = Global}) (parts_of c.args.input.now) Tower64 (ap (λ l. named (letter_of l)) c.in-Tower64.is ∙ named_letter Tower64) c.reply_at-in-Tower64.result c.reply_at-in-Tower64.ensures

pub returns-in-PolynomialByte : goal.returns-in-PolynomialByte
unfolding tower
returns-in-PolynomialByte g c =
    answered (string_bytes {Z = Global}) (parts_of c.args.input.now) PolynomialByte (ap (λ l. named (letter_of l)) c.in-PolynomialByte.is ∙ named_letter PolynomialByte) c.reply_at-in-PolynomialByte.result c.reply_at-in-PolynomialByte.ensures
