use Rattle.std.proofs.Common.{◌≡◌, ◌++◌, string_bytes, ◌∙◌, refl, subst, rules}
use Rattle.std.proofs.lemmas.Fn.{answers_by}
use denote.Param.Always.{mut_by}
use Rattle.report_lines.specs.Closings.{Closes, closed_text}
use Rattle.report_lines.specs.Report.{Reported}
use Rattle.reducing.specs.Held.{HoldsBatching, batching_held}
use Rattle.reducing.proofs.lines.closing_lines.Goals as goal

pub closing_lines-requires : goal.closing_lines-requires
closing_lines-requires g c =
    let m = g.L.Level in
    mut_by _ (λ f. HoldsBatching m f.0.now f.1.now) (λ f a i. search (rules, i)) (λ f a r f' i called.
    let holds : HoldsBatching m f'.0.now f'.1.now = search (rules, called.met) in holds) _ c.requires

pub returns : goal.returns
returns g c =
    let m = g.L.Level in
    let b = batching_held m c.args.opened.now c.args.memory.now in
    subst (λ vs. Reported c.closing_lines.result (string_bytes c.closing_lines.new.out) (string_bytes c.args.out.now ++ closed_text m b vs)) c.as_slice.ensures.value
    (c.closing_lines.ensures b (answers_by _ _ (λ f. batching_held m f.0.now f.1.now ≡ b) (λ f a r f' called i.
    let closes : Closes m.means m.arithmetic (batching_held m f.0.now f.1.now) a.0.now r = search (rules, called.met) in
    let same : batching_held m f'.0.now f'.1.now ≡ batching_held m f.0.now f.1.now = search (rules, called.met) in
    (subst (λ q. Closes m.means m.arithmetic q a.0.now r) i closes, same ∙ i)) _ refl))
