use Rattle.std.proofs.Common.{ℕ, List, map, subst, inr, lit<, Bor}
use Rattle.std.proofs.lemmas.Result.{err_from_is_err_and}
use Rattle.explain_input.specs.declared.key.Key.TheVariants as key
use Rattle.problem.specs.Reading.{BadAmong}
use Rattle.problem.proofs.Sizes.{few_bytes}
use Rattle.problem.proofs.reading.read_problem.Goals as goal

pub returns-in_err-bits : goal.returns-in_err-bits
returns-in_err-bits g c =
    let p = err_from_is_err_and c.from_residual.result c.from_residual.ensures.1 in
    rw (p.1, p.2) (inr (key.Bits, (0, lit< tt, c.in_err-bits.ensures)))

pub returns-in_err-point : goal.returns-in_err-point
returns-in_err-point g c =
    let p = err_from_is_err_and c.from_residual-in_err-point.result c.from_residual-in_err-point.ensures.1 in
    rw (p.1, p.2) (inr (key.Point, (0, lit< tt, c.in_err-point.ensures)))

pub returns-in_err-closings : goal.returns-in_err-closings
returns-in_err-closings g c =
    let p = err_from_is_err_and c.from_residual-in_err-closings.result c.from_residual-in_err-closings.ensures.1 in
    rw (p.1, p.2) (inr (
      key.Closing,
      subst (λ (l : List (Bor (List ℕ))). BadAmong g.L.Level.log key.Closing (map (λ x. x.now) l) c.in_err-closings.field-0.0)
          c.as_slice.ensures.value c.in_err-closings.ensures,
    ))

pub invariant_of-result : goal.invariant_of-result
invariant_of-result g c = record { few = few_bytes g.L.Level.log _ c.in_ok-bits.ensures.1 }
