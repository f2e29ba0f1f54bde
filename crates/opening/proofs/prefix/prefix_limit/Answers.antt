use Rattle.std.proofs.Common.{◌≡◌, rules, arith}
use Rattle.opening.proofs.Prefixes.{limit_by_view}
use Rattle.opening.proofs.prefix.prefix_limit.Goals as goal

pub returns : goal.returns
returns g c =
    let k : c.from.result ≡ g.L.Level.log = omega (arith, c.log_width.ensures, c.requires) in
    rw (← k) (limit_by_view _ _ _ _ (search rules))
