use Rattle.reduction.proofs.Values.{incoming_value, successor_value, initial_value, weights_by_point}
use Rattle.reduction.proofs.laws.answers_stand.Goals as goal

pub returns : goal.returns
returns g c =
    let m = g.L.Level in
    let laws = g.met.L.Level.ring in
    record {
      incoming_is = incoming_value m laws;
      successor_is = successor_value m laws;
      initial_is = initial_value m laws;
      weights_are = weights_by_point m;
    }
