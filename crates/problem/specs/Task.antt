-- What an input asks to be explained, by what its elements mean.
use Rattle.std.specs.Prelude.{ℕ, List, map, vec_items, Option}
use Rattle.std.specs.Option.{option_map}
use Rattle.level.specs.Element.{Element}
use Rattle.multilinear.specs.Equality.{Point}
use Rattle.ring_switch.specs.Opening.{View, Opening}
use Rattle.problem.specs.declared.problem.Problem.{Problem}

-- what is to be explained
pub record Task (k : ℕ) : Type 0 where
  pub bits : List ℕ
  pub point : Point k
  pub view : View
  pub batching : Option (Point k)
  pub challenge : Option (Element k)
  pub closings : List (Point k)

-- the opening that is asked for
abbrev pub asked : {k : ℕ} → Task k → Opening k
asked t = record { point = t.point; view = t.view }

abbrev pub task_of : {X : Type 0} {k : ℕ} → (X → Element k) → Problem X → Task k
task_of means p = record {
  bits = vec_items p.bits;
  point = map means (vec_items p.point);
  view = p.view;
  batching = option_map (λ v. map means (vec_items v)) p.batching;
  challenge = option_map means p.challenge;
  closings = map (λ v. map means (vec_items v)) (vec_items p.closings);
}
