-- The values of an opening.
use Rattle.std.specs.Prelude.{ℕ, ◌-◌, Option}
use Rattle.std.specs.Option.{option_map}
use Rattle.level.specs.Element.{Element}
use Rattle.level.specs.Laws.{Arithmetic}
use Rattle.ring_switch.specs.Opening as opening
use Rattle.ring_switch.specs.ClaimLaws.{value, value_one_row_on}
use Rattle.refusals.specs.Refusals.{Refusal}
use Rattle.refusals.specs.Steps as step
use Rattle.report_lines.specs.declared.values.OpeningValues.{OpeningValues}

-- opening 2^v packed elements at a point of n coordinates
abbrev pub open_refusal : ℕ → ℕ → ℕ → opening.View → Option Refusal
open_refusal k v n view = step.first (step.opening k n view) (step.width (n - k) v)

pub record Values (k : ℕ) : Type 0 where
  -- the multilinear value of the bits at the point
  pub incoming : Element k
  -- that of the bits one row on, where there is a view
  pub successor : Option (Element k)
  -- how many leading coordinates select the slot, and its address
  pub prefix : opening.Prefix

-- the values of an opening of a table of bits
abbrev pub values_at : {k : ℕ} → Arithmetic k → opening.Opening k → (ℕ → ℕ) → Values k
values_at A o bits = record {
  incoming = value A o bits;
  successor = option_map (λ q. value_one_row_on A o bits) o.view;
  prefix = opening.prefix A o;
}

abbrev pub values_of : {X : Type 0} {k : ℕ} → (X → Element k) → OpeningValues X → Values k
values_of means o = record {
  incoming = means o.incoming;
  successor = option_map means o.successor;
  prefix = record { count = o.prefix.0; address = o.prefix.1 };
}
